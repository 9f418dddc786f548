use Rattle.std.proofs.Common.{rules, arith, sym, ◌∙◌, ap, ◌≡◌, ◌≤◌, drop, ℕ, ◌+◌, ◌-◌, length, List}
use Rattle.std.proofs.lemmas.List.{length-drop}
use Rattle.std.proofs.Math.ListN.{drop_of_length-le}
use Rattle.regatta_streams.specs.Tapes.{TapeParts}
use Rattle.regatta_streams.proofs.Pieces.{piece_at}
use Rattle.regatta_streams.proofs.tape.TapeSource.read.Goals as goal

pub returns-clause-is_read : goal.returns-clause-is_read
returns-clause-is_read c =
    let n : ℕ = c.next_len-n.result in
    let at : ℕ = c.self.inside.at in
    let xs : List ℕ = c.self.inside.input.items in
    let rest : c.args.self.now.rest ≡ drop at xs = sym
    (ap (λ (t : TapeParts). t.rest) c.self.view_is) in
    let from : at + n - at ≡ n = omega arith in
    let copied = rw (c.as_slice.ensures.value, from) at c.copy_from_slice.ensures.after in
    let len : length c.copy_from_slice.new.self ≡ n = search rules in record {
      bound = search rules;
      bytes = (
        rest ∙ piece_at at n xs _ c.copy_from_slice.new.self len copied,
        λ z room.
            let left : length c.args.self.now.rest ≡ length xs - at = ap length rest
            ∙ length-drop at xs in
            let end : length xs ≤ at + n = search rules in
            drop_of_length-le xs end,
      );
      keeps = search rules;
      well = search rules;
      failed = search rules;
      reads_well = search rules;
      read_failed = search rules;
    }
