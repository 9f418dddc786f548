use Rattle.std.proofs.Common.{ap, length, map, sym, ◌∙◌}
use Rattle.std.specs.Prelude.{zip}
use Rattle.std.proofs.lemmas.List.FromFn.{length-map-range_with_len}
use Rattle.regatta_scores.specs.Journal.{scored}
use Rattle.regatta_board.specs.RanksAfter.{ranks_after}
use Rattle.regatta_explain.specs.Explained.{ranks_after as after_of}
use Rattle.regatta_explain.specs.AfterRaces.{after_by}
use Rattle.regatta_explain.proofs.UpTo.{all_after}
use Rattle.regatta_explain.proofs.after_parts.all_ranks.Goals as goal

pub after_each-requires : goal.after_each-requires
after_each-requires c =
    let journal = c.args.board.now.entries in
    ap length c.requires
    ∙ sym (length-map-range_with_len (ranks_after c.args.board.now.rules journal) 1
    (length (scored journal)))
    ∙ ap length (sym (c.as_slice.ensures ∙ c.in_ok-ranks.ensures))

pub returns : goal.returns
returns c =
    let rules = c.args.board.now.rules in
    let journal = c.args.board.now.entries in
    c.new.ensures ∙ c.in_ok-all.ensures
    ∙ (λ i. map after_by (zip (c.requires i) ((c.as_slice.ensures ∙ c.in_ok-ranks.ensures) i)))
    ∙ all_after rules journal
    ∙ sym (ap (map (after_of rules journal)) c.requires)
