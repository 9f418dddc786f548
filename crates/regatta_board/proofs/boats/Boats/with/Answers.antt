use Rattle.std.proofs.Common.{◌≡◌, ◌++◌, ◌∷◌, [], ◌∙◌, ap, sym, subst, length, false}
use Rattle.std.specs.List.{list_any}
use Rattle.std.specs.Map.{keys_of}
use Rattle.std.proofs.lemmas.List.{length-map}
use Rattle.indexmap.proofs.CallerLemmas.{insert_entry-new}
use Rattle.regatta_scores.specs.Journal.{same_sail}
use Rattle.regatta_board.specs.EntryList.{IsNumbered}
use Rattle.regatta_board.proofs.EntryList.{numbered_more, entries_cloned, no_number, listed}
use Rattle.regatta_board.proofs.boats.Boats.with.Goals as goal

added : (c : goal.In_ok-insert) → c.insert.new.self.entries ≡ c.self.inside.numbers.entries
    ++ (c.args.boat, c.next_number.result) ∷ []
added c =
    let es = c.self.inside.numbers.entries in
    let cloned : c.in_ok-numbers.numbers.entries ≡ es =
    entries_cloned (λ x y h. h) (λ x y h. h) es c.in_ok-numbers.numbers.entries
    c.in_ok-numbers.ensures.cases in
    let out : list_any (same_sail c.args.boat) (keys_of c.in_ok-numbers.numbers.entries) ≡ false =
    ap (λ entries. list_any (same_sail c.args.boat) (keys_of entries)) cloned
    ∙ ap (list_any (same_sail c.args.boat)) c.self.view_is ∙ c.requires.new in
    c.in_ok-insert.ensures.entries
    ∙ insert_entry-new same_sail c.in_ok-numbers.numbers c.args.boat c.next_number.result
    (no_number c.in_ok-numbers.numbers.entries c.args.boat out)
    ∙ ap (λ entries. entries ++ (c.args.boat, c.next_number.result) ∷ []) cloned

pub invariant_of-result : goal.invariant_of-result
invariant_of-result c =
    let es = c.self.inside.numbers.entries in
    let long : c.next_number.result ≡ length es = c.next_number.ensures ∙ ap length (sym c.self.view_is)
    ∙ length-map es (λ e. e.0) in
    subst IsNumbered (sym (added c))
    (numbered_more es c.args.boat c.next_number.result long c.self.invariant)

pub returns : goal.returns
returns c = listed c.self.inside.numbers.entries c.insert.new.self.entries c.args.boat c.next_number.result
    (added c) ∙ ap (λ boats. boats ++ c.args.boat ∷ []) c.self.view_is
