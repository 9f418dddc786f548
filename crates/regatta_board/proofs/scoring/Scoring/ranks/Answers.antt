use Rattle.std.proofs.Common.{◌≡◌, ◌∙◌, All, IsPermutation, List, ap, arith, length, map, refl, subst}
use Rattle.std.proofs.Common.{sym, take, ℕ}
use Rattle.std.specs.List.{range_with_len}
use Rattle.std.proofs.lemmas.List.{length-map}
use Rattle.regatta_scores.specs.declared.boats.RaceScore.{RaceScore}
use Rattle.regatta_scores.specs.Ranking.{place, places}
use Rattle.regatta_board.specs.RanksAfter.{rank_at}
use Rattle.regatta_board.specs.Scoring.{Scoring, columns_in}
use Rattle.regatta_board.specs.Table.{columns, in_order, lines, races}
use Rattle.regatta_board.proofs.Lines.{lines_long}
use Rattle.regatta_board.proofs.RowsOver.{first_columns, first_even, first_few, ranks_are}
use Rattle.regatta_board.proofs.scoring.Scoring.ranks.Goals as goal

pub push_columns-requires-clause-few : goal.push_columns-requires-clause-few
push_columns-requires-clause-few c =
    first_few c.args.kept.now.counts c.args.many c.races.result.now
    (c.races.ensures ∙ c.requires.scoring.races)

pub whole_lines-requires-clause-even : goal.whole_lines-requires-clause-even
whole_lines-requires-clause-even c =
    let rules = c.args.rules.now in
    let kept = c.args.kept.now in
    let cols : c.deref.result.now ≡ c.args.self.now.columns =
    c.deref.ensures.value ∙ ap (λ (s : Scoring). s.columns) c.self.view_is in
    let rs : c.races.result.now ≡ races kept.counts = c.races.ensures ∙ c.requires.scoring.races in
    let found = c.deref-2.ensures.0 ∙ c.push_columns.ensures
    ∙ (λ i. columns_in (cols i) (take c.args.many (rs i)))
    ∙ first_columns rules kept c.args.self.now.columns c.requires.scoring.columns c.args.many in
    subst (λ (cs : List (List RaceScore)). All (λ (one : List RaceScore). length one ≡ c.boats.result) cs)
    (sym found)
    (subst (λ (n : ℕ). All (λ (one : List RaceScore). length one ≡ n)
    (columns rules kept.sheets (take c.args.many (races kept.counts)))) (sym c.boats.ensures)
    (first_even rules kept c.requires.kept c.args.many))

pub of-requires : goal.of-requires
of-requires c =
    omega (
      arith,
      ap length (c.deref-3.ensures.value ∙ c.in_ok-lines.ensures.value),
      lines_long c.args.rules.now c.deref-2.result.now c.boats.result,
      c.boats.ensures,
      c.requires.kept.few,
    )

pub places-requires-clause-few : goal.places-requires-clause-few
places-requires-clause-few c =
    omega (
      arith,
      ap length (c.deref-4.ensures.value ∙ c.in_ok-lines.ensures.value),
      lines_long c.args.rules.now c.deref-2.result.now c.boats.result,
      c.boats.ensures,
      c.requires.kept.few,
    )

-- there is a line for each boat
many : (c : goal.After-as_slice) → length c.in_ok-lines.lines.items ≡ length c.entry_list.result.now
many c = ap length c.in_ok-lines.ensures.value
    ∙ lines_long c.args.rules.now c.deref-2.result.now c.boats.result ∙ c.boats.ensures
    ∙ ap length (sym c.entry_list.ensures)

pub sorted_ranks-requires-clause-ranking : goal.sorted_ranks-requires-clause-ranking
sorted_ranks-requires-clause-ranking c =
    subst (λ (n : ℕ). IsPermutation (range_with_len 0 n) c.order.result.now)
    (ap length c.deref-3.ensures.value ∙ many c)
    (subst (IsPermutation (range_with_len 0 (length c.deref-3.result.now))) (sym c.order.ensures)
    c.in_ok-ranking.ensures.each)

pub sorted_ranks-requires-clause-places : goal.sorted_ranks-requires-clause-places
sorted_ranks-requires-clause-places c =
    ap length (c.as_slice.ensures ∙ c.in_ok-places.ensures)
    ∙ length-map c.deref-4.result.now (place c.deref-4.result.now)
    ∙ ap length c.deref-4.ensures.value ∙ many c

pub returns : goal.returns
returns c =
    let rules = c.args.rules.now in
    let kept = c.args.kept.now in
    let cols : c.deref.result.now ≡ c.args.self.now.columns =
    c.deref.ensures.value ∙ ap (λ (s : Scoring). s.columns) c.self.view_is in
    let rs : c.races.result.now ≡ races kept.counts = c.races.ensures ∙ c.requires.scoring.races in
    let found = c.deref-2.ensures.0 ∙ c.push_columns.ensures
    ∙ (λ i. columns_in (cols i) (take c.args.many (rs i)))
    ∙ first_columns rules kept c.args.self.now.columns c.requires.scoring.columns c.args.many in
    let ls = c.in_ok-lines.lines.items in
    let made = c.in_ok-lines.ensures.value ∙ (λ i. lines rules (found i) (c.boats.ensures i)) in
    let boats : c.entry_list.result.now ≡ kept.sails = c.entry_list.ensures in
    let ps : c.as_slice.result.now ≡ places ls =
    c.as_slice.ensures ∙ c.in_ok-places.ensures ∙ ap places c.deref-4.ensures.value in
    c.in_ok-ranks.ensures
    ∙ (λ i. map (rank_at (boats i) (ps i))
    (in_order (boats i) (ps i) (range_with_len 0 (length (boats i)))))
    ∙ ranks_are rules kept.sails (columns rules kept.sheets (take c.args.many (races kept.counts)))
    ls (places ls) made refl
