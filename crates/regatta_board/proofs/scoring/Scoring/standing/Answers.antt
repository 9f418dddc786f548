use Rattle.std.proofs.Common.{◌≡◌, ◌∙◌, ap, arith, refl, sym, subst, length, All}
use Rattle.std.proofs.Common.{IsPermutation}
use Rattle.std.specs.List.{range_with_len}
use Rattle.std.proofs.lemmas.List.{length-map}
use Rattle.regatta_scores.specs.Ranking.{BoatScores, place, places}
use Rattle.regatta_board.specs.Scoring.{Scoring, columns_in, lines_by}
use Rattle.regatta_board.specs.Table.{columns, races, rows_by}
use Rattle.regatta_board.proofs.Columns.{columns_few, races_few}
use Rattle.regatta_board.proofs.Lines.{rows_are}
use Rattle.regatta_board.proofs.ScoringFacts.{found_columns, found_even, lines_by_long, all_long}
use Rattle.regatta_board.proofs.scoring.Scoring.standing.Goals as goal

pub places-requires-clause-few : goal.places-requires-clause-few
places-requires-clause-few c =
    omega (
      arith,
      ap length (c.deref-3.ensures.value ∙ ap (λ (s : Scoring). s.lines) c.self.view_is),
      ap length c.requires.scoring.1.lines,
      lines_by_long c.requires.scoring.0 c.args.kept.now,
      c.requires.kept.few,
    )

-- ---- what the rows are made of

boats : (c : goal.After-as_slice-2) → c.entry_list.result.now ≡ c.args.kept.now.sails
boats c = c.entry_list.ensures

ls : (c : goal.After-as_slice-2) → c.deref-5.result.now ≡ c.args.self.now.lines
ls c = c.deref-5.ensures.value ∙ ap (λ (s : Scoring). s.lines) c.self.view_is

-- there is a line for each boat
many : (c : goal.After-as_slice-2) → length c.args.self.now.lines ≡ length c.entry_list.result.now
many c = ap length c.requires.scoring.1.lines
    ∙ lines_by_long c.requires.scoring.0 c.args.kept.now ∙ ap length (sym (boats c))

rs : (c : goal.After-as_slice-2) → c.deref-2.result.now ≡ races c.args.kept.now.counts
rs c = c.deref-2.ensures.value ∙ c.in_ok-races.ensures.items ∙ c.as_slice.ensures
    ∙ ap (λ (s : Scoring). s.races) c.self.view_is ∙ c.requires.scoring.1.races

each : (c : goal.After-as_slice-2) → c.deref-4.result.now
    ≡ columns_in c.args.self.now.columns c.deref-2.result.now
each c =
    let cols : c.deref.result.now ≡ c.args.self.now.columns =
    c.deref.ensures.value ∙ ap (λ (s : Scoring). s.columns) c.self.view_is in
    c.deref-4.ensures.0 ∙ c.push_columns.ensures
    ∙ (λ i. columns_in (cols i) c.deref-2.result.now)

found : (c : goal.After-as_slice-2) → c.deref-4.result.now
    ≡ columns c.requires.scoring.0 c.args.kept.now.sheets (races c.args.kept.now.counts)
found c =
    found_columns c.requires.scoring.0 c.args.kept.now c.requires.kept _
    c.requires.scoring.1.columns (rs c) (each c)

ps : (c : goal.After-as_slice-2) → c.as_slice-2.result.now ≡ places c.args.self.now.lines
ps c = c.as_slice-2.ensures ∙ c.in_ok-places.ensures
    ∙ ap places (c.deref-3.ensures.value ∙ ap (λ (s : Scoring). s.lines) c.self.view_is)

pub sorted_rows-requires-clause-ranking : goal.sorted_rows-requires-clause-ranking
sorted_rows-requires-clause-ranking c =
    let order : c.order.result.now ≡ c.args.self.now.ranking =
    c.order.ensures ∙ ap (λ (s : Scoring). s.ranking) c.self.view_is in
    subst (λ n. IsPermutation (range_with_len 0 n) c.order.result.now) (many c)
    (subst (IsPermutation (range_with_len 0 (length c.args.self.now.lines))) (sym order)
    c.requires.scoring.1.ranking.each)

pub sorted_rows-requires-clause-even : goal.sorted_rows-requires-clause-even
sorted_rows-requires-clause-even c =
    found_even c.requires.scoring.0 c.args.kept.now c.requires.kept _
    c.requires.scoring.1.columns (rs c) (each c) (length c.entry_list.result.now) (ap length (boats c))

pub sorted_rows-requires-clause-lines : goal.sorted_rows-requires-clause-lines
sorted_rows-requires-clause-lines c = ap length (ls c) ∙ many c

pub sorted_rows-requires-clause-long : goal.sorted_rows-requires-clause-long
sorted_rows-requires-clause-long c =
    let rules = c.requires.scoring.0 in
    subst (λ xs. All (λ (l : BoatScores). length l.points ≡ length c.deref-4.result.now) xs)
    (sym (ls c ∙ c.requires.scoring.1.lines))
    (subst (λ cs. All (λ (l : BoatScores). length l.points ≡ length cs)
    (lines_by rules c.args.kept.now)) (sym (found c))
    (all_long rules (columns rules c.args.kept.now.sheets (races c.args.kept.now.counts))
    (length c.args.kept.now.sails)))

pub sorted_rows-requires-clause-ranks : goal.sorted_rows-requires-clause-ranks
sorted_rows-requires-clause-ranks c =
    ap length (ps c) ∙ length-map c.args.self.now.lines (place c.args.self.now.lines) ∙ many c

pub sorted_rows-requires-clause-few : goal.sorted_rows-requires-clause-few
sorted_rows-requires-clause-few c =
    columns_few _ c.deref-2.result.now c.deref-4.result.now
    (c.deref-4.ensures.0 ∙ c.push_columns.ensures)
    (rw (rs c) (races_few c.args.kept.now.counts))

pub returns : goal.returns
returns c rules is =
    let cols : c.deref.result.now ≡ c.args.self.now.columns =
    c.deref.ensures.value ∙ ap (λ (s : Scoring). s.columns) c.self.view_is in
    let ls : c.deref-5.result.now ≡ c.args.self.now.lines =
    c.deref-5.ensures.value ∙ ap (λ (s : Scoring). s.lines) c.self.view_is in
    let ps : c.as_slice-2.result.now ≡ places c.args.self.now.lines =
    c.as_slice-2.ensures ∙ c.in_ok-places.ensures
    ∙ ap places (c.deref-3.ensures.value ∙ ap (λ (s : Scoring). s.lines) c.self.view_is) in
    let boats : c.entry_list.result.now ≡ c.args.kept.now.sails = c.entry_list.ensures in
    let counted : c.in_ok-races.races.items ≡ races c.args.kept.now.counts =
    c.in_ok-races.ensures.items ∙ c.as_slice.ensures
    ∙ ap (λ (s : Scoring). s.races) c.self.view_is ∙ is.races in
    let rs : c.deref-2.result.now ≡ races c.args.kept.now.counts =
    c.deref-2.ensures.value ∙ counted in
    let each : c.deref-4.result.now
    ≡ columns_in c.args.self.now.columns c.deref-2.result.now =
    c.deref-4.ensures.0 ∙ c.push_columns.ensures
    ∙ (λ i. columns_in (cols i) c.deref-2.result.now) in
    let found = found_columns rules c.args.kept.now c.requires.kept _ is.columns rs each in
    let all = columns rules c.args.kept.now.sheets (races c.args.kept.now.counts) in
    let races_are = c.new.ensures ∙ counted in
    let rows_made = c.new-2.ensures ∙ c.in_ok-rows.ensures
    ∙ (λ i. rows_by (boats i) (found i) (ls i) (ps i))
    ∙ rows_are rules c.args.kept.now.sails all c.args.self.now.lines (places c.args.self.now.lines)
    is.lines refl in
    λ i. record { races = races_are i; rows = rows_made i }

pub push_columns-requires-clause-few : goal.push_columns-requires-clause-few
push_columns-requires-clause-few c =
    let rs : c.deref-2.result.now ≡ races c.args.kept.now.counts =
    c.deref-2.ensures.value ∙ c.in_ok-races.ensures.items ∙ c.as_slice.ensures
    ∙ ap (λ (s : Scoring). s.races) c.self.view_is ∙ c.requires.scoring.1.races in
    rw rs (races_few c.args.kept.now.counts)
