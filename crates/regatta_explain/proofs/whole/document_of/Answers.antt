use Rattle.std.proofs.Common.{◌≡◌, All, List, ap, arith, length, map, sym, ◌∙◌}
use Rattle.std.proofs.Math.Path.{subst}
use Rattle.regatta_scores.specs.declared.table.Row.{Row}
use Rattle.regatta_scores.specs.declared.table.Standing.{Standing}
use Rattle.regatta_scores.specs.Journal.{scored}
use Rattle.regatta_scores.specs.Standing.{standing}
use Rattle.regatta_explain.specs.Depends.{last_that_matters}
use Rattle.regatta_explain.specs.Explained.{boat_rows, document, neighbours, ranks_after, rules_part}
use Rattle.regatta_explain.specs.Made.{IsRowOf, neighbour_by}
use Rattle.regatta_explain.proofs.RowFacts.{cells_long, neighbours_are, races_few, rows_are}
use Rattle.regatta_explain.proofs.whole.document_of.Goals as goal

pub all_boat_rows-requires-clause-rows : goal.all_boat_rows-requires-clause-rows
all_boat_rows-requires-clause-rows c =
    let rules = c.args.board.now.rules in
    let journal = c.args.board.now.entries in
    let rows = c.as_slice-rows.ensures ∙ ap (λ (s : Standing). s.rows) c.in_ok-table.ensures.value in
    subst (λ (all : List Row). All (IsRowOf rules journal) all) (sym rows) (rows_are rules journal)

pub neighbour_parts-requires-clause-few : goal.neighbour_parts-requires-clause-few
neighbour_parts-requires-clause-few c =
    let races = c.as_slice-races.ensures ∙ ap (λ (s : Standing). s.races) c.in_ok-table.ensures.value in
    omega (arith, ap length races, races_few c.args.board.now.entries)

pub neighbour_parts-requires-clause-cells : goal.neighbour_parts-requires-clause-cells
neighbour_parts-requires-clause-cells c =
    let rules = c.args.board.now.rules in
    let journal = c.args.board.now.entries in
    let rows = c.as_slice-rows.ensures ∙ ap (λ (s : Standing). s.rows) c.in_ok-table.ensures.value in
    let races = c.as_slice-races.ensures ∙ ap (λ (s : Standing). s.races) c.in_ok-table.ensures.value in
    let all = subst (λ (all : List Row). All (IsRowOf rules journal) all) (sym rows)
    (rows_are rules journal) in
    λ k d h. cells_long rules journal _ (all k d h) ∙ sym (ap length races)

pub returns : goal.returns
unfolding document
returns c =
    let rules = c.args.board.now.rules in
    let journal = c.args.board.now.entries in
    let rows : c.as_slice-rows.result.now ≡ (standing rules journal).rows =
    c.as_slice-rows.ensures ∙ ap (λ (s : Standing). s.rows) c.in_ok-table.ensures.value in
    let races : c.as_slice-races.result.now ≡ scored journal =
    c.as_slice-races.ensures ∙ ap (λ (s : Standing). s.races) c.in_ok-table.ensures.value in
    let parts = c.in_ok-rules.ensures ∙ ap rules_part c.rules.ensures in
    let last = c.last_place.ensures ∙ (λ t. last_that_matters (races t) journal) in
    let boats = c.in_ok-boats.ensures ∙ ap (map (boat_rows rules journal)) rows in
    let tied = c.in_ok-neighbours.ensures
    ∙ (λ t. map (neighbour_by (races t)) (neighbours (rows t)))
    ∙ neighbours_are rules journal (standing rules journal).rows (rows_are rules journal) in
    let after = c.in_ok-after_each.ensures ∙ ap (map (ranks_after rules journal)) races in
    λ i. record {
      rules = parts i;
      last_entry = last i;
      races = c.in_ok-recorded.ensures i;
      boats = boats i;
      neighbours = tied i;
      after_each = after i;
    }
