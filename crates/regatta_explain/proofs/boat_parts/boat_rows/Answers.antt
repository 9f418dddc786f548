use Rattle.std.proofs.Common.{◌<◌, All, List, ap, arith, length, map, sym, ◌∙◌}
use Rattle.std.proofs.Math.Path.{subst}
use Rattle.regatta_scores.specs.declared.details.Scoring.{Scoring}
use Rattle.regatta_explain.specs.Explained.{boat_rows, score_parts}
use Rattle.regatta_explain.specs.Made.{scores_by, scorings_of}
use Rattle.regatta_explain.proofs.RowFacts.{boats_within, cells_long, parts_are, races_few}
use Rattle.regatta_explain.proofs.boat_parts.boat_rows.Goals as goal

pub score_parts-requires-clause-cells : goal.score_parts-requires-clause-cells
score_parts-requires-clause-cells c =
    ap length c.as_slice-cells.ensures
    ∙ cells_long c.args.board.now.rules c.args.board.now.entries c.args.row.now c.requires.row
    ∙ sym (ap length c.requires.races)

pub score_parts-requires-clause-within : goal.score_parts-requires-clause-within
score_parts-requires-clause-within c =
    subst (λ (all : List (List Scoring)). All (λ race. c.number-number.result < length race) all)
    (sym c.requires.scorings)
    (boats_within c.args.board.now.rules c.args.board.now.entries c.args.races.now
    c.number-number.result c.number-number.ensures.within)

pub score_parts-requires-clause-few : goal.score_parts-requires-clause-few
score_parts-requires-clause-few c =
    omega (arith, ap length c.requires.races, races_few c.args.board.now.entries)

pub place_of-requires : goal.place_of-requires
place_of-requires c =
    omega (
      arith,
      cells_long c.args.board.now.rules c.args.board.now.entries c.args.row.now c.requires.row,
      races_few c.args.board.now.entries,
    )

pub returns : goal.returns
unfolding boat_rows score_parts
returns c =
    let rules = c.args.board.now.rules in
    let journal = c.args.board.now.entries in
    let row = c.args.row.now in
    let n = c.number-number.result in
    let scorings = c.requires.scorings ∙ ap (map (scorings_of rules journal)) c.requires.races in
    let scores = c.new.ensures ∙ c.in_ok-scores.ensures
    ∙ (λ i. scores_by (c.requires.races i) (scorings i) n (c.as_slice-cells.ensures i))
    ∙ parts_are rules journal row.sail n c.number-number.ensures.within c.number-number.ensures.hers
    row.cells (cells_long rules journal row c.requires.row) in
    λ i. record { boat = c.place_of.ensures i; scores = scores i }
