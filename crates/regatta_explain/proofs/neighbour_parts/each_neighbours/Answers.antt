use Rattle.std.proofs.Common.{◌≡◌, ◌≤◌, ◌-◌, ◌++◌, ◌∷◌, List, [], ap, arith, cond, drop, filter, length, map}
use Rattle.std.proofs.Common.{nat_eq, sym, ◌∙◌}
use Rattle.std.specs.Prelude.{zip}
use Rattle.std.proofs.lemmas.List.{length-drop, take_all}
use Rattle.std.proofs.lemmas.Slice.Zip.{length-zip}
use Rattle.regatta_scores.specs.declared.table.Row.{Row}
use Rattle.regatta_explain.specs.declared.parts.NeighbourPart.{NeighbourPart}
use Rattle.regatta_explain.specs.Made.{neighbour_by}
use Rattle.regatta_explain.proofs.RowFacts.{neighbours_more}
use Rattle.regatta_explain.proofs.neighbour_parts.each_neighbours.Goals as goal

pub loop-i-preserved : goal.loop-i-preserved
loop-i-preserved c =
    let part = neighbour_by c.args.races.now in
    let first = c.index-rows-i.result in
    let second = c.index-rows-i-in-loop-i.result in
    c.in_ok-push_neighbours.ensures
    ∙ ap (λ (parts : List NeighbourPart).
    parts ++ cond (nat_eq first.net second.net) (part (first, second) ∷ []) []) c.loop-i.invariant
    ∙ sym (neighbours_more part c.args.rows.now c.loop-i.i first second (omega arith)
    c.loop-i-test.true c.index-rows-i.is c.index-rows-i-in-loop-i.is)

pub returns : goal.returns
returns c =
    let rows = c.args.rows.now in
    let pairs = zip rows (drop 1 rows) in
    let rest : length (drop 1 rows) ≡ length rows - 1 = length-drop 1 rows in
    let past : length pairs ≤ c.loop-i.i - 1 =
    omega (arith, c.loop-i-test.false, rest, length-zip rows (drop 1 rows)) in
    c.loop-i.invariant
    ∙ ap (λ (some : List (Row × Row)). map (neighbour_by c.args.races.now)
    (filter (λ pair. nat_eq pair.0.net pair.1.net) some)) (take_all (c.loop-i.i - 1) pairs past)
