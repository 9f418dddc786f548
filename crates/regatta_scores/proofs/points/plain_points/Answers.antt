use Rattle.std.proofs.Common.{◌≡◌, ◌++◌, ◌∷◌, [], ap, ◌∙◌, sym, length, arith}
use Rattle.std.proofs.Common.{map, nat_eq}
use Rattle.std.specs.List.{range_with_len}
use Rattle.regatta_scores.specs.RacePoints.{plain, race_of}
use Rattle.regatta_scores.proofs.Placed.{plain_at}
use Rattle.regatta_scores.proofs.Ranges.{map_range_more}
use Rattle.regatta_scores.proofs.points.plain_points.Goals as goal

-- the points of one more boat
pub loop-boat-preserved : goal.loop-boat-preserved
loop-boat-preserved c =
    let rules = c.args.rules.now in
    let sheet = c.args.sheet.now in
    let boat = c.loop-boat.boat in
    let by = plain nat_eq rules (race_of sheet.order sheet.held) in
    let hers : c.plain.result ≡ by boat = (rw c.entered-entered.ensures at c.plain.ensures)
    ∙ plain_at sheet _ c.in_ok-placed.placed.items c.all_held-held.ensures
    (rw c.order-order.ensures.value at c.in_ok-placed.ensures) rules boat
    c.index-held-boat.result c.index.result.now c.dnf-dnf.result (omega arith) c.index-held-boat.is
    c.index.ensures (rw c.deref.ensures.value at c.dnf-dnf.ensures.value) in
    record {
      made = c.push_reserved.ensures.items ∙ (λ i. c.loop-boat.invariant.made i ++ hers i ∷ [])
          ∙ sym (map_range_more by boat);
      long = omega (arith, c.push_reserved.ensures.len);
      room = c.push_reserved.ensures.capacity ∙ c.loop-boat.invariant.room;
    }

pub push_reserved-requires : goal.push_reserved-requires
push_reserved-requires c =
    omega (arith, c.loop-boat.invariant.long, c.loop-boat.invariant.room, c.loop-boat-test.true)

pub returns : goal.returns
returns c =
    let many : c.loop-boat.boat ≡ length c.args.sheet.now.held =
    omega (arith, ap length c.all_held-held.ensures) in
    c.loop-boat.invariant.made
    ∙ ap (λ n. map (plain nat_eq c.args.rules.now
    (race_of c.args.sheet.now.order c.args.sheet.now.held)) (range_with_len 0 n)) many
