use Rattle.std.proofs.Common.{◌≡◌, ◌++◌, ◌∷◌, [], ap, ◌∙◌, sym, length, arith}
use Rattle.std.proofs.Common.{map, nat_eq}
use Rattle.std.specs.List.{range_with_len}
use Rattle.regatta_scores.specs.Details.{scoring}
use Rattle.regatta_scores.specs.RacePoints.{race_of}
use Rattle.regatta_scores.proofs.Placed.{scoring_at}
use Rattle.regatta_scores.proofs.Ranges.{map_range_more}
use Rattle.regatta_scores.proofs.details.each_scoring.Goals as goal

-- the score of one more boat
pub loop-boat-preserved : goal.loop-boat-preserved
loop-boat-preserved c =
    let rules = c.args.rules.now in
    let sheet = c.args.sheet.now in
    let boat = c.loop-boat.boat in
    let by = scoring nat_eq rules (race_of sheet.order sheet.held) in
    let hers : c.boat_scoring.result ≡ by boat = (rw c.entered-entered.ensures at c.boat_scoring.ensures)
    ∙ scoring_at sheet _ c.in_ok-placed.placed.items c.all_held-held.ensures
    (rw c.order-order.ensures.value at c.in_ok-placed.ensures) rules boat
    c.index-held-boat.result c.index.result.now c.dnf-dnf.result (omega arith) c.index-held-boat.is
    c.index.ensures (rw c.deref.ensures.value at c.dnf-dnf.ensures.value) in
    record {
      made = c.push_reserved.ensures.items ∙ (λ i. c.loop-boat.invariant.made i ++ hers i ∷ [])
          ∙ sym (map_range_more by boat);
      long = omega (arith, c.push_reserved.ensures.len);
      room = c.push_reserved.ensures.capacity ∙ c.loop-boat.invariant.room;
    }

pub push_reserved-requires : goal.push_reserved-requires
push_reserved-requires c =
    omega (arith, c.loop-boat.invariant.long, c.loop-boat.invariant.room, c.loop-boat-test.true)

pub returns : goal.returns
returns c =
    let many : c.loop-boat.boat ≡ length c.args.sheet.now.held =
    omega (arith, ap length c.all_held-held.ensures) in
    c.loop-boat.invariant.made
    ∙ ap (λ n. map (scoring nat_eq c.args.rules.now
    (race_of c.args.sheet.now.order c.args.sheet.now.held)) (range_with_len 0 n)) many
