use Rattle.std.proofs.Common.{◌≡◌, ℕ, ◌+◌, length, nat_eq, sum_by, arith, take, get_or, cond, ap}
use Rattle.std.proofs.Common.{◌∙◌, Some, None, []}
use Rattle.std.proofs.lemmas.List.Sums.{sum_by_more}
use Rattle.regatta_scores.specs.Order.{in_group}
use Rattle.regatta_scores.specs.RacePoints.{race_of, finishers}
use Rattle.regatta_scores.proofs.SharedOut.{shared_points, given_more, few_more, written_whole}
use Rattle.regatta_scores.proofs.points.placed_points.Goals as goal

-- the boats of one more group have their points
pub loop-i-preserved : goal.loop-i-preserved
loop-i-preserved c =
    let order = c.args.order.now in
    let held = c.args.held.now in
    let i = c.loop-i.i in
    let group = c.group-group.result.now in
    let new = c.give.new.placed in
    let back = written_whole new c.loop-i.placed.items c.loop-i.placed.len (omega arith) in
    let more = sum_by_more (finishers (race_of order held)) order i [] (omega arith) in
    let few = sum_by_more (length {A = ℕ}) order i [] (omega arith) in
    let here = c.group-group.ensures in
    let sharing : c.finishers-sharing.result
    ≡ finishers (race_of order held) (get_or order i []) =
    c.finishers-sharing.ensures.value ∙ ap (finishers (race_of order held)) here in
    let shared : c.shared_points.result
    ≡ shared_points (1 + sum_by (finishers (race_of order held)) (take i order))
    (finishers (race_of order held) (get_or order i [])) =
    c.shared_points.ensures.value ∙ (λ j.
    shared_points (c.loop-i.invariant.next_place j) (sharing j)) in
    let given : (boat : ℕ) → get_or new boat None
    ≡ cond (in_group nat_eq boat group) (Some c.shared_points.result)
    (get_or c.loop-i.placed.items boat None) = λ boat. c.give.ensures.given boat
    ∙ (λ j. cond (in_group nat_eq boat group) (Some c.shared_points.result)
    (get_or (c.deref_mut.ensures.value j) boat None)) in
    record {
      one_each = rw back (omega arith);
      next_place = omega (arith, more, sharing);
      bound = omega (arith, few, ap length c.group-group.ensures);
      given = λ boat. rw back (given_more order held i [] (omega arith) c.requires.once boat
          c.shared_points.result (get_or c.loop-i.placed.items boat None) (get_or new boat None)
          shared (c.loop-i.invariant.given boat)
          (given boat ∙ (λ j. cond (in_group nat_eq boat (c.group-group.ensures j))
          (Some c.shared_points.result) (get_or c.loop-i.placed.items boat None))));
      few = λ boat. rw back (few_more (in_group nat_eq boat group) c.shared_points.result
          (get_or c.loop-i.placed.items boat None) (get_or new boat None) (given boat)
          (omega arith) (c.loop-i.invariant.few boat));
    }
