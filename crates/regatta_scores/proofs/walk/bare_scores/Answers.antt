use Rattle.std.proofs.Common.{◌≡◌, ℕ, ◌+◌, length, nat_eq, sum_by, arith, take, get_or, cond, ap}
use Rattle.std.proofs.Common.{◌∙◌, Some, None, [], refl}
use Rattle.std.proofs.lemmas.List.Sums.{sum_by_more}
use Rattle.regatta_scores.specs.Order.{in_group, stands_in}
use Rattle.regatta_scores.specs.RacePoints.{race_of, finishers, place_points}
use Rattle.regatta_scores.specs.Walk.{bare_with}
use Rattle.regatta_scores.proofs.SharedOut.{shared_points, given_more, written_whole}
use Rattle.regatta_scores.proofs.Walked.{bare_given, few_given, few_score}
use Rattle.regatta_scores.proofs.walk.bare_scores.Goals as goal

-- the boats of one more group have their score
pub loop-i-preserved : goal.loop-i-preserved
loop-i-preserved c =
    let order = c.args.order.now in
    let held = c.args.held.now in
    let n = length held in
    let race = race_of order held in
    let i = c.loop-i.i in
    let group = get_or order i [] in
    let new = c.put.new.scores in
    let points = c.shared_points.result in
    let back = written_whole new c.loop-i.scores.items c.loop-i.scores.len (omega arith) in
    let more = sum_by_more (finishers race) order i [] (omega arith) in
    let few = sum_by_more (length {A = ℕ}) order i [] (omega arith) in
    let here = c.group-group.ensures in
    let sharing : c.finishers-sharing.result ≡ finishers race group =
    c.finishers-sharing.ensures.value ∙ ap (finishers race) here in
    let shared : points
    ≡ shared_points (1 + sum_by (finishers race) (take i order)) (finishers race group) =
    c.shared_points.ensures.value ∙ (λ j.
    shared_points (c.loop-i.invariant.next_place j) (sharing j)) in
    let none = bare_with n None in
    let hers : (boat : ℕ) → get_or new boat none
    ≡ bare_with n (cond (in_group nat_eq boat group) (Some points)
    (cond (stands_in nat_eq boat (take i order)) (Some (place_points nat_eq race boat)) None)) =
    λ boat. c.put.ensures.given boat none
    ∙ (λ j. cond (in_group nat_eq boat (here j)) (c.placed_score.ensures n j)
    (get_or (c.deref_mut.ensures.value j) boat none))
    ∙ ap (cond (in_group nat_eq boat group) (bare_with n (Some points)))
    (c.loop-i.invariant.given boat)
    ∙ bare_given n (in_group nat_eq boat group) points
    (cond (stands_in nat_eq boat (take i order)) (Some (place_points nat_eq race boat)) None) in
    record {
      one_each = rw back (omega arith);
      next_place = omega (arith, more, sharing);
      bound = omega (arith, few, ap length c.group-group.ensures);
      given = λ boat. rw back (hers boat ∙ ap (bare_with n)
          (given_more order held i [] (omega arith) c.requires.once boat points
          (cond (stands_in nat_eq boat (take i order)) (Some (place_points nat_eq race boat)) None)
          (cond (in_group nat_eq boat group) (Some points)
          (cond (stands_in nat_eq boat (take i order)) (Some (place_points nat_eq race boat)) None))
          shared refl refl));
      few = rw back (λ k d h. few_given (in_group nat_eq k c.group-group.result.now)
          c.placed_score.result (get_or c.loop-i.scores.items k d) (get_or new k d)
          (c.put.ensures.given k d
          ∙ (λ j. cond (in_group nat_eq k c.group-group.result.now) c.placed_score.result
          (get_or (c.deref_mut.ensures.value j) k d)))
          (few_score n points c.placed_score.result (c.placed_score.ensures n)
          c.shared_points.ensures.bound)
          (c.loop-i.invariant.few k d
          (omega (arith, h, c.put.ensures.one_each, ap length c.deref_mut.ensures.value))));
    }
