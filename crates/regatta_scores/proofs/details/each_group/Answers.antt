use Rattle.std.proofs.Common.{◌≡◌, ℕ, ◌≤◌, ◌++◌, ◌∷◌, [], ap, ◌∙◌, sym, length, arith, map}
use Rattle.std.proofs.Common.{get_or}
use Rattle.std.specs.List.{enumerate_from}
use Rattle.std.proofs.lemmas.List.{take_all}
use Rattle.std.proofs.lemmas.List.FromFn.{length-enumerate_from}
use Rattle.std.proofs.lemmas.List.Sums.{sum_by_more}
use Rattle.regatta_scores.specs.Details.{placed_group, sheet_group}
use Rattle.regatta_scores.specs.RacePoints.{race_of, finishers}
use Rattle.regatta_scores.proofs.Placed.{groups_more}
use Rattle.regatta_scores.proofs.details.each_group.Goals as goal

-- one more group has its place
pub loop-i-preserved : goal.loop-i-preserved
loop-i-preserved c =
    let order = c.args.order.now in
    let held = c.args.held.now in
    let race = race_of order held in
    let i = c.loop-i.i in
    let more = sum_by_more (finishers race) order i [] (omega arith) in
    let few = sum_by_more (length {A = ℕ}) order i [] (omega arith) in
    let sharing : c.finishers-sharing.result ≡ finishers race (get_or order i []) =
    c.finishers-sharing.ensures.value ∙ ap (finishers race) c.group-group.ensures in
    let here : c.in_ok-sheet_group.field-0
    ≡ sheet_group (placed_group race (i, get_or order i [])) =
    c.in_ok-sheet_group.ensures
    ∙ (λ j. record {
      place = c.loop-i.invariant.next_place j;
      sharing = sharing j;
      boats = c.group-group.ensures j;
    }) in
    record {
      made = c.in_ok-push.ensures.items ∙ (λ j. c.loop-i.invariant.made j ++ here j ∷ [])
          ∙ sym (groups_more order held i (omega arith));
      next_place = omega (arith, more, sharing);
      bound = omega (arith, few, ap length c.group-group.ensures, c.finishers-sharing.ensures.bound);
    }

pub returns : goal.returns
returns c =
    let order = c.args.order.now in
    let all = enumerate_from 0 order in
    let past : length all ≤ c.loop-i.i = omega (arith, length-enumerate_from 0 order) in
    c.loop-i.invariant.made
    ∙ ap (λ gs. map sheet_group (map (placed_group (race_of order c.args.held.now)) gs))
    (take_all c.loop-i.i all past)
