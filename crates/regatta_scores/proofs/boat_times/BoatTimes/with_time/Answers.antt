use Rattle.std.proofs.Common.{◌≡◌, ◌∙◌, ◌+◌, ◌-◌, ◌++◌, ap, arith, length, replicate, slice_set}
use Rattle.std.proofs.Common.{None}
use Rattle.std.proofs.lemmas.List.{append-nil, take_all}
use Rattle.regatta_scores.proofs.boat_times.BoatTimes.with_time.Goals as goal

-- the list is filled up with None for the further boats
pub returns : goal.returns
returns c =
    let t = c.self.inside in
    let copy = c.extend_from_slice.new.self in
    let boats = c.len.result + c.from.result in
    let copied : copy.items ≡ t.seconds.items =
    c.in_ok-extend_from_slice.ensures.items
    ∙ (λ i. c.in_ok-seconds.ensures.items i ++ c.deref.ensures.value i) in
    let long : copy.len ≡ c.len.result =
    omega (arith, c.len.ensures, t.seconds.ok.0, copy.ok.0, ap length copied) in
    let first = take_all boats copy.items (omega (arith, long, copy.ok.0)) ∙ copied in
    let rest : boats - copy.len ≡ t.further = omega (arith, long, c.from.ensures) in
    rw c.from-2.ensures
    (append-nil _ ∙ ap (λ times. slice_set times c.args.boat c.args.time)
    (c.in_ok-resize.ensures.items ∙ (λ i. first i ++ replicate (rest i) None) ∙ c.self.view_is))
