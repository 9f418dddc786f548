-- The score of a boat that holds nothing.
use Rattle.std.proofs.Common.{◌≡◌, Bool, true, false, ◌&&◌, Option, None, Some, refl}
use Rattle.std.specs.Prelude.{is_none}
use borrow.Author.Tests.{eqb-true}
use Rattle.regatta_scores.specs.declared.sheet.Held.{Held}
use Rattle.regatta_scores.specs.Journal.{holds_nothing}
use Rattle.regatta_scores.specs.Sheet.{nothing_held}

both : (a b : Bool) → (a && b) ≡ true → (a ≡ true) × (b ≡ true)
both true b h = (refl, h)
both false b h = absurd (cc)

none_of : {X : Type 0} (o : Option X) → is_none o ≡ true → o ≡ None
none_of None h = refl
none_of (Some x) h = absurd (cc)

pub nothing_is : (held : Held) → holds_nothing held ≡ true → held ≡ nothing_held
nothing_is held h =
    let p = both _ _ h in
    let q = both _ _ p.0 in
    let r = both _ _ q.0 in
    λ i. record {
      code = none_of held.code r.0 i;
      zfp = eqb-true held.zfp 0 r.1 i;
      scp = eqb-true held.scp 0 q.1 i;
      redress = none_of held.redress p.1 i;
    }
