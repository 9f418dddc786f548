-- The two tests of a conjunction.
use Rattle.std.proofs.Common.{◌≡◌, Bool, true, ◌&&◌, arith}

pub both : (a b : Bool) → (a && b) ≡ true → (a ≡ true) × (b ≡ true)
both a b h = grind arith
