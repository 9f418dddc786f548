-- What rounding to the nearest whole number comes to.
use Rattle.std.proofs.Common.{◌≡◌, ℕ, ◌+◌, ◌*◌, ◌/◌, ◌<◌, ◌≤◌, arith}
use Rattle.std.proofs.Math.Nat.{mul-div-le, lt-mul-div-succ, div-lt_iff_lt-mul}
use Rattle.regatta_rulings.specs.Shares.{nearest, IsNearest}

pub nearest_is : (numerator denominator : ℕ) → 0 < denominator
    → IsNearest numerator denominator (nearest numerator denominator)
nearest_is s n some =
    let below = mul-div-le (2 * s + n) (2 * n) in
    let above : 2 * s + n < 2 * n * ((2 * s + n) / (2 * n) + 1) =
    lt-mul-div-succ (2 * s + n) (omega arith) in
    let more : 2 * n * ((2 * s + n) / (2 * n) + 1) ≡ 2 * n * ((2 * s + n) / (2 * n)) + 2 * n =
    omega arith in
    let twice : 2 * n * ((2 * s + n) / (2 * n)) ≡ 2 * (n * ((2 * s + n) / (2 * n))) = omega arith in
    (omega (arith, below, twice), omega (arith, above, more, twice))

-- an average is at most the highest of its points
pub nearest_small : (n s : ℕ) → 0 < n → s ≤ 65535 * n → nearest s n < 65536
nearest_small n s some small = (div-lt_iff_lt-mul (omega arith)).1 (omega arith)
