-- Shares of a DNF score, and averages: exact fractions, rounded once. Points are in tenths, unless
-- they are called whole points.
use Rattle.std.specs.Prelude.{◌≡◌, ℕ, ◌+◌, ◌*◌, ◌/◌, ◌<◌, ◌≤◌, min, max, Option, Some, None}
use Rattle.regatta_rulings.specs.declared.decision.Amount.{Amount}
use Rattle.regatta_rulings.specs.declared.decision.Amount.TheVariants.{Percent, Plus}
use Rattle.regatta_rulings.specs.declared.decision.Limit.{Limit}
use Rattle.regatta_rulings.specs.declared.decision.Limit.TheVariants.{AfterLast, Score}

-- a fraction, rounded to the nearest whole number, a half upward
abbrev pub nearest : ℕ → ℕ → ℕ
nearest numerator denominator = (2 * numerator + denominator) / (2 * denominator)

-- what this means, whatever way it is done: the number is at most a half above the fraction, and
-- less than a half below it
abbrev pub IsNearest : ℕ → ℕ → ℕ → Type 0
IsNearest numerator denominator n =
    (2 * (denominator * n) ≤ 2 * numerator + denominator)
    × (2 * numerator < 2 * (denominator * n) + denominator)

-- a percentage of a DNF score in whole points, to the nearest whole point, a half upward (RRS
-- 44.3(c))
abbrev pub share : ℕ → ℕ → ℕ
share percent dnf = nearest (percent * dnf) 100

-- what a penalty adds in a race with this DNF score
abbrev pub amount_points : ℕ → Amount → ℕ
amount_points dnf (Percent percent) = 10 * share percent dnf
amount_points dnf (Plus points) = points

-- a score made worse by a penalty, up to the DNF score; a score that is no better than that stays
-- (RRS 44.3(c))
abbrev pub penalised : ℕ → ℕ → Amount → ℕ
penalised dnf before amount = max before (min (before + amount_points dnf amount) (10 * dnf))

-- the points of a time limit without penalties: whole points more than those of the last place,
-- if there is one; or these points
abbrev pub limit_points : Option ℕ → Limit → Option ℕ
limit_points last (Score points) = Some points
limit_points None (AfterLast more) = None
limit_points (Some last) (AfterLast more) = Some (last + 10 * more)

-- these points with her penalties in whole points; the sum is no worse than the DNF score
abbrev pub limited : ℕ → ℕ → ℕ → ℕ
limited dnf points penalty = min (points + 10 * penalty) (10 * dnf)
