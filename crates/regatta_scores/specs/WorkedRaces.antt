-- Worked examples of race points, by computation.
use Rattle.std.specs.Prelude.{◌≡◌, refl, ℕ, false, [], ◌∷◌, Option, Some, None, replicate}
use Rattle.regatta_terms.specs.Rules.{RulesParts}
use Rattle.regatta_terms.specs.declared.rules.Absent.TheVariants.{A52, A53}
use Rattle.regatta_terms.specs.declared.command.Code.{Code}
use Rattle.regatta_terms.specs.declared.command.Code.TheVariants as code
use Rattle.regatta_scores.specs.declared.sheet.Held.{Held}
use Rattle.regatta_scores.specs.declared.sheet.Change.TheVariants.{Last, Join, Ahead, Out, Hold}
use Rattle.regatta_scores.specs.Sheet.{Sheet, nothing_held, empty_sheet}
use Rattle.regatta_scores.specs.Changes.{after}
use Rattle.regatta_scores.specs.RacePoints.{race_points}

-- a boat with these numbers of ZFP and SCP
abbrev pub penalties : ℕ → ℕ → Held
penalties zfp scp = record { code = None; zfp = zfp; scp = scp; redress = None }

-- a boat with this code
abbrev pub coded : Code → Held
coded code = record { code = Some code; zfp = 0; scp = 0; redress = None }

-- rules with a score of N + 1 for every code (A5.2)
abbrev pub by_entries : Option ℕ → RulesParts
by_entries scp = record { absent = A52; scp = scp; thresholds = 2 ∷ []; handicap = false }

-- rules with a score by the boats that came to the starting area (A5.3)
abbrev pub by_who_came : RulesParts
by_who_came = record { absent = A53; scp = None; thresholds = 2 ∷ []; handicap = false }

-- ten boats in order; the first has SCP, the second ZFP and SCP, the last three ZFP each
abbrev pub ten_in_order : Sheet
ten_in_order = record {
  order = (0 ∷ []) ∷ (1 ∷ []) ∷ (2 ∷ []) ∷ (3 ∷ []) ∷ (4 ∷ [])
      ∷ (5 ∷ []) ∷ (6 ∷ []) ∷ (7 ∷ []) ∷ (8 ∷ []) ∷ (9 ∷ []) ∷ [];
  held = penalties 0 1 ∷ penalties 1 1 ∷ nothing_held ∷ nothing_held ∷ nothing_held
      ∷ nothing_held ∷ nothing_held ∷ penalties 1 0 ∷ penalties 1 0 ∷ penalties 1 0 ∷ [];
  seconds = replicate 10 None;
}

-- The DNF score is 11, so ZFP costs 2 points; SCP costs the stated 3. The last two scores are
-- capped at the DNF score.
pub penalties_add_up_to_the_cap : race_points (by_entries (Some 3)) ten_in_order
    ≡ 40 ∷ 70 ∷ 30 ∷ 40 ∷ 50 ∷ 60 ∷ 70 ∷ 100 ∷ 110 ∷ 110 ∷ []
penalties_add_up_to_the_cap = refl

-- of ten boats five finish, the sixth didn't finish and four did nothing; the third and the tenth
-- have one ZFP each, the fifth has three
abbrev pub five_of_ten : Sheet
five_of_ten = record {
  order = (0 ∷ []) ∷ (1 ∷ []) ∷ (2 ∷ []) ∷ (3 ∷ []) ∷ (4 ∷ []) ∷ [];
  held = nothing_held ∷ nothing_held ∷ penalties 1 0 ∷ nothing_held ∷ penalties 3 0
      ∷ coded code.Dnf ∷ nothing_held ∷ nothing_held ∷ nothing_held ∷ penalties 1 0 ∷ [];
  seconds = replicate 10 None;
}

-- Six boats came, so the DNF score is 7, ZFP costs 1 point and the fifth is capped at 7. Boats that
-- did not come have 11.
pub who_came_makes_the_cap : race_points by_who_came five_of_ten
    ≡ 10 ∷ 20 ∷ 40 ∷ 40 ∷ 70 ∷ 70 ∷ 110 ∷ 110 ∷ 110 ∷ 110 ∷ []
who_came_makes_the_cap = refl

-- boats 0 and 1 are tied, boat 2 is put ahead of them, and boat 3 is last (A3, A7)
abbrev pub tied_sheet : Sheet
tied_sheet = after (after (after (after (empty_sheet 4) (Last 0)) (Join 1 0)) (Ahead 2 1)) (Last 3)

pub ties_share_their_places : race_points (by_entries None) tied_sheet ≡ 25 ∷ 25 ∷ 10 ∷ 40 ∷ []
ties_share_their_places = refl

-- boat 0 is disqualified: the boat tied with her has the place alone, and boat 3 moves up (A6.1)
abbrev pub disqualified_sheet : Sheet
disqualified_sheet = after tied_sheet (Hold 0 (coded code.Dsq))

pub disqualified_boats_leave_their_place : race_points (by_entries None) disqualified_sheet
    ≡ 50 ∷ 20 ∷ 10 ∷ 30 ∷ []
disqualified_boats_leave_their_place = refl

-- when boat 2 is taken out of the order, she counts as DNC
pub struck_boats_count_as_absent : race_points (by_entries None) (after disqualified_sheet (Out 2))
    ≡ 50 ∷ 10 ∷ 50 ∷ 20 ∷ []
struck_boats_count_as_absent = refl
