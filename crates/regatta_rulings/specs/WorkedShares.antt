-- Worked shares and averages, by computation. Points are tenths, unless they are called whole points.
use Rattle.std.specs.Prelude.{◌≡◌, refl, ℕ, Bool, true, false, [], ◌∷◌, Some, None, Ok, Err}
use Rattle.regatta_rulings.specs.declared.averaging.SailedRace.{SailedRace}
use Rattle.regatta_rulings.specs.declared.decision.Amount.TheVariants.{Percent, Plus}
use Rattle.regatta_rulings.specs.declared.decision.Bar.TheVariants.{NoRace, OfAverage, Open}
use Rattle.regatta_rulings.specs.declared.decision.Limit.TheVariants.{AfterLast, Score}
use Rattle.regatta_rulings.specs.declared.decision.Races.TheVariants.{Chosen, Sailed, Others}
use Rattle.regatta_rulings.specs.declared.decision.Races.TheVariants.{Earlier}
use Rattle.regatta_rulings.specs.Averages.{average_of}
use Rattle.regatta_rulings.specs.Shares.{limit_points, limited, penalised, share}

-- ---- shares (RRS 44.3(c))

-- 30% of a DNF score of 11 are 3.3 points, and 15% are 1.65
pub to_the_nearest : share 30 11 ≡ 3
to_the_nearest = refl

pub nearest_above : share 15 11 ≡ 2
nearest_above = refl

-- 50% of 11 are 5.5, and 10% of 5 are 0.5
pub half_goes_up : share 50 11 ≡ 6
half_goes_up = refl

pub half_a_point_is_one : share 10 5 ≡ 1
half_a_point_is_one = refl

-- 24% of 10 are 2.4: rounded to 2.5 first, they would be 3
pub rounded_once : share 24 10 ≡ 2
rounded_once = refl

-- the second of ten boats has 2 points, and DPI 15% adds 2
pub penalty_in_percent : penalised 11 20 (Percent 15) ≡ 40
penalty_in_percent = refl

pub penalty_in_points : penalised 11 20 (Plus 25) ≡ 45
penalty_in_points = refl

-- the ninth has 9 points, and 30% would make 12
pub no_worse_than_dnf : penalised 11 90 (Percent 30) ≡ 110
no_worse_than_dnf = refl

-- under A5.3 a boat that didn't come has 11 points where the DNF score is 7
pub worse_scores_stay : penalised 7 110 (Percent 30) ≡ 110
worse_scores_stay = refl

-- ---- the time limit

-- two points more than the last of eight; three boats tied in sixth place have 7 points each
pub after_the_last : limit_points (Some 80) (AfterLast 2) ≡ Some 100
after_the_last = refl

pub nobody_is_last : limit_points None (AfterLast 2) ≡ None
nobody_is_last = refl

pub points_as_given : limit_points None (Score 120) ≡ Some 120
points_as_given = refl

pub penalties_are_added : limited 15 100 3 ≡ 130
penalties_are_added = refl

pub limit_no_worse_than_dnf : limited 11 100 3 ≡ 110
limit_no_worse_than_dnf = refl

-- ---- averages (RRS A9)

-- a race to which she came
abbrev pub sailed : ℕ → ℕ → SailedRace
sailed race points = record { race = race; came = true; averaged = false; points = points }

-- one to which she didn't come, and one in which she has an average
abbrev pub missed : ℕ → ℕ → SailedRace
missed race points = record { race = race; came = false; averaged = false; points = points }

abbrev pub averaged : ℕ → ℕ → SailedRace
averaged race points = record { race = race; came = true; averaged = true; points = points }

-- (2.0 + 3.0 + 3.0) / 3 = 2.66..
pub average_of_chosen :
    average_of (Chosen (1 ∷ 2 ∷ 4 ∷ [])) 5
    (sailed 1 20 ∷ sailed 2 30 ∷ sailed 3 90 ∷ sailed 4 30 ∷ averaged 5 60 ∷ [])
    ≡ Ok 27
average_of_chosen = refl

-- (1.0 + 1.1) / 2 = 1.05
pub half_a_tenth_goes_up :
    average_of Others 3 (sailed 1 10 ∷ sailed 2 11 ∷ averaged 3 60 ∷ []) ≡ Ok 11
half_a_tenth_goes_up = refl

-- her own race doesn't count, whatever she has there
pub own_race_is_left_out :
    average_of Others 3 (sailed 1 10 ∷ sailed 2 30 ∷ sailed 3 90 ∷ []) ≡ Ok 20
own_race_is_left_out = refl

pub missed_races_are_left_out :
    average_of Sailed 4 (sailed 1 10 ∷ sailed 2 30 ∷ missed 3 110 ∷ averaged 4 60 ∷ []) ≡ Ok 20
missed_races_are_left_out = refl

pub later_races_are_left_out :
    average_of Earlier 3 (sailed 1 10 ∷ sailed 2 30 ∷ averaged 3 60 ∷ sailed 4 90 ∷ []) ≡ Ok 20
later_races_are_left_out = refl

pub averages_are_left_out :
    average_of Others 4 (sailed 1 10 ∷ sailed 2 30 ∷ averaged 3 60 ∷ averaged 4 60 ∷ []) ≡ Ok 20
averages_are_left_out = refl

pub chosen_race_is_open :
    average_of (Chosen (1 ∷ 3 ∷ [])) 5 (sailed 1 10 ∷ averaged 5 60 ∷ []) ≡ Err (Open 3)
chosen_race_is_open = refl

pub chosen_race_is_an_average :
    average_of (Chosen (1 ∷ 3 ∷ [])) 5 (sailed 1 10 ∷ averaged 3 30 ∷ averaged 5 60 ∷ [])
    ≡ Err (OfAverage 3)
chosen_race_is_an_average = refl

pub nothing_to_average : average_of Earlier 1 (averaged 1 60 ∷ sailed 2 30 ∷ []) ≡ Err NoRace
nothing_to_average = refl
