-- Worked examples of exclusions, ties and redress, by computation. Points are tenths.
use Rattle.std.specs.Prelude.{◌≡◌, refl, ℕ, Bool, true, false, List, [], ◌∷◌, Some, None, length}
use Rattle.std.specs.Prelude.{map}
use Rattle.std.specs.declared.cmp.Ordering.TheVariants.{Less, Greater}
use Rattle.regatta_terms.specs.Rules.{exclusions_of}
use Rattle.regatta_terms.specs.declared.command.Redress.TheVariants.{Points, AllRaces, RacesBefore}
use Rattle.regatta_scores.specs.declared.boats.RowItem.{RowItem}
use Rattle.regatta_scores.specs.declared.boats.Scored.{Scored}
use Rattle.regatta_scores.specs.RaceScores.{points}
use Rattle.regatta_scores.specs.Exclusions as exclusion
use Rattle.regatta_scores.specs.Ranking.{BoatScores, better, places}
use Rattle.regatta_scores.specs.declared.ranking.TheConstants.{MAX_RANKED}

-- ---- exclusions (A2.1, 90.3(b))

-- a score that may be excluded
abbrev pub score : ℕ → Scored
score points = record { points = points; dne = false }

-- a score that may not: a DNE (90.3(b))
abbrev pub dne : ℕ → Scored
dne points = record { points = points; dne = true }

-- which scores are excluded, if one is from `threshold` races on
abbrev pub flags : ℕ → List Scored → List Bool
flags threshold scores = exclusion.excluded (exclusions_of (threshold ∷ []) (length scores)) scores

-- these, and the series score
abbrev pub scored : ℕ → List Scored → List Bool × ℕ
scored threshold scores =
    let excluded = flags threshold scores in
    (excluded, exclusion.net (map (λ s. s.points) scores) excluded)

pub earliest_of_equal_worst_scores : scored 3 (score 40 ∷ score 20 ∷ score 40 ∷ [])
    ≡ (true ∷ false ∷ false ∷ [], 60)
earliest_of_equal_worst_scores = refl

pub next_worst_in_place_of_dne : scored 3 (dne 40 ∷ score 30 ∷ score 20 ∷ [])
    ≡ (false ∷ true ∷ false ∷ [], 60)
next_worst_in_place_of_dne = refl

pub nothing_where_all_are_dne : scored 2 (dne 40 ∷ dne 50 ∷ []) ≡ (false ∷ false ∷ [], 90)
nothing_where_all_are_dne = refl

-- ---- ties (A8)

-- a boat's scores, if nothing is excluded
abbrev pub all_counting : List ℕ → BoatScores
all_counting points = record { points = points; excluded = map (λ _. false) points }

-- a boat's scores, if one is excluded from three races on
abbrev pub one_excluded : List ℕ → BoatScores
one_excluded points = record { points = points; excluded = flags 3 (map score points) }

pub best_score_decides : better (all_counting (10 ∷ 40 ∷ [])) (all_counting (20 ∷ 30 ∷ [])) ≡ Less
best_score_decides = refl

pub last_race_decides : better (all_counting (20 ∷ 10 ∷ [])) (all_counting (10 ∷ 20 ∷ [])) ≡ Less
last_race_decides = refl

pub excluded_last_race_decides :
    better (one_excluded (20 ∷ 10 ∷ 50 ∷ [])) (one_excluded (10 ∷ 20 ∷ 40 ∷ [])) ≡ Greater
excluded_last_race_decides = refl

pub no_excluded_score_is_listed :
    better (one_excluded (50 ∷ 20 ∷ 10 ∷ [])) (one_excluded (40 ∷ 10 ∷ 20 ∷ [])) ≡ Less
no_excluded_score_is_listed = refl

pub complete_tie_shares_a_rank :
    places
    (all_counting (15 ∷ 15 ∷ []) ∷ all_counting (15 ∷ 15 ∷ []) ∷ all_counting (30 ∷ 30 ∷ []) ∷ [])
    ≡ record { rank = 1; tied = true } ∷ record { rank = 1; tied = true }
    ∷ record { rank = 3; tied = false } ∷ []
complete_tie_shares_a_rank = refl

pub lines_ranked_at_most : MAX_RANKED ≡ 1000
lines_ranked_at_most = refl

pub first_rank_is_shared_without_a_race : places (all_counting [] ∷ all_counting [] ∷ [])
    ≡ record { rank = 1; tied = true } ∷ record { rank = 1; tied = true } ∷ []
first_rank_is_shared_without_a_race = refl

-- ---- redress (A9)

-- a score without redress
abbrev pub item : ℕ → RowItem
item plain = record { plain = plain; redress = None }

-- a score with points given as redress (A9(c))
abbrev pub handed_in : ℕ → ℕ → RowItem
handed_in plain award = record { plain = plain; redress = Some (Points award) }

-- a score with the average of all other races as redress (A9(a))
abbrev pub average_of_all : ℕ → RowItem
average_of_all plain = record { plain = plain; redress = Some AllRaces }

-- a score with the average of the races before as redress (A9(b))
abbrev pub average_of_before : ℕ → RowItem
average_of_before plain = record { plain = plain; redress = Some RacesBefore }

pub points_handed_in_are_averaged_elsewhere :
    points (handed_in 50 75 ∷ item 20 ∷ average_of_all 50 ∷ []) ≡ 75 ∷ 20 ∷ 48 ∷ []
points_handed_in_are_averaged_elsewhere = refl

pub half_a_tenth_goes_upward : points (item 10 ∷ item 15 ∷ average_of_all 40 ∷ [])
    ≡ 10 ∷ 15 ∷ 13 ∷ []
half_a_tenth_goes_upward = refl

pub average_of_three_races : points (item 10 ∷ item 20 ∷ item 20 ∷ average_of_all 50 ∷ [])
    ≡ 10 ∷ 20 ∷ 20 ∷ 17 ∷ []
average_of_three_races = refl

pub average_of_races_before : points (item 10 ∷ average_of_before 50 ∷ item 30 ∷ [])
    ≡ 10 ∷ 10 ∷ 30 ∷ []
average_of_races_before = refl

pub averages_are_left_out : points (item 30 ∷ average_of_all 50 ∷ average_of_all 60 ∷ [])
    ≡ 30 ∷ 30 ∷ 30 ∷ []
averages_are_left_out = refl

pub her_score_where_no_race_is_left : points (average_of_all 40 ∷ []) ≡ 40 ∷ []
her_score_where_no_race_is_left = refl

pub her_score_where_no_race_is_before : points (average_of_before 40 ∷ item 20 ∷ []) ≡ 40 ∷ 20 ∷ []
her_score_where_no_race_is_before = refl
