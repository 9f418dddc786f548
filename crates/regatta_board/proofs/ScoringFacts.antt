-- The columns, lines and scores that are computed from what is kept.
use Rattle.std.proofs.Common.{◌≡◌, ◌≢◌, ℕ, zero, suc, ◌-◌, ◌<◌, ◌≤◌, true, false, List, [], ◌∷◌}
use Rattle.std.proofs.Common.{ap, ◌∙◌, sym, subst, arith, length, get_or, All, Some}
use Rattle.std.specs.List.{range_with_len, AllByRecursion}
use Rattle.std.proofs.lemmas.List.{length-map, get_or-set_other, get_or-set_same}
use Rattle.regatta_terms.specs.Entries.{IsRace}
use Rattle.regatta_terms.specs.Rules.{RulesParts}
use Rattle.regatta_terms.specs.declared.limits.TheConstants.{MAX_RACES}
use Rattle.regatta_scores.specs.Lines.{line_by}
use Rattle.regatta_scores.specs.RaceScores.{no_score, scores_in}
use Rattle.regatta_scores.specs.Ranking.{BoatScores}
use Rattle.regatta_scores.specs.declared.boats.RaceScore.{RaceScore}
use Rattle.regatta_scores.proofs.Lengths.{long_points}
use Rattle.regatta_scores.proofs.Members.{all_passed}
use Rattle.regatta_board.specs.Scoring.{AreColumns, column_at}
use Rattle.regatta_board.specs.Scoring.{columns_in, lines_by, with_column}
use Rattle.regatta_board.specs.Step.{sheet_in}
use Rattle.regatta_board.specs.Table.{Kept, IsKept, columns, races, lines}
use Rattle.regatta_board.proofs.Columns.{column_long, columns_few, races_few}
use Rattle.regatta_board.proofs.LedgerLemmas.{sheet_long}
use Rattle.regatta_board.proofs.Lines.{line_at, lines_long}
use Rattle.regatta_board.proofs.Numbers.{all_races}
use Rattle.regatta_board.proofs.Scored.{columns_found, counted_at, one_or_other}

-- the columns of the races that count have a score for each boat
pub columns_even : (rules : RulesParts) (kept : Kept) → IsKept kept
    → All (λ c. length c ≡ length kept.sails) (columns rules kept.sheets (races kept.counts))
columns_even rules kept is =
    even (races kept.counts)
    (all_passed IsRace (λ r. get_or kept.counts (r - 1) false) (range_with_len 1 MAX_RACES)
    all_races)
  where
    even : (rs : List ℕ) → AllByRecursion IsRace rs
        → (k : ℕ) (d : List RaceScore) → k < length (columns rules kept.sheets rs)
        → length (get_or (columns rules kept.sheets rs) k d) ≡ length kept.sails
    even [] all k d h = absurd (omega (arith, h))
    even (r ∷ rs) all zero d h =
        column_long rules (sheet_in kept r) ∙ sheet_long kept is r all.0
    even (r ∷ rs) all (suc k) d h = even rs all.1 k d (omega (arith, h))

pub lines_by_long : (rules : RulesParts) (kept : Kept) → length (lines_by rules kept)
    ≡ length kept.sails
lines_by_long rules kept =
    lines_long rules (columns rules kept.sheets (races kept.counts)) (length kept.sails)

-- columns that are looked up one by one are those of the sheets
module _ (rules : RulesParts) (kept : Kept) (is : IsKept kept) (slots : List (List RaceScore))
    (are : AreColumns rules kept.sheets kept.counts slots) {rs : List ℕ}
    (counted : rs ≡ races kept.counts) {found : List (List RaceScore)}
    (each : found ≡ columns_in slots rs) where
  pub found_columns : found ≡ columns rules kept.sheets (races kept.counts)
  found_columns = each ∙ ap (columns_in slots) counted ∙ columns_found rules kept slots are

  pub found_even : (n : ℕ) → n ≡ length kept.sails → All (λ c. length c ≡ n) found
  found_even n e =
      subst (λ cs. All (λ c. length c ≡ n) cs) (sym found_columns)
      (subst (λ m. All (λ c. length c ≡ m) (columns rules kept.sheets (races kept.counts))) (sym e)
      (columns_even rules kept is))

  pub found_few : length found ≤ MAX_RACES
  found_few =
      let few : length rs ≤ MAX_RACES = rw counted (races_few kept.counts) in
      columns_few (λ race. get_or slots (race - 1) []) rs found each few

  -- the lines computed from them are those of what is kept
  pub found_lines : (n : ℕ) → n ≡ length kept.sails → lines rules found n ≡ lines_by rules kept
  found_lines n e i = lines rules (found_columns i) (e i)

-- the column of a race that counts has a score for each boat
pub column_even : (rules : RulesParts) (kept : Kept) → IsKept kept
    → (found : List (List RaceScore)) → AreColumns rules kept.sheets kept.counts found
    → (race : ℕ) → IsRace race → get_or kept.counts (race - 1) false ≡ true
    → length (get_or found (race - 1) []) ≡ length kept.sails
column_even rules kept is found are race within counts =
    ap length (are (race - 1) ∙ counted_at rules kept.sheets kept.counts (race - 1) counts)
    ∙ column_long rules (sheet_in kept race)
    ∙ sheet_long kept is race within

-- a boat's line has one score for each race that counts
pub line_long : (rules : RulesParts) (found : List (List RaceScore)) (boat : ℕ) (hers : BoatScores)
    → hers ≡ line_by rules (scores_in found boat) → length hers.points ≡ length found
line_long rules found boat hers e =
    ap (λ (l : BoatScores). length l.points) e ∙ long_points (scores_in found boat)
    ∙ length-map found (λ c. get_or c boat no_score)

pub all_long : (rules : RulesParts) (found : List (List RaceScore)) (n : ℕ)
    → All (λ (l : BoatScores). length l.points ≡ length found) (lines rules found n)
all_long rules found n k d h =
    line_long rules found k (get_or (lines rules found n) k d)
    (line_at rules found n k d (omega (arith, h, lines_long rules found n)))

-- ---- a new column of one race

-- the columns of races other than this one stay
abbrev pub AreOtherColumns : RulesParts → Kept → Kept → ℕ → Type 0
AreOtherColumns rules before after race =
    (k : ℕ) → k ≢ race - 1
    → column_at rules before.sheets before.counts k ≡ column_at rules after.sheets after.counts k

-- with the new column of a race, the columns are those of what is kept afterwards
pub columns_turned : (rules : RulesParts) (before after : Kept) (race : ℕ) → IsRace race
    → (hers : List RaceScore) → AreOtherColumns rules before after race
    → hers ≡ column_at rules after.sheets after.counts (race - 1)
    → (old : List (List RaceScore)) → length old ≡ MAX_RACES
    → AreColumns rules before.sheets before.counts old
    → AreColumns rules after.sheets after.counts
    (with_column old (Some (record { race = race; column = hers })))
columns_turned rules before after race within hers others is old sized are k =
    let new : List (List RaceScore) =
    with_column old (Some (record { race = race; column = hers })) in
    one_or_other k (race - 1)
    (λ e. ap (λ n. get_or new n []) e
    ∙ get_or-set_same old (race - 1) hers [] (omega (arith, sized, within.0, within.1))
    ∙ is ∙ ap (column_at rules after.sheets after.counts) (sym e))
    (λ apart. get_or-set_other old (race - 1) k hers [] apart ∙ are k ∙ others k apart)
