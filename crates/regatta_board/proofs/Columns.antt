-- Columns of scores.
use Rattle.std.proofs.Common.{◌≡◌, ℕ, ◌+◌, ◌-◌, Bool, false, true, cond, List, [], ◌∷◌, ◌++◌}
use Rattle.std.proofs.Common.{ap, ◌∙◌, sym, ◌≤◌, arith, length, length-append, map, filter, get_or}
use Rattle.std.specs.List.{range_with_len}
use Rattle.std.proofs.lemmas.List.{length-map}
use Rattle.std.proofs.lemmas.List.FromFn.{length-map-range_with_len, length-range_with_len}
use Rattle.std.proofs.lemmas.List.Elements.{filter-append}
use Rattle.std.proofs.lemmas.List.Sums.{length-filter, count_by-le-length}
use Rattle.regatta_terms.specs.Rules.{RulesParts}
use Rattle.regatta_terms.specs.declared.limits.TheConstants.{MAX_RACES}
use Rattle.regatta_scores.specs.Sheet.{Sheet, boats}
use Rattle.regatta_scores.specs.RaceScores.{race_score}
use Rattle.regatta_scores.proofs.Ranges.{range_more}
use Rattle.regatta_scores.specs.declared.boats.RaceScore.{RaceScore}
use Rattle.regatta_board.specs.Table.{column, races}

pub column_long : (rules : RulesParts) (sheet : Sheet) → length (column rules sheet) ≡ boats sheet
column_long rules sheet = length-map-range_with_len (race_score rules sheet) 0 (boats sheet)

races_step : (counts : List Bool) (i : ℕ)
    → filter (λ race. get_or counts (race - 1) false) (range_with_len 1 (i + 1))
    ≡ filter (λ race. get_or counts (race - 1) false) (range_with_len 1 i)
    ++ cond (get_or counts ((i + 1) - 1) false) ((i + 1) ∷ []) []
races_step counts i =
    let same : (1 + i) ≡ i + 1 = omega arith in
    let test = λ (race : ℕ). get_or counts (race - 1) false in
    ap (filter test) (range_more 1 i) ∙ filter-append test (range_with_len 1 i) ((1 + i) ∷ [])
    ∙ ap (λ k. filter test (range_with_len 1 i) ++ filter test (k ∷ [])) same

pub races_more : (counts : List Bool) (i : ℕ) (found new : List ℕ)
    → found ≡ filter (λ race. get_or counts (race - 1) false) (range_with_len 1 i)
    → new ≡ found ++ cond (get_or counts ((i + 1) - 1) false) ((i + 1) ∷ []) []
    → new ≡ filter (λ race. get_or counts (race - 1) false) (range_with_len 1 (i + 1))
races_more counts i found new e f = f
    ∙ ap (λ xs. xs ++ cond (get_or counts ((i + 1) - 1) false) ((i + 1) ∷ []) []) e
    ∙ sym (races_step counts i)

one_long : (b : Bool) (xs : List ℕ) (r : ℕ) → length (xs ++ cond b (r ∷ []) []) ≤ length xs + 1
one_long true xs r = omega (arith, length-append xs (r ∷ []))
one_long false xs r = omega (arith, length-append xs [])

pub few_more : (b : Bool) (found new : List ℕ) (i r : ℕ) → new ≡ found ++ cond b (r ∷ []) []
    → length found ≤ i → length new ≤ i + 1
few_more b found new i r e h = omega (arith, ap length e, one_long b found r)

pub races_few : (counts : List Bool) → length (races counts) ≤ MAX_RACES
races_few counts =
    omega (
      arith,
      length-filter (λ race. get_or counts (race - 1) false) (range_with_len 1 MAX_RACES),
      count_by-le-length (λ race. get_or counts (race - 1) false) (range_with_len 1 MAX_RACES),
      length-range_with_len 1 MAX_RACES,
    )

-- one column for each race: no more than races
pub columns_few : (f : ℕ → List RaceScore) (races : List ℕ) (found : List (List RaceScore))
    → found ≡ map f races → length races ≤ MAX_RACES → length found ≤ MAX_RACES
columns_few f races found is few = omega (arith, ap length is, length-map races f)

-- one more race adds to the count if it counts
pub counted_more : (counts : List Bool) (i start old new : ℕ)
    → old ≡ start + length (filter (λ race. get_or counts (race - 1) false) (range_with_len 1 i))
    → new ≡ old + cond (get_or counts i false) 1 0
    → new ≡ start
    + length (filter (λ race. get_or counts (race - 1) false) (range_with_len 1 (i + 1)))
counted_more counts i start old new e f =
    let here : (i + 1) - 1 ≡ i = omega arith in
    omega (
      arith,
      e,
      f,
      ap length (races_step counts i)
          ∙ more_long (get_or counts ((i + 1) - 1) false)
          (filter (λ race. get_or counts (race - 1) false) (range_with_len 1 i))
          ∙ ap (λ k. length (filter (λ race. get_or counts (race - 1) false) (range_with_len 1 i))
          + cond (get_or counts k false) 1 0) here,
    )
  where
    more_long : (b : Bool) (xs : List ℕ)
        → length (xs ++ cond b ((i + 1) ∷ []) []) ≡ length xs + cond b 1 0
    more_long true xs = length-append xs ((i + 1) ∷ [])
    more_long false xs = length-append xs []
