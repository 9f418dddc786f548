-- The scores that the board keeps, after one more command.
use Rattle.std.proofs.Common.{◌≡◌, ◌≢◌, ℕ, ◌+◌, ◌-◌, ◌<◌, ◌≤◌, Bool, true, false, List, [], ◌∷◌, ◌++◌}
use Rattle.std.proofs.Common.{refl, ap, ◌∙◌, sym, arith, length, map, filter, get_or, nat_eq, nat_lt}
use Rattle.std.proofs.Common.{cond}
use Rattle.std.specs.List.{range_with_len}
use Rattle.std.proofs.Math.ListN.{set}
use Rattle.std.proofs.lemmas.List.{get_or-set_other, get_or-set_same, get_or_push}
use Rattle.std.proofs.lemmas.List.{get_or_append_left, get_or_past}
use Rattle.std.proofs.lemmas.List.Elements.{filter_passes, recursion_from_All}
use Rattle.std.proofs.lemmas.Bool.{eqb-false}
use borrow.Author.Tests.{eqb-true, ltb-true, ltb-false}
use Rattle.regatta_terms.specs.Rules.{RulesParts}
use Rattle.regatta_terms.specs.declared.limits.TheConstants.{MAX_RACES}
use Rattle.regatta_scores.specs.Sheet.{Sheet, empty_sheet}
use Rattle.regatta_scores.specs.declared.boats.RaceScore.{RaceScore}
use Rattle.regatta_scores.specs.Lines.{line_by}
use Rattle.regatta_scores.specs.RaceScores.{no_score, scores_in, ScoresAs}
use Rattle.regatta_scores.proofs.AlikeScores.{line_unmarked, unmarked, unmarked_one}
use Rattle.regatta_board.specs.Table.{Kept, column, columns, races}
use Rattle.regatta_board.specs.Scoring.{AreColumns, column_at, columns_in}
use Rattle.regatta_board.proofs.Numbers.{map_known}

-- mapping the elements that pass a test by two functions that agree on them
map_passed : {X Y : Type 0} (p : X → Bool) (f g : X → Y) → ((x : X) → p x ≡ true → f x ≡ g x)
    → (xs : List X) → map f (filter p xs) ≡ map g (filter p xs)
map_passed p f g same xs =
    map_known (λ x. p x ≡ true) f g same (filter p xs)
    (recursion_from_All (λ x. p x ≡ true) (filter p xs) (filter_passes p xs))

-- two cases: two numbers are equal, or they are not
pub one_or_other : {P : Type 0} (k r : ℕ) → (k ≡ r → P) → (k ≢ r → P) → P
one_or_other {P} k r one other = by (nat_eq k r) refl
  where
    by : (b : Bool) → nat_eq k r ≡ b → P
    by true e = one (eqb-true k r e)
    by false e = other (eqb-false k r e)

-- the column of a race, by whether it counts
pub counted_at : (rules : RulesParts) (sheets : List Sheet) (counts : List Bool) (k : ℕ)
    → get_or counts k false ≡ true
    → column_at rules sheets counts k ≡ column rules (get_or sheets k (empty_sheet 0))
counted_at rules sheets counts k e =
    ap (λ b. cond b (column rules (get_or sheets k (empty_sheet 0))) []) e

pub uncounted_at : (rules : RulesParts) (sheets : List Sheet) (counts : List Bool) (k : ℕ)
    → get_or counts k false ≡ false → column_at rules sheets counts k ≡ []
uncounted_at rules sheets counts k e =
    ap (λ b. cond b (column rules (get_or sheets k (empty_sheet 0))) []) e

module _ (rules : RulesParts) (kept : Kept) (found : List (List RaceScore))
    (are : AreColumns rules kept.sheets kept.counts found) where
  -- the columns of the races that count are those of their sheets
  pub columns_found : columns_in found (races kept.counts)
      ≡ columns rules kept.sheets (races kept.counts)
  columns_found =
      map_passed (λ race. get_or kept.counts (race - 1) false)
      (λ race. get_or found (race - 1) [])
      (λ race. column rules (get_or kept.sheets (race - 1) (empty_sheet 0)))
      (λ race counts. are (race - 1) ∙ counted_at rules kept.sheets kept.counts (race - 1) counts)
      (range_with_len 1 MAX_RACES)

  -- a new sheet of a race that doesn't count
  pub uncounted_sheet : (r : ℕ) (sheet : Sheet) → get_or kept.counts r false ≡ false
      → AreColumns rules (set kept.sheets r sheet) kept.counts found
  uncounted_sheet r sheet none k = are k
      ∙ one_or_other k r
      (λ e. let off : get_or kept.counts k false ≡ false =
      ap (λ n. get_or kept.counts n false) e ∙ none in
      uncounted_at rules kept.sheets kept.counts k off
      ∙ sym (uncounted_at rules (set kept.sheets r sheet) kept.counts k off))
      (λ apart. ap (λ s. cond (get_or kept.counts k false) (column rules s) [])
      (sym (get_or-set_other kept.sheets r k sheet (empty_sheet 0) apart)))

-- a boat keeps her line if a line takes the same of her scores in the only new column
pub line_stays : (rules : RulesParts) (counts : List Bool) (found : List (List RaceScore)) (r b : ℕ)
    (new : List RaceScore)
    → ScoresAs (get_or new b no_score) (get_or (get_or found r []) b no_score) → r < length found
    → line_by rules (scores_in (columns_in (set found r new) (races counts)) b)
    ≡ line_by rules (scores_in (columns_in found (races counts)) b)
line_stays rules counts found r b new same h =
    sym (line_unmarked rules
    (scores_in (columns_in (set found r new) (races counts)) b))
    ∙ ap (line_by rules) (each (races counts))
    ∙ line_unmarked rules
    (scores_in (columns_in found (races counts)) b)
  where
    each : (rs : List ℕ)
        → map unmarked (scores_in (columns_in (set found r new) rs) b)
        ≡ map unmarked (scores_in (columns_in found rs) b)
    each [] = refl
    each (x ∷ xs) = λ i. here i ∷ each xs i
      where
        here : unmarked (get_or (get_or (set found r new) (x - 1) []) b no_score)
            ≡ unmarked (get_or (get_or found (x - 1) []) b no_score)
        here = one_or_other (x - 1) r
            (λ e. rw e (ap (λ c. unmarked (get_or c b no_score)) (get_or-set_same found r new [] h)
            ∙ unmarked_one (get_or new b no_score) (get_or (get_or found r []) b no_score) same))
            (λ apart. ap (λ c. unmarked (get_or c b no_score))
            (get_or-set_other found r (x - 1) new [] apart))

module _ (rules : RulesParts) (sheets : List Sheet) (counts : List Bool) where
  -- the column of the next race is appended
  pub columns_pushed : (i : ℕ) (found new : List (List RaceScore)) (next : List RaceScore)
      → new ≡ found ++ next ∷ [] → length found ≡ i
      → ((k : ℕ) → k < i → get_or found k [] ≡ column_at rules sheets counts k)
      → next ≡ column_at rules sheets counts i
      → (k : ℕ) → k < i + 1 → get_or new k [] ≡ column_at rules sheets counts k
  columns_pushed i found new next e long are is k h =
      one_or_other k i
      (λ at. ap (λ xs. get_or xs k []) e ∙ get_or_push found next [] k (long ∙ sym at) ∙ is
      ∙ ap (column_at rules sheets counts) (sym at))
      (λ apart. ap (λ xs. get_or xs k []) e
      ∙ get_or_append_left found (next ∷ []) [] k (below k i (length found) h apart long)
      ∙ are k (below k i i h apart refl))
    where
      below : (k i n : ℕ) → k < i + 1 → k ≢ i → n ≡ i → k < n
      below k i n h apart e = omega (arith, h, apart, e)

  -- when those of all races are appended, each is right
  pub columns_all : (found : List (List RaceScore)) → length counts ≡ MAX_RACES
      → length found ≡ MAX_RACES
      → ((k : ℕ) → k < MAX_RACES → get_or found k [] ≡ column_at rules sheets counts k)
      → AreColumns rules sheets counts found
  columns_all found sized long are k = by (nat_lt k MAX_RACES) refl
    where
      by : (b : Bool) → nat_lt k MAX_RACES ≡ b → get_or found k [] ≡ column_at rules sheets counts k
      by true e = are k (ltb-true k MAX_RACES e)
      by false e =
          let past : MAX_RACES ≤ k = ltb-false k MAX_RACES e in
          get_or_past found k [] (omega (arith, long, past))
          ∙ sym (uncounted_at rules sheets counts k (get_or_past counts k false
          (omega (arith, sized, past))))
