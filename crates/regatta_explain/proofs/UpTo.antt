-- The table of a journal without the Score and Unscore of later races is that of the first races
-- that count.
use Rattle.std.proofs.Common.{◌≡◌, ℕ, ◌+◌, ◌<◌, ◌≤◌, Bool, true, false, cond, not, List, [], ◌∷◌, ◌++◌}
use Rattle.std.proofs.Common.{refl, ap, ◌∙◌, sym, arith, length, map, filter, filter_map, fold, get_or}
use Rattle.std.proofs.Common.{◌&&◌, ◌||◌, nat_eq, nat_lt, Some, None, count_by, suc, take, unwrap_or, zero}
use Rattle.std.specs.List.{after_last, cons_option, last_or, list_any, range_with_len}
use Rattle.std.specs.Prelude.{zip}
use Rattle.std.proofs.lemmas.Bool.{le-ltb, lt-ltb}
use Rattle.std.proofs.lemmas.List.FromFn.{get_or-map-range_with_len, length-map-range_with_len}
use borrow.Author.Tests.{eqb-true}
use Rattle.regatta_terms.specs.Effects.{Act, AheadOf, AtEnd, ByTime, Counts, Decides, Decision, Effect}
use Rattle.regatta_terms.specs.Effects.{Enters, InRace, Places, Strikes, TiedWith, effect}
use Rattle.regatta_terms.specs.Entries.{EntryParts}
use Rattle.regatta_terms.specs.Rules.{RulesParts}
use Rattle.regatta_terms.specs.declared.command.PenaltyKind.TheVariants.{Zfp, Scp}
use Rattle.regatta_terms.specs.declared.limits.TheConstants.{MAX_RACES}
use Rattle.regatta_terms.specs.declared.sail.Sail.{Sail}
use Rattle.regatta_scores.specs.CorrectedTimes.{order_of_times}
use Rattle.regatta_scores.specs.Journal.{Journal, act_in, acts, code_marked, decision_on, ends_time}
use Rattle.regatta_scores.specs.Journal.{entered, held, is_clear, is_penalty, is_scored, lasting_times}
use Rattle.regatta_scores.specs.Journal.{order, order_after, race_counts, redress_given, sail_entered}
use Rattle.regatta_scores.specs.Journal.{same_sail, scored}
use Rattle.regatta_scores.specs.Lines.{line_by, row_by}
use Rattle.regatta_scores.specs.Outcomes.{outcome, score_of}
use Rattle.regatta_scores.specs.RacePoints.{Race, journal_race}
use Rattle.regatta_scores.specs.Ranking.{place}
use Rattle.regatta_scores.specs.Standing.{sorted_rows, standing}
use Rattle.regatta_scores.specs.declared.sheet.Held.{Held}
use Rattle.regatta_scores.specs.declared.table.Row.{Row}
use Rattle.regatta_scores.proofs.TiedTimes.{map_filter}
use Rattle.regatta_board.specs.RanksAfter.{boat_rank, ranks_after, ranks_after_each, rows_over}
use Rattle.regatta_board.proofs.Maps.{map_map}
use Rattle.regatta_explain.specs.Depends.{counts_later, up_to}
use Rattle.regatta_explain.specs.Explained.{rank_part, ranks_after as after_of}
use Rattle.regatta_explain.specs.AfterRaces.{after_by, rank_by}
use Rattle.regatta_explain.proofs.Zips.{zipped_known}

-- ---- acts without those by which a race counts

-- whether an act says that its race counts, or no longer
abbrev is_counting : Act → Bool
is_counting (Counts counts) = true
is_counting (Places sail placing) = false
is_counting (Strikes sail) = false
is_counting (Decides sail decision) = false

-- the acts without these
abbrev thinned : List Act → List Act
thinned done = filter (λ act. not (is_counting act)) done

-- they give the same order of finishing
same_fold : (start : List (List Sail)) (done : List Act)
    → fold order_after start (thinned done) ≡ fold order_after start done
same_fold start [] = refl
same_fold start (Counts counts ∷ done) = same_fold start done
same_fold start (Places sail placing ∷ done) =
    same_fold (order_after start (Places sail placing)) done
same_fold start (Strikes sail ∷ done) = same_fold (order_after start (Strikes sail)) done
same_fold start (Decides sail decision ∷ done) =
    same_fold (order_after start (Decides sail decision)) done

-- the same times
same_ends : (sail : Sail) (done : List Act)
    → list_any (ends_time sail) (thinned done) ≡ list_any (ends_time sail) done
same_ends sail [] = refl
same_ends sail (Counts counts ∷ done) = same_ends sail done
same_ends sail (Places other placing ∷ done) =
    ap (λ b. ends_time sail (Places other placing) || b) (same_ends sail done)
same_ends sail (Strikes other ∷ done) =
    ap (λ b. ends_time sail (Strikes other) || b) (same_ends sail done)
same_ends sail (Decides other decision ∷ done) =
    ap (λ b. ends_time sail (Decides other decision) || b) (same_ends sail done)

same_times : (done : List Act) → lasting_times (thinned done) ≡ lasting_times done
same_times [] = refl
same_times (Counts counts ∷ done) = same_times done
same_times (Places sail (ByTime seconds) ∷ done) =
    λ i. cond (same_ends sail done i) [] (record { boat = sail; seconds = seconds } ∷ [])
    ++ same_times done i
same_times (Places sail AtEnd ∷ done) = same_times done
same_times (Places sail (TiedWith other) ∷ done) = same_times done
same_times (Places sail (AheadOf other) ∷ done) = same_times done
same_times (Strikes sail ∷ done) = same_times done
same_times (Decides sail decision ∷ done) = same_times done

-- and the same decisions on each boat
same_decisions : (boat : Sail) (done : List Act)
    → filter_map (decision_on boat) (thinned done) ≡ filter_map (decision_on boat) done
same_decisions boat [] = refl
same_decisions boat (Counts counts ∷ done) = same_decisions boat done
same_decisions boat (Places sail placing ∷ done) = same_decisions boat done
same_decisions boat (Strikes sail ∷ done) = same_decisions boat done
same_decisions boat (Decides sail decision ∷ done) =
    ap (cons_option (decision_on boat (Decides sail decision))) (same_decisions boat done)

-- ---- effects without the Score and Unscore of later races

module _ (race : ℕ) where
  -- whether an effect stays
  abbrev stays : Effect → Bool
  stays e = not (counts_later race e)

  -- the acts in a race that is no later stay
  acts_stay : (r : ℕ) → nat_lt race r ≡ false → (es : List Effect)
      → filter_map (act_in r) (filter stays es) ≡ filter_map (act_in r) es
  acts_stay r early [] = refl
  acts_stay r early (Enters sail ∷ es) = acts_stay r early es
  acts_stay r early (InRace other (Places sail placing) ∷ es) =
      ap (cons_option (act_in r (InRace other (Places sail placing)))) (acts_stay r early es)
  acts_stay r early (InRace other (Strikes sail) ∷ es) =
      ap (cons_option (act_in r (InRace other (Strikes sail)))) (acts_stay r early es)
  acts_stay r early (InRace other (Decides sail decision) ∷ es) =
      ap (cons_option (act_in r (InRace other (Decides sail decision)))) (acts_stay r early es)
  acts_stay r early (InRace other (Counts counts) ∷ es) =
      by (nat_lt race other) refl (nat_eq r other) refl (acts_stay r early es)
    where
      by : (later : Bool) → nat_lt race other ≡ later → (here : Bool) → nat_eq r other ≡ here
          → filter_map (act_in r) (filter stays es) ≡ filter_map (act_in r) es
          → filter_map (act_in r) (cond (not later) (InRace other (Counts counts) ∷ filter stays es)
          (filter stays es))
          ≡ cons_option (cond here (Some (Counts counts)) None) (filter_map (act_in r) es)
      by true f true g rest =
          let wrong : true ≡ false =
          sym f ∙ ap (λ (n : ℕ). nat_lt race n) (sym (eqb-true r other g)) ∙ early in absurd (cc)
      by true f false g rest = rest
      by false f here g rest =
          λ i. cons_option (cond (g i) (Some (Counts counts)) None) (rest i)

  -- in a later race those stay by which it doesn't count
  acts_thin : (r : ℕ) → nat_lt race r ≡ true → (es : List Effect)
      → filter_map (act_in r) (filter stays es) ≡ thinned (filter_map (act_in r) es)
  acts_thin r late [] = refl
  acts_thin r late (Enters sail ∷ es) = acts_thin r late es
  acts_thin r late (InRace other (Places sail placing) ∷ es) =
      by (nat_eq r other) (acts_thin r late es)
    where
      by : (here : Bool)
          → filter_map (act_in r) (filter stays es) ≡ thinned (filter_map (act_in r) es)
          → cons_option (cond here (Some (Places sail placing)) None)
          (filter_map (act_in r) (filter stays es))
          ≡ thinned (cons_option (cond here (Some (Places sail placing)) None)
          (filter_map (act_in r) es))
      by true rest = ap (λ done. Places sail placing ∷ done) rest
      by false rest = rest
  acts_thin r late (InRace other (Strikes sail) ∷ es) =
      by (nat_eq r other) (acts_thin r late es)
    where
      by : (here : Bool)
          → filter_map (act_in r) (filter stays es) ≡ thinned (filter_map (act_in r) es)
          → cons_option (cond here (Some (Strikes sail)) None)
          (filter_map (act_in r) (filter stays es))
          ≡ thinned (cons_option (cond here (Some (Strikes sail)) None)
          (filter_map (act_in r) es))
      by true rest = ap (λ done. Strikes sail ∷ done) rest
      by false rest = rest
  acts_thin r late (InRace other (Decides sail decision) ∷ es) =
      by (nat_eq r other) (acts_thin r late es)
    where
      by : (here : Bool)
          → filter_map (act_in r) (filter stays es) ≡ thinned (filter_map (act_in r) es)
          → cons_option (cond here (Some (Decides sail decision)) None)
          (filter_map (act_in r) (filter stays es))
          ≡ thinned (cons_option (cond here (Some (Decides sail decision)) None)
          (filter_map (act_in r) es))
      by true rest = ap (λ done. Decides sail decision ∷ done) rest
      by false rest = rest
  acts_thin r late (InRace other (Counts counts) ∷ es) =
      by (nat_lt race other) refl (nat_eq r other) refl (acts_thin r late es)
    where
      by : (later : Bool) → nat_lt race other ≡ later → (here : Bool) → nat_eq r other ≡ here
          → filter_map (act_in r) (filter stays es) ≡ thinned (filter_map (act_in r) es)
          → filter_map (act_in r) (cond (not later) (InRace other (Counts counts) ∷ filter stays es)
          (filter stays es))
          ≡ thinned (cons_option (cond here (Some (Counts counts)) None)
          (filter_map (act_in r) es))
      by true f true g rest = rest
      by true f false g rest = rest
      by false f true g rest =
          let wrong : true ≡ false =
          sym late ∙ ap (λ (n : ℕ). nat_lt race n) (eqb-true r other g) ∙ f in absurd (cc)
      by false f false g rest =
          (λ i. cons_option (cond (g i) (Some (Counts counts)) None)
          (filter_map (act_in r) (filter stays es))) ∙ rest

  -- the boats entered stay
  boats_stay : (es : List Effect)
      → filter_map sail_entered (filter stays es) ≡ filter_map sail_entered es
  boats_stay [] = refl
  boats_stay (Enters sail ∷ es) = ap (λ boats. sail ∷ boats) (boats_stay es)
  boats_stay (InRace other (Places sail placing) ∷ es) = boats_stay es
  boats_stay (InRace other (Strikes sail) ∷ es) = boats_stay es
  boats_stay (InRace other (Decides sail decision) ∷ es) = boats_stay es
  boats_stay (InRace other (Counts counts) ∷ es) = by (nat_lt race other) (boats_stay es)
    where
      by : (later : Bool) → filter_map sail_entered (filter stays es) ≡ filter_map sail_entered es
          → filter_map sail_entered (cond (not later)
          (InRace other (Counts counts) ∷ filter stays es) (filter stays es))
          ≡ filter_map sail_entered es
      by true rest = rest
      by false rest = rest

  -- ---- the journal without them

  done_in : (journal : Journal) → map (λ (entry : EntryParts). effect entry.command) (up_to journal race)
      ≡ filter stays (map (λ (entry : EntryParts). effect entry.command) journal)
  done_in journal = sym (map_filter (λ (entry : EntryParts). effect entry.command) stays journal)

  same_entered : (journal : Journal) → entered (up_to journal race) ≡ entered journal
  same_entered journal =
      ap (filter_map sail_entered) (done_in journal)
      ∙ boats_stay (map (λ (entry : EntryParts). effect entry.command) journal)

  early_acts : (journal : Journal) (r : ℕ) → nat_lt race r ≡ false
      → acts (up_to journal race) r ≡ acts journal r
  early_acts journal r early =
      ap (filter_map (act_in r)) (done_in journal)
      ∙ acts_stay r early (map (λ (entry : EntryParts). effect entry.command) journal)

  late_acts : (journal : Journal) (r : ℕ) → nat_lt race r ≡ true
      → acts (up_to journal race) r ≡ thinned (acts journal r)
  late_acts journal r late =
      ap (filter_map (act_in r)) (done_in journal)
      ∙ acts_thin r late (map (λ (entry : EntryParts). effect entry.command) journal)

  -- what doesn't depend on which races count is the same
  told_same : {X : Type 0} (told : List Act → X)
      → ((done : List Act) → told (thinned done) ≡ told done) → (journal : Journal) (r : ℕ)
      → told (acts (up_to journal race) r) ≡ told (acts journal r)
  told_same told same journal r = by (nat_lt race r) refl
    where
      by : (late : Bool) → nat_lt race r ≡ late
          → told (acts (up_to journal race) r) ≡ told (acts journal r)
      by true e = ap told (late_acts journal r e) ∙ same (acts journal r)
      by false e = ap told (early_acts journal r e)

  same_order : (rules : RulesParts) (journal : Journal) (r : ℕ)
      → order rules (up_to journal race) r ≡ order rules journal r
  same_order rules =
      told_same (λ (done : List Act).
      cond rules.handicap (order_of_times (lasting_times done)) (fold order_after [] done))
      (λ done i. cond rules.handicap (order_of_times (same_times done i)) (same_fold [] done i))

  -- what a boat holds by the decisions on her
  abbrev held_by : List Decision → Held
  held_by decisions =
      let in_force = after_last is_clear decisions in
      record {
        code = last_or None (filter_map code_marked in_force);
        zfp = count_by (is_penalty Zfp) in_force;
        scp = count_by (is_penalty Scp) in_force;
        redress = last_or None (filter_map redress_given in_force);
      }

  same_held : (journal : Journal) (r : ℕ) (boat : Sail)
      → held (up_to journal race) r boat ≡ held journal r boat
  same_held journal r boat =
      told_same (λ (done : List Act). held_by (filter_map (decision_on boat) done))
      (λ done. ap held_by (same_decisions boat done)) journal r

  same_scored : (journal : Journal) (r : ℕ) → nat_lt race r ≡ false
      → is_scored (up_to journal race) r ≡ is_scored journal r
  same_scored journal r early =
      ap (λ (done : List Act). unwrap_or (last_or None (filter_map race_counts done)) false)
      (early_acts journal r early)

  -- no later race counts
  uncounted : (done : List Act) → filter_map race_counts (thinned done) ≡ []
  uncounted [] = refl
  uncounted (Counts counts ∷ done) = uncounted done
  uncounted (Places sail placing ∷ done) = uncounted done
  uncounted (Strikes sail ∷ done) = uncounted done
  uncounted (Decides sail decision ∷ done) = uncounted done

  scored_late : (journal : Journal) (r : ℕ) → nat_lt race r ≡ true
      → is_scored (up_to journal race) r ≡ false
  scored_late journal r late =
      ap (λ (done : List Act). unwrap_or (last_or None (filter_map race_counts done)) false)
      (late_acts journal r late)
      ∙ ap (λ (told : List Bool). unwrap_or (last_or None told) false)
      (uncounted (acts journal r))

  scored_so_far : (journal : Journal) (r : ℕ)
      → is_scored (up_to journal race) r ≡ (not (nat_lt race r) && is_scored journal r)
  scored_so_far journal r = by (nat_lt race r) refl
    where
      by : (late : Bool) → nat_lt race r ≡ late
          → is_scored (up_to journal race) r ≡ (not late && is_scored journal r)
      by true e = scored_late journal r e
      by false e = same_scored journal r e

  -- ---- the rows of the table

  same_race : (rules : RulesParts) (journal : Journal) (r : ℕ)
      → journal_race rules (up_to journal race) r ≡ journal_race rules journal r
  same_race rules journal r i = record {
    entered = same_entered journal i;
    order = same_order rules journal r i;
    held = λ boat. same_held journal r boat i;
  }

  -- the rows by what comes of these boats in these races
  abbrev rows_by : RulesParts → List Sail → (ℕ → Race Sail) → List ℕ → List Row
  rows_by rules boats race_of races =
      let scores = λ (boat : Sail).
      map (λ r. score_of (outcome same_sail rules (race_of r) boat)) races in
      let hers = λ (boat : Sail). line_by rules (scores boat) in
      sorted_rows (map (λ boat.
      row_by boat (place (map hers boats) (hers boat)) (hers boat) (scores boat)) boats)

  same_rows : (rules : RulesParts) (journal : Journal) (races : List ℕ)
      → rows_over rules (up_to journal race) races ≡ rows_over rules journal races
  same_rows rules journal races i =
      rows_by rules (same_entered journal i) (λ r. same_race rules journal r i) races

-- ---- the first races that count

-- no number above another is at most that one
none_above : (p : ℕ → Bool) (x n s : ℕ) → x < s
    → filter (λ r. not (nat_lt x r) && p r) (range_with_len s n) ≡ []
none_above p x zero s h = refl
none_above p x (suc n) s h =
    ap (λ (b : Bool). cond (not b && p s)
    (s ∷ filter (λ r. not (nat_lt x r) && p r) (range_with_len (s + 1) n))
    (filter (λ r. not (nat_lt x r) && p r) (range_with_len (s + 1) n))) (lt-ltb x s h)
    ∙ none_above p x n (s + 1) (omega (arith, h))

-- the numbers of a range that pass a test are no lower than its first
no_lower : (p : ℕ → Bool) (n s i : ℕ) → i < length (filter p (range_with_len s n))
    → s ≤ get_or (filter p (range_with_len s n)) i 0
no_lower p zero s i h = absurd (omega (arith, h))
no_lower p (suc n) s i h = by (p s) i (no_lower p n (s + 1)) h
  where
    rest : List ℕ
    rest = filter p (range_with_len (s + 1) n)

    by : (b : Bool) (i : ℕ) → ((j : ℕ) → j < length rest → s + 1 ≤ get_or rest j 0)
        → i < length (cond b (s ∷ rest) rest) → s ≤ get_or (cond b (s ∷ rest) rest) i 0
    by true zero later h = omega arith
    by true (suc j) later h = (let low = later j (omega (arith, h)) in omega (arith, low))
    by false i later h = (let low = later i h in omega (arith, low))

-- of those, the ones that are no higher than the one at a position are the first
first_passed : (p : ℕ → Bool) (n s i : ℕ) → i < length (filter p (range_with_len s n))
    → filter (λ r. not (nat_lt (get_or (filter p (range_with_len s n)) i 0) r) && p r)
    (range_with_len s n)
    ≡ take (i + 1) (filter p (range_with_len s n))
first_passed p zero s i h = absurd (omega (arith, h))
first_passed p (suc n) s i h =
    by (p s) i (first_passed p n (s + 1)) (no_lower p n (s + 1)) h
  where
    rest : List ℕ
    rest = filter p (range_with_len (s + 1) n)

    low : ℕ → List ℕ
    low x = filter (λ r. not (nat_lt x r) && p r) (range_with_len (s + 1) n)

    by : (b : Bool) (i : ℕ)
        → ((j : ℕ) → j < length rest → low (get_or rest j 0) ≡ take (j + 1) rest)
        → ((j : ℕ) → j < length rest → s + 1 ≤ get_or rest j 0)
        → i < length (cond b (s ∷ rest) rest)
        → cond (not (nat_lt (get_or (cond b (s ∷ rest) rest) i 0) s) && b)
        (s ∷ low (get_or (cond b (s ∷ rest) rest) i 0)) (low (get_or (cond b (s ∷ rest) rest) i 0))
        ≡ take (i + 1) (cond b (s ∷ rest) rest)
    by true zero passed above h =
        ap (λ (b : Bool). cond (not b && true) (s ∷ low s) (low s)) (le-ltb s s (omega arith))
        ∙ ap (λ (xs : List ℕ). s ∷ xs) (none_above p s n (s + 1) (omega arith))
    by true (suc j) passed above h =
        let x = get_or rest j 0 in
        let within : j < length rest = omega (arith, h) in
        let next : suc j + 1 ≡ suc (j + 1) = omega arith in
        ap (λ (b : Bool). cond (not b && true) (s ∷ low x) (low x))
        (le-ltb x s (omega (arith, above j within)))
        ∙ ap (λ (xs : List ℕ). s ∷ xs) (passed j within)
        ∙ ap (λ (k : ℕ). take k (s ∷ rest)) (sym next)
    by false i passed above h =
        by_either (not (nat_lt (get_or rest i 0) s)) ∙ passed i h
      where
        by_either : (b : Bool)
            → cond (b && false) (s ∷ low (get_or rest i 0)) (low (get_or rest i 0))
            ≡ low (get_or rest i 0)
        by_either true = refl
        by_either false = refl

-- up to the race at a position, these races count
scored_up_to : (journal : Journal) (race i : ℕ) → i < length (scored journal)
    → race ≡ get_or (scored journal) i 0
    → scored (up_to journal race) ≡ take (i + 1) (scored journal)
scored_up_to journal race i within is =
    (λ t. filter (λ r. scored_so_far race journal r t) (range_with_len 1 MAX_RACES))
    ∙ ap (λ (x : ℕ). filter (λ r. not (nat_lt x r) && is_scored journal r)
    (range_with_len 1 MAX_RACES)) is
    ∙ first_passed (is_scored journal) MAX_RACES 1 i within

-- the ranks after that race
pub ranks_are : (rules : RulesParts) (journal : Journal) (race i : ℕ) → i < length (scored journal)
    → race ≡ get_or (scored journal) i 0
    → map rank_part (standing rules (up_to journal race)).rows
    ≡ map rank_by (ranks_after rules journal (i + 1))
ranks_are rules journal race i within is =
    ap (λ (races : List ℕ). map rank_part (rows_over rules (up_to journal race) races))
    (scored_up_to journal race i within is)
    ∙ ap (map rank_part) (same_rows race rules journal (take (i + 1) (scored journal)))
    ∙ sym (map_map rank_by boat_rank (rows_over rules journal (take (i + 1) (scored journal))))

-- the ranks after each race that counts
pub all_after : (rules : RulesParts) (journal : Journal)
    → map after_by (zip (scored journal) (ranks_after_each rules journal))
    ≡ map (after_of rules journal) (scored journal)
unfolding after_of
all_after rules journal =
    zipped_known after_by (after_of rules journal) (scored journal) (ranks_after_each rules journal)
    (length-map-range_with_len (ranks_after rules journal) 1 (length (scored journal)))
    (λ i within. (let race = get_or (scored journal) i 0 in
    let ranks = ranks_are rules journal race i within refl in
    let known : get_or (ranks_after_each rules journal) i [] ≡ ranks_after rules journal (i + 1) =
    get_or-map-range_with_len (ranks_after rules journal) 1 (length (scored journal)) i (i + 1) []
    within (omega arith) in
    λ t. record { race = race; ranks = (ap (map rank_by) known ∙ sym ranks) t }))
