-- Updates: what a command changes of what is kept and of the scores.
use Rattle.std.proofs.Common.{◌≡◌, ℕ, zero, suc, ◌+◌, ◌-◌, ◌<◌, ◌≤◌, Bool, true, false, List, [], ◌∷◌}
use Rattle.std.proofs.Common.{◌++◌, ap, refl, ◌∙◌, sym, subst, arith, length, map, filter, get_or}
use Rattle.std.proofs.Common.{nat_eq, nat_lt, cond, slice_set, All, Some}
use borrow.Author.Tests.{eqb-true, ltb-true, ltb-false}
use Rattle.std.specs.Global.{Box, Vec}
use Rattle.std.specs.Prelude.{vec_capacity}
use Rattle.std.specs.List.{range_with_len}
use Rattle.std.proofs.lemmas.List.{length-set, get_or-set_other, get_or-set_same, get_or_past}
use Rattle.std.proofs.lemmas.List.FromFn.{length-range_with_len, get_or-range_with_len}
use Rattle.regatta_terms.specs.Entries.{IsRace}
use Rattle.regatta_terms.specs.Rules.{RulesParts}
use Rattle.regatta_terms.specs.declared.limits.TheConstants.{MAX_RACES}
use Rattle.regatta_scores.specs.Sheet.{Sheet, empty_sheet}
use Rattle.regatta_scores.specs.Changes.{after}
use Rattle.regatta_scores.specs.Current.{with_changed, AreWithin}
use Rattle.regatta_scores.specs.KeptRanking.{IsRanking}
use Rattle.regatta_scores.specs.Lines.{line_by}
use Rattle.regatta_scores.specs.RaceScores.{no_score, scores_in, ScoresAs}
use Rattle.regatta_scores.specs.Ranking.{BoatScores}
use Rattle.regatta_scores.specs.declared.boats.RaceScore.{RaceScore}
use Rattle.regatta_scores.specs.declared.current.NewLine.{NewLine}
use Rattle.regatta_scores.specs.declared.sheet.Change.{Change}
use Rattle.regatta_scores.specs.declared.sheet.Change.TheVariants.{AddBoat}
use Rattle.regatta_terms.specs.declared.sail.Sail.{Sail}
use Rattle.regatta_board.specs.declared.act.Step.TheVariants as step
use Rattle.regatta_board.specs.declared.column.NewColumn.{NewColumn}
use Rattle.regatta_board.specs.declared.scoring.update.Update.TheVariants as update
use Rattle.regatta_board.specs.Refusals.{limits}
use Rattle.regatta_board.specs.Scoring.{Scoring, IsScoring, IsTurned, AreColumns, AreNewLines}
use Rattle.regatta_board.specs.Scoring.{column_at, columns_in, lines_by, with_column}
use Rattle.regatta_board.specs.Step.{sheet_in, stepped, with_sheet}
use Rattle.regatta_board.specs.Table.{Kept, IsKept, column, columns, races, lines, no_line}
use Rattle.regatta_board.specs.Update.{IsUpdate, MayStep}
use Rattle.regatta_board.proofs.Lines.{line_at, lines_more}
use Rattle.regatta_board.proofs.Scored.{columns_found, counted_at, line_stays, uncounted_at}
use Rattle.regatta_board.proofs.Scored.{uncounted_sheet}
use Rattle.regatta_board.proofs.ScoringFacts.{AreOtherColumns, column_even, columns_turned}
use Rattle.regatta_board.proofs.ScoringFacts.{found_even, found_few, found_lines, lines_by_long}

pub none_there : (xs : List ℕ) → nat_eq (length xs) 0 ≡ true → xs ≡ []
none_there [] e = refl
none_there (x ∷ xs) e = let same = eqb-true (length (x ∷ xs)) 0 e in absurd (omega (arith, same))

-- without new lines the lines stay
pub nothing_new : (old : List BoatScores) (news : List NewLine) → length news ≡ 0
    → old ≡ with_changed old news
nothing_new old [] e = refl
nothing_new old (n ∷ news) e = absurd (omega (arith, e))

-- ---- no race counts

none_passed : (p : ℕ → Bool) (xs : List ℕ) → filter p xs ≡ [] → (k d : ℕ) → k < length xs
    → p (get_or xs k d) ≡ false
none_passed p [] e k d h = absurd (omega (arith, h))
none_passed p (x ∷ xs) e k d h = by (p x) refl e (λ none j w. none_passed p xs none j d w) k h
  where
    by : (b : Bool) → p x ≡ b → cond b (x ∷ filter p xs) (filter p xs) ≡ []
        → (filter p xs ≡ [] → (j : ℕ) → j < length xs → p (get_or xs j d) ≡ false)
        → (k : ℕ) → k < length (x ∷ xs) → p (get_or (x ∷ xs) k d) ≡ false
    by true is none rest k h = absurd (cc)
    by false is none rest zero h = is
    by false is none rest (suc k) h = rest none k (omega (arith, h))

-- if no race counts, each column is empty
none_counts : (counts : List Bool) → length counts ≡ MAX_RACES → races counts ≡ [] → (k : ℕ)
    → get_or counts k false ≡ false
none_counts counts sized none k = by (nat_lt k MAX_RACES) refl
  where
    by : (b : Bool) → nat_lt k MAX_RACES ≡ b → get_or counts k false ≡ false
    by true e =
        let low : k < MAX_RACES = ltb-true k MAX_RACES e in
        let race : get_or (range_with_len 1 MAX_RACES) k 0 ≡ 1 + k =
        get_or-range_with_len 1 MAX_RACES k 0 low in
        let back : (1 + k) - 1 ≡ k = omega arith in
        ap (λ n. get_or counts n false) (sym (ap (λ r. r - 1) race ∙ back))
        ∙ none_passed (λ r. get_or counts (r - 1) false) (range_with_len 1 MAX_RACES) none k 0
        (omega (arith, low, length-range_with_len 1 MAX_RACES))
    by false e =
        let past : MAX_RACES ≤ k = ltb-false k MAX_RACES e in
        get_or_past counts k false (omega (arith, sized, past))

-- ---- updates that are made from the scores of what is kept

module _ {rules : RulesParts} {before : Kept} {scoring : Scoring}
    (is : IsScoring rules before scoring) where
  -- the lines before are the same in all scores
  lines_same : (old : Scoring) → IsScoring rules before old → scoring.lines ≡ old.lines
  lines_same old was = is.lines ∙ sym was.lines

  -- a sheet of a race that doesn't count changes no score
  pub sheet_update : (race : ℕ) (sheet : Sheet) → get_or before.counts (race - 1) false ≡ false
      → IsUpdate rules before (with_sheet before race sheet) (update.Sheet race sheet)
  sheet_update race sheet none = record {
    kept = refl;
    room = λ old was. tt;
    scores = λ old was. record {
      races = was.races;
      long = was.long;
      columns = uncounted_sheet rules before old.columns was.columns (race - 1) sheet none;
      lines = was.lines ∙ (λ i. lines rules
          ((sym (columns_found rules before old.columns was.columns)
          ∙ columns_found rules (with_sheet before race sheet) old.columns
          (uncounted_sheet rules before old.columns was.columns (race - 1) sheet none)) i)
          (length before.sails));
      ranking = was.ranking;
    };
  }

  -- one more boat is entered
  module _ (sails : List Sail) (sheets : Box (List Sheet)) where
    abbrev fleet : Kept
    fleet = record before { sails = sails; sheets = sheets.value }

    pub entered_update : (columns : Vec (List RaceScore)) → length columns.items ≡ MAX_RACES
        → AreColumns rules sheets.value before.counts columns.items
        → (made : Vec BoatScores) → limits.boats ≤ vec_capacity made
        → made.items ≡ lines_by rules fleet → (ranking : List ℕ) → IsRanking made.items ranking
        → IsUpdate rules before fleet (update.Entered sails sheets columns made ranking)
    entered_update columns long are made room made_are ranking ranked = record {
      kept = refl;
      room = λ old was. room;
      scores = λ old was. record {
        races = was.races;
        long = long;
        columns = are;
        lines = made_are;
        ranking = ranked;
      };
    }

    -- before a race counts, she has one more line
    pub added_update : IsKept before → races before.counts ≡ []
        → length sails ≡ length before.sails + 1 → length sails ≤ limits.boats
        → (ranking : List ℕ) → IsRanking (scoring.lines ++ no_line ∷ []) ranking
        → IsUpdate rules before fleet (update.Added sails sheets ranking)
    added_update whole none one few ranking ranked = record {
      kept = refl;
      room = λ old was. omega (
        arith,
        few,
        one,
        ap length was.lines,
        lines_by_long rules before,
      );
      scores = λ old was. record {
        races = was.races;
        long = was.long;
        columns = λ k. was.columns k ∙ uncounted_at rules before.sheets before.counts k (off k)
            ∙ sym (uncounted_at rules sheets.value before.counts k (off k));
        lines = ap (λ ls. ls ++ no_line ∷ []) was.lines ∙ with_hers;
        ranking = subst (λ ls. IsRanking (ls ++ no_line ∷ []) ranking) (lines_same old was) ranked;
      };
    }
      where
        off : (k : ℕ) → get_or before.counts k false ≡ false
        off = none_counts before.counts whole.counts none

        with_hers : lines_by rules before ++ no_line ∷ [] ≡ lines_by rules fleet
        with_hers =
            let n = length before.sails in
            ap (λ rs. lines rules (columns rules before.sheets rs) n ++ line_by rules [] ∷ [])
            none
            ∙ sym (lines_more rules [] n)
            ∙ ap (lines rules []) (sym one)
            ∙ ap (λ rs. lines rules (columns rules sheets.value rs) (length sails)) (sym none)

-- the entry list and the sheets with one more boat
pub boat_step : (before : Kept) (sail : Sail) {sails : List Sail} {sheets : List Sheet}
    → sails ≡ before.sails ++ sail ∷ []
    → sheets ≡ map (λ sheet. after sheet AddBoat) before.sheets
    → record before { sails = sails; sheets = sheets } ≡ stepped before (step.Enter sail)
boat_step before sail e f i = record before { sails = e i; sheets = f i }

-- ---- a sheet of a race that counts

module _ {rules : RulesParts} {kept : Kept} {scoring : Scoring} {race : ℕ} {change : Change}
    (may : MayStep rules kept scoring (step.Sheet race change)) (within : IsRace race)
    (counts : get_or kept.counts (race - 1) false ≡ true) {sheet : Sheet}
    (is : sheet ≡ after (sheet_in kept race) change) {hers : List RaceScore}
    (hers_is : hers ≡ column rules sheet) where
  abbrev next : Kept
  next = stepped kept (step.Sheet race change)

  abbrev new : NewColumn
  new = record { race = race; column = hers }

  abbrev slots : List (List RaceScore)
  slots = with_column scoring.columns (Some new)

  -- the lines computed from the new columns
  abbrev remade : List BoatScores
  remade = lines rules (columns_in slots scoring.races) (length scoring.lines)

  other_sheets : AreOtherColumns rules kept next race
  other_sheets k apart =
      ap (λ s. cond (get_or kept.counts k false) (column rules s) [])
      (sym (get_or-set_other kept.sheets (race - 1) k (after (sheet_in kept race) change)
      (empty_sheet 0) apart))

  -- the column of the race is that of its new sheet
  sheet_turns : hers ≡ column_at rules next.sheets kept.counts (race - 1)
  sheet_turns = hers_is ∙ ap (column rules) (is ∙ sym (get_or-set_same kept.sheets (race - 1)
      (after (sheet_in kept race) change) (empty_sheet 0)
      (omega (arith, within.0, within.1, may.kept.sheets))))
      ∙ sym (counted_at rules next.sheets kept.counts (race - 1) counts)

  turned : (old : Scoring) → IsScoring rules kept old
      → AreColumns rules next.sheets kept.counts (with_column old.columns (Some new))
  turned old was =
      columns_turned rules kept next race within hers other_sheets sheet_turns old.columns was.long
      was.columns

  long : length scoring.lines ≡ length kept.sails
  long = ap length may.scoring.lines ∙ lines_by_long rules kept

  at : race - 1 < length scoring.columns
  at = omega (arith, within.0, within.1, may.scoring.long)

  -- a boat keeps her line if a line takes the same of her scores before and after
  line_kept : (boat : ℕ) → boat < length scoring.lines
      → ScoresAs (get_or hers boat no_score)
      (get_or (get_or scoring.columns (race - 1) []) boat no_score)
      → get_or scoring.lines boat no_line
      ≡ line_by rules (scores_in (columns_in slots scoring.races) boat)
  line_kept boat h alike =
      ap (λ xs. get_or xs boat no_line) may.scoring.lines
      ∙ line_at rules (columns rules kept.sheets (races kept.counts)) (length kept.sails) boat
      no_line (omega (arith, h, long))
      ∙ ap (λ cs. line_by rules (scores_in cs boat))
      (sym (columns_found rules kept scoring.columns may.scoring.columns))
      ∙ sym (line_stays rules kept.counts scoring.columns (race - 1) boat hers alike at)
      ∙ ap (λ rs. line_by rules (scores_in (columns_in slots rs) boat)) (sym may.scoring.races)

  pub lines_before : IsTurned rules scoring.lines (get_or scoring.columns (race - 1) []) hers
      (columns_in slots scoring.races)
  lines_before =
      let are = turned scoring may.scoring in record {
        most = omega (arith, long, may.kept.few);
        few = found_few rules next may.whole slots are may.scoring.races refl;
        even = found_even rules next may.whole slots are may.scoring.races refl
            (length scoring.lines) long;
        old = column_even rules kept may.kept scoring.columns may.scoring.columns race within counts
            ∙ sym long;
        new = ap length (sym (get_or-set_same scoring.columns (race - 1) hers [] at))
            ∙ column_even rules next may.whole slots are race within counts ∙ sym long;
        stays = line_kept;
      }

  lines_after : remade ≡ lines_by rules next
  lines_after =
      found_lines rules next may.whole slots (turned scoring may.scoring) may.scoring.races refl
      (length scoring.lines) long

  -- no line changes
  pub same_lines : (news : List NewLine) → AreNewLines scoring.lines remade news
      → length news ≡ 0 → IsUpdate rules kept next (update.Column sheet new)
  same_lines news are none = record {
    kept = ap (with_sheet kept race) is;
    room = λ old was. tt;
    scores = λ old was. record {
      races = was.races;
      long = length-set old.columns (race - 1) hers ∙ was.long;
      columns = turned old was;
      lines = sym (lines_same may.scoring old was) ∙ nothing_new scoring.lines news none
          ∙ are.value ∙ lines_after;
      ranking = was.ranking;
    };
  }

  -- some lines change
  pub some_lines : (made : Vec NewLine) → AreNewLines scoring.lines remade made.items
      → {ranking : List ℕ} → IsRanking (with_changed scoring.lines made.items) ranking
      → IsUpdate rules kept next (update.Lines sheet new made ranking)
  some_lines made are {ranking} ranked = record {
    kept = ap (with_sheet kept race) is;
    room = λ old was. subst (λ ls. AreWithin (length ls) made.items)
        (lines_same may.scoring old was) are.each.0;
    scores = λ old was. record {
      races = was.races;
      long = length-set old.columns (race - 1) hers ∙ was.long;
      columns = turned old was;
      lines = ap (λ ls. with_changed ls made.items) (sym (lines_same may.scoring old was))
          ∙ are.value ∙ lines_after;
      ranking = subst (λ ls. IsRanking (with_changed ls made.items) ranking)
          (lines_same may.scoring old was) ranked;
    };
  }

-- ---- whether a race counts

module _ {rules : RulesParts} {kept : Kept} {scoring : Scoring} {race : ℕ} {counts : Bool}
    (may : MayStep rules kept scoring (step.Counts race counts)) (within : IsRace race)
    {hers : List RaceScore} (hers_is : hers ≡ cond counts (column rules (sheet_in kept race)) []) where
  abbrev recounted : Kept
  recounted = stepped kept (step.Counts race counts)

  other_counts : AreOtherColumns rules kept recounted race
  other_counts k apart =
      ap (λ b. cond b (column rules (get_or kept.sheets k (empty_sheet 0))) [])
      (sym (get_or-set_other kept.counts (race - 1) k counts false apart))

  counts_turn : (old : Scoring) → IsScoring rules kept old
      → AreColumns rules kept.sheets recounted.counts
      (with_column old.columns (Some (record { race = race; column = hers })))
  counts_turn old was =
      columns_turned rules kept recounted race within hers other_counts
      (hers_is ∙ ap (λ b. cond b (column rules (sheet_in kept race)) [])
      (sym (get_or-set_same kept.counts (race - 1) counts false
      (omega (arith, within.0, within.1, may.kept.counts))))) old.columns was.long was.columns

  module _ {columns : List (List RaceScore)} (old : columns ≡ scoring.columns) {counted : List ℕ}
      (counted_are : counted ≡ races recounted.counts) {n : ℕ} (all : n ≡ length kept.sails) where
    abbrev changed : List (List RaceScore)
    changed = with_column columns (Some (record { race = race; column = hers }))

    changed_are : AreColumns rules kept.sheets recounted.counts changed
    changed_are =
        subst (λ cs. AreColumns rules kept.sheets recounted.counts
        (with_column cs (Some (record { race = race; column = hers })))) (sym old)
        (counts_turn scoring may.scoring)

    pub counts_even : All (λ c. length c ≡ n) (columns_in changed counted)
    counts_even = found_even rules recounted may.whole changed changed_are counted_are refl n all

    -- all lines change
    pub all_lines : {made : Vec BoatScores} → limits.boats ≤ vec_capacity made
        → made.items ≡ lines rules (columns_in changed counted) n → {ranking : List ℕ}
        → IsRanking made.items ranking → (flags : Vec Bool)
        → flags.items ≡ slice_set kept.counts (race - 1) counts
        → {scored : List ℕ} → scored ≡ races recounted.counts
        → IsUpdate rules kept recounted
        (update.Counts flags scored (record { race = race; column = hers }) made ranking)
    all_lines room made_are ranked flags are scored_are = record {
      kept = λ i. record kept { counts = are i };
      room = λ old was. room;
      scores = λ old was. record {
        races = scored_are;
        long = length-set old.columns (race - 1) hers ∙ was.long;
        columns = counts_turn old was;
        lines = made_are
            ∙ found_lines rules recounted may.whole changed changed_are counted_are refl n all;
        ranking = ranked;
      };
    }
