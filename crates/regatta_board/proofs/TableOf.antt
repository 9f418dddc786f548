-- The standing computed from what is kept of a journal is that of the journal.
use Rattle.std.proofs.Common.{◌≡◌, ℕ, ◌-◌, ◌<◌, true, false, List, []}
use Rattle.std.proofs.Common.{refl, ap, ◌∙◌, length, map, get_or, nat_eq}
use Rattle.std.specs.List.{range_with_len, AllByRecursion}
use Rattle.std.proofs.lemmas.List.{length-map, get_or-map}
use Rattle.regatta_terms.specs.Entries.{IsRace}
use Rattle.regatta_terms.specs.Rules.{RulesParts}
use Rattle.regatta_terms.specs.declared.sail.Sail.{Sail}
use Rattle.regatta_terms.specs.declared.limits.TheConstants.{MAX_RACES}
use Rattle.regatta_scores.specs.declared.boats.RaceScore.{RaceScore}
use Rattle.regatta_scores.specs.declared.table.Row.{Row}
use Rattle.regatta_scores.specs.Sheet.{boats, nothing_held, empty_sheet}
use Rattle.regatta_scores.specs.Journal.{Journal, same_sail, entered, held, scored}
use Rattle.regatta_scores.specs.Journal.{is_scored}
use Rattle.regatta_scores.specs.Lines.{line_by}
use Rattle.regatta_scores.specs.Outcomes.{outcome, score_of}
use Rattle.regatta_scores.specs.RacePoints.{race_of, journal_race}
use Rattle.regatta_scores.specs.RaceScores.{no_score, race_score, scores_in}
use Rattle.regatta_scores.specs.RankLaws.{lines as journal_lines}
use Rattle.regatta_scores.specs.Ranking.{place}
use Rattle.regatta_scores.specs.Lines.{row_by}
use Rattle.regatta_scores.specs.Standing as by_journal
use Rattle.regatta_scores.proofs.Renamed.{IsRenamed, outcome_same}
use Rattle.regatta_scores.proofs.Members.{all_passed}
use Rattle.regatta_board.specs.Table as all
use Rattle.regatta_board.specs.Refusals.{is_entered}
use Rattle.regatta_board.specs.KeptJournal.{number, sheet_of, kept_of, IsOrderly}
use Rattle.regatta_board.specs.RanksAfter.{line_over, row_over, rows_over, scores_over}
use Rattle.regatta_board.specs.Scoring.{lines_by}
use Rattle.regatta_board.proofs.KeptFacts.{counts_are, sheet_is}
use Rattle.regatta_board.proofs.Maps.{map_map}
use Rattle.regatta_board.proofs.Numbers.{numbers_tell, numbers_are, found_under, all_in, map_known}
use Rattle.regatta_board.proofs.Numbers.{filter_known, all_races, map_over}

-- ---- one race

module _ (rules : RulesParts) (journal : Journal) (orderly : IsOrderly rules journal) where
  pub boats_numbered : (race : ℕ) → range_with_len 0 (boats (sheet_of rules journal race))
      ≡ map (number journal) (entered journal)
  boats_numbered race = ap (range_with_len 0) (length-map (entered journal) (held journal race))
      ∙ numbers_are (entered journal) orderly.apart

  pub known_all : AllByRecursion (λ boat. is_entered journal boat ≡ true) (entered journal)
  known_all = all_in (entered journal) (entered journal) (λ x h. h)

  pub renamed : (race : ℕ)
      → IsRenamed same_sail nat_eq (λ boat. is_entered journal boat ≡ true) (number journal)
      (journal_race rules journal race)
      (race_of (sheet_of rules journal race).order (sheet_of rules journal race).held)
  renamed race = record {
    tells = λ x y h. numbers_tell (entered journal) x y h;
    all_known = known_all;
    entry_list = boats_numbered race;
    finish = refl;
    holds = λ boat. found_under (held journal race) nothing_held (entered journal) boat
        (orderly.nothing race boat);
  }

  -- a boat's score in the race
  abbrev hers : ℕ → Sail → RaceScore
  hers race boat = score_of (outcome same_sail rules (journal_race rules journal race) boat)

  score_is : (race : ℕ) (boat : Sail) → is_entered journal boat ≡ true
      → race_score rules (sheet_of rules journal race) (number journal boat) ≡ hers race boat
  score_is race boat h =
      ap score_of
      (outcome_same same_sail nat_eq (λ b. is_entered journal b ≡ true) (number journal)
      (journal_race rules journal race)
      (race_of (sheet_of rules journal race).order (sheet_of rules journal race).held)
      (renamed race) rules boat h)

  column_is : (race : ℕ)
      → all.column rules (sheet_of rules journal race)
      ≡ map (hers race) (entered journal)
  column_is race =
      ap (map (race_score rules (sheet_of rules journal race))) (boats_numbered race)
      ∙ map_map (race_score rules (sheet_of rules journal race)) (number journal)
      (entered journal)
      ∙ map_known (λ boat. is_entered journal boat ≡ true)
      (λ boat. race_score rules (sheet_of rules journal race) (number journal boat))
      (hers race) (score_is race) (entered journal) known_all

  -- ---- the races that count

  pub races_are : all.races (kept_of rules journal).counts ≡ scored journal
  races_are =
      filter_known IsRace (λ race. get_or (kept_of rules journal).counts (race - 1) false)
      (is_scored journal) (counts_are rules journal) (range_with_len 1 MAX_RACES) all_races

  races_within : AllByRecursion IsRace (scored journal)
  races_within = all_passed IsRace (is_scored journal) (range_with_len 1 MAX_RACES) all_races

  -- ---- some races

  columns_are : (races : List ℕ) → AllByRecursion IsRace races
      → all.columns rules (kept_of rules journal).sheets races
      ≡ map (λ race. map (hers race) (entered journal)) races
  columns_are races within =
      map_known IsRace
      (λ race. all.column rules (get_or (kept_of rules journal).sheets (race - 1) (empty_sheet 0)))
      (λ race. map (hers race) (entered journal))
      (λ race h. ap (all.column rules) (sheet_is rules journal race h) ∙ column_is race)
      races within

  by_boat : (races : List ℕ) (b : ℕ) → b < length (entered journal)
      → scores_in (map (λ race. map (hers race) (entered journal)) races) b
      ≡ scores_over rules journal races (get_or (entered journal) b [])
  by_boat races b h =
      map_map (λ (column : List RaceScore). get_or column b no_score)
      (λ race. map (hers race) (entered journal)) races
      ∙ (λ i. map (λ race. get_or-map (hers race) (entered journal) b [] no_score h i) races)

  -- ---- all boats

  lines_are : (races : List ℕ)
      → all.lines rules (map (λ race. map (hers race) (entered journal)) races)
      (length (entered journal)) ≡ map (line_over rules journal races) (entered journal)
  lines_are races =
      let found = map (λ race. map (hers race) (entered journal)) races in
      map_over (λ b. line_by rules (scores_in found b)) (line_over rules journal races)
      (entered journal) [] (record { points = []; excluded = [] })
      (λ b h. ap (line_by rules) (by_boat races b h))

  -- the lines computed from what is kept of the journal are those of the journal
  pub lines_kept : lines_by rules (kept_of rules journal) ≡ journal_lines rules journal
  lines_kept =
      (λ i. all.lines rules (all.columns rules (kept_of rules journal).sheets (races_are i))
      (length (entered journal)))
      ∙ (λ i. all.lines rules (columns_are (scored journal) races_within i)
      (length (entered journal)))
      ∙ lines_are (scored journal)

  -- the rows of these races, from what is kept of the journal, are those of the journal
  pub rows_are_over : (races : List ℕ) → AllByRecursion IsRace races
      → all.rows rules (entered journal)
      (all.columns rules (kept_of rules journal).sheets races)
      ≡ rows_over rules journal races
  rows_are_over races within =
      let found = map (λ race. map (hers race) (entered journal)) races in
      let none : Row = record { sail = []; rank = 0; tied = false; net = 0; cells = [] } in
      ap (all.rows rules (entered journal)) (columns_are races within)
      ∙ ap by_journal.sorted_rows
      (map_over (all.row_of rules (entered journal) found)
      (row_over rules journal races (map (line_over rules journal races) (entered journal)))
      (entered journal) [] none
      (λ b h i. (let line = line_by rules (by_boat races b h i) in
      row_by (get_or (entered journal) b []) (place (lines_are races i) line) line
      (by_boat races b h i))))

  pub table_is : all.table rules (kept_of rules journal) ≡ by_journal.standing rules journal
  table_is =
      (λ i. record {
        races = races_are i;
        rows = all.rows rules (entered journal)
            (all.columns rules (kept_of rules journal).sheets (races_are i));
      })
      ∙ (λ i. record {
        races = scored journal;
        rows = rows_are_over (scored journal) races_within i;
      })
