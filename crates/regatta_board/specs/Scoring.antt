-- The scores that the board keeps: a column for each race, a line for each boat, and their ranking.
use Rattle.std.specs.Prelude.{◌≡◌, ℕ, ◌-◌, ◌<◌, ◌≤◌, Bool, false, List, [], length, slice_index_or}
use Rattle.std.specs.Prelude.{Option, Some, None, IfSome, ◌↔◌, ◌∷◌, ◌++◌, if◌then◌else◌, slice_set}
use Rattle.std.specs.Prelude.{map, All}
use Rattle.regatta_terms.specs.Rules.{RulesParts}
use Rattle.regatta_terms.specs.declared.limits.TheConstants.{MAX_RACES}
use Rattle.regatta_terms.specs.declared.reply.Touched.{Touched}
use Rattle.regatta_scores.specs.Sheet.{Sheet, empty_sheet}
use Rattle.regatta_scores.specs.Current.{with_changed, AreOfBoats}
use Rattle.regatta_scores.specs.KeptRanking.{IsRanking}
use Rattle.regatta_scores.specs.Lines.{line_by}
use Rattle.regatta_scores.specs.RaceScores.{no_score, scores_in, ScoresAs}
use Rattle.regatta_scores.specs.Ranking.{BoatScores, net, place}
use Rattle.regatta_scores.specs.declared.boats.RaceScore.{RaceScore}
use Rattle.regatta_scores.specs.declared.current.NewLine.{NewLine}
use Rattle.regatta_board.specs.declared.column.NewColumn.{NewColumn}
use Rattle.regatta_board.specs.Refusals.{limits}
use Rattle.regatta_board.specs.Table.{Kept, column, columns, races, lines as lines_of, no_line}

-- the races that count; a column for each race of a series, which is empty if the race doesn't
-- count; a line for each boat (RRS A2.1); and the boats' numbers in order of rank (RRS A8)
pub record Scoring : Type 0 where
  pub races : List ℕ
  pub columns : List (List RaceScore)
  pub lines : List BoatScores
  pub ranking : List ℕ

-- the column at an index, by the sheet of each race and whether it counts: each boat's score on the
-- race's sheet, or nothing unless the race counts
abbrev pub column_at : RulesParts → List Sheet → List Bool → ℕ → List RaceScore
column_at rules sheets counts k =
    if slice_index_or counts k false
    then column rules (slice_index_or sheets k (empty_sheet 0)) else []

-- each race's column is at its index
abbrev pub AreColumns : RulesParts → List Sheet → List Bool → List (List RaceScore) → Type 0
AreColumns rules sheets counts columns =
    (k : ℕ) → slice_index_or columns k [] ≡ column_at rules sheets counts k

-- the columns, after a new one, if there is one, replaces that of its race
abbrev pub with_column : List (List RaceScore) → Option NewColumn → List (List RaceScore)
with_column old None = old
with_column old (Some new) = slice_set old (new.race - 1) new.column

-- the columns of these races
abbrev pub columns_in : List (List RaceScore) → List ℕ → List (List RaceScore)
columns_in columns races = map (λ race. slice_index_or columns (race - 1) []) races

-- the lines of all boats, computed from what is kept of the journal
abbrev pub lines_by : RulesParts → Kept → List BoatScores
lines_by rules kept =
    lines_of rules (columns rules kept.sheets (races kept.counts)) (length kept.sails)

-- each part is as computed from what is kept of the journal
pub record IsScoring (rules : RulesParts) (kept : Kept) (scoring : Scoring) : Type 0 where
  pub races : scoring.races ≡ races kept.counts
  pub long : length scoring.columns ≡ MAX_RACES
  pub columns : AreColumns rules kept.sheets kept.counts scoring.columns
  pub lines : scoring.lines ≡ lines_by rules kept
  pub ranking : IsRanking scoring.lines scoring.ranking

-- ---- the lines, after the column of one race changes

-- the new lines and that of one more boat, if she has one
abbrev pub with_new : List NewLine → ℕ → Option BoatScores → List NewLine
with_new news boat None = news
with_new news boat (Some line) = news ++ record { boat = boat; line = line } ∷ []

-- a boat's new line is appended to the new lines, unless a line takes the same of her scores before
-- and after in the column that is recomputed
pub record IsPushed (rules : RulesParts) (columns : List (List RaceScore)) (boat : ℕ)
    (old new : RaceScore) (before after : List NewLine) : Type 0 where
  pub line : Option BoatScores
  pub stays : (line ≡ None) ↔ ScoresAs new old
  pub value : IfSome line (λ found. found ≡ line_by rules (scores_in columns boat))
  pub made : after ≡ with_new before boat line

-- the column `was` of one race becomes `hers`, and `found` are then the columns of the races that
-- count: all have a score for each boat, and a boat keeps her line if a line takes the same of her
-- scores in both
pub record IsTurned (rules : RulesParts) (lines : List BoatScores) (was hers : List RaceScore)
    (found : List (List RaceScore)) : Type 0 where
  pub most : length lines ≤ limits.boats
  pub few : length found ≤ MAX_RACES
  pub even : All (λ column. length column ≡ length lines) found
  pub old : length was ≡ length lines
  pub new : length hers ≡ length lines
  pub stays : (boat : ℕ) → boat < length lines
      → ScoresAs (slice_index_or hers boat no_score) (slice_index_or was boat no_score)
      → slice_index_or lines boat no_line ≡ line_by rules (scores_in found boat)

-- new lines of some boats, in the order of their numbers, turn the lines before into those after
pub record AreNewLines (before after : List BoatScores) (news : List NewLine) : Type 0 where
  pub each : AreOfBoats (length before) news
  pub fewer : length news ≤ length before
  pub value : with_changed before news ≡ after

-- what an answer has about the boat with this number: rank (RRS A8), whether it is shared, net
abbrev pub touched_at : Scoring → ℕ → Touched
touched_at scoring n = record {
  rank = (place scoring.lines (slice_index_or scoring.lines n no_line)).rank;
  tied = (place scoring.lines (slice_index_or scoring.lines n no_line)).tied;
  net = net (slice_index_or scoring.lines n no_line);
}
