-- The boats whose rank, net or scores change from one standing to a later one.
use Rattle.std.specs.Prelude.{ℕ, Bool, false, true, not, ◌||◌, nat_eq, List, [], filter, find, map}
use Rattle.std.specs.Prelude.{Option, Some, None, is_some}
use Rattle.std.specs.List.{list_any, position, range_with_len, slice_get}
use Rattle.std.specs.Option.{option_and_then, option_map}
use Rattle.std.specs.Str.{bytes_eq}
use mathlib.Core.Bool.{beq}
use Rattle.regatta_terms.specs.Rules.{RulesParts}
use Rattle.regatta_terms.specs.declared.limits.TheConstants.{MAX_RACES}
use Rattle.regatta_terms.specs.declared.sail.Sail.{Sail}
use Rattle.regatta_scores.specs.declared.table.Abbrev.{Abbrev}
use Rattle.regatta_scores.specs.declared.table.Cell.{Cell}
use Rattle.regatta_scores.specs.declared.table.Row.{Row}
use Rattle.regatta_scores.specs.declared.table.Standing.{Standing}
use Rattle.regatta_scores.specs.Abbreviations.{abbrev_text}
use Rattle.regatta_scores.specs.Journal.{Journal, same_sail}
use Rattle.regatta_scores.specs.Standing.{standing}
use Rattle.regatta_preview.specs.declared.parts.Change.{Change}
use Rattle.regatta_preview.specs.declared.parts.ScoreChange.{ScoreChange}
use Rattle.regatta_preview.specs.Moves.{has_moved, place_of}

-- ---- a boat's scores

-- a boat's row of a table, if she has one
abbrev pub row_of : List Row → Sail → Option Row
row_of rows boat = find (λ row. same_sail boat row.sail) rows

-- the scores of her row; none without one
abbrev pub cells_of : Option Row → List Cell
cells_of None = []
cells_of (Some row) = row.cells

-- her score in a race, by the races that count and her scores in them; none if it doesn't count, or
-- if she has none
abbrev pub score_in : List ℕ → List Cell → ℕ → Option Cell
score_in races cells race =
    option_and_then (slice_get cells) (position (λ other. nat_eq other race) races)

-- her score in a race in one standing, and then in another
abbrev pub score_change : List ℕ → List Cell → List ℕ → List Cell → ℕ → ScoreChange
score_change races cells races' cells' race = record {
  race = race;
  before = score_in races cells race;
  after = score_in races' cells' race;
}

-- whether she has a score there in one of the two
abbrev pub has_score : ScoreChange → Bool
has_score score = is_some score.before || is_some score.after

-- her scores in the races that count in one of the two
unfoldable pub score_changes : List ℕ → List Cell → List ℕ → List Cell → List ScoreChange
score_changes races cells races' cells' =
    filter has_score (map (score_change races cells races' cells') (range_with_len 1 MAX_RACES))

-- ---- what changes

-- an abbreviation as it is printed; nothing if there is none
abbrev pub mark_word : Option Abbrev → List ℕ
mark_word None = []
mark_word (Some mark) = abbrev_text mark

-- whether the points, the abbreviation or the exclusion changed
abbrev pub cells_differ : Cell → Cell → Bool
cells_differ before after = not (nat_eq before.points after.points)
    || not (bytes_eq (mark_word before.mark) (mark_word after.mark))
    || not (beq before.dropped after.dropped)

-- the same, or one of the two isn't there
abbrev pub scores_differ : Option Cell → Option Cell → Bool
scores_differ None None = false
scores_differ None (Some after) = true
scores_differ (Some before) None = true
scores_differ (Some before) (Some after) = cells_differ before after

abbrev pub score_differs : ScoreChange → Bool
score_differs score = scores_differ score.before score.after

-- whether a boat is new, or stands otherwise, or one of her scores changed
abbrev pub has_changed : Change → Bool
has_changed change = has_moved change.step || list_any score_differs change.scores

-- ---- the boats

-- a boat's place and scores in a standing, and then by her row of another
unfoldable pub change_since : Standing → Standing → Row → Change
change_since first last row = record {
  step = record {
    sail = row.sail;
    before = option_map place_of (row_of first.rows row.sail);
    after = place_of row;
  };
  scores = score_changes first.races (cells_of (row_of first.rows row.sail)) last.races row.cells;
}

-- the boats that change from one standing to another, in the order of the latter
unfoldable pub changes_between : Standing → Standing → List Change
changes_between first last = filter has_changed (map (change_since first last) last.rows)

-- the same from the standing of one journal to that of another
unfoldable pub changes : RulesParts → Journal → Journal → List Change
changes rules first last = changes_between (standing rules first) (standing rules last)
