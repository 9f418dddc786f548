-- Parts of the document, from what code has of them.
use Rattle.std.specs.Prelude.{◌≡◌, ℕ, Bool, false, true, not, ◌||◌, List, [], map, Option, None}
use Rattle.std.specs.Prelude.{◌&&◌, ◌++◌, codes, is_none, is_some, length, nat_eq, slice_index_or, zip}
use Rattle.std.specs.List.{enumerate_from}
use Rattle.regatta_terms.specs.Rules.{RulesParts}
use Rattle.regatta_terms.specs.declared.sail.Sail.{Sail}
use Rattle.regatta_scores.specs.declared.boats.RaceScore.{RaceScore}
use Rattle.regatta_scores.specs.declared.details.Scoring.{Scoring}
use Rattle.regatta_scores.specs.declared.table.Cell.{Cell}
use Rattle.regatta_scores.specs.declared.table.Row.{Row}
use Rattle.regatta_scores.specs.Details.{placed_groups, scoring}
use Rattle.regatta_scores.specs.Journal.{Journal, entered, held, holds_nothing, same_sail, time}
use Rattle.regatta_scores.specs.RacePoints.{journal_race}
use Rattle.regatta_scores.specs.RaceScores.{no_score}
use Rattle.regatta_scores.specs.Ranking.{BoatScores}
use Rattle.regatta_scores.specs.Sheet.{nothing_held}
use Rattle.regatta_scores.specs.Standing.{line, row}
use Rattle.regatta_board.specs.Refusals.{is_entered}
use Rattle.regatta_board.specs.declared.details.SailGroup.{SailGroup}
use Rattle.regatta_explain.specs.declared.parts.GroupPart.{GroupPart}
use Rattle.regatta_explain.specs.declared.parts.HeldPart.{HeldPart}
use Rattle.regatta_explain.specs.declared.parts.NeighbourPart.{NeighbourPart}
use Rattle.regatta_explain.specs.declared.parts.ScorePart.{ScorePart}
use Rattle.regatta_explain.specs.Averaged.{counted, counted_races, counted_sum}
use Rattle.regatta_explain.specs.Explained.{group_part}
use Rattle.regatta_json.specs.Rows.{flag_text}
use Rattle.regatta_json.specs.Fields.{field, mark_value}
use Rattle.regatta_explain.specs.Rows.{penalties_text, redress_text}
use Rattle.regatta_explain.specs.Separations.{separation}

-- a group that the board gives
abbrev pub group_by : SailGroup → GroupPart
group_by group = record { place = group.place; sharing = group.sharing; boats = group.boats }

-- the groups of a race
unfoldable pub groups_of : RulesParts → Journal → ℕ → List GroupPart
groups_of rules journal race = map group_part (placed_groups (journal_race rules journal race))

-- what a boat has in a race, by her score there and her time
unfoldable pub held_by : Sail → Scoring → Option ℕ → HeldPart
held_by sail scoring seconds = record {
  sail = sail;
  status = scoring.status;
  came = scoring.came;
  code = scoring.held.code;
  zfp = scoring.held.zfp;
  scp = scoring.held.scp;
  redress = scoring.held.redress;
  seconds = seconds;
}

-- whether a boat has a time or holds something in a race
unfoldable pub has_something_by : Journal → ℕ → Sail → Bool
has_something_by journal race boat =
    is_some (time journal race boat) || not (holds_nothing (held journal race boat))

-- a boat's score in race i of those that count, by her scores in them, by her score there in its
-- parts, and by her cell
unfoldable pub score_by : List (ℕ × RaceScore) → ℕ → ℕ → Scoring → Cell → ScorePart
score_by scores i race scoring cell = record {
  race = race;
  status = scoring.status;
  base = scoring.base;
  penalty = scoring.penalty;
  plain = scoring.plain;
  redress = scoring.held.redress;
  averaged = counted_races (counted scores i scoring.score.averaged);
  sum = counted_sum (counted scores i scoring.score.averaged);
  points = cell.points;
  mark = cell.mark;
  excluded = cell.dropped;
}

-- the scores of all boats in a race, in their parts
unfoldable pub scorings_of : RulesParts → Journal → ℕ → List Scoring
scorings_of rules journal race =
    map (scoring same_sail rules (journal_race rules journal race)) (entered journal)

-- the default; no number of a boat leads to it
abbrev pub no_scoring : Scoring
no_scoring = record {
  status = None;
  came = false;
  held = nothing_held;
  base = 0;
  penalty = 0;
  plain = 0;
  score = no_score;
}

-- the score of the boat with a number
abbrev pub scoring_in : ℕ → List Scoring → Scoring
scoring_in number scorings = slice_index_or scorings number no_scoring

-- and that before averages
abbrev pub score_in : ℕ → List Scoring → RaceScore
score_in number scorings = (scoring_in number scorings).score

-- her score in race i of those that count, from her cell there and from the scores of all boats in
-- each race
unfoldable pub part_at : List ℕ → List (List Scoring) → ℕ → ℕ × (ℕ × Cell) → ScorePart
part_at races scorings number at =
    score_by (zip races (map (score_in number) scorings)) at.0 at.1.0
    (scoring_in number (slice_index_or scorings at.0 [])) at.1.1

-- her scores in all of them
unfoldable pub scores_by : List ℕ → List (List Scoring) → ℕ → List Cell → List ScorePart
scores_by races scorings number cells =
    map (part_at races scorings number) (enumerate_from 0 (zip races cells))

-- the row of a boat that is entered, in the standing of the journal
pub record IsRowOf (rules : RulesParts) (journal : Journal) (hers : Row) : Type 0 where
  pub enters : is_entered journal hers.sail ≡ true
  pub is : hers ≡ row rules journal (map (line rules journal) (entered journal)) hers.sail

-- a boat's line, by her row of the table
abbrev pub line_of_row : Row → BoatScores
line_of_row row = record {
  points = map (λ cell. cell.points) row.cells;
  excluded = map (λ cell. cell.dropped) row.cells;
}

-- what separates two neighbours, by their rows
unfoldable pub neighbour_by : List ℕ → Row × Row → NeighbourPart
neighbour_by races pair = record {
  first = pair.0.sail;
  second = pair.1.sail;
  rule = separation races (line_of_row pair.0) (line_of_row pair.1);
}

-- ---- texts

-- whether a boat has no code, penalty, redress and time in a race
abbrev pub is_bare : HeldPart → Bool
is_bare part =
    is_none part.code && nat_eq part.zfp 0 && nat_eq part.scp 0 && is_none part.redress
    && is_none part.seconds

-- the text of her code, penalties, redress and time
unfoldable pub holdings_text : HeldPart → List ℕ
holdings_text part = penalties_text part ++ redress_text part

-- whether she has no redress in a race, and no average
abbrev pub has_no_redress : ScorePart → Bool
has_no_redress part =
    is_none part.redress && nat_eq (length part.averaged) 0 && nat_eq part.sum 0

-- the text of her abbreviation, and of whether the score is excluded
unfoldable pub mark_text : ScorePart → List ℕ
mark_text part = field (codes ",\"mark\":") (mark_value part.mark)
    ++ field (codes ",\"excluded\":") (flag_text part.excluded) ++ codes "}"
