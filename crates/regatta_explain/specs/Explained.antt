-- The document: the standing of a journal explained, in the words of the model.
use Rattle.std.specs.Prelude.{ℕ, Bool, not, nat_eq, ◌||◌, List, length, map, filter, drop}
use Rattle.std.specs.Prelude.{zip, sum_by, is_some}
use Rattle.std.specs.List.{enumerate_from, list_any, range_with_len}
use Rattle.regatta_terms.specs.Rules.{RulesParts}
use Rattle.regatta_terms.specs.declared.limits.TheConstants.{MAX_RACES}
use Rattle.regatta_terms.specs.declared.sail.Sail.{Sail}
use Rattle.regatta_scores.specs.declared.boats.RaceScore.{RaceScore}
use Rattle.regatta_scores.specs.declared.table.Cell.{Cell}
use Rattle.regatta_scores.specs.declared.table.Row.{Row}
use Rattle.regatta_scores.specs.Journal.{Journal, same_sail, entered, scored, is_scored, order, held}
use Rattle.regatta_scores.specs.Journal.{time, holds_nothing}
use Rattle.regatta_scores.specs.Order.{is_empty}
use Rattle.regatta_scores.specs.Outcomes.{scores, redress_by}
use Rattle.regatta_scores.specs.RacePoints.{Race, journal_race, status, came, dnf}
use Rattle.regatta_scores.specs.RacePoints.{penalty_points, plain}
use Rattle.regatta_scores.specs.Standing.{line, standing}
use Rattle.regatta_explain.specs.declared.parts.BoatRows.{BoatRows}
use Rattle.regatta_explain.specs.declared.parts.Document.{Document}
use Rattle.regatta_explain.specs.declared.parts.RaceRows.{RaceRows}
use Rattle.regatta_explain.specs.declared.parts.RanksAfter.{RanksAfter}
use Rattle.regatta_explain.specs.declared.parts.RulesPart.{RulesPart}
use Rattle.regatta_explain.specs.declared.parts.GroupPart.{GroupPart}
use Rattle.regatta_explain.specs.declared.parts.HeldPart.{HeldPart}
use Rattle.regatta_explain.specs.declared.parts.RacePart.{RacePart}
use Rattle.regatta_explain.specs.declared.parts.ScorePart.{ScorePart}
use Rattle.regatta_explain.specs.declared.parts.BoatPart.{BoatPart}
use Rattle.regatta_explain.specs.declared.parts.NeighbourPart.{NeighbourPart}
use Rattle.regatta_explain.specs.declared.parts.RankPart.{RankPart}
use Rattle.regatta_explain.specs.Averaged.{counted, counted_races, counted_sum}
use Rattle.regatta_explain.specs.Depends.{up_to, last_that_matters}
use Rattle.regatta_explain.specs.Races.{PlacedGroup, placed_groups, twenty_percent_of, number_came}
use Rattle.regatta_explain.specs.Races.{base, status_code}
use Rattle.regatta_explain.specs.Documents.{document_text}
use Rattle.regatta_explain.specs.Separations.{separation}

-- the rules, as the document has them
abbrev pub rules_part : RulesParts → RulesPart
rules_part rules = record {
  absent = rules.absent;
  scp = rules.scp;
  thresholds = rules.thresholds;
  handicap = rules.handicap;
}

-- a group, as the document has it
abbrev pub group_part : PlacedGroup Sail → GroupPart
group_part group =
    record { place = group.place; sharing = group.sharing; boats = group.boats }

-- a boat's rank, by her row of a table
abbrev pub rank_part : Row → RankPart
rank_part row = record { sail = row.sail; rank = row.rank; tied = row.tied }

-- her place in the series: that of her row, with the total of all her scores
abbrev pub boat_part : Row → BoatPart
boat_part row = record {
  sail = row.sail;
  rank = row.rank;
  tied = row.tied;
  net = row.net;
  total = sum_by (λ cell. cell.points) row.cells;
}

-- neighbours in a table that have the same series score
abbrev pub neighbours : List Row → List (Row × Row)
neighbours table = filter (λ pair. nat_eq pair.0.net pair.1.net) (zip table (drop 1 table))

module _ (rules : RulesParts) (journal : Journal) where
  -- ---- races

  -- the race in the journal
  abbrev pub race_in : ℕ → Race Sail
  race_in = journal_race rules journal

  -- whether the race counts, has an order, or a boat has a time or holds something in it
  unfoldable pub is_recorded : ℕ → Bool
  is_recorded race = is_scored journal race || not (is_empty (order rules journal race))
      || list_any (λ boat. is_some (time journal race boat) || not (holds_nothing (held journal race boat)))
      (entered journal)

  -- what it is scored by
  unfoldable pub race_part : ℕ → RacePart
  race_part race = record {
    race = race;
    counts = is_scored journal race;
    entered = length (entered journal);
    came = number_came same_sail (race_in race);
    dnf = dnf same_sail rules (race_in race);
    twenty_percent = twenty_percent_of (dnf same_sail rules (race_in race));
  }

  -- what a boat has in it
  unfoldable pub held_part : ℕ → Sail → HeldPart
  held_part race boat = record {
    sail = boat;
    status = status_code (status same_sail (race_in race) boat);
    came = came (status same_sail (race_in race) boat);
    code = (held journal race boat).code;
    zfp = (held journal race boat).zfp;
    scp = (held journal race boat).scp;
    redress = (held journal race boat).redress;
    seconds = time journal race boat;
  }

  -- the race: what it is scored by, its groups, and its boats in order of entry
  unfoldable pub race_rows : ℕ → RaceRows
  race_rows race = record {
    race = race_part race;
    groups = map group_part (placed_groups (race_in race));
    boats = map (held_part race) (entered journal);
  }

  -- ---- boats

  -- her scores before averages, each with its race
  abbrev pub numbered_scores : Sail → List (ℕ × RaceScore)
  numbered_scores boat = zip (scored journal) (scores rules journal boat)

  -- the scores that her average in race i of those that count takes
  abbrev pub averaged_in : Sail → ℕ → ℕ → List (ℕ × RaceScore)
  averaged_in boat i race =
      counted (numbered_scores boat) i (redress_by 0 (held journal race boat).redress).1

  -- her score in race i of those that count, with her cell there
  unfoldable pub score_part : Sail → ℕ → ℕ → Cell → ScorePart
  score_part boat i race cell = record {
    race = race;
    status = status_code (status same_sail (race_in race) boat);
    base = base same_sail rules (race_in race) boat;
    penalty = penalty_points rules (dnf same_sail rules (race_in race)) (held journal race boat);
    plain = plain same_sail rules (race_in race) boat;
    redress = (held journal race boat).redress;
    averaged = counted_races (averaged_in boat i race);
    sum = counted_sum (averaged_in boat i race);
    points = cell.points;
    mark = cell.mark;
    excluded = cell.dropped;
  }

  -- her scores in the races that count, by her row of the table
  unfoldable pub score_parts : Row → List ScorePart
  score_parts row =
      map (λ score. score_part row.sail score.0 score.1.0 score.1.1)
      (enumerate_from 0 (zip (scored journal) row.cells))

  -- her place, and her score in each race that counts
  unfoldable pub boat_rows : Row → BoatRows
  boat_rows row = record { boat = boat_part row; scores = score_parts row }

  -- ---- ties, and ranks after each race

  -- what separates two neighbours
  unfoldable pub neighbour_part : Row × Row → NeighbourPart
  neighbour_part pair = record {
    first = pair.0.sail;
    second = pair.1.sail;
    rule = separation (scored journal) (line rules journal pair.0.sail) (line rules journal pair.1.sail);
  }

  -- the ranks after a race that counts: those of the standing without later races
  unfoldable pub ranks_after : ℕ → RanksAfter
  ranks_after race = record {
    race = race;
    ranks = map rank_part (standing rules (up_to journal race)).rows;
  }

  -- ---- the whole

  -- the document
  unfoldable pub document : Document
  document = record {
    rules = rules_part rules;
    last_entry = last_that_matters (scored journal) journal;
    races = map race_rows (filter is_recorded (range_with_len 1 MAX_RACES));
    boats = map boat_rows (standing rules journal).rows;
    neighbours = map neighbour_part (neighbours (standing rules journal).rows);
    after_each = map ranks_after (scored journal);
  }

-- its text
abbrev pub explained : RulesParts → Journal → List ℕ
explained rules journal = document_text (document rules journal)
