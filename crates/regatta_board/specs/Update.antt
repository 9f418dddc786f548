-- What a command changes of what is kept and of the scores.
use Rattle.std.specs.Prelude.{◌≡◌, ℕ, ◌-◌, ◌<◌, ◌≤◌, false, List, [], ◌∷◌, ◌++◌, length, Some}
use Rattle.std.specs.Prelude.{slice_index_or, vec_capacity, if◌then◌else◌}
use Rattle.regatta_terms.specs.Rules.{RulesParts}
use Rattle.regatta_scores.specs.Current.{with_changed, AreWithin}
use Rattle.regatta_scores.specs.Ranking.{BoatScores}
use Rattle.regatta_board.specs.declared.act.Step.{Step}
use Rattle.regatta_board.specs.declared.act.Step.TheVariants as step
use Rattle.regatta_board.specs.declared.scoring.update.Update.{Update}
use Rattle.regatta_board.specs.declared.scoring.update.Update.TheVariants as update
use Rattle.regatta_board.specs.Refusals.{limits}
use Rattle.regatta_board.specs.Scoring.{Scoring, IsScoring, with_column}
use Rattle.regatta_board.specs.Step.{stepped, with_sheet, Fits}
use Rattle.regatta_board.specs.Table.{Kept, IsKept, races, no_line}

-- what is kept, after an update is moved in
abbrev pub kept_with : Kept → Update → Kept
kept_with kept (update.Added boats sheets ranking) =
    record kept { sails = boats; sheets = sheets.value }
kept_with kept (update.Entered boats sheets columns lines ranking) =
    record kept { sails = boats; sheets = sheets.value }
kept_with kept (update.Sheet race sheet) = with_sheet kept race sheet
kept_with kept (update.Column sheet column) = with_sheet kept column.race sheet
kept_with kept (update.Lines sheet column lines ranking) = with_sheet kept column.race sheet
kept_with kept (update.Counts counts races column lines ranking) =
    record kept { counts = counts.items }

-- the scores, after an update is moved in
abbrev pub scores_with : Scoring → Update → Scoring
scores_with old (update.Added boats sheets ranking) =
    record old { lines = old.lines ++ no_line ∷ []; ranking = ranking }
scores_with old (update.Entered boats sheets columns lines ranking) = record {
  races = old.races;
  columns = columns.items;
  lines = lines.items;
  ranking = ranking;
}
scores_with old (update.Sheet race sheet) = old
scores_with old (update.Column sheet column) =
    record old { columns = with_column old.columns (Some column) }
scores_with old (update.Lines sheet column lines ranking) = record {
  races = old.races;
  columns = with_column old.columns (Some column);
  lines = with_changed old.lines lines.items;
  ranking = ranking;
}
scores_with old (update.Counts counts races column lines ranking) = record {
  races = races;
  columns = with_column old.columns (Some column);
  lines = lines.items;
  ranking = ranking;
}

-- there is room for the lines of an update: one more may be appended, some are those of boats, and
-- the lines of all boats have room for all that a series may have
abbrev pub HasRoom : List BoatScores → Update → Type 0
HasRoom old (update.Added boats sheets ranking) = length old < limits.boats
HasRoom old (update.Entered boats sheets columns lines ranking) =
    limits.boats ≤ vec_capacity lines
HasRoom old (update.Sheet race sheet) = Unit {0}
HasRoom old (update.Column sheet column) = Unit {0}
HasRoom old (update.Lines sheet column lines ranking) = AreWithin (length old) lines.items
HasRoom old (update.Counts counts races column lines ranking) =
    limits.boats ≤ vec_capacity lines

-- a step is possible, the scores are those of what is kept, and what is kept after the step is whole
pub record MayStep (rules : RulesParts) (before : Kept) (scores : Scoring) (next : Step)
    : Type 0 where
  pub kept : IsKept before
  pub scoring : IsScoring rules before scores
  pub fits : Fits before next
  pub whole : IsKept (stepped before next)

-- an update can be moved in, and turns what is kept before, with its scores, into what is kept after,
-- with its scores
pub record IsUpdate (rules : RulesParts) (before after : Kept) (new : Update) : Type 0 where
  pub kept : kept_with before new ≡ after
  pub room : (old : Scoring) → IsScoring rules before old → HasRoom old.lines new
  pub scores : (old : Scoring) → IsScoring rules before old
      → IsScoring rules after (scores_with old new)

-- the most columns that a step recomputes: those of all races that count if it enters a boat, else
-- that of its race, if this counts afterwards
abbrev pub most_remade : Kept → Step → ℕ
most_remade kept (step.Enter sail) = length (races kept.counts)
most_remade kept (step.Sheet race change) =
    if slice_index_or kept.counts (race - 1) false then 1 else 0
most_remade kept (step.Counts race counts) = if counts then 1 else 0
