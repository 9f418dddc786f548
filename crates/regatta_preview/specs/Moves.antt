-- The boats that stand otherwise in one standing than in an earlier one.
use Rattle.std.specs.Prelude.{Bool, true, not, ◌||◌, nat_eq, List, Option, Some, None, filter, map}
use mathlib.Core.Bool.{beq}
use Rattle.regatta_terms.specs.Rules.{RulesParts}
use Rattle.regatta_terms.specs.declared.reply.Touched.{Touched}
use Rattle.regatta_scores.specs.declared.table.Row.{Row}
use Rattle.regatta_scores.specs.Journal.{Journal}
use Rattle.regatta_scores.specs.Standing.{standing}
use Rattle.regatta_board.specs.Answers.{rank_of}
use Rattle.regatta_preview.specs.declared.parts.Move.{Move}

-- a boat's rank and net, by her row of a table
abbrev pub place_of : Row → Touched
place_of row = record { rank = row.rank; tied = row.tied; net = row.net }

-- whether rank or net changed, or the rank is shared now and wasn't, or the reverse
abbrev pub differ : Touched → Touched → Bool
differ before after = not (nat_eq before.rank after.rank) || not (beq before.tied after.tied)
    || not (nat_eq before.net after.net)

-- whether a boat is new, or stands otherwise
abbrev pub differ_from : Option Touched → Touched → Bool
differ_from None after = true
differ_from (Some before) after = differ before after

abbrev pub has_moved : Move → Bool
has_moved move = differ_from move.before move.after

-- a boat's rank and net in the standing of a journal, and then by her row of a later table
abbrev pub move_since : RulesParts → Journal → Row → Move
move_since rules first row = record {
  sail = row.sail;
  before = rank_of rules first row.sail;
  after = place_of row;
}

-- the boats that move from the standing of one journal to that of another, in the order of the
-- latter
unfoldable pub moves : RulesParts → Journal → Journal → List Move
moves rules first last = filter has_moved (map (move_since rules first) (standing rules last).rows)
