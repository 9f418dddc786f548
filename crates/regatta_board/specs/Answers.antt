-- The answer to an accepted command.
use Rattle.std.specs.Prelude.{◌≡◌, ℕ, ◌+◌, List, [], ◌∷◌, ◌++◌, length, find, Option, Some, None}
use Rattle.std.specs.Prelude.{if◌then◌else◌}
use Rattle.std.specs.List.{position}
use Rattle.std.specs.Option.{option_map, option_and_then}
use Rattle.regatta_terms.specs.Effects.{Places, Strikes, Decides, Counts}
use Rattle.regatta_terms.specs.Effects.{Effect, Enters, InRace, effect}
use Rattle.regatta_terms.specs.Entries.{EntryParts}
use Rattle.regatta_terms.specs.Rules.{RulesParts}
use Rattle.regatta_terms.specs.declared.command.Command.{Command}
use Rattle.regatta_terms.specs.declared.sail.Sail.{Sail}
use Rattle.regatta_terms.specs.declared.reply.Answer.{Answer}
use Rattle.regatta_terms.specs.declared.reply.Touched.{Touched}
use Rattle.regatta_scores.specs.Journal.{Journal, same_sail, is_scored, scored}
use Rattle.regatta_scores.specs.Standing.{standing}

-- the first boat that a command names, if any
abbrev pub boat_named : Effect → Option Sail
boat_named (Enters sail) = Some sail
boat_named (InRace race (Places sail placing)) = Some sail
boat_named (InRace race (Strikes sail)) = Some sail
boat_named (InRace race (Decides sail decision)) = Some sail
boat_named (InRace race (Counts counts)) = None

-- the number of a boat, if there is one, is her position in the entry list
abbrev pub IsNumberOf : List Sail → Option Sail → Option ℕ → Type 0
IsNumberOf sails boat number =
    option_map (λ sail. position (same_sail sail) sails) boat ≡ option_map Some number

-- what an answer has of the boat's row, if she is entered: her rank (RRS A8), whether it is shared,
-- and her net points
abbrev pub rank_of : RulesParts → Journal → Sail → Option Touched
rank_of rules journal boat =
    option_map (λ row. record { rank = row.rank; tied = row.tied; net = row.net })
    (find (λ row. same_sail boat row.sail) (standing rules journal).rows)

-- the place of the entry, and the new row of the first boat that it names, if any
abbrev pub answer : RulesParts → Journal → EntryParts → Answer
answer rules journal entry = record {
  place = length journal + 1;
  touched =
      option_and_then (rank_of rules (journal ++ entry ∷ [])) (boat_named (effect entry.command));
}

-- the most races that an effect rescores, by the journal that ends with it: all that count if it
-- enters a boat, else its own, if that counts
abbrev pub most_rescored_by : Journal → Effect → ℕ
most_rescored_by journal (Enters sail) = length (scored journal)
most_rescored_by journal (InRace race act) = if is_scored journal race then 1 else 0

-- the most races that a command rescores, by the journal that ends with it
abbrev pub most_rescored : Journal → Command → ℕ
most_rescored journal command = most_rescored_by journal (effect command)
