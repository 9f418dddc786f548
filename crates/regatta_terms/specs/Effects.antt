-- What each command does. Whatever depends on what a command does is read off its effect; beside
-- that only its words and ranges have a row for each command.
use Rattle.std.specs.Prelude.{ℕ, Bool, true, false}
use Rattle.regatta_terms.specs.declared.sail.Sail.{Sail}
use Rattle.regatta_terms.specs.declared.command.Code.{Code}
use Rattle.regatta_terms.specs.declared.command.PenaltyKind.{PenaltyKind}
use Rattle.regatta_terms.specs.declared.command.Redress as redress_type
use Rattle.regatta_terms.specs.declared.command.Command.{Command}
use Rattle.regatta_terms.specs.declared.command.Command.TheVariants.{Enter, Finish, Tie, Before}
use Rattle.regatta_terms.specs.declared.command.Command.TheVariants.{Time, Strike, Mark, Penalise}
use Rattle.regatta_terms.specs.declared.command.Command.TheVariants.{Redress, Clear, Score, Unscore}

-- how a boat gets her place (RRS A3): after all others, tied with another (A7), directly ahead of
-- another, or by a corrected time in seconds
pub data Placing : Type 0 where
  AtEnd : Placing
  TiedWith : Sail → Placing
  AheadOf : Sail → Placing
  ByTime : ℕ → Placing

-- a decision on a boat: a code (RRS A10), a penalty (30.2, 44.3(c)), redress (A9), or that she keeps
-- none of these
pub data Decision : Type 0 where
  Marks : Code → Decision
  Penalises : PenaltyKind → Decision
  Redresses : redress_type.Redress → Decision
  Clears : Decision

-- what is done in a race: a boat is placed in the finishing order, or taken out of it, or something
-- is decided on her; or the race counts from now on, or no longer
pub data Act : Type 0 where
  Places : Sail → Placing → Act
  Strikes : Sail → Act
  Decides : Sail → Decision → Act
  Counts : Bool → Act

-- what a command does: it enters a boat in the series, or does something in a race
pub data Effect : Type 0 where
  Enters : Sail → Effect
  InRace : ℕ → Act → Effect

-- what each command does
abbrev pub effect : Command → Effect
effect (Enter sail) = Enters sail
effect (Finish race sail) = InRace race (Places sail AtEnd)
effect (Tie race sail other) = InRace race (Places sail (TiedWith other))
effect (Before race sail other) = InRace race (Places sail (AheadOf other))
effect (Time race sail seconds) = InRace race (Places sail (ByTime seconds))
effect (Strike race sail) = InRace race (Strikes sail)
effect (Mark race sail code) = InRace race (Decides sail (Marks code))
effect (Penalise race sail kind) = InRace race (Decides sail (Penalises kind))
effect (Redress race sail redress) = InRace race (Decides sail (Redresses redress))
effect (Clear race sail) = InRace race (Decides sail Clears)
effect (Score race) = InRace race (Counts true)
effect (Unscore race) = InRace race (Counts false)
