-- Worked examples: the refusals of commands.
use Rattle.std.specs.Prelude.{◌≡◌, refl, false, List, [], ◌∷◌, replicate, Err}
use Rattle.regatta_terms.specs.declared.command.Code.TheVariants as code
use Rattle.regatta_terms.specs.declared.command.PenaltyKind.TheVariants as kind
use Rattle.regatta_terms.specs.declared.command.Redress.TheVariants as redress
use Rattle.regatta_terms.specs.declared.command.Role.{Role}
use Rattle.regatta_terms.specs.declared.command.Command.{Command}
use Rattle.regatta_terms.specs.declared.command.Command.TheVariants.{Enter, Finish, Tie, Strike}
use Rattle.regatta_terms.specs.declared.command.Command.TheVariants.{Mark, Penalise, Redress, Clear}
use Rattle.regatta_terms.specs.declared.command.Command.TheVariants.{Score, Unscore}
use Rattle.regatta_terms.specs.declared.reply.Refusal.TheVariants as why
use Rattle.regatta_scores.specs.declared.table.Abbrev.TheVariants as abbreviation
use Rattle.regatta_scores.specs.Standing.{standing}
use Rattle.regatta_scores.specs.WorkedStandings.{a, b, scorer, jury, default_rules, table, row}
use Rattle.regatta_scores.specs.WorkedStandings.{marked}
use Rattle.regatta_board.specs.Refusals.{limits}
use Rattle.regatta_board.specs.Runs.{replies, journal_after}
use Rattle.regatta_board.specs.Worked.{ok, ok_alone}

pub limits_are : (limits.boats ≡ 500) × (limits.entries ≡ 8192)
limits_are = (refl, refl)

-- commands that are refused, with one boat and one race
abbrev pub each_refusal_commands : List (Role × Command)
each_refusal_commands =
    scorer (Enter a)
    ∷ scorer (Enter a)
    ∷ scorer (Finish 1 b)
    ∷ scorer (Tie 1 a a)
    ∷ scorer (Strike 1 a)
    ∷ scorer (Score 1)
    ∷ scorer (Unscore 1)
    ∷ scorer (Clear 1 a)
    ∷ scorer (Finish 1 a)
    ∷ scorer (Finish 1 a)
    ∷ scorer (Tie 1 a a)
    ∷ scorer (Score 1)
    ∷ scorer (Score 1)
    ∷ scorer (Mark 1 a code.Dsq)
    ∷ jury (Mark 1 a code.Dsq)
    ∷ jury (Redress 1 a redress.AllRaces)
    ∷ jury (Penalise 1 a kind.Zfp)
    ∷ scorer (Clear 1 a)
    ∷ jury (Clear 1 a)
    ∷ jury (Redress 1 a (redress.Points 25))
    ∷ jury (Redress 1 a redress.AllRaces)
    ∷ []

pub each_refusal_replies :
    replies default_rules [] each_refusal_commands
    ≡ ok 1 1 false 0
    ∷ Err why.AlreadyEntered
    ∷ Err why.NotEntered
    ∷ Err why.NotPlaced
    ∷ Err why.NotPlaced
    ∷ Err why.NoFinisher
    ∷ Err why.NotScored
    ∷ Err why.NothingToClear
    ∷ ok 2 1 false 0
    ∷ Err why.AlreadyPlaced
    ∷ Err why.AlreadyPlaced
    ∷ ok_alone 3
    ∷ Err why.AlreadyScored
    ∷ Err why.NotYours
    ∷ ok 4 1 false 20
    ∷ Err why.Decided
    ∷ Err why.Decided
    ∷ Err why.Decided
    ∷ ok 5 1 false 10
    ∷ ok 6 1 false 25
    ∷ Err why.Decided
    ∷ []
each_refusal_replies = refl

-- the standing after these commands
pub each_refusal_table :
    standing default_rules (journal_after default_rules [] each_refusal_commands)
    ≡ table (1 ∷ []) (row a 1 false 25 (marked 25 abbreviation.Rdg ∷ []) ∷ [])
each_refusal_table = refl

-- nine 20% penalties for one boat in one race (30.2)
abbrev pub nine_penalties : List (Role × Command)
nine_penalties = scorer (Enter a) ∷ replicate 9 (scorer (Penalise 1 a kind.Zfp))

-- a tenth is refused, and a penalty of the other kind is accepted
pub tenth_penalty :
    replies default_rules (journal_after default_rules [] nine_penalties)
    (scorer (Penalise 1 a kind.Zfp) ∷ jury (Penalise 1 a kind.Scp) ∷ [])
    ≡ Err why.PenaltyLimit ∷ ok 11 1 false 0 ∷ []
tenth_penalty = refl
