-- Runs: the replies to commands of one seat, one after another.
use Rattle.std.specs.Prelude.{List, [], ◌∷◌, ◌++◌, Option, Some, None, Result, Ok, Err}
use Rattle.regatta_terms.specs.Entries.{EntryParts}
use Rattle.regatta_terms.specs.Rules.{RulesParts}
use Rattle.regatta_terms.specs.declared.command.Role.{Role}
use Rattle.regatta_terms.specs.declared.command.Command.{Command}
use Rattle.regatta_terms.specs.declared.reply.Answer.{Answer}
use Rattle.regatta_terms.specs.declared.reply.Refusal.{Refusal}
use Rattle.regatta_scores.specs.Journal.{Journal}
use Rattle.regatta_board.specs.Refusals.{limits, refusal, last_number, next_entry}
use Rattle.regatta_board.specs.Answers.{answer}
use Rattle.regatta_board.specs.declared.journal.TheConstants.{REPLAY_SEAT}

-- the next entry of the seat that sends all commands of a run
abbrev pub sent : Journal → Role → Command → EntryParts
sent journal role command =
    next_entry REPLAY_SEAT (last_number journal REPLAY_SEAT) role command

-- the reply to an entry: the refusal that applies, or else the answer
abbrev pub reply_by : RulesParts → Journal → EntryParts → Option Refusal → Result Answer Refusal
reply_by rules journal entry None = Ok (answer rules journal entry)
reply_by rules journal entry (Some why) = Err why

-- the journal after the entry; a refused one leaves no trace
abbrev pub journal_by : Journal → EntryParts → Option Refusal → Journal
journal_by journal entry None = journal ++ entry ∷ []
journal_by journal entry (Some why) = journal

-- the replies to a run of commands, one for each, in their order
abbrev pub replies : RulesParts → Journal → List (Role × Command) → List (Result Answer Refusal)
replies rules journal [] = []
replies rules journal (c ∷ cs) =
    let entry = sent journal c.0 c.1 in
    let why = refusal limits rules journal entry in
    reply_by rules journal entry why ∷ replies rules (journal_by journal entry why) cs

-- the journal after a run of commands
abbrev pub journal_after : RulesParts → Journal → List (Role × Command) → Journal
journal_after rules journal [] = journal
journal_after rules journal (c ∷ cs) =
    let entry = sent journal c.0 c.1 in
    journal_after rules (journal_by journal entry (refusal limits rules journal entry)) cs
