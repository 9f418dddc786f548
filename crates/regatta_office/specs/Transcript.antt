-- What a replay writes: a reply to each line of a text, and then the table, CSV or journal.
use Rattle.std.specs.Prelude.{◌≡◌, ℕ, Bool, true, false, List, [], ◌∷◌, ◌++◌, Result, Ok, Err}
use Rattle.std.specs.Prelude.{if◌then◌else◌, Option}
use Rattle.std.specs.Io.KnownBytes.{Appends}
use Rattle.regatta_terms.specs.Lines.{line_of}
use Rattle.regatta_terms.specs.Rules.{RulesParts}
use Rattle.regatta_terms.specs.declared.command.Role.{Role}
use Rattle.regatta_terms.specs.declared.command.Role.TheVariants.{Scorer}
use Rattle.regatta_terms.specs.declared.line.Line.{Line}
use Rattle.regatta_terms.specs.declared.line.Line.TheVariants.{Do, SetRole, Rank, Show, Quit}
use Rattle.regatta_terms.specs.declared.line.LineFault.{LineFault}
use Rattle.regatta_terms.specs.declared.reply.Reply.TheVariants.{RoleSet, Bye, Fault}
use Rattle.regatta_scores.specs.declared.table.Standing.{Standing}
use Rattle.regatta_scores.specs.AppendixA.{IsAppendixA}
use Rattle.regatta_scores.specs.Journal.{Journal}
use Rattle.regatta_scores.specs.Standing.{standing}
use Rattle.regatta_board.specs.Answers.{rank_of}
use Rattle.regatta_board.specs.Refusals.{limits, refusal}
use Rattle.regatta_board.specs.Runs.{journal_by, reply_by, sent}
use Rattle.regatta_tables.specs.CsvTexts.{csv_text}
use Rattle.regatta_tables.specs.JournalTexts.{journal_text}
use Rattle.regatta_tables.specs.ReplyTexts.{reply_text}
use Rattle.regatta_tables.specs.SheetTexts.{sheet_text}
use Rattle.regatta_tables.specs.TableTexts.{table_text}
use Rattle.regatta_office.specs.declared.form.Form.{Form}
use Rattle.regatta_office.specs.declared.form.Form.TheVariants as form
use Rattle.regatta_terms.specs.TextLines.{lines}
use Rattle.regatta_talk.specs.Replies.{ranked, reply_of}

-- the state of a run: the role of the next lines, and the journal so far
pub record Talk : Type 0 where
  pub role : Role
  pub journal : Journal

-- the state before the first line: this journal, and the role of the scorer
abbrev pub opening : Journal → Talk
opening start = record { role = Scorer; journal = start }

-- ---- one line

-- the text to write for a line, or for its fault, and the state of the run after it
abbrev pub turn : RulesParts → Talk → Result Line LineFault → List ℕ × Talk
turn rules talk (Ok (Do command)) =
    let entry = sent talk.journal talk.role command in
    let why = refusal limits rules talk.journal entry in (
      reply_text (reply_of (reply_by rules talk.journal entry why)),
      record talk { journal = journal_by talk.journal entry why },
    )
turn rules talk (Ok (SetRole role)) = (reply_text (RoleSet role), record talk { role = role })
turn rules talk (Ok (Rank sail)) = (reply_text (ranked (rank_of rules talk.journal sail)), talk)
turn rules talk (Ok Show) = (sheet_text talk.journal (standing rules talk.journal), talk)
turn rules talk (Ok Quit) = (reply_text Bye, talk)
turn rules talk (Err fault) = (reply_text (Fault fault), talk)

-- whether a line ends the run
abbrev pub is_quit : Result Line LineFault → Bool
is_quit (Ok Quit) = true
is_quit _ = false

-- ---- all lines

-- the lines up to the first QUIT, which is one of them: those after it don't count
unfoldable pub up_to_quit : List (List ℕ) → List (List ℕ)
up_to_quit [] = []
up_to_quit (line ∷ rest) = line ∷ (if is_quit (line_of line) then [] else up_to_quit rest)

-- whether a QUIT is among these lines
unfoldable pub has_quit : List (List ℕ) → Bool
has_quit [] = false
has_quit (line ∷ rest) = if is_quit (line_of line) then true else has_quit rest

-- the text to write for these lines, one after another
unfoldable pub replies : RulesParts → Talk → List (List ℕ) → List ℕ
replies rules talk [] = []
replies rules talk (line ∷ rest) =
    let this = turn rules talk (line_of line) in this.0 ++ replies rules this.1 rest

-- the state of the run after them
unfoldable pub talk_at_end : RulesParts → Talk → List (List ℕ) → Talk
talk_at_end rules talk [] = talk
talk_at_end rules talk (line ∷ rest) = talk_at_end rules (turn rules talk (line_of line)).1 rest

-- ---- a whole text, from a journal on

-- the replies to lines, up to the first QUIT
abbrev pub transcript : RulesParts → Journal → List (List ℕ) → List ℕ
transcript rules start lines = replies rules (opening start) (up_to_quit lines)

-- the journal after the lines of a text
abbrev pub journal_at_end : RulesParts → Journal → List ℕ → Journal
journal_at_end rules start text =
    (talk_at_end rules (opening start) (up_to_quit (lines text))).journal

-- what a run writes last: the text of a table that fits Appendix A for the journal, or such a table
-- as CSV, or the journal's own text
abbrev pub IsFinalPart : RulesParts → Form → Journal → List ℕ → Type 0
IsFinalPart rules form.Table journal text =
    (table : Standing) × IsAppendixA rules journal table × (text ≡ table_text table)
IsFinalPart rules form.Csv journal text =
    (table : Standing) × IsAppendixA rules journal table × (text ≡ csv_text table)
IsFinalPart rules form.Journal journal text = text ≡ journal_text journal

-- all that a run writes: the transcript, and then the journal at its end in the form asked for
pub record IsRunText (rules : RulesParts) (start : Journal) (form : Form) (text written : List ℕ)
    : Type 0 where
  pub final : List ℕ
  pub is_final : IsFinalPart rules form (journal_at_end rules start text) final
  pub whole : written ≡ transcript rules start (lines text) ++ final

-- a run appended all that it writes
abbrev pub WritesRun : RulesParts → Journal → Form → List ℕ → Option (List ℕ) → Option (List ℕ)
    → Type 0
WritesRun rules start form text old new =
    (written : List ℕ) × IsRunText rules start form text written × Appends old new written

-- ---- the same, computed

-- a journal as its table, its results as CSV, or its own text
abbrev pub final_text : RulesParts → Form → Journal → List ℕ
final_text rules form.Table journal = table_text (standing rules journal)
final_text rules form.Csv journal = csv_text (standing rules journal)
final_text rules form.Journal journal = journal_text journal

-- all that a run writes: the transcript, and then the final journal in the form asked for
abbrev pub run_text : RulesParts → Journal → Form → List ℕ → List ℕ
run_text rules start form text =
    transcript rules start (lines text)
    ++ final_text rules form (journal_at_end rules start text)
