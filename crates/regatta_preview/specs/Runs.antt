-- What a preview reads and writes, and how it ends.
use Rattle.std.specs.Prelude.{◌≡◌, ◌≢◌, ◌⊎◌, ℕ, ◌+◌, ◌<◌, true, List, length, Option, Some, None}
use Rattle.std.specs.Prelude.{Result, Ok, Err, IfErr, IfSome, IsErrOf}
use Rattle.std.specs.Io.KnownBytes.{Appends}
use Rattle.regatta_streams.specs.Texts.{AppendsPrefix, GaveAtMost, IsAllOf}
use Rattle.regatta_streams.specs.declared.whole.ReadFault.{ReadFault}
use Rattle.regatta_streams.specs.declared.whole.ReadFault.TheVariants as reading
use Rattle.regatta_terms.specs.Rules.{RulesParts}
use Rattle.regatta_terms.specs.declared.reply.Refusal.{Refusal}
use Rattle.regatta_scores.specs.Journal.{Journal}
use Rattle.regatta_board.specs.Refusals.{is_lawful, limits}
use Rattle.regatta_board.specs.Replays.{first_refused}
use Rattle.regatta_board.specs.declared.replay.ReplayFault.{ReplayFault}
use Rattle.regatta_board.specs.declared.replay.ReplayFault.TheVariants as replay
use Rattle.regatta_preview.specs.declared.run.PreviewFault.{PreviewFault}
use Rattle.regatta_preview.specs.declared.run.PrintFault.{PrintFault}
use Rattle.regatta_preview.specs.declared.run.PrintFault.TheVariants as printing
use Rattle.regatta_preview.specs.declared.run.PreviewFault.TheVariants.{Start, Read, Write, InputTooLong}
use Rattle.regatta_preview.specs.declared.run.PreviewFault.TheVariants.{NoMemory}
use Rattle.regatta_preview.specs.declared.run.TheConstants.{INPUT_LIMIT}

-- this holds of a text that is all that was given, if that is known, and isn't too long
abbrev pub OfLines : Option (List ℕ) → (List ℕ → Type 0) → Type 0
OfLines given P = (text : List ℕ) × IsAllOf given INPUT_LIMIT text × P text

-- all of a text was written, or a beginning of it
abbrev pub WritesAtMost : List ℕ → Option (List ℕ) → Option (List ℕ) → Type 0
WritesAtMost text old new = Appends old new text ⊎ AppendsPrefix old new text

-- ---- faults

-- a refused entry of the start, or out of memory
abbrev pub start_fault : ReplayFault → PreviewFault
start_fault (replay.Refused at why) = Start at why
start_fault replay.NoMemory = NoMemory

-- a failed read, a text that is too long, or out of memory
abbrev pub read_fault : ReadFault → PreviewFault
read_fault reading.Stream = Read
read_fault reading.TooLong = InputTooLong
read_fault reading.NoMemory = NoMemory

-- the faults of a preview by the first refused entry of its start: that entry, or out of memory; any
-- other fault comes only if no entry is refused
abbrev pub IsFaultOf : Option (ℕ × Refusal) → PreviewFault → Type 0
IsFaultOf due (Start at why) = due ≡ Some (at, why)
IsFaultOf due NoMemory = Unit {0}
IsFaultOf due Read = due ≡ None
IsFaultOf due Write = due ≡ None
IsFaultOf due InputTooLong = due ≡ None

-- the start of a preview with this result: it is lawful if the preview succeeds, and a fault of the
-- start is that of its first refused entry
abbrev pub IsStartOf : {A : Type 0} → RulesParts → Journal → Result A PreviewFault → Type 0
IsStartOf rules start (Ok done) = is_lawful limits rules start ≡ true
IsStartOf rules start (Err fault) = IsFaultOf (first_refused rules start) fault

-- how many reads and writes a fault says have failed
abbrev pub failed_reads_by : PreviewFault → ℕ
failed_reads_by Read = 1
failed_reads_by (Start at why) = 0
failed_reads_by Write = 0
failed_reads_by InputTooLong = 0
failed_reads_by NoMemory = 0

abbrev pub failed_writes_by : PreviewFault → ℕ
failed_writes_by Write = 1
failed_writes_by (Start at why) = 0
failed_writes_by Read = 0
failed_writes_by InputTooLong = 0
failed_writes_by NoMemory = 0

abbrev pub failed_reads_of : {A : Type 0} → Result A PreviewFault → ℕ
failed_reads_of (Ok done) = 0
failed_reads_of (Err fault) = failed_reads_by fault

abbrev pub failed_writes_of : {A : Type 0} → Result A PreviewFault → ℕ
failed_writes_of (Ok done) = 0
failed_writes_of (Err fault) = failed_writes_by fault

-- the same for printing
abbrev pub failed_writes_in : {A : Type 0} → Result A PrintFault → ℕ
failed_writes_in (Ok done) = 0
failed_writes_in (Err printing.Write) = 1
failed_writes_in (Err printing.NoMemory) = 0

-- the failed calls of the reader and of the writer, before and after: a failed device is reported as
-- its own fault and as nothing else
pub record AreCounted {A : Type 0} (reads reads' writes writes' : ℕ) (result : Result A PreviewFault)
    : Type 0 where
  pub read : reads' ≡ reads + failed_reads_of result
  pub wrote : writes' ≡ writes + failed_writes_of result

-- ---- what a preview leaves as it was, and what it reads

-- if an entry of the start is refused, nothing is read or written; after any fault but that of a write
-- nothing is written
pub record IsUntouched {A R W : Type 0} (due : Option (ℕ × Refusal)) (input input' : R)
    (output output' : W) (result : Result A PreviewFault) : Type 0 where
  pub refused : due ≢ None → (input' ≡ input) × (output' ≡ output)
  pub silent : IfErr result (λ why. why ≢ Write → output' ≡ output)

-- at most one byte more than the limit is read, and the input is too long only if that came
pub record IsTaken {A : Type 0} (given left : Option (List ℕ)) (result : Result A PreviewFault)
    : Type 0 where
  pub most : GaveAtMost (INPUT_LIMIT + 1) given left
  pub long : IsErrOf result InputTooLong → IfSome given (λ text. INPUT_LIMIT < length text)
