-- The faults of a run.
use Rattle.std.specs.Prelude.{◌≡◌, ℕ, ◌+◌, Result, Ok, Err}
use Rattle.regatta_board.specs.declared.replay.ReplayFault.{ReplayFault}
use Rattle.regatta_board.specs.declared.replay.ReplayFault.TheVariants as replay
use Rattle.regatta_office.specs.declared.run.RunFault.{RunFault}
use Rattle.regatta_office.specs.declared.run.RunFault.TheVariants.{Start, Read, Write, NoMemory}
use Rattle.regatta_office.specs.declared.scribe.ScribeFault.{ScribeFault}
use Rattle.regatta_office.specs.declared.scribe.ScribeFault.TheVariants as scribe

-- a refused entry of the start, or out of memory
abbrev pub start_fault : ReplayFault → RunFault
start_fault (replay.Refused at why) = Start at why
start_fault replay.NoMemory = NoMemory

-- a failed write, or out of memory
abbrev pub scribe_fault : ScribeFault → RunFault
scribe_fault scribe.Write = Write
scribe_fault scribe.NoMemory = NoMemory

-- the number of failed writes: a failed write ends the writing and is reported as what it is
abbrev pub writes_failed_by : ScribeFault → ℕ
writes_failed_by scribe.Write = 1
writes_failed_by scribe.NoMemory = 0

abbrev pub failed_writes_in : {A : Type 0} → Result A ScribeFault → ℕ
failed_writes_in (Ok done) = 0
failed_writes_in (Err fault) = writes_failed_by fault

-- the same for a run that ends with one write
abbrev pub failed_writes_of : {A : Type 0} → Result A RunFault → ℕ
failed_writes_of (Ok done) = 0
failed_writes_of (Err Write) = 1
failed_writes_of (Err _) = 0

-- a fault of a run, with the failures of the reader and the writer, before and after: a failed
-- device is reported as its own fault and as nothing else
abbrev pub IsRunFaultOf : ℕ → ℕ → ℕ → ℕ → RunFault → Type 0
IsRunFaultOf reads reads' writes writes' Read = (reads' ≡ reads + 1) × (writes' ≡ writes)
IsRunFaultOf reads reads' writes writes' Write = (reads' ≡ reads) × (writes' ≡ writes + 1)
IsRunFaultOf reads reads' writes writes' _ = (reads' ≡ reads) × (writes' ≡ writes)

-- the failed calls of the reader and the writer are counted in a run with this result
abbrev pub AreRunCounted : {A : Type 0} → ℕ → ℕ → ℕ → ℕ → Result A RunFault → Type 0
AreRunCounted reads reads' writes writes' (Ok done) = (reads' ≡ reads) × (writes' ≡ writes)
AreRunCounted reads reads' writes writes' (Err fault) =
    IsRunFaultOf reads reads' writes writes' fault

-- a fault after the start
abbrev pub IsDeviceFault : ℕ → ℕ → ℕ → ℕ → RunFault → Type 0
IsDeviceFault reads reads' writes writes' (Start at why) = ⊥
IsDeviceFault reads reads' writes writes' fault = IsRunFaultOf reads reads' writes writes' fault

-- the same for a part of a run
abbrev pub AreCounted : {A : Type 0} → ℕ → ℕ → ℕ → ℕ → Result A RunFault → Type 0
AreCounted reads reads' writes writes' (Ok done) = (reads' ≡ reads) × (writes' ≡ writes)
AreCounted reads reads' writes writes' (Err fault) =
    IsDeviceFault reads reads' writes writes' fault
