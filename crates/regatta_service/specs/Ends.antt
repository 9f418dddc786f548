-- What the end of a session says of its stream.
use Rattle.std.specs.Prelude.{◌≡◌, ◌≢◌, ℕ, Bool, true, List, Option, Result, Ok, Err}
use Rattle.std.specs.Io.KnownBytes.{Keeps}
use Rattle.regatta_service.specs.declared.sessions.End.{End}

-- the number of failed calls of the stream in a session with this end: a failed call ends the
-- session and is reported as what it is
abbrev pub failures_in : End → ℕ
failures_in End.Quit = 0
failures_in End.Closed = 0
failures_in End.ReadFault = 1
failures_in End.WriteFault = 1
failures_in End.Stopped = 0
failures_in End.NoMemory = 0
failures_in End.NotKept = 0

-- the number of failed reads
abbrev pub failed_reads_in : End → ℕ
failed_reads_in End.Quit = 0
failed_reads_in End.Closed = 0
failed_reads_in End.ReadFault = 1
failed_reads_in End.WriteFault = 0
failed_reads_in End.Stopped = 0
failed_reads_in End.NoMemory = 0
failed_reads_in End.NotKept = 0

-- the number of failed calls for a part of a session, which may have ended there
abbrev pub failures_so_far : {A : Type 0} → Result A End → ℕ
failures_so_far (Ok room) = 0
failures_so_far (Err end) = failures_in end

-- no read was made, and what is still to be read stays
pub record ReadsNothing {S : Type 0} (remaining : S → Option (List ℕ)) (failed_reads : S → ℕ)
    (old new : S) : Type 0 where
  pub no_read : failed_reads new ≡ failed_reads old
  pub keeps : Keeps (remaining old) (remaining new)

-- in a part of a session, a reply stays sealed exactly if it was refused a cover
pub record SealsRefused {A C : Type 0} (refused : C → Bool) (before after : C) (result : Result A End)
    : Type 0 where
  pub sealed : result ≡ Err End.NotKept → refused after ≡ true
  pub covered : result ≢ Err End.NotKept → refused after ≡ refused before
