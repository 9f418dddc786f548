-- What one call of a stream does.
use Rattle.std.specs.Prelude.{◌≡◌, ℕ, ◌+◌, ◌<◌, ◌≤◌, List, Option, Result, length, IfOk, OnOk, OnErr}
use Rattle.std.specs.Io.KnownBytes.{Appends, Keeps, ReadConsumes, WriteAppends}
use Rattle.regatta_streams.specs.Texts.{AppendsPrefix}
use Rattle.regatta_streams.specs.declared.stream.StreamFault.{StreamFault}

-- a read gave the bytes at the front of `buf` that its result counts, none only at the end or without
-- room. A failed one gave none, and was counted as a failed call and as a failed read. What was
-- written stays
pub record IsRead {S : Type 0} (failures failed_reads : S → ℕ)
    (remaining contents : S → Option (List ℕ)) (old new : S) (result : Result ℕ StreamFault)
    (buf : List ℕ) : Type 0 where
  pub bound : IfOk result (λ n. n ≤ length buf)
  pub bytes : ReadConsumes (remaining old) (remaining new) result buf
  pub keeps : Keeps (contents old) (contents new)
  pub well : OnOk result (failures new ≡ failures old)
  pub failed : OnErr result (failures new ≡ failures old + 1)
  pub reads_well : OnOk result (failed_reads new ≡ failed_reads old)
  pub read_failed : OnErr result (failed_reads new ≡ failed_reads old + 1)

-- a write took the bytes at the front of `buf` that its result counts, at least one if there is any.
-- A failed one took none, and was counted as a failed call. No read was made, and what is still to be
-- read stays
pub record IsWrite {S : Type 0} (failures failed_reads : S → ℕ)
    (remaining contents : S → Option (List ℕ)) (old new : S) (result : Result ℕ StreamFault)
    (buf : List ℕ) : Type 0 where
  pub bound : IfOk result (λ n. n ≤ length buf)
  pub some : IfOk result (λ n. 0 < length buf → 0 < n)
  pub bytes : WriteAppends (contents old) (contents new) result buf
  pub keeps : Keeps (remaining old) (remaining new)
  pub well : OnOk result (failures new ≡ failures old)
  pub failed : OnErr result (failures new ≡ failures old + 1)
  pub no_read : failed_reads new ≡ failed_reads old

-- all of these bytes were written, or a write failed: then some first part of them was, perhaps none,
-- never all. No read was made, and what is still to be read stays
pub record WritesWhole {S : Type 0} (failures failed_reads : S → ℕ)
    (remaining contents : S → Option (List ℕ)) (old new : S)
    (result : Result (Unit {0}) StreamFault) (bytes : List ℕ) : Type 0 where
  pub ok : OnOk result (Appends (contents old) (contents new) bytes)
  pub cut : OnErr result (AppendsPrefix (contents old) (contents new) bytes)
  pub well : OnOk result (failures new ≡ failures old)
  pub failed : OnErr result (failures new ≡ failures old + 1)
  pub no_read : failed_reads new ≡ failed_reads old
  pub keeps : Keeps (remaining old) (remaining new)
