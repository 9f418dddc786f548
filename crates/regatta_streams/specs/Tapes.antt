-- What a contract sees of a `Tape`, and what a read or a write changes.
use Rattle.std.specs.Prelude.{ℕ, ◌+◌, ◌-◌, List, ◌++◌, Option, Some, length, drop, min}

pub record TapeParts : Type 0 where
  -- the input not given yet, and the bytes taken
  pub rest : List ℕ
  pub written : List ℕ
  -- the most bytes that one read gives
  pub piece : ℕ
  -- how many more bytes it gives before its reads fail, and takes before its writes fail
  pub gives : ℕ
  pub takes : ℕ
  -- how many of its calls have failed, and of its reads
  pub failures : ℕ
  pub failed_reads : ℕ

-- a tape as a stream: how many of its calls and of its reads have failed, the bytes that it still gives
-- and those that it took
abbrev pub failed_calls : TapeParts → ℕ
failed_calls tape = tape.failures

abbrev pub failed_reads : TapeParts → ℕ
failed_reads tape = tape.failed_reads

abbrev pub rest_of : TapeParts → Option (List ℕ)
rest_of tape = Some tape.rest

abbrev pub written_of : TapeParts → Option (List ℕ)
written_of tape = Some tape.written

-- the number of bytes that a read gives into a buffer of `room` bytes
abbrev pub piece_len : TapeParts → ℕ → ℕ
piece_len tape room = min tape.piece (min tape.gives (min (length tape.rest) room))

-- the number of these bytes that a write takes
abbrev pub taken_len : TapeParts → List ℕ → ℕ
taken_len tape bytes = min (length bytes) tape.takes

-- the tape after it gave n bytes
abbrev pub after_read : TapeParts → ℕ → TapeParts
after_read tape n = record tape { rest = drop n tape.rest; gives = tape.gives - n }

-- the tape after it took these bytes
abbrev pub after_write : TapeParts → List ℕ → TapeParts
after_write tape bytes =
    record tape { written = tape.written ++ bytes; takes = tape.takes - length bytes }

-- the tape after a failed read
abbrev pub after_failed_read : TapeParts → TapeParts
after_failed_read tape =
    record tape { failures = tape.failures + 1; failed_reads = tape.failed_reads + 1 }

-- the tape after a failed write
abbrev pub after_failed_write : TapeParts → TapeParts
after_failed_write tape = record tape { failures = tape.failures + 1 }
