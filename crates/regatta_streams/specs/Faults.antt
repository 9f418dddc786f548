-- What a fault of reading says of the calls of the stream.
use Rattle.std.specs.Prelude.{ℕ, Result, Ok, Err}
use Rattle.regatta_streams.specs.declared.whole.ReadFault.{ReadFault}

-- the number of failed calls of a stream that was read with this result
abbrev pub failed_calls_in : {A : Type 0} → Result A ReadFault → ℕ
failed_calls_in (Ok text) = 0
failed_calls_in (Err ReadFault.Stream) = 1
failed_calls_in (Err ReadFault.TooLong) = 0
failed_calls_in (Err ReadFault.NoMemory) = 0
