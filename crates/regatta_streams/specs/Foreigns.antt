-- What a contract sees of a `Foreign`.
use Rattle.std.specs.Prelude.{ℕ, List, Option, None}
use Rattle.regatta_streams.specs.declared.foreign.Foreign.{Foreign}

-- how many of its calls have failed
abbrev pub failed_calls : {X : Type 0} → Foreign X → ℕ
failed_calls stream = stream.failures.count

-- how many of its reads have failed
abbrev pub failed_reads : {X : Type 0} → Foreign X → ℕ
failed_reads stream = stream.failed_reads.count

-- the bytes that its reader still gives, or that its writer holds, if they are known
abbrev pub inner_bytes : {X : Type 0} → (X → Option (List ℕ)) → Foreign X → Option (List ℕ)
inner_bytes bytes stream = bytes stream.inner

-- no contract knows the bytes of a file or a socket
abbrev pub unknown : {X : Type 0} → Foreign X → Option (List ℕ)
unknown stream = None
