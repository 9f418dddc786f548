-- Words for worked examples of whole runs.
use Rattle.std.specs.Prelude.{ℕ, Bool, Some, None, Result, Ok}
use Rattle.regatta_terms.specs.declared.reply.Answer.{Answer}
use Rattle.regatta_terms.specs.declared.reply.Refusal.{Refusal}

-- the answer to a command that names a boat: its place, her rank, whether it is tied, her net
abbrev pub ok : ℕ → ℕ → Bool → ℕ → Result Answer Refusal
ok place rank tied net =
    Ok (record { place = place; touched = Some (record { rank = rank; tied = tied; net = net }) })

-- the answer to a command that names no boat: its place
abbrev pub ok_alone : ℕ → Result Answer Refusal
ok_alone place = Ok (record { place = place; touched = None })
