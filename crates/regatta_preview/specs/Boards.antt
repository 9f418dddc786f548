-- What a board knows of a talk.
use Rattle.std.specs.Prelude.{Bool, true, false}
use Rattle.regatta_terms.specs.declared.command.Role.{Role}
use Rattle.regatta_terms.specs.declared.reply.Refusal.{Refusal}
use Rattle.regatta_terms.specs.declared.reply.Refusal.TheVariants.{NoMemory}
use Rattle.regatta_board.specs.BoardFacts.{BoardValue}
use Rattle.regatta_preview.specs.Talks.{Talk}

-- the state of a talk on this board, in this role
abbrev pub talk_of : BoardValue → Role → Talk
talk_of board role = record { role = role; journal = board.entries }

-- running out of memory ends a preview: it has no reply
abbrev pub is_out_of_memory : Refusal → Bool
is_out_of_memory NoMemory = true
is_out_of_memory _ = false
