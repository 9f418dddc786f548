-- The texts of replies.
use Rattle.std.specs.Prelude.{ℕ, List, [], ◌∷◌, Option, Some, None, codes, decimal}
use Rattle.regatta_terms.specs.Entries.{role_text, points_text}
use Rattle.regatta_terms.specs.Replies.{number_of_refusal, number_of_fault}
use Rattle.regatta_terms.specs.declared.reply.Touched.{Touched}
use Rattle.regatta_terms.specs.declared.reply.Reply.{Reply}
use Rattle.regatta_terms.specs.declared.reply.Reply.TheVariants.{Done, Refused, Fault, RoleSet}
use Rattle.regatta_terms.specs.declared.reply.Reply.TheVariants.{Ranked, Bye, Busy, Closed}
use Rattle.regatta_tables.specs.Lines.{line}
use Rattle.regatta_tables.specs.TableTexts.{rank_text}

-- the rank and net points of the boat that a reply names, if it names one
abbrev pub named_words : Option Touched → List (List ℕ)
named_words None = []
named_words (Some touched) = rank_text touched.rank touched.tied ∷ points_text touched.net ∷ []

-- a reply is one line. OK is followed by the place of the entry in the journal, and NO by the number
-- of a refusal or of a fault
abbrev pub reply_text : Reply → List ℕ
reply_text (Done answer) = line (codes "OK" ∷ decimal answer.place ∷ named_words answer.touched)
reply_text (Refused refusal) = line (codes "NO" ∷ decimal (number_of_refusal refusal) ∷ [])
reply_text (Fault fault) = line (codes "NO" ∷ decimal (number_of_fault fault) ∷ [])
reply_text (RoleSet role) = line (codes "ROLE" ∷ role_text role ∷ [])
reply_text (Ranked touched) = line (codes "RANK" ∷ named_words (Some touched))
reply_text Bye = line (codes "BYE" ∷ [])
reply_text Busy = line (codes "BUSY" ∷ [])
reply_text Closed = line (codes "CLOSED" ∷ [])
