-- Worked examples of replies and tables.
use Rattle.std.specs.Prelude.{◌≡◌, refl, ℕ, Bool, true, false, List, [], ◌∷◌, Some, None, codes}
use Rattle.std.specs.Fmt.{digits}
use Rattle.regatta_terms.specs.declared.reply.Reply.{Reply}
use Rattle.regatta_terms.specs.declared.reply.Reply.TheVariants.{Done, Refused, Fault, RoleSet}
use Rattle.regatta_terms.specs.declared.reply.Reply.TheVariants.{Ranked, Bye, Busy, Closed}
use Rattle.regatta_terms.specs.declared.reply.Refusal.TheVariants.{OldNumber, NotEntered}
use Rattle.regatta_terms.specs.declared.reply.Refusal.TheVariants.{WrongSystem}
use Rattle.regatta_terms.specs.declared.line.LineFault.TheVariants.{BadNumber, BadSeconds}
use Rattle.regatta_terms.specs.declared.command.Code.TheVariants as code
use Rattle.regatta_terms.specs.declared.command.Role.TheVariants as role
use Rattle.regatta_scores.specs.declared.table.Abbrev.{Abbrev}
use Rattle.regatta_scores.specs.declared.table.Abbrev.TheVariants as abbreviation
use Rattle.regatta_scores.specs.declared.table.Cell.{Cell}
use Rattle.regatta_scores.specs.declared.table.Row.{Row}
use Rattle.regatta_scores.specs.declared.table.Standing.{Standing}
use Rattle.regatta_tables.specs.Examples.{Gives}
use Rattle.regatta_tables.specs.ReplyTexts.{reply_text}
use Rattle.regatta_tables.specs.TableTexts.{table_text}
use Rattle.regatta_tables.specs.declared.replies.TheConstants.{REPLY_ROOM}

-- ---- replies

pub bytes_that_are_room_for_a_reply : REPLY_ROOM ≡ 64
bytes_that_are_room_for_a_reply = refl

abbrev done : ℕ → ℕ → Bool → ℕ → Reply
done place rank tied net =
    Done (record { place = place; touched = Some (record { rank = rank; tied = tied; net = net }) })

pub replies : Gives reply_text
    ((done 1 1 false 0, codes "OK 1 1 0.0\n")
    ∷ (done 2 1 true 0, codes "OK 2 1= 0.0\n")
    ∷ (done 8 3 false 40, codes "OK 8 3 4.0\n")
    ∷ (done 8192 1 false 0, codes "OK 8192 1 0.0\n")
    ∷ (Done (record { place = 7; touched = None }), codes "OK 7\n")
    ∷ (Refused (OldNumber 8), codes "NO 3\n")
    ∷ (Refused NotEntered, codes "NO 7\n")
    ∷ (Refused WrongSystem, codes "NO 16\n")
    ∷ (Fault BadNumber, codes "NO 28\n")
    ∷ (Fault BadSeconds, codes "NO 29\n")
    ∷ (RoleSet role.Jury, codes "ROLE JURY\n")
    ∷ (Ranked (record { rank = 1; tied = false; net = 20 }), codes "RANK 1 2.0\n")
    ∷ (Bye, codes "BYE\n") ∷ (Busy, codes "BUSY\n") ∷ (Closed, codes "CLOSED\n") ∷ [])
unfolding digits
replies = refl

-- ---- tables

abbrev cell : ℕ → Cell
cell points = record { points = points; mark = None; dropped = false }

abbrev marked : ℕ → Abbrev → Cell
marked points mark = record { points = points; mark = Some mark; dropped = false }

abbrev dropped : ℕ → Cell
dropped points = record { points = points; mark = None; dropped = true }

abbrev row : List ℕ → ℕ → Bool → ℕ → List Cell → Row
row sail rank tied net cells =
    record { sail = sail; rank = rank; tied = tied; net = net; cells = cells }

abbrev pub standing : List ℕ → List Row → Standing
standing races rows = record { races = races; rows = rows }

-- two boats and no race
abbrev all_equal : Standing
all_equal = standing [] (row (codes "A") 1 true 0 [] ∷ row (codes "B") 1 true 0 [] ∷ [])

-- two boats tied at the finish (A7)
abbrev two_tied : Standing
two_tied = standing (1 ∷ [])
    (row (codes "A") 1 true 15 (cell 15 ∷ []) ∷ row (codes "B") 1 true 15 (cell 15 ∷ [])
    ∷ row (codes "C") 3 false 30 (cell 30 ∷ []) ∷ [])

-- the first of them disqualified (A6.1)
abbrev pub one_disqualified : Standing
one_disqualified = standing (1 ∷ [])
    (row (codes "B") 1 false 10 (cell 10 ∷ []) ∷ row (codes "C") 2 false 20 (cell 20 ∷ [])
    ∷ row (codes "A") 3 false 40 (marked 40 (abbreviation.Code code.Dsq) ∷ []) ∷ [])

-- a boat that did not come to the starting area (A5)
abbrev one_absent : Standing
one_absent = standing (1 ∷ [])
    (row (codes "A") 1 false 10 (cell 10 ∷ []) ∷ row (codes "B") 2 false 30 (marked 30 (abbreviation.Code code.Dnc) ∷ [])
    ∷ [])

-- an excluded score each (A2.1), and redress
abbrev pub one_excluded : Standing
one_excluded = standing (1 ∷ 2 ∷ [])
    (row (codes "A") 1 false 10 (dropped 10 ∷ marked 10 abbreviation.Rdg ∷ [])
    ∷ row (codes "B") 2 false 10 (dropped 20 ∷ cell 10 ∷ []) ∷ [])

pub tables : Gives table_text
    ((standing [] [], codes "TABLE 0 RACES\n")
    ∷ (all_equal, codes "TABLE 2 RACES\n1= A 0.0\n1= B 0.0\n")
    ∷ (two_tied, codes "TABLE 3 RACES 1\n1= A 1.5 1.5\n1= B 1.5 1.5\n3 C 3.0 3.0\n")
    ∷ (one_disqualified, codes "TABLE 3 RACES 1\n1 B 1.0 1.0\n2 C 2.0 2.0\n3 A 4.0 4.0/DSQ\n")
    ∷ (one_absent, codes "TABLE 2 RACES 1\n1 A 1.0 1.0\n2 B 3.0 3.0/DNC\n")
    ∷ (one_excluded, codes "TABLE 2 RACES 1 2\n1 A 1.0 (1.0) 1.0/RDG\n2 B 1.0 (2.0) 1.0\n") ∷ [])
unfolding digits
tables = refl
