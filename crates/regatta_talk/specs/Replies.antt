-- The replies to lines.
use Rattle.std.specs.Prelude.{Bool, true, false, Option, Some, None, Result, Ok, Err}
use Rattle.regatta_terms.specs.declared.command.Role.{Role}
use Rattle.regatta_terms.specs.declared.line.Line.{Line}
use Rattle.regatta_terms.specs.declared.line.Line.TheVariants.{Do, SetRole, Rank, Show, Quit}
use Rattle.regatta_terms.specs.declared.line.LineFault.{LineFault}
use Rattle.regatta_terms.specs.declared.reply.Answer.{Answer}
use Rattle.regatta_terms.specs.declared.reply.Refusal.{Refusal}
use Rattle.regatta_terms.specs.declared.reply.Refusal.TheVariants.{NotEntered}
use Rattle.regatta_terms.specs.declared.reply.Touched.{Touched}
use Rattle.regatta_terms.specs.declared.reply.Reply.{Reply}
use Rattle.regatta_terms.specs.declared.reply.Reply.TheVariants.{Done, Refused, Fault, RoleSet}
use Rattle.regatta_terms.specs.declared.reply.Reply.TheVariants.{Ranked, Bye}
use Rattle.regatta_talk.specs.declared.asked.ApartLine.{ApartLine}
use Rattle.regatta_talk.specs.declared.asked.ApartLine.TheVariants as ApartLine
use Rattle.regatta_talk.specs.declared.asked.AskedLine.{AskedLine}
use Rattle.regatta_talk.specs.declared.asked.AskedLine.TheVariants.{Desk, Apart}
use Rattle.regatta_talk.specs.declared.asked.DeskLine.{DeskLine}
use Rattle.regatta_talk.specs.declared.asked.Next.{Next}
use Rattle.regatta_talk.specs.declared.asked.Next.TheVariants.{Go, End}

-- the reply to a command, from the board's answer to its entry
abbrev pub reply_of : Result Answer Refusal → Reply
reply_of (Ok answer) = Done answer
reply_of (Err why) = Refused why

-- the reply to RANK: a boat without a row isn't entered
abbrev pub ranked : Option Touched → Reply
ranked (Some touched) = Ranked touched
ranked None = Refused NotEntered

-- what a line asks for, by who answers it
abbrev pub asked_line : Result Line LineFault → AskedLine
asked_line (Ok (Do command)) = Desk (DeskLine.Do command)
asked_line (Ok (Rank sail)) = Desk (DeskLine.Rank sail)
asked_line (Ok Show) = AskedLine.Show
asked_line (Ok (SetRole role)) = Apart (ApartLine.SetRole role)
asked_line (Ok Quit) = Apart ApartLine.Quit
asked_line (Err fault) = Apart (ApartLine.Fault fault)

-- whether the desk answers it; the pass or the session alone answers the others
abbrev pub is_for_desk : AskedLine → Bool
is_for_desk (Desk line) = true
is_for_desk AskedLine.Show = false
is_for_desk (Apart line) = false

-- ---- a line that asks nothing of the board

-- its reply
abbrev pub reply_apart : ApartLine → Reply
reply_apart (ApartLine.SetRole role) = RoleSet role
reply_apart ApartLine.Quit = Bye
reply_apart (ApartLine.Fault fault) = Fault fault

-- the role of the lines after it
abbrev pub role_apart : ApartLine → Role → Role
role_apart (ApartLine.SetRole next) role = next
role_apart ApartLine.Quit role = role
role_apart (ApartLine.Fault fault) role = role

-- QUIT is the last line
abbrev pub next_apart : ApartLine → Next
next_apart (ApartLine.SetRole role) = Go
next_apart ApartLine.Quit = End
next_apart (ApartLine.Fault fault) = Go

-- ---- any line

-- the role of the lines after it
abbrev pub role_after : AskedLine → Role → Role
role_after (Desk line) role = role
role_after AskedLine.Show role = role
role_after (Apart line) role = role_apart line role

-- whether lines after it are answered
abbrev pub next_after : AskedLine → Next
next_after (Desk line) = Go
next_after AskedLine.Show = Go
next_after (Apart line) = next_apart line
