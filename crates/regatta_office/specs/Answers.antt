-- What an answered line makes of the board of a run.
use Rattle.std.specs.Prelude.{◌≡◌, ℕ, ◌++◌, OnOk, OnErr, Result}
use Rattle.std.specs.Global.{Vec}
use Rattle.regatta_terms.specs.declared.command.Command.{Command}
use Rattle.regatta_terms.specs.declared.command.Role.{Role}
use Rattle.regatta_terms.specs.declared.line.Line.{Line}
use Rattle.regatta_terms.specs.declared.line.LineFault.{LineFault}
use Rattle.regatta_board.specs.BoardFacts.{BoardValue}
use Rattle.regatta_office.specs.Transcript.{Talk}
use Rattle.regatta_office.specs.Turns.{journal_after, talk_after, text_after}

-- the state of a run with this board, in this role
abbrev pub talk_of : BoardValue → Role → Talk
talk_of board role = record { role = role; journal = board.entries }

-- the board after a command
abbrev pub board_after : BoardValue → Role → Command → BoardValue
board_after board role command =
    record board { entries = journal_after board.rules (talk_of board role) command }

-- the text for a line was appended, and board and role are as the line leaves them. After an error
-- all is as it was
pub record Answered {A E : Type 0} (asked : Result Line LineFault) (board after : BoardValue)
    (role later : Role) (old new : Vec ℕ) (result : Result A E) : Type 0 where
  pub text : OnOk result
      (new.items ≡ old.items ++ text_after board.rules (talk_of board role) asked)
  pub talk : OnOk result (talk_of after later ≡ talk_after board.rules (talk_of board role) asked)
  pub rules : OnOk result (after.rules ≡ board.rules)
  pub err : OnErr result ((after ≡ board) × (later ≡ role) × (new.items ≡ old.items))
