-- The rows of a preview.
use Rattle.std.specs.Prelude.{ℕ, List, ◌++◌, codes, decimal, Option, Some, None}
use Rattle.regatta_terms.specs.CommandWords.{role_text}
use Rattle.regatta_terms.specs.Entries.{points_text}
use Rattle.regatta_terms.specs.Replies.{number_of_fault, number_of_refusal}
use Rattle.regatta_terms.specs.declared.command.Role.{Role}
use Rattle.regatta_terms.specs.declared.reply.Answer.{Answer}
use Rattle.regatta_terms.specs.declared.reply.Reply.{Reply}
use Rattle.regatta_terms.specs.declared.reply.Reply.TheVariants.{Done, Refused, Fault, RoleSet}
use Rattle.regatta_terms.specs.declared.reply.Reply.TheVariants.{Ranked, Bye, Busy, Closed}
use Rattle.regatta_terms.specs.declared.reply.Touched.{Touched}
use Rattle.regatta_scores.specs.declared.table.Cell.{Cell}
use Rattle.regatta_json.specs.Fields.{field, mark_value}
use Rattle.regatta_json.specs.Rows.{flag_text, rows}
use Rattle.regatta_words.specs.Sentences.{fault_name, refusal_name}
use Rattle.regatta_preview.specs.declared.parts.Change.{Change}
use Rattle.regatta_preview.specs.declared.parts.LineReply.{LineReply}
use Rattle.regatta_preview.specs.declared.parts.LineReply.TheVariants.{Short, Sheet}
use Rattle.regatta_preview.specs.declared.parts.Move.{Move}
use Rattle.regatta_preview.specs.declared.parts.ScoreChange.{ScoreChange}

-- a boat's rank and net
unfoldable pub place_text : Touched → List ℕ
place_text place = field (codes "{\"rank\":") (decimal place.rank)
    ++ field (codes ",\"tied\":") (flag_text place.tied)
    ++ field (codes ",\"net\":") (points_text place.net) ++ codes "}"

-- the same, or null
unfoldable pub place_value : Option Touched → List ℕ
place_value None = codes "null"
place_value (Some place) = place_text place

-- a command was accepted: the place of its entry, and the rank and net of its boat
unfoldable pub answer_row : Answer → List ℕ
answer_row answer = field (codes "{\"reply\":\"OK\",\"entry\":") (decimal answer.place)
    ++ field (codes ",\"boat\":") (place_value answer.touched) ++ codes "}"

-- a command was refused, or a line can't be read: the number and the name of why
unfoldable pub no_row : ℕ → List ℕ → List ℕ
no_row number name = field (codes "{\"reply\":\"NO\",\"number\":") (decimal number)
    ++ field (codes ",\"name\":\"") name ++ codes "\"}"

-- the role was set
unfoldable pub role_row : Role → List ℕ
role_row role = field (codes "{\"reply\":\"ROLE\",\"role\":\"") (role_text role) ++ codes "\"}"

-- a boat's rank and net were asked for
unfoldable pub rank_row : Touched → List ℕ
rank_row place = field (codes "{\"reply\":\"RANK\",\"boat\":") (place_text place) ++ codes "}"

-- a reply of one line
unfoldable pub short_row : Reply → List ℕ
short_row (Done answer) = answer_row answer
short_row (Refused why) = no_row (number_of_refusal why) (refusal_name why)
short_row (Fault fault) = no_row (number_of_fault fault) (fault_name fault)
short_row (RoleSet role) = role_row role
short_row (Ranked place) = rank_row place
short_row Bye = codes "{\"reply\":\"BYE\"}"
short_row Busy = codes "{\"reply\":\"BUSY\"}"
short_row Closed = codes "{\"reply\":\"CLOSED\"}"

-- a sheet, of which only the number of entries is said
unfoldable pub sheet_row : ℕ → List ℕ
sheet_row entries = field (codes "{\"reply\":\"JOURNAL\",\"entries\":") (decimal entries) ++ codes "}"

-- the reply to a line
unfoldable pub reply_row : LineReply → List ℕ
reply_row (Short reply) = short_row reply
reply_row (Sheet entries) = sheet_row entries

-- ---- who moves, and whose scores change

-- a boat's place before the lines and after them
unfoldable pub move_text : Move → List ℕ
move_text move = field (codes "{\"sail\":\"") move.sail
    ++ field (codes "\",\"before\":") (place_value move.before)
    ++ field (codes ",\"after\":") (place_text move.after)

-- a boat that moves
unfoldable pub move_row : Move → List ℕ
move_row move = move_text move ++ codes "}"

-- a score
unfoldable pub cell_text : Cell → List ℕ
cell_text cell = field (codes "{\"points\":") (points_text cell.points)
    ++ field (codes ",\"mark\":") (mark_value cell.mark)
    ++ field (codes ",\"excluded\":") (flag_text cell.dropped) ++ codes "}"

-- the same, or null
unfoldable pub cell_value : Option Cell → List ℕ
cell_value None = codes "null"
cell_value (Some cell) = cell_text cell

-- a boat's score in a race before the lines and after them
unfoldable pub score_row : ScoreChange → List ℕ
score_row score = field (codes "{\"race\":") (decimal score.race)
    ++ field (codes ",\"before\":") (cell_value score.before)
    ++ field (codes ",\"after\":") (cell_value score.after) ++ codes "}"

-- a boat whose rank, net or scores change
unfoldable pub change_row : Change → List ℕ
change_row change = move_text change.step ++ codes ",\"scores\":[\n"
    ++ rows score_row change.scores ++ codes "\n]}"
