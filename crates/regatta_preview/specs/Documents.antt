-- The text of a preview, from its parts.
use Rattle.std.specs.Prelude.{ℕ, List, ◌++◌, codes}
use Rattle.regatta_terms.specs.CommandWords.{role_text}
use Rattle.regatta_json.specs.Fields.{field}
use Rattle.regatta_json.specs.Rows.{rows}
use Rattle.regatta_preview.specs.declared.parts.Preview.{Preview}
use Rattle.regatta_preview.specs.Rows.{change_row, move_row, reply_row}

-- the role of the first line, and the reply to each line
unfoldable pub replies_text : Preview → List ℕ
replies_text preview = field (codes "{\"role\":\"") (role_text preview.role)
    ++ codes "\",\n\"replies\":[\n" ++ rows reply_row preview.replies

-- the boats that move
unfoldable pub moves_text : Preview → List ℕ
moves_text preview = codes "\n],\n\"moves\":[\n" ++ rows move_row preview.moves

-- the boats whose rank, net or scores change
unfoldable pub changes_text : Preview → List ℕ
changes_text preview =
    codes "\n],\n\"changes\":[\n" ++ rows change_row preview.changes ++ codes "\n]}\n"

-- the document
unfoldable pub document_text : Preview → List ℕ
document_text preview = replies_text preview ++ moves_text preview ++ changes_text preview
