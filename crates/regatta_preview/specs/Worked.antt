-- A preview worked out by hand.
use Rattle.std.specs.Prelude.{◌≡◌, refl, ℕ, List, [], ◌∷◌, ◌++◌, map, codes}
use Rattle.std.specs.Fmt.{digits}
use Rattle.regatta_terms.specs.Lines.{line_of, line_of_words, command_of_words}
use Rattle.regatta_terms.specs.declared.command.Command.TheVariants.{Enter, Finish, Score}
use Rattle.regatta_terms.specs.declared.command.Role.TheVariants.{Jury}
use Rattle.regatta_scores.specs.Journal.{Journal}
use Rattle.regatta_scores.specs.WorkedStandings.{a, b, c, default_rules, journal, scorer}
use Rattle.regatta_json.specs.Fields.{mark_value, quoted}
use Rattle.regatta_json.specs.Rows.{joined}
use Rattle.regatta_preview.specs.Changes.{change_since, changes, changes_between, score_changes}
use Rattle.regatta_preview.specs.Documents.{changes_text, document_text, moves_text, replies_text}
use Rattle.regatta_preview.specs.Moves.{moves}
use Rattle.regatta_preview.specs.Previews.{preview, previewed}
use Rattle.regatta_preview.specs.Rows.{answer_row, cell_text, cell_value, change_row, move_row}
use Rattle.regatta_preview.specs.Rows.{move_text, no_row, place_text, place_value, score_row}
use Rattle.regatta_preview.specs.Rows.{rank_row, reply_row, role_row, sheet_row, short_row}
use Rattle.regatta_preview.specs.Talks.{talked}

-- A, B and C finish race 1 in this order
unfoldable pub one_race : Journal
one_race = journal (map scorer
    (Enter a ∷ Enter b ∷ Enter c ∷ Finish 1 a ∷ Finish 1 b ∷ Finish 1 c ∷ Score 1 ∷ []))

-- the jury disqualifies A; a line isn't theirs, one can't be read, and one boat isn't entered. Then the
-- scorer enters D. Nothing follows QUIT
unfoldable pub lines_of_the_jury : List ℕ
lines_of_the_jury = codes "MARK 1 A DSQ\nENTER D\nMARK\nRANK D\nSHOW\nROLE SCORER\nENTER D\nRANK A\nQUIT\n"
    ++ codes "ENTER E\n"

-- B and C move up (A6.1). A has 4.0, and 5.0 once four boats are entered (A5.2), as D has then
unfoldable pub previewed_by_hand : List ℕ
previewed_by_hand = joined (
    codes "{\"role\":\"JURY\",\n"
    ∷ codes "\"replies\":[\n"
    ∷ codes "{\"reply\":\"OK\",\"entry\":8,\"boat\":{\"rank\":3,\"tied\":false,\"net\":4.0}},\n"
    ∷ codes "{\"reply\":\"NO\",\"number\":4,\"name\":\"NotYours\"},\n"
    ∷ codes "{\"reply\":\"NO\",\"number\":22,\"name\":\"WrongCount\"},\n"
    ∷ codes "{\"reply\":\"NO\",\"number\":7,\"name\":\"NotEntered\"},\n"
    ∷ codes "{\"reply\":\"JOURNAL\",\"entries\":8},\n"
    ∷ codes "{\"reply\":\"ROLE\",\"role\":\"SCORER\"},\n"
    ∷ codes "{\"reply\":\"OK\",\"entry\":9,\"boat\":{\"rank\":3,\"tied\":true,\"net\":5.0}},\n"
    ∷ codes "{\"reply\":\"RANK\",\"boat\":{\"rank\":3,\"tied\":true,\"net\":5.0}},\n"
    ∷ codes "{\"reply\":\"BYE\"}\n"
    ∷ codes "],\n"
    ∷ codes "\"moves\":[\n"
    ∷ codes "{\"sail\":\"B\",\"before\":{\"rank\":2,\"tied\":false,\"net\":2.0},"
    ∷ codes "\"after\":{\"rank\":1,\"tied\":false,\"net\":1.0}},\n"
    ∷ codes "{\"sail\":\"C\",\"before\":{\"rank\":3,\"tied\":false,\"net\":3.0},"
    ∷ codes "\"after\":{\"rank\":2,\"tied\":false,\"net\":2.0}},\n"
    ∷ codes "{\"sail\":\"A\",\"before\":{\"rank\":1,\"tied\":false,\"net\":1.0},"
    ∷ codes "\"after\":{\"rank\":3,\"tied\":true,\"net\":5.0}},\n"
    ∷ codes "{\"sail\":\"D\",\"before\":null,"
    ∷ codes "\"after\":{\"rank\":3,\"tied\":true,\"net\":5.0}}\n"
    ∷ codes "],\n"
    ∷ codes "\"changes\":[\n"
    ∷ codes "{\"sail\":\"B\",\"before\":{\"rank\":2,\"tied\":false,\"net\":2.0},"
    ∷ codes "\"after\":{\"rank\":1,\"tied\":false,\"net\":1.0},\"scores\":[\n"
    ∷ codes "{\"race\":1,\"before\":{\"points\":2.0,\"mark\":null,\"excluded\":false},"
    ∷ codes "\"after\":{\"points\":1.0,\"mark\":null,\"excluded\":false}}\n]},\n"
    ∷ codes "{\"sail\":\"C\",\"before\":{\"rank\":3,\"tied\":false,\"net\":3.0},"
    ∷ codes "\"after\":{\"rank\":2,\"tied\":false,\"net\":2.0},\"scores\":[\n"
    ∷ codes "{\"race\":1,\"before\":{\"points\":3.0,\"mark\":null,\"excluded\":false},"
    ∷ codes "\"after\":{\"points\":2.0,\"mark\":null,\"excluded\":false}}\n]},\n"
    ∷ codes "{\"sail\":\"A\",\"before\":{\"rank\":1,\"tied\":false,\"net\":1.0},"
    ∷ codes "\"after\":{\"rank\":3,\"tied\":true,\"net\":5.0},\"scores\":[\n"
    ∷ codes "{\"race\":1,\"before\":{\"points\":1.0,\"mark\":null,\"excluded\":false},"
    ∷ codes "\"after\":{\"points\":5.0,\"mark\":\"DSQ\",\"excluded\":false}}\n]},\n"
    ∷ codes "{\"sail\":\"D\",\"before\":null,"
    ∷ codes "\"after\":{\"rank\":3,\"tied\":true,\"net\":5.0},\"scores\":[\n"
    ∷ codes "{\"race\":1,\"before\":null,"
    ∷ codes "\"after\":{\"points\":5.0,\"mark\":\"DNC\",\"excluded\":false}}\n]}\n"
    ∷ codes "]}\n"
    ∷ [])

pub previews_the_jury : previewed default_rules one_race Jury lines_of_the_jury ≡ previewed_by_hand
unfolding digits line_of line_of_words command_of_words one_race lines_of_the_jury previewed_by_hand
    preview talked moves document_text replies_text moves_text changes_text reply_row short_row answer_row
    no_row role_row rank_row sheet_row move_text move_row place_text place_value change_row score_row
    cell_text cell_value mark_value quoted changes changes_between change_since score_changes
previews_the_jury = refl
