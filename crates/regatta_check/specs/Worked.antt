-- Checks worked out by hand.
use Rattle.std.specs.Prelude.{◌≡◌, refl, ℕ, true, false, List, [], ◌∷◌, Some, None, codes}
use Rattle.std.specs.Fmt.{digits}
use Rattle.csv.specs.Machine.{next_record}
use Rattle.csv.specs.Reading.{records_from, strip_bom}
use Rattle.regatta_terms.specs.Entries.{entry_of, entry_of_words}
use Rattle.regatta_terms.specs.Lines.{command_of_words}
use Rattle.regatta_terms.specs.Versions.{version_of}
use Rattle.regatta_terms.specs.declared.reply.Refusal.TheVariants.{AlreadyEntered}
use Rattle.regatta_scores.specs.WorkedStandings.{default_rules}
use Rattle.regatta_json.specs.Rows.{joined}
use Rattle.regatta_check.specs.declared.parts.Kind.TheVariants.{BadVersion, TooMany}
use Rattle.regatta_check.specs.declared.parts.RowKind.TheVariants as row
use Rattle.regatta_check.specs.Checks.{check_of_journal, check_of_kept, is_sound}
use Rattle.regatta_check.specs.Documents.{document_text, lines_text}
use Rattle.regatta_check.specs.EntryRows.{list_faults, row_faults}
use Rattle.regatta_check.specs.Faults.{accepted_of, faults_of, faults_within, journal_accepted}
use Rattle.regatta_check.specs.Faults.{journal_faults}
use Rattle.regatta_check.specs.Places.{placed, placed_from}
use Rattle.regatta_check.specs.Rows.{fault_row, kind_text, named_text, place_text, torn_text}
use Rattle.regatta_check.specs.Rows.{row_fault_row, row_kind_text, torn_value}

-- a kept file: a line is no entry, B isn't entered yet, and C has a number that B used. No line that
-- something is wrong with leaves a trace, so B may be entered. The last line is torn
unfoldable pub torn_file : List ℕ
torn_file = joined (
    codes "REGATTA 2\n"
    ∷ codes "1 1 SCORER ENTER A\n"
    ∷ codes "X\n"
    ∷ codes "1 2 FINISH FINISH 1 B\n"
    ∷ codes "1 3 SCORER ENTER B\n"
    ∷ codes "1 3 SCORER ENTER C\n"
    ∷ codes "1 4 SCORER EN"
    ∷ [])

unfoldable pub checked_by_hand : List ℕ
checked_by_hand = joined (
    codes "{\"faults\":[\n"
    ∷ codes "{\"line\":3,\"at\":29,\"bytes\":1,"
    ∷ codes "\"fault\":\"BadLine\",\"number\":22,\"name\":\"WrongCount\"},\n"
    ∷ codes "{\"line\":4,\"at\":31,\"bytes\":21,"
    ∷ codes "\"fault\":\"Refused\",\"number\":7,\"name\":\"NotEntered\"},\n"
    ∷ codes "{\"line\":6,\"at\":72,\"bytes\":18,"
    ∷ codes "\"fault\":\"Refused\",\"number\":3,\"name\":\"OldNumber\"}\n"
    ∷ codes "],\n"
    ∷ codes "\"torn\":{\"lines\":6,\"at\":91,\"bytes\":13,\"damaged\":false},\n"
    ∷ codes "\"rows\":[\n"
    ∷ codes "{\"row\":4,\"fault\":\"BadSail\"},\n"
    ∷ codes "{\"row\":5,\"fault\":\"Twice\"}\n"
    ∷ codes "]}\n"
    ∷ [])

-- its entry list: A is entered already, and skipped; a sail doesn't read, and C is there twice
unfoldable pub list_of_boats : List ℕ
list_of_boats = codes "Boat,Sail\nWind,A\nWave,C\nTide,C_1\nFoam,c\n"

pub checks_a_kept_file : document_text (check_of_kept default_rules torn_file (Some list_of_boats))
    ≡ checked_by_hand
unfolding digits version_of entry_of entry_of_words command_of_words torn_file checked_by_hand placed_from
    faults_of journal_faults accepted_of journal_accepted row_faults list_faults document_text lines_text
    fault_row place_text kind_text named_text torn_value torn_text row_fault_row row_kind_text next_record
    records_from strip_bom list_of_boats
checks_a_kept_file = refl

-- nothing is wrong with an old text, which has no version line
pub accepts_a_and_b : document_text (check_of_journal default_rules
    (codes "1 1 SCORER ENTER A\n1 2 SCORER ENTER B\n") None)
    ≡ codes "{\"faults\":[\n\n],\n\"torn\":null,\n\"rows\":[\n\n]}\n"
unfolding digits version_of entry_of entry_of_words command_of_words placed_from faults_of journal_faults
    document_text lines_text torn_value
accepts_a_and_b = refl

-- of a text of an unknown version nothing else is read
pub unknown_version : journal_faults default_rules (codes "REGATTA 3\nX\n")
    ≡ record { place = record { line = 1; at = 0; bytes = 9 }; kind = BadVersion } ∷ []
unfolding version_of placed_from journal_faults
unknown_version = refl

-- the first line after as many as may be read is one too many, and no other is read
pub one_too_many : faults_within default_rules 1 [] (placed (codes "1 1 SCORER ENTER A\nX\nY\n"))
    ≡ record { place = record { line = 2; at = 19; bytes = 1 }; kind = TooMany } ∷ []
unfolding entry_of entry_of_words command_of_words placed_from faults_of
one_too_many = refl

-- a file without a whole line is damaged, unless a version line was begun
pub begun : (is_sound (check_of_kept default_rules (codes "REGA") None) ≡ true)
    × (is_sound (check_of_kept default_rules (codes "SQL") None) ≡ false)
unfolding placed_from journal_faults
begun = (refl, refl)

-- a boat that the journal has entered is refused, unless the series goes on from it
pub entered_already : list_faults default_rules false
    (journal_accepted default_rules (codes "1 1 SCORER ENTER A\n")) (codes "Sail\nB\nA\n")
    ≡ record { row = 3; kind = row.Refused AlreadyEntered } ∷ []
unfolding version_of entry_of entry_of_words command_of_words placed_from accepted_of journal_accepted
    row_faults list_faults next_record records_from strip_bom
entered_already = refl

-- a list without a column of sails
pub without_a_column : list_faults default_rules false [] (codes "Boat\nWind\n")
    ≡ record { row = 1; kind = row.NoColumn } ∷ []
unfolding row_faults list_faults next_record records_from strip_bom
without_a_column = refl
