-- The check of a text.
use Rattle.std.specs.Prelude.{ℕ, Bool, true, false, not, ◌&&◌, List, [], ◌∷◌, length, Option, Some, None}
use Rattle.regatta_terms.specs.Rules.{RulesParts}
use Rattle.regatta_keep.specs.WholeLines.{is_torn_file, lines_in, torn_part, whole_part}
use Rattle.regatta_check.specs.declared.parts.Check.{Check}
use Rattle.regatta_check.specs.declared.parts.Fault.{Fault}
use Rattle.regatta_check.specs.declared.parts.RowFault.{RowFault}
use Rattle.regatta_check.specs.declared.parts.Torn.{Torn}
use Rattle.regatta_check.specs.EntryRows.{list_faults_if}
use Rattle.regatta_check.specs.Faults.{journal_accepted, journal_faults}

-- whether nothing is wrong with lines
abbrev pub are_sound : List Fault → Bool
are_sound [] = true
are_sound (fault ∷ faults) = false

-- whether the end of a kept file may be cut off; a journal has none
abbrev pub may_be_cut : Option Torn → Bool
may_be_cut None = true
may_be_cut (Some torn) = not torn.is_damage

-- whether nothing is wrong with rows
abbrev pub are_sound_rows : List RowFault → Bool
are_sound_rows [] = true
are_sound_rows (fault ∷ faults) = false

-- whether nothing is wrong with the lines and the end
abbrev pub is_sound_text : Check → Bool
is_sound_text check = are_sound check.faults && may_be_cut check.torn

-- whether nothing is wrong
abbrev pub is_sound : Check → Bool
is_sound check = is_sound_text check && are_sound_rows check.rows

-- the check of a journal, and of an entry list whose boats are entered after what is accepted of it
abbrev pub check_of_journal : RulesParts → List ℕ → Option (List ℕ) → Check
check_of_journal rules text list = record {
  faults = journal_faults rules text;
  torn = None;
  rows = list_faults_if rules false (journal_accepted rules text) list;
}

-- the end of a kept file after its whole lines
abbrev pub torn_of : List ℕ → Torn
torn_of file = record {
  lines = lines_in (whole_part file);
  at = length (whole_part file);
  bytes = length (torn_part file);
  is_damage = not (is_torn_file file);
}

-- the check of a kept file: of its whole lines, which come first, of its end, and of an entry list of
-- which those boats are entered that the file doesn't have
abbrev pub check_of_kept : RulesParts → List ℕ → Option (List ℕ) → Check
check_of_kept rules file list = record {
  faults = journal_faults rules (whole_part file);
  torn = Some (torn_of file);
  rows = list_faults_if rules true (journal_accepted rules (whole_part file)) list;
}
