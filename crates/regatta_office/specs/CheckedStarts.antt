-- What a check says of the files that a series starts with, and what it prints.
use Rattle.std.specs.Prelude.{◌≡◌, ◌≤◌, ◌⊎◌, ◌↔◌, ℕ, Bool, true, false, length, List, []}
use Rattle.std.specs.Prelude.{Option, Some, None, is_some, Ok}
use Rattle.std.specs.Io.KnownBytes.{Appends, Keeps}
use Rattle.regatta_terms.specs.Rules.{RulesParts, rules_of_texts}
use Rattle.regatta_scores.specs.Journal.{Journal}
use Rattle.regatta_board.specs.Refusals.{limits, is_lawful}
use Rattle.regatta_tables.specs.EntryLists.{entries_of_text}
use Rattle.regatta_tables.specs.JournalFiles.{journal_of}
use Rattle.regatta_arguments.specs.declared.texts.TheConstants.{TEXT_LIMIT}
use Rattle.regatta_keep.specs.WholeLines.{is_torn_file, recovery}
use Rattle.regatta_check.specs.declared.parts.Check.{Check}
use Rattle.regatta_check.specs.Checks.{check_of_journal, check_of_kept, is_sound}
use Rattle.regatta_check.specs.Documents.{document_text}
use Rattle.regatta_office.specs.Asked.{CheckAsked, WritesAtMost}
use Rattle.regatta_office.specs.KeptStarts.{IsKeptStart}
use Rattle.regatta_office.specs.Starts.{start_of}

-- ---- what is checked

-- the text to check, of a kept file or of a journal file: an empty one if neither is named, and none if
-- both are; no proof knows what a file holds
abbrev pub IsTextAt : Option (List ℕ) → Option (List ℕ) → List ℕ → Type 0
IsTextAt None None text = text ≡ []
IsTextAt None (Some path) text = length text ≤ TEXT_LIMIT
IsTextAt (Some path) None text = length text ≤ TEXT_LIMIT
IsTextAt (Some path) (Some other) text = ⊥

-- the text of an entry list, if one is named
abbrev pub IsListAt : Option (List ℕ) → Option (List ℕ) → Type 0
IsListAt None list = list ≡ None
IsListAt (Some path) list = (text : List ℕ) × (length text ≤ TEXT_LIMIT) × (list ≡ Some text)

-- the check of a kept file, or of a journal
abbrev pub check_by : Bool → RulesParts → List ℕ → Option (List ℕ) → Check
check_by true = check_of_kept
check_by false = check_of_journal

-- ---- what a start makes of it

-- the sails of a list's text, or none without a list
abbrev pub AreSailsOf : Option (List ℕ) → List (List ℕ) → Type 0
AreSailsOf None sails = sails ≡ []
AreSailsOf (Some text) sails = entries_of_text text ≡ Ok sails

-- a replay starts so with the text of a journal and a list
pub record JournalStarts (text : List ℕ) (list : Option (List ℕ)) (start : Journal) : Type 0 where
  pub journal : Journal
  pub reads : journal_of text ≡ Ok journal
  pub sails : List (List ℕ)
  pub lists : AreSailsOf list sails
  pub both : start ≡ start_of journal sails

-- a serving goes on so from a kept file with this text and a list: opening takes the file, and cuts off
-- at most what a crash leaves
pub record KeptStarts (text : List ℕ) (list : Option (List ℕ)) (start : Journal) : Type 0 where
  pub opens : is_torn_file text ≡ true
  pub kept : Journal
  pub reads : recovery text ≡ Ok kept
  pub sails : List (List ℕ)
  pub lists : AreSailsOf list sails
  pub goes_on : IsKeptStart kept [] sails start

abbrev pub StartsBy : Bool → List ℕ → Option (List ℕ) → Journal → Type 0
StartsBy true = KeptStarts
StartsBy false = JournalStarts

-- there is a start, and all of its entries are accepted
abbrev pub Accepts : Bool → RulesParts → List ℕ → Option (List ℕ) → Type 0
Accepts is_kept rules text list = (start : Journal) × StartsBy is_kept text list start
    × (is_lawful limits rules start ≡ true)

-- ---- what is printed

-- a check of this text, and of the entry list at a path, if one is named. It says that nothing is wrong
-- exactly if a series starts with these texts
pub record ChecksText (entries : Option (List ℕ)) (is_kept : Bool) (rules : RulesParts)
    (text : List ℕ) (check : Check) : Type 0 where
  pub list : Option (List ℕ)
  pub from_entries : IsListAt entries list
  pub all : check ≡ check_by is_kept rules text list
  pub accepts : (is_sound check ≡ true) ↔ Accepts is_kept rules text list

-- the check that the options ask for, under the rules that they say
pub record IsCheckOf (asked : CheckAsked) (check : Check) : Type 0 where
  pub rules : RulesParts
  pub read : rules_of_texts asked.series.absent asked.series.scp asked.series.exclude
      asked.series.handicap ≡ Ok rules
  pub text : List ℕ
  pub from_file : IsTextAt asked.keep asked.series.journal text
  pub checks : ChecksText asked.series.entries (is_some asked.keep) rules text check

-- the document of such a check was written, which says that nothing is wrong, or that something is
pub record PrintsCheck (sound : Bool) (asked : CheckAsked) (old new : Option (List ℕ)) : Type 0 where
  pub check : Check
  pub is : IsCheckOf asked check
  pub says : is_sound check ≡ sound
  pub wrote : Appends old new (document_text check)

-- nothing was written, or all of such a document, or a beginning of it
abbrev pub AtMostCheckOf : CheckAsked → Option (List ℕ) → Option (List ℕ) → Type 0
AtMostCheckOf asked old new =
    Keeps old new ⊎ ((check : Check) × IsCheckOf asked check
    × WritesAtMost (document_text check) old new)
