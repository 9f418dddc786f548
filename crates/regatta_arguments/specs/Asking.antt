-- What the words of a program ask for, as `clap` reads them.
use Rattle.std.specs.Prelude.{◌≡◌, ◌⊎◌, List, [], Option, Some}
use Rattle.clap.specs.Words.{App, IsAmong, Row, Text, fault_of, subcommand_of}
use Rattle.clap.specs.declared.error.kind.ErrorKind.{ErrorKind}
use Rattle.clap.specs.declared.error.kind.ErrorKind.TheVariants.{DisplayHelp, DisplayVersion}

-- words ask the program for this run: `clap` finds no fault in them, and their subcommand with its
-- options means this run
pub record AskRun {A : Type 0} (program : App) (meant : Option (Text × List Row) → Option A)
    (words : List Text) (asked : A) : Type 0 where
  pub faultless : fault_of program words ≡ []
  pub asks : meant (subcommand_of program words) ≡ Some asked

-- words ask for help
abbrev pub AskHelp : App → List Text → Type 0
AskHelp program words = IsAmong DisplayHelp (fault_of program words)

-- words ask for the version
abbrev pub AskVersion : App → List Text → Type 0
AskVersion program words = IsAmong DisplayVersion (fault_of program words)

-- words ask for one of these texts
abbrev pub AskText : App → List Text → Type 0
AskText program words = AskHelp program words ⊎ AskVersion program words

-- the kinds by which `clap` gives these texts
abbrev pub IsText : ErrorKind → Type 0
IsText kind = (kind ≡ DisplayHelp) ⊎ (kind ≡ DisplayVersion)
