-- What a run may be asked for, and a run that does it.
use Rattle.std.specs.Prelude.{◌≡◌, ◌≤◌, ◌⊎◌, ℕ, Bool, List, Option, Some, None, IfSome, Result, Ok}
use Rattle.std.specs.Prelude.{length}
use Rattle.std.specs.Io.KnownBytes.{Appends}
use Rattle.regatta_arguments.specs.declared.texts.TheConstants.{TEXT_LIMIT}
use Rattle.regatta_streams.specs.Texts.{AppendsPrefix}
use Rattle.regatta_terms.specs.Lines.{◌>>=◌}
use Rattle.regatta_times.specs.declared.fault.SheetFault.{SheetFault}
use Rattle.regatta_times.specs.declared.fraction.Rounding.{Rounding}
use Rattle.regatta_times.specs.declared.system.System.{System}
use Rattle.regatta_times.specs.declared.timing.Timed.{Timed}
use Rattle.regatta_times.specs.Names.{race_of_text, rounding_of, system_of}
use Rattle.regatta_times.specs.Printed.{lines_text, sums_text}
use Rattle.regatta_times.specs.Ratings.{ratings_of_text}
use Rattle.regatta_times.specs.Sheets.{boats_of_text}
use Rattle.regatta_times.specs.Timings.{times_of_boats}
use Rattle.times.specs.declared.settings.Settings.{Settings}
use Rattle.times.specs.declared.settings.Form.{Form}
use Rattle.times.specs.declared.settings.Form.TheVariants.{TimeLines, TimeSums}

-- a race as the arguments ask for it: texts of its number, the system, the rule for rounding and
-- the heading of the ratings; whether it may go past midnight; and the path of the entry list
pub record Race : Type 0 where
  pub race : List ℕ
  pub system : List ℕ
  pub rounding : List ℕ
  pub rating : List ℕ
  pub overnight : Bool
  pub entries : Option (List ℕ)

abbrev pub settings_with : Option ℕ → Option System → Option Rounding → Option Settings
settings_with (Some race) (Some system) (Some rounding) =
    Some (record { race = race; system = system; rounding = rounding })
settings_with _ _ _ = None

-- the settings that the texts of a race name
abbrev pub settings_of : List ℕ → List ℕ → List ℕ → Option Settings
settings_of race system rounding =
    settings_with (race_of_text race) (system_of system) (rounding_of rounding)

-- the corrected times of a race, from the entry list that has the ratings and from its sheet
abbrev pub times_from : Settings → List ℕ → Bool → List ℕ → List ℕ
    → Result (List Timed) SheetFault
times_from settings rating overnight list sheet = do
  ratings ← ratings_of_text settings.system rating list
  boats ← boats_of_text ratings overnight sheet
  times_of_boats settings.rounding boats

-- the text of these times
abbrev pub text_in : Form → Settings → List Timed → List ℕ
text_in TimeLines settings times = lines_text settings.race times
text_in TimeSums settings times = sums_text settings.race settings.rounding times

-- the text that has the ratings: that of some file, or the sheet if no file is named; no proof knows
-- what a file holds
abbrev pub IsListAt : Option (List ℕ) → List ℕ → List ℕ → Type 0
IsListAt None sheet list = list ≡ sheet
IsListAt (Some path) sheet list = length list ≤ TEXT_LIMIT

-- `Wrote` holds of the lines or the sums of the race: from the whole input as its sheet, and with the
-- ratings of the entry list
pub record RunThat (Wrote : List ℕ → Type 0) (form : Form) (asked : Race) (given : Option (List ℕ))
    : Type 0 where
  pub settings : Settings
  pub settled : settings_of asked.race asked.system asked.rounding ≡ Some settings
  pub sheet : List ℕ
  pub read : IfSome given (λ text. sheet ≡ text)
  pub list : List ℕ
  pub named : IsListAt asked.entries sheet list
  pub times : List Timed
  pub timed : times_from settings asked.rating asked.overnight list sheet ≡ Ok times
  pub wrote : Wrote (text_in form settings times)

-- the lines or the sums of the race were written, and nothing else
abbrev pub IsRunOf : Form → Race → Option (List ℕ) → Option (List ℕ) → Option (List ℕ) → Type 0
IsRunOf form asked given old new = RunThat (λ text. Appends old new text) form asked given

-- a first part of them was written, not all
abbrev pub BreaksOffRunOf : Form → Race → Option (List ℕ) → Option (List ℕ) → Option (List ℕ)
    → Type 0
BreaksOffRunOf form asked given old new = RunThat (λ text. AppendsPrefix old new text) form asked given

-- they were written, or a first part of them
abbrev pub AtMostRunOf : Form → Race → Option (List ℕ) → Option (List ℕ) → Option (List ℕ) → Type 0
AtMostRunOf form asked given old new =
    IsRunOf form asked given old new ⊎ BreaksOffRunOf form asked given old new
