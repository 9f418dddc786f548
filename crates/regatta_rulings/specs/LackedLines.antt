-- The lines of a decision that its boat still lacks, and that a second run gives none.
use Rattle.std.specs.Prelude.{◌≡◌, ℕ, Bool, false, not, ◌&&◌, nat_eq, List, [], ◌++◌, map}
use Rattle.std.specs.Prelude.{Option, Some, None, is_none, if◌then◌else◌}
use Rattle.regatta_terms.specs.Effects as effects
use Rattle.regatta_terms.specs.Effects.{Effect, effect}
use Rattle.regatta_terms.specs.Entries.{EntryParts}
use Rattle.regatta_terms.specs.declared.command.Redress as redress_type
use Rattle.regatta_terms.specs.declared.command.Redress.TheVariants as redress
use Rattle.regatta_terms.specs.declared.command.Role.{Role}
use Rattle.regatta_terms.specs.declared.sail.Sail.{Sail}
use Rattle.regatta_scores.specs.declared.sheet.Held.{Held}
use Rattle.regatta_scores.specs.Journal.{Journal, held}
use Rattle.regatta_rulings.specs.declared.decision.Decision.{Decision}
use Rattle.regatta_rulings.specs.declared.decision.Ruling.{Ruling}
use Rattle.regatta_rulings.specs.Bars.{bar_of, gives_points}
use Rattle.regatta_rulings.specs.RulingLines.{MayBeOut, held_after, held_with, is_out, lines_of}
use Rattle.regatta_rulings.specs.Undecided.{Given, given, held_by}

-- whether redress is these points
abbrev pub is_points : ℕ → Option redress_type.Redress → Bool
is_points points None = false
is_points points (Some (redress.Points award)) = nat_eq award points
is_points points (Some redress.AllRaces) = false
is_points points (Some redress.RacesBefore) = false

-- whether a boat holds the points that a decision gives, and DNF if it marks her
abbrev pub is_met : Ruling → ℕ → Held → Bool
is_met ruling points held =
    gives_points ruling
    && (is_points points held.redress && not (is_out ruling && is_none held.code))

-- none if she holds them already
abbrev pub lacking : Ruling → ℕ → List Given → List Given
lacking ruling points all =
    if is_met ruling points (held_by all) then [] else lines_of ruling points all

-- ---- in the journal

-- who sent an entry, and what it does
abbrev pub said : EntryParts → Role × Effect
said entry = (entry.role, effect entry.command)

-- the same of a line about a boat in a race
abbrev pub line_in : ℕ → Sail → Given → Role × Effect
line_in race boat line = (line.0, effects.InRace race (effects.Decides boat line.1))

-- whether entries are these lines, from whatever seat
abbrev pub AreLines : ℕ → Sail → List Given → Journal → Type 0
AreLines race boat lines entries = map said entries ≡ map (line_in race boat) lines

-- ---- laws

-- The lines that a boat lacks lead to what she is to hold; so if she lacks none, she holds it.
abbrev pub LackedLinesLeadThere : Type 0
LackedLinesLeadThere = (ruling : Ruling) (points : ℕ) (all : List Given)
    → MayBeOut ruling (held_by all)
    → held_after (held_by all) (lacking ruling points all) ≡ held_with ruling points all

-- After the lines of a decision that isn't barred, the decision gives no line, if it comes to the
-- same points.
abbrev pub NoLineTwice : Type 0
NoLineTwice = (journal : Journal) (earlier : List Decision) (decision : Decision) (points : ℕ)
    (entries : Journal) → bar_of journal earlier decision ≡ None
    → AreLines decision.race decision.sail
    (lacking decision.ruling points (given journal decision.race decision.sail)) entries
    → lacking decision.ruling points (given (journal ++ entries) decision.race decision.sail) ≡ []
