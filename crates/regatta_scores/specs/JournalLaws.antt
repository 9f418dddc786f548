-- Laws of what the commands of a journal change (RRS A2.2, A9, A10, 30.2, 44.3(c)).
use Rattle.std.specs.Prelude.{◌≡◌, ◌≢◌, ℕ, false, [], ◌∷◌, ◌++◌, length, Contains}
use Rattle.regatta_terms.specs.Effects.{Act, Decision, Decides, InRace, effect}
use Rattle.regatta_terms.specs.Entries.{EntryParts}
use Rattle.regatta_terms.specs.Rules.{RulesParts}
use Rattle.regatta_terms.specs.declared.sail.Sail.{Sail}
use Rattle.regatta_scores.specs.declared.table.Row.{Row}
use Rattle.regatta_scores.specs.Changes.{with_decision}
use Rattle.regatta_scores.specs.Journal.{Journal, entered, acts, is_scored, scored, held}
use Rattle.regatta_scores.specs.Standing.{standing}

-- Each row has a cell for each race that counts (A2.2).
abbrev pub EachRaceHasACell : Type 0
EachRaceHasACell = (rules : RulesParts) (journal : Journal) (row : Row) →
    Contains (standing rules journal).rows row → length row.cells ≡ length (scored journal)

-- After one more decision on a boat, a code or redress replaces the one before, a penalty is one
-- more, and a Clear leaves nothing (A9, A10, 30.2, 44.3(c)).
abbrev pub DecisionsAdd : Type 0
DecisionsAdd = (journal : Journal) (entry : EntryParts) (race : ℕ) (boat : Sail)
    (decision : Decision) → effect entry.command ≡ InRace race (Decides boat decision) →
    held (journal ++ entry ∷ []) race boat ≡ with_decision (held journal race boat) decision

-- What is done in a race that doesn't count leaves the standing as it is.
abbrev pub UncountedRacesDontMatter : Type 0
UncountedRacesDontMatter = (rules : RulesParts) (journal : Journal) (entry : EntryParts) (race : ℕ)
    (act : Act) → effect entry.command ≡ InRace race act → is_scored journal race ≡ false →
    is_scored (journal ++ entry ∷ []) race ≡ false →
    standing rules (journal ++ entry ∷ []) ≡ standing rules journal

-- Two journals with the same entry list, in which the same is done in each race, in the same order,
-- have the same standing.
abbrev pub EachRaceTellsItself : Type 0
EachRaceTellsItself = (rules : RulesParts) (journal other : Journal) →
    entered journal ≡ entered other → ((race : ℕ) → acts journal race ≡ acts other race) →
    standing rules journal ≡ standing rules other

-- Two neighbouring commands of different races can change places, and the standing stays.
abbrev pub RacesInAnyOrder : Type 0
RacesInAnyOrder = (rules : RulesParts) (before after : Journal) (a b : EntryParts) (race other : ℕ)
    (act next : Act) → effect a.command ≡ InRace race act → effect b.command ≡ InRace other next →
    race ≢ other →
    standing rules (before ++ a ∷ b ∷ after) ≡ standing rules (before ++ b ∷ a ∷ after)

-- So can two neighbouring decisions on different boats, also in one race.
abbrev pub BoatsInAnyOrder : Type 0
BoatsInAnyOrder = (rules : RulesParts) (before after : Journal) (a b : EntryParts) (race other : ℕ)
    (boat next : Sail) (decision second : Decision) →
    effect a.command ≡ InRace race (Decides boat decision) →
    effect b.command ≡ InRace other (Decides next second) → boat ≢ next →
    standing rules (before ++ a ∷ b ∷ after) ≡ standing rules (before ++ b ∷ a ∷ after)
