-- Laws of codes and of late entries (RRS A2.2, A5.2, A5.3).
use Rattle.std.specs.Prelude.{◌≡◌, ◌≢◌, ℕ, ◌+◌, ◌*◌, ◌≤◌, [], ◌∷◌, ◌++◌, length, count_by}
use Rattle.regatta_terms.specs.Entries.{EntryParts}
use Rattle.regatta_terms.specs.Rules.{RulesParts}
use Rattle.regatta_terms.specs.declared.rules.Absent.TheVariants.{A52, A53}
use Rattle.regatta_terms.specs.declared.sail.Sail.{Sail}
use Rattle.regatta_terms.specs.declared.command.Code.{Code}
use Rattle.regatta_terms.specs.declared.command.Code.TheVariants.{Dnc}
use Rattle.regatta_terms.specs.declared.command.Command.TheVariants.{Enter}
use Rattle.regatta_scores.specs.Journal.{Journal, same_sail}
use Rattle.regatta_scores.specs.RacePoints.{Race, Finished, Coded, status, came, journal_race}
use Rattle.regatta_scores.specs.RacePoints.{place_points, dnf, plain}

-- Under A5.2 a boat that did not finish, or has a code, scores one more than the boats entered.
abbrev pub UnplacedByA52 : Type 0
UnplacedByA52 = (rules : RulesParts) (race : Race Sail) (boat : Sail) → rules.absent ≡ A52 →
    status same_sail race boat ≢ Finished →
    plain same_sail rules race boat ≡ 10 * (length race.entered + 1)

-- the number of boats that came to the starting area
abbrev pub number_came : Race Sail → ℕ
number_came race = count_by (λ boat. came (status same_sail race boat)) race.entered

-- Under A5.3 a boat with a code other than DNC scores one more than the boats that came to the
-- starting area; one that did not come, one more than the boats entered, which is no less.
abbrev pub UnplacedByA53 : Type 0
UnplacedByA53 = (rules : RulesParts) (race : Race Sail) (boat : Sail) (code : Code) →
    rules.absent ≡ A53 → status same_sail race boat ≡ Coded code →
    (code ≢ Dnc → plain same_sail rules race boat ≡ 10 * (number_came race + 1))
    × (code ≡ Dnc → plain same_sail rules race boat ≡ 10 * (length race.entered + 1))
    × (number_came race ≤ length race.entered)

-- between two states of a race: the DNF score rises by a point, and so do all scores of boats that
-- did not finish; places stay, and so do the scores of those that finished without a penalty
pub record CostsCodesAPoint (rules : RulesParts) (old new : Race Sail) : Type 0 where
  pub dnf_score : dnf same_sail rules new ≡ dnf same_sail rules old + 1
  pub codes : (boat : Sail) (code : Code) → status same_sail old boat ≡ Coded code →
      plain same_sail rules new boat ≡ plain same_sail rules old boat + 10
  pub places : (boat : Sail) → place_points same_sail new boat ≡ place_points same_sail old boat
  pub finishers : (boat : Sail) → status same_sail old boat ≡ Finished →
      (old.held boat).zfp ≡ 0 → (old.held boat).scp ≡ 0 →
      plain same_sail rules new boat ≡ plain same_sail rules old boat

-- Under A5.2 a late entry costs each boat with a code a point in each race, and no boat that
-- finished anything for her place (A2.2).
abbrev pub LateEntriesCostCodes : Type 0
LateEntriesCostCodes = (rules : RulesParts) (journal : Journal) (entry : EntryParts) (sail : Sail)
    (race : ℕ) → rules.absent ≡ A52 → entry.command ≡ Enter sail →
    CostsCodesAPoint rules (journal_race rules journal race)
    (journal_race rules (journal ++ entry ∷ []) race)
