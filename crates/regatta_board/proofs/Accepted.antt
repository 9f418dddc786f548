-- What an accepted command requires of the journal before it.
use Rattle.std.proofs.Common.{◌≡◌, ◌<◌, ℕ, Bool, true, false, not, ◌&&◌, length, nat_le, None, refl}
use borrow.Author.Tests.{leb-false}
use Rattle.regatta_terms.specs.Effects.{Placing, AtEnd, TiedWith, AheadOf, ByTime, Act, Places}
use Rattle.regatta_terms.specs.Effects.{Strikes, Decides, Counts, Effect, Enters, InRace}
use Rattle.regatta_terms.specs.Entries.{IsRace}
use Rattle.regatta_terms.specs.Rules.{RulesParts}
use Rattle.regatta_terms.specs.declared.command.Role.{Role}
use Rattle.regatta_terms.proofs.Both.{both}
use Rattle.regatta_scores.specs.Journal.{Journal, entered, is_of_other_system}
use Rattle.regatta_board.specs.Refusals.{limits, command_refusal, is_entered, is_placed}
use Rattle.regatta_board.proofs.Lawful.{no_test, yes_test}

-- a boat gets her place by the system of the rules, and another boat that is named is entered
abbrev pub MayPlace : RulesParts → Journal → Placing → Type 0
MayPlace rules journal AtEnd = rules.handicap ≡ false
MayPlace rules journal (TiedWith other) =
    (rules.handicap ≡ false) × (is_entered journal other ≡ true)
MayPlace rules journal (AheadOf other) =
    (rules.handicap ≡ false) × (is_entered journal other ≡ true)
MayPlace rules journal (ByTime seconds) = rules.handicap ≡ true

-- the boat is entered; if she gets a place, she has none in that race
abbrev pub MayAct : RulesParts → Journal → ℕ → Act → Type 0
MayAct rules journal race (Places sail placing) =
    (is_entered journal sail ≡ true) × (is_placed rules journal race sail ≡ false)
    × MayPlace rules journal placing
MayAct rules journal race (Strikes sail) = is_entered journal sail ≡ true
MayAct rules journal race (Decides sail decision) = is_entered journal sail ≡ true
MayAct rules journal race (Counts counts) = Unit {0}

-- a boat that is entered wasn't before, and there is room for her
abbrev pub MayStep : RulesParts → Journal → Effect → Type 0
MayStep rules journal (Enters sail) =
    (is_entered journal sail ≡ false) × (length (entered journal) < limits.boats)
MayStep rules journal (InRace race act) = MayAct rules journal race act

-- the race is in range, as the type of race numbers says
abbrev pub NamesRace : Effect → Type 0
NamesRace (Enters sail) = Unit {0}
NamesRace (InRace race act) = IsRace race

is_so : (b : Bool) → not b ≡ false → b ≡ true
is_so true h = refl
is_so false h = cc

pub may_step : (rules : RulesParts) (journal : Journal) (role : Role) (e : Effect)
    → is_of_other_system rules e ≡ false → command_refusal limits rules journal role e ≡ None
    → MayStep rules journal e
may_step rules journal role (Enters s) ours none =
    let new = no_test (is_entered journal s) _ _ none in (
      new.0,
      leb-false limits.boats (length (entered journal))
          (no_test (nat_le limits.boats (length (entered journal))) _ _ new.1).0,
    )
may_step rules journal role (InRace r (Places s AtEnd)) ours none =
    let known = yes_test (is_entered journal s) _ _ none in
    (known.0, (no_test (is_placed rules journal r s) _ _ known.1).0, ours)
may_step rules journal role (InRace r (Places s (TiedWith other))) ours none =
    let known = yes_test (is_entered journal s && is_entered journal other) _ _ none in
    let each = both (is_entered journal s) (is_entered journal other) known.0 in
    (each.0, (no_test (is_placed rules journal r s) _ _ known.1).0, (ours, each.1))
may_step rules journal role (InRace r (Places s (AheadOf other))) ours none =
    let known = yes_test (is_entered journal s && is_entered journal other) _ _ none in
    let each = both (is_entered journal s) (is_entered journal other) known.0 in
    (each.0, (no_test (is_placed rules journal r s) _ _ known.1).0, (ours, each.1))
may_step rules journal role (InRace r (Places s (ByTime seconds))) ours none =
    let known = yes_test (is_entered journal s) _ _ none in (
      known.0,
      (no_test (is_placed rules journal r s) _ _ known.1).0,
      is_so rules.handicap ours,
    )
may_step rules journal role (InRace r (Strikes s)) ours none =
    (yes_test (is_entered journal s) _ _ none).0
may_step rules journal role (InRace r (Decides s decision)) ours none =
    (yes_test (is_entered journal s) _ _ none).0
may_step rules journal role (InRace r (Counts counts)) ours none = tt
