-- Which commands are refused, and why: the first reason that applies.
use Rattle.std.specs.Prelude.{◌≡◌, ℕ, ◌+◌, min, Bool, true, false, not, ◌&&◌, ◌||◌, nat_eq, nat_le}
use Rattle.std.specs.Prelude.{List, [], ◌∷◌, ◌++◌, length, filter, map, unwrap_or, Option, Some}
use Rattle.std.specs.Prelude.{None, is_some, is_none, if◌then◌else◌, Result, Ok, Err}
use Rattle.std.specs.List.{last_or, list_any}
use Rattle.std.specs.Option.{option_map_or}
use Rattle.regatta_terms.specs.declared.limits.TheConstants.{MAX_BOATS, MAX_ENTRIES, MAX_PENALTIES}
use Rattle.regatta_terms.specs.Effects.{Placing, AtEnd, TiedWith, AheadOf, ByTime, Decision, Marks}
use Rattle.regatta_terms.specs.Effects.{Penalises, Redresses, Clears, Places, Strikes, Decides}
use Rattle.regatta_terms.specs.Effects.{Counts, Effect, Enters, InRace, effect}
use Rattle.regatta_terms.specs.Entries.{EntryParts}
use Rattle.regatta_terms.specs.Rules.{RulesParts}
use Rattle.regatta_terms.specs.Codes.{is_jury_code}
use Rattle.regatta_terms.specs.Roles.{may_send, is_jury}
use Rattle.regatta_terms.specs.declared.sail.Sail.{Sail}
use Rattle.regatta_terms.specs.declared.command.PenaltyKind.{PenaltyKind}
use Rattle.regatta_terms.specs.declared.command.PenaltyKind.TheVariants.{Zfp, Scp}
use Rattle.regatta_terms.specs.declared.command.Role.{Role}
use Rattle.regatta_terms.specs.declared.command.Command.{Command}
use Rattle.regatta_terms.specs.declared.reply.Refusal.{Refusal}
use Rattle.regatta_terms.specs.declared.reply.Refusal.TheVariants.{NoMemory, JournalFull, OldNumber}
use Rattle.regatta_terms.specs.declared.reply.Refusal.TheVariants.{NotYours, EntryFull}
use Rattle.regatta_terms.specs.declared.reply.Refusal.TheVariants.{AlreadyEntered, NotEntered}
use Rattle.regatta_terms.specs.declared.reply.Refusal.TheVariants.{AlreadyPlaced, NotPlaced}
use Rattle.regatta_terms.specs.declared.reply.Refusal.TheVariants.{Decided, PenaltyLimit}
use Rattle.regatta_terms.specs.declared.reply.Refusal.TheVariants.{NothingToClear, AlreadyScored}
use Rattle.regatta_terms.specs.declared.reply.Refusal.TheVariants.{NotScored, NoFinisher}
use Rattle.regatta_terms.specs.declared.reply.Refusal.TheVariants.{WrongSystem}
use Rattle.regatta_scores.specs.declared.sheet.Held.{Held}
use Rattle.regatta_scores.specs.Journal.{Journal, same_sail, entered, order, held, is_scored}
use Rattle.regatta_scores.specs.Journal.{is_of_other_system}
use Rattle.regatta_scores.specs.Order.{stands_in, is_empty}
use Rattle.regatta_scores.specs.Journal.{holds_nothing}

-- how many boats may be entered, and how many entries a journal may have
pub record Limits : Type 0 where
  pub boats : ℕ
  pub entries : ℕ

-- the limits of this board
abbrev pub limits : Limits
limits = record { boats = MAX_BOATS; entries = MAX_ENTRIES }

-- ---- the facts that refusals depend on

-- the last number of the seat, or 0 if it has none
abbrev pub last_number : Journal → ℕ → ℕ
last_number journal seat =
    let numbers = map (λ entry. entry.nth) (filter (λ entry. nat_eq entry.seat seat) journal) in
    unwrap_or (last_or None numbers) 0

-- the next entry of a seat whose last number is this one; the greatest number stays
abbrev pub next_entry : ℕ → ℕ → Role → Command → EntryParts
next_entry seat last role command =
    record { seat = seat; nth = min (last + 1) 4294967295; role = role; command = command }

-- the boat is in the entry list (RRS A2.2)
abbrev pub is_entered : Journal → Sail → Bool
is_entered journal boat = list_any (same_sail boat) (entered journal)

-- the boat is in the finishing order of the race, under the rules of the series
abbrev pub is_placed : RulesParts → Journal → ℕ → Sail → Bool
is_placed rules journal race boat = stands_in same_sail boat (order rules journal race)

-- she has a decision of the protest committee: DSQ, DNE (RRS A5.1 lists the other codes) or redress
abbrev pub is_decided : Held → Bool
is_decided held = option_map_or is_jury_code held.code false || is_some held.redress

-- how many penalties of the kind she has: ZFP (RRS 30.2) or SCP (RRS 44.3(c))
abbrev pub penalties : PenaltyKind → Held → ℕ
penalties Zfp held = held.zfp
penalties Scp held = held.scp

-- ---- the refusals of commands, in the order in which they are checked

-- Tie and Before: a place by that of another boat (RRS A3, A7)
abbrev pub place_by_refusal : RulesParts → Journal → ℕ → Sail → Sail → Option Refusal
place_by_refusal rules journal race boat other =
    if not (is_entered journal boat && is_entered journal other) then Some NotEntered
    else if is_placed rules journal race boat then Some AlreadyPlaced
    else if not (is_placed rules journal race other) then Some NotPlaced else None

-- a place in a race: a boat is placed once (RRS A3)
abbrev pub place_refusal : RulesParts → Journal → ℕ → Sail → Placing → Option Refusal
place_refusal rules journal race boat AtEnd =
    if not (is_entered journal boat) then Some NotEntered
    else if is_placed rules journal race boat then Some AlreadyPlaced else None
place_refusal rules journal race boat (TiedWith other) =
    place_by_refusal rules journal race boat other
place_refusal rules journal race boat (AheadOf other) =
    place_by_refusal rules journal race boat other
place_refusal rules journal race boat (ByTime seconds) =
    if not (is_entered journal boat) then Some NotEntered
    else if is_placed rules journal race boat then Some AlreadyPlaced else None

-- a decision on a boat that holds this: one of the protest committee stays until the protest
-- committee clears it; there are at most MAX_PENALTIES ZFP (RRS 30.2) and as many SCP (44.3(c)); and
-- what is cleared is a code, penalty or redress
abbrev pub decision_refusal : Role → Held → Decision → Option Refusal
decision_refusal role held (Marks code) = if is_decided held then Some Decided else None
decision_refusal role held (Redresses redress) = if is_decided held then Some Decided else None
decision_refusal role held (Penalises kind) =
    if is_decided held then Some Decided
    else if nat_le MAX_PENALTIES (penalties kind held) then Some PenaltyLimit else None
decision_refusal role held Clears =
    if is_decided held && not (is_jury role) then Some Decided
    else if holds_nothing held then Some NothingToClear else None

-- Score and Unscore: a race counts once, and only if its order has a boat (one with a code is
-- enough); a race that doesn't count can't stop counting
abbrev pub count_refusal : RulesParts → Journal → ℕ → Bool → Option Refusal
count_refusal rules journal race true =
    if is_scored journal race then Some AlreadyScored
    else if is_empty (order rules journal race) then Some NoFinisher else None
count_refusal rules journal race false = if is_scored journal race then None else Some NotScored

-- the refusal of what a command does: a boat is entered once (RRS A2.2), if there is room for her;
-- in a race only boats that are entered are named; and a boat is struck from a place that she has
abbrev pub command_refusal : Limits → RulesParts → Journal → Role → Effect → Option Refusal
command_refusal most rules journal role (Enters sail) =
    if is_entered journal sail then Some AlreadyEntered
    else if nat_le most.boats (length (entered journal)) then Some EntryFull else None
command_refusal most rules journal role (InRace race (Places sail placing)) =
    place_refusal rules journal race sail placing
command_refusal most rules journal role (InRace race (Strikes sail)) =
    if not (is_entered journal sail) then Some NotEntered
    else if not (is_placed rules journal race sail) then Some NotPlaced else None
command_refusal most rules journal role (InRace race (Decides sail decision)) =
    if not (is_entered journal sail) then Some NotEntered
    else decision_refusal role (held journal race sail) decision
command_refusal most rules journal role (InRace race (Counts counts)) =
    count_refusal rules journal race counts

-- why the journal refuses the entry, or None
abbrev pub refusal : Limits → RulesParts → Journal → EntryParts → Option Refusal
refusal most rules journal entry =
    if nat_le most.entries (length journal) then Some JournalFull
    else if nat_le entry.nth (last_number journal entry.seat) then
    Some (OldNumber (last_number journal entry.seat))
    else if not (may_send entry.role entry.command) then Some NotYours
    else if is_of_other_system rules (effect entry.command) then Some WrongSystem
    else command_refusal most rules journal entry.role (effect entry.command)

-- what a call may return: the refusal that applies, or NoMemory if none applies
abbrev pub IsRefusal : Option Refusal → Refusal → Type 0
IsRefusal (Some due) why = why ≡ due
IsRefusal None why = why ≡ NoMemory

-- a value of which this holds, unless there is a refusal
abbrev pub Unless : {X : Type 0} → Option Refusal → (X → Type 0) → Result X Refusal → Type 0
Unless due P (Ok x) = (due ≡ None) × P x
Unless due P (Err why) = due ≡ Some why

-- the first entry refused after those before it: its place, from 1, and why
abbrev pub refused_from : Limits → RulesParts → Journal → List EntryParts → Option (ℕ × Refusal)
refused_from most rules before [] = None
refused_from most rules before (entry ∷ entries) =
    option_map_or (λ why. Some (length before + 1, why)) (refusal most rules before entry)
    (refused_from most rules (before ++ entry ∷ []) entries)

-- a journal that a board may hold: no entry is refused after those before it
abbrev pub is_lawful : Limits → RulesParts → Journal → Bool
is_lawful most rules journal = is_none (refused_from most rules [] journal)
