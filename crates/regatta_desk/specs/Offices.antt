-- How an office is opened, and split into a desk and passes.
use Rattle.std.specs.Prelude.{◌≡◌, ℕ, ◌+◌, List, [], Some, None, slice_get}
use Rattle.atomic_table.specs.Seated.{TableId}
use Rattle.regatta_terms.specs.Rules.{RulesParts}
use Rattle.regatta_scores.specs.Journal.{Journal}
use Rattle.regatta_board.specs.Refusals.{last_number}
use Rattle.regatta_board.specs.Replays.{first_refused}
use Rattle.regatta_watch.specs.Published.{Published}
use Rattle.regatta_desk.specs.Passes.{PassValue}
use Rattle.regatta_desk.specs.declared.opening.OpenFault.{OpenFault}
use Rattle.regatta_desk.specs.declared.opening.OpenFault.TheVariants as fault

-- the series rules, the journal, the number of seats, and the history
pub record OpenedValue : Type 0 where
  pub rules : RulesParts
  pub entries : Journal
  pub seats : ℕ
  pub history : TableId

-- an office was opened with these rules, this journal and so many seats
pub record IsOpenedWith (under : RulesParts) (journal : Journal) (count : ℕ) (opened : OpenedValue)
    : Type 0 where
  pub rules : opened.rules ≡ under
  pub entries : opened.entries ≡ journal
  pub seats : opened.seats ≡ count

-- why an office with this start may fail to open: `Refused` names the first refused entry, and
-- `NoReader` never comes if an entry is refused
abbrev pub IsOpenFault : RulesParts → Journal → OpenFault → Type 0
IsOpenFault rules start (fault.Refused at why) = first_refused rules start ≡ Some (at, why)
IsOpenFault rules start fault.NoReader = first_refused rules start ≡ None
IsOpenFault rules start fault.BadSeats = Unit {0}
IsOpenFault rules start fault.NoMemory = Unit {0}

-- what is published first: the whole journal, noted as a whole, without a last entry
abbrev pub first_published : RulesParts → Journal → TableId → Published
first_published rules entries history = record {
  entries = entries;
  rules = rules;
  noted = entries;
  history = history;
  last = None;
}

-- the pass of the seat after k others: it has seen the journal, and was told of none
abbrev pub seated : Journal → ℕ → PassValue
seated entries k =
    record {
      seat = k + 1;
      last = last_number entries (k + 1);
      seen = entries;
      told = [];
    }

-- the passes come in order of seat, from 1
abbrev pub AreSeated : Journal → List PassValue → Type 0
AreSeated entries passes =
    (k : ℕ) (p : PassValue) → slice_get passes k ≡ Some p → p ≡ seated entries k
