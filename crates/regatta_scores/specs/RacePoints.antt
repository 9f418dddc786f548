-- The points of one race before redress (RRS A4, A5, A6, A7, 30.2, 44.3).
-- Points are in tenths, unless they are called whole points.
use Rattle.std.specs.Prelude.{ℕ, ◌+◌, ◌-◌, ◌*◌, ◌/◌, min, max, Bool, true, false, List, [], length}
use Rattle.std.specs.Prelude.{map, sum_by, count_by, find, unwrap_or, Option, Some, None, is_none}
use Rattle.std.specs.Prelude.{nat_eq, slice_index_or}
use Rattle.std.specs.List.{range_with_len, before_first}
use Rattle.regatta_terms.specs.Rules.{RulesParts}
use Rattle.regatta_terms.specs.declared.rules.Absent.{Absent}
use Rattle.regatta_terms.specs.declared.rules.Absent.TheVariants.{A52, A53}
use Rattle.regatta_terms.specs.declared.command.Code.{Code}
use Rattle.regatta_terms.specs.declared.command.Code.TheVariants.{Dnc, Dns, Ocs, Ufd, Bfd, Dnf, Ret}
use Rattle.regatta_terms.specs.declared.command.Code.TheVariants.{Dsq, Dne}
use Rattle.regatta_terms.specs.declared.sail.Sail.{Sail}
use Rattle.regatta_scores.specs.declared.sheet.Held.{Held}
use Rattle.regatta_scores.specs.Order.{in_group, stands_in}
use Rattle.regatta_scores.specs.Sheet.{Sheet, boats, nothing_held}
use Rattle.regatta_scores.specs.Journal.{Journal, entered, order, held}

-- one race: the boats entered in the series, the finishing order, and what each boat holds
pub record Race (B : Type 0) : Type 0 where
  pub entered : List B
  pub order : List (List B)
  pub held : B → Held

-- how a boat is scored in a race: as finished, or by a code
pub data Status : Type 0 where
  Finished : Status
  Coded : Code → Status

-- her code if she has one; else she finished if she is in the order; else she did not come (A5)
abbrev pub status_by : Option Code → Bool → Status
status_by (Some code) placed = Coded code
status_by None true = Finished
status_by None false = Coded Dnc

-- whether a boat of this status came to the starting area: all but DNC (A5.3)
abbrev pub came : Status → Bool
came Finished = true
came (Coded Dnc) = false
came (Coded Dns) = true
came (Coded Ocs) = true
came (Coded Ufd) = true
came (Coded Bfd) = true
came (Coded Dnf) = true
came (Coded Ret) = true
came (Coded Dsq) = true
came (Coded Dne) = true

-- what the penalties of a boat add, in whole points (30.2, 44.3(c)); 20% of the race's DNF score
-- are rounded to the nearest whole point, 0.5 upward
abbrev pub penalty_points : RulesParts → ℕ → Held → ℕ
penalty_points rules dnf held =
    let twenty_percent = (2 * dnf + 5) / 10 in
    held.zfp * twenty_percent + held.scp * unwrap_or rules.scp twenty_percent

-- the number of boats of a group that finished; boats with a code don't count (A6.1)
abbrev pub finishers : {B : Type 0} → Race B → List B → ℕ
finishers race group = count_by (λ boat. is_none (race.held boat).code) group

-- the race's DNF score in whole points: one more than the number of boats entered (A5.2), or than
-- the number of those that came to the starting area (A5.3)
abbrev pub dnf_by : Absent → ℕ → ℕ → ℕ
dnf_by A52 entered came = entered + 1
dnf_by A53 entered came = came + 1

-- the score of a boat of this status: for her place if she finished (A4, A7); one more than the
-- boats entered if she did not come to the starting area; the DNF score for every other code (A5.2,
-- A5.3)
abbrev pub base_by : Status → ℕ → ℕ → ℕ → ℕ
base_by Finished place_points entered dnf = place_points
base_by (Coded Dnc) place_points entered dnf = 10 * (entered + 1)
base_by (Coded Dns) place_points entered dnf = 10 * dnf
base_by (Coded Ocs) place_points entered dnf = 10 * dnf
base_by (Coded Ufd) place_points entered dnf = 10 * dnf
base_by (Coded Bfd) place_points entered dnf = 10 * dnf
base_by (Coded Dnf) place_points entered dnf = 10 * dnf
base_by (Coded Ret) place_points entered dnf = 10 * dnf
base_by (Coded Dsq) place_points entered dnf = 10 * dnf
base_by (Coded Dne) place_points entered dnf = 10 * dnf

-- whether a code is a disqualification that is not excludable (90.3(b))
abbrev pub is_dne : Option Code → Bool
is_dne None = false
is_dne (Some Dnc) = false
is_dne (Some Dns) = false
is_dne (Some Ocs) = false
is_dne (Some Ufd) = false
is_dne (Some Bfd) = false
is_dne (Some Dnf) = false
is_dne (Some Ret) = false
is_dne (Some Dsq) = false
is_dne (Some Dne) = true

module _ {B : Type 0} (same : B → B → Bool) where
  -- how this boat is scored in the race: by her code, by her place, or as DNC (A5)
  abbrev pub status : Race B → B → Status
  status race boat = status_by (race.held boat).code (stands_in same boat race.order)

  -- the points for her finishing place, which is one more than the number of boats that finished in
  -- the groups ahead of hers (A4, A6.1), shared by the boats that finished in her group (A7)
  abbrev pub place_points : Race B → B → ℕ
  place_points race boat =
      let place = 1 + sum_by (finishers race) (before_first (in_group same boat) race.order) in
      let sharing = finishers race (unwrap_or (find (in_group same boat) race.order) []) in
      10 * place + 5 * (sharing - 1)

  -- the race's DNF score in whole points, by how many came to the starting area (A5.2, A5.3)
  abbrev pub dnf : RulesParts → Race B → ℕ
  dnf rules race =
      dnf_by rules.absent (length race.entered)
      (count_by (λ boat. came (status race boat)) race.entered)

  -- her score before redress: for her place or her code (A4, A5, A7), made worse by penalties, up
  -- to the DNF score; a score that is no better than that stays (30.2, 44.3(c))
  abbrev pub plain : RulesParts → Race B → B → ℕ
  plain rules race boat =
      let cap = dnf rules race in
      let base = base_by (status race boat) (place_points race boat) (length race.entered) cap in
      max base (min (base + 10 * penalty_points rules cap (race.held boat)) (10 * cap))

-- ---- the race on a sheet, and in the journal

-- the race on a sheet, where boats are numbered in the order of the entry list
abbrev pub race_of : List (List ℕ) → List Held → Race ℕ
race_of order held =
    record {
      entered = range_with_len 0 (length held);
      order = order;
      held = λ boat. slice_index_or held boat nothing_held;
    }

-- the points of each boat on the sheet, before redress
abbrev pub race_points : RulesParts → Sheet → List ℕ
race_points rules sheet =
    map (plain nat_eq rules (race_of sheet.order sheet.held)) (range_with_len 0 (boats sheet))

-- the race in the journal, under the rules of the series
abbrev pub journal_race : RulesParts → Journal → ℕ → Race Sail
journal_race rules journal race =
    record { entered = entered journal; order = order rules journal race; held = held journal race }
