-- How a list of races is stored.
use Rattle.std.proofs.Common.{◌≡◌, ℕ, ◌+◌, ◌-◌, ◌≤◌, List, ◌++◌, length, take, drop, ap, sym, ◌∙◌}
use Rattle.std.proofs.Common.{arith, replicate}
use Rattle.std.proofs.Math.Seq.{take-append_seam}
use Rattle.std.proofs.lemmas.List.{drop-replicate}
use Rattle.regatta_rulings.specs.RaceLists.{IsStored, in_slots}

-- races, and the zeros of the slots after them
pub rest_is_zeros : (races : List ℕ)
    → races ++ drop (length races) (replicate 40 0) ≡ in_slots races
rest_is_zeros races = ap (λ (rest : List ℕ). races ++ rest) (drop-replicate (length races) 40 0)

pub slots_are_stored : (races : List ℕ) → IsStored (in_slots races) (length races)
slots_are_stored races =
    let first = take-append_seam races (replicate (40 - length races) 0) in
    record {
      holds = ap length first;
      padding = ap in_slots first;
    }
