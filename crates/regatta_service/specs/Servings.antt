-- What serving leaves of the passes and of its door.
use Rattle.std.specs.Prelude.{◌≡◌, ◌+◌, ℕ, Bool, true, List, map, Result, IfOk, IsErrOf}
use Rattle.std.specs.Global.{Vec}
use Rattle.std.specs.List.Sorted.{IsPermutation, IsSorted}
use Rattle.std.specs.Ordering.{nat_cmp}
use Rattle.regatta_desk.specs.Passes.{PassValue}
use Rattle.regatta_service.specs.Faults.{IfBegun, door_failures_in}
use Rattle.regatta_service.specs.declared.serving.ServeFault.{ServeFault}

-- the seats of passes
abbrev pub seats_in : List PassValue → List ℕ
seats_in passes = map (λ (p : PassValue). p.seat) passes

-- the door was asked for clients until it closed, unless memory ran out before or the keeper has
-- stopped; a failed call of it ended serving and is reported as what it is, and otherwise no call
-- failed
pub record AskedDoor {A D : Type 0} (failures : D → ℕ) (closed : D → Bool) (old new : D)
    (result : Result A ServeFault) : Type 0 where
  pub failed : failures new ≡ failures old + door_failures_in result
  pub closed_then : IfBegun result (closed new ≡ true)
  pub unbegun : IsErrOf result ServeFault.NoMemory → new ≡ old

-- these are the seats of the passes given, each as often as it was given, the lowest first
pub record SeatsBack (given : List PassValue) (seats : List ℕ) : Type 0 where
  pub same : IsPermutation (seats_in given) seats
  pub sorted : IsSorted nat_cmp seats

-- clients were served: the seats' passes come back, the door was asked as above, and each client that
-- it gave was admitted once
pub record ServesEach {D : Type 0} (failures given : D → ℕ) (closed : D → Bool)
    (passes : List PassValue) (old new : D) (admitted : ℕ) (result : Result (Vec PassValue) ServeFault)
    : Type 0 where
  pub seats : IfOk result (λ back. SeatsBack passes (seats_in back.items))
  pub door : AskedDoor failures closed old new result
  pub each : given new ≡ given old + admitted
