-- What a fault of serving says of its door.
use Rattle.std.specs.Prelude.{◌≡◌, ℕ, Bool, true, Result, Ok, Err}
use Rattle.regatta_service.specs.declared.serving.ServeFault.{ServeFault}

-- the number of failed calls of the door if serving ended so: a failed call ends serving and is
-- reported as what it is
abbrev pub door_failures_in : {A : Type 0} → Result A ServeFault → ℕ
door_failures_in (Ok _) = 0
door_failures_in (Err ServeFault.Door) = 1
door_failures_in (Err ServeFault.Thread) = 0
door_failures_in (Err ServeFault.NoMemory) = 0
door_failures_in (Err ServeFault.Keep) = 0

-- what holds at the end of serving, unless memory ran out before it began, or the keeper has stopped
abbrev pub IfBegun : {A : Type 0} → Result A ServeFault → Type 0 → Type 0
IfBegun (Ok _) Holds = Holds
IfBegun (Err ServeFault.Door) Holds = Holds
IfBegun (Err ServeFault.Thread) Holds = Holds
IfBegun (Err ServeFault.NoMemory) Holds = Unit {0}
IfBegun (Err ServeFault.Keep) Holds = Unit {0}

-- a fault that may end the admission of clients: the door's, or that the keeper has stopped, if there
-- is one that may
abbrev pub EndsAdmission : Bool → ServeFault → Type 0
EndsAdmission stops ServeFault.Door = Unit {0}
EndsAdmission stops ServeFault.Keep = stops ≡ true
EndsAdmission stops ServeFault.Thread = ⊥
EndsAdmission stops ServeFault.NoMemory = ⊥
