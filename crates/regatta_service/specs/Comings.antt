-- What came of a call of `accept`.
use Rattle.std.specs.Prelude.{ℕ}
use Rattle.regatta_service.specs.declared.door.Came.{Came}
use Rattle.regatta_service.specs.declared.door.Came.TheVariants as came

-- the number of clients that were accepted and not turned away
abbrev pub clients_in : Came → ℕ
clients_in (came.Client _) = 1
clients_in came.TurnedAway = 0
clients_in came.NotYet = 0
clients_in came.Nobody = 0
