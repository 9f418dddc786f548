-- Worked examples of times, numbers and ratings as text, by computation.
use Rattle.std.specs.Prelude.{◌≡◌, refl, [], ◌∷◌, Some, None, codes}
use Rattle.regatta_tables.specs.Examples.{Gives}
use Rattle.regatta_times.specs.Texts.{elapsed_of, time_of_day_of, factor_of, portsmouth_of}
use Rattle.regatta_times.specs.Texts.{allowance_of, distance_of}

pub elapsed_times : Gives elapsed_of
    ((codes "1:02:31", Some 3751) ∷ (codes "62:31", Some 3751) ∷ (codes "3751", Some 3751)
    ∷ (codes "277:46:39", Some 999999) ∷ (codes "277:46:40", None) ∷ (codes "1:02:60", None)
    ∷ (codes "62:3", None) ∷ (codes "0:01:02:31", None) ∷ (codes ":02:31", None) ∷ ([], None) ∷ [])
elapsed_times = refl

pub times_of_day : Gives time_of_day_of
    ((codes "14:05:00", Some 50700) ∷ (codes "23:59:59", Some 86399) ∷ (codes "24:00:00", None)
    ∷ (codes "14:05", None) ∷ [])
times_of_day = refl

-- in ten-thousandths
pub factors : Gives factor_of
    ((codes "0.985", Some 9850) ∷ (codes "1.0345", Some 10345) ∷ (codes "1", Some 10000)
    ∷ (codes "1.03450", None) ∷ (codes "0.0000", None) ∷ (codes "10", None) ∷ (codes "1.", None)
    ∷ (codes "1.0.3", None) ∷ [])
factors = refl

pub portsmouth : portsmouth_of (codes "1103") ≡ Some 1103
portsmouth = refl

-- in hundredths of seconds and of miles
pub by_distance : (allowance_of (codes "120.5") ≡ Some 12050)
    × (distance_of (codes "6.25") ≡ Some 625)
by_distance = (refl, refl)
