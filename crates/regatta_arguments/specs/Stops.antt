-- The statuses and texts of a program that stops early, whatever it was asked for.
use Rattle.std.specs.Prelude.{ℕ, List, codes}
use Rattle.regatta_arguments.specs.declared.stop.Stop.{Stop}
use Rattle.regatta_arguments.specs.declared.stop.Stop.TheVariants.{TooLong, Device, NoMemory}

-- 1 if a text is at fault, 3 if a device fails or memory runs out
abbrev pub status_of : Stop → ℕ
status_of TooLong = 1
status_of Device = 3
status_of NoMemory = 3

-- what is said of it, after the name of the program
abbrev pub text_of : Stop → List ℕ
text_of TooLong = codes "input too long"
text_of Device = codes "device fault"
text_of NoMemory = codes "no memory"
