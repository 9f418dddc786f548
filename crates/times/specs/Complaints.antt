-- The statuses of a program that stops early.
use Rattle.std.specs.Prelude.{ℕ}
use Rattle.regatta_arguments.specs.Stops.{status_of as status_of_stop}
use Rattle.times.specs.declared.complaint.Complaint.{Complaint}
use Rattle.times.specs.declared.complaint.Complaint.TheVariants as complaint

-- 1 if a list or the sheet is at fault, 2 if the settings are, 3 if a device fails or memory runs
-- out
abbrev pub status_of : Complaint → ℕ
status_of complaint.BadRace = 2
status_of complaint.BadSystem = 2
status_of complaint.BadRounding = 2
status_of (complaint.Ratings number row fault) = 1
status_of (complaint.Sheet number row fault) = 1
status_of (complaint.Stop stop) = status_of_stop stop
