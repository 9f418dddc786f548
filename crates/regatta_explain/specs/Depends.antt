-- The journal up to a race, and the last entry on which the table depends.
use Rattle.std.specs.Prelude.{ℕ, ◌-◌, Bool, true, false, not, nat_eq, nat_lt, List, length, filter}
use Rattle.std.specs.List.{list_any, suffix_len}
use Rattle.regatta_terms.specs.Effects.{Effect, Enters, InRace, Places, Strikes, Decides, Counts}
use Rattle.regatta_terms.specs.Effects.{effect}
use Rattle.regatta_scores.specs.Journal.{Journal}

-- whether it says that a race after this one counts, or no longer
abbrev pub counts_later : ℕ → Effect → Bool
counts_later race (Enters sail) = false
counts_later race (InRace r (Counts counts)) = nat_lt race r
counts_later race (InRace r (Places sail placing)) = false
counts_later race (InRace r (Strikes sail)) = false
counts_later race (InRace r (Decides sail decision)) = false

-- the journal without the Score and Unscore of later races
abbrev pub up_to : Journal → ℕ → Journal
up_to journal race = filter (λ entry. not (counts_later race (effect entry.command))) journal

-- whether the table depends on what is done, if these races count: it enters a boat, says whether a
-- race counts, or is done in a race that counts
abbrev pub matters : List ℕ → Effect → Bool
matters races (Enters sail) = true
matters races (InRace race (Counts counts)) = true
matters races (InRace race (Places sail placing)) = list_any (λ other. nat_eq other race) races
matters races (InRace race (Strikes sail)) = list_any (λ other. nat_eq other race) races
matters races (InRace race (Decides sail decision)) = list_any (λ other. nat_eq other race) races

-- the place in the journal of the last entry on which the table depends, from 1; 0 if there is none
abbrev pub last_that_matters : List ℕ → Journal → ℕ
last_that_matters races journal =
    length journal - suffix_len (λ entry. not (matters races (effect entry.command))) journal
