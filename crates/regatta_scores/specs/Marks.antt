-- The abbreviation in a cell (RRS A10).
use Rattle.std.specs.Prelude.{ℕ, zero, suc, Option, Some, None}
use Rattle.regatta_terms.specs.declared.command.Redress.{Redress}
use Rattle.regatta_scores.specs.declared.table.Abbrev.{Abbrev}
use Rattle.regatta_scores.specs.declared.table.Abbrev.TheVariants as abbreviation
use Rattle.regatta_scores.specs.RacePoints.{Status, Finished, Coded}

-- RDG with redress, else that of the code or of DNC, else ZFP, else SCP, else none, by the numbers
-- of her ZFP and SCP (A10, 30.2, 44.3(c))
abbrev pub mark_by : Option Redress → Status → ℕ → ℕ → Option Abbrev
mark_by (Some redress) status zfp scp = Some abbreviation.Rdg
mark_by None (Coded code) zfp scp = Some (abbreviation.Code code)
mark_by None Finished zero zero = None
mark_by None Finished zero (suc scp) = Some abbreviation.Scp
mark_by None Finished (suc zfp) scp = Some abbreviation.Zfp
