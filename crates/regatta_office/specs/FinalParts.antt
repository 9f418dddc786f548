-- What printing the final part of a run promises.
use Rattle.std.specs.Prelude.{◌≡◌, ℕ, ◌+◌, List, Option, OnOk, IsErrOf, Result}
use Rattle.std.specs.Io.KnownBytes.{Appends}
use Rattle.regatta_streams.specs.Texts.{AppendsPrefix}
use Rattle.regatta_terms.specs.Rules.{RulesParts}
use Rattle.regatta_scores.specs.AppendixA.{IsAppendixA}
use Rattle.regatta_scores.specs.Journal.{Journal}
use Rattle.regatta_scores.specs.Standing.{standing}
use Rattle.regatta_office.specs.Faults.{failed_writes_in}
use Rattle.regatta_office.specs.Transcript.{final_text}
use Rattle.regatta_office.specs.declared.form.Form.{Form}
use Rattle.regatta_office.specs.declared.scribe.ScribeFault.{ScribeFault}
use Rattle.regatta_office.specs.declared.scribe.ScribeFault.TheVariants.{Write, NoMemory}

-- the final part of a journal was written, whose standing fits Appendix A. A failed write leaves some
-- first part of it, and is reported as such and as nothing else; without memory nothing was written
pub record PrintsFinal {A W : Type 0} (failures : W → ℕ) (contents : W → Option (List ℕ))
    (rules : RulesParts) (form : Form) (journal : Journal) (old new : W)
    (result : Result A ScribeFault) : Type 0 where
  pub appendix_a : IsAppendixA rules journal (standing rules journal)
  pub wrote : OnOk result (Appends (contents old) (contents new) (final_text rules form journal))
  pub writes : failures new ≡ failures old + failed_writes_in result
  pub cut : IsErrOf result Write
      → AppendsPrefix (contents old) (contents new) (final_text rules form journal)
  pub silent : IsErrOf result NoMemory → new ≡ old
