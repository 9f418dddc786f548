-- What a preview of a series has written, however it ended.
use Rattle.std.proofs.Common.{◌≡◌, ℕ, List, Option, ◌⊎◌, inl, inr, subst}
use Rattle.std.specs.Io.KnownBytes.{Keeps}
use Rattle.regatta_terms.specs.Rules.{RulesParts}
use Rattle.regatta_scores.specs.Journal.{Journal}
use Rattle.regatta_preview.specs.Previews.{previewed}
use Rattle.regatta_preview.specs.Runs.{OfLines, WritesAtMost}
use Rattle.regatta_office.specs.Asked.{AtMostPreviewOf, Begins, PreviewAsked}

-- nothing was written, or the document of the lines that were given, or a beginning of it
abbrev pub WritesPreview : RulesParts → PreviewAsked → Option (List ℕ) → Option (List ℕ)
    → Option (List ℕ) → Journal → Type 0
WritesPreview rules asked given old new start = Keeps old new
    ⊎ OfLines given (λ text. WritesAtMost (previewed rules start asked.role text) old new)

-- of the journal that the series starts with
from_start : (asked : PreviewAsked) (given old new : Option (List ℕ)) (rules : RulesParts)
    (start : Journal) → Begins asked.series rules start
    → WritesPreview rules asked given old new start → AtMostPreviewOf asked given old new
from_start asked given old new rules start begins (inl same) = inl same
from_start asked given old new rules start begins (inr lines) =
    inr (rules, start, begins, (lines.0, lines.1, inr lines.2))

-- of the entries that were passed on, and by the options that were read
pub at_most_of : (read asked : PreviewAsked) (given old new : Option (List ℕ)) (rules : RulesParts)
    (passed start : Journal) → read ≡ asked → passed ≡ start → Begins read.series rules start
    → WritesPreview rules read given old new passed → AtMostPreviewOf asked given old new
at_most_of read asked given old new rules passed start is same begins wrote =
    subst (λ (a : PreviewAsked). AtMostPreviewOf a given old new) is
    (from_start read given old new rules start begins
    (subst (WritesPreview rules read given old new) same wrote))
