-- What a writer of CSV has written.
use Rattle.std.proofs.Common.{◌≡◌, ℕ, List, [], ◌++◌, Option, Some, None, ap, ◌∙◌}
use Rattle.std.specs.Io.KnownBytes.{Appends, Keeps}

-- a text that was written from the beginning on
pub all_written : (empty full : Option (List ℕ)) (text written : List ℕ) → empty ≡ Some []
    → Appends empty full written → Keeps full (Some text) → text ≡ written
all_written None full text written start added stays = cc
all_written (Some x) None text written start added stays = absurd added
all_written (Some x) (Some y) text written start added stays =
    let nothing : x ≡ [] = cc in
    stays ∙ added ∙ ap (λ (t : List ℕ). t ++ written) nothing
