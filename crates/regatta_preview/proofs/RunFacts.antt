-- What a result's clauses say once it is known which it is.
use Rattle.std.proofs.Common.{◌≡◌, ℕ, ◌+◌, List, Option, Some, None, Result, Ok, Err, IsErrOf, refl, ap}
use Rattle.std.proofs.Common.{sym, subst, add-zero}
use Rattle.std.specs.Io.KnownBytes.{Keeps}
use Rattle.regatta_streams.specs.Faults.{failed_calls_in}
use Rattle.regatta_streams.specs.Texts.{IsAllOf}
use Rattle.regatta_streams.specs.declared.whole.ReadFault.{ReadFault}
use Rattle.regatta_streams.specs.declared.whole.ReadFault.TheVariants as reading
use Rattle.regatta_terms.specs.Rules.{RulesParts}
use Rattle.regatta_terms.specs.declared.command.Role.{Role}
use Rattle.regatta_terms.specs.declared.reply.Refusal.{Refusal}
use Rattle.regatta_scores.specs.Journal.{Journal}
use Rattle.regatta_board.specs.BoardFacts.{BoardValue}
use Rattle.regatta_preview.specs.declared.run.PreviewFault.{PreviewFault}
use Rattle.regatta_preview.specs.declared.run.PreviewFault.TheVariants.{Write}
use Rattle.regatta_preview.specs.declared.run.TheConstants.{INPUT_LIMIT}
use Rattle.regatta_preview.specs.Previews.{previewed}
use Rattle.regatta_preview.specs.Runs.{AreCounted, IsFaultOf, OfLines, read_fault}

error_or : {T E : Type 0} → E → Result T E → E
error_or d (Ok x) = d
error_or d (Err e) = e

error_is : {T E : Type 0} (e f : E) → IsErrOf {T = T} (Err e) f → e ≡ f
unfolding error_or
error_is e f is = ap (error_or e) is

-- ---- the text wasn't read

pub read_is_no_write : {T : Type 0} (fault : ReadFault) (r : PreviewFault) (P : Type 0)
    → r ≡ read_fault fault → IsErrOf {T = T} (Err r) Write → P
read_is_no_write reading.Stream r P made is = absurd (cc (made, error_is r Write is))
read_is_no_write reading.TooLong r P made is = absurd (cc (made, error_is r Write is))
read_is_no_write reading.NoMemory r P made is = absurd (cc (made, error_is r Write is))

-- no entry of the start is refused
pub start_stands : (due : Option (ℕ × Refusal)) (fault : ReadFault) (r : PreviewFault)
    → r ≡ read_fault fault → due ≡ None → IsFaultOf due r
start_stands due reading.Stream r made none = subst (IsFaultOf due) (sym made) none
start_stands due reading.TooLong r made none = subst (IsFaultOf due) (sym made) none
start_stands due reading.NoMemory r made none = subst (IsFaultOf due) (sym made) tt

-- and the reader alone may have failed
pub reader_failed : (T U : Type 0) (reads reads' writes : ℕ) (fault : ReadFault)
    (r : PreviewFault) → r ≡ read_fault fault
    → reads' ≡ reads + failed_calls_in {A = T} (Err fault)
    → AreCounted {A = U} reads reads' writes writes (Err r)
reader_failed T U reads reads' writes reading.Stream r made counted =
    subst (λ (f : PreviewFault). AreCounted {A = U} reads reads' writes writes (Err f)) (sym made)
    (record { read = counted; wrote = sym (add-zero writes) })
reader_failed T U reads reads' writes reading.TooLong r made counted =
    subst (λ (f : PreviewFault). AreCounted {A = U} reads reads' writes writes (Err f)) (sym made)
    (record { read = counted; wrote = sym (add-zero writes) })
reader_failed T U reads reads' writes reading.NoMemory r made counted =
    subst (λ (f : PreviewFault). AreCounted {A = U} reads reads' writes writes (Err f)) (sym made)
    (record { read = counted; wrote = sym (add-zero writes) })

-- ---- it was read

pub keeps_same : (known : Option (List ℕ)) → Keeps known known
keeps_same None = tt
keeps_same (Some bytes) = refl

-- what holds of the document of a text on a board, by the text and the journal that they were made of
pub of_text : (given : Option (List ℕ)) (text lines : List ℕ) (board : BoardValue)
    (rules : RulesParts) (start : Journal) (role : Role) (Holds : List ℕ → Type 0)
    → IsAllOf given INPUT_LIMIT text → board ≡ record { rules = rules; entries = start }
    → lines ≡ text → Holds (previewed board.rules board.entries role lines)
    → OfLines given (λ t. Holds (previewed rules start role t))
of_text given text lines board rules start role Holds all is same holds = (
  text,
  all,
  subst Holds (λ i. previewed (is i).rules (is i).entries role (same i)) holds,
)
