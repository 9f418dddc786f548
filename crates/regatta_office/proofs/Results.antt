-- What a result's clauses say once it is known which it is.
use Rattle.std.proofs.Common.{◌≡◌, ◌+◌, ℕ, Option, None, Result, Ok, Err, IsErrOf, refl, ap, ◌∙◌}
use Rattle.std.proofs.Common.{sym, subst, add-zero}
use Rattle.regatta_terms.specs.declared.reply.Refusal.{Refusal}
use Rattle.regatta_office.specs.Faults.{IsDeviceFault, IsRunFaultOf, scribe_fault}
use Rattle.regatta_office.specs.Faults.{writes_failed_by}
use Rattle.regatta_office.specs.Starts.{IsRunFault}
use Rattle.regatta_office.specs.declared.run.RunFault.{RunFault}
use Rattle.regatta_office.specs.declared.run.RunFault.TheVariants.{Read, Write, NoMemory}
use Rattle.regatta_office.specs.declared.run.RunFault.TheVariants.{InputTooLong}
use Rattle.regatta_office.specs.declared.scribe.ScribeFault.{ScribeFault}
use Rattle.regatta_office.specs.declared.scribe.ScribeFault.TheVariants as scribe

error_or : {T E : Type 0} → E → Result T E → E
error_or d (Ok x) = d
error_or d (Err e) = e

pub error_is : {T E : Type 0} (e f : E) → IsErrOf {T = T} (Err e) f → e ≡ f
unfolding error_or
error_is e f is = ap (error_or e) is

-- which error it is doesn't depend on the type of the values
pub err_as : {T : Type 0} (U : Type 0) {E : Type 0} (e f : E) → IsErrOf {T = T} (Err e) f
    → IsErrOf {T = U} (Err e) f
err_as U e f is = ap Err (error_is e f is)

-- what a fault of a run says of the fault of its scribe
pub write_is : {T : Type 0} (fault : ScribeFault) (r : RunFault) → r ≡ scribe_fault fault
    → IsErrOf {T = T} (Err r) Write → fault ≡ scribe.Write
write_is scribe.Write r made is = refl
write_is scribe.NoMemory r made is = absurd (cc (made, error_is r Write is))

pub memory_is : {T : Type 0} (fault : ScribeFault) (r : RunFault) → r ≡ scribe_fault fault
    → IsErrOf {T = T} (Err r) NoMemory → fault ≡ scribe.NoMemory
memory_is scribe.NoMemory r made is = refl
memory_is scribe.Write r made is = absurd (cc (made, error_is r NoMemory is))

pub read_is_no_write : {T : Type 0} (fault : ScribeFault) (r : RunFault) (P : Type 0)
    → r ≡ scribe_fault fault → IsErrOf {T = T} (Err r) Read → P
read_is_no_write scribe.Write r P made is = absurd (cc (made, error_is r Read is))
read_is_no_write scribe.NoMemory r P made is = absurd (cc (made, error_is r Read is))

pub long_is_no_write : {T : Type 0} (fault : ScribeFault) (r : RunFault) (P : Type 0)
    → r ≡ scribe_fault fault → IsErrOf {T = T} (Err r) InputTooLong → P
long_is_no_write scribe.Write r P made is = absurd (cc (made, error_is r InputTooLong is))
long_is_no_write scribe.NoMemory r P made is = absurd (cc (made, error_is r InputTooLong is))

-- if the writing broke off, no entry of the start is refused
pub start_stands : (due : Option (ℕ × Refusal)) (fault : ScribeFault) (r : RunFault)
    → r ≡ scribe_fault fault → due ≡ None → IsRunFault due r
start_stands due scribe.Write r made none = subst (IsRunFault due) (sym made) none
start_stands due scribe.NoMemory r made none = subst (IsRunFault due) (sym made) tt

-- and the writer alone may have failed
pub writer_failed : (reads reads' writes mid writes' : ℕ) (fault : ScribeFault) (r : RunFault)
    → r ≡ scribe_fault fault → reads' ≡ reads → mid ≡ writes
    → writes' ≡ mid + writes_failed_by fault → IsRunFaultOf reads reads' writes writes' r
writer_failed reads reads' writes mid writes' scribe.Write r made read well counted =
    subst (IsRunFaultOf reads reads' writes writes') (sym made)
    (read, counted ∙ ap (λ (n : ℕ). n + 1) well)
writer_failed reads reads' writes mid writes' scribe.NoMemory r made read well counted =
    subst (IsRunFaultOf reads reads' writes writes') (sym made) (read, counted ∙ add-zero mid ∙ well)

-- the same after the start
pub writer_counted : (reads reads' writes writes' : ℕ) (fault : ScribeFault) (r : RunFault)
    → r ≡ scribe_fault fault → reads' ≡ reads → writes' ≡ writes + writes_failed_by fault
    → IsDeviceFault reads reads' writes writes' r
writer_counted reads reads' writes writes' scribe.Write r made read counted =
    subst (IsDeviceFault reads reads' writes writes') (sym made) (read, counted)
writer_counted reads reads' writes writes' scribe.NoMemory r made read counted =
    subst (IsDeviceFault reads reads' writes writes') (sym made) (read, counted ∙ add-zero writes)
