-- What holds of every entry list that is read: no sail is in it twice, and there are at most as
-- many as may be entered.
use Rattle.std.proofs.Common.{◌≡◌, ℕ, ◌+◌, ◌≤◌, Bool, true, false, not, cond, ◌||◌, List, [], ◌∷◌}
use Rattle.std.proofs.Common.{◌++◌, length, filter_map, Option, Some, None, refl, sym, subst, arith}
use Rattle.std.proofs.Common.{append_assoc, length-append}
use Rattle.std.specs.Prelude.{Ok, nat_le, option_and_then}
use Rattle.std.specs.Option.{option_or}
use Rattle.std.specs.List.{AllByRecursion, IsDistinct, cons_option, list_any, slice_get}
use Rattle.std.proofs.lemmas.Bool.{leb-false}
use Rattle.std.proofs.lemmas.List.{append-nil}
use Rattle.regatta_terms.specs.Sails.{sail_of}
use Rattle.regatta_terms.specs.declared.sail.Sail.{Sail}
use Rattle.regatta_scores.specs.Journal.{same_sail}
use Rattle.regatta_tables.specs.declared.entries.EntriesFault.{EntriesFault}
use Rattle.regatta_tables.specs.declared.entries.EntriesFault.TheVariants.{Twice, TooMany}
use Rattle.regatta_tables.specs.EntryLists.{Field, Record, entries_under, fault_of, fault_of_field}
use Rattle.regatta_terms.specs.declared.limits.TheConstants.{MAX_BOATS}
use Rattle.regatta_tables.specs.EntryLists.{fault_of_sail, first_fault, is_blank}
use Rattle.regatta_tables.specs.EntryLists.{sail_in, sails_in, unless_faulty, without_spaces}
use Rattle.regatta_tables.proofs.ListFacts.{sails-append}

all_more : {X : Type 0} (P : X → Type 0) (xs : List X) (x : X) → AllByRecursion P xs → P x
    → AllByRecursion P (xs ++ x ∷ [])
all_more P [] x all here = (here, tt)
all_more P (y ∷ ys) x all here = (all.0, all_more P ys x all.1 here)

neither : (a b : Bool) → (a || b) ≡ false → (a ≡ false) × (b ≡ false)
neither true b h = cc
neither false b h = (refl, h)

-- a sail that isn't among them
distinct_more : (sails : List Sail) (sail : Sail) → IsDistinct same_sail sails
    → list_any (λ other. same_sail other sail) sails ≡ false
    → IsDistinct same_sail (sails ++ sail ∷ [])
unfolding IsDistinct
distinct_more [] sail distinct new = (tt, tt)
distinct_more (s ∷ sails) sail distinct new =
    let apart = neither (same_sail s sail) (list_any (λ other. same_sail other sail) sails) new in (
      all_more (λ other. same_sail s other ≡ false) sails sail distinct.0 apart.0,
      distinct_more sails sail distinct.1 apart.1,
    )

record IsEntryList (sails : List Sail) : Type 0 where
  few : length sails ≤ MAX_BOATS
  once : IsDistinct same_sail sails

list_with : (row : ℕ) (sails : List Sail) (o : Option Sail) → IsEntryList sails
    → fault_of_sail row sails o ≡ None → IsEntryList (sails ++ cons_option o [])
list_with row sails None listed sound = cc
list_with row sails (Some sail) listed sound =
    by (list_any (λ other. same_sail other sail) sails)
    (nat_le MAX_BOATS (length sails)) refl refl sound
  where
    by : (twice many : Bool) → list_any (λ other. same_sail other sail) sails ≡ twice
        → nat_le MAX_BOATS (length sails) ≡ many
        → cond twice (Some (Twice row)) (cond many (Some (TooMany row)) None) ≡ None
        → IsEntryList (sails ++ sail ∷ [])
    by true many t m h = cc
    by false true t m h = cc
    by false false t m h = record {
      few = omega (arith, leb-false MAX_BOATS (length sails) m, length-append sails (sail ∷ []));
      once = distinct_more sails sail listed.once t;
    }

list_more : (column : ℕ) (before : List Record) (fields : Record)
    → IsEntryList (sails_in column before)
    → fault_of column before fields ≡ None → IsEntryList (sails_in column (before ++ fields ∷ []))
list_more column before fields listed sound =
    subst IsEntryList (sym (sails-append column before (fields ∷ []))) (by (is_blank fields) sound)
  where
    named : (o : Option Field) → fault_of_field (length before + 2) (sails_in column before) o
        ≡ None
        → IsEntryList (sails_in column before ++ cons_option
        (option_and_then (λ field. sail_of (without_spaces field)) o) [])
    named None h = cc
    named (Some field) h = list_with (length before + 2) (sails_in column before)
        (sail_of (without_spaces field)) listed h

    by : (blank : Bool) → cond blank None (fault_of_field (length before + 2)
        (sails_in column before) (slice_get fields column)) ≡ None
        → IsEntryList (sails_in column before ++ filter_map (sail_in column)
        (cond (not blank) (fields ∷ []) []))
    by true h = subst IsEntryList (sym (append-nil (sails_in column before))) listed
    by false h = named (slice_get fields column) h

list_behind : (column : ℕ) (before records : List Record) → IsEntryList (sails_in column before)
    → first_fault column before records ≡ None → IsEntryList (sails_in column (before ++ records))
list_behind column before [] listed sound =
    subst (λ (rs : List Record). IsEntryList (sails_in column rs)) (sym (append-nil before)) listed
list_behind column before (fields ∷ records) listed sound =
    let both = by (fault_of column before fields)
    (first_fault column (before ++ fields ∷ []) records) sound in
    subst (λ (rs : List Record). IsEntryList (sails_in column rs))
    (append_assoc before (fields ∷ []) records)
    (list_behind column (before ++ fields ∷ []) records
    (list_more column before fields listed both.0) both.1)
  where
    by : (o p : Option EntriesFault) → option_or o p ≡ None → (o ≡ None) × (p ≡ None)
    by None p h = (refl, h)
    by (Some fault) p h = cc

list_whole : (column : ℕ) (records : List Record) (sails : List Sail)
    → entries_under (Some column) records ≡ Ok sails → IsEntryList sails
unfolding IsDistinct
list_whole column records sails read = by (first_fault column [] records) refl read
  where
    by : (o : Option EntriesFault) → first_fault column [] records ≡ o
        → unless_faulty o (sails_in column records) ≡ Ok sails → IsEntryList sails
    by None sound h =
        let same : sails_in column records ≡ sails = cc in
        subst IsEntryList same (list_behind column [] records
        (record { few = omega arith; once = tt }) sound)
    by (Some fault) sound h = cc

pub few_sails : (column : ℕ) (records : List Record) (sails : List Sail)
    → entries_under (Some column) records ≡ Ok sails → length sails ≤ MAX_BOATS
few_sails column records sails read = (list_whole column records sails read).few

pub sails_once : (column : ℕ) (records : List Record) (sails : List Sail)
    → entries_under (Some column) records ≡ Ok sails → IsDistinct same_sail sails
sails_once column records sails read = (list_whole column records sails read).once
