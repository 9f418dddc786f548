-- Rows of an entry list, taken one by one.
use Rattle.std.proofs.Common.{◌≡◌, ◌<◌, ◌≤◌, ℕ, suc, ◌+◌, Bool, List, [], ◌∷◌, ◌++◌, length, drop, get_or}
use Rattle.std.proofs.Common.{Option, ap, sym, ◌∙◌, arith, append_assoc}
use Rattle.std.proofs.lemmas.List.{drop_all}
use Rattle.std.proofs.Math.Seq.{drop-cons}
use Rattle.regatta_terms.specs.Rules.{RulesParts}
use Rattle.regatta_tables.specs.declared.listed.Listed.{Listed}
use Rattle.regatta_check.specs.EntryRows.{Listing, listing_after, row_fault_at, row_faults, row_kind}
use Rattle.regatta_check.specs.declared.parts.RowFault.{RowFault}
use Rattle.regatta_check.specs.declared.parts.RowKind.{RowKind}

-- what is wrong with rows is what is wrong with the first, and with those after it
pub rows_more : (rules : RulesParts) (goes_on : Bool) (all before after : List RowFault)
    (row next i : ℕ) (so_far later : Listing) (rows : List Listed) (listed : Listed)
    (kind : Option RowKind)
    → all ≡ before ++ row_faults rules goes_on row so_far (drop i rows)
    → i < length rows → listed ≡ get_or rows i listed → next ≡ row + 1
    → kind ≡ row_kind rules goes_on so_far listed → later ≡ listing_after rules goes_on so_far listed
    → after ≡ before ++ row_fault_at row kind
    → all ≡ after ++ row_faults rules goes_on next later (drop (i + 1) rows)
unfolding row_faults
rows_more rules goes_on all before after row next i so_far later rows listed kind all_is below here
    counts said taken pushed =
    let one : suc i ≡ i + 1 = omega arith in
    let cut : drop i rows ≡ listed ∷ drop (i + 1) rows =
    drop-cons rows i listed below ∙ (λ j. sym here j ∷ drop (one j) rows) in
    all_is
    ∙ ap (λ (rest : List Listed). before ++ row_faults rules goes_on row so_far rest) cut
    ∙ (λ j. before ++ (row_fault_at row (sym said j)
    ++ row_faults rules goes_on (sym counts j) (sym taken j) (drop (i + 1) rows)))
    ∙ sym (append_assoc before (row_fault_at row kind)
    (row_faults rules goes_on next later (drop (i + 1) rows)))
    ∙ ap (λ (t : List RowFault). t ++ row_faults rules goes_on next later (drop (i + 1) rows))
    (sym pushed)

-- no row is left
pub rows_end : (rules : RulesParts) (goes_on : Bool) (row i : ℕ) (so_far : Listing)
    (rows : List Listed) → length rows ≤ i → row_faults rules goes_on row so_far (drop i rows) ≡ []
unfolding row_faults
rows_end rules goes_on row i so_far rows past =
    ap (λ (rest : List Listed). row_faults rules goes_on row so_far rest) (drop_all i rows past)
