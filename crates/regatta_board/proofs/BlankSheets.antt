-- The sheets of all races, where those that were never changed share a blank one.
use Rattle.std.proofs.Common.{◌≡◌, ℕ, suc, ◌<◌, List, [], ◌∷◌, refl, ap, ◌∙◌, sym, subst}
use Rattle.std.proofs.Common.{arith, length, length-append, map, replicate, get_or, slice_set, All}
use Rattle.std.proofs.Common.{Option, Some, None, unwrap_or, IfSome}
use Rattle.std.specs.Option.{option_map}
use Rattle.std.proofs.lemmas.List.{length-map, get_or-map, get_or-replicate, map-set}
use Rattle.std.proofs.lemmas.List.Elements.{All-map, All-set}
use Rattle.regatta_terms.specs.declared.limits.TheConstants.{MAX_RACES}
use Rattle.regatta_scores.specs.declared.sheet.Change.TheVariants.{AddBoat}
use Rattle.regatta_scores.specs.Sheet.{Sheet, boats, empty_sheet, nothing_held}
use Rattle.regatta_scores.specs.Changes.{after}
use Rattle.regatta_board.specs.Refusals.{limits}
use Rattle.regatta_board.specs.SheetList.{sheets_of, AreAlike}

abbrev pub with_boat : Sheet → Sheet
with_boat sheet = after sheet AddBoat

pub blank_sheets : (blank : Sheet) (changed : List (Option Sheet)) → blank ≡ empty_sheet 0
    → changed ≡ replicate MAX_RACES None
    → sheets_of blank changed ≡ replicate MAX_RACES (empty_sheet 0)
blank_sheets blank changed e f = λ i. sheets_of (e i) (f i)

pub blank_alike : (blank : Sheet) (changed : List (Option Sheet))
    → changed ≡ replicate MAX_RACES None → AreAlike blank (sheets_of blank changed)
blank_alike blank changed e =
    subst (λ sheets. AreAlike blank (sheets_of blank sheets)) (sym e)
    (All-map (λ sheet. boats sheet ≡ boats blank) (λ sheet. unwrap_or sheet blank)
    (replicate MAX_RACES None)
    (λ k d h. ap (λ sheet. boats (unwrap_or sheet blank))
    (get_or-replicate MAX_RACES k None d (omega (arith, h)))))

pub ruleset blank_facts = (blank_sheets, blank_alike)

pub sheet_at : (blank : Sheet) (changed : List (Option Sheet)) (at : ℕ) (d : Sheet)
    (e : Option Sheet) → at < length changed
    → get_or (sheets_of blank changed) at d ≡ unwrap_or (get_or changed at e) blank
sheet_at blank changed at d e within =
    get_or-map (λ sheet. unwrap_or sheet blank) changed at e d within

pub as_many : (blank : Sheet) (changed : List (Option Sheet))
    → length (sheets_of blank changed) ≡ length changed
as_many blank changed = length-map changed (λ sheet. unwrap_or sheet blank)

-- ---- one more boat

boat_more : (blank : Sheet) (changed : List (Option Sheet))
    → sheets_of (with_boat blank) (map (option_map with_boat) changed)
    ≡ map with_boat (sheets_of blank changed)
boat_more blank [] = refl
boat_more blank (None ∷ sheets) = λ i. with_boat blank ∷ boat_more blank sheets i
boat_more blank (Some sheet ∷ sheets) = λ i. with_boat sheet ∷ boat_more blank sheets i

one_more : (sheet : Sheet) → boats (with_boat sheet) ≡ suc (boats sheet)
one_more sheet = omega (arith, length-append sheet.held (nothing_held ∷ []))

module _ (blank : Sheet) (changed : List (Option Sheet))
    (alike : AreAlike blank (sheets_of blank changed)) where
  module _ (new : Sheet) (all : List (Option Sheet)) (is : new ≡ with_boat blank)
      (are : all ≡ map (option_map with_boat) changed) where
    pub more_after : sheets_of new all ≡ map with_boat (sheets_of blank changed)
    more_after = (λ i. sheets_of (is i) (are i)) ∙ boat_more blank changed

    pub alike_after : AreAlike new (sheets_of new all)
    alike_after =
        subst (AreAlike new) (sym more_after)
        (All-map (λ sheet. boats sheet ≡ boats new) with_boat (sheets_of blank changed)
        (λ k d h. one_more (get_or (sheets_of blank changed) k d) ∙ ap suc (alike k d h)
        ∙ sym (ap boats is ∙ one_more blank)))

  module _ (few : All (λ sheet. boats sheet < limits.boats) (sheets_of blank changed)) where
    -- each changed sheet has room for a boat
    pub changed_few : All (λ sheet. IfSome sheet (λ found. boats found < limits.boats)) changed
    changed_few k d h = by (get_or changed k d) (few_at k d h)
      where
        few_at : (k : ℕ) (d : Option Sheet) → k < length changed
            → boats (unwrap_or (get_or changed k d) blank) < limits.boats
        few_at k d h = subst (λ sheet. boats sheet < limits.boats)
            (sheet_at blank changed k blank d h)
            (few k blank (omega (arith, h, as_many blank changed)))

        by : (sheet : Option Sheet) → boats (unwrap_or sheet blank) < limits.boats
            → IfSome sheet (λ found. boats found < limits.boats)
        by None room = tt
        by (Some sheet) room = room

  -- ---- the sheet of one race

  pub put_in : (at : ℕ) (sheet : Sheet)
      → sheets_of blank (slice_set changed at (Some sheet))
      ≡ slice_set (sheets_of blank changed) at sheet
  put_in at sheet = map-set (λ found. unwrap_or found blank) changed at (Some sheet)

  pub alike_put : (at : ℕ) (sheet : Sheet) → at < length (sheets_of blank changed)
      → boats sheet ≡ boats (get_or (sheets_of blank changed) at (empty_sheet 0))
      → AreAlike blank (sheets_of blank (slice_set changed at (Some sheet)))
  alike_put at sheet within same =
      subst (AreAlike blank) (sym (put_in at sheet))
      (All-set (λ found. boats found ≡ boats blank) (sheets_of blank changed) at sheet
      (same ∙ alike at (empty_sheet 0) within) alike)
