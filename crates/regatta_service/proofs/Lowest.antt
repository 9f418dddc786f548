-- The lowest of the passes in some slots, and in one more.
use Rattle.std.proofs.Common.{◌≡◌, ◌≤◌, ◌<◌, ◌+◌, ◌++◌, ◌∷◌, ◌∙◌, [], ℕ, List, Option, Some, None}
use Rattle.std.proofs.Common.{IfSome, All, length, take, slice_get, get_or, arith, refl, sym, ap}
use Rattle.std.proofs.Common.{subst, map, append_assoc}
use Rattle.std.proofs.Math.Seq.{get_or-append_seam}
use Rattle.std.proofs.lemmas.List.{get_or_append_left, length-append, length-take-le, take_more}
use Rattle.std.proofs.lemmas.List.{map-append, take_all}
use Rattle.std.proofs.lemmas.List.Elements.{All-push, All-weaker}
use Rattle.std.proofs.lemmas.Option.{get_or_from_slice_get, slice_get-get_or, slice_get_within}
use Rattle.regatta_desk.specs.Passes.{PassValue}
use Rattle.regatta_service.specs.Pools.{Finds, IsLowest}

-- slots, each with its pass unless that is lent
abbrev Slots : Type 0
Slots = List (Option PassValue)

-- one more slot changes none of those before it
kept : (xs : Slots) (y : Option PassValue) (k : ℕ) (x : Option PassValue)
    → slice_get xs k ≡ Some x → slice_get (xs ++ y ∷ []) k ≡ Some x
kept xs y k x is =
    let within : k < length xs = slice_get_within xs k x is in
    let longer : k < length (xs ++ y ∷ []) = omega (arith, within, length-append xs (y ∷ [])) in
    slice_get-get_or (xs ++ y ∷ []) k None longer
    ∙ ap Some (get_or_append_left xs (y ∷ []) None k within
    ∙ get_or_from_slice_get xs k x None is)

-- and comes after them
behind : (xs : Slots) (y : Option PassValue) → slice_get (xs ++ y ∷ []) (length xs) ≡ Some y
behind xs y =
    let within : length xs < length (xs ++ y ∷ []) = omega (arith, length-append xs (y ∷ [])) in
    slice_get-get_or (xs ++ y ∷ []) (length xs) None within
    ∙ ap Some (get_or-append_seam xs y [] None)

-- a slot that is empty has no pass of a lower seat
empty_has_none : (seat : ℕ) (x : Option PassValue) → x ≡ None → IfSome x (λ p. seat ≤ p.seat)
empty_has_none seat None is = tt
empty_has_none seat (Some p) is = absurd (cc is)

-- a slot without a pass below a seat has none below a lower seat
lower_has_none : (low high : ℕ) → low ≤ high → (x : Option PassValue)
    → IfSome x (λ p. high ≤ p.seat) → IfSome x (λ p. low ≤ p.seat)
lower_has_none low high le None is = tt
lower_has_none low high le (Some p) is = omega (arith, le, is)

-- after an empty slot the lowest is the same
finds_empty : (xs : Slots) (found : Option (ℕ × ℕ)) → Finds xs found → Finds (xs ++ None ∷ []) found
finds_empty xs None all = All-push (λ slot. slot ≡ None) xs None all refl
finds_empty xs (Some found) low = record {
  pass = low.pass;
  here = kept xs None found.0 (Some low.pass) low.here;
  seated = low.seated;
  lowest = All-push (λ other. IfSome other (λ p. found.1 ≤ p.seat)) xs None low.lowest tt;
}

-- and so it is after a pass of no lower seat
finds_same : (xs : Slots) (slot seat : ℕ) (pass : PassValue) → IsLowest xs slot seat
    → seat ≤ pass.seat → IsLowest (xs ++ Some pass ∷ []) slot seat
finds_same xs slot seat pass low le = record {
  pass = low.pass;
  here = kept xs (Some pass) slot (Some low.pass) low.here;
  seated = low.seated;
  lowest = All-push (λ other. IfSome other (λ p. seat ≤ p.seat)) xs (Some pass) low.lowest le;
}

-- a pass of a lower seat, or the first, is the lowest
finds_new : (xs : Slots) (pass : PassValue)
    → All (λ other. IfSome other (λ p. pass.seat ≤ p.seat)) xs
    → IsLowest (xs ++ Some pass ∷ []) (length xs) pass.seat
finds_new xs pass all = record {
  pass = pass;
  here = behind xs (Some pass);
  seated = refl;
  lowest = All-push (λ other. IfSome other (λ p. pass.seat ≤ p.seat)) xs (Some pass) all
      (omega arith);
}

-- the first of all
finds_first : (xs : Slots) (pass : PassValue) → All (λ slot. slot ≡ None) xs
    → IsLowest (xs ++ Some pass ∷ []) (length xs) pass.seat
finds_first xs pass all = finds_new xs pass
    (All-weaker (λ slot. slot ≡ None) (λ other. IfSome other (λ p. pass.seat ≤ p.seat))
    (empty_has_none pass.seat) xs all)

-- one of a lower seat
finds_lower : (xs : Slots) (slot seat : ℕ) (pass : PassValue) → IsLowest xs slot seat
    → pass.seat ≤ seat → IsLowest (xs ++ Some pass ∷ []) (length xs) pass.seat
finds_lower xs slot seat pass low le = finds_new xs pass
    (All-weaker (λ other. IfSome other (λ p. seat ≤ p.seat))
    (λ other. IfSome other (λ p. pass.seat ≤ p.seat))
    (lower_has_none pass.seat seat le) xs low.lowest)

-- ---- the same for the first slots of a list

-- the slots up to this one
front : (xs : Slots) (i : ℕ) (y : Option PassValue) → i < length xs → get_or xs i None ≡ y
    → take i xs ++ y ∷ [] ≡ take (i + 1) xs
front xs i y within is = rw (← is) (sym (take_more xs i None within))

pub more_empty : (xs : Slots) (i : ℕ) (found : Option (ℕ × ℕ)) → i < length xs
    → get_or xs i None ≡ None → Finds (take i xs) found → Finds (take (i + 1) xs) found
more_empty xs i found within is before =
    subst (λ (w : Slots). Finds w found) (front xs i None within is)
    (finds_empty (take i xs) found before)

pub more_same : (xs : Slots) (i : ℕ) (slot seat : ℕ) (pass : PassValue) → i < length xs
    → get_or xs i None ≡ Some pass → IsLowest (take i xs) slot seat → seat ≤ pass.seat
    → IsLowest (take (i + 1) xs) slot seat
more_same xs i slot seat pass within is low le =
    subst (λ (w : Slots). IsLowest w slot seat) (front xs i (Some pass) within is)
    (finds_same (take i xs) slot seat pass low le)

pub more_first : (xs : Slots) (i : ℕ) (pass : PassValue) → i < length xs
    → get_or xs i None ≡ Some pass → All (λ slot. slot ≡ None) (take i xs)
    → IsLowest (take (i + 1) xs) i pass.seat
more_first xs i pass within is all =
    let short : i ≤ length xs = omega arith in
    subst (λ (w : Slots). IsLowest w i pass.seat) (front xs i (Some pass) within is)
    (subst (λ (k : ℕ). IsLowest (take i xs ++ Some pass ∷ []) k pass.seat)
    (length-take-le i xs short) (finds_first (take i xs) pass all))

pub more_lower : (xs : Slots) (i slot seat : ℕ) (pass : PassValue) → i < length xs
    → get_or xs i None ≡ Some pass → IsLowest (take i xs) slot seat → pass.seat ≤ seat
    → IsLowest (take (i + 1) xs) i pass.seat
more_lower xs i slot seat pass within is low le =
    let short : i ≤ length xs = omega arith in
    subst (λ (w : Slots). IsLowest w i pass.seat) (front xs i (Some pass) within is)
    (subst (λ (k : ℕ). IsLowest (take i xs ++ Some pass ∷ []) k pass.seat)
    (length-take-le i xs short) (finds_lower (take i xs) slot seat pass low le))

pub ruleset one_more = (more_empty, more_same, more_first, more_lower)

-- the lowest of all, once all were checked
pub finds_all : (xs : Slots) (n : ℕ) (found : Option (ℕ × ℕ)) → length xs ≤ n
    → Finds (take n xs) found → Finds xs found
finds_all xs n found short at = subst (λ (w : Slots). Finds w found) (take_all n xs short) at

-- ---- passes that go into their slots, and come out of them

-- one more slot, and one pass fewer
pub slot_more : (slots all : Slots) (pass : PassValue) (rest before : List PassValue)
    → before ≡ pass ∷ rest → slots ++ map Some before ≡ all
    → (slots ++ Some pass ∷ []) ++ map Some rest ≡ all
slot_more slots all pass rest before is e =
    append_assoc slots (Some pass ∷ []) (map Some rest)
    ∙ ap (λ (ps : List PassValue). slots ++ map Some ps) (sym is) ∙ e

-- one more pass, and one slot fewer
pub pass_more : (passes : List PassValue) (all : Slots) (pass : PassValue) (rest before : Slots)
    → before ≡ Some pass ∷ rest → map Some passes ++ before ≡ all
    → map Some (passes ++ pass ∷ []) ++ rest ≡ all
pass_more passes all pass rest before is e =
    ap (λ (w : Slots). w ++ rest) (map-append Some passes (pass ∷ []))
    ∙ append_assoc (map Some passes) (Some pass ∷ []) rest
    ∙ ap (λ (w : Slots). map Some passes ++ w) (sym is) ∙ e

pub none_left : {X : Type 0} (xs : List X) → length xs ≡ 0 → xs ≡ []
none_left [] none = refl
none_left (x ∷ xs) none = absurd (omega (arith, none))
