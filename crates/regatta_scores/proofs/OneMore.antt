-- What a boat holds, and whether a race counts, after one more act in a race.
use Rattle.std.proofs.Common.{◌≡◌, ℕ, ◌+◌, ◌-◌, Bool, true, false, cond, not, List, [], ◌∷◌}
use Rattle.std.proofs.Common.{◌++◌, refl, ap, ◌∙◌, sym, append_assoc, arith, length, length-append}
use Rattle.std.proofs.Common.{drop, filter_map, fold, count_by, Option, Some, None, unwrap_or}
use Rattle.std.specs.List.{after_last, suffix_len, prefix_len, last_or, cons_option}
use Rattle.std.proofs.Math.Seq.{drop-length}
use Rattle.std.proofs.lemmas.List.{reverse-append, drop-append-le, append-nil}
use Rattle.std.proofs.lemmas.List.Elements.{filter_map-append}
use Rattle.std.proofs.lemmas.List.Sums.{sum_by_push}
use Rattle.regatta_terms.specs.Effects.{Decision, Penalises, Clears, Act, Places, Strikes, Decides}
use Rattle.regatta_terms.specs.Effects.{Counts}
use Rattle.regatta_terms.specs.declared.sail.Sail.{Sail}
use Rattle.regatta_terms.specs.declared.command.PenaltyKind.TheVariants.{Zfp, Scp}
use Rattle.regatta_scores.specs.declared.sheet.Held.{Held}
use Rattle.regatta_scores.specs.Changes.{with_decision}
use Rattle.regatta_scores.specs.Journal.{same_sail, decision_on, is_clear, code_marked, redress_given}
use Rattle.regatta_scores.specs.Journal.{is_penalty, race_counts}

-- what is told of acts, if each act moves it one step further
pub is_fold : {X : Type 0} (told : List Act → X) (after : X → Act → X) →
    ((acts : List Act) (act : Act) → told (acts ++ act ∷ []) ≡ after (told acts) act) →
    (first acts : List Act) → told (first ++ acts) ≡ fold after (told first) acts
is_fold told after more first [] = ap told (append-nil first)
is_fold told after more first (act ∷ acts) =
    ap told (sym (append_assoc first (act ∷ []) acts))
    ∙ is_fold told after more (first ++ act ∷ []) acts
    ∙ ap (λ x. fold after x acts) (more first act)

-- ---- lists with one more item

-- appending an element that fails the test adds it to those after the last that passes
after_last_push : {X : Type 0} (p : X → Bool) (xs : List X) (x : X) → p x ≡ false →
    after_last p (xs ++ x ∷ []) ≡ after_last p xs ++ x ∷ []
after_last_push p xs x h =
    let n = suffix_len (λ y. not (p y)) xs in
    let more : suffix_len (λ y. not (p y)) (xs ++ x ∷ []) ≡ 1 + n =
    ap (prefix_len (λ y. not (p y))) (reverse-append xs (x ∷ [])) ∙ rw h refl in
    let cut : length (xs ++ x ∷ []) - suffix_len (λ y. not (p y)) (xs ++ x ∷ []) ≡ length xs - n =
    omega (arith, length-append xs (x ∷ []), more) in
    ap (λ k. drop k (xs ++ x ∷ [])) cut ∙ drop-append-le (length xs - n) xs (x ∷ []) (omega arith)

after_last_hit : {X : Type 0} (p : X → Bool) (xs : List X) (x : X) → p x ≡ true →
    after_last p (xs ++ x ∷ []) ≡ []
after_last_hit p xs x h =
    let none : suffix_len (λ y. not (p y)) (xs ++ x ∷ []) ≡ 0 =
    ap (prefix_len (λ y. not (p y))) (reverse-append xs (x ∷ [])) ∙ rw h refl in
    let cut : length (xs ++ x ∷ []) - suffix_len (λ y. not (p y)) (xs ++ x ∷ [])
    ≡ length (xs ++ x ∷ []) = omega (arith, none) in
    ap (λ k. drop k (xs ++ x ∷ [])) cut ∙ drop-length (xs ++ x ∷ [])

pub last_push : {X : Type 0} (o : Option X) (xs : List X) (x : X) →
    last_or o (xs ++ x ∷ []) ≡ Some x
last_push o [] x = refl
last_push o (y ∷ ys) x = last_push (Some y) ys x

abbrev newer : {X : Type 0} → Option X → Option X → Option X
newer None old = old
newer (Some x) old = Some x

last_more : {X Y : Type 0} (f : X → Option Y) (xs : List X) (x : X) →
    last_or None (filter_map f (xs ++ x ∷ [])) ≡ newer (f x) (last_or None (filter_map f xs))
last_more {Y = Y} f xs x = ap (last_or None) (filter_map-append f xs (x ∷ [])) ∙ by (f x)
  where
    by : (o : Option Y) → last_or None (filter_map f xs ++ cons_option o [])
        ≡ newer o (last_or None (filter_map f xs))
    by None = ap (last_or None) (append-nil (filter_map f xs))
    by (Some y) = last_push None (filter_map f xs) y

abbrev raised : Bool → ℕ → ℕ
raised true n = n + 1
raised false n = n

count_more : {X : Type 0} (p : X → Bool) (xs : List X) (x : X) →
    count_by p (xs ++ x ∷ []) ≡ raised (p x) (count_by p xs)
count_more p xs x = sum_by_push (λ y. cond (p y) 1 0) xs x ∙ by (p x)
  where
    by : (b : Bool) → ◌≡◌ {A = ℕ} (count_by p xs + cond b 1 0) (raised b (count_by p xs))
    by true = refl
    by false = omega arith

-- ---- what a boat holds

-- what she holds by the decisions in force
abbrev pub held_by : List Decision → Held
held_by decisions = record {
  code = last_or None (filter_map code_marked decisions);
  zfp = count_by (is_penalty Zfp) decisions;
  scp = count_by (is_penalty Scp) decisions;
  redress = last_or None (filter_map redress_given decisions);
}

abbrev held_more : Held → Decision → Held
held_more held decision = record {
  code = newer (code_marked decision) held.code;
  zfp = raised (is_penalty Zfp decision) held.zfp;
  scp = raised (is_penalty Scp decision) held.scp;
  redress = newer (redress_given decision) held.redress;
}

held_push : (decisions : List Decision) (decision : Decision) →
    held_by (decisions ++ decision ∷ []) ≡ held_more (held_by decisions) decision
held_push decisions decision i = record {
  code = last_more code_marked decisions decision i;
  zfp = count_more (is_penalty Zfp) decisions decision i;
  scp = count_more (is_penalty Scp) decisions decision i;
  redress = last_more redress_given decisions decision i;
}

in_force : (ds : List Decision) (d : Decision) → is_clear d ≡ false →
    held_by (after_last is_clear (ds ++ d ∷ [])) ≡ held_more (held_by (after_last is_clear ds)) d
in_force ds d h = ap held_by (after_last_push is_clear ds d h) ∙ held_push (after_last is_clear ds) d

decided : (ds : List Decision) (d : Decision) →
    held_by (after_last is_clear (ds ++ d ∷ [])) ≡ with_decision (held_by (after_last is_clear ds)) d
decided ds Clears = ap held_by (after_last_hit is_clear ds Clears refl)
decided ds (Penalises Zfp) = in_force ds (Penalises Zfp) refl
decided ds (Penalises Scp) = in_force ds (Penalises Scp) refl
decided ds d = in_force ds d refl

-- what the boat holds by the acts in a race
abbrev pub held_from : List Act → Sail → Held
held_from acts boat = held_by (after_last is_clear (filter_map (decision_on boat) acts))

abbrev pub held_after : Sail → Held → Act → Held
held_after boat held (Decides sail decision) =
    cond (same_sail boat sail) (with_decision held decision) held
held_after boat held _ = held

pub held_step : (boat : Sail) (acts : List Act) (act : Act) →
    held_from (acts ++ act ∷ []) boat ≡ held_after boat (held_from acts boat) act
held_step boat acts act =
    ap (λ ds. held_by (after_last is_clear ds)) (filter_map-append (decision_on boat) acts (act ∷ []))
    ∙ by act
  where
    hers : List Decision
    hers = filter_map (decision_on boat) acts

    none : held_by (after_last is_clear (hers ++ [])) ≡ held_by (after_last is_clear hers)
    none = ap (λ ds. held_by (after_last is_clear ds)) (append-nil hers)

    by : (a : Act) → held_by (after_last is_clear (hers ++ cons_option (decision_on boat a) []))
        ≡ held_after boat (held_by (after_last is_clear hers)) a
    by (Decides sail decision) = on (same_sail boat sail)
      where
        on : (b : Bool) →
            held_by (after_last is_clear (hers ++ cons_option (cond b (Some decision) None) []))
            ≡ cond b (with_decision (held_by (after_last is_clear hers)) decision)
            (held_by (after_last is_clear hers))
        on true = decided hers decision
        on false = none
    by _ = none

-- ---- whether a race counts

abbrev pub counts_by : List Act → Bool
counts_by acts = unwrap_or (last_or None (filter_map race_counts acts)) false

abbrev pub counts_after : Bool → Act → Bool
counts_after counted (Counts counts) = counts
counts_after counted _ = counted

pub counts_step : (acts : List Act) (act : Act) →
    counts_by (acts ++ act ∷ []) ≡ counts_after (counts_by acts) act
counts_step acts (Counts counts) =
    ap (λ o. unwrap_or o false) (last_more race_counts acts (Counts counts))
counts_step acts (Places sail placing) =
    ap (λ o. unwrap_or o false) (last_more race_counts acts (Places sail placing))
counts_step acts (Strikes sail) =
    ap (λ o. unwrap_or o false) (last_more race_counts acts (Strikes sail))
counts_step acts (Decides sail decision) =
    ap (λ o. unwrap_or o false) (last_more race_counts acts (Decides sail decision))
