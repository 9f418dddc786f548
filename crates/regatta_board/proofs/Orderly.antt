-- An accepted command leaves a journal orderly.
use Rattle.std.proofs.Common.{◌≡◌, ℕ, zero, suc, ◌+◌, ◌<◌, Bool, true, false, ◌||◌}
use Rattle.std.proofs.Common.{List, [], ◌∷◌, ◌++◌, refl, ap, ◌∙◌, sym, subst, arith, length}
use Rattle.std.proofs.Common.{length-append, get_or, map, All}
use Rattle.std.specs.List.{list_any}
use Rattle.std.proofs.lemmas.List.{length-map}
use Rattle.std.proofs.lemmas.List.Folds.{list_any-append}
use Rattle.std.proofs.lemmas.List.Quantifiers.{all_pairs_push}
use Rattle.regatta_terms.specs.Effects.{AtEnd, TiedWith, AheadOf, ByTime, Act, Places, Strikes}
use Rattle.regatta_terms.specs.Effects.{Decides, Counts, Effect, Enters, InRace, effect}
use Rattle.regatta_terms.specs.Entries.{EntryParts}
use Rattle.regatta_terms.specs.Rules.{RulesParts}
use Rattle.regatta_terms.specs.declared.sail.Sail.{Sail}
use Rattle.regatta_scores.specs.Order.{in_group, stands_in}
use Rattle.regatta_scores.specs.Sheet.{nothing_held}
use Rattle.regatta_scores.specs.Journal.{Journal, same_sail, entered, act_in, acts, order}
use Rattle.regatta_scores.specs.Journal.{time}
use Rattle.regatta_scores.proofs.Apart.{same_acts, entered_more, same_entered, in_each_race}
use Rattle.regatta_scores.proofs.Apart.{told_stays}
use Rattle.std.proofs.lemmas.Bool.{or_left}
use Rattle.regatta_scores.proofs.NoEmpty.{order_has_none}
use Rattle.regatta_scores.proofs.LastingTimes.{time_by, IsOfOthers, time_of_others, order_with}
use Rattle.regatta_scores.proofs.LastingTimes.{Suits, order_by, order_by_more}
use Rattle.regatta_scores.proofs.OneMore.{held_from}
use Rattle.std.proofs.lemmas.List.Elements.{All-tail}
use Rattle.regatta_board.specs.Refusals.{limits, is_entered}
use Rattle.regatta_board.specs.KeptJournal.{IsOnSheet, IsOrderly, blank}
use Rattle.regatta_board.proofs.Accepted.{MayAct, MayStep}
use Rattle.regatta_board.proofs.Numbers.{index_in, same_is}
use Rattle.regatta_board.proofs.OnSheets.{on_same, on_more, on_after}
use Rattle.regatta_board.proofs.Decisions.{others_hold}

or_elim : (a b : Bool) (Q : Type 0) → (a ≡ true → Q) → (b ≡ true → Q) → (a || b) ≡ true → Q
or_elim true b Q f g h = f refl
or_elim false b Q f g h = g h

-- ---- the boats of an order are those of its sheet

group_within : (boats : List Sail) (b : Sail) (n : ℕ) (g : List Sail)
    → All (λ k. k < n) (map (index_in boats) g) → in_group same_sail b g ≡ true
    → index_in boats b < n
group_within boats b n [] all h = cc
group_within boats b n (x ∷ xs) all h =
    or_elim (same_sail x b) _ _
    (λ e. subst (λ y. index_in boats y < n) (same_is x b e) (all 0 0 (omega arith)))
    (group_within boats b n xs
    (All-tail (λ k. k < n) (index_in boats x) (map (index_in boats) xs) all)) h

order_within : (boats : List Sail) (b : Sail) (n : ℕ) (o : List (List Sail))
    → All (All (λ k. k < n)) (map (map (index_in boats)) o) → stands_in same_sail b o ≡ true
    → index_in boats b < n
order_within boats b n [] all h = cc
order_within boats b n (g ∷ gs) all h =
    or_elim (in_group same_sail b g) _ _ (group_within boats b n g (all 0 [] (omega arith)))
    (order_within boats b n gs
    (All-tail (All (λ k. k < n)) (map (index_in boats) g) (map (map (index_in boats)) gs) all)) h

listed_below : (xs : List Sail) (x : Sail) → index_in xs x < length xs
    → list_any (same_sail x) xs ≡ true
listed_below [] x h = absurd (omega (arith, h))
listed_below (z ∷ zs) x h = by (same_sail x z) refl (listed_below zs x)
  where
    by : (b : Bool) → same_sail x z ≡ b
        → (index_in zs x < length zs → list_any (same_sail x) zs ≡ true)
        → list_any (same_sail x) (z ∷ zs) ≡ true
    by true e rest = rw e refl
    by false e rest =
        let below : 1 + index_in zs x < suc (length zs) = rw e at h in
        rw e (rest (omega (arith, below)))

-- ---- the journal after an accepted command

-- what an accepted act requires of the order of its race
suits : (rules : RulesParts) (journal : Journal) (race : ℕ) (act : Act)
    → MayAct rules journal race act → Suits rules (order rules journal race) act
suits rules journal race (Places s (ByTime seconds)) may = (may.2, may.1)
suits rules journal race (Places s AtEnd) may = may.2
suits rules journal race (Places s (TiedWith other)) may = may.2.0
suits rules journal race (Places s (AheadOf other)) may = may.2.0
suits rules journal race _ may = tt

-- a boat in an order after an act is entered
stands_entered : (rules : RulesParts) (journal : Journal) → IsOrderly rules journal
    → (race : ℕ) (act : Act) → MayAct rules journal race act → (b : Sail)
    → stands_in same_sail b (order_with (time journal race) (order rules journal race) act)
    ≡ true → is_entered journal b ≡ true
stands_entered rules journal o race act may b h =
    let sheet = on_after rules journal race (o.once race) (o.known race) act may in
    let below = order_within (entered journal) b (length (blank (entered journal)))
    (order_with (time journal race) (order rules journal race) act) sheet.in_range h in
    listed_below (entered journal) b
    (omega (arith, below, length-map (entered journal) (λ (s : Sail). nothing_held)))

-- the act concerns no boat that isn't entered
not_about : (boats : List Sail) (s b : Sail) (t : Bool) → list_any (same_sail s) boats ≡ true
    → list_any (same_sail b) boats ≡ false → same_sail b s ≡ t → t ≡ false
not_about boats s b true h out e = let in_it : list_any (same_sail b) boats ≡ true =
    ap (λ x. list_any (same_sail x) boats) (same_is b s e) ∙ h in absurd (cc)
not_about boats s b false h out e = refl

of_others : (rules : RulesParts) (journal : Journal) (race : ℕ) (act : Act)
    → MayAct rules journal race act → (b : Sail) → is_entered journal b ≡ false → IsOfOthers b act
of_others rules journal race (Places s placing) may b out =
    not_about (entered journal) s b _ may.0 out refl
of_others rules journal race (Strikes s) may b out =
    not_about (entered journal) s b _ may out refl
of_others rules journal race (Decides s decision) may b out =
    not_about (entered journal) s b _ may out refl
of_others rules journal race (Counts counts) may b out = tt

orderly_act : (rules : RulesParts) (journal : Journal) → IsOrderly rules journal
    → (entry : EntryParts) (race : ℕ) (act : Act) → effect entry.command ≡ InRace race act
    → MayAct rules journal race act → IsOrderly rules (journal ++ entry ∷ [])
orderly_act rules journal o entry race act is may =
    let boats : entered (journal ++ entry ∷ []) ≡ entered journal =
    same_entered journal entry race act is in
    let long : length (entered (journal ++ entry ∷ [])) ≡ length (entered journal) =
    ap length boats in
    let before : (b : Sail) → is_entered (journal ++ entry ∷ []) b ≡ is_entered journal b =
    λ b. ap (λ xs. list_any (same_sail b) xs) boats in
    let now : order_by rules (acts journal race ++ act ∷ [])
    ≡ order_with (time journal race) (order rules journal race) act =
    order_by_more rules (acts journal race) act (order_has_none rules (acts journal race))
    (suits rules journal race act may) in
    record {
      few = omega (arith, o.few, long);
      apart = λ i j d h k. ap (λ xs. same_sail (get_or xs j d) (get_or xs i d)) boats
          ∙ o.apart i j d h (omega (arith, long));
      known = λ r b h. before b
          ∙ in_each_race
          (λ n done. stands_in same_sail b (order_by rules done) ≡ true → is_entered journal b ≡ true)
          journal entry race act is (λ n. o.known n b)
          (λ k. stands_entered rules journal o race act may b
          (sym (ap (stands_in same_sail b) now) ∙ k)) r h;
      nothing = λ r b out. (let new : is_entered journal b ≡ false = sym (before b) ∙ out in
          told_stays (λ done. held_from done b) journal entry race act is
          (others_hold (acts journal race) act b (of_others rules journal race act may b new)) r
          ∙ o.nothing r b new);
      untimed = λ r b out. (let new : is_entered journal b ≡ false = sym (before b) ∙ out in
          told_stays (λ done. time_by done b) journal entry race act is
          (time_of_others (acts journal race) act b (of_others rules journal race act may b new)) r
          ∙ o.untimed r b new);
      once = λ r. on_same (entered journal) (entered (journal ++ entry ∷ []))
          (order rules (journal ++ entry ∷ []) r) (order rules (journal ++ entry ∷ []) r) boats refl
          (in_each_race (λ n done. IsOnSheet (entered journal) (order_by rules done)) journal entry race
          act is o.once
          (subst (IsOnSheet (entered journal)) (sym now)
          (on_after rules journal race (o.once race) (o.known race) act may)) r);
    }

pub or_false : (a b : Bool) → (a || b) ≡ false → (a ≡ false) × (b ≡ false)
or_false true b h = cc
or_false false b h = (refl, h)

none_alike : (p : Sail → Bool) (xs : List Sail) → list_any p xs ≡ false
    → All (λ x. p x ≡ false) xs
none_alike p [] e k d h = absurd (omega (arith, h))
none_alike p (x ∷ xs) e zero d h = (or_false (p x) _ e).0
none_alike p (x ∷ xs) e (suc k) d h =
    none_alike p xs (or_false (p x) _ e).1 k d (omega (arith, h))

orderly_enter : (rules : RulesParts) (journal : Journal) → IsOrderly rules journal
    → (entry : EntryParts) (s : Sail)
    → effect entry.command ≡ Enters s → is_entered journal s ≡ false
    → length (entered journal) < limits.boats → IsOrderly rules (journal ++ entry ∷ [])
orderly_enter rules journal o entry s is out room =
    let boats : entered (journal ++ entry ∷ []) ≡ entered journal ++ s ∷ [] =
    entered_more journal entry ∙ rw is refl in
    let long : length (entered (journal ++ entry ∷ [])) ≡ length (entered journal) + 1 =
    ap length boats ∙ length-append (entered journal) (s ∷ []) in
    let longer : length (entered journal ++ s ∷ []) ≡ length (entered journal) + 1 =
    length-append (entered journal) (s ∷ []) in
    let same : (race : ℕ) → acts (journal ++ entry ∷ []) race ≡ acts journal race =
    λ race. same_acts journal entry race (ap (act_in race) is) in
    let now : (b : Sail) → is_entered (journal ++ entry ∷ []) b
    ≡ (is_entered journal b || (same_sail b s || false)) =
    λ b. ap (λ xs. list_any (same_sail b) xs) boats
    ∙ list_any-append (same_sail b) (entered journal) (s ∷ []) in
    let before : (b : Sail) → is_entered (journal ++ entry ∷ []) b ≡ false
    → is_entered journal b ≡ false =
    λ b h. (or_false (is_entered journal b) _ (sym (now b) ∙ h)).0 in
    record {
      few = omega (arith, long, room);
      apart = λ i j d h k. ap (λ xs. same_sail (get_or xs j d) (get_or xs i d)) boats
          ∙ all_pairs_push (λ a b. same_sail b a ≡ false) (entered journal) s o.apart
          (none_alike (same_sail s) (entered journal) out) i j d h (omega (arith, long, longer));
      known = λ race b h. now b
          ∙ or_left (is_entered journal b) _
          (o.known race b
          (sym (ap (λ done. stands_in same_sail b (order_by rules done)) (same race)) ∙ h));
      nothing = λ race b h. ap (λ done. held_from done b) (same race) ∙ o.nothing race b (before b h);
      untimed = λ race b h. ap (λ done. time_by done b) (same race) ∙ o.untimed race b (before b h);
      once = λ race. on_same (entered journal ++ s ∷ []) (entered (journal ++ entry ∷ []))
          (order rules journal race) (order rules (journal ++ entry ∷ []) race) boats
          (ap (order_by rules) (same race))
          (on_more (entered journal) s (order rules journal race) (o.once race)
          (o.known race) room);
    }

pub orderly_more : (rules : RulesParts) (journal : Journal) → IsOrderly rules journal
    → (entry : EntryParts) (e : Effect) → effect entry.command ≡ e → MayStep rules journal e
    → IsOrderly rules (journal ++ entry ∷ [])
orderly_more rules journal o entry (Enters s) is may =
    orderly_enter rules journal o entry s is may.0 may.1
orderly_more rules journal o entry (InRace race act) is may =
    orderly_act rules journal o entry race act is may
