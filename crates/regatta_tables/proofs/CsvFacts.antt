-- The records that a reader of CSV gives in turn are the records of the text.
use Rattle.std.proofs.Common.{◌≡◌, ◌≤◌, ◌<◌, ℕ, zero, suc, ◌+◌, ◌==◌, ◌&&◌, Bool, true, false, List}
use Rattle.std.proofs.Common.{[], ◌∷◌, ◌++◌, length, Some, None, cond, refl, sym, ap, subst, ◌∙◌}
use Rattle.std.proofs.Common.{arith}
use Rattle.std.proofs.lemmas.Bool.{false≢true}
use Rattle.csv.specs.Machine.{Read, step, in_field, start_field, start_record, ends_with, after_end}
use Rattle.csv.specs.Machine.{is_byte, is_end, ends_at_end, fields_after, field_after, next_record}
use Rattle.csv.specs.Machine.{carriage_return, line_feed}
use Rattle.csv.specs.Reading.{AreRecords, Reached, records, records_from, records_next}
use Rattle.csv.specs.declared.parser.Config.{Config}
use Rattle.csv.specs.declared.parser.Terminator.{Terminator}
use Rattle.csv.specs.declared.parser.Terminator.TheVariants as term
use Rattle.csv.specs.declared.parser.State.{State}
use Rattle.csv.specs.declared.parser.State.TheVariants as st
use Rattle.csv.specs.declared.parser.Action.{Action}
use Rattle.csv.specs.declared.parser.Action.TheVariants as act

-- a step that ends a record leaves no record begun
record Closes (p : State × Action) : Type 0 where
  closed : is_end p.1 ≡ true → ends_at_end p.0 ≡ false

-- one that ends no record
goes_on : (s : State) (a : Action) → is_end a ≡ false → Closes (s, a)
goes_on s a h = record { closed = λ e. absurd (false≢true (sym h ∙ e)) }

either : (b : Bool) (p q : State × Action) → Closes p → Closes q → Closes (cond b p q)
either true p q first second = first
either false p q first second = second

after_end_closed : (t : Terminator) (c : ℕ) → ends_at_end (after_end t c) ≡ false
after_end_closed (term.Any t) c = refl
after_end_closed term.CRLF c = by (c == carriage_return)
  where
    by : (b : Bool) → ends_at_end (cond b st.AfterCr st.StartRecord) ≡ false
    by true = refl
    by false = refl

in_field_closes : (cfg : Config) (c : ℕ) → Closes (in_field cfg c)
in_field_closes cfg c =
    either (c == cfg.delimiter) (st.StartField, act.EndField)
    (cond (ends_with cfg.terminator c) (after_end cfg.terminator c, act.EndRecord)
    (st.InField, act.Copy)) (goes_on st.StartField act.EndField refl)
    (either (ends_with cfg.terminator c) (after_end cfg.terminator c, act.EndRecord)
    (st.InField, act.Copy) (record { closed = λ h. after_end_closed cfg.terminator c })
    (goes_on st.InField act.Copy refl))

start_field_closes : (cfg : Config) (c : ℕ) → Closes (start_field cfg c)
start_field_closes cfg c =
    either (cfg.quoting && (c == cfg.quote)) (st.InQuoted, act.Skip) (in_field cfg c)
    (goes_on st.InQuoted act.Skip refl) (in_field_closes cfg c)

start_record_closes : (cfg : Config) (c : ℕ) → Closes (start_record cfg c)
start_record_closes cfg c =
    either (ends_with cfg.terminator c) (st.StartRecord, act.Skip)
    (cond (is_byte cfg.comment c) (st.InComment, act.Skip) (start_field cfg c))
    (goes_on st.StartRecord act.Skip refl)
    (either (is_byte cfg.comment c) (st.InComment, act.Skip) (start_field cfg c)
    (goes_on st.InComment act.Skip refl) (start_field_closes cfg c))

in_quoted_closes : (cfg : Config) (c : ℕ) → Closes (step cfg st.InQuoted c)
in_quoted_closes cfg c =
    either (cfg.quoting && (c == cfg.quote)) (st.AfterQuote, act.Skip)
    (cond (cfg.quoting && is_byte cfg.escape c) (st.InEscape, act.Skip)
    (st.InQuoted, act.Copy)) (goes_on st.AfterQuote act.Skip refl)
    (either (cfg.quoting && is_byte cfg.escape c) (st.InEscape, act.Skip) (st.InQuoted, act.Copy)
    (goes_on st.InEscape act.Skip refl) (goes_on st.InQuoted act.Copy refl))

step_closes : (cfg : Config) (s : State) (c : ℕ) → Closes (step cfg s c)
step_closes cfg st.StartRecord c = start_record_closes cfg c
step_closes cfg st.StartField c = start_field_closes cfg c
step_closes cfg st.InField c = in_field_closes cfg c
step_closes cfg st.InQuoted c = in_quoted_closes cfg c
step_closes cfg st.InEscape c = goes_on st.InQuoted act.Copy refl
step_closes cfg st.AfterQuote c =
    either (cfg.quoting && cfg.double_quote && (c == cfg.quote)) (st.InQuoted, act.Copy)
    (in_field cfg c) (goes_on st.InQuoted act.Copy refl) (in_field_closes cfg c)
step_closes cfg st.InComment c =
    either (c == line_feed) (st.StartRecord, act.Skip) (st.InComment, act.Skip)
    (goes_on st.StartRecord act.Skip refl) (goes_on st.InComment act.Skip refl)
step_closes cfg st.AfterCr c =
    either (c == line_feed) (st.StartRecord, act.Skip) (start_record cfg c)
    (goes_on st.StartRecord act.Skip refl) (start_record_closes cfg c)

-- a record leaves no more than n bytes, and none begun
abbrev Leaves : ℕ → Read → Type 0
Leaves n p = (length p.2 ≤ n) × (ends_at_end p.1 ≡ false)

left : (n : ℕ) (p q : Read) → Some q ≡ Some p → Leaves n q → Leaves n p
left n p q is leaves =
    let same : q ≡ p = cc in subst (Leaves n) same leaves

-- reading a record goes on in the text
rest_of_record : (cfg : Config) (s : State) (fields : List (List ℕ)) (field xs : List ℕ) (p : Read)
    → next_record cfg s fields field xs ≡ Some p → Leaves (length xs) p
unfolding next_record
rest_of_record cfg s fields field [] p h = by (ends_at_end s) h
  where
    by : (b : Bool) → cond b (Some (fields ++ (field ∷ []), st.StartRecord, [])) None ≡ Some p
        → Leaves 0 p
    by true h = left 0 p (fields ++ (field ∷ []), st.StartRecord, []) h (omega arith, refl)
    by false h = cc
rest_of_record cfg s fields field (c ∷ rest) p h =
    by (is_end (step cfg s c).1) refl (rest_of_record cfg (step cfg s c).0
    (fields_after (step cfg s c).1 fields field) (field_after (step cfg s c).1 c field) rest p)
    h
  where
    by : (b : Bool) → is_end (step cfg s c).1 ≡ b
        → (next_record cfg (step cfg s c).0 (fields_after (step cfg s c).1 fields field)
        (field_after (step cfg s c).1 c field) rest ≡ Some p → Leaves (length rest) p)
        → cond b (Some (fields_after (step cfg s c).1 fields field, (step cfg s c).0, rest))
        (next_record cfg (step cfg s c).0 (fields_after (step cfg s c).1 fields field)
        (field_after (step cfg s c).1 c field) rest) ≡ Some p
        → Leaves (length (c ∷ rest)) p
    by true e more h = left (length (c ∷ rest)) p
        (fields_after (step cfg s c).1 fields field, (step cfg s c).0, rest) h
        (omega arith, (step_closes cfg s c).closed e)
    by false e more h = (omega (arith, (more h).0), (more h).1)

-- a record that begins at a byte takes at least that byte
shorter : (cfg : Config) (s : State) (xs : List ℕ) (p : Read) → ends_at_end s ≡ false
    → next_record cfg s [] [] xs ≡ Some p → (length p.2 < length xs) × (ends_at_end p.1 ≡ false)
unfolding next_record
shorter cfg s [] p closed h = by (ends_at_end s) closed h
  where
    by : (b : Bool) → b ≡ false → cond b (Some ([] ++ ([] ∷ []), st.StartRecord, [])) None ≡ Some p
        → (length p.2 < 0) × (ends_at_end p.1 ≡ false)
    by true closed h = cc
    by false closed h = cc
shorter cfg s (c ∷ rest) p closed h =
    by (is_end (step cfg s c).1) refl (rest_of_record cfg (step cfg s c).0
    (fields_after (step cfg s c).1 [] []) (field_after (step cfg s c).1 c []) rest p) h
  where
    by : (b : Bool) → is_end (step cfg s c).1 ≡ b
        → (next_record cfg (step cfg s c).0 (fields_after (step cfg s c).1 [] [])
        (field_after (step cfg s c).1 c []) rest ≡ Some p → Leaves (length rest) p)
        → cond b (Some (fields_after (step cfg s c).1 [] [], (step cfg s c).0, rest))
        (next_record cfg (step cfg s c).0 (fields_after (step cfg s c).1 [] [])
        (field_after (step cfg s c).1 c []) rest) ≡ Some p
        → (length p.2 < length (c ∷ rest)) × (ends_at_end p.1 ≡ false)
    by true e more h =
        let l = left (length rest) p (fields_after (step cfg s c).1 [] [], (step cfg s c).0, rest)
        h (omega arith, (step_closes cfg s c).closed e) in
        (omega (arith, l.0), l.1)
    by false e more h = (omega (arith, (more h).0), (more h).1)

-- there are no more records than bytes
counted : (cfg : Config) (s s2 : State) (xs ys : List ℕ) (rows : List (List (List ℕ)))
    → ends_at_end s ≡ false → Reached cfg s xs rows s2 ys → length rows ≤ length xs
unfolding Reached
counted cfg s s2 xs ys [] closed h = omega arith
counted cfg s s2 xs ys (r ∷ rows) closed h =
    let next = shorter cfg s xs h.0 closed h.1 in
    omega (arith, next.0, counted cfg h.0.1 s2 h.0.2 ys rows next.1 h.3)

-- the records in turn are the first n, if there are fewer
in_turn : (n : ℕ) (cfg : Config) (s s2 : State) (xs ys : List ℕ) (rows : List (List (List ℕ)))
    → length rows < n → Reached cfg s xs rows s2 ys → next_record cfg s2 [] [] ys ≡ None
    → rows ≡ records_from cfg n s xs
unfolding Reached records_from
in_turn zero cfg s s2 xs ys rows fewer h last = absurd (omega arith)
in_turn (suc n) cfg s s2 xs ys [] fewer h last =
    sym (ap (records_next (records_from cfg n))
    ((λ i. next_record cfg (h.0 i) [] [] (h.1 i)) ∙ last))
in_turn (suc n) cfg s s2 xs ys (r ∷ rows) fewer h last =
    (λ i. h.2 i ∷ in_turn n cfg h.0.1 s2 h.0.2 ys rows (omega arith) h.3 last i)
    ∙ sym (ap (records_next (records_from cfg n)) h.1)

pub are_records : (cfg : Config) (xs : List ℕ) (rows : List (List (List ℕ)))
    → AreRecords cfg st.StartRecord xs rows → rows ≡ records cfg xs
are_records cfg xs rows h =
    in_turn (length xs + 1) cfg st.StartRecord h.0 xs h.1 rows
    (omega (arith, counted cfg st.StartRecord h.0 xs h.1 rows refl h.2)) h.2 h.3
