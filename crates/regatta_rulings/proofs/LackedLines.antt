-- The lines that a boat lacks lead to what she is to hold, and a second run gives none.
use Rattle.std.proofs.Common.{◌≡◌, ℕ, ◌+◌, ◌-◌, Bool, true, false, not, cond, List, [], ◌∷◌, ◌++◌, map}
use Rattle.std.proofs.Common.{Option, Some, None, refl, sym, ap, ◌∙◌, length, drop, reverse, arith}
use Rattle.std.proofs.Common.{append-nil, filter_map, nat_eq}
use Rattle.std.specs.Prelude.{◌&&◌, filter, if◌then◌else◌, is_none, is_some}
use Rattle.std.specs.List.{after_last, cons_option, last_or, list_all, prefix_len, suffix_len}
use Rattle.std.specs.Option.{option_and_then, option_map}
use Rattle.std.proofs.Math.Seq.{drop-append-add}
use Rattle.std.proofs.lemmas.List.{append_assoc, length-append, length-reverse, reverse-append}
use Rattle.std.proofs.lemmas.List.Elements.{filter_map-append}
use borrow.Author.Tests.{eqb-true, eq-eqb}
use Rattle.std.specs.Cmp.Lexicographic.{bytes_decides}
use Rattle.regatta_terms.specs.Codes.{is_jury_code}
use Rattle.regatta_terms.specs.Effects as effects
use Rattle.regatta_terms.specs.Effects.{Effect}
use Rattle.regatta_terms.specs.declared.command.Code.{Code}
use Rattle.regatta_terms.specs.declared.command.Redress as redress_type
use Rattle.regatta_terms.specs.declared.command.Redress.TheVariants as redress
use Rattle.regatta_terms.specs.declared.command.Role.{Role}
use Rattle.regatta_terms.specs.declared.command.Role.TheVariants.{Jury}
use Rattle.regatta_terms.specs.declared.sail.Sail.{Sail}
use Rattle.regatta_scores.specs.declared.sheet.Held.{Held}
use Rattle.regatta_scores.specs.Journal.{Journal, act_in, decision_on, held, is_clear}
use Rattle.regatta_scores.proofs.JournalLaws.{decisions_add}
use Rattle.regatta_rulings.specs.declared.decision.Decision.{Decision}
use Rattle.regatta_rulings.specs.declared.decision.Ruling.{Ruling}
use Rattle.regatta_rulings.specs.declared.decision.Ruling.TheVariants.{Penalty, TimeLimit}
use Rattle.regatta_rulings.specs.declared.decision.Ruling.TheVariants.{NotSailed, Average, Duty}
use Rattle.regatta_rulings.specs.declared.decision.Ruling.TheVariants.{Reinstate}
use Rattle.regatta_rulings.specs.LackedLines.{AreLines, LackedLinesLeadThere, NoLineTwice, is_met}
use Rattle.regatta_rulings.specs.LackedLines.{is_points, lacking, line_in, said}
use Rattle.regatta_rulings.specs.RulingLines.{MayBeOut, clearing, code_given, held_after, held_with}
use Rattle.regatta_rulings.specs.RulingLines.{last_code, lines_of, marking, penalises, restored}
use Rattle.regatta_rulings.specs.Undecided.{Given, given, given_by, held_by, in_force, is_of_committee}
use Rattle.regatta_rulings.specs.Undecided.{of_committee}
use Rattle.regatta_rulings.proofs.BarFacts.{filter_map-map, given_is_held, not_barred}
use Rattle.regatta_rulings.proofs.RulingLines.{lines_lead_there}

-- ---- both of two

first_of : (a b : Bool) → a && b ≡ true → a ≡ true
first_of true b e = refl
first_of false b e = cc

second_of : (a b : Bool) → a && b ≡ true → b ≡ true
second_of true b e = e
second_of false b e = cc

both : (a b : Bool) → a ≡ true → b ≡ true → a && b ≡ true
both a b p q = ap (λ (x : Bool). x && b) p ∙ q

-- ---- what is in force after a Clear

all_append : {X : Type 0} (q : X → Bool) (xs ys : List X) → list_all q xs ≡ true
    → list_all q ys ≡ true → list_all q (xs ++ ys) ≡ true
all_append q [] ys first second = second
all_append q (x ∷ xs) ys first second =
    both (q x) (list_all q (xs ++ ys)) (first_of (q x) (list_all q xs) first)
    (all_append q xs ys (second_of (q x) (list_all q xs) first) second)

all_reverse : {X : Type 0} (q : X → Bool) (xs : List X) → list_all q xs ≡ true
    → list_all q (reverse xs) ≡ true
all_reverse q [] each = refl
all_reverse q (x ∷ xs) each =
    ap (list_all q) (reverse-append (x ∷ []) xs)
    ∙ all_append q (reverse xs) (x ∷ []) (all_reverse q xs (second_of (q x) (list_all q xs) each))
    (both (q x) true (first_of (q x) (list_all q xs) each) refl)

prefix_len-stop : {X : Type 0} (q : X → Bool) (xs : List X) (x : X) (ys : List X)
    → list_all q xs ≡ true → q x ≡ false → prefix_len q (xs ++ x ∷ ys) ≡ length xs
prefix_len-stop q [] x ys each stops =
    ap (λ (b : Bool). cond b (1 + prefix_len q ys) 0) stops
prefix_len-stop q (w ∷ xs) x ys each stops =
    let step : prefix_len q (w ∷ (xs ++ x ∷ ys)) ≡ 1 + prefix_len q (xs ++ x ∷ ys) =
    ap (λ (b : Bool). cond b (1 + prefix_len q (xs ++ x ∷ ys)) 0)
    (first_of (q w) (list_all q xs) each) in
    let more = prefix_len-stop q xs x ys (second_of (q w) (list_all q xs) each) stops in
    omega (arith, step, more)

after_last_stop : {X : Type 0} (p : X → Bool) (xs : List X) (x : X) (ys : List X) → p x ≡ true
    → list_all (λ y. not (p y)) ys ≡ true → after_last p (xs ++ x ∷ ys) ≡ ys
after_last_stop {X = X} p xs x ys hit none =
    let cut : length (xs ++ x ∷ ys) - suffix_len (λ y. not (p y)) (xs ++ x ∷ ys) ≡ length xs + 1 =
    omega (arith, length-append xs (x ∷ ys), suffix) in
    ap (λ (n : ℕ). drop n (xs ++ x ∷ ys)) cut ∙ drop-append-add xs (x ∷ ys) 1
  where
    suffix : suffix_len (λ y. not (p y)) (xs ++ x ∷ ys) ≡ length ys
    suffix =
        ap (prefix_len (λ y. not (p y)))
        (reverse-append xs (x ∷ ys)
        ∙ ap (λ (front : List X). front ++ reverse xs) (reverse-append (x ∷ []) ys)
        ∙ append_assoc (reverse ys) (x ∷ []) (reverse xs))
        ∙ prefix_len-stop (λ y. not (p y)) (reverse ys) x (reverse xs)
        (all_reverse (λ y. not (p y)) ys none) (ap not hit)
        ∙ length-reverse ys

-- ---- what stays of the committee

all_filtered : {X : Type 0} (p : X → Bool) (xs : List X) → list_all p (filter p xs) ≡ true
all_filtered p [] = refl
all_filtered p (x ∷ xs) = by (p x) refl (all_filtered p xs)
  where
    by : (b : Bool) → p x ≡ b → list_all p (filter p xs) ≡ true
        → list_all p (if b then x ∷ filter p xs else filter p xs) ≡ true
    by true e rest = both (p x) (list_all p (filter p xs)) e rest
    by false e rest = rest

all_of_some : {X : Type 0} (p q : X → Bool) (xs : List X) → list_all p xs ≡ true
    → list_all p (filter q xs) ≡ true
all_of_some p q [] each = refl
all_of_some p q (x ∷ xs) each =
    by (q x) (first_of (p x) (list_all p xs) each)
    (all_of_some p q xs (second_of (p x) (list_all p xs) each))
  where
    by : (b : Bool) → p x ≡ true → list_all p (filter q xs) ≡ true
        → list_all p (if b then x ∷ filter q xs else filter q xs) ≡ true
    by true here rest = both (p x) (list_all p (filter q xs)) here rest
    by false here rest = rest

-- whether a code is none of the jury's
abbrev is_free : Option (Role × Code) → Bool
is_free None = true
is_free (Some code) = not (is_jury_code code.1)

last_free : (xs : List Given) (o : Option (Role × Code)) → list_all is_of_committee xs ≡ true
    → is_free o ≡ true → is_free (last_or o (filter_map code_given xs)) ≡ true
last_free [] o each free = free
last_free (x ∷ xs) o each free =
    by x.0 x.1 (first_of (is_of_committee x) (list_all is_of_committee xs) each)
    (λ other f. last_free xs other
    (second_of (is_of_committee x) (list_all is_of_committee xs) each) f)
  where
    by : (role : Role) (decision : effects.Decision) → is_of_committee (role, decision) ≡ true
        → ((other : Option (Role × Code)) → is_free other ≡ true
        → is_free (last_or other (filter_map code_given xs)) ≡ true)
        → is_free (last_or o (filter_map code_given ((role, decision) ∷ xs))) ≡ true
    by role (effects.Marks code) here rest = rest (Some (role, code)) here
    by role (effects.Penalises kind) here rest = rest o free
    by role (effects.Redresses redress) here rest = rest o free
    by role effects.Clears here rest = rest o free

restored_of_committee : (all : List Given)
    → list_all is_of_committee (restored (of_committee all)) ≡ true
restored_of_committee all =
    by (last_code (of_committee all))
    (last_free (of_committee all) None (all_filtered is_of_committee all) refl)
  where
    penalties : List Given
    penalties = filter (λ given. penalises given.1) (of_committee all)

    stay : list_all is_of_committee penalties ≡ true
    stay = all_of_some is_of_committee (λ given. penalises given.1) (of_committee all)
        (all_filtered is_of_committee all)

    by : (o : Option (Role × Code)) → is_free o ≡ true → list_all is_of_committee
        (cons_option (option_map (λ code. (code.0, effects.Marks code.1)) o) penalties) ≡ true
    by None free = stay
    by (Some code) free =
        both (not (is_jury_code code.1)) (list_all is_of_committee penalties) free stay

not_clear : (role : Role) (decision : effects.Decision) → is_of_committee (role, decision) ≡ true
    → not (is_clear decision) ≡ true
not_clear role (effects.Marks code) e = refl
not_clear role (effects.Penalises kind) e = refl
not_clear role (effects.Redresses redress) e = refl
not_clear role effects.Clears e = cc

none_clear : (xs : List Given) → list_all is_of_committee xs ≡ true
    → list_all (λ given. not (is_clear given.1)) xs ≡ true
none_clear [] each = refl
none_clear (x ∷ xs) each =
    both (not (is_clear x.1)) (list_all (λ given. not (is_clear given.1)) xs)
    (not_clear x.0 x.1 (first_of (is_of_committee x) (list_all is_of_committee xs) each))
    (none_clear xs (second_of (is_of_committee x) (list_all is_of_committee xs) each))

-- ---- lines in the journal

held_after_entries : (race : ℕ) (boat : Sail) (lines : List Given) (entries journal : Journal)
    → AreLines race boat lines entries
    → held (journal ++ entries) race boat ≡ held_after (held journal race boat) lines
held_after_entries race boat [] [] journal are =
    ap (λ (j : Journal). held j race boat) (append-nil journal)
held_after_entries race boat [] (entry ∷ entries) journal are = cc
held_after_entries race boat (line ∷ lines) [] journal are = cc
held_after_entries race boat (line ∷ lines) (entry ∷ entries) journal are =
    let first : said entry ≡ line_in race boat line = cc in
    let rest : AreLines race boat lines entries = cc in
    ap (λ (j : Journal). held j race boat) (sym (append_assoc journal (entry ∷ []) entries))
    ∙ held_after_entries race boat lines entries (journal ++ entry ∷ []) rest
    ∙ ap (λ (h : Held). held_after h lines)
    (decisions_add journal entry race boat line.1 (ap (λ (x : Role × Effect). x.1) first))

-- what an entry gives, by what it says
abbrev given_as : ℕ → Sail → Role × Effect → Option Given
given_as race boat says =
    option_map (λ decision. (says.0, decision))
    (option_and_then (decision_on boat) (act_in race says.1))

line_gives : (race : ℕ) (boat : Sail) (line : Given)
    → given_as race boat (line_in race boat line) ≡ Some line
line_gives race boat line = rw (eq-eqb race race refl, (bytes_decides boat boat).1 refl) refl

all_give : {X Y : Type 0} (f : X → Option Y) (g : Y → X) (ys : List Y)
    → ((y : Y) → f (g y) ≡ Some y) → filter_map f (map g ys) ≡ ys
all_give f g [] each = refl
all_give {Y = Y} f g (y ∷ ys) each =
    ap (λ (o : Option Y). cons_option o (filter_map f (map g ys))) (each y)
    ∙ ap (λ (rest : List Y). y ∷ rest) (all_give f g ys each)

entries_give : (race : ℕ) (boat : Sail) (lines : List Given) (entries : Journal)
    → AreLines race boat lines entries → filter_map (given_by race boat) entries ≡ lines
entries_give race boat lines entries are =
    sym (filter_map-map (given_as race boat) said entries)
    ∙ ap (filter_map (given_as race boat)) are
    ∙ all_give (given_as race boat) (line_in race boat) lines (line_gives race boat)

-- ---- what she lacks

points_held : (points : ℕ) (r : Option redress_type.Redress) → is_points points r ≡ true
    → r ≡ Some (redress.Points points)
points_held points None e = cc
points_held points (Some (redress.Points award)) e =
    ap (λ (n : ℕ). Some (redress.Points n)) (eqb-true award points e)
points_held points (Some redress.AllRaces) e = cc
points_held points (Some redress.RacesBefore) e = cc

coded : (b : Bool) → not b ≡ true → b ≡ false
coded true e = cc
coded false e = refl

already : (ruling : Ruling) (points : ℕ) (all : List Given) → MayBeOut ruling (held_by all)
    → is_met ruling points (held_by all) ≡ true → held_by all ≡ held_with ruling points all
already (Penalty name amount) points all may met =
    let same = points_held points (held_by all).redress (first_of _ true met) in
    λ i. record (held_by all) { redress = same i }
already (TimeLimit limit) points all may met =
    let same = points_held points (held_by all).redress
    (first_of _ (not (is_none (held_by all).code)) met) in
    let out = may refl (coded (is_none (held_by all).code)
    (second_of (is_points points (held_by all).redress) _ met)) in
    λ i. record (held_by all) { code = out i; redress = same i }
already NotSailed points all may met = cc
already (Average races) points all may met =
    let same = points_held points (held_by all).redress (first_of _ true met) in
    λ i. record (held_by all) { redress = same i }
already (Duty races) points all may met =
    let same = points_held points (held_by all).redress (first_of _ true met) in
    λ i. record (held_by all) { redress = same i }
already Reinstate points all may met = cc

pub lacked_lines_lead_there : LackedLinesLeadThere
lacked_lines_lead_there ruling points all may = by (is_met ruling points (held_by all)) refl
  where
    by : (b : Bool) → is_met ruling points (held_by all) ≡ b
        → held_after (held_by all) (if b then [] else lines_of ruling points all)
        ≡ held_with ruling points all
    by true met = already ruling points all may met
    by false met = lines_lead_there ruling points all may

-- ---- a second run

-- what she holds after the lines
reached : (journal : Journal) (race : ℕ) (boat : Sail) (points : ℕ) (entries : Journal)
    (ruling : Ruling) → MayBeOut ruling (held_by (given journal race boat))
    → AreLines race boat (lacking ruling points (given journal race boat)) entries
    → held_by (given (journal ++ entries) race boat)
    ≡ held_with ruling points (given journal race boat)
reached journal race boat points entries ruling may are =
    let lines = lacking ruling points (given journal race boat) in
    given_is_held (journal ++ entries) race boat
    ∙ held_after_entries race boat lines entries journal are
    ∙ ap (λ (h : Held). held_after h lines) (sym (given_is_held journal race boat))
    ∙ lacked_lines_lead_there ruling points (given journal race boat) may

no_line : (ruling : Ruling) (points : ℕ) (all : List Given) (h : Held) → held_by all ≡ h
    → is_met ruling points h ≡ true → lacking ruling points all ≡ []
no_line ruling points all h same met =
    ap (λ (b : Bool). if b then [] else lines_of ruling points all)
    (ap (is_met ruling points) same ∙ met)

same_points : (points : ℕ) → nat_eq points points && true ≡ true
same_points points = ap (λ (b : Bool). b && true) (eq-eqb points points refl)

reinstated_twice : (journal : Journal) (race : ℕ) (boat : Sail) (points : ℕ) (entries : Journal)
    → AreLines race boat (lacking Reinstate points (given journal race boat)) entries
    → list_all is_of_committee (given (journal ++ entries) race boat) ≡ true
reinstated_twice journal race boat points entries are =
    ap (λ (all : List Given). list_all is_of_committee (in_force all))
    (filter_map-append (given_by race boat) journal entries
    ∙ ap (λ (new : List Given). old ++ new)
    (entries_give race boat (lacking Reinstate points all) entries are))
    ∙ by (list_all is_of_committee all) refl
  where
    old : List Given
    old = filter_map (given_by race boat) journal

    all : List Given
    all = given journal race boat

    by : (b : Bool) → list_all is_of_committee all ≡ b → list_all is_of_committee
        (in_force (old ++ (clearing (not b) (of_committee all) ++ ([] ++ [])))) ≡ true
    by true e = ap (λ (ys : List Given). list_all is_of_committee (in_force ys)) (append-nil old) ∙ e
    by false e =
        ap (λ (ys : List Given). list_all is_of_committee (in_force (old ++ ys)))
        (append-nil ((Jury, effects.Clears) ∷ restored (of_committee all)))
        ∙ ap (list_all is_of_committee)
        (after_last_stop (λ (given : Given). is_clear given.1) old (Jury, effects.Clears)
        (restored (of_committee all)) refl
        (none_clear (restored (of_committee all)) (restored_of_committee all)))
        ∙ restored_of_committee all

twice : (journal : Journal) (race : ℕ) (boat : Sail) (points : ℕ) (entries : Journal)
    (ruling : Ruling) → MayBeOut ruling (held_by (given journal race boat))
    → AreLines race boat (lacking ruling points (given journal race boat)) entries
    → lacking ruling points (given (journal ++ entries) race boat) ≡ []
twice journal race boat points entries (Penalty name amount) may are =
    no_line (Penalty name amount) points (given (journal ++ entries) race boat) _
    (reached journal race boat points entries (Penalty name amount) may are) (same_points points)
twice journal race boat points entries (TimeLimit limit) may are =
    no_line (TimeLimit limit) points (given (journal ++ entries) race boat) _
    (reached journal race boat points entries (TimeLimit limit) may are) (same_points points)
twice journal race boat points entries NotSailed may are =
    ap (λ (h : Held). clearing (is_some h.redress) (given (journal ++ entries) race boat)
    ++ (marking (true && is_none h.code) ++ []))
    (reached journal race boat points entries NotSailed may are)
twice journal race boat points entries (Average races) may are =
    no_line (Average races) points (given (journal ++ entries) race boat) _
    (reached journal race boat points entries (Average races) may are) (same_points points)
twice journal race boat points entries (Duty races) may are =
    no_line (Duty races) points (given (journal ++ entries) race boat) _
    (reached journal race boat points entries (Duty races) may are) (same_points points)
twice journal race boat points entries Reinstate may are =
    ap (λ (b : Bool). clearing (not b) (of_committee (given (journal ++ entries) race boat))
    ++ ([] ++ []))
    (reinstated_twice journal race boat points entries are)

pub no_line_twice : NoLineTwice
no_line_twice journal earlier decision points entries free are =
    twice journal decision.race decision.sail points entries decision.ruling
    (not_barred journal earlier decision free) are
