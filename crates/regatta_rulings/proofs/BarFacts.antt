-- What was given to a boat is what she holds, and the lines of a decision that isn't barred lead there.
use Rattle.std.proofs.Common.{◌≡◌, ℕ, ◌+◌, ◌-◌, Bool, true, false, not, cond, ◌&&◌, List, [], ◌∷◌, ◌++◌}
use Rattle.std.proofs.Common.{Option, Some, None, refl, sym, ap, ◌∙◌, length, map, drop, reverse}
use Rattle.std.proofs.Common.{filter_map, count_by, subst}
use Rattle.std.specs.Prelude.{if◌then◌else◌, is_none}
use Rattle.std.specs.List.{after_last, cons_option, last_or, list_any, prefix_len, suffix_len}
use Rattle.std.specs.Option.{option_and_then, option_map}
use Rattle.std.proofs.lemmas.List.{drop-map, length-map}
use Rattle.std.proofs.lemmas.List.{reverse-append}
use Rattle.regatta_terms.specs.Effects as effects
use Rattle.regatta_terms.specs.Effects.{Act, effect}
use Rattle.regatta_terms.specs.declared.command.Code.{Code}
use Rattle.regatta_terms.specs.declared.command.Code.TheVariants.{Dnc, Dns, Ocs, Ufd, Bfd, Dnf, Ret}
use Rattle.regatta_terms.specs.declared.command.Code.TheVariants.{Dsq, Dne}
use Rattle.regatta_terms.specs.declared.command.PenaltyKind.TheVariants.{Zfp, Scp}
use Rattle.regatta_terms.specs.declared.sail.Sail.{Sail}
use Rattle.regatta_scores.specs.declared.sheet.Held.{Held}
use Rattle.regatta_scores.specs.Journal.{Journal, act_in, acts, code_marked, decision_on, held}
use Rattle.regatta_scores.specs.Journal.{is_clear, is_penalty, is_scored, redress_given}
use Rattle.regatta_scores.proofs.Counts.{count_by-map}
use Rattle.regatta_board.specs.Refusals.{is_entered}
use Rattle.regatta_rulings.specs.declared.decision.Bar.{Bar}
use Rattle.regatta_rulings.specs.declared.decision.Bar.TheVariants.{Twice, NotEntered}
use Rattle.regatta_rulings.specs.declared.decision.Decision.{Decision}
use Rattle.regatta_rulings.specs.declared.decision.Ruling.{Ruling}
use Rattle.regatta_rulings.specs.Bars.{GivenIsHeld, LinesOfDecisions, bar_by, bar_of, first_bar}
use Rattle.regatta_rulings.specs.Bars.{gives, gives_points, is_about, is_coded, is_disqualified}
use Rattle.regatta_rulings.specs.RulingLines.{MayBeOut, held_after, is_out, lines_of}
use Rattle.regatta_rulings.specs.Undecided.{Given, given, given_by, held_by, is_averaged}
use Rattle.regatta_rulings.proofs.RulingLines.{lines_lead_there}

-- ---- lists

map-append : {X Y : Type 0} (f : X → Y) (xs ys : List X) → map f (xs ++ ys) ≡ map f xs ++ map f ys
map-append f [] ys = refl
map-append {Y = Y} f (x ∷ xs) ys = ap (λ (rest : List Y). f x ∷ rest) (map-append f xs ys)

map-reverse : {X Y : Type 0} (f : X → Y) (xs : List X) → map f (reverse xs) ≡ reverse (map f xs)
map-reverse f [] = refl
map-reverse {Y = Y} f (x ∷ xs) =
    ap (map f) (reverse-append (x ∷ []) xs)
    ∙ map-append f (reverse xs) (x ∷ [])
    ∙ ap (λ (front : List Y). front ++ f x ∷ []) (map-reverse f xs)
    ∙ sym (reverse-append (f x ∷ []) (map f xs))

prefix_len-map : {X Y : Type 0} (f : X → Y) (p : Y → Bool) (xs : List X)
    → prefix_len p (map f xs) ≡ prefix_len (λ x. p (f x)) xs
prefix_len-map f p [] = refl
prefix_len-map f p (x ∷ xs) = ap (λ (n : ℕ). cond (p (f x)) (1 + n) 0) (prefix_len-map f p xs)

after_last-map : {X Y : Type 0} (f : X → Y) (p : Y → Bool) (xs : List X)
    → map f (after_last (λ x. p (f x)) xs) ≡ after_last p (map f xs)
after_last-map {Y = Y} f p xs =
    sym (drop-map f (length xs - suffix_len (λ x. not (p (f x))) xs) xs)
    ∙ ap (λ (n : ℕ). drop n (map f xs)) same
  where
    suffix : suffix_len (λ y. not (p y)) (map f xs) ≡ suffix_len (λ x. not (p (f x))) xs
    suffix = ap (prefix_len (λ y. not (p y))) (sym (map-reverse f xs))
        ∙ prefix_len-map f (λ y. not (p y)) (reverse xs)

    same : length xs - suffix_len (λ x. not (p (f x))) xs
        ≡ length (map f xs) - suffix_len (λ y. not (p y)) (map f xs)
    same = sym (ap (λ (n : ℕ). n - suffix_len (λ y. not (p y)) (map f xs)) (length-map xs f)
        ∙ ap (λ (n : ℕ). length xs - n) suffix)

pub filter_map-map : {X Y Z : Type 0} (g : Y → Option Z) (f : X → Y) (xs : List X)
    → filter_map g (map f xs) ≡ filter_map (λ x. g (f x)) xs
filter_map-map g f [] = refl
filter_map-map g f (x ∷ xs) = ap (cons_option (g (f x))) (filter_map-map g f xs)

-- ---- what was given

-- the decisions on a boat in a race are those that were given to her
decisions_given : (race : ℕ) (boat : Sail) (journal : Journal)
    → map (λ given. given.1) (filter_map (given_by race boat) journal)
    ≡ filter_map (decision_on boat) (acts journal race)
decisions_given race boat [] = refl
decisions_given race boat (entry ∷ journal) =
    by (act_in race (effect entry.command)) (decisions_given race boat journal)
  where
    Same : Type 0
    Same = map (λ given. given.1) (filter_map (given_by race boat) journal)
        ≡ filter_map (decision_on boat) (acts journal race)

    with_one : (o : Option effects.Decision) → Same
        → map (λ given. given.1)
        (cons_option (option_map (λ decision. (entry.role, decision)) o)
        (filter_map (given_by race boat) journal))
        ≡ cons_option o (filter_map (decision_on boat) (acts journal race))
    with_one None rest = rest
    with_one (Some decision) rest = ap (λ (ds : List effects.Decision). decision ∷ ds) rest

    by : (o : Option Act) → Same
        → map (λ given. given.1)
        (cons_option (option_map (λ decision. (entry.role, decision))
        (option_and_then (decision_on boat) o)) (filter_map (given_by race boat) journal))
        ≡ filter_map (decision_on boat) (cons_option o (acts journal race))
    by None rest = rest
    by (Some act) rest = with_one (decision_on boat act) rest

-- what is held by decisions without their roles
abbrev held_of : List effects.Decision → Held
held_of decisions = record {
  code = last_or None (filter_map code_marked decisions);
  zfp = count_by (is_penalty Zfp) decisions;
  scp = count_by (is_penalty Scp) decisions;
  redress = last_or None (filter_map redress_given decisions);
}

without_roles : (all : List Given) → held_by all ≡ held_of (map (λ given. given.1) all)
without_roles all i = record {
  code = last_or None (sym (filter_map-map code_marked (λ given. given.1) all) i);
  zfp = sym (count_by-map (is_penalty Zfp) (λ given. given.1) all) i;
  scp = sym (count_by-map (is_penalty Scp) (λ given. given.1) all) i;
  redress = last_or None (sym (filter_map-map redress_given (λ given. given.1) all) i);
}

pub given_is_held : GivenIsHeld
given_is_held journal race boat =
    without_roles (given journal race boat)
    ∙ ap held_of (after_last-map (λ given. given.1) is_clear (filter_map (given_by race boat) journal)
    ∙ ap (after_last is_clear) (decisions_given race boat journal))

-- ---- decisions that aren't barred

-- a code that isn't another than DNF
dnf_alone : (code : Option Code) → is_coded code ≡ false → is_none code ≡ false → code ≡ Some Dnf
dnf_alone None free some = cc
dnf_alone (Some Dnc) free some = cc
dnf_alone (Some Dns) free some = cc
dnf_alone (Some Ocs) free some = cc
dnf_alone (Some Ufd) free some = cc
dnf_alone (Some Bfd) free some = cc
dnf_alone (Some Dnf) free some = refl
dnf_alone (Some Ret) free some = cc
dnf_alone (Some Dsq) free some = cc
dnf_alone (Some Dne) free some = cc

-- what isn't barred by what she holds
not_coded : (ruling : Ruling) (held : Held) (scored : Bool) → bar_by held scored ruling ≡ None
    → is_out ruling ≡ true → is_coded held.code ≡ false
not_coded ruling held scored free out =
    by (gives ruling && is_disqualified held.code) (gives ruling && is_averaged held.redress)
    (is_coded held.code) (gives_points ruling && not scored)
    (ap (λ (b : Bool). first_bar (gives ruling && is_disqualified held.code)
    (gives ruling && is_averaged held.redress) (b && is_coded held.code)
    (gives_points ruling && not scored)) (sym out) ∙ free)
  where
    by : (p q r s : Bool) → first_bar p q r s ≡ None → r ≡ false
    by true q r s e = cc
    by false true r s e = cc
    by false false true s e = cc
    by false false false s e = refl

may_be_out : (ruling : Ruling) (held : Held) (scored : Bool) → bar_by held scored ruling ≡ None
    → MayBeOut ruling held
may_be_out ruling held scored free out some =
    dnf_alone held.code (not_coded ruling held scored free out) some

-- what bars a decision by what its boat holds
by_held : (twice entered : Bool) (bar : Option Bar)
    → (if twice then Some Twice else if not entered then Some NotEntered else bar) ≡ None
    → bar ≡ None
by_held true entered bar e = cc
by_held false true bar e = e
by_held false false bar e = cc

pub not_barred : (journal : Journal) (earlier : List Decision) (decision : Decision)
    → bar_of journal earlier decision ≡ None
    → MayBeOut decision.ruling (held_by (given journal decision.race decision.sail))
not_barred journal earlier decision free =
    subst (MayBeOut decision.ruling) (sym (given_is_held journal decision.race decision.sail))
    (may_be_out decision.ruling (held journal decision.race decision.sail)
    (is_scored journal decision.race)
    (by_held (list_any (is_about decision.race decision.sail) earlier)
    (is_entered journal decision.sail) _ free))

pub lines_of_decisions : LinesOfDecisions
lines_of_decisions journal earlier decision points free =
    let all = given journal decision.race decision.sail in
    ap (λ (h : Held). held_after h (lines_of decision.ruling points all))
    (sym (given_is_held journal decision.race decision.sail))
    ∙ lines_lead_there decision.ruling points all (not_barred journal earlier decision free)
