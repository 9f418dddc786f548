-- What the lines of a decision lead to.
use Rattle.std.proofs.Common.{◌≡◌, ℕ, ◌+◌, Bool, true, false, not, cond, List, [], ◌∷◌, ◌++◌, map, fold}
use Rattle.std.proofs.Common.{Option, Some, None, refl, sym, ap, ◌∙◌, arith, count_by, filter_map}
use Rattle.std.proofs.lemmas.List.Sums.{sum_by-cons}
use Rattle.std.specs.Prelude.{◌&&◌, filter, is_none, is_some, if◌then◌else◌}
use Rattle.std.specs.List.{cons_option, last_or, list_all}
use Rattle.std.specs.Option.{option_map}
use Rattle.regatta_terms.specs.Effects as effects
use Rattle.regatta_terms.specs.declared.command.Code.{Code}
use Rattle.regatta_terms.specs.declared.command.Code.TheVariants.{Dnf}
use Rattle.regatta_terms.specs.declared.command.PenaltyKind.TheVariants.{Zfp, Scp}
use Rattle.regatta_terms.specs.declared.command.Redress as redress_type
use Rattle.regatta_terms.specs.declared.command.Redress.TheVariants as redress
use Rattle.regatta_terms.specs.declared.command.Role.{Role}
use Rattle.regatta_scores.specs.declared.sheet.Held.{Held}
use Rattle.regatta_scores.specs.Changes.{with_decision}
use Rattle.regatta_scores.specs.Journal.{code_marked, is_penalty, redress_given}
use Rattle.regatta_scores.specs.Sheet.{nothing_held}
use Rattle.regatta_rulings.specs.declared.decision.Ruling.{Ruling}
use Rattle.regatta_rulings.specs.declared.decision.Ruling.TheVariants.{Penalty, TimeLimit}
use Rattle.regatta_rulings.specs.declared.decision.Ruling.TheVariants.{NotSailed, Average, Duty}
use Rattle.regatta_rulings.specs.declared.decision.Ruling.TheVariants.{Reinstate}
use Rattle.regatta_rulings.specs.Undecided.{Given, committee_gives, held_by, is_of_committee}
use Rattle.regatta_rulings.specs.Undecided.{of_committee}
use Rattle.regatta_rulings.specs.RulingLines.{LinesLeadThere, clearing, code_given, held_after}
use Rattle.regatta_rulings.specs.RulingLines.{held_with, last_code, lines_of, marking, penalises}
use Rattle.regatta_rulings.specs.RulingLines.{redressing, restored}

-- ---- lines one after another

after_both : (held : Held) (xs ys : List Given)
    → held_after held (xs ++ ys) ≡ held_after (held_after held xs) ys
after_both held [] ys = refl
after_both held (x ∷ xs) ys = after_both (with_decision held x.1) xs ys

-- ---- what is restored

-- the last code, with its role and without it
last_code_is : (xs : List Given) (o : Option (Role × Code))
    → option_map (λ code. code.1) (last_or o (filter_map code_given xs))
    ≡ last_or (option_map (λ code. code.1) o) (filter_map (λ given. code_marked given.1) xs)
last_code_is [] o = refl
last_code_is (x ∷ xs) o = by (code_marked x.1) (last_code_is xs)
  where
    by : (c : Option Code)
        → ((o : Option (Role × Code)) → option_map (λ code. code.1)
        (last_or o (filter_map code_given xs))
        ≡ last_or (option_map (λ code. code.1) o)
        (filter_map (λ given. code_marked given.1) xs))
        → option_map (λ code. code.1)
        (last_or o (cons_option (option_map (λ code. (x.0, code)) c) (filter_map code_given xs)))
        ≡ last_or (option_map (λ code. code.1) o)
        (cons_option c (filter_map (λ given. code_marked given.1) xs))
    by None rest = rest o
    by (Some code) rest = rest (Some (x.0, code))

-- penalties add to those that are held
abbrev with_penalties : Held → List Given → Held
with_penalties held xs = record held {
  zfp = held.zfp + count_by (λ given. is_penalty Zfp given.1) xs;
  scp = held.scp + count_by (λ given. is_penalty Scp given.1) xs;
}

count_first : {X : Type 0} (p : X → Bool) (x : X) (xs : List X)
    → count_by p (x ∷ xs) ≡ cond (p x) 1 0 + count_by p xs
count_first p x xs = sum_by-cons (λ y. cond (p y) 1 0) x xs

penalties_add : (held : Held) (xs : List Given)
    → held_after held (filter (λ given. penalises given.1) xs) ≡ with_penalties held xs
penalties_add held [] =
    let zfp : held.zfp ≡ held.zfp + 0 = omega arith in
    let scp : held.scp ≡ held.scp + 0 = omega arith in
    λ i. record held { zfp = zfp i; scp = scp i }
penalties_add held (x ∷ xs) = by x.0 x.1 (λ other. penalties_add other xs)
  where
    zfps : List Given → ℕ
    zfps all = count_by (λ given. is_penalty Zfp given.1) all

    scps : List Given → ℕ
    scps all = count_by (λ given. is_penalty Scp given.1) all

    Added : Held → List Given → Type 0
    Added other all =
        held_after other (filter (λ given. penalises given.1) all) ≡ with_penalties other all

    -- one more of a kind is one more among the rest
    moved : (zfp scp : ℕ) (role : Role) (decision : effects.Decision)
        → zfp + zfps xs ≡ held.zfp + zfps ((role, decision) ∷ xs)
        → scp + scps xs ≡ held.scp + scps ((role, decision) ∷ xs)
        → with_penalties (record held { zfp = zfp; scp = scp }) xs
        ≡ with_penalties held ((role, decision) ∷ xs)
    moved zfp scp role decision z s i = record held { zfp = z i; scp = s i }

    first_zfp : (role : Role) (decision : effects.Decision)
        → zfps ((role, decision) ∷ xs) ≡ cond (is_penalty Zfp decision) 1 0 + zfps xs
    first_zfp role decision = count_first (λ given. is_penalty Zfp given.1) (role, decision) xs

    first_scp : (role : Role) (decision : effects.Decision)
        → scps ((role, decision) ∷ xs) ≡ cond (is_penalty Scp decision) 1 0 + scps xs
    first_scp role decision = count_first (λ given. is_penalty Scp given.1) (role, decision) xs

    by : (role : Role) (decision : effects.Decision) → ((other : Held) → Added other xs)
        → Added held ((role, decision) ∷ xs)
    by role (effects.Marks code) rest =
        rest held ∙ moved held.zfp held.scp role (effects.Marks code)
        (omega (arith, first_zfp role (effects.Marks code)))
        (omega (arith, first_scp role (effects.Marks code)))
    by role (effects.Penalises Zfp) rest =
        rest (record held { zfp = held.zfp + 1 })
        ∙ moved (held.zfp + 1) held.scp role (effects.Penalises Zfp)
        (omega (arith, first_zfp role (effects.Penalises Zfp)))
        (omega (arith, first_scp role (effects.Penalises Zfp)))
    by role (effects.Penalises Scp) rest =
        rest (record held { scp = held.scp + 1 })
        ∙ moved held.zfp (held.scp + 1) role (effects.Penalises Scp)
        (omega (arith, first_zfp role (effects.Penalises Scp)))
        (omega (arith, first_scp role (effects.Penalises Scp)))
    by role (effects.Redresses redress) rest =
        rest held ∙ moved held.zfp held.scp role (effects.Redresses redress)
        (omega (arith, first_zfp role (effects.Redresses redress)))
        (omega (arith, first_scp role (effects.Redresses redress)))
    by role effects.Clears rest =
        rest held ∙ moved held.zfp held.scp role effects.Clears
        (omega (arith, first_zfp role effects.Clears))
        (omega (arith, first_scp role effects.Clears))

-- what is restored is all but redress
restored_is : (all : List Given)
    → held_after nothing_held (restored all) ≡ record (held_by all) { redress = None }
restored_is all = by (last_code all) (last_code_is all None)
  where
    zfp : 0 + (held_by all).zfp ≡ (held_by all).zfp
    zfp = omega arith

    scp : 0 + (held_by all).scp ≡ (held_by all).scp
    scp = omega arith

    with_code : (code : Option Code) → code ≡ (held_by all).code
        → with_penalties (record nothing_held { code = code }) all
        ≡ record (held_by all) { redress = None }
    with_code code e i = record { code = e i; zfp = zfp i; scp = scp i; redress = None }

    by : (o : Option (Role × Code)) → option_map (λ code. code.1) o ≡ (held_by all).code
        → held_after nothing_held
        (cons_option (option_map (λ code. (code.0, effects.Marks code.1)) o)
        (filter (λ given. penalises given.1) all)) ≡ record (held_by all) { redress = None }
    by None e = penalties_add nothing_held all ∙ with_code None e
    by (Some code) e =
        penalties_add (record nothing_held { code = Some code.1 }) all
        ∙ with_code (Some code.1) e

-- ---- the lines

-- without redress, after CLEAR if there was any
cleared : (all : List Given)
    → held_after (held_by all) (clearing (is_some (held_by all).redress) all)
    ≡ record (held_by all) { redress = None }
cleared all = by (held_by all).redress refl
  where
    by : (r : Option redress_type.Redress) → (held_by all).redress ≡ r
        → held_after (held_by all) (clearing (is_some r) all)
        ≡ record (held_by all) { redress = None }
    by None e = λ i. record (held_by all) { redress = e i }
    by (Some r) e = restored_is all

-- DNF, after a line if there was no code
marked : (held : Held) (code : Option Code) → held.code ≡ code
    → (is_none code ≡ false → held.code ≡ Some Dnf)
    → held_after held (marking (is_none code)) ≡ record held { code = Some Dnf }
marked held None e may = refl
marked held (Some code) e may = λ i. record held { code = may refl i }

-- all of the committee, and no redress
all_stay : (all : List Given) → list_all is_of_committee all ≡ true → of_committee all ≡ all
all_stay [] each = refl
all_stay (x ∷ xs) each = by (is_of_committee x) (all_stay xs) each
  where
    by : (b : Bool) → (list_all is_of_committee xs ≡ true → of_committee xs ≡ xs)
        → b && list_all is_of_committee xs ≡ true
        → (if b then x ∷ of_committee xs else of_committee xs) ≡ x ∷ xs
    by true stay rest = ap (λ (ys : List Given). x ∷ ys) (stay rest)
    by false stay rest = cc

no_redress : (all : List Given)
    → filter_map (λ given. redress_given given.1) (of_committee all) ≡ []
no_redress [] = refl
no_redress (x ∷ xs) = by x.0 x.1 (no_redress xs)
  where
    None_there : Type 0
    None_there = filter_map (λ given. redress_given given.1) (of_committee xs) ≡ []

    -- a code or a penalty, if it stays, is no redress
    kept : (b : Bool) (y : Given) → redress_given y.1 ≡ None → None_there
        → filter_map (λ given. redress_given given.1)
        (if b then y ∷ of_committee xs else of_committee xs) ≡ []
    kept true y none rest =
        ap (λ (o : Option redress_type.Redress). cons_option o
        (filter_map (λ given. redress_given given.1) (of_committee xs))) none ∙ rest
    kept false y none rest = rest

    by : (role : Role) (decision : effects.Decision) → None_there
        → filter_map (λ given. redress_given given.1) (of_committee ((role, decision) ∷ xs)) ≡ []
    by role (effects.Marks code) rest =
        kept (committee_gives role (effects.Marks code)) (role, effects.Marks code) refl rest
    by role (effects.Penalises kind) rest =
        kept (committee_gives role (effects.Penalises kind)) (role, effects.Penalises kind) refl rest
    by role (effects.Redresses redress) rest = rest
    by role effects.Clears rest = rest

-- what the committee gave, after CLEAR if the jury gave anything
reinstated : (all : List Given)
    → held_after (held_by all) (clearing (not (list_all is_of_committee all)) (of_committee all))
    ≡ record (held_by (of_committee all)) { redress = None }
reinstated all = by (list_all is_of_committee all) refl
  where
    by : (b : Bool) → list_all is_of_committee all ≡ b
        → held_after (held_by all) (clearing (not b) (of_committee all))
        ≡ record (held_by (of_committee all)) { redress = None }
    by true e =
        let same = all_stay all e in
        ap held_by (sym same)
        ∙ (λ i. record (held_by (of_committee all)) { redress = last_or None (no_redress all i) })
    by false e = restored_is (of_committee all)

-- CLEAR, and then the points
pointed : (all : List Given) (redress : redress_type.Redress)
    → held_after (held_by all)
    (clearing (is_some (held_by all).redress) all ++ ([] ++ redressing (Some redress)))
    ≡ record (held_by all) { redress = Some redress }
pointed all redress =
    after_both (held_by all) (clearing (is_some (held_by all).redress) all)
    ([] ++ redressing (Some redress))
    ∙ ap (λ (held : Held). held_after held (redressing (Some redress))) (cleared all)

-- CLEAR, DNF, and then the points, if any
marked_and : (all : List Given) (redress : Option redress_type.Redress)
    → (is_none (held_by all).code ≡ false → (held_by all).code ≡ Some Dnf)
    → held_after (held_by all)
    (clearing (is_some (held_by all).redress) all ++ (marking (is_none (held_by all).code)
    ++ redressing redress))
    ≡ record (held_by all) { code = Some Dnf; redress = redress }
marked_and all redress may =
    after_both (held_by all) (clearing (is_some (held_by all).redress) all)
    (marking (is_none (held_by all).code) ++ redressing redress)
    ∙ ap (λ (held : Held). held_after held (marking (is_none (held_by all).code)
    ++ redressing redress)) (cleared all)
    ∙ after_both (record (held_by all) { redress = None }) (marking (is_none (held_by all).code))
    (redressing redress)
    ∙ ap (λ (held : Held). held_after held (redressing redress))
    (marked (record (held_by all) { redress = None }) (held_by all).code refl may)
    ∙ last redress
  where
    last : (r : Option redress_type.Redress)
        → held_after (record (held_by all) { code = Some Dnf; redress = None }) (redressing r)
        ≡ record (held_by all) { code = Some Dnf; redress = r }
    last None = refl
    last (Some r) = refl

pub lines_lead_there : LinesLeadThere
lines_lead_there (Penalty name amount) points all may = pointed all (redress.Points points)
lines_lead_there (TimeLimit limit) points all may =
    marked_and all (Some (redress.Points points)) (may refl)
lines_lead_there NotSailed points all may = marked_and all None (may refl)
lines_lead_there (Average races) points all may = pointed all (redress.Points points)
lines_lead_there (Duty races) points all may = pointed all (redress.Points points)
lines_lead_there Reinstate points all may =
    after_both (held_by all)
    (clearing (not (list_all is_of_committee all)) (of_committee all)) ([] ++ [])
    ∙ reinstated all
