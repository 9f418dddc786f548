-- The texts of what most boats have: no decision, no time and no redress.
use Rattle.std.proofs.Common.{◌≡◌, ℕ, ◌&&◌, Bool, true, false, List, [], ◌∷◌, refl, sym, arith, length}
use Rattle.std.proofs.Common.{nat_eq, Option, Some, None}
use Rattle.std.specs.Prelude.{codes, is_none}
use Rattle.std.specs.Fmt.{digits}
use borrow.Author.Tests.{eqb-true}
use Rattle.regatta_explain.specs.declared.parts.HeldPart.{HeldPart}
use Rattle.regatta_explain.specs.declared.parts.ScorePart.{ScorePart}
use Rattle.regatta_explain.specs.Made.{has_no_redress, holdings_text, is_bare}
use Rattle.regatta_json.specs.Fields.{number_value}
use Rattle.regatta_explain.specs.Rows.{average_text, code_value, penalties_text}
use Rattle.regatta_explain.specs.Rows.{redress_text, redress_value}

-- what a test finds to be nothing is nothing
nothing : {X : Type 0} (x : Option X) → is_none x ≡ true → x ≡ None
nothing None h = refl
nothing (Some x) h = cc

empty : (xs : List ℕ) → nat_eq (length xs) 0 ≡ true → xs ≡ []
empty [] h = refl
empty (x ∷ xs) h =
    (let none : length (x ∷ xs) ≡ 0 = eqb-true (length (x ∷ xs)) 0 h in absurd (omega (arith, none)))

-- tests that hold together hold each
three : (a b c : Bool) → (a && b && c) ≡ true → (a ≡ true) × (b ≡ true) × (c ≡ true)
three true true true h = (refl, refl, refl)
three true true false h = absurd (cc)
three true false c h = absurd (cc)
three false b c h = absurd (cc)

five : (a b c d e : Bool) → (a && b && c && d && e) ≡ true
    → (a ≡ true) × (b ≡ true) × (c ≡ true) × (d ≡ true) × (e ≡ true)
five true true true true true h = (refl, refl, refl, refl, refl)
five true true true true false h = absurd (cc)
five true true true false e h = absurd (cc)
five true true false d e h = absurd (cc)
five true false c d e h = absurd (cc)
five false b c d e h = absurd (cc)

pub bare_holdings : (part : HeldPart) → is_bare part ≡ true
    → codes ",\"code\":null,\"zfp\":0,\"scp\":0,\"redress\":null,\"seconds\":null}"
    ≡ holdings_text part
unfolding digits holdings_text penalties_text redress_text code_value number_value redress_value
bare_holdings part bare =
    let each = five (is_none part.code) (nat_eq part.zfp 0) (nat_eq part.scp 0)
    (is_none part.redress) (is_none part.seconds) bare in
    let code = nothing part.code each.0 in
    let zfp = eqb-true part.zfp 0 each.1 in
    let scp = eqb-true part.scp 0 each.2 in
    let redress = nothing part.redress each.3 in
    let seconds = nothing part.seconds each.4 in
    sym (λ i. holdings_text (record part {
      code = code i;
      zfp = zfp i;
      scp = scp i;
      redress = redress i;
      seconds = seconds i;
    }))

pub bare_average : (part : ScorePart) → has_no_redress part ≡ true
    → codes ",\"redress\":null,\"averaged\":[],\"sum\":0.0" ≡ average_text part
unfolding digits average_text redress_value
bare_average part bare =
    let each = three (is_none part.redress) (nat_eq (length part.averaged) 0) (nat_eq part.sum 0)
    bare in
    let redress = nothing part.redress each.0 in
    let averaged = empty part.averaged each.1 in
    let sum = eqb-true part.sum 0 each.2 in
    sym (λ i. average_text (record part {
      redress = redress i;
      averaged = averaged i;
      sum = sum i;
    }))
