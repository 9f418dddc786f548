-- The first line feed of a text.
use Rattle.std.proofs.Common.{◌≡◌, ℕ, ◌+◌, ◌<◌, ◌≤◌, Bool, true, false, cond, List, [], ◌∷◌}
use Rattle.std.proofs.Common.{◌++◌, ◌||◌, length, take, drop, zero, suc, not, refl, sym, ap, ◌∙◌}
use Rattle.std.proofs.Common.{arith}
use Rattle.std.proofs.Common.{Some, None}
use Rattle.std.specs.Prelude.{nat_lt}
use Rattle.std.specs.List.{list_any, position, position_or_len}
use Rattle.std.proofs.lemmas.Bool.{eqb-true, ltb-false}
use Rattle.std.proofs.lemmas.List.{drop-drop, length-drop}
use Rattle.std.proofs.lemmas.List.Sums.{prefix_len-le-length}
use Rattle.regatta_terms.specs.TextLines.{is_line_end}

-- the first line feed, if there is one
pub end_at : (text : List ℕ) (end : ℕ) → Some end ≡ position is_line_end text
    → end ≡ position_or_len is_line_end text
end_at text end is = by (nat_lt (position_or_len is_line_end text) (length text)) is
  where
    by : (b : Bool) → Some end ≡ cond b (Some (position_or_len is_line_end text)) None
        → end ≡ position_or_len is_line_end text
    by true is = cc
    by false is = absurd cc

pub no_end : (text : List ℕ) → None ≡ position is_line_end text
    → length text ≡ position_or_len is_line_end text
no_end text is = by (nat_lt (position_or_len is_line_end text) (length text)) refl is
  where
    by : (b : Bool) → nat_lt (position_or_len is_line_end text) (length text) ≡ b
        → None ≡ cond b (Some (position_or_len is_line_end text)) None
        → length text ≡ position_or_len is_line_end text
    by true test is = absurd cc
    by false test is = omega (
      arith,
      ltb-false (position_or_len is_line_end text) (length text) test,
      prefix_len-le-length (λ byte. not (is_line_end byte)) text,
    )

-- the first byte is it, or it is later
first : (byte : ℕ) (text : List ℕ) → is_line_end byte ≡ true
    → position_or_len is_line_end (byte ∷ text) ≡ 0
first byte text is = ap (λ (b : Bool). cond (not b) (1 + position_or_len is_line_end text) 0) is

later : (byte : ℕ) (text : List ℕ) → is_line_end byte ≡ false
    → position_or_len is_line_end (byte ∷ text) ≡ suc (position_or_len is_line_end text)
later byte text is =
    let next : 1 + position_or_len is_line_end text ≡ suc (position_or_len is_line_end text) =
    omega arith in
    ap (λ (b : Bool). cond (not b) (1 + position_or_len is_line_end text) 0) is ∙ next

-- where the first line feed is, if the first bytes are none
pub ends_behind : (n : ℕ) (text : List ℕ) → n ≤ length text
    → list_any is_line_end (take n text) ≡ false
    → position_or_len is_line_end text ≡ n + position_or_len is_line_end (drop n text)
ends_behind zero text few none = omega arith
ends_behind (suc n) [] few none = absurd (omega (arith, few))
ends_behind (suc n) (byte ∷ text) few none =
    by (is_line_end byte) refl none (ends_behind n text (omega (arith, few)))
  where
    by : (b : Bool) → is_line_end byte ≡ b
        → (b || list_any is_line_end (take n text)) ≡ false
        → (list_any is_line_end (take n text) ≡ false
        → position_or_len is_line_end text ≡ n + position_or_len is_line_end (drop n text))
        → position_or_len is_line_end (byte ∷ text)
        ≡ suc n + position_or_len is_line_end (drop n text)
    by true is none more = absurd cc
    by false is none more =
        omega (arith, later byte text is, more none)

-- no line feed is before the first
pub none_before : (text : List ℕ)
    → list_any is_line_end (take (position_or_len is_line_end text) text) ≡ false
none_before [] = refl
none_before (byte ∷ text) = by (is_line_end byte) refl (none_before text)
  where
    by : (b : Bool) → is_line_end byte ≡ b
        → list_any is_line_end (take (position_or_len is_line_end text) text) ≡ false
        → list_any is_line_end
        (take (position_or_len is_line_end (byte ∷ text)) (byte ∷ text)) ≡ false
    by true is more = ap (λ (n : ℕ). list_any is_line_end (take n (byte ∷ text)))
        (first byte text is)
    by false is more =
        ap (λ (n : ℕ). list_any is_line_end (take n (byte ∷ text))) (later byte text is)
        ∙ ap (λ (b : Bool). b || list_any is_line_end
        (take (position_or_len is_line_end text) text)) is
        ∙ more

-- the bytes up to the first line feed, and the line feed
pub up_to_end : (text : List ℕ) → position_or_len is_line_end text < length text
    → take (position_or_len is_line_end text + 1) text
    ≡ take (position_or_len is_line_end text) text ++ 10 ∷ []
up_to_end [] some = absurd (omega (arith, some))
up_to_end (byte ∷ text) some = by (is_line_end byte) refl some (up_to_end text)
  where
    at : ℕ
    at = position_or_len is_line_end text

    by : (b : Bool) → is_line_end byte ≡ b
        → position_or_len is_line_end (byte ∷ text) < suc (length text)
        → (at < length text → take (at + 1) text ≡ take at text ++ 10 ∷ [])
        → take (position_or_len is_line_end (byte ∷ text) + 1) (byte ∷ text)
        ≡ take (position_or_len is_line_end (byte ∷ text)) (byte ∷ text) ++ 10 ∷ []
    by true is some more =
        let none = first byte text is in
        ap (λ (n : ℕ). take (n + 1) (byte ∷ text)) none
        ∙ ap (λ (b : ℕ). b ∷ []) (eqb-true byte 10 is)
        ∙ sym (ap (λ (n : ℕ). take n (byte ∷ text) ++ 10 ∷ []) none)
    by false is some more =
        let next = later byte text is in
        let step : suc at + 1 ≡ suc (at + 1) = omega arith in
        ap (λ (n : ℕ). take (n + 1) (byte ∷ text)) next
        ∙ ap (λ (n : ℕ). take n (byte ∷ text)) step
        ∙ ap (λ (bytes : List ℕ). byte ∷ bytes) (more (omega (arith, some, next)))
        ∙ sym (ap (λ (n : ℕ). take n (byte ∷ text) ++ 10 ∷ []) next)

-- the same, from some place on
pub searched_more : (n from : ℕ) (text near : List ℕ) → from + n ≤ length text
    → near ≡ take n (drop from text) → list_any is_line_end near ≡ false
    → from + position_or_len is_line_end (drop from text)
    ≡ (from + n) + position_or_len is_line_end (drop (from + n) text)
searched_more n from text near few slice none =
    let part : list_any is_line_end (take n (drop from text)) ≡ false =
    ap (list_any is_line_end) (sym slice) ∙ none in
    let rest : drop n (drop from text) ≡ drop (from + n) text = drop-drop n from text in
    omega (
      arith,
      ends_behind n (drop from text) (omega (arith, few, length-drop from text)) part,
      ap (position_or_len is_line_end) rest,
    )
