-- Numbers as digits.
use Rattle.std.proofs.Common.{◌≡◌, ℕ, ◌+◌, ◌<◌, ◌≤◌, ◌/◌, ◌%◌, List, [], ◌∷◌, ◌++◌, decimal}
use Rattle.std.proofs.Common.{sym, ap, ◌∙◌, append_assoc, arith}
use Rattle.std.proofs.Common.{map, get_or, ◌*◌, refl}
use Rattle.std.specs.List.{range_with_len}
use Rattle.std.proofs.lemmas.Fmt.{decimal_digit, decimal_step}
use Rattle.std.proofs.lemmas.List.FromFn.{get_or-map-range_with_len}
use Rattle.regatta_tables.specs.declared.page.TheConstants.{PAIRS}

-- a digit is its own text
pub one_digit : (n : ℕ) → n < 10 → decimal n ≡ (48 + n) ∷ []
one_digit n few = decimal_digit n few

pub digit_text : (n : ℕ) → decimal (n % 10) ≡ (48 + n % 10) ∷ []
digit_text n = decimal_digit (n % 10) (omega arith)

-- a number of two digits
pub two_digits : (n : ℕ) → 10 ≤ n → n < 100
    → decimal n ≡ decimal (n / 10) ++ decimal (n % 10)
two_digits n more few = decimal_step n more (omega (arith, few))
    ∙ ap (λ (t : List ℕ). decimal (n / 10) ++ t) (sym (digit_text n))

-- a number of three digits or four
pub four_digits : (n : ℕ) → 100 ≤ n → n < 10000
    → decimal n ≡ decimal (n / 100) ++ (decimal (n % 100 / 10) ++ decimal (n % 100 % 10))
four_digits n more few =
    let hundreds : n / 10 / 10 ≡ n / 100 = omega arith in
    let tens : n / 10 % 10 ≡ n % 100 / 10 = omega arith in
    let ones : n % 10 ≡ n % 100 % 10 = omega arith in
    let ten : decimal (n % 100 / 10) ≡ (48 + n / 10 % 10) ∷ [] =
    decimal_digit (n % 100 / 10) (omega arith) ∙ ap (λ (d : ℕ). (48 + d) ∷ []) (sym tens) in
    let one : decimal (n % 100 % 10) ≡ (48 + n % 10) ∷ [] =
    digit_text (n % 100) ∙ ap (λ (d : ℕ). (48 + d) ∷ []) (sym ones) in
    decimal_step n (omega (arith, more)) (omega (arith, few))
    ∙ ap (λ (t : List ℕ). t ++ (48 + n % 10) ∷ [])
    (decimal_step (n / 10) (omega (arith, more)) (omega (arith, few)))
    ∙ append_assoc (decimal (n / 10 / 10)) ((48 + n / 10 % 10) ∷ []) ((48 + n % 10) ∷ [])
    ∙ (λ i. decimal (hundreds i) ++ (sym ten i ++ sym one i))

-- the digits of a number of one, of two and of three
pub number_of_one : (n : ℕ) → n < 10 → decimal n ≡ (48 + n % 10) ∷ []
number_of_one n few =
    let same : n ≡ n % 10 = omega (arith, few) in
    one_digit n few ∙ ap (λ (d : ℕ). (48 + d) ∷ []) same

pub number_of_two : (n : ℕ) → 10 ≤ n → n < 100
    → decimal n ≡ (48 + n / 10 % 10) ∷ (48 + n % 10) ∷ []
number_of_two n more few =
    two_digits n more few
    ∙ (λ i. number_of_one (n / 10) (omega (arith, few)) i ++ digit_text n i)

pub number_of_three : (n : ℕ) → 100 ≤ n → n < 1000
    → decimal n ≡ (48 + n / 100) ∷ (48 + n / 10 % 10) ∷ (48 + n % 10) ∷ []
number_of_three n more few =
    let tens : n % 100 / 10 % 10 ≡ n / 10 % 10 = omega arith in
    let ones : n % 100 % 10 % 10 ≡ n % 10 = omega arith in
    four_digits n more (omega (arith, few))
    ∙ (λ i. one_digit (n / 100) (omega (arith, few)) i
    ++ (number_of_one (n % 100 / 10) (omega arith) i ++ number_of_one (n % 100 % 10) (omega arith) i))
    ∙ (λ i. (48 + n / 100) ∷ (48 + tens i) ∷ (48 + ones i) ∷ [])

-- the pair of digits that the table has for a number
abbrev pub pair_at : ℕ → List ℕ
pair_at n = get_or PAIRS (n * 2) 0 ∷ get_or PAIRS (n * 2 + 1) 0 ∷ []

abbrev two_of : ℕ → List ℕ
two_of n = (48 + n / 10) ∷ (48 + n % 10) ∷ []

all_pairs : map pair_at (range_with_len 0 100) ≡ map two_of (range_with_len 0 100)
all_pairs = refl

pub pair_of : (n : ℕ) → n < 100 → pair_at n ≡ decimal (n / 10) ++ decimal (n % 10)
pair_of n few =
    sym (get_or-map-range_with_len pair_at 0 100 n n [] few (omega arith))
    ∙ ap (λ (pairs : List (List ℕ)). get_or pairs n []) all_pairs
    ∙ get_or-map-range_with_len two_of 0 100 n n [] few (omega arith)
    ∙ (λ i. sym (one_digit (n / 10) (omega (arith, few))) i ++ sym (digit_text n) i)
