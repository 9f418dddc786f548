-- Texts put together piece by piece.
use Rattle.std.proofs.Common.{◌≡◌, ℕ, ◌+◌, ◌<◌, ◌≤◌, List, [], ◌∷◌, ◌++◌, length, take, get_or}
use Rattle.std.proofs.Common.{ap, ◌∙◌, sym, append-nil, append_assoc, length-append, arith}
use Rattle.std.specs.List.{flat_map}
use Rattle.std.proofs.Math.Seq.{take-append_seam}
use Rattle.std.proofs.lemmas.List.{flat_map_more, take_more, take-take}
use Rattle.std.proofs.lemmas.List.Folds.{length-flat_map-take}
use denote.Ref.{Bor}

-- if the text of the next thing has no room, there was none for the texts of all of them
pub no_room : {X : Type 0} (f : X → List ℕ) (xs : List X) (i : ℕ) (x : X)
    (before text : List ℕ) (room cap old len : ℕ) → i < length xs → x ≡ get_or xs i x
    → text ≡ before ++ flat_map f (take i xs) → old ≡ length before → len ≡ length text
    → room ≤ cap → cap < len + length (f x) → room < old + length (flat_map f xs)
no_room f xs i x before text room cap old len below item so_far start end grown full =
    omega (
      arith,
      length-flat_map-take f xs i x below,
      ap (λ y. length (f y)) item,
      ap length so_far,
      length-append before (flat_map f (take i xs)),
    )

-- what begins with a longer text begins with its beginning
pub start_stays : (old more longer text : List ℕ) (a b : ℕ) → a ≡ length old → b ≡ length longer
    → longer ≡ old ++ more → take b text ≡ longer → take a text ≡ old
start_stays old more longer text a b first second is begins =
    let short : a ≤ b = omega (arith, ap length is, length-append old more) in
    sym (take-take a b text short) ∙ ap (take a) (begins ∙ is)
    ∙ ap (λ (n : ℕ). take n (old ++ more)) first ∙ take-append_seam old more

-- the text of the next thing makes the text of one thing more
pub text_more : {X : Type 0} (f : X → List ℕ) (xs : List X) (i : ℕ) (x : X)
    (start text new : List ℕ) → i < length xs → x ≡ get_or xs i x
    → text ≡ start ++ flat_map f (take i xs) → new ≡ text ++ f x
    → new ≡ start ++ flat_map f (take (i + 1) xs)
text_more f xs i x start text new below item so_far pushed =
    pushed ∙ ap (λ (t : List ℕ). t ++ f x) so_far ∙ flat_map_more f start (take i xs) x
    ∙ ap (λ y. start ++ flat_map f (take i xs ++ y ∷ [])) item
    ∙ ap (λ ys. start ++ flat_map f ys) (sym (take_more xs i x below))

-- if the next piece has no room, there was none for all of them
pub no_room_for_piece : (pieces : List (Bor (List ℕ))) (i : ℕ) (d : Bor (List ℕ))
    (before text : List ℕ) (room cap old len : ℕ) → i < length pieces
    → text ≡ before ++ flat_map (λ piece. piece.now) (take i pieces) → old ≡ length before
    → len ≡ length text → room ≤ cap → cap < len + length (get_or pieces i d).now
    → room < old + length (flat_map (λ piece. piece.now) pieces)
no_room_for_piece pieces i d before text room cap old len below so_far start end grown full =
    omega (
      arith,
      length-flat_map-take (λ (piece : Bor (List ℕ)). piece.now) pieces i d below,
      ap length so_far,
      length-append before (flat_map (λ piece. piece.now) (take i pieces)),
    )

-- two pieces, one after the other
pub two_pieces : (name value : List ℕ) → name ++ (value ++ []) ≡ name ++ value
two_pieces name value = ap (λ (t : List ℕ). name ++ t) (append-nil value)

-- two parts, one after the other
pub two_parts : (old a b one two : List ℕ) → one ≡ old ++ a → two ≡ one ++ b → two ≡ old ++ (a ++ b)
two_parts old a b one two first second =
    second ∙ ap (λ (t : List ℕ). t ++ b) first ∙ append_assoc old a b

-- three parts
pub three_parts : (old a b c one two three : List ℕ) → one ≡ old ++ a → two ≡ one ++ b
    → three ≡ two ++ c → three ≡ old ++ ((a ++ b) ++ c)
three_parts old a b c one two three first second third =
    two_parts old (a ++ b) c two three (two_parts old a b one two first second) third

-- four parts
pub four_parts : (old a b c d one two three four : List ℕ) → one ≡ old ++ a → two ≡ one ++ b
    → three ≡ two ++ c → four ≡ three ++ d → four ≡ old ++ (((a ++ b) ++ c) ++ d)
four_parts old a b c d one two three four first second third fourth =
    two_parts old ((a ++ b) ++ c) d three four
    (three_parts old a b c one two three first second third) fourth

-- five parts
pub five_parts : (old a b c d e one two three four five : List ℕ) → one ≡ old ++ a
    → two ≡ one ++ b → three ≡ two ++ c → four ≡ three ++ d → five ≡ four ++ e
    → five ≡ old ++ ((((a ++ b) ++ c) ++ d) ++ e)
five_parts old a b c d e one two three four five first second third fourth fifth =
    two_parts old (((a ++ b) ++ c) ++ d) e four five
    (four_parts old a b c d one two three four first second third fourth) fifth
