-- Texts put together piece by piece.
use Rattle.std.proofs.Common.{◌≡◌, ℕ, ◌+◌, ◌<◌, ◌≤◌, List, [], ◌∷◌, ◌++◌, length, take, map, get_or}
use Rattle.std.proofs.Common.{ap, ◌∙◌, sym, append_assoc, append-nil, length-append, arith, codes}
use Rattle.std.specs.List.{join_with_byte, flat_map}
use Rattle.std.proofs.Math.Seq.{take-append_seam}
use Rattle.std.proofs.lemmas.List.{flat_map_more, take_more, take-take}
use Rattle.std.proofs.lemmas.List.Folds.{length-flat_map-take}
use Rattle.regatta_terms.specs.Words.{spaced}
use Rattle.regatta_terms.proofs.TextFacts.{no_room_for_words}
use Rattle.regatta_tables.specs.Lines.{line}
use denote.Ref.{Bor}

-- joined words are the first, and each other one after a space
pub joined : (first : List ℕ) (words : List (List ℕ))
    → join_with_byte 32 (first ∷ words) ≡ first ++ spaced words
joined first [] = sym (append-nil first)
joined first (w ∷ ws) = ap (λ (t : List ℕ). first ++ 32 ∷ t) (joined w ws)

-- if the next piece has no room, there was none for all of them
pub no_room : (pieces : List (Bor (List ℕ))) (i : ℕ) (d : Bor (List ℕ)) (before text : List ℕ)
    (room cap old len : ℕ) → i < length pieces
    → text ≡ before ++ flat_map (λ piece. piece.now) (take i pieces) → old ≡ length before
    → len ≡ length text → room ≤ cap → cap < len + length (get_or pieces i d).now
    → room < old + length (flat_map (λ piece. piece.now) pieces)
no_room pieces i d before text room cap old len below so_far start end grown full =
    omega (
      arith,
      length-flat_map-take (λ (piece : Bor (List ℕ)). piece.now) pieces i d below,
      ap length so_far,
      length-append before (flat_map (λ piece. piece.now) (take i pieces)),
    )

-- if the text of the next thing has no room, there was none for the texts of all of them
pub no_room_for_texts : {X : Type 0} (f : X → List ℕ) (xs : List X) (i : ℕ) (x : X)
    (before text : List ℕ) (room cap old len : ℕ) → i < length xs → x ≡ get_or xs i x
    → text ≡ before ++ flat_map f (take i xs) → old ≡ length before → len ≡ length text
    → room ≤ cap → cap < len + length (f x) → room < old + length (flat_map f xs)
no_room_for_texts f xs i x before text room cap old len below item so_far start end grown full =
    omega (
      arith,
      length-flat_map-take f xs i x below,
      ap (λ y. length (f y)) item,
      ap length so_far,
      length-append before (flat_map f (take i xs)),
    )

-- if the next word has no room, there was none for all of them
pub no_room_for_cells : {X : Type 0} (f : X → List ℕ) (xs : List X) (i : ℕ) (x : X)
    (before text : List ℕ) (room cap old len : ℕ) → i < length xs → x ≡ get_or xs i x
    → text ≡ before ++ spaced (map f (take i xs)) → old ≡ length before → len ≡ length text
    → room ≤ cap → cap < len + length (32 ∷ f x) → room < old + length (spaced (map f xs))
no_room_for_cells f xs i x before text room cap old len below item so_far start end grown full =
    no_room_for_words f xs i x before text room cap old len below so_far start end grown
    (omega (arith, ap (λ y. length (f y)) item))

-- the length of a line whose first three words are pieces
pub length_line : (a b c : List ℕ) (words : List (List ℕ))
    → length (line (a ∷ b ∷ c ∷ words))
    ≡ length a + length b + length c + length (spaced words) + 3
length_line a b c words = omega (
  arith,
  ap length (joined c words),
  length-append a (32 ∷ (b ++ 32 ∷ join_with_byte 32 (c ∷ words))),
  length-append b (32 ∷ join_with_byte 32 (c ∷ words)),
  length-append c (spaced words),
  length-append (join_with_byte 32 (a ∷ b ∷ c ∷ words)) (10 ∷ []),
)

-- the length of those pieces
pub length_pieces : (a b c : List ℕ)
    → length (a ++ (codes " " ++ (b ++ (codes " " ++ (c ++ [])))))
    ≡ length a + length b + length c + 2
length_pieces a b c = omega (
  arith,
  length-append a (codes " " ++ (b ++ (codes " " ++ (c ++ [])))),
  length-append b (codes " " ++ (c ++ [])),
  length-append c [],
)

-- the next piece makes the text of one piece more
pub pushed_piece : (pieces : List (Bor (List ℕ))) (i : ℕ) (d : Bor (List ℕ))
    (before text new : List ℕ) → i < length pieces
    → text ≡ before ++ flat_map (λ piece. piece.now) (take i pieces)
    → new ≡ text ++ (get_or pieces i d).now
    → new ≡ before ++ flat_map (λ piece. piece.now) (take (i + 1) pieces)
pushed_piece pieces i d before text new below so_far pushed =
    pushed ∙ ap (λ (t : List ℕ). t ++ (get_or pieces i d).now) so_far
    ∙ flat_map_more (λ (piece : Bor (List ℕ)). piece.now) before (take i pieces)
    (get_or pieces i d)
    ∙ ap (λ (ps : List (Bor (List ℕ))). before ++ flat_map (λ piece. piece.now) ps)
    (sym (take_more pieces i d below))

-- what begins with a longer text begins with its beginning
pub start_stays : (old more longer text : List ℕ) (a b : ℕ) → a ≡ length old → b ≡ length longer
    → longer ≡ old ++ more → take b text ≡ longer → take a text ≡ old
start_stays old more longer text a b first second is begins =
    let short : a ≤ b = omega (arith, ap length is, length-append old more) in
    sym (take-take a b text short) ∙ ap (take a) (begins ∙ is)
    ∙ ap (λ (n : ℕ). take n (old ++ more)) first ∙ take-append_seam old more

-- the text of the next thing makes the text of one thing more
pub text_more : {X : Type 0} (f : X → List ℕ) (xs : List X) (i : ℕ) (x : X)
    (start text new : List ℕ) → i < length xs → x ≡ get_or xs i x
    → text ≡ start ++ flat_map f (take i xs) → new ≡ text ++ f x
    → new ≡ start ++ flat_map f (take (i + 1) xs)
text_more f xs i x start text new below item so_far pushed =
    pushed ∙ ap (λ (t : List ℕ). t ++ f x) so_far ∙ flat_map_more f start (take i xs) x
    ∙ ap (λ y. start ++ flat_map f (take i xs ++ y ∷ [])) item
    ∙ ap (λ ys. start ++ flat_map f ys) (sym (take_more xs i x below))

-- a first text, words that are each preceded by a space, and a line feed
ended : (old first start text new : List ℕ) (words : List (List ℕ)) → start ≡ old ++ first
    → text ≡ start ++ spaced words → new ≡ text ++ 10 ∷ []
    → new ≡ ((old ++ first) ++ spaced words) ++ 10 ∷ []
ended old first start text new words begins goes ends = ends
    ∙ ap (λ (t : List ℕ). t ++ 10 ∷ []) (goes ∙ ap (λ (t : List ℕ). t ++ spaced words) begins)

-- a line whose first three words are pieces
pub line_of_pieces : (old a b c start text new : List ℕ) (words : List (List ℕ))
    → start ≡ old ++ (a ++ (codes " " ++ (b ++ (codes " " ++ (c ++ [])))))
    → text ≡ start ++ spaced words → new ≡ text ++ 10 ∷ [] → new ≡ old ++ line (a ∷ b ∷ c ∷ words)
line_of_pieces old a b c start text new words begins goes ends =
    rw (joined c words) (ended old _ start text new words begins goes ends
    ∙ simp (append_assoc, append-nil))

-- if the words after those pieces have no room, there was none for the line
pub no_room_for_rest : (old a b c start : List ℕ) (words : List (List ℕ))
    (room cap first len : ℕ)
    → start ≡ old ++ (a ++ (codes " " ++ (b ++ (codes " " ++ (c ++ [])))))
    → first ≡ length old → len ≡ length start → room ≤ cap → cap < len + length (spaced words)
    → room < first + length (line (a ∷ b ∷ c ∷ words))
no_room_for_rest old a b c start words room cap first len begins before so_far grown full = omega (
  arith,
  ap length begins,
  length-append old (a ++ (codes " " ++ (b ++ (codes " " ++ (c ++ []))))),
  length_pieces a b c,
  length_line a b c words,
)

-- if the line feed has no room, there was none for the line
pub no_room_for_end : (old a b c start text : List ℕ) (words : List (List ℕ))
    (room cap first len : ℕ)
    → start ≡ old ++ (a ++ (codes " " ++ (b ++ (codes " " ++ (c ++ [])))))
    → text ≡ start ++ spaced words → first ≡ length old → len ≡ length text → room ≤ cap
    → cap ≤ len → room < first + length (line (a ∷ b ∷ c ∷ words))
no_room_for_end old a b c start text words room cap first len begins goes before so_far grown full =
    omega (
      arith,
      ap length begins,
      ap length goes,
      length-append start (spaced words),
      length-append old (a ++ (codes " " ++ (b ++ (codes " " ++ (c ++ []))))),
      length_pieces a b c,
      length_line a b c words,
    )

-- a line is its first three words, the others after spaces, and a line feed
line_of_head : (a b c : List ℕ) (words : List (List ℕ))
    → (join_with_byte 32 (a ∷ b ∷ c ∷ []) ++ spaced words) ++ 10 ∷ []
    ≡ line (a ∷ b ∷ c ∷ words)
line_of_head a b c words = rw (joined c words) (simp append_assoc)

-- a line whose first three words are a head
pub headed : (old a b c head out page all : List ℕ) (words : List (List ℕ))
    → head ≡ join_with_byte 32 (a ∷ b ∷ c ∷ []) → out ++ page ≡ (old ++ head) ++ spaced words
    → all ≡ page ++ 10 ∷ [] → out ++ all ≡ old ++ line (a ∷ b ∷ c ∷ words)
headed old a b c head out page all words begins goes ends =
    ap (λ (t : List ℕ). out ++ t) ends ∙ sym (append_assoc out page (10 ∷ []))
    ∙ ap (λ (t : List ℕ). t ++ 10 ∷ []) (goes
    ∙ ap (λ (t : List ℕ). (old ++ t) ++ spaced words) begins
    ∙ append_assoc old (join_with_byte 32 (a ∷ b ∷ c ∷ [])) (spaced words))
    ∙ append_assoc old (join_with_byte 32 (a ∷ b ∷ c ∷ []) ++ spaced words) (10 ∷ [])
    ∙ ap (λ (t : List ℕ). old ++ t) (line_of_head a b c words)

-- the length of such a line
pub length_headed : (a b c : List ℕ) (words : List (List ℕ))
    → length (line (a ∷ b ∷ c ∷ words))
    ≡ length (join_with_byte 32 (a ∷ b ∷ c ∷ [])) + length (spaced words) + 1
length_headed a b c words = omega (
  arith,
  ap length (line_of_head a b c words),
  length-append (join_with_byte 32 (a ∷ b ∷ c ∷ [])) (spaced words),
  length-append (join_with_byte 32 (a ∷ b ∷ c ∷ []) ++ spaced words) (10 ∷ []),
)
