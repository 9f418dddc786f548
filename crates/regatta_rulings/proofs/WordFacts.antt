-- Lines of decisions as words.
use Rattle.std.proofs.Common.{◌≡◌, ℕ, ◌+◌, ◌-◌, ◌≤◌, ◌<◌, Bool, true, false, List, [], ◌∷◌, length}
use Rattle.std.proofs.Common.{take, Option, Some, None, ◌++◌, map, refl, sym, ap, ◌∙◌, arith}
use Rattle.std.proofs.Common.{append-nil, MatchOption, get_or}
use Rattle.std.specs.Prelude.{◌==◌}
use Rattle.std.specs.List.{concat, flat_map, slice_split}
use Rattle.std.proofs.lemmas.List.{take_rest, take-append-le, take_all, length-map, length-take, take_more}
use Rattle.std.proofs.lemmas.List.{flat_map_more}
use Rattle.std.proofs.lemmas.List.Concat.{concat_is}
use Rattle.std.proofs.lemmas.List.Folds.{length-flat_map-take}
use denote.Ref.{Bor}
use Rattle.regatta_terms.proofs.Cuts.{shown}
use Rattle.regatta_rulings.specs.DecisionWords.{is_blank, without_note, words_of}

pub before_note : (line part : List ℕ) (after : Option (Bor (List ℕ)))
    → MatchOption after (slice_split (λ b. b == 35) line ≡ part ∷ [])
    (λ rest. slice_split (λ b. b == 35) line ≡ part ∷ slice_split (λ b. b == 35) rest.now)
    → part ≡ without_note line
before_note line part None parts = rw parts refl
before_note line part (Some rest) parts = rw parts refl

-- the words of the text that is still to be cut
abbrev pub words_left : Option (Bor (List ℕ)) → List (List ℕ)
words_left None = []
words_left (Some text) = words_of text.now

pub length-shown-take : (ps : List (Bor (List ℕ))) (n : ℕ) → n ≤ length ps
    → length (shown (take n ps)) ≡ n
length-shown-take ps n below = omega (
  arith,
  length-map (take n ps) (λ word. word.now),
  length-take n ps,
)

-- the first 64 words, when all slots are full or when no text is left
pub all_slots : (ps : List (Bor (List ℕ))) (n : ℕ) (left whole : List (List ℕ)) → length ps ≡ 64
    → n ≡ 64 → shown (take n ps) ++ left ≡ whole → shown (take n ps) ≡ take 64 whole
all_slots ps n left whole slots full found =
    let len = length-shown-take ps n (omega arith) in
    sym (ap (take 64) (sym found) ∙ take-append-le 64 (shown (take n ps)) left (omega arith)
    ∙ take_all 64 (shown (take n ps)) (omega arith))

pub all_words : (ps : List (Bor (List ℕ))) (n : ℕ) (whole : List (List ℕ)) → length ps ≡ 64
    → n ≤ 64 → shown (take n ps) ++ [] ≡ whole → shown (take n ps) ≡ take 64 whole
all_words ps n whole slots fits found =
    let len = length-shown-take ps n (omega arith) in
    sym (ap (take 64) (sym found ∙ append-nil (shown (take n ps)))
    ∙ take_all 64 (shown (take n ps)) (omega arith))

-- ---- words that are joined

joined_of : {X : Type 0} (f : X → List ℕ) (xs : List X) → concat (map f xs) ≡ flat_map f xs
joined_of {X = X} f xs = concat_is (map f xs) ∙ go xs
  where
    go : (xs : List X) → flat_map (λ (word : List ℕ). word) (map f xs) ≡ flat_map f xs
    go [] = refl
    go (x ∷ xs) = ap (λ (rest : List ℕ). f x ++ rest) (go xs)

-- the words so far, with one more
pub joined_more : (words : List (Bor (List ℕ))) (i : ℕ) (d : Bor (List ℕ)) (before after : List ℕ)
    → i < length words → before ≡ concat (shown (take i words))
    → after ≡ before ++ (get_or words i d).now → after ≡ concat (shown (take (i + 1) words))
joined_more words i d before after below so_far more =
    more
    ∙ ap (λ (text : List ℕ). text ++ (get_or words i d).now)
    (so_far ∙ joined_of (λ word. word.now) (take i words))
    ∙ flat_map_more (λ (word : Bor (List ℕ)). word.now) [] (take i words) (get_or words i d)
    ∙ sym (ap (flat_map (λ (word : Bor (List ℕ)). word.now)) (take_more words i d below))
    ∙ sym (joined_of (λ word. word.now) (take (i + 1) words))

-- if one word has no room, there is none for all
pub no_room : (words : List (Bor (List ℕ))) (i : ℕ) (d : Bor (List ℕ)) (before : List ℕ)
    → i < length words → before ≡ concat (shown (take i words))
    → 160 < length before + length (get_or words i d).now
    → 160 < length (concat (shown words))
no_room words i d before below so_far full = omega (
  arith,
  length-flat_map-take (λ (word : Bor (List ℕ)). word.now) words i d below,
  ap length so_far,
  ap length (joined_of (λ word. word.now) (take i words)),
  ap length (joined_of (λ word. word.now) words),
)
