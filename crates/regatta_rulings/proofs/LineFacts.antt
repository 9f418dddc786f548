-- Words of lines of decisions.
use Rattle.std.proofs.Common.{◌≡◌, ℕ, ◌+◌, ◌<◌, ◌≤◌, Bool, true, false, not, cond, List}
use Rattle.std.proofs.Common.{[], ◌∷◌, length, take, drop, get_or, ap, Option, Some, None, refl, sym}
use Rattle.std.proofs.Common.{◌∙◌, arith, map, Result, Ok, Err}
use Rattle.std.specs.Prelude.{is_some, nat_le, nat_lt, slice_index_or, if◌then◌else◌}
use Rattle.std.specs.List.{position, position_or_len}
use Rattle.std.specs.Str.{str_to_ascii_uppercase}
use Rattle.std.proofs.lemmas.Bool.{lt-ltb}
use Rattle.std.proofs.lemmas.Bool.Decides.{nat_tests}
use Rattle.std.proofs.lemmas.List.{length-map, take_all, length-take, drop-map, take-map, get_or-map}
use denote.Ref.{Bor}
use Rattle.regatta_terms.specs.Sails.{is_sail, sail_of}
use Rattle.regatta_terms.proofs.Cuts.{shown}
use Rattle.regatta_rulings.specs.declared.decision.Decision.{Decision}
use Rattle.regatta_rulings.specs.declared.fault.DecisionFault.{DecisionFault}
use Rattle.regatta_rulings.specs.declared.fault.DecisionFault.TheVariants.{TooLong}
use Rattle.regatta_rulings.specs.declared.kind.Kind.{Kind}
use Rattle.regatta_rulings.specs.DecisionLines.{decision_at, decision_by, decision_named, decision_of}
use Rattle.regatta_rulings.specs.DecisionLines.{decision_or_none, kind_of, kind_place}
use Rattle.regatta_rulings.specs.DecisionWords.{without_note, words_of}
use Rattle.regatta_rulings.proofs.WordFacts.{length-shown-take}

-- a text of more than 160 bytes is no sail
pub long_is_no_sail : (text : List ℕ) → nat_le (length text) 160 ≡ false → sail_of text ≡ None
long_is_no_sail text long =
    let same : length (str_to_ascii_uppercase text) ≡ length text = length-map text _ in
    let long_raised : nat_le (length (str_to_ascii_uppercase text)) 12 ≡ false =
    grind (arith, nat_tests) in
    grind (arith, nat_tests)

-- more than 60 words are too many
pub too_long : (line text : List ℕ) (slots : List (Bor (List ℕ))) (n : ℕ)
    → text ≡ without_note line → shown (take n slots) ≡ take 64 (words_of text)
    → length slots ≡ 64 → n ≤ 64 → 60 < n → Err TooLong ≡ decision_of line
too_long line text slots n noted found all most many =
    let words = words_of (without_note line) in
    let here : shown (take n slots) ≡ take 64 words =
    found ∙ ap (λ (t : List ℕ). take 64 (words_of t)) noted in
    let long : 60 < length words = omega (
      arith,
      length-shown-take slots n (omega arith),
      length-take 64 words,
      ap length here,
    ) in
    sym (ap (λ (b : Bool). if b then Err TooLong else decision_or_none words)
    (lt-ltb 60 (length words) long))

-- at most 60 are all among the first 64
pub not_long : (line text : List ℕ) (slots : List (Bor (List ℕ))) (n : ℕ)
    (r : Result (Option Decision) DecisionFault)
    → text ≡ without_note line → shown (take n slots) ≡ take 64 (words_of text)
    → length slots ≡ 64 → n ≤ 60 → r ≡ decision_or_none (shown (take n slots))
    → r ≡ decision_of line
not_long line text slots n r noted found all few read =
    let words = words_of (without_note line) in
    let here : shown (take n slots) ≡ take 64 words =
    found ∙ ap (λ (t : List ℕ). take 64 (words_of t)) noted in
    let short : length words ≤ 60 = omega (
      arith,
      length-shown-take slots n (omega arith),
      length-take 64 words,
      ap length here,
    ) in
    let same : shown (take n slots) ≡ words = here ∙ take_all 64 words (omega arith) in
    let not_many : nat_lt 60 (length words) ≡ false = grind (arith, nat_tests) in
    read ∙ ap decision_or_none same
    ∙ sym (ap (λ (b : Bool). if b then Err TooLong else decision_or_none words) not_many)

-- ---- the word that is a kind

place_shown : (p : List ℕ → Bool) (words : List (Bor (List ℕ)))
    → position_or_len (λ word. p word.now) words ≡ position_or_len p (shown words)
place_shown p [] = refl
place_shown p (word ∷ words) = by (p word.now) (place_shown p words)
  where
    by : (b : Bool)
        → position_or_len (λ word. p word.now) words ≡ position_or_len p (shown words)
        → cond (not b) (1 + position_or_len (λ word. p word.now) words) 0
        ≡ cond (not b) (1 + position_or_len p (shown words)) 0
    by true rest = refl
    by false rest = ap (λ (n : ℕ). 1 + n) rest

pub kind_place_shown : (words : List (Bor (List ℕ)))
    → position (λ word. is_some (kind_of word.now)) words ≡ kind_place (shown words)
kind_place_shown words =
    let same = place_shown (λ word. is_some (kind_of word)) words in
    let long : length words ≡ length (shown words) = sym (length-map words (λ word. word.now)) in
    λ i. cond (nat_lt (same i) (long i)) (Some (same i)) None

-- the decision of words, from those that are a sail and those that a kind takes
pub in_parts : (race at : ℕ) (words : List (Bor (List ℕ))) (d : Bor (List ℕ)) (kind : Kind)
    (r : Result Decision DecisionFault)
    → kind_place (shown (drop 1 words)) ≡ Some at → at + 1 < length words
    → kind_of (get_or words (at + 1) d).now ≡ Some kind
    → r ≡ decision_named race kind (shown (take (at + 1) words)) (shown (drop (at + 2) words))
    → r ≡ decision_by race (shown words) (kind_place (drop 1 (shown words)))
in_parts race at words d kind r placed within named read =
    let first : kind_place (drop 1 (shown words)) ≡ Some at =
    ap kind_place (drop-map (λ (word : Bor (List ℕ)). word.now) 1 words) ∙ placed in
    let word : slice_index_or (shown words) (at + 1) [] ≡ (get_or words (at + 1) d).now =
    get_or-map (λ (word : Bor (List ℕ)). word.now) words (at + 1) d [] within in
    read
    ∙ ap (λ (sail : List (List ℕ)). decision_named race kind sail (shown (drop (at + 2) words)))
    (sym (take-map (λ (word : Bor (List ℕ)). word.now) (at + 1) words))
    ∙ ap (decision_named race kind (take (at + 1) (shown words)))
    (sym (drop-map (λ (word : Bor (List ℕ)). word.now) (at + 2) words))
    ∙ sym (ap (decision_at race (shown words) at) (ap kind_of word ∙ named))
    ∙ sym (ap (decision_by race (shown words)) first)
