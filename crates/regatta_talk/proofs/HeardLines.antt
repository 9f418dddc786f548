-- The buffered lines are those of the text, and each reads as its whole line.
use Rattle.std.proofs.Common.{◌≡◌, ℕ, ◌+◌, ◌-◌, ◌<◌, ◌≤◌, Bool, true, false, cond, List, []}
use Rattle.std.proofs.Common.{◌∷◌, ◌++◌}
use Rattle.std.proofs.Common.{length, take, drop, get_or, map, Err, refl, sym, ap, ◌∙◌, arith}
use Rattle.std.proofs.Common.{append-nil}
use Rattle.std.proofs.Common.{append_assoc}
use Rattle.std.specs.Prelude.{nat_le, nat_lt}
use Rattle.std.specs.List.{fold, slice_split, onto_first}
use Rattle.std.specs.Str.Lines.{strip_carriage_return}
use Rattle.std.proofs.lemmas.Bool.{cond-false, cond-true, lt-leb, lt-ltb, le-ltb, ltb-false, ltb-true}
use Rattle.std.proofs.lemmas.List.Sums.{fold-append, fold_more}
use Rattle.std.proofs.lemmas.List.{take-append-drop, length-append, length-take-le, take-append-le, take_all}
use Rattle.std.proofs.lemmas.List.Splits.{slice_split-cons_yes, slice_split-cons_no}
use Rattle.std.proofs.lemmas.List.Splits.{length-slice_split}
use Rattle.regatta_terms.specs.Lines.{line_of, line_of_words}
use Rattle.regatta_terms.specs.Words.{words}
use Rattle.regatta_terms.specs.declared.line.LineFault.TheVariants.{TooLong}
use Rattle.regatta_terms.specs.declared.limits.TheConstants.{MAX_LINE}
use Rattle.regatta_talk.specs.declared.cutter.TheConstants.{MAX_HEARD}
use Rattle.regatta_terms.specs.TextLines.{is_line_end, lines_of_pieces, lines_by}
use Rattle.regatta_talk.specs.HeardLines.{heard_with, heard_lines}

-- ---- a line longer than the limit and a CR is too long, and so is its buffered part

stays_long : (ends : Bool) (line : List ℕ) → MAX_LINE + 1 < length line
    → MAX_LINE < length (cond ends (take (length line - 1) line) line)
stays_long true line long = omega (
  arith,
  long,
  length-take-le (length line - 1) line (omega (arith, long)),
)
stays_long false line long = omega (arith, long)

too_long : (line : List ℕ) → MAX_LINE + 1 < length line → line_of line ≡ Err TooLong
unfolding line_of
too_long line long =
    cond-false (nat_le (length (strip_carriage_return line)) MAX_LINE)
    (line_of_words (words (strip_carriage_return line))) (Err TooLong)
    (lt-leb (length (strip_carriage_return line)) MAX_LINE (stays_long _ line long))

pub heard_reads : (line : List ℕ) → line_of (take MAX_HEARD line) ≡ line_of line
heard_reads line = by (nat_lt MAX_HEARD (length line)) refl
  where
    by : (b : Bool) → nat_lt MAX_HEARD (length line) ≡ b
        → line_of (take MAX_HEARD line) ≡ line_of line
    by true is =
        let long : MAX_HEARD < length line = ltb-true MAX_HEARD (length line) is in
        too_long (take MAX_HEARD line)
        (omega (arith, long, length-take-le MAX_HEARD line (omega (arith, long))))
        ∙ sym (too_long line (omega (arith, long)))
    by false is = ap line_of (take_all MAX_HEARD line (ltb-false MAX_HEARD (length line) is))

-- ---- the buffered part, byte by byte

heard_more : (line : List ℕ) (byte : ℕ)
    → heard_with (take MAX_HEARD line) byte ≡ take MAX_HEARD (line ++ byte ∷ [])
heard_more line byte = by (nat_lt (length line) MAX_HEARD) refl
  where
    by : (b : Bool) → nat_lt (length line) MAX_HEARD ≡ b
        → heard_with (take MAX_HEARD line) byte ≡ take MAX_HEARD (line ++ byte ∷ [])
    by true is =
        let short : length line < MAX_HEARD = ltb-true (length line) MAX_HEARD is in
        let whole : take MAX_HEARD line ≡ line = take_all MAX_HEARD line (omega (arith, short)) in
        ap (λ l. heard_with l byte) whole
        ∙ ap (λ b. cond b (line ++ byte ∷ []) line) is
        ∙ sym (take_all MAX_HEARD (line ++ byte ∷ [])
        (omega (arith, short, length-append line (byte ∷ []))))
    by false is =
        let full : MAX_HEARD ≤ length line = ltb-false (length line) MAX_HEARD is in
        let size : length (take MAX_HEARD line) ≡ MAX_HEARD = length-take-le MAX_HEARD line full in
        ap (λ b. cond b (take MAX_HEARD line ++ byte ∷ []) (take MAX_HEARD line))
        (le-ltb (length (take MAX_HEARD line)) MAX_HEARD (omega (arith, size)))
        ∙ sym (take-append-le MAX_HEARD line (byte ∷ []) full)

-- the pieces of a text that continues the line so far
abbrev onto : List ℕ → List (List ℕ) → List (List ℕ)
onto line [] = line ∷ []
onto line (piece ∷ pieces) = (line ++ piece) ∷ pieces

onto-none : (pieces : List (List ℕ)) → 0 < length pieces → onto [] pieces ≡ pieces
onto-none [] some = absurd (omega (arith, some))
onto-none (piece ∷ pieces) some = refl

onto-more : (line : List ℕ) (byte : ℕ) (pieces : List (List ℕ))
    → onto (line ++ byte ∷ []) pieces ≡ onto line (onto_first byte pieces)
onto-more line byte [] = refl
onto-more line byte (piece ∷ pieces) = ap (λ p. p ∷ pieces) (append_assoc line (byte ∷ []) piece)

some_piece : (text : List ℕ) → 0 < length (slice_split is_line_end text)
some_piece text = omega (arith, length-slice_split is_line_end text)

lines-cons : (counts : Bool) (piece : List ℕ) (pieces : List (List ℕ)) → 0 < length pieces
    → lines_of_pieces counts (piece ∷ pieces) ≡ piece ∷ lines_of_pieces counts pieces
lines-cons counts piece [] some = absurd (omega (arith, some))
lines-cons counts piece (next ∷ pieces) some = refl

heard_last : (counts : Bool) (line : List ℕ)
    → lines_of_pieces counts (take MAX_HEARD line ∷ [])
    ≡ map (take MAX_HEARD) (lines_of_pieces counts (line ∷ []))
heard_last true [] = refl
heard_last true (byte ∷ line) = refl
heard_last false [] = refl
heard_last false (byte ∷ line) = refl

heard_none : (counts : Bool) (line : List ℕ)
    → heard_lines counts line [] ≡ lines_of_pieces counts (line ∷ [])
unfolding heard_lines
heard_none counts line = refl

pub heard_end : (counts : Bool) (line : List ℕ) (byte : ℕ) (text : List ℕ) → is_line_end byte ≡ true
    → heard_lines counts line (byte ∷ text) ≡ line ∷ heard_lines counts [] text
unfolding heard_lines
heard_end counts line byte text is = ap (λ b. cond b (line ∷ heard_lines counts [] text)
    (heard_lines counts (heard_with line byte) text)) is

pub heard_byte : (counts : Bool) (line : List ℕ) (byte : ℕ) (text : List ℕ)
    → is_line_end byte ≡ false
    → heard_lines counts line (byte ∷ text) ≡ heard_lines counts (heard_with line byte) text
unfolding heard_lines
heard_byte counts line byte text is = ap (λ b. cond b (line ∷ heard_lines counts [] text)
    (heard_lines counts (heard_with line byte) text)) is

heard_from : (counts : Bool) (line text : List ℕ)
    → heard_lines counts (take MAX_HEARD line) text ≡ map (take MAX_HEARD)
    (lines_of_pieces counts (onto line (slice_split is_line_end text)))
heard_from counts line [] =
    heard_none counts (take MAX_HEARD line) ∙ heard_last counts line
    ∙ ap (λ (l : List ℕ). map (take MAX_HEARD) (lines_of_pieces counts (l ∷ [])))
    (sym (append-nil line))
heard_from counts line (byte ∷ text) = by (is_line_end byte) refl (heard_from counts [] text)
    (heard_from counts (line ++ byte ∷ []) text)
  where
    by : (b : Bool) → is_line_end byte ≡ b
        → heard_lines counts [] text ≡ map (take MAX_HEARD)
        (lines_of_pieces counts (onto [] (slice_split is_line_end text)))
        → heard_lines counts (take MAX_HEARD (line ++ byte ∷ [])) text
        ≡ map (take MAX_HEARD) (lines_of_pieces counts
        (onto (line ++ byte ∷ []) (slice_split is_line_end text)))
        → heard_lines counts (take MAX_HEARD line) (byte ∷ text)
        ≡ map (take MAX_HEARD) (lines_of_pieces counts
        (onto line (slice_split is_line_end (byte ∷ text))))
    by true is next more =
        let pieces = slice_split is_line_end text in
        heard_end counts (take MAX_HEARD line) byte text is
        ∙ ap (λ (ls : List (List ℕ)). take MAX_HEARD line ∷ ls)
        (next ∙ ap (λ (ps : List (List ℕ)). map (take MAX_HEARD) (lines_of_pieces counts ps))
        (onto-none pieces (some_piece text)))
        ∙ sym (ap (map (take MAX_HEARD)) (
        ap (λ (ps : List (List ℕ)). lines_of_pieces counts (onto line ps))
        (slice_split-cons_yes is_line_end byte text is)
        ∙ ap (λ (l : List ℕ). lines_of_pieces counts (l ∷ pieces)) (append-nil line)
        ∙ lines-cons counts line pieces (some_piece text)))
    by false is next more =
        let pieces = slice_split is_line_end text in
        heard_byte counts (take MAX_HEARD line) byte text is
        ∙ ap (λ (l : List ℕ). heard_lines counts l text) (heard_more line byte)
        ∙ more
        ∙ ap (λ (ps : List (List ℕ)). map (take MAX_HEARD) (lines_of_pieces counts ps))
        (onto-more line byte pieces ∙ ap (onto line)
        (sym (slice_split-cons_no is_line_end byte text is)))

-- the buffered lines of a whole text
pub heard_of_text : (counts : Bool) (text : List ℕ)
    → heard_lines counts [] text ≡ map (take MAX_HEARD) (lines_by counts text)
heard_of_text counts text =
    heard_from counts [] text
    ∙ ap (λ (ps : List (List ℕ)). map (take MAX_HEARD) (lines_of_pieces counts ps))
    (onto-none (slice_split is_line_end text) (some_piece text))

-- ---- bytes at once

-- a full buffer stays
full_with : (line : List ℕ) (byte : ℕ) → MAX_HEARD ≤ length line → heard_with line byte ≡ line
full_with line byte full = cond-false (nat_lt (length line) MAX_HEARD) (line ++ byte ∷ []) line
    (le-ltb (length line) MAX_HEARD full)

full_stays : (line bytes : List ℕ) → MAX_HEARD ≤ length line → fold heard_with line bytes ≡ line
full_stays line [] full = refl
full_stays line (byte ∷ bytes) full =
    ap (λ (l : List ℕ). fold heard_with l bytes) (full_with line byte full)
    ∙ full_stays line bytes full

-- what is full after some bytes is what is buffered of all of them
pub full_after : (before line bytes : List ℕ) (i : ℕ) → MAX_HEARD ≤ length line
    → line ≡ fold heard_with before (take i bytes) → line ≡ fold heard_with before bytes
full_after before line bytes i full is =
    sym (ap (fold heard_with before) (sym (take-append-drop i bytes))
    ∙ fold-append heard_with before (take i bytes) (drop i bytes)
    ∙ ap (λ (l : List ℕ). fold heard_with l (drop i bytes)) (sym is)
    ∙ full_stays line (drop i bytes) full)

-- one byte more is buffered
pub heard_next : (before line new bytes : List ℕ) (i d : ℕ) → i < length bytes
    → length line < MAX_HEARD → line ≡ fold heard_with before (take i bytes)
    → new ≡ line ++ get_or bytes i d ∷ [] → new ≡ fold heard_with before (take (i + 1) bytes)
heard_next before line new bytes i d below short is pushed =
    pushed ∙ sym (fold_more heard_with before bytes i d below
    ∙ ap (λ (l : List ℕ). heard_with l (get_or bytes i d)) (sym is)
    ∙ cond-true (nat_lt (length line) MAX_HEARD) (line ++ get_or bytes i d ∷ []) line
    (lt-ltb (length line) MAX_HEARD short))
