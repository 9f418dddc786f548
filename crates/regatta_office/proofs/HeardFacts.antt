-- Bytes of a line that are buffered one after another.
use Rattle.std.proofs.Common.{◌≡◌, ℕ, Bool, true, false, List, []}
use Rattle.std.proofs.Common.{◌∷◌, ◌++◌, ◌||◌, length, get_or, refl, sym, ap, ◌∙◌, arith}
use Rattle.std.proofs.Common.{map, Err}
use Rattle.regatta_terms.specs.Lines.{line_of_words}
use Rattle.regatta_terms.specs.declared.line.LineFault.TheVariants.{NoSuchWord}
use Rattle.std.specs.List.{fold, list_any}
use Rattle.std.specs.List.{slice_split, onto_first}
use Rattle.std.proofs.lemmas.List.Splits.{slice_split-cons_yes, slice_split-cons_no}
use Rattle.regatta_terms.specs.Lines.{line_of}
use Rattle.regatta_terms.specs.TextLines.{is_line_end, lines_of_pieces}
use Rattle.regatta_talk.specs.HeardLines.{heard, heard_with, heard_lines}
use Rattle.regatta_talk.proofs.HeardLines.{heard_byte, heard_end, heard_of_text, heard_reads}

-- bytes that end no line, and the rest of the text
pub bytes_lines : (counts : Bool) (line bytes text : List ℕ) → list_any is_line_end bytes ≡ false
    → heard_lines counts line (bytes ++ text)
    ≡ heard_lines counts (fold heard_with line bytes) text
bytes_lines counts line [] text none = refl
bytes_lines counts line (byte ∷ bytes) text none =
    by (is_line_end byte) refl none (bytes_lines counts (heard_with line byte) bytes text)
  where
    by : (b : Bool) → is_line_end byte ≡ b → (b || list_any is_line_end bytes) ≡ false
        → (list_any is_line_end bytes ≡ false
        → heard_lines counts (heard_with line byte) (bytes ++ text)
        ≡ heard_lines counts (fold heard_with (heard_with line byte) bytes) text)
        → heard_lines counts line (byte ∷ (bytes ++ text))
        ≡ heard_lines counts (fold heard_with (heard_with line byte) bytes) text
    by true is none more = absurd cc
    by false is none more = heard_byte counts line byte (bytes ++ text) is ∙ more none

-- a line and its LF are one line
one_piece : (bytes : List ℕ) → list_any is_line_end bytes ≡ false
    → slice_split is_line_end (bytes ++ 10 ∷ []) ≡ bytes ∷ [] ∷ []
one_piece [] none = slice_split-cons_yes is_line_end 10 [] refl
one_piece (byte ∷ bytes) none = by (is_line_end byte) refl none (one_piece bytes)
  where
    by : (b : Bool) → is_line_end byte ≡ b → (b || list_any is_line_end bytes) ≡ false
        → (list_any is_line_end bytes ≡ false
        → slice_split is_line_end (bytes ++ 10 ∷ []) ≡ bytes ∷ [] ∷ [])
        → slice_split is_line_end (byte ∷ (bytes ++ 10 ∷ [])) ≡ (byte ∷ bytes) ∷ [] ∷ []
    by true is none more = absurd cc
    by false is none more =
        slice_split-cons_no is_line_end byte (bytes ++ 10 ∷ []) is
        ∙ ap (onto_first byte) (more none)

no_line : heard_lines false [] [] ≡ []
unfolding heard_lines
no_line = refl

-- what would be buffered of a line reads as the line
pub whole_reads : (bytes : List ℕ) → list_any is_line_end bytes ≡ false
    → line_of (fold heard_with [] bytes) ≡ line_of bytes
whole_reads bytes none =
    let line : List ℕ = fold heard_with [] bytes in
    let lines : line ∷ [] ≡ map heard (lines_of_pieces false (bytes ∷ [] ∷ [])) =
    ap (λ (ls : List (List ℕ)). line ∷ ls) (sym no_line)
    ∙ sym (heard_end false line 10 [] refl)
    ∙ sym (bytes_lines false [] bytes (10 ∷ []) none)
    ∙ heard_of_text false (bytes ++ 10 ∷ [])
    ∙ ap (λ (ps : List (List ℕ)). map heard (lines_of_pieces false ps)) (one_piece bytes none)
    in
    ap (λ (ls : List (List ℕ)). line_of (get_or ls 0 [])) lines ∙ heard_reads bytes

-- a line without bytes
empty_reads : line_of [] ≡ Err NoSuchWord
unfolding line_of line_of_words
empty_reads = refl

pub nothing_reads : (line : List ℕ) → length line ≡ 0 → Err NoSuchWord ≡ line_of line
nothing_reads [] none = sym empty_reads
nothing_reads (byte ∷ line) none = absurd (omega (arith, none))

pub nothing : (line : List ℕ) → length line ≡ 0 → line ≡ []
nothing [] none = refl
nothing (byte ∷ line) none = absurd (omega (arith, none))
