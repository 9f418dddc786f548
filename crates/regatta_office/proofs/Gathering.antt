-- The text for a piece is gathered and then written.
use Rattle.std.proofs.Common.{◌≡◌, ℕ, ◌+◌, ◌-◌, ◌<◌, ◌≤◌, length, Bool, true, false, List, []}
use Rattle.std.proofs.Common.{◌∷◌, ◌++◌, Option, Some, None, Result, Ok, Err, IfOk, IfSome, OnErr, sym}
use Rattle.std.proofs.Common.{ap, ◌∙◌, subst, append_assoc, arith, take, drop}
use Rattle.std.proofs.lemmas.List.{length-drop, take-append-drop, take_all}
use Rattle.std.proofs.Math.Seq.{take-add}
use Rattle.std.specs.List.{fold, list_any, position_or_len}
use Rattle.regatta_terms.specs.TextLines.{is_line_end}
use Rattle.regatta_talk.specs.HeardLines.{heard_with}
use Rattle.regatta_office.proofs.EndFacts.{none_before, up_to_end}
use Rattle.regatta_streams.specs.Texts.{AppendsPrefix}
use Rattle.regatta_office.specs.Coming.{Broke, Cuts, Point, Said, Stops, Took, Went, unless}
use Rattle.regatta_office.proofs.Streams.{bytes_heard, cut-then, prefix-longer, stop-none}
use Rattle.regatta_office.proofs.Streams.{stop-then, went-quit, went-then}

-- the first bytes of a piece, followed by the others
front_back : (n : ℕ) (piece rest : List ℕ)
    → take n piece ++ (drop n piece ++ rest) ≡ piece ++ rest
front_back n piece rest =
    sym (append_assoc (take n piece) (drop n piece) rest)
    ∙ ap (λ (bytes : List ℕ). bytes ++ rest) (take-append-drop n piece)

-- the slice of a piece after its first bytes
pub slice_behind : (n : ℕ) (piece : List ℕ) → take (length piece - n) (drop n piece) ≡ drop n piece
slice_behind n piece =
    take_all (length piece - n) (drop n piece) (omega (arith, length-drop n piece))

-- ---- a line of a piece, or a piece without one

-- no other byte of the line is an LF
pub whole_line : (piece : List ℕ) (n : ℕ) → n ≡ position_or_len is_line_end piece
    → list_any is_line_end (take n piece) ≡ false
whole_line piece n at = ap (λ (k : ℕ). list_any is_line_end (take k piece)) at ∙ none_before piece

-- no line ends in the piece
pub took_piece : (out : Option (List ℕ)) (before after : Point) (piece : List ℕ) (n : ℕ)
    → n ≡ position_or_len is_line_end piece → n ≡ length piece
    → after ≡ record before { line = fold heard_with before.line piece }
    → Went out out (take n piece) before after false
took_piece out before after piece n at whole is =
    let all : take n piece ≡ piece = take_all n piece (omega (arith, whole)) in
    let none : list_any is_line_end piece ≡ false = ap (list_any is_line_end) (sym all)
    ∙ ap (λ (k : ℕ). list_any is_line_end (take k piece)) at ∙ none_before piece in
    subst (λ (bytes : List ℕ). Went out out bytes before after false) (sym all)
    (bytes_heard out before after piece none is)

-- none of its bytes ends a line
pub none_ends : (piece : List ℕ) (n : ℕ) → n ≡ position_or_len is_line_end piece
    → n ≡ length piece → list_any is_line_end piece ≡ false
none_ends piece n at whole =
    ap (list_any is_line_end) (sym (take_all n piece (omega (arith, whole))))
    ∙ whole_line piece n at

-- a line and its LF
line_feed : (piece : List ℕ) (n : ℕ) → n ≡ position_or_len is_line_end piece → n < length piece
    → take (n + 1) piece ≡ take n piece ++ 10 ∷ []
line_feed piece n at some =
    ap (λ (k : ℕ). take (k + 1) piece) at ∙ up_to_end piece (omega (arith, at, some))
    ∙ ap (λ (k : ℕ). take k piece ++ 10 ∷ []) (sym at)

-- the line was taken, and the run goes on
pub took_line : (old new : Option (List ℕ)) (before after : Point) (piece : List ℕ) (n : ℕ)
    → n ≡ position_or_len is_line_end piece → n < length piece
    → Went old new (take n piece ++ 10 ∷ []) before after false
    → Went old new (take (n + 1) piece) before after false
took_line old new before after piece n at some went =
    subst (λ (bytes : List ℕ). Went old new bytes before after false)
    (sym (line_feed piece n at some)) went

-- or the line ended the run
pub took_quit : (old new : Option (List ℕ)) (before after : Point) (piece : List ℕ) (n : ℕ)
    → n ≡ position_or_len is_line_end piece → n < length piece
    → Went old new (take n piece ++ 10 ∷ []) before after true
    → Went old new piece before after true
took_quit old new before after piece n at some went =
    subst (λ (bytes : List ℕ). Went old new bytes before after true)
    (ap (λ (bytes : List ℕ). bytes ++ drop (n + 1) piece) (sym (line_feed piece n at some))
    ∙ take-append-drop (n + 1) piece)
    (went-quit old new (take n piece ++ 10 ∷ []) (drop (n + 1) piece) before after went)

-- ---- the write of what was gathered failed

-- what was gathered for some bytes
went-cut : (old new : Option (List ℕ)) (due bytes rest : List ℕ) (p q : Point) (quit : Bool)
    → Went (Some []) (Some due) bytes p q quit → AppendsPrefix old new due
    → Cuts old new p (bytes ++ rest)
went-cut old new due bytes rest p q quit u cut = subst (λ (s : Said). AppendsPrefix old new s.text)
    (sym (u.goes true rest))
    (prefix-longer old new u.written (unless quit true q rest).text
    (subst (AppendsPrefix old new) u.wrote cut))

-- what was gathered for a piece, as far as that was taken
pub gathered-cut : {E : Type 0} (old new : Option (List ℕ)) (due piece : List ℕ) (p q : Point)
    (r : Result (Option ℕ) E)
    → IfOk r (Took (Some []) (Some due) piece p q) → OnErr r (Broke (Some []) (Some due) piece p)
    → AppendsPrefix old new due → (rest : List ℕ) → Cuts old new p (piece ++ rest)
gathered-cut old new due piece p q (Ok (Some n)) u v cut rest = subst (Cuts old new p)
    (front_back n piece rest)
    (went-cut old new due (take n piece) (drop n piece ++ rest) p q false u cut)
gathered-cut old new due piece p q (Ok None) u v cut rest =
    went-cut old new due piece rest p q true u cut
gathered-cut old new due piece p q (Err e) u v cut rest = subst (Cuts old new p)
    (front_back v.count piece rest)
    (went-cut old new due (take v.count piece) (drop v.count piece ++ rest) p v.after false v.went
    cut)

-- ---- some bytes of a piece were taken, and then some of the rest

-- no more than there are
pub few_more : (taken n : ℕ) (piece rest : List ℕ) (count : Option ℕ) → rest ≡ drop taken piece
    → count ≡ Some n → taken ≤ length piece
    → IfSome count (λ n. (0 < n) × (n ≤ length rest)) → taken + n ≤ length piece
few_more taken n piece rest None same is few bounds = cc
few_more taken n piece rest (Some m) same is few bounds =
    let as_many : m ≡ n = cc in
    omega (arith, few, bounds.1, as_many, ap length same, length-drop taken piece)

module _ (a b c : Option (List ℕ)) (p q : Point) (taken : ℕ) (piece rest : List ℕ)
    (same : rest ≡ drop taken piece) (u : Went a b (take taken piece) p q false) where
  -- the run goes on
  pub went-more : (r : Point) (n : ℕ) (count : Option ℕ) → count ≡ Some n
      → Took b c rest q r count → Went a c (take (taken + n) piece) p r false
  went-more r n count is v =
      subst (λ (bytes : List ℕ). Went a c bytes p r false) (sym (take-add taken n piece))
      (went-then a b c (take taken piece) (take n (drop taken piece)) p q r false u
      (subst (λ (bytes : List ℕ). Went b c (take n bytes) q r false) same
      (subst (Took b c rest q r) is v)))

  -- the run ended
  pub went-ended : (r : Point) (count : Option ℕ) → count ≡ None → Took b c rest q r count
      → Went a c piece p r true
  went-ended r count is v =
      subst (λ (bytes : List ℕ). Went a c bytes p r true) (take-append-drop taken piece)
      (went-then a b c (take taken piece) (drop taken piece) p q r true u
      (subst (λ (bytes : List ℕ). Went b c bytes q r true) same
      (subst (Took b c rest q r) is v)))

  -- a write failed
  pub cut-more : ((text : List ℕ) → Cuts b c q (rest ++ text)) → (text : List ℕ)
      → Cuts a c p (piece ++ text)
  cut-more cut text =
      subst (Cuts a c p) (front_back taken piece text)
      (cut-then a b c (take taken piece) (drop taken piece ++ text) p q u
      (subst (λ (bytes : List ℕ). Cuts b c q (bytes ++ text)) same (cut text)))

  -- an allocation failed
  pub stop-more : Broke b c rest q → (text : List ℕ) → Stops a c p (piece ++ text)
  stop-more v text =
      subst (Stops a c p) (front_back taken piece text)
      (stop-then a b c (take taken piece) (drop taken piece ++ text) p q u
      (subst (λ (bytes : List ℕ). Stops b c q (bytes ++ text)) same
      (subst (Stops b c q) (front_back v.count rest text)
      (stop-then b c c (take v.count rest) (drop v.count rest ++ text) q v.after v.went
      (stop-none c v.after (drop v.count rest ++ text))))))
