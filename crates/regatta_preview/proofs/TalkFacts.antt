-- Lines taken one by one.
use Rattle.std.proofs.Common.{◌≡◌, ℕ, List, [], ◌∷◌, ◌++◌, length, refl, ap, sym, ◌∙◌, arith}
use Rattle.regatta_terms.specs.Lines.{line_of}
use Rattle.regatta_terms.specs.Rules.{RulesParts}
use Rattle.regatta_terms.specs.TextLines.{lines}
use Rattle.regatta_talk.specs.Replies.{asked_line, next_after}
use Rattle.regatta_talk.specs.declared.asked.AskedLine.{AskedLine}
use Rattle.regatta_talk.specs.declared.asked.Next.{Next}
use Rattle.regatta_talk.specs.declared.asked.Next.TheVariants.{Go, End}
use Rattle.regatta_preview.specs.declared.parts.LineReply.{LineReply}
use Rattle.regatta_preview.specs.Rests.{lines_after}
use Rattle.regatta_preview.specs.Talks.{Talk, Talked, preceded_by, reply_to, talk_after, talked}
use Rattle.regatta_preview.specs.Talks.{unless_ended}

-- replies before others, all in one list
pub preceded_more : (before : List LineReply) (reply : LineReply) (rest : Talked)
    → preceded_by before (preceded_by (reply ∷ []) rest) ≡ preceded_by (before ++ reply ∷ []) rest
preceded_more [] reply rest = refl
preceded_more (first ∷ before) reply rest =
    ap (λ (all : Talked). record { replies = first ∷ all.replies; journal = all.journal })
    (preceded_more before reply rest)

-- what comes of the lines that are left after a line
pub rest_is : (rules : RulesParts) (after : Talk) (next : Next) (rest : List (List ℕ))
    → unless_ended next after.journal (talked rules after rest)
    ≡ talked rules after (lines_after next rest)
unfolding talked
rest_is rules after Go rest = refl
rest_is rules after End rest = refl

-- one line more
pub line_more : (rules : RulesParts) (all : Talked) (before : List LineReply) (talk later : Talk)
    (text : List (List ℕ)) (line : List ℕ) (others : List (List ℕ)) (left : List (List ℕ))
    (asked : AskedLine) (reply : LineReply)
    → all ≡ preceded_by before (talked rules talk text) → text ≡ line ∷ others
    → asked ≡ asked_line (line_of line) → reply ≡ reply_to rules talk asked
    → later ≡ talk_after rules talk asked → left ≡ lines_after (next_after asked) others
    → all ≡ preceded_by (before ++ reply ∷ []) (talked rules later left)
unfolding talked
line_more rules all before talk later text line others left asked reply so_far cut is said after rest =
    so_far ∙ ap (λ (t : List (List ℕ)). preceded_by before (talked rules talk t)) cut
    ∙ ap (λ (a : AskedLine). preceded_by before (preceded_by (reply_to rules talk a ∷ [])
    (unless_ended (next_after a) (talk_after rules talk a).journal
    (talked rules (talk_after rules talk a) others)))) (sym is)
    ∙ preceded_more before (reply_to rules talk asked) _
    ∙ (λ i. preceded_by (before ++ sym said i ∷ [])
    (unless_ended (next_after asked) (sym after i).journal (talked rules (sym after i) others)))
    ∙ ap (preceded_by (before ++ reply ∷ []))
    (rest_is rules later (next_after asked) others
    ∙ ap (talked rules later) (sym rest))

-- all lines were taken
pub all_taken : (rules : RulesParts) (before : List LineReply) (talk : Talk) (left : List (List ℕ))
    → left ≡ []
    → preceded_by before (talked rules talk left)
    ≡ record { replies = before; journal = talk.journal }
unfolding talked
all_taken rules before talk left none =
    ap (λ (t : List (List ℕ)). preceded_by before (talked rules talk t)) none ∙ by before
  where
    by : (before : List LineReply) → preceded_by before (record { replies = []; journal = talk.journal })
        ≡ record { replies = before; journal = talk.journal }
    by [] = refl
    by (first ∷ before) =
        ap (λ (all : Talked). record { replies = first ∷ all.replies; journal = all.journal })
        (by before)

-- the empty text has no line
pub no_lines : (text : List ℕ) → ◌≡◌ {A = ℕ} (length text) 0 → lines text ≡ []
no_lines [] none = refl
no_lines (byte ∷ bytes) none = absurd (omega arith)
