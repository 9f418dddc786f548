-- Lines, some of which are replaced by new ones.
use Rattle.std.proofs.Common.{◌≡◌, ℕ, ◌+◌, ◌<◌, ◌≤◌, arith, List, [], ◌∷◌, ◌++◌, refl, ap, ◌∙◌, sym}
use Rattle.std.proofs.Common.{length, drop, get_or, set, Option, Some, None}
use Rattle.std.proofs.Common.{IfSome, Bool, true, false, nat_lt}
use Rattle.std.specs.Option.{unwrap_or}
use Rattle.std.proofs.lemmas.List.{drop_more, append_assoc, append-nil}
use Rattle.std.proofs.lemmas.List.{length-append, get_or_append_left, get_or_push}
use borrow.Author.Tests.{ltb-true, ltb-false}
use Rattle.std.proofs.lemmas.List.Elements.{All-push}
use Rattle.std.proofs.Math.Seq.{set-append_seam, drop-length}
use Rattle.regatta_scores.specs.Ranking.{BoatScores}
use Rattle.regatta_scores.specs.declared.current.NewLine.{NewLine}
use Rattle.regatta_scores.specs.Current.{with_changed, AreInOrder, AreOfBoats, AreWithin}
use Rattle.regatta_board.specs.Scoring.{with_new}

-- the last new line is moved in last
changed_last : (olds : List BoatScores) (news : List NewLine) (new : NewLine)
    → with_changed olds (news ++ new ∷ []) ≡ set (with_changed olds news) new.boat new.line
changed_last olds [] new = refl
changed_last olds (n ∷ news) new = changed_last (set olds n.boat n.line) news new

-- the new line of one more boat is computed, or she keeps hers
pub changed_more : (olds : List BoatScores) (news : List NewLine) (done : List BoatScores)
    (b : ℕ) (d : BoatScores) (new : Option BoatScores) (hers : BoatScores) → length done ≡ b
    → b < length olds → with_changed olds news ≡ done ++ drop b olds
    → unwrap_or new (get_or olds b d) ≡ hers
    → with_changed olds (with_new news b new) ≡ (done ++ hers ∷ []) ++ drop (b + 1) olds
changed_more olds news done b d None hers long h e is =
    e ∙ ap (λ xs. done ++ xs) (drop_more olds b d h ∙ (λ i. is i ∷ drop (b + 1) olds))
    ∙ sym (append_assoc done (hers ∷ []) (drop (b + 1) olds))
changed_more olds news done b d (Some line) hers long h e is =
    let rest = drop (b + 1) olds in
    changed_last olds news (record { boat = b; line = line })
    ∙ ap (λ xs. set xs b line) (e ∙ ap (λ xs. done ++ xs) (drop_more olds b d h))
    ∙ ap (λ k. set (done ++ get_or olds b d ∷ rest) k line) (sym long)
    ∙ set-append_seam done (get_or olds b d) rest line
    ∙ (λ i. done ++ is i ∷ rest)
    ∙ sym (append_assoc done (hers ∷ []) rest)

-- at the end no boat's line is left over
pub changed_all : (olds done : List BoatScores) (n : ℕ) → n ≡ length olds
    → done ++ drop n olds ≡ done
changed_all olds done n e =
    ap (λ k. done ++ drop k olds) e ∙ ap (λ xs. done ++ xs) (drop-length olds) ∙ append-nil done

-- the new line of one more boat is that of a boat, and comes after those of the boats before
pub of_boats_more : (news : List NewLine) (b : ℕ) (new : Option BoatScores)
    → AreOfBoats b news → AreOfBoats (b + 1) (with_new news b new)
of_boats_more news b None are = (
  λ k d h. (let one = are.0 k d h in omega (arith, one)),
  are.1,
)
of_boats_more news b (Some line) are = (within, rising)
  where
    one : NewLine
    one = record { boat = b; line = line }

    earlier : (k : ℕ) (d : NewLine) → k < length news → get_or (news ++ one ∷ []) k d ≡ get_or news k d
    earlier k d h = get_or_append_left news (one ∷ []) d k h

    within : AreWithin (b + 1) (news ++ one ∷ [])
    within = All-push (λ (new : NewLine). new.boat < b + 1) news one
        (λ k d h. (let low = are.0 k d h in omega (arith, low))) (omega arith)

    rising : AreInOrder (news ++ one ∷ [])
    rising j k d h w = by (nat_lt k (length news)) refl
      where
        by : (t : Bool) → nat_lt k (length news) ≡ t
            → (get_or (news ++ one ∷ []) j d).boat < (get_or (news ++ one ∷ []) k d).boat
        by true e =
            let in_news = ltb-true k (length news) e in
            rw (earlier j d (omega (arith, h, in_news)), earlier k d in_news) (are.1 j k d h in_news)
        by false e =
            let last : k ≡ length news =
            omega (arith, w, length-append news (one ∷ []), ltb-false k (length news) e) in
            let low = are.0 j d (omega (arith, h, last)) in
            rw (earlier j d (omega (arith, h, last)), get_or_push news one d k (sym last)) low

-- boats before one are among more
pub of_more_boats : (few many : ℕ) (news : List NewLine) → few ≤ many → AreOfBoats few news
    → AreOfBoats many news
of_more_boats few many news h are = (λ k d w. (let one = are.0 k d w in omega (arith, one, h)), are.1)

pub new_few : (news : List NewLine) (b : ℕ) (new : Option BoatScores)
    → length (with_new news b new) ≤ length news + 1
new_few news b None = omega arith
new_few news b (Some line) =
    let one : NewLine = record { boat = b; line = line } in
    omega (arith, length-append news (one ∷ []))

-- a boat's current line is hers, whether it was recomputed or not
pub new_or_old : (new : Option BoatScores) (old hers : BoatScores) → (new ≡ None → old ≡ hers)
    → IfSome new (λ line. line ≡ hers) → unwrap_or new old ≡ hers
new_or_old None old hers stays made = stays refl
new_or_old (Some line) old hers stays made = made
