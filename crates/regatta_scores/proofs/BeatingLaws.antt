-- Who beats whom: by rank, and by the last difference.
use Rattle.std.proofs.Common.{◌≡◌, ℕ, ◌<◌, cond, List, [], ◌∷◌, ◌++◌, ap, ◌∙◌, sym}
use Rattle.std.proofs.Common.{arith, reverse, append_assoc}
use Rattle.std.specs.Ordering.{nat_cmp, ordering_then, is_lt}
use Rattle.std.specs.declared.cmp.Ordering.TheVariants.{Less, Equal}
use Rattle.std.specs.Cmp.{tied_itself, nat_cmp_total}
use Rattle.std.specs.Cmp.Lexicographic.{slice_cmp, nat_list_cmp_total}
use Rattle.std.proofs.lemmas.List.{reverse-append}
use Rattle.std.proofs.lemmas.List.Sorted.{sum_by-IsPermutation}
use borrow.Author.Tests.{lt-ltb, ltb-true, ne_eqb}
use Rattle.regatta_scores.specs.Ranking.{net, best_to_worst, beats, rank}
use Rattle.regatta_scores.specs.BeatingLaws as law
use Rattle.regatta_scores.proofs.A8Cases.{is_less, then_lower}
use Rattle.regatta_scores.proofs.Ranked.{lower_rank}
use Rattle.regatta_scores.proofs.Ties.{beats_apart}

pub beating_is_ranking : law.BeatingIsRanking
beating_is_ranking = lower_rank

pub lowest_score_wins : law.LowestScoreWins
lowest_score_wins lines a b has_a has_b lower =
    let apart = ne_eqb (net a) (net b) (λ same. omega (arith, same, lower)) in
    ltb-true (rank lines a) (rank lines b)
    (sym (lower_rank lines a b has_a has_b) ∙ beats_apart a b apart ∙ lt-ltb (net a) (net b) lower)

pub entry_order_doesnt_count : law.EntryOrderDoesntCount
entry_order_doesnt_count lines others a moved =
    let same = sum_by-IsPermutation (λ other. cond (beats other a) 1 0) lines others moved in
    omega (arith, same)

-- ---- the last difference

cmp_first : (zs xs ys : List ℕ) (x y : ℕ) → x < y →
    slice_cmp nat_cmp (zs ++ x ∷ xs) (zs ++ y ∷ ys) ≡ Less
cmp_first [] xs ys x y h = ap (λ r. ordering_then r (slice_cmp nat_cmp xs ys)) (is_less x y h)
cmp_first (z ∷ zs) xs ys x y h =
    then_lower (nat_cmp z z) (slice_cmp nat_cmp (zs ++ x ∷ xs) (zs ++ y ∷ ys))
    (tied_itself nat_cmp_total z) (cmp_first zs xs ys x y h)

backwards : (early late : List ℕ) (x : ℕ) →
    reverse (early ++ x ∷ late) ≡ reverse late ++ x ∷ reverse early
backwards early late x =
    reverse-append early (x ∷ late) ∙ ap (λ l. l ++ reverse early) (reverse-append (x ∷ []) late)
    ∙ append_assoc (reverse late) (x ∷ []) (reverse early)

pub last_difference_decides : law.LastDifferenceDecides
last_difference_decides a b earlier others later x y nets bests is_a is_b h =
    let last : slice_cmp nat_cmp (reverse a.points) (reverse b.points) ≡ Less =
    (λ i. slice_cmp nat_cmp (reverse (is_a i)) (reverse (is_b i)))
    ∙ (λ i. slice_cmp nat_cmp (backwards earlier later x i) (backwards others later y i))
    ∙ cmp_first (reverse later) (reverse earlier) (reverse others) x y h in
    let one : nat_cmp (net a) (net b) ≡ Equal =
    ap (λ n. nat_cmp n (net b)) nets ∙ tied_itself nat_cmp_total (net b) in
    let two : slice_cmp nat_cmp (best_to_worst a) (best_to_worst b) ≡ Equal =
    ap (λ l. slice_cmp nat_cmp l (best_to_worst b)) bests
    ∙ tied_itself nat_list_cmp_total (best_to_worst b) in
    λ i. is_lt (ordering_then (one i) (ordering_then (two i) (last i)))
