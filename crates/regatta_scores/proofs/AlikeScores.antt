-- A line depends on no abbreviation.
use Rattle.std.proofs.Common.{◌≡◌, ℕ, suc, cond, List, [], ◌∷◌, refl, ap}
use Rattle.std.proofs.Common.{◌∙◌, sym, ◌+◌, ◌++◌, length, map, take, drop, nat_eq, None}
use Rattle.std.specs.List.{enumerate_from, remove}
use Rattle.std.proofs.lemmas.List.{length-map, take-map, drop-map, map-append}
use Rattle.regatta_scores.proofs.Counts.{sum_by-map}
use Rattle.regatta_scores.proofs.TiedTimes.{map_filter}
use Rattle.regatta_terms.specs.Rules.{RulesParts, exclusions_of}
use Rattle.regatta_scores.specs.declared.boats.Averaged.{Averaged}
use Rattle.regatta_scores.specs.declared.boats.Averaged.TheVariants.{OverNone, OverAll, OverBefore}
use Rattle.regatta_scores.specs.declared.boats.RaceScore.{RaceScore}
use Rattle.regatta_scores.specs.declared.boats.Scored.{Scored}
use Rattle.regatta_scores.specs.Averages.{average_over, is_own, points, redressed}
use Rattle.regatta_scores.specs.RedressLaws.{counted}
use Rattle.regatta_scores.proofs.AverageBounds.{average, total}
use Rattle.regatta_scores.specs.Exclusions.{excluded}
use Rattle.regatta_scores.specs.Lines.{line_by, scored_by}
use Rattle.regatta_scores.specs.RaceScores.{ScoresAs}

-- the score without its abbreviation
abbrev pub unmarked : RaceScore → RaceScore
unmarked score = record score { mark = None }

-- scores that a line takes alike differ in the abbreviation at most
pub unmarked_one : (one other : RaceScore) → ScoresAs one other → unmarked one ≡ unmarked other
unmarked_one one other alike = λ i. record {
  points = alike.points i;
  averaged = alike.averaged i;
  dne = alike.dne i;
  mark = None;
}

remove_unmarked : (scores : List RaceScore) (k : ℕ)
    → remove (map unmarked scores) k ≡ map unmarked (remove scores k)
remove_unmarked scores k =
    (λ i. take-map unmarked k scores i ++ drop-map unmarked (suc k) scores i)
    ∙ sym (map-append unmarked (take k scores) (drop (suc k) scores))

counted_unmarked : (scores : List RaceScore)
    → counted (map unmarked scores) ≡ map unmarked (counted scores)
counted_unmarked scores = map_filter unmarked (λ score. is_own score.averaged) scores

total_unmarked : (scores : List RaceScore) → total (map unmarked scores) ≡ total scores
total_unmarked scores = sum_by-map (λ score. score.points) unmarked scores

average_unmarked : (scores : List RaceScore) (plain : ℕ)
    → average_over (map unmarked scores) plain ≡ average_over scores plain
average_unmarked scores plain =
    let own = counted_unmarked scores in
    let many : length (counted (map unmarked scores)) ≡ length (counted scores) =
    ap length own ∙ length-map (counted scores) unmarked in
    let sum : total (counted (map unmarked scores)) ≡ total (counted scores) =
    ap total own ∙ total_unmarked (counted scores) in
    λ i. cond (nat_eq (many i) 0) plain (average (many i) (sum i))

redressed_unmarked : (scores : List RaceScore) (k own : ℕ) (averaged : Averaged)
    → redressed (map unmarked scores) k own averaged ≡ redressed scores k own averaged
redressed_unmarked scores k own OverNone = refl
redressed_unmarked scores k own OverAll =
    ap (λ xs. average_over xs own) (remove_unmarked scores k) ∙ average_unmarked (remove scores k) own
redressed_unmarked scores k own OverBefore =
    ap (λ xs. average_over xs own) (take-map unmarked k scores) ∙ average_unmarked (take k scores) own

points_unmarked : (scores : List RaceScore) → points (map unmarked scores) ≡ points scores
points_unmarked scores = from 0 scores
  where
    from : (k : ℕ) (rest : List RaceScore)
        → map (λ race. redressed (map unmarked scores) race.0 race.1.points race.1.averaged)
        (enumerate_from k (map unmarked rest))
        ≡ map (λ race. redressed scores race.0 race.1.points race.1.averaged)
        (enumerate_from k rest)
    from k [] = refl
    from k (s ∷ rest) =
        let here = redressed_unmarked scores k s.points s.averaged in
        let others = from (k + 1) rest in
        λ i. here i ∷ others i

scored_unmarked : (scores : List RaceScore) (ps : List ℕ)
    → scored_by (map unmarked scores) ps ≡ scored_by scores ps
scored_unmarked [] ps = refl
scored_unmarked (s ∷ scores) [] = refl
scored_unmarked (s ∷ scores) (p ∷ ps) =
    ap (λ (rest : List Scored). record { points = p; dne = s.dne } ∷ rest) (scored_unmarked scores ps)

-- a line is that of the scores without their abbreviations
pub line_unmarked : (rules : RulesParts) (scores : List RaceScore)
    → line_by rules (map unmarked scores) ≡ line_by rules scores
line_unmarked rules scores =
    let ps = points_unmarked scores in
    let long = length-map scores unmarked in
    let each : scored_by (map unmarked scores) (points (map unmarked scores))
    ≡ scored_by scores (points scores) =
    ap (scored_by (map unmarked scores)) ps ∙ scored_unmarked scores (points scores) in
    λ i. record {
      points = ps i;
      excluded = excluded (exclusions_of rules.thresholds (long i)) (each i);
    }
