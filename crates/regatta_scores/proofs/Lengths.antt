-- A line has a score and a flag for each race.
use Rattle.std.proofs.Common.{◌≡◌, ℕ, List, ◌∙◌, length, zip, arith}
use Rattle.std.specs.List.{enumerate_from}
use Rattle.std.proofs.lemmas.List.{length-map}
use Rattle.std.proofs.lemmas.List.FromFn.{length-enumerate_from}
use Rattle.std.proofs.lemmas.Slice.Zip.{length-zip}
use Rattle.regatta_terms.specs.Rules.{RulesParts}
use Rattle.regatta_scores.specs.declared.boats.RaceScore.{RaceScore}
use Rattle.regatta_scores.specs.declared.boats.Scored.{Scored}
use Rattle.regatta_scores.specs.Averages.{points, redressed}
use Rattle.regatta_scores.specs.Exclusions.{excluded}
use Rattle.regatta_scores.specs.Lines.{line_by, scored_by}

pub long_zip : {X Y : Type 0} (xs : List X) (ys : List Y) → length ys ≡ length xs →
    length (zip xs ys) ≡ length xs
long_zip xs ys e = omega (arith, length-zip xs ys, e)

pub long_points : (scores : List RaceScore) → length (points scores) ≡ length scores
long_points scores =
    length-map (enumerate_from 0 scores)
    (λ (race : ℕ × RaceScore). redressed scores race.0 race.1.points race.1.averaged)
    ∙ length-enumerate_from 0 scores

pub long_scored : (scores : List RaceScore) (ps : List ℕ) → length ps ≡ length scores →
    length (scored_by scores ps) ≡ length scores
long_scored scores ps e = length-map (zip scores ps) _ ∙ long_zip scores ps e

pub long_excluded : (d : ℕ) (scores : List Scored) → length (excluded d scores) ≡ length scores
long_excluded d scores = length-map (enumerate_from 0 scores) _ ∙ length-enumerate_from 0 scores

pub long_flags : (rules : RulesParts) (scores : List RaceScore) →
    length (line_by rules scores).excluded ≡ length scores
long_flags rules scores =
    long_excluded _ (scored_by scores (points scores))
    ∙ long_scored scores (points scores) (long_points scores)
