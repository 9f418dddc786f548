-- Lists that are walked in parallel.
use Rattle.std.proofs.Common.{◌≡◌, ℕ, ◌+◌, ◌<◌, Bool, false, List, [], ◌∷◌, ◌++◌, refl, ap}
use Rattle.std.proofs.Common.{◌∙◌, sym, arith, length, map, zip, take, get_or}
use Rattle.std.proofs.lemmas.List.{get_or-map, length-map, take_more}
use Rattle.std.proofs.lemmas.Slice.Zip.{get_or-zip}
use Rattle.regatta_scores.specs.declared.boats.RaceScore.{RaceScore}
use Rattle.regatta_scores.specs.declared.boats.Scored.{Scored}
use Rattle.regatta_scores.specs.declared.table.Cell.{Cell}
use Rattle.regatta_scores.specs.Lines.{scored_by, cells}
use Rattle.regatta_scores.specs.RaceScores.{no_score, scores_in}
use Rattle.regatta_scores.specs.Redressing.{scored_with}
use Rattle.regatta_scores.proofs.Lengths.{long_zip}

-- one score for these points, and one cell
abbrev scored : ℕ → Bool → Scored
scored points dne = record { points = points; dne = dne }

abbrev cell : RaceScore → ℕ → Bool → Cell
cell score points dropped = record { points = points; mark = score.mark; dropped = dropped }

-- a boat's score in one of the races
pub score_at : (columns : List (List RaceScore)) (boat i : ℕ) (column : List RaceScore)
    (d : RaceScore) → i < length columns → column ≡ get_or columns i column
    → get_or column boat no_score ≡ get_or (scores_in columns boat) i d
score_at columns boat i column d h at =
    ap (λ (c : List RaceScore). get_or c boat no_score) at
    ∙ sym (get_or-map (λ (c : List RaceScore). get_or c boat no_score) columns i column d h)

pub long_in : (columns : List (List RaceScore)) (boat : ℕ)
    → length (scores_in columns boat) ≡ length columns
long_in columns boat = length-map columns (λ (c : List RaceScore). get_or c boat no_score)

-- a boat's scores for these points, with a list of which of them are DNEs
pub with_dnes : (ss : List RaceScore) (ps : List ℕ)
    → scored_with ps (map (λ (s : RaceScore). s.dne) ss) ≡ scored_by ss ps
with_dnes [] [] = refl
with_dnes [] (p ∷ ps) = refl
with_dnes (s ∷ ss) [] = refl
with_dnes (s ∷ ss) (p ∷ ps) = ap (λ xs. scored p s.dne ∷ xs) (with_dnes ss ps)

-- one more cell is appended
pub cell_more : (ss : List RaceScore) (ps : List ℕ) (fs : List Bool) (i : ℕ) (s : RaceScore) (p : ℕ)
    (hers : Cell) (old new : List Cell) → i < length ss → length ps ≡ length ss
    → length fs ≡ length ss → s ≡ get_or ss i s → p ≡ get_or ps i p
    → hers ≡ cell s p (get_or fs i false) → old ≡ take i (cells ss ps fs)
    → new ≡ old ++ hers ∷ [] → new ≡ take (i + 1) (cells ss ps fs)
cell_more ss ps fs i s p hers old new h k l at points is so_far more =
    let f = λ (race : RaceScore × (ℕ × Bool)). cell race.0 race.1.0 race.1.1 in
    let pairs = zip ps fs in
    let even : length fs ≡ length ps = l ∙ sym k in
    let long : length pairs ≡ length ss = long_zip ps fs even ∙ k in
    let within : i < length (zip ss pairs) = omega (arith, h, long_zip ss pairs long) in
    let in_points : i < length ps = omega (arith, h, k) in
    let one : get_or (cells ss ps fs) i hers ≡ hers =
    get_or-map f (zip ss pairs) i (s, (p, false)) hers within
    ∙ ap f (get_or-zip ss pairs i (s, (p, false)) h (omega (arith, h, long))
    ∙ (λ j. (sym at j, get_or-zip ps fs i (p, false) in_points (omega (arith, in_points, even)) j)))
    ∙ (λ j. cell s (sym points j) (get_or fs i false)) ∙ sym is in
    more ∙ (λ j. so_far j ++ sym one j ∷ [])
    ∙ sym (take_more (cells ss ps fs) i hers
    (let all : i < length (cells ss ps fs) = omega (arith, within, length-map (zip ss pairs) f) in all))

pub long_cells : (ss : List RaceScore) (ps : List ℕ) (fs : List Bool) → length ps ≡ length ss
    → length fs ≡ length ss → length (cells ss ps fs) ≡ length ss
long_cells ss ps fs k l =
    length-map (zip ss (zip ps fs)) (λ (race : RaceScore × (ℕ × Bool)). cell race.0 race.1.0 race.1.1)
    ∙ long_zip ss (zip ps fs) (long_zip ps fs (l ∙ sym k) ∙ k)
