-- Lines and rows of all boats.
use Rattle.std.proofs.Common.{◌≡◌, ℕ, ◌+◌, ◌<◌, List, [], ◌∷◌, ◌++◌, ap, ◌∙◌, arith, length}
use Rattle.std.proofs.Common.{map, get_or}
use Rattle.std.specs.List.{range_with_len}
use Rattle.std.proofs.lemmas.List.{get_or-map}
use Rattle.std.proofs.lemmas.List.FromFn.{length-map-range_with_len, get_or-map-range_with_len}
use Rattle.std.proofs.lemmas.List.FromFn.{map-range_with_len_more}
use Rattle.regatta_terms.specs.Rules.{RulesParts}
use Rattle.regatta_terms.specs.declared.sail.Sail.{Sail}
use Rattle.regatta_scores.specs.declared.boats.Place.{Place}
use Rattle.regatta_scores.specs.Ranking.{BoatScores, place, places}
use Rattle.regatta_scores.specs.Standing.{sorted_rows}
use Rattle.regatta_scores.specs.declared.boats.RaceScore.{RaceScore}
use Rattle.regatta_scores.specs.Lines.{line_by}
use Rattle.regatta_scores.specs.Lines.{row_by}
use Rattle.regatta_scores.specs.RaceScores.{scores_in}
use Rattle.regatta_board.specs.Table.{lines, no_line, no_rank, row_of, row_at, rows, rows_by}
use Rattle.regatta_board.proofs.Numbers.{map_range}

pub lines_more : (rules : RulesParts) (columns : List (List RaceScore)) (n : ℕ)
    → lines rules columns (n + 1) ≡ lines rules columns n ++ line_by rules (scores_in columns n)
    ∷ []
lines_more rules columns n =
    map-range_with_len_more (λ b. line_by rules (scores_in columns b)) 0 n n (omega arith)

pub lines_long : (rules : RulesParts) (columns : List (List RaceScore)) (n : ℕ)
    → length (lines rules columns n) ≡ n
lines_long rules columns n =
    length-map-range_with_len (λ b. line_by rules (scores_in columns b)) 0 n

pub rank_at : (rules : RulesParts) (columns : List (List RaceScore)) (n b : ℕ) (d : Place) → b < n
    → get_or (places (lines rules columns n)) b d
    ≡ place (lines rules columns n) (line_by rules (scores_in columns b))
rank_at rules columns n b d h =
    let all = lines rules columns n in
    let hers = line_by rules (scores_in columns b) in
    get_or-map (place all) all b hers d
    (let within : b < length all = omega (arith, lines_long rules columns n) in within)
    ∙ ap (place all) (get_or-map-range_with_len (λ b. line_by rules (scores_in columns b)) 0 n b b
    hers h (omega arith))

-- the line of one boat among all
pub line_at : (rules : RulesParts) (columns : List (List RaceScore)) (n b : ℕ) (d : BoatScores)
    → b < n
    → get_or (lines rules columns n) b d ≡ line_by rules (scores_in columns b)
line_at rules columns n b d h =
    get_or-map-range_with_len (λ b. line_by rules (scores_in columns b)) 0 n b b d h (omega arith)

-- the rows computed from the lines of the boats and their ranks are those of the table
pub rows_are : (rules : RulesParts) (sails : List Sail) (columns : List (List RaceScore))
    (ls : List BoatScores) (ps : List Place) → ls ≡ lines rules columns (length sails)
    → ps ≡ places ls → rows_by sails columns ls ps ≡ rows rules sails columns
rows_are rules sails columns ls ps e f =
    let n = length sails in
    let all = lines rules columns n in
    let same : ps ≡ places all = f ∙ ap places e in
    ap sorted_rows ((λ i. map (row_at sails columns (e i) (same i)) (range_with_len 0 n))
    ∙ map_range (row_at sails columns all (places all)) (row_of rules sails columns) 0 n
    (λ b low high. (let within : b < n = omega (arith, high) in
    λ i. row_by (get_or sails b []) (rank_at rules columns n b no_rank within i)
    (line_at rules columns n b no_line within i) (scores_in columns b))))
