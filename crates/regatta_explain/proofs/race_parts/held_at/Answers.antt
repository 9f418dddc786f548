use Rattle.std.proofs.Common.{◌≡◌, ◌<◌, List, [], ap, arith, get_or, length, ◌∙◌}
use Rattle.std.proofs.lemmas.List.{get_or-map, get_or_read, length-map}
use Rattle.regatta_scores.specs.declared.details.Scoring.{Scoring}
use Rattle.regatta_scores.specs.Details.{scoring}
use Rattle.regatta_scores.specs.Journal.{entered, same_sail}
use Rattle.regatta_scores.specs.RacePoints.{journal_race}
use Rattle.regatta_board.specs.Details.{boat_at}
use Rattle.regatta_explain.specs.Explained.{held_part}
use Rattle.regatta_explain.specs.Made.{held_by, no_scoring}
use Rattle.regatta_explain.proofs.race_parts.held_at.Goals as goal

pub returns : goal.returns
unfolding held_by held_part
returns c =
    let rules = c.args.board.now.rules in
    let journal = c.args.board.now.entries in
    let n = c.args.number in
    let by = scoring same_sail rules (journal_race rules journal c.args.race) in
    let long : length c.args.scorings.now ≡ length (entered journal) =
    ap length c.requires.scorings ∙ length-map (entered journal) by in
    let within : n < length c.args.scorings.now = omega (arith, long, c.requires.number) in
    let hers : c.index-scorings-number.result ≡ by (boat_at (entered journal) n) =
    get_or_read c.args.scorings.now n c.index-scorings-number.result within
    c.index-scorings-number.is no_scoring
    ∙ ap (λ (all : List Scoring). get_or all n no_scoring) c.requires.scorings
    ∙ get_or-map by (entered journal) n [] no_scoring c.requires.number in
    c.held_part.ensures
    ∙ (λ i. held_by (c.boat.ensures i) (hers i) (c.seconds-seconds.ensures i))
