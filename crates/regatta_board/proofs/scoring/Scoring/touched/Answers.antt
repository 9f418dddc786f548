use Rattle.std.proofs.Common.{◌≡◌, ◌∙◌, ap, arith, get_or, length}
use Rattle.std.proofs.lemmas.List.{get_or_default}
use Rattle.regatta_scores.specs.KeptRanking.{line_of}
use Rattle.regatta_scores.specs.Ranking.{net, place}
use Rattle.regatta_board.specs.Scoring.{Scoring}
use Rattle.regatta_board.specs.Table.{no_line}
use Rattle.regatta_board.proofs.scoring.Scoring.touched.Goals as goal

pub returns : goal.returns
returns c =
    let kept : c.self.inside.lines.items ≡ c.args.self.now.lines =
    ap (λ (s : Scoring). s.lines) c.self.view_is in
    let ls : c.deref.result.now ≡ c.args.self.now.lines = c.deref.ensures.value ∙ kept in
    let hers : c.net.result ≡ net (get_or c.args.self.now.lines c.args.boat no_line) =
    c.net.ensures
    ∙ ap net (c.index.ensures
    ∙ get_or_default c.self.inside.lines.items c.args.boat c.index.result.now no_line
    (omega (arith, c.requires.lines, ap length kept))
    ∙ ap (λ ls. get_or ls c.args.boat no_line) kept) in
    let placed = c.place-place.ensures ∙ ap (λ ls. place ls (line_of ls c.args.boat)) ls in
    λ i. record { rank = (placed i).rank; tied = (placed i).tied; net = hers i }
