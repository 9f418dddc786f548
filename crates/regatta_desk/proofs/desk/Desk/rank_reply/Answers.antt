use Rattle.std.proofs.Common.{ap, ◌∙◌}
use Rattle.regatta_board.specs.Answers.{rank_of}
use Rattle.regatta_board.specs.BoardFacts.{BoardValue}
use Rattle.regatta_talk.specs.Replies.{ranked}
use Rattle.regatta_desk.specs.Desks.{DeskValue}
use Rattle.regatta_desk.proofs.desk.Desk.rank_reply.Goals as goal

-- the look changed nothing
pub returns-clause-replied : goal.returns-clause-replied
returns-clause-replied g c =
    let board = c.board.ensures.board in
    let rules = ap (λ (b : BoardValue). b.rules) board ∙ c.board.ensures.rules in
    let entries = ap (λ (b : BoardValue). b.entries) board
    ∙ ap (λ (d : DeskValue). d.entries) c.cover.ensures.same.0 in (
      c.cover.ensures.same.0,
      c.cover.ensures.same.1,
      c.ranked.ensures
          ∙ ap ranked (c.rank.ensures ∙ (λ k. rank_of (rules k) (entries k) c.args.sail)),
    )
