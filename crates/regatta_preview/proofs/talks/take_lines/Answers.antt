use Rattle.std.proofs.Common.{◌≡◌, ℕ, List, rules, length, ap, sym, ◌∙◌}
use Rattle.regatta_terms.specs.Rules.{RulesParts}
use Rattle.regatta_terms.specs.TextLines.{lines}
use Rattle.regatta_talk.specs.Replies.{asked_line}
use Rattle.regatta_talk.specs.declared.asked.Next.{Next}
use Rattle.regatta_preview.specs.declared.parts.LineReply.{LineReply}
use Rattle.regatta_preview.specs.Boards.{talk_of}
use Rattle.regatta_preview.specs.Rests.{lines_after}
use Rattle.regatta_preview.specs.Talks.{Talked, preceded_by, reply_to, talk_after, talked}
use Rattle.regatta_preview.proofs.TalkFacts.{all_taken, line_more, no_lines}
use Rattle.regatta_preview.proofs.talks.take_lines.Goals as goal

-- a line more
pub loop-rest-preserved : goal.loop-rest-preserved
loop-rest-preserved c =
    let series = c.args.board.now.rules in
    let talk = talk_of c.loop-rest.board c.loop-rest.role in
    let later = talk_of c.answer.new.board c.answer.new.role in
    let asked = c.of-asked.result in
    let same = c.loop-rest.invariant.rules in
    record {
      rules = c.in_ok-answer.ensures.rules ∙ same;
      all = line_more series _ c.loop-rest.replies.items talk later (lines c.loop-rest.rest.now)
          c.first_line.result.0.now (lines c.first_line.result.1.now)
          (lines c.rest_after-rest.result.now) asked c.in_ok-answer.field-0
          c.loop-rest.invariant.all c.first_line.ensures.lines
          (c.of-asked.ensures ∙ ap asked_line c.read_line.ensures)
          (c.in_ok-answer.ensures.reply ∙ ap (λ (r : RulesParts). reply_to r talk asked) same)
          (c.in_ok-answer.ensures.talk ∙ ap (λ (r : RulesParts). talk_after r talk asked) same)
          (c.rest_after-rest.ensures.lines
          ∙ ap (λ (n : Next). lines_after n (lines c.first_line.result.1.now)) c.next_of.ensures)
          ∙ ap (λ (all : List LineReply). preceded_by all
          (talked series later (lines c.rest_after-rest.result.now))) (sym c.in_ok-push.ensures.items);
    }

pub returns-clause-replies : goal.returns-clause-replies
returns-clause-replies c =
    let none : ◌≡◌ {A = ℕ} (length c.loop-rest.rest.now) 0 = search rules in
    sym (ap (λ (all : Talked). all.replies) (c.loop-rest.invariant.all
    ∙ all_taken c.args.board.now.rules c.loop-rest.replies.items
    (talk_of c.loop-rest.board c.loop-rest.role) _ (no_lines c.loop-rest.rest.now none)))

pub returns-clause-journal : goal.returns-clause-journal
returns-clause-journal c =
    let none : ◌≡◌ {A = ℕ} (length c.loop-rest.rest.now) 0 = search rules in
    sym (ap (λ (all : Talked). all.journal) (c.loop-rest.invariant.all
    ∙ all_taken c.args.board.now.rules c.loop-rest.replies.items
    (talk_of c.loop-rest.board c.loop-rest.role) _ (no_lines c.loop-rest.rest.now none)))
