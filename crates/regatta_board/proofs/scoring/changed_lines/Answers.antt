use Rattle.std.proofs.Common.{◌≡◌, ◌+◌, ◌<◌, ◌++◌, ◌∙◌, ap, arith, sym, subst, drop, length, get_or}
use Rattle.std.specs.Option.{unwrap_or}
use Rattle.regatta_scores.specs.Current.{with_changed, AreOfBoats}
use Rattle.regatta_scores.specs.Lines.{line_by}
use Rattle.regatta_scores.specs.RaceScores.{scores_in}
use Rattle.regatta_board.specs.Table.{no_line, lines}
use Rattle.regatta_board.proofs.Lines.{lines_more, lines_long}
use Rattle.regatta_board.proofs.NewLines.{changed_more, changed_all, new_or_old, of_boats_more}
use Rattle.regatta_board.proofs.NewLines.{of_more_boats, new_few}
use Rattle.regatta_board.proofs.scoring.changed_lines.Goals as goal

pub loop-boat-preserved : goal.loop-boat-preserved
loop-boat-preserved c =
    let b = c.loop-boat.boat in
    let rules = c.args.rules.now in
    let olds = c.args.lines.now in
    let made = c.loop-boat.made.items in
    let pushed = c.in_ok-push_if_changed.ensures in
    let new = pushed.line in
    let within : b < length olds = omega arith in
    let hers : unwrap_or new (get_or olds b no_line) ≡ line_by rules (scores_in c.args.columns.now b) =
    new_or_old new (get_or olds b no_line) (line_by rules (scores_in c.args.columns.now b))
    (λ none. c.requires.stays b within
    (rw (sym c.score-in-loop-boat.ensures, sym c.score.ensures) (pushed.stays.0 none))) pushed.value in
    record {
      each = subst (AreOfBoats (b + 1)) (sym pushed.made)
          (of_boats_more made b new c.loop-boat.invariant.each);
      fewer = omega (
        arith,
        ap length pushed.made,
        new_few made b new,
        c.loop-boat.invariant.fewer,
      );
      value = ap (with_changed olds) pushed.made
          ∙ changed_more olds made (lines rules c.args.columns.now b) b no_line new
          (line_by rules (scores_in c.args.columns.now b)) (lines_long rules c.args.columns.now b)
          within c.loop-boat.invariant.value hers
          ∙ ap (λ ls. ls ++ drop (b + 1) olds) (sym (lines_more rules c.args.columns.now b));
    }

pub returns : goal.returns
returns c =
    let n = c.loop-boat.boat in
    let lines_are = lines c.args.rules.now c.args.columns.now in
    let all : n ≡ length c.args.lines.now = omega arith in
    record {
      each = of_more_boats n (length c.args.lines.now) c.loop-boat.made.items (omega (arith, all))
          c.loop-boat.invariant.each;
      fewer = omega (arith, all, c.loop-boat.invariant.fewer);
      value = c.loop-boat.invariant.value
          ∙ changed_all c.args.lines.now (lines_are n) n all ∙ ap lines_are all;
    }
