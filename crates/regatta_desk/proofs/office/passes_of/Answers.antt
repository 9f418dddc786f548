use Rattle.std.proofs.Common.{rules, ◌≡◌, ◌∷◌, length, sym, ap, ◌∙◌, subst, arith}
use Rattle.regatta_watch.specs.Views.{Sees}
use Rattle.regatta_desk.specs.Offices.{AreSeated, seated}
use Rattle.regatta_desk.proofs.Seats.{seated_push, all_rest, all_first}
use Rattle.regatta_desk.proofs.office.passes_of.Goals as goal

pub loop-watcher-preserved : goal.loop-watcher-preserved
loop-watcher-preserved g c =
    let i = c.loop-watcher.invariant in
    let entries = c.args.board.now.entries in
    let passes = c.loop-watcher.passes in
    let added = c.in_ok-push.ensures in
    let taken = c.in-Some.ensures.steps in
    let index : c.len-in-loop-watcher.result ≡ length passes.items =
    c.len-in-loop-watcher.ensures ∙ passes.ok.0 in
    let last : c.pass_of-pass.result ≡ seated entries (length passes.items) =
    c.pass_of-pass.ensures.pass ∙ ap (seated entries) index in
    let rest : length c.loop-watcher.watcher-iterator.rest.items
    ≡ length (c.in-Some.watcher ∷ c.next.new.self.rest.items) = ap length taken.0 in
    record {
      passes = subst (AreSeated entries) (sym added.items)
          (seated_push entries passes.items c.pass_of-pass.result i.passes last);
      count = omega (arith, added.len, i.count, rest);
      rest = all_rest (λ w. Sees w entries g.N.OfficeName.rules g.N.OfficeName.history)
          c.in-Some.watcher c.next.new.self.rest.items (rw taken.0 at i.rest);
      same = c.pass_of-pass.ensures.same ∙ i.same;
    }

pub loop-watcher-init : goal.loop-watcher-init
loop-watcher-init g c =
    let gives : c.into_iter-watcher-iterator.result.rest.items ≡ c.args.watchers.items =
    search rules in
    record {
      passes = search rules;
      count = search rules;
      rest = rw gives c.requires.watchers;
      same = search rules;
    }

pub pass_of-pass-requires-clause-watcher : goal.pass_of-pass-requires-clause-watcher
pass_of-pass-requires-clause-watcher g c =
    all_first
    (λ w. Sees w c.args.board.now.entries g.N.OfficeName.rules g.N.OfficeName.history)
    c.in-Some.watcher c.next.new.self.rest.items
    (rw c.in-Some.ensures.steps.0 at c.loop-watcher.invariant.rest)
