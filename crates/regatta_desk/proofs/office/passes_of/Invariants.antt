use Rattle.std.proofs.Common.{◌≡◌, ◌+◌, All, vec_len, length}
use Rattle.regatta_watch.specs.Views.{Sees}
use Rattle.regatta_desk.specs.Offices.{AreSeated}
use Rattle.regatta_desk.proofs.office.passes_of.Given as goal

-- the passes so far, and the watchers that are left
abbrev pub invariant-loop-watcher : goal.invariant-loop-watcher
invariant-loop-watcher g l = record {
  passes : AreSeated l.board.entries l.passes.items;
  count : vec_len l.passes + length l.watcher-iterator.rest.items ≡ vec_len l.fn.watchers;
  rest : All (λ w. Sees w l.board.entries g.N.OfficeName.rules g.N.OfficeName.history)
      l.watcher-iterator.rest.items;
  same : l.history ≡ l.initial.history;
}
