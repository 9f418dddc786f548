use Rattle.std.proofs.Common.{sym, ap}
use Rattle.regatta_scores.specs.Sheet.{Sheet}
use Rattle.regatta_scores.specs.declared.sheet.Change.TheVariants as changes
use Rattle.regatta_scores.proofs.Sheets.{whole_of}
use Rattle.regatta_scores.proofs.sheet.RaceSheet.changed.Goals as goal

pub with_order-requires : goal.with_order-requires
with_order-requires c =
    whole_of c.args.self.now _ c.args.change (changes.Last c.in-Last.boat) _ _ _ c.self.view_is c.in-Last.is
    c.in_ok-order-in-Last.ensures
    (sym (ap (λ (s : Sheet). s.held) c.self.view_is))
    (sym (ap (λ (s : Sheet). s.seconds) c.self.view_is)) c.self.invariant c.requires

pub with_order-requires-in-Join : goal.with_order-requires-in-Join
with_order-requires-in-Join c =
    whole_of c.args.self.now _ c.args.change (changes.Join c.in-Join.boat c.in-Join.other) _ _ _ c.self.view_is c.in-Join.is
    c.in_ok-order-in-Join.ensures
    (sym (ap (λ (s : Sheet). s.held) c.self.view_is))
    (sym (ap (λ (s : Sheet). s.seconds) c.self.view_is)) c.self.invariant c.requires

pub with_order-requires-in-Ahead : goal.with_order-requires-in-Ahead
with_order-requires-in-Ahead c =
    whole_of c.args.self.now _ c.args.change (changes.Ahead c.in-Ahead.boat c.in-Ahead.other) _ _ _ c.self.view_is c.in-Ahead.is
    c.in_ok-order-in-Ahead.ensures
    (sym (ap (λ (s : Sheet). s.held) c.self.view_is))
    (sym (ap (λ (s : Sheet). s.seconds) c.self.view_is)) c.self.invariant c.requires

pub with_places-requires : goal.with_places-requires
with_places-requires c =
    whole_of c.args.self.now _ c.args.change (changes.Timed c.in-Timed.boat c.in-Timed.seconds) _ _ _ c.self.view_is c.in-Timed.is
    c.in_ok-order-in-Timed.ensures
    (sym (ap (λ (s : Sheet). s.held) c.self.view_is))
    c.in_ok-times-in-Timed.ensures c.self.invariant c.requires

pub with_places-requires-in-Out : goal.with_places-requires-in-Out
with_places-requires-in-Out c =
    whole_of c.args.self.now _ c.args.change (changes.Out c.in-Out.boat) _ _ _ c.self.view_is c.in-Out.is
    c.in_ok-order-in-Out.ensures
    (sym (ap (λ (s : Sheet). s.held) c.self.view_is))
    c.in_ok-times-in-Out.ensures c.self.invariant c.requires
