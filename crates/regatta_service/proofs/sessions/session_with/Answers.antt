use Rattle.std.proofs.Common.{rules, refl, ap, Err}
use Rattle.regatta_terms.specs.declared.command.Role.{Role}
use Rattle.regatta_service.specs.LinesTaken.{point}
use Rattle.regatta_service.proofs.Talking.{so_far_more, talked_closed, talked_fault, talked_last}
use Rattle.regatta_service.proofs.Talking.{so_far_none, talked_seat}
use Rattle.regatta_service.proofs.sessions.session_with.Goals as goal

-- nothing was read yet
pub loop-init : goal.loop-init
loop-init g c = (
  tt,
  tt,
  refl,
  refl,
  refl,
  rw (c.new.ensures) (so_far_none g.N.OfficeName.rules (g.S.Device.remaining c.args.stream.now)
      (point Role.Scorer c.args.pass.now (g.S.Device.contents c.args.stream.now)
      (g.C.Covers.book c.args.covers.now))),
)

-- a read failed
pub returns-in_default-clause-served : goal.returns-in_default-clause-served
returns-in_default-clause-served g c =
    let talked = talked_fault _ _ _ _ _ _ _ _ c.loop.invariant.5
    (point c.loop.talk.role c.loop.pass (g.S.Device.contents c.read.new.self)
    (g.C.Covers.book c.loop.covers))
    (record { role = refl; pass = refl; written = c.in_default.ensures.keeps; book = refl })
    _ c.in_default.ensures.bytes in record {
      session = record {
        failed = search rules;
        reads = search rules;
        closed = search rules;
        talked = talked;
        sealed = search rules;
        seat = talked_seat _ _ _ _ _ _ _ _ _ _ talked;
      };
      room = search rules;
    }

-- the stream is at its end
pub returns-then-count-eq0-clause-served : goal.returns-then-count-eq0-clause-served
returns-then-count-eq0-clause-served g c =
    let talked = talked_closed _ _ _ _ _ _ _ _ c.loop.invariant.5
    (point c.loop.talk.role c.loop.pass (g.S.Device.contents c.read.new.self)
    (g.C.Covers.book c.loop.covers))
    (record { role = refl; pass = refl; written = c.in-Ok.ensures.keeps; book = refl })
    _ (rw c.if-count-eq0.true at c.in-Ok.ensures.bytes.0) in record {
      session = record {
        failed = search rules;
        reads = search rules;
        closed = search rules;
        talked = talked;
        sealed = search rules;
        seat = talked_seat _ _ _ _ _ _ _ _ _ _ talked;
      };
      room = search rules;
    }

-- a line has ended the session
pub returns-in-Err-clause-served : goal.returns-in-Err-clause-served
returns-in-Err-clause-served g c =
    let talked = talked_last _ _ _ _ _ _ _ _ c.loop.invariant.5
    (point c.loop.talk.role c.loop.pass (g.S.Device.contents c.read.new.self)
    (g.C.Covers.book c.loop.covers))
    (record { role = refl; pass = refl; written = c.in-Ok.ensures.keeps; book = refl })
    _ _ _ c.in-Ok.ensures.bytes.0 c.take_all.ensures.unread.keeps _ c.take_all.new.self.role _ _ _
    (λ is. c.in-Err.ensures.at_line.2 (ap Err is))
    c.in-Err.ensures.ended in record {
      session = record {
        failed = search rules;
        reads = search rules;
        closed = search rules;
        talked = talked;
        sealed = search rules;
        seat = talked_seat _ _ _ _ _ _ _ _ _ _ talked;
      };
      room = search rules;
    }

-- one piece more
pub loop-preserved : goal.loop-preserved
loop-preserved g c = (
  tt,
  tt,
  search rules,
  search rules,
  search rules,
  so_far_more _ _ _ _ _ _ _ _ c.loop.invariant.5
      (point c.loop.talk.role c.loop.pass (g.S.Device.contents c.read.new.self)
      (g.C.Covers.book c.loop.covers))
      (record { role = refl; pass = refl; written = c.in-Ok.ensures.keeps; book = refl })
      _ _ _ c.in-Ok.ensures.bytes.0 c.take_all.ensures.unread.keeps _ _
      c.in-Ok-take_all.ensures.goes_on,
)
