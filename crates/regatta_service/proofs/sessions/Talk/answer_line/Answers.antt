use Rattle.std.proofs.Common.{rules, arith, ◌≡◌, refl, subst}
use Rattle.regatta_streams.specs.Texts.{AppendsPrefix}
use Rattle.regatta_streams.proofs.KnownBytes.{keeps-same}
use Rattle.regatta_service.specs.Lines.{CutOff, Replied, Unsaid}
use Rattle.regatta_service.proofs.Points.{stays_by_parts}
use Rattle.regatta_service.proofs.Replying.{cut_off_by, replied_by, unsaid}
use Rattle.regatta_service.proofs.sessions.Talk.answer_line.Goals as goal
use Rattle.regatta_talk.specs.Replies.{asked_line}
use Rattle.regatta_talk.specs.declared.asked.AskedLine.{AskedLine}
use Rattle.regatta_service.specs.LinesTaken.{asks}

-- the gate stopped it
pub returns-then-not-before-clause-did : goal.returns-then-not-before-clause-did
returns-then-not-before-clause-did g c = stays_by_parts _ _ _ _ _ _ _ _ refl refl refl refl

-- it wasn't covered
pub returns-in_default-cover-clause-did : goal.returns-in_default-cover-clause-did
returns-in_default-cover-clause-did g c =
    let asked : asked_line c.read_line-line.result ≡ asks c.args.self.now.cutter = search rules in (
      subst (λ (a : AskedLine). Unsaid g.N.OfficeName.rules a c.args.self.now.role
          c.answer.new.self.role c.args.pass.now c.answer.new.pass) asked
          (unsaid c.in-Some.ensures.answered c.in-Some.ensures.role),
      keeps-same _,
      search rules,
    )

-- it was covered, and the write failed
pub returns-then-is_err-clause-did : goal.returns-then-is_err-clause-did
returns-then-is_err-clause-did g c =
    let asked : asked_line c.read_line-line.result ≡ asks c.args.self.now.cutter = search rules in
    let cut : AppendsPrefix (g.S.Device.contents c.args.stream.now)
    (g.S.Device.contents c.write_reply.new.self) c.in-Ok.reply = search rules in
    subst (λ (a : AskedLine). CutOff g.N.OfficeName.rules a c.args.self.now.role c.answer.new.self.role
    c.args.pass.now c.answer.new.pass (g.S.Device.contents c.args.stream.now)
    (g.S.Device.contents c.write_reply.new.self) (g.C.Covers.book c.args.covers.now)
    (g.C.Covers.book c.cover.new.covers)) asked
    (cut_off_by c.in-Some.ensures.answered c.in-Some.ensures.role (search rules)
    (subst (AppendsPrefix (g.S.Device.contents c.args.stream.now)
    (g.S.Device.contents c.write_reply.new.self)) c.in-Ok.ensures.text cut))

-- it was covered and written, and the session goes on
pub returns-in-Go-clause-did : goal.returns-in-Go-clause-did
returns-in-Go-clause-did g c =
    let asked : asked_line c.read_line-line.result ≡ asks c.args.self.now.cutter = search rules in (
      search rules,
      subst (λ (a : AskedLine). Replied g.N.OfficeName.rules a c.args.self.now.role c.answer.new.self.role
          c.args.pass.now c.answer.new.pass (g.S.Device.contents c.args.stream.now)
          (g.S.Device.contents c.write_reply.new.self) (g.C.Covers.book c.args.covers.now)
          (g.C.Covers.book c.cover.new.covers)) asked
          (replied_by c.in-Some.ensures.answered c.in-Some.ensures.role (search rules) (search rules)),
    )

-- or it was QUIT
pub returns-in-End-clause-did : goal.returns-in-End-clause-did
returns-in-End-clause-did g c =
    let asked : asked_line c.read_line-line.result ≡ asks c.args.self.now.cutter = search rules in (
      search rules,
      subst (λ (a : AskedLine). Replied g.N.OfficeName.rules a c.args.self.now.role c.answer.new.self.role
          c.args.pass.now c.answer.new.pass (g.S.Device.contents c.args.stream.now)
          (g.S.Device.contents c.write_reply.new.self) (g.C.Covers.book c.args.covers.now)
          (g.C.Covers.book c.cover.new.covers)) asked
          (replied_by c.in-Some.ensures.answered c.in-Some.ensures.role (search rules) (search rules)),
    )

pub returns-in-Go-clause-failures : goal.returns-in-Go-clause-failures
returns-in-Go-clause-failures g c =
    let same : g.S.Device.failures c.write_reply.new.self ≡ g.S.Device.failures c.args.stream.now =
    search rules in omega (arith, same)
