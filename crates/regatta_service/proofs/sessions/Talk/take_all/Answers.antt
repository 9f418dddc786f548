use Rattle.std.proofs.Common.{rules, List, ℕ, refl, get_or}
use Rattle.regatta_streams.proofs.KnownBytes.{keeps-then}
use Rattle.regatta_service.proofs.Taking.{at_a_line, byte_taken, last_taken, line_taken}
use Rattle.regatta_service.proofs.sessions.Talk.take_all.Goals as goal
use Rattle.regatta_service.proofs.sessions.Talk.take_all.Goals.{then-take+in-Ok, else-take}

-- a line has ended the session
pub returns-in-Err-clause-ended : goal.returns-in-Err-clause-ended
returns-in-Err-clause-ended g c =
    let piece = c.args.piece.now in
    let i = c.loop-byte.byte-index in
    last_taken (List ℕ) _ c.args.self.now.cutter piece _ c.loop-byte.self.cutter _ i (get_or piece i 0) _ _
    (search rules) refl (search rules) (search rules) c.loop-byte.invariant.went

pub returns-in-Err-clause-at_line : goal.returns-in-Err-clause-at_line
returns-in-Err-clause-at_line g c = at_a_line _ _ _ _ _ c.in-Err.ensures.did

-- one byte more, which ends a line or doesn't
pub loop-byte-preserved : goal.loop-byte-preserved
loop-byte-preserved g c =
    let piece = c.args.piece.now in
    let i = c.loop-byte.byte-index in
    elim c.if-take.branch [
      | then-take+in-Ok w ↦ record {
        well = search rules;
        no_read = search rules;
        covered = search rules;
        went = line_taken _ c.args.self.now.cutter piece _ c.loop-byte.self.cutter _ i
            (get_or piece i 0) _ _ (search rules) refl (search rules) (search rules)
            (search rules) (search rules) c.loop-byte.invariant.went;
        keeps = rw (w.stream-is) (keeps-then _ _ _ c.loop-byte.invariant.keeps
            w.answer_line.ensures.unread.keeps);
      }
      | else-take w ↦ record {
        well = search rules;
        no_read = search rules;
        covered = search rules;
        went = byte_taken _ c.args.self.now.cutter piece _ c.loop-byte.self.cutter _ i
            (get_or piece i 0) _ _ (search rules) refl (search rules) (search rules)
            (search rules) c.loop-byte.invariant.went;
        keeps = search rules;
      }
    ]
