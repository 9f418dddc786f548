use Rattle.std.proofs.Common.{rules, refl}
use Rattle.regatta_talk.specs.declared.asked.DeskLine.TheVariants.{Rank}
use Rattle.regatta_service.proofs.Asking.{desk_prepared}
use Rattle.regatta_service.proofs.sessions.Talk.rank.Goals as goal

-- the desk's own clauses, of the value that its lock held
pub returns-clause-answered : goal.returns-clause-answered
returns-clause-answered g c =
    desk_prepared g.N.OfficeName.rules (Rank c.args.sail) c.args.self.now.role _ _ _ _ _ _ _ _ _ _ _ _
    c.confirm.ensures.same.0 c.confirm.ensures.same.1 c.confirm.ensures.lawful c.confirm.ensures.told
    (c.if-not-confirm.ensures.seen refl) c.tell.ensures.same c.tell.ensures.pass
    c.rank_reply-reply.ensures.replied (search rules) (search rules)
