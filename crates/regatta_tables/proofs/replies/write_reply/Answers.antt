use Rattle.std.proofs.Common.{ℕ, [], ◌∷◌, codes, decimal, subst, sym}
use Rattle.regatta_terms.specs.declared.reply.Reply.{Reply}
use Rattle.regatta_tables.specs.Lines.{line}
use Rattle.regatta_tables.specs.ReplyTexts.{reply_text}
use Rattle.regatta_tables.specs.Written.{Replied}
use Rattle.regatta_tables.proofs.replies.write_reply.Goals as goal

pub returns-in-Fault : goal.returns-in-Fault
returns-in-Fault c =
    subst (λ (reply : Reply). Replied (reply_text reply) c.args.out.now
    c.write_number-in-Fault.new.out c.write_number-in-Fault.result) (sym c.in-Fault.is)
    (subst (λ (n : ℕ). Replied (line (codes "NO" ∷ decimal n ∷ [])) c.args.out.now
    c.write_number-in-Fault.new.out c.write_number-in-Fault.result) c.number-in-Fault.ensures
    c.write_number-in-Fault.ensures)
