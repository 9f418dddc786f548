-- What the desk answers to a session, once it has looked at the pass and has told it of its journal.
use Rattle.std.proofs.Common.{◌≡◌, ◌∙◌, ℕ, List, Option, true, All, ap, refl, sym, subst}
use mathlib.Core.List.{IsPrefix}
use Rattle.regatta_terms.specs.Rules.{RulesParts}
use Rattle.regatta_terms.specs.declared.command.Role.{Role}
use Rattle.regatta_terms.specs.declared.reply.Reply.{Reply}
use Rattle.regatta_scores.specs.Journal.{Journal}
use Rattle.regatta_board.specs.Refusals.{limits, is_lawful}
use Rattle.regatta_tables.specs.ReplyTexts.{reply_text}
use Rattle.regatta_talk.specs.declared.asked.AskedLine.TheVariants.{Desk}
use Rattle.regatta_talk.specs.declared.asked.DeskLine.{DeskLine}
use Rattle.regatta_desk.specs.Desks.{DeskValue}
use Rattle.regatta_desk.specs.Passes.{PassValue, with_told}
use Rattle.regatta_desk.specs.Replies.{DeskReplies}
use Rattle.regatta_keeper.specs.Sealing.{Needs}
use Rattle.regatta_keeper.specs.declared.need.Need.{Need}
use Rattle.regatta_service.specs.Lines.{Prepared}

-- to look and to tell left the desk as it was
pub desk_prepared : {N : Type 0} (rules : RulesParts) (line : DeskLine) (role : Role)
    (locked looked told left : DeskValue) (before same met after : PassValue) (reply : Reply)
    (text : List ℕ) (need : Need N) (book : Option (List Journal))
    → looked ≡ locked → same ≡ before
    → is_lawful limits rules locked.entries ≡ true
    → All (λ j. IsPrefix j locked.entries) before.told
    → IsPrefix before.seen locked.entries
    → told ≡ looked → met ≡ with_told same looked.entries
    → DeskReplies rules line role told left met after reply
    → text ≡ reply_text reply → Needs book need left.entries
    → Prepared rules (Desk line) role before after text need book
desk_prepared rules line role locked looked told left before same met after reply text need book looks
    stays lawful begins seen tells meets replied is needs =
    let entries : locked.entries ≡ told.entries =
    ap (λ (d : DeskValue). d.entries) (sym (tells ∙ looks)) in
    let of_pass : met ≡ with_told before told.entries =
    meets ∙ (λ k. with_told (stays k) (sym tells k).entries) in
    record {
      made_from = left.entries;
      answered = record {
        found = told;
        left = left;
        reply = reply;
        lawful = subst (λ (j : Journal). is_lawful limits rules j ≡ true) entries lawful;
        seen = subst (λ (j : Journal). IsPrefix before.seen j) entries seen;
        told = subst (λ (j : Journal). All (λ i. IsPrefix i j) before.told) entries begins;
        replied = subst (λ (p : PassValue). DeskReplies rules line role told left p after reply) of_pass
            replied;
        text = is;
        made = refl;
      };
      needs = needs;
    }
