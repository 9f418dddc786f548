-- A refusal other than `NoMemory` is the one that applies.
use Rattle.std.proofs.Common.{◌≡◌, Option, Some, None, true, false, sym, ap, ◌∙◌}
use Rattle.regatta_terms.specs.declared.command.Command.{Command}
use Rattle.regatta_terms.specs.declared.reply.Refusal.{Refusal}
use Rattle.regatta_terms.specs.Entries.{EntryParts}
use Rattle.regatta_terms.specs.Rules.{RulesParts}
use Rattle.regatta_board.specs.Refusals.{IsRefusal, limits, refusal}
use Rattle.regatta_board.specs.Runs.{sent}
use Rattle.regatta_preview.specs.Boards.{is_out_of_memory}
use Rattle.regatta_preview.specs.Talks.{Talk, refusal_of}

refused_is : (due : Option Refusal) (why : Refusal) → IsRefusal due why
    → is_out_of_memory why ≡ false → due ≡ Some why
refused_is None why is known = absurd (want (sym (ap is_out_of_memory is) ∙ known))
  where
    want : true ≡ false → ⊥
    want e = cc
refused_is (Some due) why is known = ap Some (sym is)

-- the reason of a refused command is the one that applies to its entry
pub due_is : (rules : RulesParts) (talk : Talk) (command : Command) (entry : EntryParts)
    (why : Refusal) → entry ≡ sent talk.journal talk.role command
    → IsRefusal (refusal limits rules talk.journal entry) why → is_out_of_memory why ≡ false
    → refusal_of rules talk command ≡ Some why
due_is rules talk command entry why made is known =
    ap (refusal limits rules talk.journal) (sym made) ∙ refused_is _ why is known
