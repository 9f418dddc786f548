-- The most races that a command rescores, by what is kept and by the journal.
use Rattle.std.proofs.Common.{◌≡◌, ℕ, cond, [], ◌∷◌, ◌++◌, ap, ◌∙◌, sym, length, filter}
use Rattle.std.specs.List.{range_with_len}
use Rattle.regatta_terms.specs.Effects.{Act, Places, Strikes, Decides, Counts, Effect, Enters}
use Rattle.regatta_terms.specs.Effects.{InRace, effect}
use Rattle.regatta_terms.specs.Entries.{EntryParts}
use Rattle.regatta_terms.specs.Rules.{RulesParts}
use Rattle.regatta_terms.specs.declared.limits.TheConstants.{MAX_RACES}
use Rattle.regatta_scores.specs.Journal.{Journal, acts, act_in, is_scored}
use Rattle.regatta_scores.proofs.Apart.{one_act, same_acts}
use Rattle.regatta_scores.proofs.OneMore.{counts_by, counts_after, counts_step}
use Rattle.regatta_board.specs.Answers.{most_rescored_by}
use Rattle.regatta_board.specs.KeptJournal.{kept_of, IsOrderly}
use Rattle.regatta_board.specs.Step.{step_of}
use Rattle.regatta_board.specs.Update.{most_remade}
use Rattle.regatta_board.proofs.Accepted.{NamesRace}
use Rattle.regatta_board.proofs.KeptFacts.{counts_are}
use Rattle.regatta_board.proofs.TableOf.{races_are}

module _ (rules : RulesParts) (journal : Journal) (orderly : IsOrderly rules journal)
    (entry : EntryParts) where
  -- whether a race counts after an entry of it
  scored_next : (race : ℕ) (act : Act) → effect entry.command ≡ InRace race act
      → is_scored (journal ++ entry ∷ []) race ≡ counts_after (is_scored journal race) act
  scored_next race act is =
      ap counts_by (one_act journal entry race act is) ∙ counts_step (acts journal race) act

  pub named_few : (e : Effect) → effect entry.command ≡ e → NamesRace e
      → most_remade (kept_of rules journal) (step_of (kept_of rules journal) e)
      ≡ most_rescored_by (journal ++ entry ∷ []) e
  named_few (Enters sail) is named =
      ap length (races_are rules journal orderly)
      ∙ (λ i. length (filter (λ r. counts_by
      (sym (same_acts journal entry r (ap (act_in r) is)) i)) (range_with_len 1 MAX_RACES)))
  named_few (InRace race (Counts b)) is named =
      ap (λ t. cond t 1 0) (sym (scored_next race (Counts b) is))
  named_few (InRace race (Places sail placing)) is named =
      ap (λ t. cond t 1 0)
      (counts_are rules journal race named ∙ sym (scored_next race (Places sail placing) is))
  named_few (InRace race (Strikes sail)) is named =
      ap (λ t. cond t 1 0)
      (counts_are rules journal race named ∙ sym (scored_next race (Strikes sail) is))
  named_few (InRace race (Decides sail decision)) is named =
      ap (λ t. cond t 1 0)
      (counts_are rules journal race named ∙ sym (scored_next race (Decides sail decision) is))
