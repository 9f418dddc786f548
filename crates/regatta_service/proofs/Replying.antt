-- A reply that was prepared, and what became of it.
use Rattle.std.proofs.Common.{◌≡◌, ◌++◌, ◌∙◌, ℕ, List, Option, Some, None, ap, append_assoc, sym}
use Rattle.std.specs.Io.KnownBytes.{Appends}
use Rattle.regatta_terms.specs.Rules.{RulesParts}
use Rattle.regatta_terms.specs.declared.command.Role.{Role}
use Rattle.regatta_scores.specs.Journal.{Journal}
use Rattle.regatta_streams.specs.Texts.{AppendsPrefix}
use Rattle.regatta_talk.specs.Replies.{role_after}
use mathlib.Core.List.{IsPrefix}
use Rattle.regatta_desk.specs.Passes.{PassValue}
use Rattle.regatta_keeper.specs.Sealing.{IsMet, IsNoted, Needs}
use Rattle.regatta_keeper.specs.declared.need.Need.{Need}
use Rattle.regatta_keeper.specs.declared.need.Need.TheVariants.{Nothing, UpTo, Lost}
use Rattle.regatta_service.specs.Lines.{CutOff, Prepared, Replied, Unsaid}
use Rattle.regatta_talk.specs.declared.asked.AskedLine.{AskedLine}

prefix_then : (a b c : Journal) → IsPrefix a b → IsPrefix b c → IsPrefix a c
prefix_then a b c (x, first) (y, second) =
    (x ++ y, sym (append_assoc a x y) ∙ ap (λ (j : Journal). j ++ y) first ∙ second)

-- what is kept begins with the journal that a need begins with
met_less : {N : Type 0} (made_from : Journal) (need : Need N) (book : List Journal) (kept : Journal)
    → Needs (Some book) need made_from → IsMet need kept → IsPrefix made_from kept
met_less made_from Nothing book kept needs met = (kept, ap (λ (j : Journal). j ++ kept) needs)
met_less made_from (UpTo need) book kept needs met = prefix_then made_from need kept needs met
met_less made_from Lost book kept needs met = absurd met

noted_less : {N : Type 0} (made_from : Journal) (need : Need N) (book noted : Option (List Journal))
    → Needs book need made_from → IsNoted (IsMet need) book noted
    → IsNoted (IsPrefix made_from) book noted
noted_less made_from need None None needs is = tt
noted_less made_from need (Some book) (Some noted) needs (kept, met, is) =
    (kept, met_less made_from need book kept needs met, is)
noted_less made_from need (Some book) None needs is = is
noted_less made_from need None (Some noted) needs is = is

module _ {N : Type 0} {rules : RulesParts} {asked : AskedLine} {role later : Role} {before after : PassValue}
    {text : List ℕ} {need : Need N} {book : Option (List Journal)}
    (p : Prepared rules asked role before after text need book)
    (role_set : later ≡ role_after asked role) where
  pub replied_by : {noted : Option (List Journal)} {old new : Option (List ℕ)}
      → IsNoted (IsMet need) book noted → Appends old new text
      → Replied rules asked role later before after old new book noted
  replied_by {noted} is wrote = record {
    text = text;
    made_from = p.made_from;
    answered = p.answered;
    role_set = role_set;
    kept = noted_less p.made_from need book noted p.needs is;
    wrote = wrote;
  }

  pub cut_off_by : {noted : Option (List Journal)} {old new : Option (List ℕ)}
      → IsNoted (IsMet need) book noted → AppendsPrefix old new text
      → CutOff rules asked role later before after old new book noted
  cut_off_by {noted} is wrote = record {
    text = text;
    made_from = p.made_from;
    answered = p.answered;
    role_set = role_set;
    kept = noted_less p.made_from need book noted p.needs is;
    wrote = wrote;
  }

  pub unsaid : Unsaid rules asked role later before after
  unsaid = record {
    text = text;
    made_from = p.made_from;
    answered = p.answered;
    role_set = role_set;
  }
