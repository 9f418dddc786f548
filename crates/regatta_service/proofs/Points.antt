-- Lines that were answered one after another, and what stays between them.
use Rattle.std.proofs.Common.{◌≡◌, ◌∷◌, ◌++◌, ◌∙◌, [], ℕ, List, Option, refl}
use Rattle.std.proofs.Common.{ap, inl, inr, subst, sym}
use mathlib.Core.List.{IsPrefix}
use Rattle.std.specs.Io.KnownBytes.{Keeps}
use Rattle.regatta_terms.specs.Rules.{RulesParts}
use Rattle.regatta_terms.specs.declared.command.Role.{Role}
use Rattle.regatta_scores.specs.Journal.{Journal}
use Rattle.regatta_streams.proofs.KnownBytes.{keeps-appends, keeps-same, keeps-then}
use Rattle.regatta_desk.specs.Passes.{PassValue, with_told}
use Rattle.regatta_desk.specs.Replies.{DeskReplies}
use Rattle.regatta_talk.specs.Replies.{role_after}
use Rattle.regatta_service.specs.Lines.{Answers}
use Rattle.regatta_service.specs.LinesTaken.{AreReplied, EndedAt, IsCutOff, IsUnsaid}
use Rattle.regatta_service.specs.LinesTaken.{IsPassedOver, IsQuit, IsReplied, Point, Stays, Took}
use Rattle.regatta_service.specs.LinesTaken.{point}
use Rattle.regatta_service.specs.declared.sessions.End.{End}
use Rattle.regatta_keeper.specs.Sealing.{IsNoted}
use Rattle.regatta_talk.specs.declared.asked.AskedLine.{AskedLine}
use Rattle.regatta_talk.specs.declared.asked.AskedLine.TheVariants.{Desk, Apart}
use Rattle.regatta_talk.specs.declared.asked.DeskLine.TheVariants.{Do, Rank}

-- ---- nothing was done

pub stays_same : (p : Point) → Stays p p
stays_same p = record { role = refl; pass = refl; written = keeps-same p.written; book = refl }

pub stays_then : (p q r : Point) → Stays p q → Stays q r → Stays p r
stays_then p q r one two = record {
  role = two.role ∙ one.role;
  pass = two.pass ∙ one.pass;
  written = keeps-then p.written q.written r.written one.written two.written;
  book = two.book ∙ one.book;
}

-- if each part is as it was
pub stays_by_parts : (role later : Role) (before after : PassValue) (old new : Option (List ℕ))
    (book noted : Option (List Journal))
    → later ≡ role → after ≡ before → new ≡ old → noted ≡ book
    → Stays (point role before old book) (point later after new noted)
stays_by_parts role later before after old new book noted same_role same_pass same same_book =
    record {
      role = same_role;
      pass = same_pass;
      written = subst (Keeps old) (sym same) (keeps-same old);
      book = same_book;
    }

-- ---- lines that were answered, with nothing done before them or after

pub replied_from : (rules : RulesParts) (asked : AskedLine) (p q r : Point) → Stays p q
    → IsReplied rules asked q r → IsReplied rules asked p r
replied_from rules asked p q r stays u = record {
  text = u.text;
  made_from = u.made_from;
  answered = subst (λ (role : Role). Answers rules asked role p.pass r.pass [] u.text u.made_from)
      stays.role
      (subst (λ (pass : PassValue). Answers rules asked q.role pass r.pass [] u.text u.made_from)
      stays.pass u.answered);
  role_set = u.role_set ∙ ap (λ (role : Role). role_after asked role) stays.role;
  kept = subst (λ (book : Option (List Journal)). IsNoted (IsPrefix u.made_from) book r.book) stays.book
      u.kept;
  wrote = keeps-appends p.written q.written r.written u.text stays.written u.wrote;
}

pub are_from : (rules : RulesParts) (lines : List AskedLine) (p q r : Point) → Stays p q
    → AreReplied rules lines q r → AreReplied rules lines p r
are_from rules [] p q r stays u = stays_then p q r stays u
are_from rules (asked ∷ more) p q r stays (next, one, rest) =
    (next, replied_from rules asked p q next stays one, rest)

pub are_back : (rules : RulesParts) (lines : List AskedLine) (p q r : Point)
    → AreReplied rules lines p q → Stays q r → AreReplied rules lines p r
are_back rules [] p q r u stays = stays_then p q r u stays
are_back rules (asked ∷ more) p q r (next, one, rest) stays =
    (next, one, are_back rules more next q r rest stays)

pub are_both : (rules : RulesParts) (lines others : List AskedLine) (p q r : Point)
    → AreReplied rules lines p q → AreReplied rules others q r
    → AreReplied rules (lines ++ others) p r
are_both rules [] others p q r u v = are_from rules others p q r u v
are_both rules (asked ∷ more) others p q r (next, one, rest) v =
    (next, one, are_both rules more others next q r rest v)

-- one more line is answered
pub are_more : (rules : RulesParts) (lines : List AskedLine) (asked : AskedLine) (p q r : Point)
    → AreReplied rules lines p q → IsReplied rules asked q r
    → AreReplied rules (lines ++ asked ∷ []) p r
are_more rules lines asked p q r u one =
    are_both rules lines (asked ∷ []) p q r u (r, one, stays_same r)

-- ---- the pass keeps its seat

desk_seat : (rules : RulesParts) (asked : AskedLine) (role : Role) (before after : PassValue)
    (old new : List ℕ) (made_from : Journal) → Answers rules asked role before after old new made_from
    → after.seat ≡ before.seat
desk_seat rules (Desk (Do command)) role before after old new made_from u = by u.replied
  where
    by : DeskReplies rules (Do command) role u.found u.left (with_told before u.found.entries)
        after u.reply
        → after.seat ≡ before.seat
    by (inl ran) = ap (λ (p : PassValue). p.seat) ran.pass
    by (inr refused) = ap (λ (p : PassValue). p.seat) refused.pass
desk_seat rules (Desk (Rank sail)) role before after old new made_from u =
    ap (λ (p : PassValue). p.seat) u.replied.1
desk_seat rules AskedLine.Show role before after old new made_from (inl shows, is) =
    ap (λ (p : PassValue). p.seat) shows.pass
desk_seat rules AskedLine.Show role before after old new made_from (inr (inl saw), is) =
    ap (λ (p : PassValue). p.seat) saw.pass
desk_seat rules AskedLine.Show role before after old new made_from (inr (inr none), is) =
    ap (λ (p : PassValue). p.seat) none.0
desk_seat rules (Apart line) role before after old new made_from u =
    ap (λ (p : PassValue). p.seat) u.0.0

are_seated : (rules : RulesParts) (lines : List AskedLine) (p q : Point) → AreReplied rules lines p q
    → q.pass.seat ≡ p.pass.seat
are_seated rules [] p q u = ap (λ (pass : PassValue). pass.seat) u.pass
are_seated rules (asked ∷ more) p q (next, one, rest) =
    are_seated rules more next q rest
    ∙ desk_seat rules asked p.role p.pass next.pass [] one.text one.made_from one.answered

ended_seated : (Did : AskedLine → Point → Point → Type 0) (rules : RulesParts) (asked : List AskedLine)
    (p q : Point)
    → ((last : AskedLine) (between : Point) → Did last between q → q.pass.seat ≡ between.pass.seat)
    → EndedAt Did rules asked p q → q.pass.seat ≡ p.pass.seat
ended_seated Did rules asked p q same u =
    same u.last u.between u.did ∙ are_seated rules u.lines p u.between u.answered

-- however the session ends
pub took_seated : (rules : RulesParts) (end : End) (asked : List AskedLine) (p q : Point)
    → Took rules end asked p q → q.pass.seat ≡ p.pass.seat
took_seated rules End.Closed asked p q u = are_seated rules asked p q u.answered
took_seated rules End.ReadFault asked p q u = are_seated rules asked p q u.answered
took_seated rules End.Quit asked p q u = ended_seated (IsQuit rules) rules asked p q
    (λ last between did. desk_seat rules last between.role between.pass q.pass [] did.1.text
    did.1.made_from did.1.answered) u
took_seated rules End.WriteFault asked p q u = ended_seated (IsCutOff rules) rules asked p q
    (λ last between did. desk_seat rules last between.role between.pass q.pass [] did.text
    did.made_from did.answered) u
took_seated rules End.Stopped asked p q u = ended_seated IsPassedOver rules asked p q
    (λ last between did. ap (λ (pass : PassValue). pass.seat) did.pass) u
took_seated rules End.NotKept asked p q u = ended_seated (IsUnsaid rules) rules asked p q
    (λ last between did. desk_seat rules last between.role between.pass q.pass [] did.0.text
    did.0.made_from did.0.answered) u
took_seated rules End.NoMemory asked p q u = ap (λ (pass : PassValue). pass.seat) u.1.pass
