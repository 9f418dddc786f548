-- A whole run: what is written for all of the text, and for the lines that had ended at a fault.
use Rattle.std.proofs.Common.{◌≡◌, ◌⊎◌, ℕ, Bool, true, List, [], ◌++◌, Option, Some, None, Result}
use Rattle.std.proofs.Common.{IfSome, take, inl, inr, refl, sym, ap, ◌∙◌, subst}
use Rattle.std.proofs.lemmas.Option.{IfSome_then}
use Rattle.std.specs.Io.KnownBytes.{Appends}
use Rattle.regatta_terms.specs.Rules.{RulesParts}
use Rattle.regatta_scores.specs.AppendixA.{IsAppendixA}
use Rattle.regatta_scores.specs.Journal.{Journal}
use Rattle.regatta_scores.specs.Standing.{standing}
use Rattle.regatta_board.specs.BoardFacts.{BoardValue}
use Rattle.regatta_office.proofs.Streams.{prefix-longer}
use Rattle.regatta_streams.proofs.KnownBytes.{appends-none}
use Rattle.regatta_office.specs.declared.form.Form.{Form}
use Rattle.regatta_office.specs.declared.form.Form.TheVariants as form
use Rattle.regatta_office.specs.Coming.{BreaksOff, IsWithin, Point, Said, coming, said_from}
use Rattle.regatta_terms.specs.TextLines.{ended_lines, lines}
use Rattle.regatta_office.specs.declared.run.RunFault.{RunFault}
use Rattle.regatta_office.specs.Transcript.{IsFinalPart, WritesRun, final_text, journal_at_end}
use Rattle.regatta_office.specs.Transcript.{opening, replies, run_text, transcript, up_to_quit}
use Rattle.regatta_office.proofs.Saying.{coming-whole}

-- what was written for some first lines of a text: for those that end within some first part of
-- it, or for all of them
abbrev pub WroteSome : RulesParts → Journal → Option (List ℕ) → Option (List ℕ) → List ℕ → Type 0
WroteSome rules start old new text =
    ((n : ℕ) × Appends old new (transcript rules start (ended_lines (take n text))))
    ⊎ Appends old new (transcript rules start (lines text))

-- no line has ended in no text
nothing_said : (rules : RulesParts) (start : Journal) → transcript rules start (ended_lines []) ≡ []
unfolding up_to_quit replies
nothing_said rules start = refl

-- nothing was written
pub wrote_nothing : (rules : RulesParts) (start : Journal) (a c : Option (List ℕ))
    → IfSome a (WroteSome rules start c c)
wrote_nothing rules start None c = tt
wrote_nothing rules start (Some text) c = inl (
  0,
  subst (Appends c c) (sym (nothing_said rules start)) (appends-none c),
)

-- if the standing fits Appendix A, its text is that of a table which does
final_part : (rules : RulesParts) (form : Form) (journal : Journal)
    → IsAppendixA rules journal (standing rules journal)
    → IsFinalPart rules form journal (final_text rules form journal)
final_part rules form.Table journal fits = (standing rules journal, fits, refl)
final_part rules form.Csv journal fits = (standing rules journal, fits, refl)
final_part rules form.Journal journal fits = refl

-- a part of a run before the final part broke off
before_final : {A : Type 0} (says : Bool → List ℕ → Said) (final : Journal → List ℕ) (most : ℕ)
    (a b c d : Option (List ℕ)) (r : Result A RunFault) → BreaksOff says None most a b c d r
    → BreaksOff says (Some final) most a b c d r
before_final says final most a b c d r u = record {
  taken = u.taken;
  read = u.read;
  long = u.long;
  cut = λ is. IfSome_then a (u.cut is) (λ text.
      prefix-longer c d (says true text).text (final (says true text).journal));
  stopped = λ is. IfSome_then a (u.stopped is) (λ text. inl);
}

module _ (rules : RulesParts) (start : Journal) (board : BoardValue) (p : Point)
    (b : board ≡ record { rules = rules; entries = start })
    (e : p ≡ record { rules = board.rules; talk = opening board.entries; line = [] }) where
  at_start : (counts : Bool) (text : List ℕ) → coming p counts text
      ≡ said_from rules start counts text
  at_start counts text =
      ap (λ (q : Point). coming q counts text)
      (e ∙ ap (λ (v : BoardValue). record {
        rules = v.rules;
        talk = opening v.entries;
        line = [];
      }) b)
      ∙ coming-whole counts rules (opening start) text

  -- what the last board of the run has
  rules_are : (last : BoardValue) → last.rules ≡ p.rules → last.rules ≡ rules
  rules_are last same =
      same ∙ ap (λ (q : Point). q.rules) e ∙ ap (λ (v : BoardValue). v.rules) b

  journal_is : (last : BoardValue) (journal : Journal) (text : List ℕ) → last.entries ≡ journal
      → journal ≡ (coming p true text).journal → last.entries ≡ journal_at_end rules start text
  journal_is last journal text carried after =
      carried ∙ after ∙ ap (λ (s : Said). s.journal) (at_start true text)

  -- the final part was written, or some first part of it
  pub whole_text : (P : Option (List ℕ) → Option (List ℕ) → List ℕ → Type 0)
      → ((c d f : Option (List ℕ)) (x y : List ℕ) → Appends c d x → P d f y → P c f (x ++ y))
      → (a c d f : Option (List ℕ)) (form : Form) (last : BoardValue) (journal : Journal)
      → last.rules ≡ p.rules → last.entries ≡ journal
      → IfSome a (λ text. Appends c d (coming p true text).text)
      → IfSome a (λ text. journal ≡ (coming p true text).journal)
      → P d f (final_text last.rules form last.entries)
      → IfSome a (λ text. P c f (run_text rules start form text))
  whole_text P join None c d f form last journal same carried wrote after ends = tt
  whole_text P join (Some text) c d f form last journal same carried wrote after ends =
      let written : (coming p true text).text ≡ transcript rules start (lines text) = ap
      (λ (s : Said). s.text) (at_start true text) in
      let journal_at = journal_is last journal text carried after in
      subst (P c f) (λ i. written i ++ final_text (rules_are last same i) form (journal_at i))
      (join c d f (coming p true text).text (final_text last.rules form last.entries) wrote ends)

  -- what was written ends with a table that fits Appendix A
  pub run_written : (a c f : Option (List ℕ)) (form : Form) (last : BoardValue) (journal : Journal)
      → last.rules ≡ p.rules → last.entries ≡ journal
      → IfSome a (λ text. journal ≡ (coming p true text).journal)
      → IsAppendixA last.rules last.entries (standing last.rules last.entries)
      → IfSome a (λ text. Appends c f (run_text rules start form text))
      → IfSome a (λ text. WritesRun rules start form text c f)
  run_written None c f form last journal same carried after fits wrote = tt
  run_written (Some text) c f form last journal same carried after fits wrote = (
    run_text rules start form text,
    record {
      final = final_text rules form (journal_at_end rules start text);
      is_final = final_part rules form (journal_at_end rules start text)
          (subst (λ (v : BoardValue). IsAppendixA v.rules v.entries (standing v.rules v.entries))
          (λ i. record {
            rules = rules_are last same i;
            entries = journal_is last journal text carried after i;
          }) fits);
      whole = refl;
    },
    wrote,
  )

  -- it is the whole text whose lines are answered
  whole_says : coming p ≡ said_from rules start
  whole_says = λ i. λ counts text. at_start counts text i

  pub within_limit : (a : Option (List ℕ)) (most : ℕ) → IfSome a (IsWithin (coming p) most)
      → IfSome a (IsWithin (said_from rules start) most)
  within_limit a most = subst (λ (says : Bool → List ℕ → Said). IfSome a (IsWithin says most))
      whole_says

  -- the run broke off before the final part
  pub whole_breaks : {A : Type 0} (form : Form) (most : ℕ) (a b c d : Option (List ℕ))
      → (r : Result A RunFault) → BreaksOff (coming p) None most a b c d r
      → BreaksOff (said_from rules start) (Some (final_text rules form)) most a b c d r
  whole_breaks form most a b c d r u =
      before_final (said_from rules start) (final_text rules form) most a b c d r
      (subst (λ (says : Bool → List ℕ → Said). BreaksOff says None most a b c d r) whole_says u)

  -- the final part wasn't made
  pub all_said : (a c d : Option (List ℕ)) → IfSome a
      (λ text. Appends c d (coming p true text).text) → IfSome a (WroteSome rules start c d)
  all_said None c d k = tt
  all_said (Some text) c d k = inr (subst (λ (s : Said). Appends c d s.text) (at_start true text) k)
