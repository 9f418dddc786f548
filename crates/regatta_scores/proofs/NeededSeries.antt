-- Series of one boat, for the tables that fit all sentences but one.
use Rattle.std.proofs.Common.{◌≡◌, ◌≢◌, ℕ, ◌+◌, ◌*◌, min, max, true, false, cond}
use Rattle.std.proofs.Common.{List, [], ◌∷◌, ◌++◌, refl, ap, ◌∙◌, sym, subst, arith, length, All}
use Rattle.std.proofs.Common.{IsPermutation, count_by, sum_by, None, nat_eq, is_some, fold}
use Rattle.std.proofs.lemmas.List.Elements.{All-from_recursion}
use Rattle.std.proofs.lemmas.List.Sorted.{IsPermutation-refl}
use borrow.Author.Tests.{eq-eqb}
use Rattle.regatta_terms.specs.Effects.{Act}
use Rattle.regatta_terms.specs.Rules.{RulesParts}
use Rattle.regatta_terms.specs.declared.rules.Absent.TheVariants.{A52, A53}
use Rattle.regatta_terms.specs.declared.sail.Sail.{Sail}
use Rattle.regatta_terms.specs.declared.command.Code.{Code}
use Rattle.regatta_terms.specs.declared.command.PenaltyKind.TheVariants.{Scp}
use Rattle.regatta_terms.specs.declared.command.Redress as redress_type
use Rattle.regatta_terms.specs.declared.command.Command.TheVariants.{Enter, Finish, Time, Mark}
use Rattle.regatta_terms.specs.declared.command.Command.TheVariants.{Penalise, Redress, Score}
use Rattle.regatta_scores.specs.declared.table.Cell.{Cell}
use Rattle.regatta_scores.specs.declared.table.Row.{Row}
use Rattle.regatta_scores.specs.declared.table.Standing.{Standing}
use Rattle.regatta_scores.specs.CorrectedTimes.{order_of_times}
use Rattle.regatta_scores.specs.Journal.{Journal, same_sail, entered, scored, acts, order, order_after, lasting_times}
use Rattle.regatta_scores.specs.Order.{stands_in}
use Rattle.regatta_scores.specs.RacePoints.{status_by}
use Rattle.regatta_scores.specs.Standing.{standing}
use Rattle.regatta_scores.specs.AppendixA.{Working}
use Rattle.regatta_scores.specs.Needed.{Sentences, FitsToo}
use Rattle.regatta_scores.specs.Needed.{IsRaceScoredBy, IsRowBy}
use Rattle.regatta_scores.specs.WorkedStandings.{a, scorer, jury, journal}
use Rattle.regatta_scores.specs.WorkedStandings.{row, table}
use Rattle.regatta_scores.proofs.FitRaces.{capped, uncapped}
use Rattle.regatta_scores.proofs.LastingTimes.{order_by}
use Rattle.regatta_scores.proofs.OneMore.{held_from}
use Rattle.regatta_scores.proofs.NeededTables.{given, are_two, in_each, by_status, made, AtPlace}
use Rattle.regatta_scores.proofs.NeededTables.{made_fits, one_row}

-- ---- journals of one boat

-- a boat finishes race 1, which counts
abbrev pub finishes : Journal
finishes = journal (scorer (Enter a) ∷ scorer (Finish 1 a) ∷ scorer (Score 1) ∷ [])

-- she is given a code
abbrev pub coded_by : Code → Journal
coded_by c =
    journal (scorer (Enter a) ∷ scorer (Finish 1 a) ∷ scorer (Mark 1 a c) ∷ scorer (Score 1) ∷ [])

-- she is given an SCP
abbrev pub penalised : Journal
penalised =
    journal (scorer (Enter a) ∷ scorer (Finish 1 a) ∷ scorer (Penalise 1 a Scp)
    ∷ scorer (Score 1) ∷ [])

-- she is given redress
abbrev pub redressed : redress_type.Redress → Journal
redressed how =
    journal (scorer (Enter a) ∷ scorer (Finish 1 a) ∷ scorer (Score 1)
    ∷ jury (Redress 1 a how) ∷ [])

-- she is timed
abbrev pub timed : Journal
timed = journal (scorer (Enter a) ∷ scorer (Time 1 a 100) ∷ scorer (Score 1) ∷ [])

-- she has a code in race 1, and finishes race 2
abbrev pub code_and_finish : Code → Journal
code_and_finish c =
    journal (scorer (Enter a) ∷ scorer (Finish 1 a) ∷ jury (Mark 1 a c) ∷ scorer (Score 1)
    ∷ scorer (Finish 2 a) ∷ scorer (Score 2) ∷ [])

abbrev pub a53_rules : RulesParts
a53_rules = record { absent = A53; scp = None; thresholds = []; handicap = false }

-- ---- what the tables are told apart by

pub told_apart : (f : Standing → ℕ) (one other : Standing) → nat_eq (f one) (f other) ≡ false →
    one ≢ other
told_apart f one other apart same =
    let clash : true ≡ false = sym (eq-eqb (f one) (f other) (ap f same)) ∙ apart in cc

abbrev pub nets : Standing → ℕ
nets t = sum_by (λ r. r.net) t.rows

abbrev pub marks : Standing → ℕ
marks t = sum_by (λ r. count_by (λ c. is_some c.mark) r.cells) t.rows

-- ---- races

-- the places of a race are shared, by what is done in it
abbrev pub Shares : RulesParts → ℕ → ℕ → ℕ → List Act → Type 0
Shares rules finished absent coded done =
    (ahead behind : List (List Sail)) (group : List Sail) →
    order_by rules done ≡ ahead ++ group ∷ behind → AtPlace (held_from done)
    (λ boat. by_status finished absent coded
    (status_by (held_from done boat).code (stands_in same_sail boat (order_by rules done))))
    ahead group

-- a boat alone has the points of first place
pub first_alone : (score : Sail → ℕ) → score a ≡ 10 →
    All (λ boat. 1 * score boat ≡ 10) (a ∷ [])
first_alone score is =
    All-from_recursion (λ boat. 1 * score boat ≡ 10) (a ∷ []) (omega (arith, is), tt)

pub nobody : (P : Sail → Type 0) → All P []
nobody P k d within = absurd (omega (arith, within))

-- penalties, up to a DNF score in tenths
abbrev pub upto : ℕ → ℕ → ℕ → ℕ
upto most base x = max base (min (base + x) most)

-- one boat and the rules of A5.2: the DNF score is 2 points, of which 20% are none
abbrev pub usual : RulesParts → Journal → Working
usual rules done = made rules done (order rules done) 2 0 10 20 20 (upto 20)

module _ (asked : Sentences) (rules : RulesParts) (done : Journal)
    (in_order : rules.handicap ≡ false) (by_entries : rules.absent ≡ A52)
    (two : are_two done ≡ true) (alone : length (entered done) ≡ 1)
    (first : Shares rules 10 20 20 (acts done 1)) (second : Shares rules 10 20 20 (acts done 2))
    (none : Shares rules 10 20 20 []) where
  pub usual_fits : (race : ℕ) → IsRaceScoredBy asked rules done (usual rules done) race
  usual_fits =
      made_fits rules done (order rules done) 2 0 10 20 20 (upto 20) asked
      (given asked.a3_finish (λ race e. ap (λ t. cond t (order_of_times (lasting_times
      (acts done race))) (fold order_after [] (acts done race))) in_order))
      (given asked.a3_time (λ race e. (let clash : false ≡ true = sym in_order ∙ e in cc)))
      (given asked.a5_2 (λ e. omega (arith, alone)))
      (given asked.a5_3 (λ race e. (let clash : A52 ≡ A53 = sym by_entries ∙ e in cc)))
      (given asked.a4_a7 (in_each done two (Shares rules 10 20 20) first second none))
      (given asked.dnc (omega (arith, alone))) (given asked.coded refl)
      (given asked.nearest (record { not_above = omega arith; not_below = omega arith }))
      (given asked.penalties (λ b x below. capped b x 20 below))
      (given asked.no_better (λ b x above. uncapped b x 20 above))

-- a boat's only cell, in a table that isn't the standing
module _ (asked : Sentences) (rules : RulesParts) (done : Journal) (w : Working) (c : Cell)
    (net : ℕ) where
  abbrev pub hers : Row
  hers = row a 1 false net (c ∷ [])

  pub alone_too : scored done ≡ 1 ∷ [] → entered done ≡ a ∷ [] →
      ((race : ℕ) → IsRaceScoredBy asked rules done w race) →
      IsRowBy asked rules done w hers → table (1 ∷ []) (hers ∷ []) ≢ standing rules done →
      FitsToo asked
  alone_too races boats scores fits other = record {
    rules = rules;
    journal = done;
    table = table (1 ∷ []) (hers ∷ []);
    fits = one_row asked rules done w (1 ∷ []) hers (given asked.races (sym races))
        (given asked.entries (subst (λ ss. IsPermutation ss (a ∷ [])) (sym boats)
        (IsPermutation-refl (a ∷ [])))) scores fits (given asked.rank refl)
        (given asked.tied refl);
    other = other;
  }
