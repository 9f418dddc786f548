use Rattle.std.proofs.Common.{◌≡◌, List, Bor, ℕ, Option, Some, IfSome, map, inl, inr, refl, rules}
use Rattle.std.proofs.Common.{subst, sym, ◌∙◌}
use Rattle.regatta_arguments.proofs.Asking.{either}
use Rattle.regatta_arguments.specs.Asking.{AskRun}
use Rattle.regatta_office.specs.Words.{asked_by, regatta}
use Rattle.regatta_office.specs.declared.options.Asked.{Asked}
use Rattle.regatta_office.proofs.command_line.program.Goals as goal

-- the words ask for help or the version
pub returns-in-Err : goal.returns-in-Err
returns-in-Err g c = record {
  done = λ zero.
      let said = c.answer_arguments.ensures.done zero in
      let asks = c.in-Err.ensures.text said.0 in
      (asks.0, asks.1, inl (asks.2, refl, said.1));
  at_most = either c.answer_arguments.ensures.at_most (λ same. same) (λ said.
      let asks = c.in-Err.ensures.text said.0 in
      (asks.0, asks.1, inl (asks.2, said.1)));
  faulty = λ one. either c.answer_arguments.ensures.at_most (λ same. same) (λ said.
      let asks = c.in-Err.ensures.text said.0 in
      (asks.0, asks.1, inl (asks.2, said.1)));
}

-- they ask for a run, which is done
pub returns-in-Ok-run : goal.returns-in-Ok-run
returns-in-Ok-run g c =
    let asks = c.in-Ok.ensures.asked in
    let same : c.in-Ok.asked ≡ Some c.in-Some.asked = search rules in
    let run : AskRun (regatta asks.0) asked_by (map {A = Bor (List ℕ)} {B = List ℕ} (λ word. word.now) c.args.words.now)
    c.in-Some.asked =
    subst (λ (o : Option Asked). IfSome o (AskRun (regatta asks.0) asked_by
    (map {A = Bor (List ℕ)} {B = List ℕ} (λ word. word.now) c.args.words.now))) same asks.2 in
    record {
      done = λ zero. (asks.0, asks.1, inr (c.in-Some.asked, run, c.in-Ok-run.ensures.done));
      at_most = inr (asks.0, asks.1, inr (c.in-Some.asked, run, c.run.ensures.at_most));
      faulty = λ one. absurd (let none : ◌≡◌ {A = ℕ} 0 1 = one in cc);
    }

-- or which has a fault
pub returns-in-Err-run-clause-at_most : goal.returns-in-Err-run-clause-at_most
returns-in-Err-run-clause-at_most g c =
    let asks = c.in-Ok.ensures.asked in
    let same : c.in-Ok.asked ≡ Some c.in-Some.asked = search rules in
    inr (
      asks.0,
      asks.1,
      inr (
        c.in-Some.asked,
        subst (λ (o : Option Asked). IfSome o (AskRun (regatta asks.0) asked_by
            (map {A = Bor (List ℕ)} {B = List ℕ} (λ word. word.now) c.args.words.now))) same asks.2,
        c.run.ensures.at_most,
      ),
    )

pub returns-in-Err-run-clause-faulty : goal.returns-in-Err-run-clause-faulty
returns-in-Err-run-clause-faulty g c = λ one.
    let asks = c.in-Ok.ensures.asked in
    let same : c.in-Ok.asked ≡ Some c.in-Some.asked = search rules in
    inr (
      asks.0,
      asks.1,
      inr (
        c.in-Some.asked,
        subst (λ (o : Option Asked). IfSome o (AskRun (regatta asks.0) asked_by
            (map {A = Bor (List ℕ)} {B = List ℕ} (λ word. word.now) c.args.words.now))) same asks.2,
        c.in-Err-run.ensures.faulty (sym c.status-status.ensures.value ∙ c.complain.ensures.one one),
      ),
    )
