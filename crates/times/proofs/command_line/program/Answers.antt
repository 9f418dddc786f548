use Rattle.std.proofs.Common.{◌≡◌, ◌⊎◌, List, Bor, ℕ, Option, Some, IfSome, map, inl, inr, rules}
use Rattle.std.proofs.Common.{subst}
use Rattle.regatta_arguments.proofs.Asking.{either}
use Rattle.regatta_arguments.specs.Asking.{AskRun}
use Rattle.times.specs.Words.{asked_by, times}
use Rattle.times.specs.declared.options.Asked.{Asked}
use Rattle.times.proofs.command_line.program.Goals as goal

-- the words ask for help or the version
pub returns-in-Err : goal.returns-in-Err
returns-in-Err g c = record {
  done = λ zero.
      let said = c.answer_arguments.ensures.done zero in
      inl (c.in-Err.ensures.text said.0, said.1);
  at_most = either c.answer_arguments.ensures.at_most (λ same. same) (λ said.
      inl (c.in-Err.ensures.text said.0, said.1));
}

-- they ask for a run, which is done
pub returns-in-Ok-run_asked : goal.returns-in-Ok-run_asked
returns-in-Ok-run_asked g c =
    let same : c.in-Ok.asked ≡ Some c.in-Some.asked = search rules in
    let run : AskRun times asked_by (map {A = Bor (List ℕ)} {B = List ℕ} (λ word. word.now) c.args.words.now)
    c.in-Some.asked =
    subst (λ (o : Option Asked). IfSome o (AskRun times asked_by
    (map {A = Bor (List ℕ)} {B = List ℕ} (λ word. word.now) c.args.words.now))) same
    c.in-Ok.ensures.asked in
    record {
      done = λ zero. inr (c.in-Some.asked, run, c.in-Ok-run_asked.ensures.done);
      at_most = either c.run_asked.ensures.at_most (λ kept. kept) (λ most.
          inr (c.in-Some.asked, run, most));
    }

-- or which has a fault
pub returns-in-Err-run_asked-clause-at_most : goal.returns-in-Err-run_asked-clause-at_most
returns-in-Err-run_asked-clause-at_most g c =
    let same : c.in-Ok.asked ≡ Some c.in-Some.asked = search rules in
    let run : AskRun times asked_by (map {A = Bor (List ℕ)} {B = List ℕ} (λ word. word.now) c.args.words.now)
    c.in-Some.asked =
    subst (λ (o : Option Asked). IfSome o (AskRun times asked_by
    (map {A = Bor (List ℕ)} {B = List ℕ} (λ word. word.now) c.args.words.now))) same
    c.in-Ok.ensures.asked in
    either c.run_asked.ensures.at_most (λ kept. kept) (λ most.
    inr (c.in-Some.asked, run, most))
