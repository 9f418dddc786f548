use Rattle.std.proofs.Common.{arith, sym, take}
use Rattle.std.proofs.lemmas.List.{length-take}
use Rattle.regatta_rulings.proofs.ArgumentFacts.{full_step, all_listed}
use Rattle.regatta_rulings.proofs.arguments.read_numbers.Goals as goal

pub loop-rest-preserved : goal.loop-rest-preserved
loop-rest-preserved c = record {
  in_range = c.loop-rest.invariant.in_range;
  slots = c.loop-rest.invariant.slots;
  found = full_step (take c.loop-rest.count c.loop-rest.numbers) c.in-Some.text.now
      c.cut.result.0.now _ _ _ (omega (arith, length-take c.loop-rest.count c.loop-rest.numbers))
      c.cut.ensures.parts (sym c.in_ok-races.ensures.value)
      (rw c.in-Some.is at c.loop-rest.invariant.found);
}

pub returns : goal.returns
returns c = all_listed _ _ (omega (arith, length-take c.loop-rest.count c.loop-rest.numbers))
    (rw c.in_default.is at c.loop-rest.invariant.found)
