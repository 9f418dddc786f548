use Rattle.std.proofs.Common.{rules}
use Rattle.regatta.proofs.tests.wires.WiresDoor.next.Goals as goal

pub returns-in-Some : goal.returns-in-Some
returns-in-Some g c = record {
  well = search rules;
  failed = search rules;
  one = search rules;
  last = search rules;
}

pub returns : goal.returns
returns g c = record {
  well = search rules;
  failed = search rules;
  one = search rules;
  last = search rules;
}
