use Rattle.std.proofs.Common.{rules}
use Rattle.regatta.proofs.tests.sessions.WireSink.write.Goals as goal

pub returns-in-Ok : goal.returns-in-Ok
returns-in-Ok c = record {
  bound = search rules;
  some = search rules;
  bytes = search rules;
  keeps = search rules;
  well = search rules;
  failed = search rules;
  no_read = search rules;
}

pub returns-in-Err : goal.returns-in-Err
returns-in-Err c = record {
  bound = search rules;
  some = search rules;
  bytes = search rules;
  keeps = search rules;
  well = search rules;
  failed = search rules;
  no_read = search rules;
}
