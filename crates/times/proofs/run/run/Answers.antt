use Rattle.std.proofs.Common.{inl, inr, rules}
use Rattle.times.proofs.run.run.Goals as goal

pub returns-in-Ok-clause-done : goal.returns-in-Ok-clause-done
returns-in-Ok-clause-done g c = record {
  settings = c.in_ok-settings.settings;
  settled = search rules;
  sheet = c.in_ok-sheet.sheet.items;
  read = c.in_ok-sheet.ensures.all;
  list = c.in_ok-list.list.items;
  named = search rules;
  times = c.in_ok-times.times.items;
  timed = search rules;
  wrote = search rules;
}

pub returns-in-Ok-clause-at_most : goal.returns-in-Ok-clause-at_most
returns-in-Ok-clause-at_most g c = inr (inl (returns-in-Ok-clause-done g c))

-- a write failed
pub returns-clause-at_most : goal.returns-clause-at_most
returns-clause-at_most g c = inr (inr (record {
  settings = c.in_ok-settings.settings;
  settled = search rules;
  sheet = c.in_ok-sheet.sheet.items;
  read = c.in_ok-sheet.ensures.all;
  list = c.in_ok-list.list.items;
  named = search rules;
  times = c.in_ok-times.times.items;
  timed = search rules;
  wrote = search rules;
}))
