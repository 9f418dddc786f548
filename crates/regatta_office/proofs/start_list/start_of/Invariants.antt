use Rattle.std.proofs.Common.{◌≡◌, drop}
use Rattle.regatta_board.specs.Refusals.{last_number}
use Rattle.regatta_board.specs.declared.journal.TheConstants.{REPLAY_SEAT}
use Rattle.regatta_office.specs.Starts.{start_of}
use Rattle.regatta_office.proofs.start_list.start_of.Given as goal

-- the boats so far are entered, and the others are to come
abbrev pub invariant-loop-sail : goal.invariant-loop-sail
invariant-loop-sail l = record {
  last : l.last ≡ last_number l.start.items REPLAY_SEAT;
  start : start_of l.start.items (drop l.sail-index l.sails) ≡ start_of l.entries l.sails;
}
