use Rattle.std.proofs.Common.{arith, sym, ◌∙◌}
use Rattle.regatta_office.proofs.Entering.{last_more, start_more, start_done}
use Rattle.regatta_office.proofs.start_list.start_of.Goals as goal

pub loop-sail-preserved : goal.loop-sail-preserved
loop-sail-preserved c =
    let old = c.loop-sail.start.items in
    let new = c.push.new.self.items in
    let sails = c.args.sails.now in
    let i = c.loop-sail.sail-index in
    record {
      last = c.nth-last.ensures.value ∙ last_more old new sails i c.loop-sail.last
          c.sail-item.result c.next_entry-entry.result
          (omega arith) c.sail-item.is c.loop-sail.invariant.last c.next_entry-entry.ensures
          c.in_ok-push.ensures.items;
      start = start_more old new sails i c.loop-sail.last c.sail-item.result
          c.next_entry-entry.result (omega arith) c.sail-item.is c.loop-sail.invariant.last
          c.next_entry-entry.ensures c.in_ok-push.ensures.items ∙ c.loop-sail.invariant.start;
    }

pub returns : goal.returns
returns c = c.new.ensures ∙ sym (start_done c.loop-sail.start.items c.args.sails.now
    c.loop-sail.sail-index (omega arith)) ∙ c.loop-sail.invariant.start
