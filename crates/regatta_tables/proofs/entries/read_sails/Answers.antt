use Rattle.std.specs.Prelude.{Ok}
use Rattle.std.proofs.Common.{map, ap, ◌∙◌, ◌+◌, ◌≤◌, List, length, subst, sym, refl}
use Rattle.std.specs.List.{IsDistinct}
use Rattle.csv.specs.Records.{fields_of}
use Rattle.regatta_terms.specs.declared.sail.Sail.{Sail}
use Rattle.regatta_scores.specs.Journal.{same_sail}
use Rattle.regatta_terms.specs.declared.limits.TheConstants.{MAX_BOATS}
use Rattle.regatta_tables.proofs.ListFacts.{all_sound, sound_more, sails_more, told_fault}
use Rattle.regatta_tables.proofs.ListLaws.{few_sails, sails_once}
use Rattle.regatta_tables.proofs.entries.read_sails.Goals as goal

pub loop-number-preserved : goal.loop-number-preserved
loop-number-preserved c =
    let inv = c.loop-number.invariant in
    let sound = c.in-Ok.ensures.sound in
    let added = c.in-Ok.ensures.added in record {
      sound = inv.sound ∙ sound_more c.args.column c.args.records.now c.loop-number.number
          (c.loop-number.number + 2) c.index-records-number.result c.loop-number.sails.items
          c.loop-number-test.true c.index-records-number.is refl inv.so_far sound;
      so_far = sails_more c.args.column c.args.records.now c.loop-number.number
          c.index-records-number.result c.loop-number.sails.items c.add_sail.new.sails.items
          c.loop-number-test.true c.index-records-number.is inv.so_far added;
    }

pub returns-in-Err-clause-fault : goal.returns-in-Err-clause-fault
returns-in-Err-clause-fault c =
    let inv = c.loop-number.invariant in
    told_fault c.args.column c.args.records.now c.loop-number.number (c.loop-number.number + 2)
    c.index-records-number.result c.loop-number.sails.items c.in-Err.fault c.loop-number-test.true
    c.index-records-number.is refl inv.so_far inv.sound c.in-Err.ensures.fault

pub returns-clause-ok : goal.returns-clause-ok
returns-clause-ok c =
    all_sound c.args.column c.args.records.now c.loop-number.number c.loop-number.sails.items
    c.loop-number-test.false c.loop-number.invariant.so_far c.loop-number.invariant.sound
    ∙ ap Ok (sym c.new.ensures)

pub returns-clause-few : goal.returns-clause-few
returns-clause-few c =
    let read = all_sound c.args.column c.args.records.now c.loop-number.number
    c.loop-number.sails.items c.loop-number-test.false c.loop-number.invariant.so_far
    c.loop-number.invariant.sound in
    subst (λ (sails : List Sail). length sails ≤ MAX_BOATS) (sym c.new.ensures)
    (few_sails c.args.column (map fields_of c.args.records.now) c.loop-number.sails.items read)

pub returns-clause-once : goal.returns-clause-once
returns-clause-once c =
    let read = all_sound c.args.column c.args.records.now c.loop-number.number
    c.loop-number.sails.items c.loop-number-test.false c.loop-number.invariant.so_far
    c.loop-number.invariant.sound in
    subst (IsDistinct same_sail) (sym c.new.ensures)
    (sails_once c.args.column (map fields_of c.args.records.now) c.loop-number.sails.items read)
