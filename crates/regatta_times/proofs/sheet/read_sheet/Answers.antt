use Rattle.regatta_times.proofs.EveryBoat.{every_boat}
use Rattle.regatta_times.proofs.sheet.read_sheet.Goals as goal

pub returns-in-Ok-clause-sails : goal.returns-in-Ok-clause-sails
returns-in-Ok-clause-sails c =
    every_boat c.args.ratings.now c.args.overnight c.args.text.now c.in-Ok.boats.items
    c.in-Ok.ensures.ok
