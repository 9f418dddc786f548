use Rattle.std.proofs.Common.{sym}
use Rattle.regatta_explain.proofs.BareTexts.{bare_average}
use Rattle.regatta_explain.proofs.boats.bare_average.Goals as goal

pub returns-then-has_no_redress : goal.returns-then-has_no_redress
returns-then-has_no_redress c = bare_average c.args.part.now (sym c.if-has_no_redress.ensures)
