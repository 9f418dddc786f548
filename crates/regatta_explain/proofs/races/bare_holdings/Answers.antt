use Rattle.std.proofs.Common.{sym}
use Rattle.regatta_explain.proofs.BareTexts.{bare_holdings}
use Rattle.regatta_explain.proofs.races.bare_holdings.Goals as goal

pub returns-then-is_bare : goal.returns-then-is_bare
returns-then-is_bare c = bare_holdings c.args.part.now (sym c.if-is_bare.ensures)
