use Rattle.std.proofs.Common.{ℕ, List, Bor, map}
use Rattle.clap.specs.Words.{app_of}
use Rattle.regatta_arguments.proofs.Asking.{matched, text_asked}
use Rattle.regatta_office.proofs.Asking.{free, simple}
use Rattle.regatta_office.specs.Words.{asked_by, regatta}
use Rattle.regatta_office.proofs.options.options_of.Goals as goal

pub returns-in-Ok-try_get_matches_from-clause-asked :
    goal.returns-in-Ok-try_get_matches_from-clause-asked
returns-in-Ok-try_get_matches_from-clause-asked c =
    let app = c.in-Ok.ensures in
    let found = c.in-Ok-try_get_matches_from in (
      app.0,
      app.1,
      matched (regatta app.0) (app_of c.in-Ok.command) asked_by
          (map {A = Bor (List ℕ)} {B = List ℕ} (λ word. word.now) c.args.words.now)
          found.matches (simple app.0) (free app.0) app.2 found.ensures.matches found.ensures.kinds
          c.run_asked.result c.run_asked.ensures,
    )

pub returns-in-Err-clause-text : goal.returns-in-Err-clause-text
returns-in-Err-clause-text c = λ is.
    let app = c.in-Ok.ensures in (
      app.0,
      app.1,
      text_asked (regatta app.0) (app_of c.in-Ok.command)
          (map {A = Bor (List ℕ)} {B = List ℕ} (λ word. word.now) c.args.words.now)
          c.in-Err.error (free app.0) app.2 c.in-Err.ensures.kinds is,
    )
