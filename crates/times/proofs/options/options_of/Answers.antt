use Rattle.std.proofs.Common.{ℕ, List, Bor, map}
use Rattle.clap.specs.Words.{app_of}
use Rattle.regatta_arguments.proofs.Asking.{matched, text_asked}
use Rattle.times.proofs.Asking.{free, simple}
use Rattle.times.specs.Words.{asked_by, times}
use Rattle.times.proofs.options.options_of.Goals as goal

pub returns-in-Ok-try_get_matches_from-clause-asked :
    goal.returns-in-Ok-try_get_matches_from-clause-asked
returns-in-Ok-try_get_matches_from-clause-asked c =
    let found = c.in-Ok-try_get_matches_from in
    matched times (app_of c.in-Ok.command) asked_by
    (map {A = Bor (List ℕ)} {B = List ℕ} (λ word. word.now) c.args.words.now)
    found.matches simple free c.in-Ok.ensures found.ensures.matches found.ensures.kinds
    c.run_asked.result c.run_asked.ensures

pub returns-in-Err-clause-text : goal.returns-in-Err-clause-text
returns-in-Err-clause-text c = λ is.
    text_asked times (app_of c.in-Ok.command)
    (map {A = Bor (List ℕ)} {B = List ℕ} (λ word. word.now) c.args.words.now)
    c.in-Err.error free c.in-Ok.ensures c.in-Err.ensures.kinds is
