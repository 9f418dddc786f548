use Rattle.std.proofs.Common.{refl, sym, ◌∙◌}
use Rattle.clap.specs.Words.{found_of}
use Rattle.clap.specs.declared.parser.matches.ArgMatches.TheViews.{out-ArgMatches}
use Rattle.times.proofs.Asking.{lines_is, sums_is}
use Rattle.times.proofs.options.run_asked.Goals as goal

-- lines
pub returns-in-Some : goal.returns-in-Some
returns-in-Some c =
    lines_is (out-ArgMatches c.args.matches.now).subcommand (found_of c.in-Some.options.now)
    c.in_ok-lines.lines (sym (c.in-Some.ensures.found.0 refl)) (sym c.in-Some.ensures.rows)
    (sym c.in_ok-lines.was ∙ c.race_of.ensures)

-- sums
pub returns : goal.returns
returns c =
    sums_is (out-ArgMatches c.args.matches.now).subcommand
    (found_of c.in_ok-options.options.now) c.in_ok-sums.sums
    (sym (c.in_ok-options.ensures.found.0 refl)) (sym c.in_ok-options.ensures.rows)
    (sym c.in_ok-sums.was ∙ c.race_of-2.ensures)
