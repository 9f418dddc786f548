use Rattle.std.proofs.Common.{refl, sym, ◌∙◌}
use Rattle.clap.specs.Words.{found_of}
use Rattle.clap.specs.declared.parser.matches.ArgMatches.TheViews.{out-ArgMatches}
use Rattle.regatta_office.proofs.Asking.{check_is, explain_is, preview_is, replay_is, serving_is, words_is}
use Rattle.regatta_office.proofs.options.run_asked.Goals as goal

-- a replay
pub returns-in-Some : goal.returns-in-Some
returns-in-Some c =
    replay_is (out-ArgMatches c.args.matches.now).subcommand (found_of c.in-Some.options.now)
    c.in_ok-replay.replay (sym (c.in-Some.ensures.found.0 refl)) (sym c.in-Some.ensures.rows)
    (sym c.in_ok-replay.was ∙ c.replay_asked.ensures)

-- a serving
pub returns-in-Some-subcommand_matches : goal.returns-in-Some-subcommand_matches
returns-in-Some-subcommand_matches c =
    serving_is (out-ArgMatches c.args.matches.now).subcommand
    (found_of c.in-Some-subcommand_matches.options.now) c.in_ok-serving.serving
    (sym (c.in-Some-subcommand_matches.ensures.found.0 refl)) (sym c.in-Some-subcommand_matches.ensures.rows)
    c.in_ok-serving.ensures

-- the vocabulary
pub returns-in-Some-subcommand_matches-2 : goal.returns-in-Some-subcommand_matches-2
returns-in-Some-subcommand_matches-2 c =
    words_is (out-ArgMatches c.args.matches.now).subcommand
    (found_of c.in-Some-subcommand_matches-2._options.now)
    (sym (c.in-Some-subcommand_matches-2.ensures.found.0 refl))
    (sym c.in-Some-subcommand_matches-2.ensures.rows)

-- a standing explained
pub returns-in-Some-subcommand_matches-3 : goal.returns-in-Some-subcommand_matches-3
returns-in-Some-subcommand_matches-3 c =
    explain_is (out-ArgMatches c.args.matches.now).subcommand
    (found_of c.in-Some-subcommand_matches-3.options.now) c.in_ok-series.series
    (sym (c.in-Some-subcommand_matches-3.ensures.found.0 refl))
    (sym c.in-Some-subcommand_matches-3.ensures.rows) (sym c.in_ok-series.was ∙ c.series_of.ensures)

-- what lines would do
pub returns-in-Some-subcommand_matches-4 : goal.returns-in-Some-subcommand_matches-4
returns-in-Some-subcommand_matches-4 c =
    preview_is (out-ArgMatches c.args.matches.now).subcommand
    (found_of c.in-Some-subcommand_matches-4.options.now) c.in_ok-preview.preview
    (sym (c.in-Some-subcommand_matches-4.ensures.found.0 refl))
    (sym c.in-Some-subcommand_matches-4.ensures.rows)
    (sym c.in_ok-preview.was ∙ c.preview_asked.ensures)

-- what is wrong
pub returns : goal.returns
returns c =
    check_is (out-ArgMatches c.args.matches.now).subcommand (found_of c.in_ok-options.options.now)
    c.in_ok-check.check (sym (c.in_ok-options.ensures.found.0 refl))
    (sym c.in_ok-options.ensures.rows) (sym c.in_ok-check.was ∙ c.check_asked.ensures)
