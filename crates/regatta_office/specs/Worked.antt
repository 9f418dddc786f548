-- Worked examples, by computation: the default rules, no start, and the table at the end.
use Rattle.std.specs.Prelude.{◌≡◌, ℕ, List, [], ◌∷◌, ◌++◌, None, refl, codes, false, true}
use Rattle.std.specs.Fmt.{digits}
use Rattle.regatta_terms.specs.Lines.{line_of, line_of_words, command_of_words}
use Rattle.regatta_terms.specs.Rules.{RulesParts}
use Rattle.regatta_terms.specs.declared.rules.Absent.TheVariants.{A52}
use Rattle.regatta_tables.specs.Examples.{Gives}
use Rattle.regatta_arguments.specs.declared.texts.TheConstants.{TEXT_LIMIT}
use Rattle.regatta_office.specs.declared.form.Form.TheVariants.{Table, Journal}
use Rattle.regatta_office.specs.declared.run.TheConstants.{INPUT_LIMIT}
use Rattle.regatta_office.specs.Transcript.{replies, talk_at_end, up_to_quit, run_text}

-- A5.2, 20% for a Scoring Penalty, one score excluded from the second race on
abbrev default_rules : RulesParts
default_rules = record { absent = A52; scp = None; thresholds = 2 ∷ []; handicap = false }

-- the same with no score excluded
abbrev no_exclusions : RulesParts
no_exclusions = record { absent = A52; scp = None; thresholds = []; handicap = false }

-- the default rules, with places by corrected times (A3)
abbrev by_times : RulesParts
by_times = record default_rules { handicap = true }

-- what a run from no start writes, under the default rules
abbrev run : List ℕ → List ℕ
run text = run_text default_rules [] Table text

-- the limits: the bytes of an input that are answered, and the bytes of a start file
pub bytes_at_most : (INPUT_LIMIT ≡ 1048576) × (TEXT_LIMIT ≡ 1048576)
bytes_at_most = (refl, refl)

pub runs : Gives run
    -- nobody is entered
    ((codes "SHOW", codes "JOURNAL 0\nTABLE 0 RACES\nEND\nTABLE 0 RACES\n")
    -- three boats entered, and no race scored
    ∷ (
      codes "ENTER C\nENTER A\nENTER B\n",
      codes "OK 1 1 0.0\nOK 2 1= 0.0\nOK 3 1= 0.0\nTABLE 3 RACES\n1= A 0.0\n1= B 0.0\n1= C 0.0\n",
    )
    -- two boats finish a race that counts
    ∷ (
      codes "ENTER A\nENTER B\nFINISH 1 B\nFINISH 1 A\nSCORE 1\n",
      codes "OK 1 1 0.0\nOK 2 1= 0.0\nOK 3 1= 0.0\nOK 4 1= 0.0\nOK 5\nTABLE 2 RACES 1\n"
          ++ codes "1 B 1.0 1.0\n2 A 2.0 2.0\n",
    )
    -- a boat of a tie is disqualified, and the current role decides who may do so (A6.1, A7, A5.1)
    ∷ (
      codes "ENTER A\nENTER B\nENTER C\nFINISH 1 A\nTIE 1 B A\nFINISH 1 C\nSCORE 1\n"
          ++ codes "ROLE JURY\nMARK 1 A DSQ\nROLE FINISH\nMARK 1 B DSQ\nROLE SCORER\n"
          ++ codes "MARK 1 A RET\n",
      codes "OK 1 1 0.0\nOK 2 1= 0.0\nOK 3 1= 0.0\nOK 4 1= 0.0\nOK 5 1= 0.0\nOK 6 1= 0.0\n"
          ++ codes "OK 7\nROLE JURY\nOK 8 3 4.0\nROLE FINISH\nNO 4\nROLE SCORER\nNO 10\n"
          ++ codes "TABLE 3 RACES 1\n1 B 1.0 1.0\n2 C 2.0 2.0\n3 A 4.0 4.0/DSQ\n",
    )
    -- without corrected times a time is refused
    ∷ (codes "ENTER A\nTIME 1 A 5\n", codes "OK 1 1 0.0\nNO 16\nTABLE 1 RACES\n1 A 0.0\n")
    -- the last line needs no LF
    ∷ (
      codes "ENTER A\nENTER B",
      codes "OK 1 1 0.0\nOK 2 1= 0.0\nTABLE 2 RACES\n1= A 0.0\n1= B 0.0\n",
    ) ∷ [])
unfolding digits replies talk_at_end up_to_quit line_of line_of_words command_of_words
runs = refl

-- redress as an average follows another race (A9), under other rules
pub redress : run_text no_exclusions [] Table
    (codes "ENTER A\nENTER B\nFINISH 1 A\nFINISH 1 B\nFINISH 2 B\nSCORE 1\nSCORE 2\n"
    ++ codes "ROLE JURY\nREDRESS 2 A ALL\nROLE SCORER\nSTRIKE 1 A\nBEFORE 1 A B\n")
    ≡ codes "OK 1 1 0.0\nOK 2 1= 0.0\nOK 3 1= 0.0\nOK 4 1= 0.0\nOK 5 1= 0.0\nOK 6\nOK 7\n"
    ++ codes "ROLE JURY\nOK 8 1 2.0\nROLE SCORER\nOK 9 2 6.0\nOK 10 1 2.0\n"
    ++ codes "TABLE 2 RACES 1 2\n1 A 2.0 1.0 1.0/RDG\n2 B 3.0 2.0 1.0\n"
unfolding digits replies talk_at_end up_to_quit line_of line_of_words command_of_words
redress = refl

-- equal seconds tie (A3, A7); a time is struck and given again, and a finish is refused
pub corrected_times : run_text by_times [] Table
    (codes "ENTER A\nENTER B\nENTER C\nTIME 1 A 3605\nTIME 1 B 3600\nTIME 1 C 3605\nSCORE 1\n"
    ++ codes "RANK C\nSTRIKE 1 A\nTIME 1 A 3599\nFINISH 1 B\nTIME 1 B 1\nTIME 1 X 1\n"
    ++ codes "TIME 1 A 1000000\nTIME 1 A\nROLE JURY\nTIME 1 B 1\n")
    ≡ codes "OK 1 1 0.0\nOK 2 1= 0.0\nOK 3 1= 0.0\nOK 4 1= 0.0\nOK 5 1= 0.0\nOK 6 1= 0.0\n"
    ++ codes "OK 7\nRANK 2= 2.5\nOK 8 3 4.0\nOK 9 1 1.0\nNO 16\nNO 8\nNO 7\nNO 29\nNO 22\n"
    ++ codes "ROLE JURY\nNO 4\nTABLE 3 RACES 1\n1 A 1.0 1.0\n2 B 2.0 2.0\n3 C 3.0 3.0\n"
unfolding digits replies talk_at_end up_to_quit line_of line_of_words command_of_words
corrected_times = refl

-- lines after QUIT aren't answered
pub the_end_of_a_talk : run_text default_rules [] Journal
    (codes "ENTER A\nRANK A\nRANK B\nQUIT\nENTER C\n")
    ≡ codes "OK 1 1 0.0\nRANK 1 0.0\nNO 7\nBYE\nREGATTA 2\n1 1 SCORER ENTER A\n"
unfolding digits replies talk_at_end up_to_quit line_of line_of_words command_of_words
the_end_of_a_talk = refl
