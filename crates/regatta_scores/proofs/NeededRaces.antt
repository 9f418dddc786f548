-- Without one of the sentences of the scores of a race another table fits.
use Rattle.std.proofs.Common.{ℕ, ◌+◌, min, false, cond}
use Rattle.std.proofs.Common.{[], ◌∷◌, refl, ap, arith}
use Rattle.std.proofs.Common.{nat_lt}
use borrow.Author.Tests.{le-ltb, lt-ltb}
use Rattle.regatta_terms.specs.declared.command.Code.TheVariants as code
use Rattle.regatta_scores.specs.declared.table.Abbrev.TheVariants as abbreviation
use Rattle.regatta_scores.specs.Journal.{order}
use Rattle.regatta_scores.specs.Standing.{standing}
use Rattle.regatta_scores.specs.Needed.{Sentences, all, FitsToo}
use Rattle.regatta_scores.specs.WorkedStandings.{a}
use Rattle.regatta_scores.specs.WorkedStandings.{no_exclusions, plain, marked, coded, row, table}
use Rattle.regatta_scores.specs.WorkedTimes.{by_times}
use Rattle.regatta_scores.proofs.FitRaces.{capped, uncapped}
use Rattle.regatta_scores.proofs.NeededTables.{in_each, made, one_group, no_group}
use Rattle.regatta_scores.proofs.NeededTables.{made_fits, plain_cell, one_cell}
use Rattle.regatta_scores.proofs.NeededSeries.{finishes, coded_by, penalised, timed}
use Rattle.regatta_scores.proofs.NeededSeries.{a53_rules, told_apart, nets}
use Rattle.regatta_scores.proofs.NeededSeries.{Shares, first_alone, nobody, upto}
use Rattle.regatta_scores.proofs.NeededSeries.{alone_too}

-- ---- the scores of a race

abbrev but_a3_finish : Sentences
but_a3_finish = record all { a3_finish = false }

-- she finished, and is scored as if she had not
pub a3_finish_needed : FitsToo but_a3_finish
a3_finish_needed =
    let done = finishes in
    let w = made no_exclusions done (λ race. []) 2 0 10 20 20 (upto 20) in
    let c = coded 20 code.Dnc in
    alone_too but_a3_finish no_exclusions done w c 20 refl refl
    (made_fits no_exclusions done (λ race. []) 2 0 10 20 20 (upto 20) but_a3_finish
    tt (λ race e. cc) (λ e. refl) (λ race e. cc) (λ race. no_group _) refl refl (record { not_above = omega arith; not_below = omega arith })
    (λ b x below. capped b x 20 below) (λ b x above. uncapped b x 20 above))
    (one_cell but_a3_finish no_exclusions done w a 1 20 false c refl
    (plain_cell but_a3_finish no_exclusions done w (row a 1 false 20 (c ∷ [])) 1 c
    refl refl refl (λ e. refl)) refl refl)
    (told_apart nets (table (1 ∷ []) (row a 1 false 20 (c ∷ []) ∷ []))
    (standing no_exclusions done) refl)

abbrev but_a3_time : Sentences
but_a3_time = record all { a3_time = false }

-- she has a time, and is scored as if she had none
pub a3_time_needed : FitsToo but_a3_time
a3_time_needed =
    let done = timed in
    let w = made by_times done (λ race. []) 2 0 10 20 20 (upto 20) in
    let c = coded 20 code.Dnc in
    alone_too but_a3_time by_times done w c 20 refl refl
    (made_fits by_times done (λ race. []) 2 0 10 20 20 (upto 20) but_a3_time
    (λ race e. cc) tt (λ e. refl) (λ race e. cc) (λ race. no_group _) refl refl (record { not_above = omega arith; not_below = omega arith })
    (λ b x below. capped b x 20 below) (λ b x above. uncapped b x 20 above))
    (one_cell but_a3_time by_times done w a 1 20 false c refl
    (plain_cell but_a3_time by_times done w (row a 1 false 20 (c ∷ [])) 1 c
    refl refl refl (λ e. refl)) refl refl)
    (told_apart nets (table (1 ∷ []) (row a 1 false 20 (c ∷ []) ∷ [])) (standing by_times done) refl)

abbrev but_a5_2 : Sentences
but_a5_2 = record all { a5_2 = false }

-- her DNF scores 5 points in a series of one boat
pub a5_2_needed : FitsToo but_a5_2
a5_2_needed =
    let done = coded_by code.Dnf in
    let w = made no_exclusions done (order no_exclusions done) 5 1 10 20 50 (upto 50) in
    let c = coded 50 code.Dnf in
    alone_too but_a5_2 no_exclusions done w c 50 refl refl
    (made_fits no_exclusions done (order no_exclusions done) 5 1 10 20 50 (upto 50) but_a5_2
    (λ race e. refl) (λ race e. cc) tt (λ race e. cc)
    (in_each done refl (Shares no_exclusions 10 20 50) (one_group _ (a ∷ []) (nobody _)) (no_group _) (no_group _)) refl refl
    (record { not_above = omega arith; not_below = omega arith }) (λ b x below. capped b x 50 below)
    (λ b x above. uncapped b x 50 above))
    (one_cell but_a5_2 no_exclusions done w a 1 50 false c refl
    (plain_cell but_a5_2 no_exclusions done w (row a 1 false 50 (c ∷ [])) 1 c
    refl refl refl (λ e. refl)) refl refl)
    (told_apart nets (table (1 ∷ []) (row a 1 false 50 (c ∷ []) ∷ []))
    (standing no_exclusions done) refl)

abbrev but_a5_3 : Sentences
but_a5_3 = record all { a5_3 = false }

-- the same under A5.3
pub a5_3_needed : FitsToo but_a5_3
a5_3_needed =
    let done = coded_by code.Dnf in
    let w = made a53_rules done (order a53_rules done) 5 1 10 20 50 (upto 50) in
    let c = coded 50 code.Dnf in
    alone_too but_a5_3 a53_rules done w c 50 refl refl
    (made_fits a53_rules done (order a53_rules done) 5 1 10 20 50 (upto 50) but_a5_3
    (λ race e. refl) (λ race e. cc) (λ e. cc) tt
    (in_each done refl (Shares a53_rules 10 20 50) (one_group _ (a ∷ []) (nobody _)) (no_group _) (no_group _)) refl refl
    (record { not_above = omega arith; not_below = omega arith }) (λ b x below. capped b x 50 below)
    (λ b x above. uncapped b x 50 above))
    (one_cell but_a5_3 a53_rules done w a 1 50 false c refl
    (plain_cell but_a5_3 a53_rules done w (row a 1 false 50 (c ∷ [])) 1 c
    refl refl refl (λ e. refl)) refl refl)
    (told_apart nets (table (1 ∷ []) (row a 1 false 50 (c ∷ []) ∷ [])) (standing a53_rules done) refl)

abbrev but_a4_a7 : Sentences
but_a4_a7 = record all { a4_a7 = false }

-- first place scores 1.5
pub a4_a7_needed : FitsToo but_a4_a7
a4_a7_needed =
    let done = finishes in
    let w = made no_exclusions done (order no_exclusions done) 2 0 15 20 20 (upto 20) in
    let c = plain 15 in
    alone_too but_a4_a7 no_exclusions done w c 15 refl refl
    (made_fits no_exclusions done (order no_exclusions done) 2 0 15 20 20 (upto 20) but_a4_a7
    (λ race e. refl) (λ race e. cc) (λ e. refl) (λ race e. cc) tt refl refl
    (record { not_above = omega arith; not_below = omega arith }) (λ b x below. capped b x 20 below)
    (λ b x above. uncapped b x 20 above))
    (one_cell but_a4_a7 no_exclusions done w a 1 15 false c refl
    (plain_cell but_a4_a7 no_exclusions done w (row a 1 false 15 (c ∷ [])) 1 c
    refl refl refl (λ e. refl)) refl refl)
    (told_apart nets (table (1 ∷ []) (row a 1 false 15 (c ∷ []) ∷ []))
    (standing no_exclusions done) refl)

abbrev but_dnc : Sentences
but_dnc = record all { dnc = false }

-- a boat that did not come scores 3 points in a series of one boat
pub dnc_needed : FitsToo but_dnc
dnc_needed =
    let done = coded_by code.Dnc in
    let w = made no_exclusions done (order no_exclusions done) 2 0 10 30 20 (upto 20) in
    let c = coded 30 code.Dnc in
    alone_too but_dnc no_exclusions done w c 30 refl refl
    (made_fits no_exclusions done (order no_exclusions done) 2 0 10 30 20 (upto 20) but_dnc
    (λ race e. refl) (λ race e. cc) (λ e. refl) (λ race e. cc)
    (in_each done refl (Shares no_exclusions 10 30 20) (one_group _ (a ∷ []) (nobody _)) (no_group _) (no_group _)) tt refl
    (record { not_above = omega arith; not_below = omega arith }) (λ b x below. capped b x 20 below)
    (λ b x above. uncapped b x 20 above))
    (one_cell but_dnc no_exclusions done w a 1 30 false c refl
    (plain_cell but_dnc no_exclusions done w (row a 1 false 30 (c ∷ [])) 1 c
    refl refl refl (λ e. refl)) refl refl)
    (told_apart nets (table (1 ∷ []) (row a 1 false 30 (c ∷ []) ∷ []))
    (standing no_exclusions done) refl)

abbrev but_coded : Sentences
but_coded = record all { coded = false }

-- a boat that did not finish scores 3 points, a point more than the DNF score
pub coded_needed : FitsToo but_coded
coded_needed =
    let done = coded_by code.Dnf in
    let w = made no_exclusions done (order no_exclusions done) 2 0 10 20 30 (upto 20) in
    let c = coded 30 code.Dnf in
    alone_too but_coded no_exclusions done w c 30 refl refl
    (made_fits no_exclusions done (order no_exclusions done) 2 0 10 20 30 (upto 20) but_coded
    (λ race e. refl) (λ race e. cc) (λ e. refl) (λ race e. cc)
    (in_each done refl (Shares no_exclusions 10 20 30) (one_group _ (a ∷ []) (nobody _)) (no_group _) (no_group _)) refl tt
    (record { not_above = omega arith; not_below = omega arith }) (λ b x below. capped b x 20 below)
    (λ b x above. uncapped b x 20 above))
    (one_cell but_coded no_exclusions done w a 1 30 false c refl
    (plain_cell but_coded no_exclusions done w (row a 1 false 30 (c ∷ [])) 1 c
    refl refl refl (λ e. refl)) refl refl)
    (told_apart nets (table (1 ∷ []) (row a 1 false 30 (c ∷ []) ∷ []))
    (standing no_exclusions done) refl)

abbrev but_nearest : Sentences
but_nearest = record all { nearest = false }

-- an SCP of 20% of 2 points costs a point
pub nearest_needed : FitsToo but_nearest
nearest_needed =
    let done = penalised in
    let w = made no_exclusions done (order no_exclusions done) 2 1 10 20 20 (upto 20) in
    let c = marked 20 abbreviation.Scp in
    alone_too but_nearest no_exclusions done w c 20 refl refl
    (made_fits no_exclusions done (order no_exclusions done) 2 1 10 20 20 (upto 20) but_nearest
    (λ race e. refl) (λ race e. cc) (λ e. refl) (λ race e. cc)
    (in_each done refl (Shares no_exclusions 10 20 20) (one_group _ (a ∷ []) (first_alone (w.base 1) refl)) (no_group _) (no_group _))
    refl refl tt (λ b x below. capped b x 20 below) (λ b x above. uncapped b x 20 above))
    (one_cell but_nearest no_exclusions done w a 1 20 false c refl
    (plain_cell but_nearest no_exclusions done w (row a 1 false 20 (c ∷ [])) 1 c
    refl refl refl (λ e. refl)) refl refl)
    (told_apart nets (table (1 ∷ []) (row a 1 false 20 (c ∷ []) ∷ []))
    (standing no_exclusions done) refl)

abbrev but_penalties : Sentences
but_penalties = record all { penalties = false }

-- a boat without a penalty scores 1.7 for first place
pub penalties_needed : FitsToo but_penalties
penalties_needed =
    let done = finishes in
    let worse = λ (b x : ℕ). cond (nat_lt b 20) 17 b in
    let w = made no_exclusions done (order no_exclusions done) 2 0 10 20 20 worse in
    let c = plain 17 in
    alone_too but_penalties no_exclusions done w c 17 refl refl
    (made_fits no_exclusions done (order no_exclusions done) 2 0 10 20 20 worse but_penalties
    (λ race e. refl) (λ race e. cc) (λ e. refl) (λ race e. cc)
    (in_each done refl (Shares no_exclusions 10 20 20) (one_group _ (a ∷ []) (first_alone (w.base 1) refl)) (no_group _) (no_group _))
    refl refl (record { not_above = omega arith; not_below = omega arith }) tt
    (λ b x above. ap (λ t. cond t 17 b) (le-ltb b 20 above)))
    (one_cell but_penalties no_exclusions done w a 1 17 false c refl
    (plain_cell but_penalties no_exclusions done w (row a 1 false 17 (c ∷ [])) 1 c
    refl refl refl (λ e. refl)) refl refl)
    (told_apart nets (table (1 ∷ []) (row a 1 false 17 (c ∷ []) ∷ []))
    (standing no_exclusions done) refl)

abbrev but_no_better : Sentences
but_no_better = record all { no_better = false }

-- a boat that did not finish and has no penalty scores 3.3
pub no_better_needed : FitsToo but_no_better
no_better_needed =
    let done = coded_by code.Dnf in
    let worse = λ (b x : ℕ). cond (nat_lt b 20) (min (b + x) 20) 33 in
    let w = made no_exclusions done (order no_exclusions done) 2 0 10 20 20 worse in
    let c = coded 33 code.Dnf in
    alone_too but_no_better no_exclusions done w c 33 refl refl
    (made_fits no_exclusions done (order no_exclusions done) 2 0 10 20 20 worse but_no_better
    (λ race e. refl) (λ race e. cc) (λ e. refl) (λ race e. cc)
    (in_each done refl (Shares no_exclusions 10 20 20) (one_group _ (a ∷ []) (nobody _)) (no_group _) (no_group _)) refl refl
    (record { not_above = omega arith; not_below = omega arith })
    (λ b x below. ap (λ t. cond t (min (b + x) 20) 33) (lt-ltb b 20 below)) tt)
    (one_cell but_no_better no_exclusions done w a 1 33 false c refl
    (plain_cell but_no_better no_exclusions done w (row a 1 false 33 (c ∷ [])) 1 c
    refl refl refl (λ e. refl)) refl refl)
    (told_apart nets (table (1 ∷ []) (row a 1 false 33 (c ∷ []) ∷ []))
    (standing no_exclusions done) refl)
