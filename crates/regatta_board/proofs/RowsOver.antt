-- The boats' ranks if only the first races that count did.
use Rattle.std.proofs.Common.{◌≡◌, ℕ, ◌≤◌, ◌∙◌, Bool, List, [], ◌∷◌, All, ap, arith, length, map, suc, take, true, sym, zero}
use Rattle.std.specs.List.{range_with_len}
use Rattle.std.proofs.lemmas.List.{take-map}
use Rattle.std.proofs.lemmas.List.Elements.{All-take, All-from_recursion, recursion_from_All}
use Rattle.regatta_terms.specs.Entries.{IsRace}
use Rattle.regatta_terms.specs.Rules.{RulesParts}
use Rattle.regatta_terms.specs.declared.limits.TheConstants.{MAX_RACES}
use Rattle.regatta_terms.specs.declared.sail.Sail.{Sail}
use Rattle.regatta_scores.specs.declared.boats.Place.{Place}
use Rattle.regatta_scores.specs.declared.boats.RaceScore.{RaceScore}
use Rattle.regatta_scores.specs.Journal.{Journal, entered, is_scored, scored}
use Rattle.regatta_scores.specs.Ranking.{BoatScores, places}
use Rattle.regatta_scores.proofs.Members.{all_passed}
use Rattle.regatta_board.specs.KeptJournal.{kept_of}
use Rattle.regatta_board.specs.RanksAfter.{boat_rank, rank_at, ranks_after}
use Rattle.regatta_board.specs.Refusals.{is_lawful, limits}
use Rattle.regatta_board.specs.Scoring.{AreColumns, columns_in}
use Rattle.regatta_board.specs.Table.{IsKept, Kept, columns, in_order, lines, races, row_at, rows}
use Rattle.regatta_board.proofs.Columns.{races_few}
use Rattle.regatta_board.proofs.LawfulJournals.{lawful_orderly}
use Rattle.regatta_board.proofs.Lines.{rows_are}
use Rattle.regatta_board.proofs.Maps.{map_map}
use Rattle.regatta_board.proofs.Numbers.{all_races}
use Rattle.regatta_board.proofs.Scored.{columns_found}
use Rattle.regatta_board.proofs.ScoringFacts.{columns_even}
use Rattle.regatta_board.proofs.TableOf.{races_are, rows_are_over}
use Rattle.regatta_board.proofs.TableOrder.{rows_ordered}

-- the columns of the first races that count are those of their sheets
pub first_columns : (rules : RulesParts) (kept : Kept) (slots : List (List RaceScore))
    → AreColumns rules kept.sheets kept.counts slots → (many : ℕ)
    → columns_in slots (take many (races kept.counts))
    ≡ columns rules kept.sheets (take many (races kept.counts))
first_columns rules kept slots are many =
    sym (take-map _ many (races kept.counts))
    ∙ ap (take many) (columns_found rules kept slots are)
    ∙ take-map _ many (races kept.counts)

take_short : (many : ℕ) (rs : List ℕ) → length (take many rs) ≤ length rs
take_short zero rs = omega arith
take_short (suc many) [] = omega arith
take_short (suc many) (r ∷ rs) = omega (arith, take_short many rs)

-- no more races are among the first than there are
pub first_few : (counts : List Bool) (many : ℕ) (rs : List ℕ) → rs ≡ races counts
    → length (take many rs) ≤ MAX_RACES
first_few counts many rs is =
    omega (arith, take_short many rs, ap length is, races_few counts)

-- and have a score for each boat
pub first_even : (rules : RulesParts) (kept : Kept) → IsKept kept → (many : ℕ)
    → All (λ c. length c ≡ length kept.sails)
    (columns rules kept.sheets (take many (races kept.counts)))
first_even rules kept is many =
    rw (← take-map _ many (races kept.counts))
    (All-take (λ c. length c ≡ length kept.sails) many
    (columns rules kept.sheets (races kept.counts)) (columns_even rules kept is))

-- ranks by number, in the order of the table, are those of its rows
pub ranks_are : (rules : RulesParts) (sails : List Sail) (found : List (List RaceScore))
    (ls : List BoatScores) (ps : List Place) → ls ≡ lines rules found (length sails)
    → ps ≡ places ls
    → map (rank_at sails ps) (in_order sails ps (range_with_len 0 (length sails)))
    ≡ map boat_rank (rows rules sails found)
ranks_are rules sails found ls ps made placed =
    sym (map_map boat_rank (row_at sails found ls ps)
    (in_order sails ps (range_with_len 0 (length sails))))
    ∙ ap (map boat_rank) (rows_ordered sails ps found ls
    ∙ rows_are rules sails found ls ps made placed)

-- and those by what is kept of a journal are the journal's
pub journal_ranks : (rules : RulesParts) (journal : Journal) → is_lawful limits rules journal ≡ true
    → (many : ℕ)
    → map boat_rank (rows rules (kept_of rules journal).sails
    (columns rules (kept_of rules journal).sheets (take many (races (kept_of rules journal).counts))))
    ≡ ranks_after rules journal many
journal_ranks rules journal lawful many =
    let orderly = lawful_orderly rules journal lawful in
    let within = recursion_from_All IsRace (take many (scored journal))
    (All-take IsRace many (scored journal)
    (All-from_recursion IsRace (scored journal)
    (all_passed IsRace (is_scored journal) (range_with_len 1 MAX_RACES) all_races))) in
    ap (λ (rs : List ℕ). map boat_rank (rows rules (entered journal)
    (columns rules (kept_of rules journal).sheets (take many rs)))) (races_are rules journal orderly)
    ∙ ap (map boat_rank) (rows_are_over rules journal orderly (take many (scored journal)) within)
