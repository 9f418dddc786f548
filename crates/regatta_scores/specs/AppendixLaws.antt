-- That exactly one table is the standing of a journal by the sentences of Appendix A.
use Rattle.std.specs.Prelude.{◌≡◌, ◌↔◌, ℕ, All}
use Rattle.regatta_terms.specs.Entries.{IsEntry}
use Rattle.regatta_terms.specs.Rules.{RulesParts}
use Rattle.regatta_scores.specs.declared.table.Standing.{Standing}
use Rattle.regatta_scores.specs.AppendixA.{IsAppendixA}
use Rattle.regatta_scores.specs.Journal.{Journal}
use Rattle.regatta_scores.specs.RaceLaws.{NobodyTwice}
use Rattle.regatta_scores.specs.RacePoints.{journal_race}
use Rattle.regatta_scores.specs.Standing.{standing}

-- Whatever the rules of the series and the journal, no two tables fit the sentences.
abbrev pub AtMostOneFits : Type 0
AtMostOneFits = (rules : RulesParts) (journal : Journal) (one other : Standing) →
    IsAppendixA rules journal one → IsAppendixA rules journal other → one ≡ other

-- A table fits them if and only if it is the standing, if the parts of the journal's entries are in
-- range and no boat is in a finishing order twice.
abbrev pub OnlyTheStandingFits : Type 0
OnlyTheStandingFits = (rules : RulesParts) (journal : Journal) → All IsEntry journal →
    ((race : ℕ) → NobodyTwice (journal_race rules journal race)) → (table : Standing) →
    IsAppendixA rules journal table ↔ (table ≡ standing rules journal)
