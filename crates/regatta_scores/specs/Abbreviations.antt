-- The abbreviations of a cell as letters (RRS A10).
use Rattle.std.specs.Prelude.{ℕ, List, codes}
use Rattle.regatta_terms.specs.Codes.{code_text}
use Rattle.regatta_terms.specs.CommandWords.{kind_text}
use Rattle.regatta_terms.specs.declared.command.PenaltyKind.TheVariants as kind
use Rattle.regatta_scores.specs.declared.table.Abbrev.{Abbrev}
use Rattle.regatta_scores.specs.declared.table.Abbrev.TheVariants.{Code, Zfp, Scp, Rdg}

-- the three letters of each: those of its code or kind of penalty
abbrev pub abbrev_text : Abbrev → List ℕ
abbrev_text (Code code) = code_text code
abbrev_text Zfp = kind_text kind.Zfp
abbrev_text Scp = kind_text kind.Scp
abbrev_text Rdg = codes "RDG"
