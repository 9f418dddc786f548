-- The codes of RRS A10: the abbreviation of each, and who gives it.
use Rattle.std.specs.Prelude.{ℕ, Bool, true, false, List, [], ◌∷◌, codes}
use Rattle.regatta_terms.specs.declared.command.Code.{Code}
use Rattle.regatta_terms.specs.declared.command.Code.TheVariants.{Dnc, Dns, Ocs, Ufd, Bfd, Dnf, Ret}
use Rattle.regatta_terms.specs.declared.command.Code.TheVariants.{Dsq, Dne}

-- every code
abbrev pub all_codes : List Code
all_codes = Dnc ∷ Dns ∷ Ocs ∷ Ufd ∷ Bfd ∷ Dnf ∷ Ret ∷ Dsq ∷ Dne ∷ []

-- the abbreviation of each code (RRS A10)
abbrev pub code_text : Code → List ℕ
code_text Dnc = codes "DNC"
code_text Dns = codes "DNS"
code_text Ocs = codes "OCS"
code_text Ufd = codes "UFD"
code_text Bfd = codes "BFD"
code_text Dnf = codes "DNF"
code_text Ret = codes "RET"
code_text Dsq = codes "DSQ"
code_text Dne = codes "DNE"

-- a code that only the protest committee gives (RRS A5.1 lists the others)
abbrev pub is_jury_code : Code → Bool
is_jury_code Dnc = false
is_jury_code Dns = false
is_jury_code Ocs = false
is_jury_code Ufd = false
is_jury_code Bfd = false
is_jury_code Dnf = false
is_jury_code Ret = false
is_jury_code Dsq = true
is_jury_code Dne = true
