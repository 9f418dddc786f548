-- What codes and kinds of penalty mean, and how codes are scored.
use Rattle.std.specs.Prelude.{◌≡◌, ℕ, Bool, true, false, not, Some, List, codes, refl}
use Rattle.regatta_terms.specs.declared.command.Code.{Code}
use Rattle.regatta_terms.specs.declared.command.Code.TheVariants.{Dnc, Dns, Ocs, Ufd, Bfd, Dnf, Ret}
use Rattle.regatta_terms.specs.declared.command.Code.TheVariants.{Dsq, Dne}
use Rattle.regatta_terms.specs.declared.command.PenaltyKind.{PenaltyKind}
use Rattle.regatta_terms.specs.declared.command.PenaltyKind.TheVariants.{Zfp, Scp}
use Rattle.regatta_terms.specs.Codes.{code_text}
use Rattle.regatta_scores.specs.RacePoints.{Coded, base_by, is_dne}

-- the meaning of each code (RRS A10)
abbrev pub meaning : Code → List ℕ
meaning Dnc = codes "did not come to the starting area"
meaning Dns = codes "did not start"
meaning Ocs = codes "on the course side at the start"
meaning Ufd = codes "broke the flag U rule"
meaning Bfd = codes "broke the black flag rule"
meaning Dnf = codes "did not finish"
meaning Ret = codes "retired"
meaning Dsq = codes "disqualified"
meaning Dne = codes "disqualified; the score can't be excluded"

-- the rules of the Racing Rules of Sailing that each code is about: of those with none of their own,
-- the list of abbreviations
abbrev pub rule : Code → List ℕ
rule Dnc = codes "A10"
rule Dns = codes "A10"
rule Ocs = codes "28.1, 30.1"
rule Ufd = codes "30.3"
rule Bfd = codes "30.4"
rule Dnf = codes "A10"
rule Ret = codes "A10"
rule Dsq = codes "A10"
rule Dne = codes "90.3(b)"

-- whether a boat with the code broke a rule
abbrev pub is_breach : Code → Bool
is_breach Dnc = false
is_breach Dns = false
is_breach Ocs = true
is_breach Ufd = true
is_breach Bfd = true
is_breach Dnf = false
is_breach Ret = false
is_breach Dsq = true
is_breach Dne = true

-- DNC or DNF: the one of the two whose points the code has (A5.2, A5.3)
abbrev pub scores_as : Code → Code
scores_as Dnc = Dnc
scores_as Dns = Dnf
scores_as Ocs = Dnf
scores_as Ufd = Dnf
scores_as Bfd = Dnf
scores_as Dnf = Dnf
scores_as Ret = Dnf
scores_as Dsq = Dnf
scores_as Dne = Dnf

-- whatever the race, a code has the points of the code that it scores as
pub scored_alike : (code : Code) (place_points entered dnf : ℕ)
    → base_by (Coded code) place_points entered dnf
    ≡ base_by (Coded (scores_as code)) place_points entered dnf
scored_alike Dnc place_points entered dnf = refl
scored_alike Dns place_points entered dnf = refl
scored_alike Ocs place_points entered dnf = refl
scored_alike Ufd place_points entered dnf = refl
scored_alike Bfd place_points entered dnf = refl
scored_alike Dnf place_points entered dnf = refl
scored_alike Ret place_points entered dnf = refl
scored_alike Dsq place_points entered dnf = refl
scored_alike Dne place_points entered dnf = refl

-- the letters of the code that it scores as
unfoldable pub scored_text : Code → List ℕ
scored_text code = code_text (scores_as code)

-- whether a score by the code can be excluded: not if it is a DNE (90.3(b))
unfoldable pub can_be_excluded : Code → Bool
can_be_excluded code = not (is_dne (Some code))

-- the meaning of each kind of penalty
abbrev pub kind_meaning : PenaltyKind → List ℕ
kind_meaning Zfp = codes "20% penalty for breaking rule 30.2"
kind_meaning Scp = codes "Scoring Penalty"

-- the rule that each kind of penalty is about
abbrev pub kind_rule : PenaltyKind → List ℕ
kind_rule Zfp = codes "30.2"
kind_rule Scp = codes "44.3"
