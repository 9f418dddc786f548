-- Which role sends which line, and gives which code. Who may send a command depends on neither race
-- nor sail, so one of each stands for all.
use Rattle.std.specs.Prelude.{ℕ, Bool, true, List, [], ◌∷◌, codes}
use Rattle.std.specs.List.{list_any}
use Rattle.regatta_terms.specs.declared.command.Code.{Code}
use Rattle.regatta_terms.specs.declared.command.Command.TheVariants as command
use Rattle.regatta_terms.specs.declared.command.PenaltyKind.{PenaltyKind}
use Rattle.regatta_terms.specs.declared.command.PenaltyKind.TheVariants.{Zfp, Scp}
use Rattle.regatta_terms.specs.declared.command.Redress as redress_type
use Rattle.regatta_terms.specs.declared.command.Redress.TheVariants.{AllRaces, RacesBefore}
use Rattle.regatta_terms.specs.declared.command.Role.{Role}
use Rattle.regatta_terms.specs.declared.sail.Sail.{Sail}
use Rattle.regatta_terms.specs.Codes.{all_codes}
use Rattle.regatta_terms.specs.Roles.{may_send}
use Rattle.regatta_words.specs.declared.forms.Form.{Form}
use Rattle.regatta_words.specs.declared.forms.Form.TheVariants as form

-- every kind of penalty
abbrev pub all_kinds : List PenaltyKind
all_kinds = Zfp ∷ Scp ∷ []

-- redress by each average
abbrev pub averages : List redress_type.Redress
averages = AllRaces ∷ RacesBefore ∷ []

-- a race and a sail
abbrev pub some_race : ℕ
some_race = 1

abbrev pub some_sail : Sail
some_sail = codes "A"

-- whether the role may give a boat the code
abbrev pub gives : Role → Code → Bool
gives role code = may_send role (command.Mark some_race some_sail code)

-- whether the role may send a line of the form: a command for which the role is right, and any line
-- that is no command
abbrev pub sends : Role → Form → Bool
sends role form.Finish = may_send role (command.Finish some_race some_sail)
sends role form.Tie = may_send role (command.Tie some_race some_sail some_sail)
sends role form.Before = may_send role (command.Before some_race some_sail some_sail)
sends role form.Time = may_send role (command.Time some_race some_sail 0)
sends role form.Strike = may_send role (command.Strike some_race some_sail)
sends role form.Mark = list_any (gives role) all_codes
sends role form.Penalty =
    list_any (λ kind. may_send role (command.Penalise some_race some_sail kind)) all_kinds
sends role form.Redress =
    list_any (λ redress. may_send role (command.Redress some_race some_sail redress)) averages
sends role form.Clear = may_send role (command.Clear some_race some_sail)
sends role form.Enter = may_send role (command.Enter some_sail)
sends role form.Score = may_send role (command.Score some_race)
sends role form.Unscore = may_send role (command.Unscore some_race)
sends role form.Role = true
sends role form.Rank = true
sends role form.Show = true
sends role form.Quit = true
