-- What words ask for, by what `clap` says of them.
use Rattle.std.specs.Prelude.{◌⊎◌, ◌||◌, Box}
use Rattle.std.proofs.Common.{◌≡◌, Bool, true, false, List, Option, Some, None}
use Rattle.std.proofs.Common.{Ok, Err, IfSome, inl, inr, option_map, refl, sym, ap}
use Rattle.std.proofs.Common.{◌∙◌, subst}
use Rattle.std.specs.Box.{box_value}
use Rattle.clap.specs.Words.{App, FailsBy, HasMatchesOf, IsAmong, Row, Rule, Text, fault_of}
use Rattle.clap.specs.Words.{with_rule}
use Rattle.clap.specs.Words.{is_simple, kind_of, subcommand_of}
use Rattle.clap.specs.Words.{subcommand_rows_of, is_simple_and_free}
use Rattle.clap.specs.Simple.{subcommand_rows}
use Rattle.clap.specs.declared.error.Error.{Error}
use Rattle.clap.specs.declared.error.kind.ErrorKind.{ErrorKind}
use Rattle.clap.specs.declared.error.kind.ErrorKind.TheVariants.{DisplayHelp, DisplayVersion}
use Rattle.clap.specs.declared.error.kind.ErrorKind.TheVariants.{OutOfMemory}
use Rattle.clap.specs.declared.parser.matches.ArgMatches.{ArgMatches}
use Rattle.clap.specs.declared.parser.matches.ArgMatches.TheViews.{out-SubCommand}
use Rattle.clap.specs.declared.parser.matches.SubCommand.{SubCommand}
use Rattle.regatta_arguments.specs.Asking.{AskRun, AskText, IsText}

-- one of two cases, and what follows from each
pub either : {P Q R S : Type 0} → P ⊎ Q → (P → R) → (Q → S) → R ⊎ S
either (inl p) f g = inl (f p)
either (inr q) f g = inr (g q)

-- what the program understands, with one more option
pub with_one_more : (new old app : App) (rule known : Rule) → new ≡ with_rule old rule
    → old ≡ app → rule ≡ known → new ≡ with_rule app known
with_one_more new old app rule known is before same = is ∙ (λ i. with_rule (before i) (same i))

-- no argument of the command is global, with one more that isn't
pub stays_local : (new old global : Bool) → new ≡ (old || global) → global ≡ false → new ≡ old
stays_local new old global is local = is ∙ ap (λ (b : Bool). old || b) local ∙ or_false old
  where
    or_false : (b : Bool) → (b || false) ≡ b
    or_false true = refl
    or_false false = refl

-- the subcommand that was met, by its name and its rows
pub subcommand_is : {Z : Type 0} (met : Option (Box SubCommand Z)) (name : Text) (rows : List Row)
    → Some name ≡ option_map (λ b. (out-SubCommand (box_value b)).name.now) met
    → Some rows ≡ option_map (λ p. p.1) (subcommand_rows met)
    → subcommand_rows met ≡ Some (name, rows)
subcommand_is None name rows named found = absurd (some_not named)
  where
    some_not : Some name ≡ None → ⊥
    some_not e = cc
subcommand_is (Some b) name rows named found =
    λ i. Some (sym (same named) i, sym (same_rows found) i)
  where
    same : {x y : Text} → Some x ≡ Some y → x ≡ y
    same e = cc

    same_rows : {x y : List Row} → Some x ≡ Some y → x ≡ y
    same_rows e = cc

-- words that are taken have no fault, and ask for a run
pub matched : {A : Type 0} (known app : App) (meant : Option (Text × List Row) → Option A)
    (words : List Text) (m : ArgMatches) → is_simple known ≡ true → is_simple_and_free known ≡ true
    → app ≡ known → HasMatchesOf app words m
    → (is_simple_and_free app ≡ true → FailsBy {T = ArgMatches} (fault_of app words) (Ok m))
    → (r : Option A) → IfSome r (λ asked. meant (subcommand_rows_of m) ≡ Some asked)
    → IfSome r (AskRun known meant words)
matched {A = A} known app meant words m simple free is has fails r found = by r found
  where
    same : meant (subcommand_rows_of m) ≡ meant (subcommand_of known words)
    same = ap meant ((has (ap is_simple is ∙ simple)).1
        ∙ ap (λ (a : App). subcommand_of a words) is)

    by : (r : Option A) → IfSome r (λ asked. meant (subcommand_rows_of m) ≡ Some asked)
        → IfSome r (AskRun known meant words)
    by None found = tt
    by (Some asked) found = record {
      faultless = sym (ap (λ (a : App). fault_of a words) is)
          ∙ fails (ap is_simple_and_free is ∙ free);
      asks = sym same ∙ found;
    }

not_text : (e : Error) → kind_of e ≡ OutOfMemory → IsText (kind_of e) → ⊥
not_text e memory (inl help) = differ (sym memory ∙ help)
  where
    differ : OutOfMemory ≡ DisplayHelp → ⊥
    differ is = cc
not_text e memory (inr version) = differ (sym memory ∙ version)
  where
    differ : OutOfMemory ≡ DisplayVersion → ⊥
    differ is = cc

-- the error for a text comes only from arguments that ask for that text
pub text_asked : (known app : App) (words : List Text) (e : Error)
    → is_simple_and_free known ≡ true → app ≡ known
    → (is_simple_and_free app ≡ true → FailsBy {T = ArgMatches} (fault_of app words) (Err e))
    → IsText (kind_of e) → AskText known words
text_asked known app words e free is fails text = by (fails (ap is_simple_and_free is ∙ free)) text
  where
    asks : (kind : ErrorKind) → kind_of e ≡ kind → IsAmong (kind_of e) (fault_of app words)
        → IsAmong kind (fault_of known words)
    asks kind same among = subst (λ (a : App). IsAmong kind (fault_of a words)) is
        (subst (λ (k : ErrorKind). IsAmong k (fault_of app words)) same among)

    by : (kind_of e ≡ OutOfMemory) ⊎ IsAmong (kind_of e) (fault_of app words)
        → IsText (kind_of e) → AskText known words
    by (inl memory) text = absurd (not_text e memory text)
    by (inr among) (inl help) = inl (asks DisplayHelp help among)
    by (inr among) (inr version) = inr (asks DisplayVersion version among)
