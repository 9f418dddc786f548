-- A run that does what the words ask for.
use Rattle.std.specs.Prelude.{◌≡◌, ◌⊎◌, ℕ, true, false, List, Option}
use Rattle.std.specs.Io.KnownBytes.{Appends, Keeps}
use Rattle.regatta_words.specs.WordsText.{words_text}
use Rattle.regatta_office.specs.Asked.{AtMostExplainOf, AtMostPreviewOf, AtMostServingOf}
use Rattle.regatta_office.specs.Asked.{IsExplainOf, IsPreviewOf, IsReplayOf, IsServingOf}
use Rattle.regatta_office.specs.Asked.{WritesAtMost}
use Rattle.regatta_office.specs.CheckedStarts.{AtMostCheckOf, PrintsCheck}
use Rattle.regatta_office.specs.declared.options.Asked.{Asked}
use Rattle.regatta_office.specs.declared.options.Asked.TheVariants.{Replay, Serve, Words, Explain}
use Rattle.regatta_office.specs.declared.options.Asked.TheVariants.{Preview, Check}

-- a whole run: a replay or a preview of what the input gives; or a serving, the vocabulary, a standing
-- explained, or a check that says that nothing is wrong, which leave the input alone
abbrev pub IsRunOf : {R : Type 0} → (R → Option (List ℕ)) → Asked → R → R → Option (List ℕ)
    → Option (List ℕ) → Type 0
IsRunOf remaining (Replay asked) before after old new =
    IsReplayOf asked (remaining before) old new
IsRunOf remaining (Serve asked) before after old new =
    (after ≡ before) × IsServingOf asked old new
IsRunOf remaining Words before after old new = (after ≡ before) × Appends old new words_text
IsRunOf remaining (Explain series) before after old new =
    (after ≡ before) × IsExplainOf series old new
IsRunOf remaining (Preview asked) before after old new =
    IsPreviewOf asked (remaining before) old new
IsRunOf remaining (Check asked) before after old new =
    (after ≡ before) × PrintsCheck true asked old new

-- the most that a run has written, however it ended: a serving at most its table, `words` the
-- vocabulary, `explain` and `check` a document, and `preview` that of what the input gives; the contract
-- of `replay` says what a replay has written
abbrev pub AtMostRunOf : Asked → Option (List ℕ) → Option (List ℕ) → Option (List ℕ) → Type 0
AtMostRunOf (Replay asked) given old new = Unit {0}
AtMostRunOf (Serve asked) given old new = AtMostServingOf asked old new
AtMostRunOf Words given old new = WritesAtMost words_text old new
AtMostRunOf (Explain series) given old new = AtMostExplainOf series old new
AtMostRunOf (Preview asked) given old new = AtMostPreviewOf asked given old new
AtMostRunOf (Check asked) given old new = AtMostCheckOf asked old new

-- what a run with status 1 has written: a check nothing, or a document that says that something is wrong
abbrev pub FaultyRunOf : Asked → Option (List ℕ) → Option (List ℕ) → Type 0
FaultyRunOf (Replay asked) old new = Unit {0}
FaultyRunOf (Serve asked) old new = Unit {0}
FaultyRunOf Words old new = Unit {0}
FaultyRunOf (Explain series) old new = Unit {0}
FaultyRunOf (Preview asked) old new = Unit {0}
FaultyRunOf (Check asked) old new = Keeps old new ⊎ PrintsCheck false asked old new
