-- One more pass, and one watcher fewer.
use Rattle.std.proofs.Common.{◌≡◌, ℕ, zero, suc, ◌+◌, List, [], ◌∷◌, ◌++◌, length, All, Some}
use Rattle.std.proofs.Common.{slice_get, sym, ap, subst, ◌∙◌, arith}
use mathlib.Core.List.{IsPrefix}
use Rattle.atomic_table.specs.Seated.{TableId}
use Rattle.regatta_terms.specs.Rules.{RulesParts}
use Rattle.regatta_scores.specs.Journal.{Journal}
use Rattle.regatta_watch.specs.Published.{Published}
use Rattle.regatta_watch.specs.declared.publication.ReaderView.{ReaderView}
use Rattle.regatta_watch.specs.Views.{looking, name_of, Sees}
use Rattle.regatta_watch.proofs.Prefixes.{prefix_self}
use Rattle.regatta_desk.specs.Passes.{PassValue}
use Rattle.regatta_desk.specs.Offices.{AreSeated, seated}

module _ (entries : Journal) where
  -- passes in order of seat, and one more
  seated_from : (n : ℕ) (passes : List PassValue) (p : PassValue)
      → ((k : ℕ) (q : PassValue) → slice_get passes k ≡ Some q → q ≡ seated entries (n + k))
      → p ≡ seated entries (n + length passes)
      → (k : ℕ) (q : PassValue) → slice_get (passes ++ p ∷ []) k ≡ Some q
      → q ≡ seated entries (n + k)
  seated_from n [] p all last zero q at = let same : p ≡ q = cc at in sym same ∙ last
  seated_from n [] p all last (suc k) q at = absurd (cc at)
  seated_from n (x ∷ xs) p all last zero q at = all zero q at
  seated_from n (x ∷ xs) p all last (suc k) q at =
      let shift : (j : ℕ) → suc n + j ≡ n + suc j = λ j. omega arith in
      seated_from (suc n) xs p
      (λ j r e. all (suc j) r e ∙ ap (seated entries) (sym (shift j)))
      (last ∙ ap (seated entries) (sym (shift (length xs)))) k q at
      ∙ ap (seated entries) (shift k)

  -- the same from seat 1
  pub seated_push : (passes : List PassValue) (p : PassValue) → AreSeated entries passes
      → p ≡ seated entries (length passes) → AreSeated entries (passes ++ p ∷ [])
  seated_push passes p all last k q at =
      let plain : (j : ℕ) → 0 + j ≡ j = λ j. omega arith in
      seated_from 0 passes p
      (λ j r e. all j r e ∙ ap (seated entries) (sym (plain j)))
      (last ∙ ap (seated entries) (sym (plain (length passes)))) k q at
      ∙ ap (seated entries) (plain k)

-- what holds of all members holds of the rest, and of the first
pub all_rest : {X : Type 0} (P : X → Type 0) (x : X) (xs : List X) → All P (x ∷ xs) → All P xs
all_rest P x xs all k d within = all (suc k) d (omega arith)

pub all_first : {A : Type 0} (P : A → Type 0) (x : A) (xs : List A) → All P (x ∷ xs) → P x
all_first P x xs h = h 0 x (omega arith)

-- a view that sees the published value whole
sees_looking : (v : ReaderView) (x : Published) (entries : Journal) (rules : RulesParts)
    (history : TableId) → v ≡ looking x → x.entries ≡ entries → x.rules ≡ rules
    → x.history ≡ history → Sees v entries rules history
sees_looking v x entries rules history is e r b = (
  subst (λ (w : Journal). IsPrefix entries w) (sym (ap (λ (w : ReaderView). w.seen) is ∙ e))
      (prefix_self entries),
  (
    ap (λ (w : ReaderView). w.named) is,
    ap (λ (w : ReaderView). w.rules) is ∙ r,
    ap (λ (w : ReaderView). w.history) is ∙ ap name_of b,
  ),
)

-- so each of the watchers sees it
pub all_sees : (views : List ReaderView) (x : Published) (entries : Journal) (rules : RulesParts)
    (history : TableId) → All (λ v. v ≡ looking x) views → x.entries ≡ entries
    → x.rules ≡ rules → x.history ≡ history → All (λ v. Sees v entries rules history) views
all_sees views x entries rules history h e r b =
    λ k d lt. sees_looking _ x entries rules history (h k d lt) e r b
