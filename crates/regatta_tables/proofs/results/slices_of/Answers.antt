use Rattle.std.proofs.Common.{rules, ◌≡◌, ◌∙◌, ◌+◌, ◌<◌, ◌++◌, ◌∷◌, [], ℕ, List, length, get_or}
use Rattle.std.proofs.Common.{ap, sym, map, take}
use Rattle.std.proofs.lemmas.List.{map-append, map_more}
use Rattle.regatta_tables.proofs.results.slices_of.Goals as goal

-- what is seen of one thing more
seen_more : {X Y : Type 0} (f : Y → List ℕ) (g : X → List ℕ) (xs : List X) (i : ℕ) (x : X)
    (ys new : List Y) (y : Y) → i < length xs → x ≡ get_or xs i x → f y ≡ g x
    → map f ys ≡ map g (take i xs) → new ≡ ys ++ y ∷ [] → map f new ≡ map g (take (i + 1) xs)
seen_more f g xs i x ys new y below item same so_far added =
    ap (map f) added ∙ map-append f ys (y ∷ []) ∙ (λ j. so_far j ++ same j ∷ [])
    ∙ ap (λ z. map g (take i xs) ++ g z ∷ []) item ∙ sym (map_more g xs i x below)

pub loop-field-preserved : goal.loop-field-preserved
loop-field-preserved c =
    let added : c.push.new.self.items ≡ c.loop-field.slices.items ++ c.as_slice.result ∷ [] =
    search rules in
    seen_more (λ slice. slice.now) (λ field. field.items) c.args.texts.now c.loop-field.field-index
    c.field-item.result c.loop-field.slices.items c.push.new.self.items c.as_slice.result
    c.loop-field-test.true c.field-item.is c.as_slice.ensures.value c.loop-field.invariant added
