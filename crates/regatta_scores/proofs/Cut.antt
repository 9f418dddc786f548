-- Groups as parts of one list of boats.
use Rattle.std.proofs.Common.{◌≡◌, ℕ, zero, suc, ◌+◌, ◌-◌, ◌<◌, ◌≤◌, Bool, true, false, ◌||◌, List}
use Rattle.std.proofs.Common.{[], ◌∷◌, ◌++◌, refl, ap, ◌∙◌, sym, arith, length, get_or, drop}
use Rattle.std.proofs.Common.{nat_eq, ◌↔◌, IsTrue, cond, subst, take, map}
use Rattle.std.specs.List.{between, list_any}
use Rattle.std.proofs.lemmas.List.Folds.{list_any-append}
use Rattle.std.proofs.lemmas.List.{take-append-le, take-append-drop, length-append, length-take-le}
use Rattle.std.proofs.lemmas.List.{length-drop}
use Rattle.std.proofs.lemmas.Slice.{between_is, between_to_end}
use Rattle.std.proofs.Math.Seq.{drop-append_seam, drop-length}
use Rattle.std.proofs.lemmas.List.{drop-drop}
use Rattle.regatta_scores.specs.Order.{stands_in}
use Rattle.regatta_scores.specs.Groups.{cut, Rises, begin, moved_end}
use Rattle.regatta_scores.proofs.Ranked.{apart_eq_back}

pub many_groups : (boats : List ℕ) (start : ℕ) (ends : List ℕ) →
    length (cut boats start ends) ≡ length ends
many_groups boats start [] = refl
many_groups boats start (end ∷ ends) = ap (λ n. suc n) (many_groups boats end ends)

pub upto_last : (start : ℕ) (ends : List ℕ) (last : ℕ) → Rises start ends last → start ≤ last
upto_last start [] last rises = omega (arith, rises)
upto_last start (end ∷ ends) last rises =
    let first = rises.0 in
    let rest = upto_last end ends last rises.1 in
    omega (arith, first, rest)

-- appending boats after a group doesn't change it
pub between_append : (start end : ℕ) (xs ys : List ℕ) → end ≤ length xs →
    between start end (xs ++ ys) ≡ between start end xs
between_append start end xs ys within =
    between_is (xs ++ ys) start end ∙ ap (drop start) (take-append-le end xs ys within)
    ∙ sym (between_is xs start end)

between_rest : (xs ys : List ℕ) → between (length xs) (length (xs ++ ys)) (xs ++ ys) ≡ ys
between_rest xs ys =
    between_to_end (xs ++ ys) (length xs) (length (xs ++ ys)) (omega arith) ∙ drop-append_seam xs ys

pub cut_more : (boats group : List ℕ) (start : ℕ) (ends : List ℕ) →
    Rises start ends (length boats) →
    cut (boats ++ group) start (ends ++ length (boats ++ group) ∷ [])
    ≡ cut boats start ends ++ group ∷ []
cut_more boats group start [] rises =
    ap (λ g. g ∷ []) (ap (λ n. between n (length (boats ++ group)) (boats ++ group)) rises
    ∙ between_rest boats group)
cut_more boats group start (end ∷ ends) rises =
    λ i. between_append start end boats group (upto_last end ends (length boats) rises.1) i
    ∷ cut_more boats group end ends rises.1 i

pub rises_more : (start : ℕ) (ends : List ℕ) (last more : ℕ) → Rises start ends last → last ≤ more →
    Rises start (ends ++ more ∷ []) more
rises_more start [] last more rises upto = (omega (arith, rises, upto), refl)
rises_more start (end ∷ ends) last more rises upto =
    (rises.0, rises_more end ends last more rises.1 upto)

pub no_groups : {X : Type 0} (xs : List X) → IsTrue (nat_eq (length xs) 0) ↔ (xs ≡ [])
no_groups [] = (λ h. refl, λ h. refl)
no_groups (x ∷ xs) = (
  λ h. let wrong : true ≡ false = sym h ∙ apart_eq_back (length (x ∷ xs)) 0 (omega arith) in cc,
  λ h. let same : length (x ∷ xs) ≡ 0 = ap length h in absurd (omega (arith, same)),
)

-- ---- one group

unfoldable pub begin_from : ℕ → List ℕ → ℕ → ℕ
begin_from start ends zero = start
begin_from start ends (suc at) = get_or ends at 0

pub begin_next : (start end : ℕ) (ends : List ℕ) (at : ℕ) →
    begin_from start (end ∷ ends) (suc at) ≡ begin_from end ends at
unfolding begin_from
begin_next start end ends zero = refl
begin_next start end ends (suc at) = refl

pub begin_is : (ends : List ℕ) (at : ℕ) → begin ends at ≡ begin_from 0 ends at
unfolding begin_from
begin_is ends zero = refl
begin_is ends (suc at) =
    ap (λ b. cond b 0 (get_or ends (suc at - 1) 0)) (apart_eq_back (suc at) 0 (omega arith))
    ∙ ap (λ n. get_or ends n 0) (omega arith)

group_from : (boats : List ℕ) (start : ℕ) (ends : List ℕ) (at : ℕ) → at < length ends →
    get_or (cut boats start ends) at []
    ≡ between (begin_from start ends at) (get_or ends at 0) boats
unfolding begin_from
group_from boats start [] at within = absurd (omega arith)
group_from boats start (end ∷ ends) zero within = refl
group_from boats start (end ∷ ends) (suc at) within =
    group_from boats end ends at (omega arith)
    ∙ ap (λ n. between n (get_or ends at 0) boats) (sym (begin_next start end ends at))

bounds_from : (start : ℕ) (ends : List ℕ) (last at : ℕ) → Rises start ends last → at < length ends →
    (begin_from start ends at ≤ get_or ends at 0) × (get_or ends at 0 ≤ last)
unfolding begin_from
bounds_from start [] last at rises within = absurd (omega arith)
bounds_from start (end ∷ ends) last zero rises within = (rises.0, upto_last end ends last rises.1)
bounds_from start (end ∷ ends) last (suc at) rises within =
    let rest = bounds_from end ends last at rises.1 (omega arith) in
    let next = begin_next start end ends at in
    (omega (arith, rest.0, next), rest.1)

pub group_is : (boats ends : List ℕ) (at : ℕ) → at < length ends →
    get_or (cut boats 0 ends) at [] ≡ between (begin ends at) (get_or ends at 0) boats
group_is boats ends at within =
    group_from boats 0 ends at within
    ∙ ap (λ n. between n (get_or ends at 0) boats) (sym (begin_is ends at))

pub group_bounds : (ends : List ℕ) (last at : ℕ) → Rises 0 ends last → at < length ends →
    (begin ends at ≤ get_or ends at 0) × (get_or ends at 0 ≤ last)
group_bounds ends last at rises within =
    let both = bounds_from 0 ends last at rises within in
    let same = begin_is ends at in
    (omega (arith, both.0, same), both.1)

-- ---- the boats in the order

drop_any : (p : ℕ → Bool) (start end : ℕ) (xs : List ℕ) → start ≤ end → end ≤ length xs →
    list_any p (drop start xs) ≡ (list_any p (between start end xs) || list_any p (drop end xs))
drop_any p start end xs rises within =
    let whole : start + (end - start) ≡ end = omega (arith, rises) in
    ap (list_any p) (sym (take-append-drop (end - start) (drop start xs))
    ∙ ap (λ ys. between start end xs ++ ys) (drop-drop (end - start) start xs
    ∙ ap (λ n. drop n xs) whole)) ∙ list_any-append p (between start end xs) (drop end xs)

stands_from : (boats : List ℕ) (boat start : ℕ) (ends : List ℕ) → Rises start ends (length boats) →
    stands_in nat_eq boat (cut boats start ends)
    ≡ list_any (λ other. nat_eq other boat) (drop start boats)
stands_from boats boat start [] rises =
    sym (ap (list_any (λ other. nat_eq other boat)) (ap (λ n. drop n boats) rises ∙ drop-length boats))
stands_from boats boat start (end ∷ ends) rises =
    let test = λ (other : ℕ). nat_eq other boat in
    ap (λ b. list_any test (between start end boats) || b) (stands_from boats boat end ends rises.1)
    ∙ sym (drop_any test start end boats rises.0 (upto_last end ends (length boats) rises.1))

pub stands_is : (boats : List ℕ) (boat : ℕ) (ends : List ℕ) → Rises 0 ends (length boats) →
    stands_in nat_eq boat (cut boats 0 ends) ≡ list_any (λ other. nat_eq other boat) boats
stands_is boats boat ends rises = stands_from boats boat 0 ends rises

-- ---- one more group

pub pushed : (boats ends more longer group : List ℕ) (last : ℕ) → Rises 0 ends (length boats) →
    more ≡ boats ++ group → last ≡ length more → longer ≡ ends ++ last ∷ [] →
    Rises 0 longer (length more) × (cut more 0 longer ≡ cut boats 0 ends ++ group ∷ [])
pushed boats ends more longer group last rises is end longer_is =
    let many : length more ≡ length (boats ++ group) = ap length is in
    let last_is : last ≡ length (boats ++ group) = end ∙ many in
    let all : longer ≡ ends ++ length (boats ++ group) ∷ [] =
    longer_is ∙ ap (λ n. ends ++ n ∷ []) last_is in
    let sum = length-append boats group in (
      rw (all, many) (rises_more 0 ends (length boats) (length (boats ++ group)) rises
          (omega (arith, sum))),
      (λ i. cut (is i) 0 (all i)) ∙ cut_more boats group 0 ends rises,
    )

-- ---- the first groups of an order, and groups that come after others

-- there are as many ends as groups
pub within_ends : (boats ends : List ℕ) (order : List (List ℕ)) (at : ℕ) →
    cut boats 0 ends ≡ order → at ≤ length order → at ≤ length ends
within_ends boats ends order at is h = omega (arith, h, ap length is, many_groups boats 0 ends)

-- the rest of a list, by equal lists and positions
pub rest_of : (shown whole : List ℕ) (at first : ℕ) → at ≡ first → shown ≡ whole →
    between at (length shown) shown ≡ drop first whole
rest_of shown whole at first e f =
    between_to_end shown at (length shown) (omega arith) ∙ λ i. drop (e i) (f i)

-- where a group begins, or the last one ends
begins_within : (start : ℕ) (ends : List ℕ) (last many : ℕ) → Rises start ends last →
    many ≤ length ends → (start ≤ begin_from start ends many) × (begin_from start ends many ≤ last)
unfolding begin_from
begins_within start ends last zero rises within = (omega arith, upto_last start ends last rises)
begins_within start [] last (suc many) rises within = absurd (omega arith)
begins_within start (end ∷ ends) last (suc many) rises within =
    let rest = begins_within end ends last many rises.1 (omega arith) in
    let next = begin_next start end ends many in
    let first = rises.0 in
    (omega (arith, rest.0, next, first), omega (arith, rest.1, next))

pub begin_within : (ends : List ℕ) (last many : ℕ) → Rises 0 ends last → many ≤ length ends →
    begin ends many ≤ last
begin_within ends last many rises within =
    let both = begins_within 0 ends last many rises within in
    let same = begin_is ends many in
    omega (arith, both.1, same)

-- ---- the first groups

first_cut : (boats : List ℕ) (start : ℕ) (ends : List ℕ) (many : ℕ) →
    Rises start ends (length boats) → many ≤ length ends →
    cut (take (begin_from start ends many) boats) start (take many ends)
    ≡ take many (cut boats start ends)
unfolding begin_from
first_cut boats start ends zero rises within = refl
first_cut boats start [] (suc many) rises within = absurd (omega arith)
first_cut boats start (end ∷ ends) (suc many) rises within =
    let b = begin_from end ends many in
    let next = begin_next start end ends many in
    let inside = begins_within end ends (length boats) many rises.1 (omega arith) in
    let long = length-take-le b boats inside.1 in
    let one : between start end (take b boats) ≡ between start end boats =
    sym (between_append start end (take b boats) (drop b boats) (omega (arith, long, inside.0)))
    ∙ ap (between start end) (take-append-drop b boats) in
    let rest = first_cut boats end ends many rises.1 (omega arith) in
    ap (λ n. cut (take n boats) start (take (suc many) (end ∷ ends))) next ∙ (λ i. one i ∷ rest i)

first_rises : (boats : List ℕ) (start : ℕ) (ends : List ℕ) (many : ℕ) →
    Rises start ends (length boats) → many ≤ length ends →
    Rises start (take many ends) (length (take (begin_from start ends many) boats))
unfolding begin_from
first_rises boats start ends zero rises within =
    sym (length-take-le start boats (upto_last start ends (length boats) rises))
first_rises boats start [] (suc many) rises within = absurd (omega arith)
first_rises boats start (end ∷ ends) (suc many) rises within = (
  rises.0,
  subst (λ (n : ℕ). Rises end (take many ends) (length (take n boats)))
      (sym (begin_next start end ends many))
      (first_rises boats end ends many rises.1 (omega arith)),
)

pub first_groups : (boats ends firsts some : List ℕ) (many : ℕ) → Rises 0 ends (length boats) →
    many ≤ length ends → firsts ≡ take (begin ends many) boats → some ≡ take many ends →
    Rises 0 some (length firsts) × (cut firsts 0 some ≡ take many (cut boats 0 ends))
first_groups boats ends firsts some many rises within first_is some_is =
    let is : firsts ≡ take (begin_from 0 ends many) boats =
    first_is ∙ ap (λ n. take n boats) (begin_is ends many) in (
      rw (is, some_is) (first_rises boats 0 ends many rises within),
      (λ i. cut (is i) 0 (some_is i)) ∙ first_cut boats 0 ends many rises within,
    )

-- ---- later groups

rest_cut : (boats : List ℕ) (start : ℕ) (ends : List ℕ) (from : ℕ) →
    drop from (cut boats start ends) ≡ cut boats (begin_from start ends from) (drop from ends)
unfolding begin_from
rest_cut boats start ends zero = refl
rest_cut boats start [] (suc from) = refl
rest_cut boats start (end ∷ ends) (suc from) =
    rest_cut boats end ends from
    ∙ ap (λ n. cut boats n (drop from ends)) (sym (begin_next start end ends from))

rest_rises : (start : ℕ) (ends : List ℕ) (last from : ℕ) → Rises start ends last →
    from ≤ length ends → Rises (begin_from start ends from) (drop from ends) last
unfolding begin_from
rest_rises start ends last zero rises within = rises
rest_rises start [] last (suc from) rises within = absurd (omega arith)
rest_rises start (end ∷ ends) last (suc from) rises within =
    subst (λ (n : ℕ). Rises n (drop from ends) last) (sym (begin_next start end ends from))
    (rest_rises end ends last from rises.1 (omega arith))

all_above : (low start : ℕ) (ends : List ℕ) (last : ℕ) → low ≤ start → Rises start ends last →
    (k d : ℕ) → k < length ends → (low ≤ get_or ends k d) × (get_or ends k d ≤ last)
all_above low start [] last upto rises k d h = absurd (omega arith)
all_above low start (end ∷ ends) last upto rises zero d h =
    let first = rises.0 in
    (omega (arith, first, upto), upto_last end ends last rises.1)
all_above low start (end ∷ ends) last upto rises (suc k) d h =
    let first = rises.0 in
    all_above low end ends last (omega (arith, first, upto)) rises.1 k d (omega arith)

-- the ends of later groups
pub later_ends : (ends : List ℕ) (last from : ℕ) → Rises 0 ends last → from ≤ length ends →
    (k d : ℕ) → k < length (drop from ends) →
    (begin ends from ≤ get_or (drop from ends) k d) × (get_or (drop from ends) k d ≤ last)
later_ends ends last from rises within k d h =
    let both = all_above (begin_from 0 ends from) (begin_from 0 ends from) (drop from ends) last
    (omega arith) (rest_rises 0 ends last from rises within) k d h in
    let same = begin_is ends from in
    (omega (arith, both.0, same), both.1)

-- the boats from `begin` on, after others
module _ (xs boats : List ℕ) (b : ℕ) where
  abbrev moved : ℕ → ℕ
  moved = moved_end b (length xs)

  abbrev all : List ℕ
  all = xs ++ drop b boats

  moved_drop : (s : ℕ) → b ≤ s → drop (moved s) all ≡ drop s boats
  moved_drop s low =
      let order : moved s ≡ length xs + (s - b) = omega arith in
      let whole : b + (s - b) ≡ s = omega (arith, low) in
      ap (λ n. drop n all) order ∙ sym (drop-drop (s - b) (length xs) all)
      ∙ ap (drop (s - b)) (drop-append_seam xs (drop b boats))
      ∙ drop-drop (s - b) b boats ∙ ap (λ n. drop n boats) whole

  moved_cut : (s : ℕ) (ends : List ℕ) (last : ℕ) → b ≤ s → Rises s ends last →
      cut all (moved s) (map moved ends) ≡ cut boats s ends
  moved_cut s [] last low rises = refl
  moved_cut s (end ∷ ends) last low rises =
      let first = rises.0 in
      let long : moved end - moved s ≡ end - s = omega (arith, low, first) in
      let one : between (moved s) (moved end) all ≡ between s end boats =
      (λ i. take (long i) (moved_drop s low i)) in
      let rest = moved_cut end ends last (omega (arith, low, first)) rises.1 in
      λ i. one i ∷ rest i

  moved_rises : (s : ℕ) (ends : List ℕ) (last : ℕ) → b ≤ s → Rises s ends last →
      Rises (moved s) (map moved ends) (moved last)
  moved_rises s [] last low rises = ap moved rises
  moved_rises s (end ∷ ends) last low rises =
      let first = rises.0 in (
        omega (arith, low, first),
        moved_rises end ends last (omega (arith, low, first)) rises.1,
      )

cut_after : (xs ys : List ℕ) (start : ℕ) (es fs : List ℕ) → Rises start es (length xs) →
    cut (xs ++ ys) start (es ++ fs) ≡ cut xs start es ++ cut (xs ++ ys) (length xs) fs
cut_after xs ys start [] fs rises = ap (λ n. cut (xs ++ ys) n fs) rises
cut_after xs ys start (end ∷ es) fs rises =
    let one = between_append start end xs ys (upto_last end es (length xs) rises.1) in
    let rest = cut_after xs ys end es fs rises.1 in
    λ i. one i ∷ rest i

rises_after : (start : ℕ) (es fs : List ℕ) (middle last : ℕ) → Rises start es middle →
    Rises middle fs last → Rises start (es ++ fs) last
rises_after start [] fs middle last one two = subst (λ (n : ℕ). Rises n fs last) (sym one) two
rises_after start (end ∷ es) fs middle last one two =
    (one.0, rises_after end es fs middle last one.1 two)

-- an order after which come the groups of another, from one on
pub followed : (xs es boats ends shown shown_ends new_boats new_ends : List ℕ) (from at ahead : ℕ) →
    Rises 0 es (length xs) → Rises 0 ends (length boats) → from ≤ length ends →
    at ≡ begin ends from → ahead ≡ length xs → shown ≡ boats → shown_ends ≡ ends →
    new_boats ≡ xs ++ between at (length shown) shown →
    new_ends ≡ es ++ map (moved_end at ahead) (between from (length shown_ends) shown_ends) →
    Rises 0 new_ends (length new_boats)
    × (cut new_boats 0 new_ends ≡ cut xs 0 es ++ drop from (cut boats 0 ends))
followed xs es boats ends shown shown_ends new_boats new_ends from at ahead one two within first
    long is ends_is boats_are ends_are =
    let b = begin_from 0 ends from in
    let same = first ∙ begin_is ends from in
    let bs : new_boats ≡ xs ++ drop b boats =
    boats_are ∙ ap (λ ys. xs ++ ys) (rest_of shown boats at b same is) in
    let fs = map (moved_end b (length xs)) (drop from ends) in
    let es_are : new_ends ≡ es ++ fs =
    ends_are ∙ λ i. es ++ map (moved_end (same i) (long i))
    (rest_of shown_ends ends from from refl ends_is i) in
    let rest = rest_rises 0 ends (length boats) from two within in
    let inside = begins_within 0 ends (length boats) from two within in
    let at_b : moved_end b (length xs) b ≡ length xs = omega arith in
    let many : moved_end b (length xs) (length boats) ≡ length (xs ++ drop b boats) =
    omega (arith, inside.1, length-append xs (drop b boats), length-drop b boats) in
    let later : Rises (length xs) fs (length (xs ++ drop b boats)) =
    subst (λ (n : ℕ). Rises (length xs) fs n) many
    (subst (λ (n : ℕ). Rises n fs (moved_end b (length xs) (length boats))) at_b
    (moved_rises xs boats b b (drop from ends) (length boats) (omega arith) rest)) in
    let laters : cut (xs ++ drop b boats) (length xs) fs ≡ cut boats b (drop from ends) =
    ap (λ n. cut (xs ++ drop b boats) n fs) (sym at_b)
    ∙ moved_cut xs boats b b (drop from ends) (length boats) (omega arith) rest in (
      rw (es_are, bs) (rises_after 0 es fs (length xs) (length (xs ++ drop b boats)) one later),
      (λ i. cut (bs i) 0 (es_are i)) ∙ cut_after xs (drop b boats) 0 es fs one
          ∙ ap (λ gs. cut xs 0 es ++ gs) (laters ∙ sym (rest_cut boats 0 ends from)),
    )
