-- Known bytes over several reads and writes, here and in a run.
use Rattle.std.proofs.Common.{refl, sym, ap, ◌∙◌, ◌≡◌, ℕ, List, [], ◌++◌, Option, Some, None}
use Rattle.std.proofs.Common.{arith, length, length-append, take, drop, ◌-◌, ◌<◌}
use Rattle.std.proofs.lemmas.List.{append-nil, append_assoc, length-drop, take-append-drop}
use Rattle.std.proofs.Math.Seq.{take-length, take-append_seam}
use Rattle.std.specs.Io.KnownBytes.{Appends, Consumes, Keeps}
use Rattle.regatta_streams.specs.Texts.{AppendsPrefix}

pub keeps-same : (a : Option (List ℕ)) → Keeps a a
keeps-same None = tt
keeps-same (Some xs) = refl

pub keeps-then : (a b c : Option (List ℕ)) → Keeps a b → Keeps b c → Keeps a c
keeps-then None b c h k = tt
keeps-then (Some xs) None c h k = absurd h
keeps-then (Some xs) (Some ys) None h k = k
keeps-then (Some xs) (Some ys) (Some zs) h k = k ∙ h

pub appends-none : (a : Option (List ℕ)) → Appends a a []
appends-none None = tt
appends-none (Some xs) = sym (append-nil xs)

pub appends-then : (a b c : Option (List ℕ)) (x y : List ℕ) → Appends a b x → Appends b c y
    → Appends a c (x ++ y)
appends-then None b c x y h k = tt
appends-then (Some xs) None c x y h k = absurd h
appends-then (Some xs) (Some ys) None x y h k = k
appends-then (Some xs) (Some ys) (Some zs) x y h k = k ∙ ap (λ t. t ++ y) h ∙ append_assoc xs x y

pub appends-keeps : (a b c : Option (List ℕ)) (x : List ℕ) → Appends a b x → Keeps b c
    → Appends a c x
appends-keeps None b c x h k = tt
appends-keeps (Some xs) None c x h k = absurd h
appends-keeps (Some xs) (Some ys) None x h k = k
appends-keeps (Some xs) (Some ys) (Some zs) x h k = k ∙ h

pub consumes-keeps : (a b c : Option (List ℕ)) (x : List ℕ) → Consumes a b x → Keeps b c
    → Consumes a c x
consumes-keeps None b c x h k = tt
consumes-keeps (Some xs) None c x h k = absurd h
consumes-keeps (Some xs) (Some ys) None x h k = k
consumes-keeps (Some xs) (Some ys) (Some zs) x h k = h ∙ ap (λ t. x ++ t) (sym k)

pub keeps-appends : (a b c : Option (List ℕ)) (x : List ℕ) → Keeps a b → Appends b c x
    → Appends a c x
keeps-appends None b c x h k = tt
keeps-appends (Some xs) None c x h k = absurd h
keeps-appends (Some xs) (Some ys) None x h k = k
keeps-appends (Some xs) (Some ys) (Some zs) x h k = k ∙ ap (λ t. t ++ x) h

pub consumes-none : (a : Option (List ℕ)) → Consumes a a []
consumes-none None = tt
consumes-none (Some xs) = refl

pub consumes-then : (a b c : Option (List ℕ)) (x y : List ℕ) → Consumes a b x → Consumes b c y
    → Consumes a c (x ++ y)
consumes-then None b c x y h k = tt
consumes-then (Some xs) None c x y h k = absurd h
consumes-then (Some xs) (Some ys) None x y h k = k
consumes-then (Some xs) (Some ys) (Some zs) x y h k = h ∙ ap (λ t. x ++ t) k
    ∙ sym (append_assoc x y zs)

pub rest_split : (n : ℕ) (xs : List ℕ) → xs ≡ take n xs ++ take (length xs - n) (drop n xs)
rest_split n xs =
    sym (take-append-drop n xs) ∙ ap (λ t. take n xs ++ t)
    (sym (take-length (drop n xs)) ∙ ap (λ k. take k (drop n xs)) (length-drop n xs))

-- a front of the bytes was written, and others are left
pub front-written : (a b : Option (List ℕ)) (bytes done rest : List ℕ) → bytes ≡ done ++ rest
    → 0 < length rest → Appends a b done → AppendsPrefix a b bytes
front-written a b bytes done rest e some h = (
  length done,
  omega (arith, some, ap length e, length-append done rest),
  rw (e, take-append_seam done rest) h,
)
