-- What a walk over the entries learns of whether they ascend below the limit. Assumes nothing.
use Prim.Native.Nat.{ℕ, ◌+◌, ◌≤◌, ◌<◌}
use native.Mathlib.Omega.{arith}
use mathlib.Core.Path.{◌≡◌, refl, sym, subst}
use mathlib.Core.Logic.{◌↔◌, ⊎_elim}
use mathlib.Core.Bool.{true, false}
use mathlib.Core.List.Memᴰ
use mathlib.Core.List.{List, ◌∷◌}
use lib.Dec.{ltb}
use lib.ListN.{length, get_or}
use lib.Seq.{slice}
use Rattle.theory.specs.Lists.{◌∈◌, every, Sorted}
use Rattle.theory.specs.Limits.{document}
use Rattle.theory.proofs.Lists.{clash, every-at, every_of, lt-ltb, ltb-lt}
use Rattle.table.specs.declared.Atom.{Atom}
use Rattle.table.specs.Rules.{no_atom, numbers}
use Rattle.table.proofs.Entries.{part-next, part-over}
use Rattle.questions.proofs.Cleanness.{is_not}

-- The numbers ascend, and each is below the limit.
abbrev pub Fits : List ℕ → Type 0
Fits xs = Sorted (λ x y. x < y) xs × (every (λ x. ltb x document.atoms) xs ≡ true)

-- The same of numbers none of which is below `least`.
abbrev pub FitsFrom : ℕ → List ℕ → Type 0
FitsFrom least xs = Sorted (λ x y. x < y) xs × ((x : ℕ) → x ∈ xs → (least ≤ x) × (x < document.atoms))

fits-start : (xs : List ℕ) → FitsFrom 0 xs ↔ Fits xs
fits-start xs = (
  λ f. (f.0, every_of (λ x. ltb x document.atoms) xs (λ x m. lt-ltb _ _ (f.1 x m).1)),
  λ f. (f.0, λ x m. (omega arith, ltb-lt _ _ (every-at (λ x. ltb x document.atoms) xs f.1 x m))),
)

fits_next :
    (least x : ℕ) (xs : List ℕ) → least ≤ x → x < document.atoms → FitsFrom (x + 1) xs ↔ FitsFrom least (x ∷ xs)
fits_next least x xs l k = (
  λ f. (
    (λ y m. (let w = f.1 y m in omega arith), f.0),
    λ y m. ⊎_elim
        (λ (e : y ≡ x). (omega arith, omega arith))
        (λ (i : y ∈ xs). (let w = f.1 y i in (omega arith, w.1)))
        (Memᴰ.cases_cons m),
  ),
  λ f. (f.0.1, λ y m. (let w = f.0.0 y m in (omega arith, (f.1 y (Memᴰ.tail m)).1))),
)

-- The walk over the entries to below `to` is at j, and what is left answers for the whole.
module _ (entries : List Atom) (from to : ℕ) where
  abbrev part : ℕ → List ℕ
  part j = numbers (slice j to entries)

  abbrev pub Walk : ℕ → ℕ → Type 0
  Walk j least = FitsFrom least (part j) ↔ Fits (part from)

  pub walk_start : Walk from 0
  walk_start = fits-start (part from)

  module _ (j least : ℕ) (left : Walk j least) where
    pub walk-over : to ≤ j → (true ≡ true) ↔ Fits (part from)
    walk-over l = (
      λ t. left.0 (subst (FitsFrom least) (sym (part-over entries j to l)) (tt, λ x m. absurd (Memᴰ.not-nil m))),
      λ f. refl,
    )

    module _ (l : j < to) (long : to ≤ length entries) where
      here : FitsFrom least (part j) → FitsFrom least ((get_or entries j no_atom).0 ∷ part (j + 1))
      here = subst (FitsFrom least) (part-next entries j to l long)

      pub walk-next :
          least ≤ (get_or entries j no_atom).0 → (get_or entries j no_atom).0 < document.atoms
          → Walk (j + 1) ((get_or entries j no_atom).0 + 1)
      walk-next k b =
          let w = fits_next least (get_or entries j no_atom).0 (part (j + 1)) k b in (
            λ f. left.0 (subst (FitsFrom least) (sym (part-next entries j to l long)) (w.0 f)),
            λ f. w.1 (here (left.1 f)),
          )

      pub walk-low : (get_or entries j no_atom).0 < least → (false ≡ true) ↔ Fits (part from)
      walk-low k = is_not (λ f. (let w = (here (left.1 f)).1 _ (Memᴰ.head refl) in omega arith))

      pub walk-past :
          ltb (get_or entries j no_atom).0 document.atoms ≡ false → (false ≡ true) ↔ Fits (part from)
      walk-past t = is_not (λ f. clash (lt-ltb _ _ ((here (left.1 f)).1 _ (Memᴰ.head refl)).1) t)
