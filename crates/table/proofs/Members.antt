-- Laws of sets and numbers of atoms that the code keeps in arrays, of any length. Assumes nothing.
use Prim.Native.Nat.{ℕ, zero, suc, ◌<◌}
use mathlib.Core.Path.{◌≡◌, refl, sym, ◌∙◌, ap}
use mathlib.Core.Logic.{⊎_elim}
use mathlib.Core.Bool.{Bool, true, false, not, ◌||◌, beq}
use mathlib.Core.List.{List}
use lib.Dec.{eqb}
use lib.ListN.{length, get_or, set, replicate}
use lib.Seq.{get_or-set_same, get_or-set_other}
use Rattle.theory.specs.Models.{AtomSet}
use Rattle.theory.proofs.Lists.{clash, test, eqb-eq, eqb_of, or_r}
use Rattle.table.specs.Sets.{member, number, standing}

-- An atom is as wanted exactly if the test of whether it is in the set answers what is wanted.
pub standing-is : (w : Bool) (M : AtomSet) (x : ℕ) → standing w M x ≡ beq (M x) w
standing-is true M x = sym (beq-true (M x))
  where
    beq-true : (b : Bool) → beq b true ≡ b
    beq-true true = refl
    beq-true false = refl
standing-is false M x = sym (beq-false (M x))
  where
    beq-false : (b : Bool) → beq b false ≡ not b
    beq-false true = refl
    beq-false false = refl

-- The same of a test's result b.
module _ (w : Bool) (M : AtomSet) (x : ℕ) (b : Bool) (told : b ≡ M x) where
  tested : standing w M x ≡ beq b w
  tested = standing-is w M x ∙ sym (ap (λ c. beq c w) told)

  pub stands : beq b w ≡ true → standing w M x ≡ true
  stands t = tested ∙ t

  pub stands-not : beq b w ≡ false → standing w M x ≡ false
  stands-not t = tested ∙ t

-- A list of one value reads as that value, past its end too where that is the default.
pub all_alike : {A : Type 0} (n i : ℕ) (a : A) → get_or (replicate n a) i a ≡ a
all_alike zero i a = refl
all_alike (suc n) zero a = refl
all_alike (suc n) (suc i) a = all_alike n i a

-- What a mark changes: the atom comes in, and every other stays as it is.
module _ (flags : List Bool) (a : ℕ) where
  pub mark-in : a < length flags → member (set flags a true) a ≡ true
  mark-in l = get_or-set_same flags a true false l

  pub mark-other : (x : ℕ) → (x ≡ a → ⊥) → member (set flags a true) x ≡ member flags x
  mark-other x n = get_or-set_other flags a x true false n

  pub mark-is : a < length flags → (x : ℕ) → member (set flags a true) x ≡ (eqb x a || member flags x)
  mark-is l x = ⊎_elim
      (λ (t : eqb x a ≡ true). (let e = eqb-eq x a t in
      ap (member (set flags a true)) e ∙ mark-in l ∙ sym (ap (λ b. b || member flags x) t)))
      (λ (t : eqb x a ≡ false). mark-other x (λ e. clash (eqb_of x a e) t) ∙ sym (ap (λ b. b || member flags x) t))
      (test (eqb x a))

  pub mark-keeps : a < length flags → (x : ℕ) → member flags x ≡ true → member (set flags a true) x ≡ true
  mark-keeps l x t = mark-is l x ∙ or_r (eqb x a) _ t

-- The same of a number kept for an atom.
module _ (kept : List ℕ) (a v : ℕ) where
  pub number_same : a < length kept → number (set kept a v) a ≡ v
  number_same l = get_or-set_same kept a v 0 l

  pub number-other : (x : ℕ) → (x ≡ a → ⊥) → number (set kept a v) x ≡ number kept x
  number-other x n = get_or-set_other kept a x v 0 n
