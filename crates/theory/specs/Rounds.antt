-- Request #104: the in atoms are sought in rounds over the slots, lowest layer first (specification 2.15). What a round
-- is, when a layer ends, how many rounds it has, and what that number lies between (specification 9.4). Assumes nothing.
use Rattle.std.specs.Prelude.{ℕ, zero, suc, ◌≤◌, ◌≡◌, Bool, true, false, not, ◌&&◌, ◌||◌, [], ◌∷◌, eqb}
use Rattle.std.proofs.Math.Option.{Option, none, some}
use Rattle.theory.specs.Rules.{Rule, Program, Pages, all, active}
use Rattle.theory.specs.Models.{AtomSet, valid}
use Rattle.theory.specs.Dependencies.{Stratum}
use Rattle.theory.specs.Derivations.{Depth}

-- The set M and one more atom.
abbrev pub with : ℕ → AtomSet → AtomSet
with a M = λ x. eqb x a || M x

-- A slot fires if it holds a rule that is valid in M and whose head is of layer k and not in M yet. The layer of each
-- atom is given by ℓ.
unfoldable pub fires : (ℕ → ℕ) → ℕ → AtomSet → Option Rule → Bool
fires ℓ k M none = false
fires ℓ k M (some r) = eqb (ℓ r.head) k && (not (M r.head) && valid M r)

-- A slot that fires puts its head into the set; any other leaves it.
abbrev pub head_added : Bool → Option Rule → AtomSet → AtomSet
head_added false o M = M
head_added true none M = M
head_added true (some r) M = with r.head M

unfoldable pub visit : (ℕ → ℕ) → ℕ → AtomSet → Option Rule → AtomSet
visit ℓ k M o = head_added (fires ℓ k M o) o M

-- A round visits the slots from the lowest on; an atom that it adds is seen by the slots after. This is the set after
-- it, and whether it added any.
unfoldable pub sweep : (ℕ → ℕ) → ℕ → AtomSet → Program → AtomSet
sweep ℓ k M [] = M
sweep ℓ k M (o ∷ P) = sweep ℓ k (visit ℓ k M o) P

unfoldable pub adds : (ℕ → ℕ) → ℕ → AtomSet → Program → Bool
adds ℓ k M [] = false
adds ℓ k M (o ∷ P) = fires ℓ k M o || adds ℓ k (visit ℓ k M o) P

-- A layer ends at its first round that adds none: from the set M on, layer k has n rounds, that one counted, and leaves
-- the set N.
pub data Rounds (P : Program) (ℓ : ℕ → ℕ) (k : ℕ) : AtomSet → ℕ → AtomSet → Type 0 where
  final : {M : AtomSet} → adds ℓ k M P ≡ false → Rounds P ℓ k M 1 M
  again :
      {M N : AtomSet} {n : ℕ} → adds ℓ k M P ≡ true → Rounds P ℓ k (sweep ℓ k M P) n N → Rounds P ℓ k M (suc n) N

-- Lowest layer first, and each once: M is the set when the layers below k have ended, one after another, from the set
-- without atoms on.
pub data FoundBelow (P : Program) (ℓ : ℕ → ℕ) : ℕ → AtomSet → Type 0 where
  nothing : FoundBelow P ℓ zero (λ a. false)
  next_stratum : {k n : ℕ} {M N : AtomSet} → FoundBelow P ℓ k M → Rounds P ℓ k M n N → FoundBelow P ℓ (suc k) N

-- Layer k has n rounds. The layer of an atom is its stratum, which all rules held have a part in; the slots that are
-- visited are those of the unmuted rules.
pub record RoundsOf (B : Pages) (k n : ℕ) : Type 0 where
  pub stratum : ℕ → ℕ
  pub exact : (a : ℕ) → Stratum (all B) a (stratum a)
  pub before : AtomSet
  pub after : AtomSet
  pub below : FoundBelow (active B) stratum k before
  pub rounds : Rounds (active B) stratum k before n after

-- What is told of a number k: if it is the layer of an atom, how many rounds this layer has; else 0.
pub data RoundsTold (B : Pages) (k : ℕ) : ℕ → Type 0 where
  of_stratum : {n : ℕ} (a : ℕ) → Stratum (all B) a k → RoundsOf B k n → RoundsTold B k n
  no_stratum : ((a : ℕ) → Stratum (all B) a k → ⊥) → RoundsTold B k zero

-- The greatest depth of the in atoms of layer k; 0 if none is in.
pub data GreatestDepth (B : Pages) (M : AtomSet) (k : ℕ) : ℕ → Type 0 where
  none_in : ((a : ℕ) → Stratum (all B) a k → M a ≡ false) → GreatestDepth B M k zero
  deepest :
      {d : ℕ} (a : ℕ) → Stratum (all B) a k → M a ≡ true → Depth (active B) M a d
      → ((b e : ℕ) → Stratum (all B) b k → M b ≡ true → Depth (active B) M b e → e ≤ d) → GreatestDepth B M k d

-- To be shown of the n rounds of layer k, where M are the in atoms: at least 1, at least 2 where an atom of the layer
-- is in, at most the greatest depth of its in atoms plus 1.
pub record RoundsWithin (B : Pages) (M : AtomSet) (k n : ℕ) : Type 0 where
  pub one : 1 ≤ n
  pub two : (a : ℕ) → Stratum (all B) a k → M a ≡ true → 2 ≤ n
  pub depth : ℕ
  pub greatest : GreatestDepth B M k depth
  pub most : n ≤ suc depth
