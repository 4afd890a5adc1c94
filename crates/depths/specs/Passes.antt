-- What the functions of the crate tell each other (private): what one slot does in a round over the slots, and what
-- rounds have found. Assumes nothing.
use Rattle.std.specs.Prelude.{ℕ, suc, ◌≤◌, ◌<◌, ◌≡◌, Bool, true, false, ◌⊎◌, List, length, set}
use Rattle.std.proofs.Math.Option.{Option, some}
use Rattle.theory.specs.Lists.{every}
use Rattle.theory.specs.Rules.{Program, Rule}
use Rattle.theory.specs.Models.{AtomSet, valid}
use Rattle.theory.specs.Derivations.{Derivation}
use Rattle.theory.specs.Certificate.{level}
use Rattle.table.specs.Sets.{number}
use Rattle.depths.specs.Numbers.{within}

-- A slot, which is o, lowers the number of its head a: its rule is valid, each positive entry has a number, and the
-- rule's level is at most n and below the number of a, if a has one.
pub record Lowers (M : AtomSet) (d : ℕ → ℕ) (n : ℕ) (o : Option Rule) (a : ℕ) : Type 0 where
  pub rule : Rule
  pub held : o ≡ some rule
  pub good : valid M rule ≡ true
  pub known : every (within d (suc n)) rule.positives ≡ true
  pub low : level d rule ≤ n
  pub less : (d a ≡ 0) ⊎ (level d rule < d a)

-- The number of a became that level, where the slot lowers it, and the flag says whether it does.
pub record Lowered (M : AtomSet) (n : ℕ) (o : Option Rule) (a : ℕ) (before after : List ℕ) (flag : Bool) : Type 0 where
  pub lower :
      flag ≡ true → (w : Lowers M (number before) n o a) × (after ≡ set before a (level (number before) w.rule))
  pub kept : flag ≡ false → (Lowers M (number before) n o a → ⊥) × (after ≡ before)

-- After k rounds: each number kept is the height of a derivation, and no derivation of at most k levels is lower.
pub record Found (P : Program) (M : AtomSet) (n k : ℕ) (d : List ℕ) : Type 0 where
  pub few : k ≤ n
  pub long : length d ≡ n
  pub low : (a : ℕ) → number d a ≤ n
  pub derived : (a : ℕ) → 0 < number d a → Derivation P M a (number d a)
  pub full : (a h : ℕ) → Derivation P M a h → h ≤ k → (0 < number d a) × (number d a ≤ h)
