-- The highest number kept in an array, place by place. Assumes nothing.
use Rattle.std.proofs.Common.{◌≡◌, ℕ, suc, ◌+◌, ◌<◌, ◌≤◌, max, List, length, sym, ◌∙◌, ⊎_elim, eq-or-lt_of_le, arith}
use native.Mathlib.Nat.{le-max_left, le-max_right, max-eq_left, max-eq_right}
use lib.ListN.{get_or-eq_default}
use Rattle.theory.proofs.Lists.{le-or-lt}
use Rattle.table.specs.Sets.{number}
use Rattle.model.specs.Rounds.{HighestOf}

-- The highest number of the first i places: none of them is above it, and it is kept somewhere.
pub record HighestBelow (xs : List ℕ) (i top : ℕ) : Type 0 where
  pub inside : i ≤ length xs
  pub above : (a : ℕ) → a < i → number xs a ≤ top
  pub atom : ℕ
  pub there : number xs atom ≡ top

module _ (xs : List ℕ) where
  past : (a : ℕ) → length xs ≤ a → number xs a ≡ 0
  past a l = get_or-eq_default xs 0 l

  pub highest-start : HighestBelow xs 0 0
  highest-start = record {
    inside = omega arith;
    above = λ a l. absurd (omega arith);
    atom = length xs;
    there = past (length xs) (omega arith);
  }

  pub highest-next : (i top new : ℕ) → i < length xs → HighestBelow xs i top → new ≡ max top (number xs i)
      → HighestBelow xs (i + 1) new
  highest-next i top new l G e = ⊎_elim
      (λ (h : number xs i ≤ top). record {
        inside = omega arith;
        above = λ a m. up a m (le-max_left top (number xs i)) (le-max_right top (number xs i));
        atom = G.atom;
        there = G.there ∙ sym (e ∙ max-eq_left h);
      })
      (λ (h : top < number xs i). record {
        inside = omega arith;
        above = λ a m. up a m (le-max_left top (number xs i)) (le-max_right top (number xs i));
        atom = i;
        there = sym (e ∙ max-eq_right (omega arith));
      })
      (le-or-lt (number xs i) top)
    where
      up : (a : ℕ) → a < i + 1 → top ≤ max top (number xs i) → number xs i ≤ max top (number xs i) → number xs a ≤ new
      up a m p q = ⊎_elim
          (λ (z : suc a ≡ i + 1). (let s : a ≡ i = omega arith in rw s (omega arith)))
          (λ (z : suc a < i + 1). omega (arith, G.above a (omega arith)))
          (eq-or-lt_of_le m)

  pub highest-end : (i top : ℕ) → length xs ≤ i → HighestBelow xs i top → HighestOf (number xs) top
  highest-end i top l G = record {
    above = λ a. ⊎_elim
        (λ (h : length xs ≤ a). omega (arith, past a h))
        (λ (h : a < length xs). G.above a (omega arith))
        (le-or-lt (length xs) a);
    atom = G.atom;
    there = G.there;
  }
