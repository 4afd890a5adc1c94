-- Laws of slots and labels that stand as in the empty table, by what is tested of them. Assumes nothing.
use Prim.Native.Nat.{ℕ, zero, suc, ◌+◌, ◌≤◌, ◌<◌}
use native.Mathlib.Numerals.{add-one}
use native.Mathlib.Omega.{arith}
use mathlib.Core.Path.{◌≡◌, sym, ◌∙◌, ap}
use mathlib.Core.Logic.{◌↔◌, ⊎_elim}
use mathlib.Core.Bool.{Bool, true, false, not}
use mathlib.Core.List.{List}
use lib.Dec.{eqb}
use lib.ListN.{length, get_or, length-replicate, get_or-replicate}
use lib.Seq.{ext_get_or}
use Rattle.theory.specs.Limits.{document}
use Rattle.theory.proofs.Lists.{le-or-lt, not-false, eqb-eq, eqb_of}
pub use Rattle.theory.proofs.Lists.{is_not}
use Rattle.table.specs.declared.Atom.{Atom}
use Rattle.table.specs.declared.Rule.{Rule}
use Rattle.table.specs.Rules.{no_atom}
use Rattle.table.specs.Clean.{free_rule, CleanRule}
use Rattle.table.proofs.Entries.{past}
use Rattle.questions.specs.Sums.{sum_to}

-- Entries from a place on that are as in the empty table, as far as m.
abbrev Empty : List Atom → ℕ → ℕ → Type 0
Empty xs from m = (i : ℕ) → from ≤ i → i < m → get_or xs i no_atom ≡ no_atom

-- One entry more.
pub sum-next : (xs : List Atom) (j : ℕ) → sum_to xs j + (get_or xs j no_atom).0 ≡ sum_to xs (j + 1)
unfolding sum_to
sum-next xs j = sym (ap (sum_to xs) (add-one j))

-- Entries are as in the empty table exactly if they add nothing to the sum.
module _ (xs : List Atom) (from : ℕ) where
  sums : (m : ℕ) → from ≤ m
      → (sum_to xs from ≤ sum_to xs m)
      × (sum_to xs from ≡ sum_to xs m → Empty xs from m)
      × (Empty xs from m → sum_to xs from ≡ sum_to xs m)
  unfolding sum_to
  sums zero l = (
      let e : from ≡ 0 = omega arith in
      let s : sum_to xs from ≡ 0 = ap (sum_to xs) e in
      (omega arith, (λ z i k n. absurd (omega arith)), λ h. s))
  sums (suc m) l = ⊎_elim
      (λ (k : suc m ≤ from). (
      let e : from ≡ suc m = omega arith in
      let s : sum_to xs from ≡ sum_to xs (suc m) = ap (sum_to xs) e in
      (omega (arith, s), (λ z i u v. absurd (omega arith)), λ h. s)))
      (λ (k : from < suc m). (
      let w = sums m (omega arith) in (
        omega (arith, w.0),
        λ z i u v. ⊎_elim
            (λ (n : m ≤ i). (
            let q : i ≡ m = omega arith in
            let e : (get_or xs m no_atom).0 ≡ 0 = omega (arith, w.0) in
            rw q (ap (λ n. record { 0 = n }) e)))
            (λ (n : i < m). w.1 (omega (arith, w.0)) i u n)
            (le-or-lt m i),
        λ h.
            let e : (get_or xs m no_atom).0 ≡ 0 = ap (λ a. a.0) (h m (omega arith) (omega arith)) in
            omega (arith, w.2 (λ i u v. h i u (omega arith))),
      )))
      (le-or-lt (suc m) from)

  pub nothing-added :
      (m : ℕ) → from ≤ m → length xs ≤ m → (x y : ℕ) → x ≡ sum_to xs from → y ≡ sum_to xs m
      → (eqb x y ≡ true) ↔ ((i : ℕ) → from ≤ i → get_or xs i no_atom ≡ no_atom)
  nothing-added m l k x y e f =
      let w = sums m l in (
        λ t i u. ⊎_elim
            (λ (n : m ≤ i). sym (past xs i no_atom (omega arith)))
            (λ (n : i < m). w.1 (sym e ∙ eqb-eq x y t ∙ f) i u n)
            (le-or-lt m i),
        λ h. eqb_of x y (e ∙ w.2 (λ i u v. h i u) ∙ sym f),
      )

-- A slot whose fields are all zero is the free slot.
rule-is :
    (q r : Rule) → q.state ≡ r.state → q.head ≡ r.head → q.positives ≡ r.positives → q.negatives ≡ r.negatives
    → q.entries ≡ r.entries → q ≡ r
rule-is q r a b c d e = λ i. record { state = a i; head = b i; positives = c i; negatives = d i; entries = e i }

-- Slots. The entries number as many as the limits say.
module _ (r : Rule) (long : length r.entries ≡ document.entries) where
  abbrev Filler : Type 0
  Filler = (i : ℕ) → r.positives + r.negatives ≤ i → get_or r.entries i no_atom ≡ no_atom

  module _ (fits : r.positives + r.negatives ≤ document.entries) (t : Bool) (told : (t ≡ true) ↔ Filler) where
    module _ (u : not t ≡ false) where
      filler : Filler
      filler = told.0 (not-false t u)

      pub free-head :
          r.state ≡ 0 → r.positives + r.negatives ≡ 0 → (eqb r.head.0 0 ≡ true) ↔ CleanRule r
      free-head e h = (
        λ v. record {
          known = omega arith;
          free = λ z. rule-is r free_rule e
              (ap (λ n. record { 0 = n }) (eqb-eq r.head.0 0 v)) (omega arith) (omega arith)
              (ext_get_or no_atom r.entries _ (long ∙ sym (length-replicate document.entries no_atom))
              (λ i k. filler i (omega arith) ∙ sym (get_or-replicate document.entries i no_atom no_atom (omega arith))));
          fits = fits;
          filler = filler;
        },
        λ w. eqb_of r.head.0 0 (ap (λ q. q.head.0) (w.free e)),
      )
