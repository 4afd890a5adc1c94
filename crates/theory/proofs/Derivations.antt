-- Derivations taken apart. Assumes nothing.
use Prim.Native.Nat.{ℕ, zero, suc, ◌≤◌, max}
use native.Mathlib.Omega.{arith}
use mathlib.Core.Path.{◌≡◌, refl, sym, subst}
use mathlib.Core.Logic.{⊎_elim}
use mathlib.Core.Bool.{true}
use mathlib.Core.List.Memᴰ
use mathlib.Core.List.{List, [], ◌∷◌}
use Rattle.theory.specs.Lists.{◌∈◌}
use Rattle.theory.specs.Rules.{Held, Program, Rule}
use Rattle.theory.specs.Models.{AtomSet, valid}
use Rattle.theory.specs.Derivations.{also, by, Derivation, Derivations, leaf}

pub record Last (P : Program) (M : AtomSet) (a h : ℕ) : Type 0 where
  pub slot : ℕ
  pub rule : Rule
  pub held : Held P slot rule
  pub heads : rule.head ≡ a
  pub good : valid M rule ≡ true
  pub under : ℕ
  pub parts : Derivations P M rule.positives under
  pub height : h ≡ suc under

pub last : {P : Program} {M : AtomSet} {a h : ℕ} → Derivation P M a h → Last P M a h
last (by {h = h} s r i e v ds) =
    record { slot = s; rule = r; held = i; heads = e; good = v; under = h; parts = ds; height = refl }

-- each entry has a derivation that is no higher
pub entry : {P : Program} {M : AtomSet} {xs : List ℕ} {h : ℕ} → Derivations P M xs h → (p : ℕ) → p ∈ xs
    → (i : ℕ) × Derivation P M p i × (i ≤ h)
entry leaf p m = absurd (Memᴰ.not-nil m)
entry {P} {M} (also {a = a} {h = h} {k = k} {xs = xs} d ds) p m = ⊎_elim
    (λ (e : p ≡ a). (h, subst (λ (z : ℕ). Derivation P M z h) (sym e) d, omega arith))
    (λ (m' : p ∈ xs). (let w = entry ds p m' in (w.0, w.1, omega (arith, w.2))))
    (Memᴰ.cases_cons m)

-- derivations of all entries, none higher than h, are derivations of the list, no higher than h
pub gather : (P : Program) (M : AtomSet) (h : ℕ) (xs : List ℕ)
    → ((p : ℕ) → p ∈ xs → (i : ℕ) × Derivation P M p i × (i ≤ h)) → (i : ℕ) × Derivations P M xs i × (i ≤ h)
gather P M h [] f = (zero, leaf, omega arith)
gather P M h (x ∷ xs) f =
    let d = f x (Memᴰ.head refl) in
    let ds = gather P M h xs (λ p m. f p (Memᴰ.tail m)) in
    (max d.0 ds.0, also d.1 ds.1, omega (arith, d.2, ds.2))
