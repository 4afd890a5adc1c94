-- What a sound table keeps of each atom, gathered into arrays, is what is defined: the in atoms are the model, with
-- their depths and supporting slots. Assumes nothing.
use Prim.Native.Nat.{ℕ}
use mathlib.Core.Path.{◌≡◌, refl, sym, ◌∙◌, ap, subst, fun_ext}
use mathlib.Core.Bool.{Bool, true, false, true≢false}
use Rattle.theory.specs.Rules.{Bounded, Pages, Program, active, all}
use Rattle.theory.specs.Models.{AtomSet}
use Rattle.theory.specs.Derivations.{Depth}
use Rattle.theory.specs.Labels.{Label, Labelled, Supporting, absent, in_at, is_absent, is_in, is_out, out}
use Rattle.theory.specs.Questions.{is_in_label}
use Rattle.theory.specs.Certificate.{depth_in, slot_in}
use Rattle.theory.specs.Limits.{document}
use Rattle.theory.proofs.Labels.{in-occurs-held}
use Rattle.theory.proofs.Questions.{passed-bounded}
use Rattle.theory.proofs.Slots.{labelled}
use Rattle.table.specs.declared.Table.{Table}
use Rattle.table.specs.declared.arrays.LabelArrays.{LabelArrays}
use Rattle.table.specs.Sets.{member, number}
use Rattle.table.specs.Rules.{book_of}
use Rattle.table.specs.Words.{rules_of, depth_at, spoiler_at}
use Rattle.table.specs.Labels.{label_at}
use Rattle.table.specs.Arrays.{ArraysOf}
use Rattle.table.specs.Sound.{Sound}
use Rattle.table.proofs.LabelArrays.{flags-are, depths-are, slots-are}

module _ (t : Table) (S : Sound t) where
  abbrev B : Pages
  B = book_of (rules_of t.words)

  abbrev P : Program
  P = active B

  abbrev M : AtomSet
  M = S.kept.model

  abbrev label : ℕ → Label
  label = label_at t.words

  -- Every atom of the rules is below the limit.
  pub sound-bounded : Bounded (all B) document.atoms
  sound-bounded = passed-bounded document (all B) S.rules.passes

  -- The label read off is the one defined.
  pub sound-label : (a : ℕ) → Labelled B M a (label a)
  sound-label a = labelled B (depth_at t.words) (spoiler_at t.words) S.kept a

  pub label-model : (a : ℕ) → is_in_label (label a) ≡ M a
  label-model a = go (label a) (sound-label a)
    where
      out_of : (b : Bool) → M a ≡ b → (M a ≡ true → ⊥) → false ≡ M a
      out_of true e n = absurd (n e)
      out_of false e n = sym e

      go : (l : Label) → Labelled B M a l → is_in_label l ≡ M a
      go l (is_absent n) = out_of (M a) refl (λ t. n (in-occurs-held B M S.kept.admissible.founded a t))
      go l (is_out o n) = sym n
      go l (is_in i D T) = sym i

  in_kept : (a : ℕ) → M a ≡ true → Depth P M a (depth_in (label a)) × Supporting P M a (slot_in (label a))
  in_kept a u = go (label a) (label-model a ∙ u) (sound-label a)
    where
      go : (l : Label) → is_in_label l ≡ true → Labelled B M a l
          → Depth P M a (depth_in l) × Supporting P M a (slot_in l)
      go absent q w = absurd (true≢false (sym q))
      go out q w = absurd (true≢false (sym q))
      go (in_at d s) q (is_in i D T) = (D, T)

  module _ (k : LabelArrays) (K : ArraysOf t.words k) where
    pub flags-model : member k.flags ≡ M
    flags-model = flags-are t.words k K sound-bounded ∙ fun_ext label-model

    pub flag-model : (a : ℕ) → member k.flags a ≡ M a
    flag-model a = ap (λ (N : AtomSet). N a) flags-model

    pub in-depth : (a : ℕ) → M a ≡ true → Depth P M a (number k.depths a)
    in-depth a u = subst (Depth P M a)
        (sym (ap (λ (f : ℕ → ℕ). f a) (depths-are t.words k K sound-bounded))) (in_kept a u).0

    pub in-supporting : (a : ℕ) → M a ≡ true → Supporting P M a (number k.slots a)
    in-supporting a u = subst (Supporting P M a)
        (sym (ap (λ (f : ℕ → ℕ). f a) (slots-are t.words k K sound-bounded))) (in_kept a u).1
