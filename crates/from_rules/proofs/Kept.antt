-- Slots can keep what they have to: by any admissible model each has one depth and one spoiler. Assumes nothing.
use Prim.Native.Nat.{ℕ}
use native.Mathlib.Decide.{ℕ_discrete}
use mathlib.Core.Path.{◌≡◌, refl, sym, ◌∙◌, ap, subst}
use mathlib.Core.Bool.{true, false}
use mathlib.Core.Logic.{⊎_elim}
use mathlib.Core.Option.{Option, none, some, none-ne-some}
use lib.ListN.{get_or}
use Rattle.theory.specs.Rules.{active, Pages, Rule}
use Rattle.theory.specs.Models.{Admissible, AtomSet}
use Rattle.theory.specs.Labels.{Supporting}
use Rattle.theory.specs.Slots.{idle, slot_spoiler, SlotDepth, supports}
use Rattle.theory.specs.Sound.{SoundSlots}
use Rattle.theory.proofs.Lists.{clash, test}
use Rattle.theory.proofs.Rules.{held-unique}
use Rattle.theory.proofs.Depths.{in-depth}
use Rattle.theory.proofs.Labels.{supported, supporting-unique}

module _ (B : Pages) (M : AtomSet) (A : Admissible (active B) M) where
  -- the depth of a slot by the rule that it holds unmuted
  pub slot-depth : (s : ℕ) (o : Option Rule) → get_or (active B) s none ≡ o → (d : ℕ) × SlotDepth B M s d
  slot-depth s none e = (0, idle (λ a S. none-ne-some S.supports.rule (sym e ∙ S.supports.held)))
  slot-depth s (some r) e = ⊎_elim
      (λ (t : M r.head ≡ true). (
      let d = in-depth (active B) M A.founded r.head t in
      let u = supported (active B) M r.head d.0 d.1 in
      elim (ℕ_discrete u.0 s) [
        | yes same ↦ (d.0, supports d.1 (subst (Supporting (active B) M r.head) same u.1))
        | no other ↦ (
          0,
          idle (λ a S. other (supporting-unique (active B) M r.head u.0 s u.1
              (subst (λ (x : ℕ). Supporting (active B) M x s) (head_of a S) S))),
        )
      ]))
      (λ (t : M r.head ≡ false). (
        0,
        idle (λ a S. clash (A.closed s S.supports.rule S.supports.held S.supports.good)
            (ap M (S.supports.heads ∙ head_of a S) ∙ t)),
      ))
      (test (M r.head))
    where
      head_of : (a : ℕ) → Supporting (active B) M a s → a ≡ r.head
      head_of a S =
          sym S.supports.heads
          ∙ ap (λ (q : Rule). q.head) (held-unique (active B) s S.supports.rule r S.supports.held e)

  abbrev pub kept_depth_of : ℕ → ℕ
  kept_depth_of s = (slot-depth s (get_or (active B) s none) refl).0

  pub slots_kept : SoundSlots B kept_depth_of (slot_spoiler B M)
  slots_kept = record {
    model = M;
    admissible = A;
    depths = λ s l. (slot-depth s (get_or (active B) s none) refl).1;
    spoilers = λ s l. refl;
  }
