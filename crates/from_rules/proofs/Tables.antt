-- Well-formed rules of which no two are equal, without a loop through a negation, have a sound table. Assumes nothing.
use Prim.Native.Nat.{ℕ, ◌<◌}
use mathlib.Core.Path.{◌≡◌, sym, ◌∙◌, subst}
use mathlib.Core.List.{List}
use lib.ListN.{length, get_or}
use Rattle.theory.specs.Rules.{Pages}
use Rattle.theory.specs.Dependencies.{NegativeCycle}
use Rattle.theory.specs.Slots.{slot_spoiler, SlotDepth}
use Rattle.theory.specs.Sound.{SoundSlots}
use Rattle.theory.specs.Limits.{document}
use Rattle.theory.proofs.Pages.{active-acyclic}
use Rattle.theory.proofs.Models.{exactly-one-model}
use Rattle.table.specs.declared.Rule.{Rule}
use Rattle.table.specs.Rules.{active_of, book_of, past_rule, program_of}
use Rattle.table.specs.Words.{depth_at, rules_of, spoiler_at, table_of, words}
use Rattle.table.specs.Sound.{Sound}
use Rattle.table.proofs.Programs.{book-length}
use Rattle.well_formed.specs.Slots.{Single}
use Rattle.sound.proofs.Soundness.{sound-of}
use Rattle.from_rules.specs.Making.{WellFormedSlots}
use Rattle.from_rules.proofs.Kept.{kept_depth_of, slots_kept}
use Rattle.from_rules.proofs.Numbers.{numbers_for, numbers-kept, numbers-length, numbers-rules}

-- The numbers of a sound table that holds these rules.
pub record TableFor (rules : List Rule) : Type 0 where
  pub numbers : List ℕ
  pub long : length numbers ≡ words
  pub holds : rules_of numbers ≡ rules
  pub sound : Sound (table_of numbers)

-- What is kept of a slot counts only where there is a slot.
kept_there :
    (B : Pages) (f p g q : ℕ → ℕ) → SoundSlots B f p → ((s : ℕ) → s < length B → (g s ≡ f s) × (q s ≡ p s))
    → SoundSlots B g q
kept_there B f p g q K same = record {
  model = K.model;
  admissible = K.admissible;
  depths = λ s l. subst (SlotDepth B K.model s) (sym (same s l).0) (K.depths s l);
  spoilers = λ s l. (same s l).1 ∙ K.spoilers s l;
}

pub table-for :
    (rules : List Rule) → length rules ≡ document.slots
    → ((s : ℕ) → s < document.slots → length (get_or rules s past_rule).entries ≡ document.entries)
    → WellFormedSlots rules → Single (program_of rules) → (NegativeCycle (program_of rules) → ⊥) → TableFor rules
table-for rules long all W U A =
    let model = exactly-one-model (active_of rules) (active-acyclic (book_of rules) A) in
    let B = book_of rules in
    let admissible = model.1.model in
    let depth = kept_depth_of B model.0 admissible in
    let spoiler = slot_spoiler B model.0 in
    let numbers = numbers_for rules depth spoiler in
    let e = numbers-rules rules depth spoiler all long in
    let K : SoundSlots B (depth_at numbers) (spoiler_at numbers) =
    kept_there B depth spoiler (depth_at numbers) (spoiler_at numbers) (slots_kept B model.0 admissible)
    (λ s l. numbers-kept rules depth spoiler s (subst (λ (n : ℕ). s < n) (book-length rules ∙ long) l)) in
    record {
      numbers = numbers;
      long = numbers-length rules depth spoiler;
      holds = e;
      sound = sound-of numbers
          (subst WellFormedSlots (sym e) W)
          (subst (λ (rs : List Rule). SoundSlots (book_of rs) (depth_at numbers) (spoiler_at numbers)) (sym e) K)
          (subst (λ (rs : List Rule). Single (program_of rs)) (sym e) U)
          (subst (λ (rs : List Rule). NegativeCycle (program_of rs) → ⊥) (sym e) A);
    }
