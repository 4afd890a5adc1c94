-- Slots that are well formed, and what the two tests behind `make` say of the table made. Assumes nothing.
use Prim.Native.Nat.{ℕ}
use native.Mathlib.Omega.{arith}
use native.Mathlib.Decide.{ℕ_discrete}
use mathlib.Core.Path.{◌≡◌, refl, sym, ◌∙◌, ap, subst}
use mathlib.Core.Bool.{Bool, true, false, not}
use mathlib.Core.Logic.{◌↔◌}
use mathlib.Core.List.{List}
use lib.ListN.{get_or, set}
use lib.Seq.{get_or-set_same, get_or-set_other}
use Rattle.theory.specs.Rules.{Bounded}
use Rattle.theory.specs.Dependencies.{NegativeCycle}
use Rattle.theory.specs.Sound.{SoundSlots}
use Rattle.theory.specs.Limits.{document}
use Rattle.theory.proofs.Lists.{not-true, not-false, clash}
use Rattle.table.specs.declared.Rule.{Rule}
use Rattle.table.specs.Rules.{book_of, program_of, past_rule}
use Rattle.table.specs.Words.{rules_of, depth_at, spoiler_at}
use Rattle.table.specs.Clean.{empty_table, WellFormed}
use Rattle.table.proofs.Empty.{empty-sound}
use Rattle.table.proofs.Words.{rules-length}
use Rattle.well_formed.specs.Slots.{Single}
use Rattle.labels.specs.Labelling.{Relabelled}
use Rattle.sound.proofs.Soundness.{sound-of, sound-well-formed, well-formed-bounded}
use Rattle.from_rules.specs.Making.{WellFormedSlots, Made, twice, cyclic, made}

-- The slots of the empty table are well formed; so are they after a well-formed one is put.
pub empty-well : WellFormedSlots (rules_of empty_table.words)
empty-well = sound-well-formed empty_table.words empty-sound

pub well-set :
    (table : List ℕ) (s : ℕ) (r : Rule) → WellFormedSlots (rules_of table) → WellFormed r
    → WellFormedSlots (set (rules_of table) s r)
well-set table s r W w t l = elim (ℕ_discrete t s) [
  | yes same ↦ subst WellFormed (sym (ap (λ (i : ℕ). get_or (set (rules_of table) s r) i past_rule) same
      ∙ get_or-set_same (rules_of table) s r past_rule (omega (arith, rules-length table)))) w
  | no other ↦ subst WellFormed (sym (get_or-set_other (rules_of table) s t r past_rule other)) (W t l)
]

-- The two tests, one after the other.
module _ (before : List ℕ) (well : WellFormedSlots (rules_of before)) (b : Bool)
    (told : (b ≡ true) ↔ Single (program_of (rules_of before))) where
  pub made-twice : not b ≡ true → Made before before false
  made-twice u = twice (λ U. clash (told.1 U) (not-true b u))

  pub made-bounded : Bounded (program_of (rules_of before)) document.atoms
  made-bounded = well-formed-bounded before well

  pub made-relabelled :
      not b ≡ false → (after : List ℕ) (r : Bool) → Relabelled before after r → Made before after r
  made-relabelled once after true L =
      let w = L.acyclic refl in
      let e = sym L.rules in
      let U = told.0 (not-false b once) in
      made after U w.0 L.sized L.rules
      (sound-of after
      (subst WellFormedSlots e well)
      (subst (λ (rs : List Rule). SoundSlots (book_of rs) (depth_at after) (spoiler_at after)) e w.1)
      (subst (λ (rs : List Rule). Single (program_of rs)) e U)
      (subst (λ (rs : List Rule). NegativeCycle (program_of rs) → ⊥) e w.0))
  made-relabelled once after false L =
      let w = L.cyclic refl in
      subst (λ (z : List ℕ). Made before z false) (sym w.1) (cyclic (told.0 (not-false b once)) w.0)
