-- The empty table is sound. Assumes nothing.
use Prim.Native.Nat.{ℕ, zero, suc}
use native.Mathlib.Omega.{arith}
use mathlib.Core.Path.{◌≡◌, refl, sym, ◌∙◌, ap, subst, fun_ext}
use mathlib.Core.Bool.{false, true≢false}
use mathlib.Core.List.Memᴰ
use mathlib.Core.List.{List, [], ◌∷◌}
use mathlib.Core.Option.{Option, none, some}
use lib.ListN.{get_or, replicate, length-replicate, get_or-replicate}
use Rattle.theory.specs.Rules.{Program, Pages, Held}
use Rattle.theory.specs.Rules as theory
use Rattle.theory.specs.Models.{start, Admissible}
use Rattle.theory.specs.Dependencies.{DependencyPath, here, positive, negative, NegativeCycle}
use Rattle.theory.specs.Limits.{Limits}
use Rattle.theory.specs.Slots.{idle, place_kept}
use Rattle.theory.specs.Sound.{SoundRules, SoundSlots}
use Rattle.theory.specs.Limits.{document}
use Rattle.table.specs.Rules.{active_of, book_of, program_of, no_atom, past_rule}
use Rattle.table.specs.declared.Rule.{Rule}
use Rattle.table.specs.Words.{words, rules_of, depth_at, spoiler_at}
use Rattle.table.specs.Clean.{free_rule, empty_table, CleanRule}
use Rattle.table.specs.Sound.{Sound}
use Rattle.theory.proofs.Pages.{active-held}
use Rattle.table.proofs.Members.{all_alike}
use Rattle.table.proofs.Programs.{book-length, held-state}
use Rattle.table.proofs.Words.{zero-rules, zero-depth, zero-spoiler}

free-state : (n s : ℕ) → (get_or (replicate n free_rule) s past_rule).state ≡ 0
free-state zero s = refl
free-state (suc n) zero = refl
free-state (suc n) (suc s) = free-state n s

-- A program of n free slots holds no rule, so that no atom occurs and there is no path with a negative step.
module _ (n : ℕ) where
  abbrev pub none_held : Program
  none_held = program_of (replicate n free_rule)

  pub holds-none : (s : ℕ) (r : theory.Rule) → Held none_held s r → ⊥
  holds-none s r h = held-state (replicate n free_rule) s r h (free-state n s)

  no-negative : {a c k : ℕ} → DependencyPath none_held a c k → k ≡ 0
  no-negative (here e) = refl
  no-negative (positive d p) = absurd (holds-none d.slot d.rule d.held)
  no-negative (negative d p) = absurd (holds-none d.slot d.rule d.held)

  no-cycle : NegativeCycle none_held → ⊥
  no-cycle l = omega (arith, no-negative l.cycle)

  -- The model in which every atom is out: nothing founds an atom, and no rule asks for one.
  none_in : Admissible (active_of (replicate n free_rule)) (λ a. false)
  none_in =
      record {
        founded =
            record {
              order = [];
              ordered = start;
              exactly = λ a. (λ t. absurd (true≢false (sym t)), λ m. absurd (Memᴰ.not-nil m));
            };
        closed = λ s r h v. absurd (holds-none s r (active-held (book_of (replicate n free_rule)) s r h));
      }

-- Free slots, as many as the limits say, are sound rules.
pub empty-rules : (limits : Limits) → SoundRules limits (book_of (replicate limits.slots free_rule))
empty-rules limits =
    record {
      slots = book-length (replicate limits.slots free_rule) ∙ length-replicate limits.slots free_rule;
      passes = λ s r h. absurd (holds-none limits.slots s r h);
      ascending = λ s r h. absurd (holds-none limits.slots s r h);
      single = λ s t q r h k e. absurd (holds-none limits.slots s q h);
      acyclic = no-cycle limits.slots;
    }

-- What n free slots keep: no depth and no spoiler.
empty-slots : (n : ℕ) → SoundSlots (book_of (replicate n free_rule)) (λ s. 0) (λ s. 0)
empty-slots n = record {
  model = λ a. false;
  admissible = none_in n;
  depths = λ s l. idle (λ a S. unmuted-none s S.supports.rule S.supports.held);
  spoilers = λ s l. nothing s (get_or (active_of (replicate n free_rule)) s none) refl;
}
  where
    unmuted-none : (s : ℕ) (r : theory.Rule) → Held (active_of (replicate n free_rule)) s r → ⊥
    unmuted-none s r h = holds-none n s r (active-held (book_of (replicate n free_rule)) s r h)

    nothing : (s : ℕ) (o : Option theory.Rule) → get_or (active_of (replicate n free_rule)) s none ≡ o
        → 0 ≡ place_kept (λ a. false) o
    nothing s none e = refl
    nothing s (some r) e = absurd (unmuted-none s r e)

pub free-clean : CleanRule free_rule
free-clean =
    record {
      known = omega arith;
      free = λ e. refl;
      fits = omega arith;
      filler = λ i l. all_alike document.entries i no_atom;
    }

pub empty-sound : Sound empty_table
empty-sound =
    let e = zero-rules words in
    let d : depth_at empty_table.words ≡ (λ s. 0) = fun_ext (zero-depth words) in
    let p : spoiler_at empty_table.words ≡ (λ s. 0) = fun_ext (zero-spoiler words) in
    record {
      rules = rw e (empty-rules document);
      kept = subst (λ (f : ℕ → ℕ). SoundSlots (book_of (rules_of empty_table.words)) f (spoiler_at empty_table.words))
          (sym d)
          (subst (λ (f : ℕ → ℕ). SoundSlots (book_of (rules_of empty_table.words)) (λ s. 0) f) (sym p)
          (subst (λ (rules : List Rule). SoundSlots (book_of rules) (λ s. 0) (λ s. 0)) (sym e)
          (empty-slots document.slots)));
      clean = λ s l.
          let f : get_or (rules_of empty_table.words) s past_rule ≡ free_rule =
          ap (λ (rules : List Rule). get_or rules s past_rule) e ∙ get_or-replicate document.slots s free_rule past_rule l in
          rw f free-clean;
    }

-- Free slots are free pages: those of the empty table are the empty book.
pub free-book : (n : ℕ) → book_of (replicate n free_rule) ≡ replicate n none
free-book zero = refl
free-book (suc n) = ap (λ (B : Pages). none ∷ B) (free-book n)
