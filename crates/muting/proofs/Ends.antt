-- How muting a rule of a sound table ends, from the answers of its questions. Assumes nothing.
use Rattle.std.specs.Prelude.{Ok}
use Prim.Native.Nat.{ℕ, ◌<◌}
use native.Mathlib.Omega.{arith}
use mathlib.Core.Path.{◌≡◌, sym, ◌∙◌, ap, ap₂, subst}
use mathlib.Core.Bool.{Bool, true, false}
use mathlib.Core.List.{List}
use mathlib.Core.Option.{none, some, some-injective}
use lib.ListN.{get_or, set}
use Rattle.theory.specs.Rules.{Pages, all, rule_on, with_mark, Held, Ascending, Bounded}
use Rattle.theory.specs.Rules as theory
use Rattle.theory.specs.Dependencies.{NegativeCycle}
use Rattle.theory.specs.Questions.{first_no, rule_questions, slot_questions}
use Rattle.theory.specs.Limits.{document}
use Rattle.theory.proofs.Pages.{mark-keeps-rules, page-held, set_mark}
use Rattle.theory.proofs.Sameness.{same_refl}
use Rattle.table.specs.declared.Rule.{Rule}
use Rattle.table.specs.declared.Slot.{Slot}
use Rattle.table.specs.declared.Table.{Table}
use Rattle.table.specs.Rules.{book_of, page_of, past_rule, program_of, rule_of, slot_of}
use Rattle.table.specs.Words.{table_of, rules_of}
use Rattle.table.specs.Clean.{CleanRule, free_rule}
use Rattle.table.specs.Sound.{Sound}
use Rattle.table.proofs.Entries.{there as there-too}
use Rattle.table.proofs.Programs.{page-stated}
use Rattle.table.proofs.Words.{rules-length}
use Rattle.calls.specs.Ends.{held, ChangeEnds, MuteEnds}
use Rattle.calls.proofs.Asking.{PassesSlot, slot-low, slot-holds}
use Rattle.labels.specs.Labelling.{Relabelled}
use Rattle.add_remove.proofs.OneSlot.{accepted-after, book-after, bounded-after}
use Rattle.muting.specs.Marks.{slot_marked}

-- The mark as the code sets it.
module _ (m : Bool) (r : Rule) where
  pub mark_on : m ≡ true → slot_marked true r ≡ slot_marked m r
  mark_on e = ap (λ b. slot_marked b r) (sym e)

  pub mark-off : m ≡ false → slot_marked false r ≡ slot_marked m r
  mark-off e = ap (λ b. slot_marked b r) (sym e)

  -- What the slot holds then, and that it is clean where the slot was.
  page-marked : page_of (slot_marked m r) ≡ some (record { rule = rule_of r; muted = m })
  page-marked = page-stated (rule_of r) m

  clean-marked : CleanRule r → CleanRule (slot_marked m r)
  clean-marked C = go m
    where
      go : (b : Bool) → CleanRule (slot_marked b r)
      go true = record { known = omega arith; free = λ e. absurd (omega arith); fits = C.fits; filler = C.filler }
      go false = record { known = omega arith; free = λ e. absurd (omega arith); fits = C.fits; filler = C.filler }

-- The rule r in slot s of the table t, which passed questions 8 and 9, gets the mark m.
module _
    (t : Table) (s : ℕ) (x : Slot) (Q : PassesSlot t s x) (r : Rule) (is : r ≡ get_or (rules_of t.words) s free_rule) (m : Bool)
  where
    abbrev S : Sound t
    S = Q.sound

    abbrev new : Rule
    new = slot_marked m r

    inside : s < document.slots
    inside = slot-low t s x Q

    there : Held (all (held t)) s (rule_of r)
    there = slot-holds t s r is Q.yes

    clean-there : CleanRule r
    clean-there =
        subst CleanRule
        (sym (is ∙ there-too (rules_of t.words) s free_rule past_rule (omega (arith, inside, rules-length t.words))))
        (S.clean s inside)

    -- the slot holds that rule
    one : (p : theory.Rule) → slot_of new ≡ some p → rule_of r ≡ p
    one p h = some-injective (rule_of r) p (sym (ap rule_on (page-marked m r)) ∙ h)

    passes : (p : theory.Rule) → slot_of new ≡ some p → first_no (rule_questions document p) ≡ none
    passes p h = subst (λ (q : theory.Rule). first_no (rule_questions document q) ≡ none) (one p h)
        (S.rules.passes s (rule_of r) there)

    ascending : (p : theory.Rule) → slot_of new ≡ some p → Ascending p
    ascending p h = subst Ascending (one p h) (S.rules.ascending s (rule_of r) there)

    fresh : (k : ℕ) (p : theory.Rule) → (k ≡ s → ⊥) → slot_of new ≡ some p → Held (all (held t)) k p → ⊥
    fresh k p n h i =
        n (S.rules.single k s p p i (subst (Held (all (held t)) s) (one p h) there) (same_refl p))

    -- The pages are those with the mark set.
    pages-marked : book_of (set (rules_of t.words) s new) ≡ with_mark (held t) s m
    pages-marked =
        let w = page-held (held t) s (rule_of r) there in
        book-after t S s inside new
        ∙ ap (set (held t) s) (page-marked m r
        ∙ ap (λ (q : theory.Rule). some (record { rule = q; muted = m })) (sym w.2)
        ∙ ap (set_mark m) (sym w.1))

    -- So every rule held stays.
    all_stay : program_of (set (rules_of t.words) s new) ≡ all (held t)
    all_stay = ap all pages-marked ∙ mark-keeps-rules (held t) s m

    -- w are the numbers with that mark, v those where each slot keeps what the rules ask for.
    module _ (w : List ℕ) (put : rules_of w ≡ set (rules_of t.words) s new) where
      bounded-marked : Bounded (program_of (rules_of w)) document.atoms
      bounded-marked = bounded-after t S s inside new (clean-marked m r clean-there) passes ascending fresh w put

      mute-ends : (v : List ℕ) (b : Bool) → Relabelled w v b → MuteEnds t s m (Ok tt) (table_of v)
      mute-ends v b L =
          subst (λ (B : Pages). ChangeEnds (slot_questions document (all (held t)) s) B t (Ok tt) (table_of v))
          pages-marked
          (accepted-after t S s inside new (clean-marked m r clean-there) passes ascending fresh w put v b L _ Q.yes
          (λ c. S.rules.acyclic (subst NegativeCycle all_stay c)))

-- The same of what the code reads and puts: h is what slot x holds, o that with the mark.
module _
    (t : Table) (s : ℕ) (x : Slot) (Q : PassesSlot t s x) (m : Bool) (h o : Rule)
    (read : h ≡ get_or (rules_of t.words) x.0 free_rule) (mark : o ≡ slot_marked m h) (w : List ℕ)
    (put : rules_of w ≡ set (rules_of t.words) x.0 o)
  where
    is-there : h ≡ get_or (rules_of t.words) s free_rule
    is-there = read ∙ ap (λ (k : ℕ). get_or (rules_of t.words) k free_rule) Q.slot

    is-put : rules_of w ≡ set (rules_of t.words) s (slot_marked m h)
    is-put = put ∙ ap₂ (λ (k : ℕ) (r : Rule). set (rules_of t.words) k r) Q.slot mark

    pub bounded-after-mark : Bounded (program_of (rules_of w)) document.atoms
    bounded-after-mark = bounded-marked t s x Q h is-there m w is-put

    pub muted-ends : (v : List ℕ) (b : Bool) → Relabelled w v b → MuteEnds t s m (Ok tt) (table_of v)
    muted-ends = mute-ends t s x Q h is-there m w is-put
