-- How the calls end: what a sound table keeps is what is defined, and what the leaves answer is what the contracts ask.
-- Assumes nothing.
use Rattle.std.specs.Prelude.{Ok, Err}
use Rattle.calls.specs.declared.RuleStatus.{RuleStatus}
use Rattle.calls.specs.declared.RuleStatus.TheVariants as spoilt
use Prim.Native.Nat.{ℕ, ◌≤◌}
use native.Mathlib.Omega.{arith}
use mathlib.Core.Path.{◌≡◌, refl, sym, ◌∙◌, ap, subst}
use mathlib.Core.Bool.{Bool, true, false, cond}
use mathlib.Core.List.{List}
use mathlib.Core.Option.{Option, none, some, none-ne-some}
use lib.Dec.{leb}
use lib.ListN.{length, get_or}
use Rattle.theory.specs.Lists.{Lists}
use Rattle.theory.specs.Rules.{Page, Pages, active, active_on, Bounded, entries, rule_on}
use Rattle.theory.specs.Models.{AtomSet, Admissible}
use Rattle.theory.specs.Labels.{place_over, Spoiler, spoiler, Supporting}
use Rattle.theory.specs.Slots.{place_kept, slot_spoiler, spoiler_at_place}
use Rattle.theory.specs.Questions.{atom_questions}
use Rattle.theory.specs.Limits.{document}
use Rattle.theory.proofs.Labels.{spoils}
use Rattle.theory.proofs.Pages.{active-at, active-bounded, all-at}
use Rattle.theory.proofs.Slots.{place-entry, spoiler-read}
use Rattle.table.specs.declared.Atom.{Atom}
use Rattle.table.specs.declared.Label.{Label}
use Rattle.table.specs.declared.Rule.{Rule}
use Rattle.table.specs.declared.Slot.{Slot}
use Rattle.table.specs.declared.Table.{Table}
use Rattle.table.specs.Sets.{member, number, Flags}
use Rattle.table.specs.Rules.{past_rule, rule_of}
use Rattle.table.specs.Words.{rules_of, spoiler_at}
use Rattle.table.specs.Clean.{CleanRule, free_rule}
use Rattle.table.specs.Labels.{label_at, label_of}
use Rattle.table.specs.Sound.{Sound}
use Rattle.table.specs.declared.arrays.LabelArrays.{LabelArrays}
use Rattle.table.specs.Arrays.{ArraysOf}
use Rattle.table.proofs.Entries.{there}
use Rattle.table.proofs.Programs.{page-free, page-there}
use Rattle.table.proofs.Words.{rules-length}
use Rattle.refusals.specs.declared.Refusal.{Refusal}
use Rattle.calls.specs.Answers.{AskedAtom}
use Rattle.calls.specs.Answers.{ListAnswer}
use Rattle.calls.specs.Answers.{AskedSlot}
use Rattle.calls.specs.Asking.{AskAtomEnds, AskSlotEnds}
use Rattle.calls.specs.Asking as asking
use Rattle.calls.specs.Answers.{tell_label, tell_page, tell_spoiler}
use Rattle.calls.specs.Ends.{held, LabelEnds, SpoilerEnds, ListEnds}
use Rattle.calls.specs.Ends as contract
use Rattle.calls.proofs.Asking.{Passes, ask-passed, list-refused, PassesSlot, page-is, slot-holds, slot-low}
use Rattle.reading.proofs.SoundArrays.{flag-model, flags-model, in-supporting, sound-bounded, sound-label}
use Rattle.written_lists.specs.Lists.{below}
use Rattle.written_lists.specs.Written.{Written, short, fits}
use Rattle.written_lists.proofs.Lists.{flags-list}
use Rattle.queries.specs.declared.RuleNumbers.{RuleNumbers}
use Rattle.queries.specs.RuleTold.{plain_numbers, RuleEnds}
use Rattle.queries.specs.RuleTold as told-rule
use Rattle.queries.proofs.Told.{label-told, plain-told}

-- Every atom of a sound table's unmuted rules is below the number of atoms.
pub active-low : (t : Table) → Sound t → Bounded (active (held t)) document.atoms
active-low t S = active-bounded (held t) document.atoms (sound-bounded t S)

-- The in atoms kept are the model, each with its supporting slot.
module _ (t : Table) (S : Sound t) (k : LabelArrays) (K : ArraysOf t.words k) where
  pub flags-admissible : Admissible (active (held t)) (member k.flags)
  flags-admissible = rw (flags-model t S k K) S.kept.admissible

  pub flags-supports :
      (h : ℕ) → member k.flags h ≡ true → Supporting (active (held t)) (member k.flags) h (number k.slots h)
  flags-supports h e =
      rw (flags-model t S k K) (in-supporting t S k K h (sym (flag-model t S k K h) ∙ e))

-- How a call on an atom ends that tells its label.
pub label-ends :
    (t : Table) (a : ℕ) (x : Atom) (l : Label) → Passes t a x → label_of l ≡ label_at t.words x.0
    → LabelEnds t a (Ok l)
label-ends t a x l Q e =
    let S = Q.sound in
    let is : Ok l ≡ tell_label (label_at t.words a) =
    label-told l ∙ ap tell_label (e ∙ ap (label_at t.words) Q.atom) in
    rw is
    (contract.accepted S.kept.model (label_at t.words a) S Q.yes S.kept.admissible (sound-label t S a))

-- What the place that a slot keeps tells of its page p.
module _ (B : Pages) (M : AtomSet) (s place : ℕ) (kept : place ≡ slot_spoiler B M s) (p : Page)
    (here : get_or B s none ≡ some p) where
  read : place ≡ place_kept M (active_on (some p))
  read = kept ∙ ap (place_kept M) (active-at B s ∙ ap active_on here)

  pub place-low : place ≤ length (entries p.rule)
  place-low = go p.muted read
    where
      of : (o : Option Spoiler) → spoiler M p.rule ≡ o → place_over p.rule o ≤ length (entries p.rule)
      of none e = omega arith
      of (some z) e = (let w = place-entry M p.rule z (spoils M p.rule z e) in omega (arith, w.1, w.2))

      go : (m : Bool) → place ≡ place_kept M (active_on (some (record { rule = p.rule; muted = m })))
          → place ≤ length (entries p.rule)
      go true e = omega arith
      go false e = omega (arith, of (spoiler M p.rule) refl)

  pub place-told :
      cond p.muted (Ok spoilt.Muted) (tell_spoiler (spoiler_at_place p.rule place)) ≡ tell_page M p
  place-told = go p.muted read
    where
      go : (m : Bool) → place ≡ place_kept M (active_on (some (record { rule = p.rule; muted = m })))
          → cond m (Ok spoilt.Muted) (tell_spoiler (spoiler_at_place p.rule place))
          ≡ tell_page M (record { rule = p.rule; muted = m })
      go true e = refl
      go false e = ap tell_spoiler (ap (spoiler_at_place p.rule) e ∙ spoiler-read M p.rule)

-- The rule q that was read of a slot: its page, what the slot's place tells of it, and its numbers.
module _ (t : Table) (s : ℕ) (x : Slot) (Q : PassesSlot t s x) (q : Rule)
    (e : q ≡ get_or (rules_of t.words) x.0 free_rule) where
  is : q ≡ get_or (rules_of t.words) s free_rule
  is = e ∙ ap (λ (z : ℕ). get_or (rules_of t.words) z free_rule) Q.slot

  some-state : q.state ≡ 0 → ⊥
  some-state z =
      none-ne-some (rule_of q)
      (sym (all-at (held t) s ∙ ap rule_on (page-is t s q is ∙ page-free q z)) ∙ slot-holds t s q is Q.yes)

  abbrev page : Page
  page = record { rule = rule_of q; muted = leb 2 q.state }

  holds : get_or (held t) s none ≡ some page
  holds = page-is t s q is ∙ page-there q some-state

  module _ (place : ℕ) (kept : place ≡ spoiler_at t.words x.0) where
    kept_here : place ≡ slot_spoiler (held t) Q.sound.kept.model s
    kept_here =
        kept ∙ ap (spoiler_at t.words) Q.slot
        ∙ Q.sound.kept.spoilers s (omega (arith, slot-low t s x Q, Q.sound.rules.slots))

    pub spoiler-low : place ≤ length (entries (rule_of q))
    spoiler-low = place-low (held t) Q.sound.kept.model s place kept_here page holds

    pub spoiler-ends :
        (r : RuleStatus) → Ok r ≡ cond (leb 2 q.state) (Ok spoilt.Muted) (tell_spoiler (spoiler_at_place (rule_of q) place))
        → SpoilerEnds t s (Ok r)
    spoiler-ends r u =
        let M = Q.sound.kept.model in
        let told : Ok r ≡ tell_page M page = u ∙ place-told (held t) M s place kept_here page holds in
        rw told (contract.accepted M page Q.sound Q.yes holds Q.sound.kept.admissible)

  pub rule-ends :
      (k : RuleNumbers) → k ≡ plain_numbers q → length q.entries ≡ document.entries → RuleEnds t s (Ok k)
  rule-ends k u long =
      let low = slot-low t s x Q in
      let clean : CleanRule q = rw (is ∙ there (rules_of t.words) s free_rule past_rule
      (omega (arith, rules-length t.words))) (Q.sound.clean s low) in
      rw (u ∙ plain-told q clean long) (told-rule.accepted page Q.sound Q.yes holds)

-- One of 15, 8 and 9 was answered no: so ends the call that tells a rule.
pub rule-refused :
    (t : Table) (s : ℕ) (r : AskedSlot) → AskSlotEnds t s r → (f : Refusal) → r ≡ Err f
    → RuleEnds t s (Err f)
rule-refused t s r E f e = go f (subst (AskSlotEnds t s) e E)
  where
    go : (f : Refusal) → AskSlotEnds t s (Err f) → RuleEnds t s (Err f)
    go f (asking.unsound n) = told-rule.unsound n
    go f (asking.refused g S q) = told-rule.refused g S q

-- How a call ends that lists a set of an atom: it is refused as the questions before are, or what was found and written
-- is the set, in the model M.
module _ (t : Table) (a : ℕ) (r : AskedAtom) (E : AskAtomEnds t a r) (Is : AtomSet → ℕ → ℕ → Type 0) where
  pub set-refused :
      (f : Refusal) → r ≡ Err f → (before : List ℕ)
      → ListEnds (atom_questions document a) (λ N xs. Lists xs (Is N a)) t before (Err f) before
  set-refused f e before = list-refused t a r E f e _ _ before (λ k q. q)

  pub set-ends :
      (x : Atom) → r ≡ Ok x → (M : AtomSet) → Admissible (active (held t)) M → (flags : List Bool)
      → Flags flags (Is M x.0) → (before : List ℕ) (answer : ListAnswer) (after : List ℕ)
      → Written (below (member flags) (length flags)) before answer after
      → ListEnds (atom_questions document a) (λ N xs. Lists xs (Is N a)) t before answer after
  set-ends x e M A flags F before answer after W = go answer after W
    where
      Q : Passes t a x
      Q = ask-passed t a r E x e

      xs : List ℕ
      xs = below (member flags) (length flags)

      is-listed : Lists xs (Is M a)
      is-listed = subst (λ (k : ℕ). Lists xs (Is M k)) Q.atom (flags-list flags (Is M x.0) F)

      go : (answer : ListAnswer) (after : List ℕ) → Written xs before answer after
          → ListEnds (atom_questions document a) (λ N ys. Lists ys (Is N a)) t before answer after
      go answer after (short l) = contract.short M xs Q.sound Q.yes A is-listed l
      go answer after (fits l) = contract.accepted M xs Q.sound Q.yes A is-listed l
