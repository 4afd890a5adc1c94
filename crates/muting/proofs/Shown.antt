-- What request #108 asks to be shown (specification 9.5), of what the calls answer and hand back. (Demands 2 and 3 with
-- mutings stand in crates/history.) Assumes nothing.
use Rattle.std.specs.Prelude.{Ok, Err}
use Prim.Native.Nat.{ℕ, ◌<◌}
use mathlib.Core.Path.{◌≡◌, refl, sym, ◌∙◌, ap, ap₂, subst}
use mathlib.Core.Bool.{Bool, true, false}
use mathlib.Core.List.{[], ◌∷◌, map}
use mathlib.Core.Option.{Option, none, some}
use lib.ListN.{length, get_or, set}
use lib.Seq.{get_or-set_same, set-set}
use Rattle.theory.specs.Lists.{every}
use Rattle.theory.specs.Rules.{Page, Pages, Program, Rule, all, active, active_on, rule_on, with_mark, Held, Occurs}
use Rattle.theory.specs.Models.{AtomSet, Admissible}
use Rattle.theory.specs.Dependencies.{NegativeCycle}
use Rattle.theory.specs.Derivations.{Depth}
use Rattle.theory.specs.Labels.{Label, out, Labelled, is_absent, is_out, is_in, Supporting}
use Rattle.theory.specs.Questions.{first_no, slot_questions}
use Rattle.theory.specs.Limits.{document}
use Rattle.theory.proofs.Lists.{some_below, unless}
use Rattle.theory.proofs.Rules.{rules-at}
use Rattle.theory.proofs.Found.{ordered-rule}
use Rattle.theory.proofs.Questions.{held_below, never-refused}
use Rattle.theory.proofs.Pages.{active-acyclic, active-occurs, all-length, all_set, held-page, mark-again, mark_set}
use Rattle.theory.proofs.Pages.{muted-freed, page-held, set_mark}
use Rattle.theory.proofs.Labels.{label-unique, same-label}
use Rattle.theory.proofs.Slots.{labelled}
use Rattle.theory.proofs.Removal.{freed}
use Rattle.theory.proofs.Replacing.{old-rule}
use Rattle.table.specs.declared.Table.{Table}
use Rattle.table.specs.Labels.{label_at}
use Rattle.table.specs.Sound.{Sound}
use Rattle.refusals.specs.declared.Refusal.TheVariants as refusal
use Rattle.calls.specs.Answers.{ChangeAnswer}
use Rattle.calls.specs.Ends as contract
use Rattle.calls.specs.Ends.{held, Sized, RemoveEnds, MuteEnds}
use Rattle.calls.proofs.Asking.{slot-asked}
use Rattle.calls.proofs.OneTable.{table-unique}
use Rattle.calls.proofs.Determined.{both}

-- Unmuting never meets 7, nor does muting: it is not asked. That it need not be are the next two laws.
pub never-7 : (t u : Table) (s : ℕ) (m : Bool) → MuteEnds t s m (Err refusal.NegativeCycle) u → ⊥
unfolding every
never-7 t u s m (contract.refused f S e) = never-refused 7 (slot_questions document (all (held t)) s) refl e

-- With the marks of any pages of a sound table taken off, or put on, the unmuted rules have no loop
-- through a negation. (Pages that hold the same rules, whatever the marks.)
pub any-marks-acyclic :
    (t : Table) → Sound t → (B : Pages) → all B ≡ all (held t) → NegativeCycle (active B) → ⊥
any-marks-acyclic t S B e = active-acyclic B (subst (λ (P : Program). NegativeCycle P → ⊥) (sym e) S.rules.acyclic)

-- With every mark off, the unmuted rules are all rules held: these have no loop through a negation either.
abbrev pub all_unmuted : Pages → Pages
all_unmuted = map (set_mark false)

pub unmuted-rules : (B : Pages) → active (all_unmuted B) ≡ all B
unmuted-rules [] = refl
unmuted-rules (none ∷ B) = ap (λ (P : Program). none ∷ P) (unmuted-rules B)
unmuted-rules (some p ∷ B) = ap (λ (P : Program). some p.rule ∷ P) (unmuted-rules B)

pub all_unmuted-acyclic : (t : Table) → Sound t → NegativeCycle (active (all_unmuted (held t))) → ⊥
all_unmuted-acyclic t S c = S.rules.acyclic (subst NegativeCycle (unmuted-rules (held t)) c)

-- A slot that holds a rule, of a sound table, passes 15, 8 and 9.
module _ (t : Table) (s : ℕ) (m : Bool) (p : Page) (h : get_or (held t) s none ≡ some p) (S : Sound t) where
  asked : first_no (slot_questions document (all (held t)) s) ≡ none
  asked = slot-asked (all (held t)) s p.rule (all-length (held t) ∙ S.rules.slots) (held-page (held t) s p h)

  -- Setting a mark there is accepted, and the table has it.
  pub set-accepted : (u : Table) (x : ChangeAnswer) → MuteEnds t s m x u
      → (x ≡ Ok tt) × (Sound u × Sized u × (held u ≡ with_mark (held t) s m))
  set-accepted u x (contract.unsound n) = absurd (n S)
  set-accepted u x (contract.refused f T e) = absurd (both _ _ e asked)
  set-accepted u x (contract.accepted w T e Z i U) = (refl, (U, Z, i))

-- What the page holds with the mark set.
marked-there :
    (B : Pages) (s : ℕ) (m : Bool) (p : Page) → s < length B → get_or B s none ≡ some p
    → get_or (with_mark B s m) s none ≡ some (record { rule = p.rule; muted = m })
marked-there B s m p l h = get_or-set_same B s (set_mark m (get_or B s none)) none l ∙ ap (set_mark m) h

-- Setting what is set already is accepted and gives the same table.
pub set-again :
    (t u : Table) (s : ℕ) (p : Page) (x : ChangeAnswer) → Sound t → Sized t → get_or (held t) s none ≡ some p
    → MuteEnds t s p.muted x u → (x ≡ Ok tt) × (u ≡ t)
set-again t u s p x S Z h E =
    let w = set-accepted t s p.muted p h S u x E in
    (w.0, table-unique u t w.1.1 Z w.1.0 S (w.1.2 ∙ mark_set (held t) s p h))

-- Any mark, and then the one that the rule had, gives the same table again; so does muting and unmuting a rule that was
-- not muted.
pub marked-and-back :
    (t u v : Table) (s : ℕ) (p : Page) (m : Bool) (x : ChangeAnswer) → Sized t → get_or (held t) s none ≡ some p
    → MuteEnds t s m (Ok tt) u → MuteEnds u s p.muted x v → (x ≡ Ok tt) × (v ≡ t)
marked-and-back t u v s p m x Z h (contract.accepted w S d Y i W) E =
    let below = some_below (held t) s p h in
    let there : get_or (held w) s none ≡ some (record { rule = p.rule; muted = m }) =
    ap (λ (B : Pages). get_or B s none) i ∙ marked-there (held t) s m p below h in
    let g = set-accepted w s p.muted _ there W v x E in
    let pages = g.1.2 ∙ ap (λ (B : Pages). with_mark B s p.muted) i ∙ mark-again (held t) s below m p.muted
    ∙ mark_set (held t) s p h in
    (g.0, table-unique v t g.1.1 Z g.1.0 S pages)

pub muted-and-unmuted :
    (t u v : Table) (s : ℕ) (p : Page) (x : ChangeAnswer) → Sized t → get_or (held t) s none ≡ some p
    → p.muted ≡ false → MuteEnds t s true (Ok tt) u → MuteEnds u s false x v
    → (x ≡ Ok tt) × (v ≡ t)
muted-and-unmuted t u v s p x Z h off M U =
    marked-and-back t u v s p true x Z h M (subst (λ (m : Bool). MuteEnds u s m x v) (sym off) U)

-- Muted rules have no effect on any label but by their atoms' occurrence. A table t, and v, which holds the same
-- unmuted rules and in which no other atom occurs than in t: v lacks muted rules of t.
module _
    (t v : Table) (S : Sound t) (R : Sound v) (same-active : active (held v) ≡ active (held t))
    (fewer : (a : ℕ) → Occurs (all (held v)) a → Occurs (all (held t)) a)
  where
    -- a label of t is that of v
    label-too : (M : AtomSet) (a : ℕ) (l : Label) → Occurs (all (held v)) a → Labelled (held t) M a l
        → Labelled (held v) M a l
    label-too M a l o (is_absent f) = absurd (f (fewer a o))
    label-too M a l o (is_out q e) = is_out o e
    label-too M a l o (is_in {d = d} {s = k} e D T) =
        is_in e (subst (λ (P : Program). Depth P M a d) (sym same-active) D)
        (subst (λ (P : Program). Supporting P M a k) (sym same-active) T)

    same-labels :
        (a : ℕ) → Occurs (all (held v)) a → label_at t.words a ≡ label_at v.words a
    same-labels a o =
        same-label (held v) S.kept.model R.kept.model a _ _ R.rules.acyclic
        (subst (λ (P : Program). Admissible P S.kept.model) (sym same-active) S.kept.admissible)
        R.kept.admissible (label-too S.kept.model a _ o (labelled _ _ _ S.kept a)) (labelled _ _ _ R.kept a)

-- One muted rule: the labels are those of the table without it, for every atom that occurs there. Slot s of t is muted,
-- and v is left when it is removed.
module _
    (t v : Table) (s : ℕ) (p : Page) (there : get_or (held t) s none ≡ some p) (muted : p.muted ≡ true) (S : Sound t)
    (R : Sound v) (rest : held v ≡ set (held t) s none)
  where
    pub labels-without :
        (a : ℕ) → Occurs (all (held v)) a → label_at t.words a ≡ label_at v.words a
    labels-without = same-labels t v S R same-active fewer
      where
        same-active : active (held v) ≡ active (held t)
        same-active =
            ap active rest ∙ sym (muted-freed (held t) s)
            ∙ ap active (ap (with_mark (held t) s) (sym muted) ∙ mark_set (held t) s p there)

        fewer : (a : ℕ) → Occurs (all (held v)) a → Occurs (all (held t)) a
        fewer a o =
            let i = subst (λ (P : Program). Held P o.slot o.rule) (ap all rest ∙ all_set (held t) s none)
            o.held in
            let below = held_below (all (held t)) s p.rule (held-page (held t) s p there) in
            record {
              slot = o.slot;
              rule = o.rule;
              held = (freed (all (held t)) s o.slot o.rule below i).1;
              there = o.there;
            }

-- All of them: the labels are those of the table in which every muted slot is free, for every atom that occurs there.

abbrev pub freed_on : Option Page → Option Page
freed_on none = none
freed_on (some p) = elim p.muted [ true ↦ none | false ↦ some p ]

abbrev pub without_muted : Pages → Pages
without_muted = map freed_on

unmuted-all : (B : Pages) → all (without_muted B) ≡ active B
unmuted-all [] = refl
unmuted-all (none ∷ B) = ap (λ (P : Program). none ∷ P) (unmuted-all B)
unmuted-all (some p ∷ B) = ap₂ ◌∷◌ (one p.muted) (unmuted-all B)
  where
    one :
        (m : Bool)
        → rule_on (elim m [ true ↦ none | false ↦ some p ]) ≡ elim m [ true ↦ none | false ↦ some p.rule ]
    one true = refl
    one false = refl

unmuted-active : (B : Pages) → active (without_muted B) ≡ active B
unmuted-active [] = refl
unmuted-active (none ∷ B) = ap (λ (P : Program). none ∷ P) (unmuted-active B)
unmuted-active (some p ∷ B) = ap₂ ◌∷◌ (one p.muted refl) (unmuted-active B)
  where
    one : (m : Bool) → p.muted ≡ m → active_on (elim m [ true ↦ none | false ↦ some p ]) ≡ active_on (some p)
    one true e = sym (ap (λ b. elim b [ true ↦ none | false ↦ some p.rule ]) e)
    one false e = refl

pub labels-without_muted :
    (t v : Table) → Sound t → Sound v → held v ≡ without_muted (held t) → (a : ℕ)
    → Occurs (all (held v)) a → label_at t.words a ≡ label_at v.words a
labels-without_muted t v S R rest = same-labels t v S R (ap active rest ∙ unmuted-active (held t))
    (λ a o. active-occurs (held t) a
    (subst (λ (P : Program). Occurs P a) (ap all rest ∙ unmuted-all (held t)) o))

-- An atom that occurs and is the head of no unmuted rule is out: so is one whose rules are all muted.
pub all-muted-out :
    (t : Table) → Sound t → (a : ℕ) → Occurs (all (held t)) a
    → ((s : ℕ) (r : Rule) → Held (active (held t)) s r → r.head ≡ a → ⊥) → label_at t.words a ≡ out
all-muted-out t S a o none-heads =
    label-unique (held t) S.kept.model S.kept.admissible.founded a _ out (labelled _ _ _ S.kept a)
    (is_out o (unless _ (λ e. (
    let w = ordered-rule (active (held t)) S.kept.model S.kept.admissible.founded.order
    S.kept.admissible.founded.ordered a ((S.kept.admissible.founded.exactly a).0 e) in
    let h = rules-at (active (held t)) w.0 w.1 in
    none-heads h.0 w.0 h.1 w.2))))

-- The same of the calls: muting a rule, and removing it.
pub muted-as-removed :
    (t u v : Table) (s : ℕ) → MuteEnds t s true (Ok tt) u → RemoveEnds t s (Ok tt) v → (a : ℕ)
    → Occurs (all (held v)) a → label_at u.words a ≡ label_at v.words a
muted-as-removed t u v s (contract.accepted w S d Y i W) (contract.accepted z T e Z j R) a o =
    let old = old-rule document (all (held t)) s d in
    let k = page-held (held t) s old.0 old.1 in
    let below = some_below (held t) s k.0 k.1 in
    let there = ap (λ (B : Pages). get_or B s none) i ∙ marked-there (held t) s true k.0 below k.1 in
    labels-without w z s _ there refl W R
    (j ∙ sym (set-set (held t) s _ none) ∙ ap (λ (B : Pages). set B s none) (sym i)) a o
