-- A slot that holds a fact, the frame's rule of a file, or the fact of a mark, unmuted, read off its fields. Assumes
-- nothing.
use Prim.Native.Nat.{ℕ, zero, suc, ◌+◌, ◌-◌, ◌*◌, ◌≤◌, ◌<◌, min}
use native.Mathlib.Omega.{arith}
use mathlib.Core.Path.{◌≡◌, refl, sym, ◌∙◌, ap, ap₂, subst}
use mathlib.Core.Logic.{◌↔◌, ⊎_elim}
use mathlib.Core.Bool.{Bool, true, false}
use mathlib.Core.List.{List, [], ◌∷◌}
use mathlib.Core.Option.{Option, none, some, none-ne-some}
use lib.Dec.{eqb}
use lib.ListN.{length, get_or, take, drop, length-map, length-take, length-drop}
use Rattle.theory.specs.Rules.{active, active_on, all, entries, Held, Page, Pages, Program}
use Rattle.theory.specs.Rules as theory
use Rattle.theory.specs.Limits.{document}
use Rattle.theory.proofs.Lists.{clash, eqb-eq, eqb_of, false-not, le-or-lt}
use Rattle.theory.proofs.Pages.{active-at, active-held, held-page, page-held}
use Rattle.theory.proofs.Questions.{held_below}
use Rattle.theory.proofs.Lists.{is_not}
use Rattle.table.specs.declared.Atom.{Atom}
use Rattle.table.specs.declared.Rule.{Rule}
use Rattle.table.specs.Rules.{numbers, page_of, active_in, rule_of, book_of, active_of, no_atom, past_rule}
use Rattle.table.proofs.Programs.{active-rule, active-some, active-state, active-place, book-at, page-free}
use Rattle.table.proofs.Programs.{page-there, program-length}
use Rattle.checklist_frame.specs.Frame.{MarkFact, Checklist, fact, frame, is_mark, files_of, none_muted}
use Rattle.checklist_frame.specs.Frame.{unmuted_on}
use Rattle.checklist_frame.specs.Parts.{FreeOrMark, FrameRun, MarksBehind}
use Rattle.checklist_frame.proofs.Unmuted.{active-all, active-page, page-active, unmuted-of, unmuted-page}
use Rattle.checklist_frame.proofs.Frames.{frame-not-fact, of-checklist, no-files}

-- An answer yes is right where the thing holds. (An answer no: `is_not`.)
pub told-yes : {A : Type 0} → A → (true ≡ true) ↔ A
told-yes a = (λ t. a, λ b. refl)

-- How long the lists of a slot's rule are.
positives-length : (r : Rule) → length (rule_of r).positives ≡ min r.positives (length r.entries)
positives-length r =
    length-map (take r.positives r.entries) (λ a. a.0) ∙ length-take r.positives r.entries

negatives-length : (r : Rule) → length (rule_of r).negatives ≡ min r.negatives (length r.entries - r.positives)
negatives-length r =
    length-map (take r.negatives (drop r.positives r.entries)) (λ a. a.0)
    ∙ length-take r.negatives (drop r.positives r.entries)
    ∙ ap (min r.negatives) (length-drop r.positives r.entries)

-- A slot that holds a rule, unmuted, whose lists together leave room: its counts are the lists' lengths.
module _ (r : Rule) (q : theory.Rule) (long : length r.entries ≡ document.entries) (h : active_in r ≡ some q) where
  pub head-held : r.head.0 ≡ q.head
  head-held = ap (λ (x : theory.Rule). x.head) (active-rule r q h)

  pub positives-held : length q.positives < document.entries → r.positives ≡ length q.positives
  positives-held l =
      let e = ap (λ (x : theory.Rule). length x.positives) (active-rule r q h) in
      omega (arith, e, positives-length r)

  pub negatives-held :
      length q.positives < document.entries → length q.negatives < document.entries - length q.positives
      → r.negatives ≡ length q.negatives
  negatives-held l m =
      let e = ap (λ (x : theory.Rule). length x.negatives) (active-rule r q h) in
      let p = positives-held l in
      omega (arith, e, negatives-length r)

-- A slot whose counts are 0 holds a fact, and if its state is 1, unmuted.
pub fact-held :
    (r : Rule) (a : ℕ) → r.head.0 ≡ a → r.positives ≡ 0 → r.negatives ≡ 0
    → (eqb r.state 1 ≡ true) ↔ (active_in r ≡ some (fact a))
fact-held r a h p m = (
  λ t. active-some r (eqb-eq r.state 1 t) ∙ ap some (λ i. record {
    head = h i;
    positives = ap (λ (k : ℕ). numbers (take k r.entries)) p i;
    negatives = ap (λ (k : ℕ). numbers (take k (drop r.positives r.entries))) m i;
  }),
  λ e. eqb_of r.state 1 (active-state r (fact a) e),
)

-- The frame's rule of file i, from 1, by its numbers.
abbrev pub file_rule : ℕ → theory.Rule
file_rule i = record {
  head = 3 * i;
  positives = (3 * i - 3) ∷ (3 * i - 2) ∷ [];
  negatives = (3 * i - 1) ∷ [];
}

pub frame-file : (i : ℕ) → 1 ≤ i → frame i ≡ file_rule i
frame-file zero l = absurd (omega arith)
frame-file (suc j) l = (let e : 3 * j ≡ 3 * suc j - 3 = omega arith in λ k. record {
  head = 3 * suc j;
  positives = e k ∷ (3 * suc j - 2) ∷ [];
  negatives = (3 * suc j - 1) ∷ [];
})

-- The first three entries of a slot, as the frame's rule of file i has them.
pub record ThreeAre (xs : List Atom) (i : ℕ) : Type 0 where
  pub first : (get_or xs 0 no_atom).0 ≡ 3 * i - 3
  pub second : (get_or xs 1 no_atom).0 ≡ 3 * i - 2
  pub third : (get_or xs 2 no_atom).0 ≡ 3 * i - 1

three : (xs : List Atom) → length xs ≡ 8
    → (numbers (take 2 xs) ≡ (get_or xs 0 no_atom).0 ∷ (get_or xs 1 no_atom).0 ∷ [])
    × (numbers (take 1 (drop 2 xs)) ≡ (get_or xs 2 no_atom).0 ∷ [])
    × (numbers (take 3 xs) ≡ (get_or xs 0 no_atom).0 ∷ (get_or xs 1 no_atom).0 ∷ (get_or xs 2 no_atom).0 ∷ [])
three [] e = absurd (omega (arith, e))
three (x ∷ []) e = absurd (omega (arith, e))
three (x ∷ y ∷ []) e = absurd (omega (arith, e))
three (x ∷ y ∷ z ∷ xs) e = (refl, refl, refl)

module _ (xs : List Atom) (i : ℕ) (long : length xs ≡ 8) (l : 1 ≤ i) where
  pub three-are : numbers (take 3 xs) ≡ entries (frame i) → ThreeAre xs i
  three-are e =
      let w = sym (three xs long).2 ∙ e ∙ ap entries (frame-file i l) in
      record {
        first = ap (λ (zs : List ℕ). get_or zs 0 0) w;
        second = ap (λ (zs : List ℕ). get_or zs 1 0) w;
        third = ap (λ (zs : List ℕ). get_or zs 2 0) w;
      }

  pub are-three : ThreeAre xs i → numbers (take 3 xs) ≡ entries (frame i)
  are-three t =
      (three xs long).2
      ∙ (λ k. t.first k ∷ t.second k ∷ t.third k ∷ [])
      ∙ sym (ap entries (frame-file i l))

-- A slot with two positives and one negative holds the frame's rule of its head's file if its three entries are those.
module _ (r : Rule) (i : ℕ) (long : length r.entries ≡ 8) (l : 1 ≤ i) where
  pub file-held :
      r.state ≡ 1 → r.head.0 ≡ 3 * i → r.positives ≡ 2 → r.negatives ≡ 1 → ThreeAre r.entries i
      → active_in r ≡ some (frame i)
  file-held n h p m t =
      let xs = r.entries in
      let ps : numbers (take r.positives xs) ≡ (3 * i - 3) ∷ (3 * i - 2) ∷ [] =
      ap (λ (k : ℕ). numbers (take k xs)) p ∙ (three xs long).0 ∙ (λ k. t.first k ∷ t.second k ∷ []) in
      let ns : numbers (take r.negatives (drop r.positives xs)) ≡ (3 * i - 1) ∷ [] =
      ap₂ (λ (k j : ℕ). numbers (take k (drop j xs))) m p ∙ (three xs long).1 ∙ (λ k. t.third k ∷ []) in
      active-some r n
      ∙ ap some ((λ k. record { head = h k; positives = ps k; negatives = ns k }) ∙ sym (frame-file i l))

  pub held-file : active_in r ≡ some (frame i) → r.positives ≡ 2 → r.negatives ≡ 1 → ThreeAre r.entries i
  held-file e p m =
      let xs = r.entries in
      let w = active-rule r (frame i) e ∙ frame-file i l in
      let ps = sym (three xs long).0 ∙ ap (λ (k : ℕ). numbers (take k xs)) (sym p)
      ∙ ap (λ (q : theory.Rule). q.positives) w in
      let ns = sym (three xs long).1 ∙ ap₂ (λ (k j : ℕ). numbers (take k (drop j xs))) (sym m) (sym p)
      ∙ ap (λ (q : theory.Rule). q.negatives) w in
      record {
        first = ap (λ (zs : List ℕ). get_or zs 0 0) ps;
        second = ap (λ (zs : List ℕ). get_or zs 1 0) ps;
        third = ap (λ (zs : List ℕ). get_or zs 0 0) ns;
      }

-- A free slot has no rule to ask about; a held one has the page of its rule, by which it is told.
pub free-passes : (n : ℕ) (r : Rule) → r.state ≡ 0 → FreeOrMark n (page_of r)
free-passes n r e p h = absurd (none-ne-some p (sym (page-free r e) ∙ h))

module _ (n : ℕ) (r : Rule) (there : r.state ≡ 0 → ⊥) where
  pub no-mark : (is_mark n r.head.0 ≡ false) → FreeOrMark n (page_of r) → ⊥
  no-mark f w = clash (w _ (page-there r there)).1.0 f

  pub mark-told :
      (b : Bool) → is_mark n r.head.0 ≡ true → (b ≡ true) ↔ (active_in r ≡ some (fact r.head.0))
      → (b ≡ true) ↔ FreeOrMark n (page_of r)
  mark-told b m told = (
    λ t p e. (
        let w = active-page p (fact r.head.0) (ap active_on (sym e) ∙ told.0 t) in
        (w.0, subst (MarkFact n) (sym w.1) (m, refl))),
    λ w. (
        let v = w _ (page-there r there) in
        told.1 (ap active_on (page-there r there) ∙ page-active _ v.0 ∙ ap some v.1.1)),
  )

-- The frame of n files stands from slot 0 on.
abbrev pub Stands : Program → ℕ → Type 0
Stands P n = (s : ℕ) → s ≤ n → Held P s (frame s)

module _ (rules : List Rule) where
  pub no_start : (active_in (get_or rules 0 past_rule) ≡ some (fact 0) → ⊥) → FrameRun (active_of rules) 0
  no_start n = record {
    few = omega arith;
    stands = λ l. absurd (omega arith);
    ends = λ l f. n (sym (active-place rules 0) ∙ f 0 (omega arith));
  }

  pub one-start : active_in (get_or rules 0 past_rule) ≡ some (fact 0) → Stands (active_of rules) 0
  one-start e s l = (let z : 0 ≡ s = omega arith in
      subst (λ (k : ℕ). Held (active_of rules) k (frame k)) z (active-place rules 0 ∙ e))

  module _ (n : ℕ) (all : Stands (active_of rules) n) where
    pub one_more :
        active_in (get_or rules (n + 1) past_rule) ≡ some (frame (n + 1)) → Stands (active_of rules) (n + 1)
    one_more e s l = ⊎_elim
        (λ (k : s ≤ n). all s k)
        (λ (k : n < s). let z : n + 1 ≡ s = omega arith in
        subst (λ (k : ℕ). Held (active_of rules) k (frame k)) z (active-place rules (n + 1) ∙ e))
        (le-or-lt s n)

    pub run_ends :
        n < 60 → (active_in (get_or rules (n + 1) past_rule) ≡ some (frame (n + 1)) → ⊥) → FrameRun (active_of rules) n
    run_ends l f = record {
      few = omega arith;
      stands = λ k. all;
      ends = λ k w. f (sym (active-place rules (n + 1)) ∙ w (n + 1) (omega arith));
    }

    pub run-full : 60 ≤ n → FrameRun (active_of rules) 60
    run-full m = record {
      few = omega arith;
      stands = λ k s l. all s (omega (arith, l, m));
      ends = λ k w. absurd (omega arith);
    }

-- The slots from n + 1 to below s are free or hold marks.
abbrev pub MarksTo : Pages → ℕ → ℕ → Type 0
MarksTo B n s = (k : ℕ) → n < k → k < s → FreeOrMark n (get_or B k none)

module _ (rules : List Rule) (n s : ℕ) (some-marks : MarksTo (book_of rules) n s) where
  pub marks-more : FreeOrMark n (page_of (get_or rules s past_rule)) → MarksTo (book_of rules) n (s + 1)
  marks-more w k l m = ⊎_elim
      (λ (j : s ≤ k). let z : s ≡ k = omega arith in
      subst (λ (i : ℕ). FreeOrMark n (get_or (book_of rules) i none)) z (subst (FreeOrMark n) (sym (book-at rules s)) w))
      (λ (j : k < s). some-marks k l j)
      (le-or-lt s k)

  pub marks-stop :
      n < s → (FreeOrMark n (page_of (get_or rules s past_rule)) → ⊥) → MarksBehind (book_of rules) n false
  marks-stop l f = is_not (λ w. f (subst (FreeOrMark n) (book-at rules s) (w s l)))

  pub marks-all : length rules ≤ s → MarksBehind (book_of rules) n true
  marks-all l = told-yes (λ k j p e. some-marks k j (omega (
    arith,
    l,
    held_below (all (book_of rules)) k p.rule (held-page (book_of rules) k p e),
    program-length rules,
  )) p e)

-- What the run of the frame and the slots behind it say of the whole.
module _ (B : Pages) (n : ℕ) (R : FrameRun (active B) n) where
  run-number : (m : ℕ) → Checklist B m → m ≡ n
  run-number m C = ⊎_elim
      (λ (l : m ≤ n). ⊎_elim
      (λ (k : n ≤ m). omega arith)
      (λ (k : m < n). absurd (next-held (R.stands (omega (arith, C.low)) (suc m) (omega arith))))
      (le-or-lt n m))
      (λ (l : n < m). absurd (R.ends (omega (arith, C.high)) (λ s k. unmuted-frame s (omega arith))))
      (le-or-lt m n)
    where
      next-held : Held (active B) (suc m) (frame (suc m)) → ⊥
      next-held h =
          frame-not-fact m _ (C.others (suc m) (frame (suc m)) (omega arith) (active-held B _ _ h)).1

      unmuted-frame : Stands (active B) m
      unmuted-frame s k = ap (λ (P : Program). get_or P s none) (active-all B C.unmuted) ∙ C.frames s k

  pub count_none : n ≡ 0 → none ≡ files_of B
  count_none z = sym (no-files B (λ m C. omega (arith, run-number m C, C.low)))

  module _ (b : Bool) (behind : MarksBehind B n b) where
    pub count-broken : b ≡ false → none ≡ files_of B
    count-broken f =
        sym (no-files B (λ m C. (
        let D : Checklist B n = subst (Checklist B) (run-number m C) C in
        clash (behind.1 (λ s l p e.
        (unmuted-page B D.unmuted s p e, D.others s p.rule l (held-page B s p e)))) f)))

    -- no page is muted: neither the frame's nor one behind it
    whole-unmuted : 1 ≤ n → b ≡ true → none_muted B ≡ true
    whole-unmuted l t = unmuted-of B (λ s. ⊎_elim
        (λ (k : s ≤ n). of-rule (get_or B s none) (frame s) (sym (active-at B s) ∙ R.stands l s k))
        (λ (k : n < s). of-mark (get_or B s none) (behind.0 t s k))
        (le-or-lt s n))
      where
        of-rule : (o : Option Page) (r : theory.Rule) → active_on o ≡ some r → unmuted_on o ≡ true
        of-rule none r e = refl
        of-rule (some p) r e = false-not p.muted (active-page p r e).0

        of-mark : (o : Option Page) → FreeOrMark n o → unmuted_on o ≡ true
        of-mark none w = refl
        of-mark (some p) w = false-not p.muted (w p refl).0

    pub count-whole : (n ≡ 0 → ⊥) → b ≡ true → some n ≡ files_of B
    count-whole l t =
        sym (of-checklist B n (record {
          low = omega arith;
          high = R.few;
          unmuted = whole-unmuted (omega arith) t;
          frames = λ s k. active-held B s (frame s) (R.stands (omega arith) s k);
          others = λ s r k h. (
              let p = page-held B s r h in
              subst (MarkFact n) p.2 (behind.0 t s k p.0 p.1).1);
        }))
