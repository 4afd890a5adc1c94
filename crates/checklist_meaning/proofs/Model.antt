-- The in atoms of a checklist: a mark is in if its fact stands, and the last good if every file is sent and none has a
-- skip standing. Assumes nothing.
use Prim.Native.Nat.{ℕ, zero, suc, ◌≤◌, ◌<◌}
use native.Mathlib.Omega.{arith}
use mathlib.Core.Path.{◌≡◌, refl, sym, ◌∙◌, ap, subst}
use mathlib.Core.Logic.{⊎_elim, ◌↔◌}
use mathlib.Core.Bool.{Bool, true, false, not, ◌||◌}
use mathlib.Core.List.Memᴰ
use mathlib.Core.List.{[], ◌∷◌}
use mathlib.Core.Option.{some}
use Rattle.theory.specs.Lists.{◌∈◌}
use Rattle.theory.specs.Rules.{Rule, Program, Pages, all, active, Held}
use Rattle.theory.specs.Models.{AtomSet, Admissible, valid}
use Rattle.theory.specs.Labels.{Supporting}
use Rattle.theory.proofs.Lists.{or-false-l, or-false-r, clash, same_test, not-false, le-or-lt}
use Rattle.theory.proofs.Rules.{held-unique, rules-at, valid-positive, valid-negative, valid-of}
use Rattle.theory.proofs.Found.{ordered-rule}
use Rattle.theory.proofs.Pages.{active-held}
use Rattle.checklist_frame.specs.Frame.{Checklist, sent, skipped, good, fact, frame, on_list, is_mark, marked}
use Rattle.checklist_meaning.specs.Questions.{lacks}
use Rattle.checklist_frame.proofs.Unmuted.{active-all}
use Rattle.checklist_frame.proofs.Frames.{in_one, on-list-between, between-on-list, mark-not-good, sent-mark}
use Rattle.checklist_frame.proofs.Frames.{skipped-mark}
use Rattle.checklist_meaning.proofs.Marks.{marked-at, marked-of, frame-good, mark-rule}

-- The slot that supports a mark's atom holds its fact, and lies behind the frame.
pub mark-support :
    (B : Pages) (n : ℕ) → Checklist B n → (M : AtomSet) (a s : ℕ) → is_mark n a ≡ true
    → Supporting (active B) M a s → Held (all B) s (fact a) × (n < s)
mark-support B n C M a s m S =
    let w = S.supports in
    mark-rule B n C a s w.rule m (active-held B s w.rule w.held) w.heads

-- File i is sent and has no skip standing: it lacks nothing.
abbrev pub Clear : Pages → ℕ → Type 0
Clear B i = (marked B (sent i) ≡ true) × (marked B (skipped i) ≡ false)

pub lacks-iff : (B : Pages) (i : ℕ) → (lacks B i ≡ false) ↔ Clear B i
lacks-iff B i = (
  λ t. (
    not-false (marked B (sent i)) (or-false-l (not (marked B (sent i))) (marked B (skipped i)) t),
    or-false-r (not (marked B (sent i))) (marked B (skipped i)) t,
  ),
  λ c. of (marked B (sent i)) (marked B (skipped i)) c.0 c.1,
)
  where
    of : (a b : Bool) → a ≡ true → b ≡ false → (not a || b) ≡ false
    of true b t u = u
    of false b t u = absurd (clash t refl)

module _ (B : Pages) (n : ℕ) (C : Checklist B n) (M : AtomSet) (A : Admissible (active B) M) where
  -- No rule is muted, so the model is that of all rules held.
  whole : Admissible (all B) M
  whole = subst (λ (P : Program). Admissible P M) (active-all B C.unmuted) A

  -- What is in is the head of a valid rule held; a fact that is held is in.

  in-rule : (a : ℕ) → M a ≡ true → (s : ℕ) × (r : Rule) × Held (all B) s r × (r.head ≡ a) × (valid M r ≡ true)
  in-rule a t =
      let F = whole.founded in
      let w = ordered-rule (all B) M F.order F.ordered a ((F.exactly a).0 t) in
      let h = rules-at (all B) w.0 w.1 in
      (h.0, w.0, h.1, w.2, w.3)

  fact-in : (a s : ℕ) → Held (all B) s (fact a) → M a ≡ true
  fact-in a s h = whole.closed s (fact a) h
      (valid-of M (fact a) (λ p m. absurd (Memᴰ.not-nil m)) (λ p m. absurd (Memᴰ.not-nil m)))

  -- A mark is in exactly if it stands.
  pub mark-in : (a : ℕ) → is_mark n a ≡ true → M a ≡ marked B a
  mark-in a m = same_test (M a) (marked B a)
      (λ t. (let w = in-rule a t in marked-of (all B) a w.0 (mark-rule B n C a w.0 w.1 m w.2 w.3).0))
      (λ t. (let w = marked-at (all B) a t in fact-in a w.0 w.1))

  -- The start is good.
  pub start-good : M (good 0) ≡ true
  start-good = fact-in 0 0 (C.frames 0 (omega arith))

  -- A file is good exactly if the one before it is, and it is sent and no skip of it stands.

  file-good : (i : ℕ) → suc i ≤ n → M (good i) ≡ true → Clear B (suc i) → M (good (suc i)) ≡ true
  file-good i l t c = whole.closed (suc i) (frame (suc i)) (C.frames (suc i) l) (valid-of M (frame (suc i))
      (λ p m. ⊎_elim
      (λ (e : p ≡ good i). ap M e ∙ t)
      (λ (m' : p ∈ sent (suc i) ∷ []).
      ap M (in_one p (sent (suc i)) m') ∙ mark-in (sent (suc i)) (sent-mark n (suc i) (omega arith) l) ∙ c.0)
      (Memᴰ.cases_cons m))
      (λ p m.
      ap M (in_one p (skipped (suc i)) m) ∙ mark-in (skipped (suc i)) (skipped-mark n (suc i) (omega arith) l) ∙ c.1))

  good-rule : (i : ℕ) → suc i ≤ n → M (good (suc i)) ≡ true → valid M (frame (suc i)) ≡ true
  good-rule i l t =
      let w = in-rule (good (suc i)) t in
      ⊎_elim
      (λ (k : w.0 ≤ n). (
      let e : w.0 ≡ suc i = omega (arith, frame-good B n C w.0 w.1 k w.2, w.3) in
      let h : Held (all B) (suc i) w.1 = subst (λ (z : ℕ). Held (all B) z w.1) e w.2 in
      let d = held-unique (all B) (suc i) w.1 (frame (suc i)) h (C.frames (suc i) l) in
      ap (valid M) (sym d) ∙ w.4))
      (λ (k : n < w.0). absurd (mark-not-good n w.1.head (C.others w.0 w.1 k w.2).0 (suc i) w.3))
      (le-or-lt w.0 n)

  good-file : (i : ℕ) → suc i ≤ n → M (good (suc i)) ≡ true → (M (good i) ≡ true) × Clear B (suc i)
  good-file i l t =
      let v = good-rule i l t in (
        valid-positive M (frame (suc i)) v (good i) (Memᴰ.head refl),
        (
          sym (mark-in (sent (suc i)) (sent-mark n (suc i) (omega arith) l))
              ∙ valid-positive M (frame (suc i)) v (sent (suc i)) (Memᴰ.tail (Memᴰ.head refl)),
          sym (mark-in (skipped (suc i)) (skipped-mark n (suc i) (omega arith) l))
              ∙ valid-negative M (frame (suc i)) v (skipped (suc i)) (Memᴰ.head refl),
        ),
      )

  -- So a file is good exactly if each file up to it is sent and has no skip standing: by induction, since a good is the
  -- head of one rule alone, that of its file in the frame (`good-rule`).
  pub good-iff : (i : ℕ) → i ≤ n → (M (good i) ≡ true) ↔ ((j : ℕ) → 1 ≤ j → j ≤ i → Clear B j)
  good-iff zero l = (λ t j k h. absurd (omega arith), λ f. start-good)
  good-iff (suc i) l =
      let w = good-iff i (omega arith) in (
        λ t j k h. (let g = good-file i l t in ⊎_elim
            (λ (u : j ≤ i). w.0 g.0 j k u)
            (λ (u : i < j). (let e : suc i ≡ j = omega arith in subst (Clear B) e g.1))
            (le-or-lt j i)),
        λ f. file-good i l (w.1 (λ j k h. f j k (omega arith))) (f (suc i) (omega arith) (omega arith)),
      )

  -- Complete: every file is sent, and none has a skip standing.
  pub complete-iff : (M (good n) ≡ true) ↔ ((i : ℕ) → 1 ≤ i → i ≤ n → Clear B i)
  complete-iff = good-iff n (omega arith)

  -- In other words, no file of the list lacks anything.
  pub complete-lacks : (M (good n) ≡ true) ↔ ((i : ℕ) → on_list (some n) i ≡ true → lacks B i ≡ false)
  complete-lacks = (
    λ t i o. (let l = on-list-between n i o in (lacks-iff B i).1 (complete-iff.0 t i l.0 l.1)),
    λ f. complete-iff.1 (λ i l h. (lacks-iff B i).0 (f i (between-on-list n i l h))),
  )
