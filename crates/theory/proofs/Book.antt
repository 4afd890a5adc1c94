-- What the plain book never answers: "accepted" to an addition, a slot to a removal, a replacement or a muting. And
-- what it does with marks. Assumes nothing.
use Prim.Native.Nat.{ℕ, ◌<◌}
use native.Mathlib.Omega.{arith}
use mathlib.Core.Path.{◌≡◌, refl, sym, ◌∙◌, ap}
use mathlib.Core.Bool.{Bool, true, false, true≢false}
use mathlib.Core.Option.{Option, none, some}
use lib.ListN.{get_or, length}
use lib.Seq.{get_or-set_other, get_or-set_same}
use Rattle.theory.specs.Rules.{all, kept, new_page, Pages, Program, Rule}
use Rattle.theory.specs.Limits.{Limits}
use Rattle.theory.specs.Questions.{add_questions, first_no, is_some, lowest_free, put_in, replace_questions}
use Rattle.theory.specs.Questions.{slot_questions}
use Rattle.theory.specs.Book.{accepted, add, Answer, answer, Call, changed, granted, mute, refusal, refused}
use Rattle.theory.specs.Book.{remove, replace, slot}
use Rattle.theory.proofs.Questions.{first_no-none}

refused-other : {k : ℕ} → refused k ≡ accepted → ⊥
refused-other e = let z : ◌≡◌ {A = ℕ} 0 1 = cc in omega arith

refused-no-slot : {k s : ℕ} → refused k ≡ slot s → ⊥
refused-no-slot e = let z : ◌≡◌ {A = ℕ} 0 1 = cc in omega arith

slot-other : {s : ℕ} → slot s ≡ accepted → ⊥
slot-other e = let z : ◌≡◌ {A = ℕ} 0 1 = cc in omega arith

-- A slot is free where the addition's questions are all answered yes: question 6 is one of them.
free-slot : (limits : Limits) (P : Program) (r : Rule) → first_no (add_questions limits P r) ≡ none
    → is_some (lowest_free P) ≡ true
free-slot limits P r e =
    let one = first_no-none _ _ e in
    let two = first_no-none _ _ one.1 in
    let three = first_no-none _ _ two.1 in
    let four = first_no-none _ _ three.1 in
    let five = first_no-none _ _ four.1 in
    (first_no-none _ _ five.1).0

-- What an accepted addition is answered, by the lowest free slot.
abbrev pub slot_answer : Option ℕ → Answer
slot_answer o = elim o [ none ↦ accepted | some s ↦ slot s ]

taken : (o : Option ℕ) → is_some o ≡ true → slot_answer o ≡ accepted → ⊥
taken none t e = true≢false (sym t)
taken (some s) t e = slot-other e

module _ (limits : Limits) (B : Pages) where
  pub add-not-accepted : (r : Rule) → answer limits B (add r) ≡ accepted → ⊥
  unfolding answer
  add-not-accepted r = go (refusal limits B (add r)) refl
    where
      go : (o : Option ℕ) → refusal limits B (add r) ≡ o
          → elim o [ none ↦ granted limits B (add r) | some k ↦ refused k ] ≡ accepted → ⊥
      go none q e = taken (lowest_free (all B)) (free-slot limits (all B) r q) e
      go (some k) q e = refused-other e

  -- A call that is granted "accepted" is never answered a slot.
  not-a-slot : (c : Call) → granted limits B c ≡ accepted → (t : ℕ) → answer limits B c ≡ slot t → ⊥
  unfolding answer
  not-a-slot c g t = go (refusal limits B c)
    where
      go : (o : Option ℕ) → elim o [ none ↦ granted limits B c | some k ↦ refused k ] ≡ slot t → ⊥
      go none e = slot-other (sym e ∙ g)
      go (some k) e = refused-no-slot e

  pub remove-not-a-slot : (s t : ℕ) → answer limits B (remove s) ≡ slot t → ⊥
  remove-not-a-slot s = not-a-slot (remove s) refl

  pub replace-not-a-slot : (s t : ℕ) (r : Rule) → answer limits B (replace s r) ≡ slot t → ⊥
  replace-not-a-slot s t r = not-a-slot (replace s r) refl t

  pub mute-not-a-slot : (s t : ℕ) (m : Bool) → answer limits B (mute s m) ≡ slot t → ⊥
  mute-not-a-slot s t m = not-a-slot (mute s m) refl t

-- Marks (request #108).
module _ (limits : Limits) where
  -- They play no part in the questions: pages that hold the same rules refuse the same calls.
  pub marks-unasked : (B C : Pages) → all B ≡ all C → (c : Call) → refusal limits B c ≡ refusal limits C c
  marks-unasked B C e (add r) = ap (λ (P : Program). first_no (add_questions limits P r)) e
  marks-unasked B C e (remove s) = ap (λ (P : Program). first_no (slot_questions limits P s)) e
  marks-unasked B C e (replace s r) = ap (λ (P : Program). first_no (replace_questions limits P s r)) e
  marks-unasked B C e (mute s m) = ap (λ (P : Program). first_no (slot_questions limits P s)) e

  module _ (B : Pages) where
    -- The page that a call changes, if it is accepted.
    abbrev pub own : Call → Option ℕ
    own (add r) = lowest_free (all B)
    own (remove s) = some s
    own (replace s r) = some s
    own (mute s m) = some s

    -- Every other page stays as it was, rule and mark.
    pub others-stay : (c : Call) (t : ℕ) → (own c ≡ some t → ⊥) → get_or (changed limits B c) t none ≡ get_or B t none
    others-stay (add r) t n = go (lowest_free (all B)) n
      where
        go : (o : Option ℕ) → (o ≡ some t → ⊥) → get_or (put_in B o (new_page r)) t none ≡ get_or B t none
        go none k = refl
        go (some s) k = get_or-set_other B s t (some (new_page r)) none (λ e. k (ap some (sym e)))
    others-stay (remove s) t n = get_or-set_other B s t none none (λ e. n (ap some (sym e)))
    others-stay (replace s r) t n = get_or-set_other B s t _ none (λ e. n (ap some (sym e)))
    others-stay (mute s m) t n = get_or-set_other B s t _ none (λ e. n (ap some (sym e)))

    -- A replaced rule starts unmuted, and so does an added one.
    pub replaced-unmuted :
        (s : ℕ) (r : Rule) → s < length B
        → get_or (changed limits B (replace s r)) s none ≡ some (record { rule = kept r; muted = false })
    replaced-unmuted s r l = get_or-set_same B s (some (new_page r)) none l

    pub added-unmuted :
        (s : ℕ) (r : Rule) → lowest_free (all B) ≡ some s → s < length B
        → get_or (changed limits B (add r)) s none ≡ some (record { rule = kept r; muted = false })
    added-unmuted s r free l =
        ap (λ (o : Option ℕ). get_or (put_in B o (new_page r)) s none) free ∙ get_or-set_same B s (some (new_page r)) none l
