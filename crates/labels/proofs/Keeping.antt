-- A walk up the slots that writes what is due, and what the slots keep in the end. Assumes nothing.
use Prim.Native.Nat.{ℕ, ◌+◌, ◌≤◌, ◌<◌}
use native.Mathlib.Omega.{arith}
use mathlib.Core.Path.{◌≡◌, refl, sym, ◌∙◌, ap, subst}
use mathlib.Core.Logic.{⊎_elim}
use mathlib.Core.Bool.{Bool, true, false, true≢false}
use mathlib.Core.List.{List}
use mathlib.Core.Option.{none}
use lib.ListN.{get_or, length, replicate}
use Rattle.theory.specs.Rules.{Bounded, Program}
use Rattle.theory.specs.Models.{Admissible, AtomSet}
use Rattle.theory.specs.Dependencies.{NegativeCycle}
use Rattle.theory.specs.Slots.{place_kept, SlotDepth, slot_spoiler}
use Rattle.theory.specs.Certificate.{depth_due}
use Rattle.theory.specs.Sound.{SoundSlots}
use Rattle.theory.specs.Limits.{document}
use Rattle.theory.proofs.Lists.{le-or-lt}
use Rattle.theory.proofs.Pages.{active-bounded}
use Rattle.theory.proofs.Certificate.{depth-equation}
use Rattle.theory.proofs.SlotCertificate.{due-depth}
use Rattle.table.specs.declared.Rule.{Rule}
use Rattle.table.specs.Rules.{active_in, active_of, book_of, past_rule, program_of}
use Rattle.table.specs.Sets.{member}
use Rattle.table.specs.Words.{depth_at, rules_of, spoiler_at, with_kept, words}
use Rattle.table.proofs.Programs.{active-place, book-length}
use Rattle.table.proofs.Words.{kept_depth-here, kept_depth-other, kept-length, kept-rules, kept-spoiler-here}
use Rattle.table.proofs.Words.{kept-spoiler-other, rules-length}
use Rattle.depths.specs.Numbers.{DepthsOf}
use Rattle.dues.specs.declared.Due.{Due}
use Rattle.dues.specs.Due.{DueIn, Given}
use Rattle.dues.proofs.Walks.{Flagged, flagged-due, flagged-next, flagged-start}
use Rattle.labels.specs.Labelling.{Relabelled}
use Rattle.labels.specs.Keeping.{due_at, KeptBelow}

-- Before slot i: each slot below it keeps what is due, and the atoms that got their depths are flagged.
pub record Walked (before : List ℕ) (M : AtomSet) (d : ℕ → ℕ) (i : ℕ) (table : List ℕ) (given : List Bool)
    : Type 0 where
  pub kept : KeptBelow before M d i table
  pub flagged : Flagged (active_of (rules_of before)) M d i given

module _ (before : List ℕ) (M : AtomSet) (d : ℕ → ℕ) where
  abbrev rows : List Rule
  rows = rules_of before

  abbrev P : Program
  P = active_of rows

  pub walked_start : Walked before M d 0 before (replicate document.atoms false)
  walked_start = record {
    kept = record {
      rules = refl;
      long = refl;
      depths = λ s l. absurd (omega arith);
      spoilers = λ s l. absurd (omega arith);
    };
    flagged = flagged-start P M d;
  }

  -- Slot i, from which the rule was read, keeps what is due.
  module _ (bounded : Bounded (program_of rows) document.atoms) (i : ℕ) (w : List ℕ) (given : List Bool)
      (W : Walked before M d i w given) (r : Rule) (read : r ≡ get_or (rules_of w) i past_rule)
      (l : i < document.slots) (long : length w ≡ words) where
    here : active_in r ≡ get_or P i none
    here = ap active_in (read ∙ ap (λ (z : List Rule). get_or z i past_rule) W.kept.rules) ∙ sym (active-place rows i)

    module _ (g : List Bool) (due : Due) (D : DueIn M d (active_in r) given g due) where
      abbrev after : List ℕ
      after = with_kept w i due.depth due.spoiler

      deep : due.depth ≡ due_at before M d i
      deep =
          D.depth ∙ ap (λ o. depth_due M d (member given) o) here
          ∙ flagged-due P M d i given W.flagged (active-bounded (book_of rows) document.atoms bounded)

      spoilt : due.spoiler ≡ slot_spoiler (book_of rows) M i
      spoilt = D.spoiler ∙ ap (place_kept M) here

      below : {f : ℕ → ℕ} {h : ℕ → ℕ} → f i ≡ h i → ((s : ℕ) → s < i → f s ≡ h s) → (s : ℕ) → s < i + 1 → f s ≡ h s
      below {f} {h} e b s m = ⊎_elim
          (λ (k : i ≤ s). (let q : i ≡ s = omega arith in subst (λ (z : ℕ). f z ≡ h z) q e))
          (λ (k : s < i). b s k)
          (le-or-lt i s)

      written : (t : List ℕ) → t ≡ after → KeptBelow before M d (i + 1) t
      written t e = rw e (record {
        rules = kept-rules w i due.depth due.spoiler long l ∙ W.kept.rules;
        long = kept-length w i due.depth due.spoiler long l ∙ sym long ∙ W.kept.long;
        depths = below {f = depth_at after} {h = due_at before M d}
            (kept_depth-here w i due.depth due.spoiler long l ∙ deep)
            (λ s m. kept_depth-other w i due.depth due.spoiler long l s (λ q. omega arith) ∙ W.kept.depths s m);
        spoilers = below {f = spoiler_at after} {h = slot_spoiler (book_of rows) M}
            (kept-spoiler-here w i due.depth due.spoiler long l ∙ spoilt)
            (λ s m. kept-spoiler-other w i due.depth due.spoiler long l s (λ q. omega arith)
            ∙ W.kept.spoilers s m);
      })

      pub walked_next : (t : List ℕ) → t ≡ after → Walked before M d (i + 1) t g
      walked_next t e = record {
        kept = written t e;
        flagged = flagged-next P M d i given W.flagged g
            (subst (λ o. Given M d o given g) here D.given);
      }

  -- In the end the slots are sound, where M is the model of the unmuted rules and d are its depths.
  pub kept-sound :
      Admissible P M → DepthsOf P M d → (after : List ℕ) → KeptBelow before M d document.slots after
      → SoundSlots (book_of rows) (depth_at after) (spoiler_at after)
  kept-sound A D after K = record {
    model = M;
    admissible = A;
    depths = λ s l. subst (SlotDepth (book_of rows) M s) (sym (K.depths s (low s l)))
        (due-depth (book_of rows) M d (depth-equation P M d A D.deep) A.closed s);
    spoilers = λ s l. K.spoilers s (low s l);
  }
    where
      low : (s : ℕ) → s < length (book_of rows) → s < document.slots
      low s l = omega (arith, book-length rows, rules-length before)

-- The two answers.
pub told-kept :
    (before : List ℕ) → length before ≡ words → (M : AtomSet) (d : ℕ → ℕ)
    → (NegativeCycle (program_of (rules_of before)) → ⊥)
    → Admissible (active_of (rules_of before)) M → DepthsOf (active_of (rules_of before)) M d
    → (after : List ℕ) → KeptBelow before M d document.slots after → Relabelled before after true
told-kept before long M d free A D after K = record {
  rules = K.rules;
  sized = K.long ∙ long;
  acyclic = λ t. (free, kept-sound before M d A D after K);
  cyclic = λ t. absurd (true≢false t);
}

pub told-cycle :
    (before : List ℕ) → length before ≡ words → NegativeCycle (program_of (rules_of before))
    → Relabelled before before false
told-cycle before long c = record {
  rules = refl;
  sized = long;
  acyclic = λ t. absurd (true≢false (sym t));
  cyclic = λ t. (c, refl);
}
