-- The frame's rules put into the slots of the empty table: no two are equal and no loop goes through a negation, so that
-- the table made of them holds the frame. Assumes nothing.
use Rattle.std.specs.Prelude.{Ok, Err}
use Prim.Native.Nat.{ℕ, zero, suc, ◌+◌, ◌-◌, ◌*◌, ◌≤◌}
use native.Mathlib.Omega.{arith}
use mathlib.Core.Path.{◌≡◌, sym, ◌∙◌, ap, ap₂, subst}
use mathlib.Core.Bool.{Bool, true, false}
use mathlib.Core.List.{List, [], ◌∷◌}
use mathlib.Core.Option.{none, some, some-injective}
use lib.ListN.{get_or, set, replicate}
use Rattle.theory.specs.Rules.{Ascending, Pages, Held, all, new_page, rule_on}
use Rattle.theory.specs.Rules as theory
use Rattle.theory.specs.Dependencies.{NegativeCycle}
use Rattle.theory.specs.Questions.{first_no, rule_questions}
use Rattle.theory.specs.Limits.{document}
use Rattle.theory.proofs.Questions.{first_no-yes, first_no-here}
use Rattle.table.specs.declared.Rule.{Rule}
use Rattle.table.specs.declared.Table.{Table}
use Rattle.table.specs.Rules.{book_of, no_atom, page_of, slot_of}
use Rattle.table.specs.Words.{rules_of, table_of, words}
use Rattle.table.specs.Clean.{CleanRule, empty_table}
use Rattle.table.proofs.Empty.{free-book}
use Rattle.table.proofs.Members.{all_alike}
use Rattle.table.proofs.Programs.{book-set}
use Rattle.table.proofs.Words.{zero-rules}
use Rattle.well_formed.specs.Slots.{Single}
use Rattle.from_rules.specs.Making.{Made, WellFormedSlots, twice, cyclic, made}
use Rattle.from_rules.proofs.Making.{empty-well, well-set}
use Rattle.refusals.specs.declared.Refusal.TheVariants.{WrongFileCount}
use Rattle.checklist_frame.specs.Frame.{most_files, frame, on_list}
use Rattle.checklist_frame.proofs.Frames.{frame-head}
use Rattle.checklist_frame.proofs.Slots.{file_rule, frame-file}
use Rattle.checklist_meaning.specs.Book.{opened}
use Rattle.checklist_meaning.specs.Ends.{OpenEnds}
use Rattle.checklist_meaning.specs.Ends as contract
use Rattle.checklist_meaning.proofs.Marks.{checklist-acyclic}
use Rattle.checklist_meaning.proofs.Opened.{frame-ascending, frame-kept, frame-passes, opened-checklist, stage}
use Rattle.checklist_meaning.proofs.Opened.{stage-rule, stage-set}
use Rattle.checklist_open.specs.Parts.{FrameSlot, Framed}

-- A clean slot whose page is that of the frame's rule.
frame-slot :
    (i : ℕ) (r : Rule) → i ≤ most_files → page_of r ≡ some (new_page (frame i)) → CleanRule r → FrameSlot i r
frame-slot i r l page clean =
    let one : (q : theory.Rule) → slot_of r ≡ some q → frame i ≡ q =
    λ q h. sym (frame-kept i) ∙ some-injective _ q (sym (ap rule_on page) ∙ h) in
    record {
      page = page;
      well = record {
        clean = clean;
        passes = λ q h. subst (λ (z : theory.Rule). first_no (rule_questions document z) ≡ none) (one q h)
            (frame-passes i l);
        ascending = λ q h. subst Ascending (one q h) (frame-ascending i);
      };
    }

-- A page of a rule that is the frame's.
frame-page :
    (i : ℕ) (q : theory.Rule) → q ≡ frame i → some (record { rule = q; muted = false }) ≡ some (new_page (frame i))
frame-page i q e =
    ap (λ (r : theory.Rule). some (record { rule = r; muted = false })) (e ∙ sym (frame-kept i))

-- The start, and the rule of a file.
pub start-slot :
    (i : ℕ) → i ≡ 0
    → FrameSlot i (record { state = 1; head = no_atom; positives = 0; negatives = 0; entries = replicate 8 no_atom })
start-slot i e = frame-slot i _ (omega arith) (frame-page i _ (ap frame (sym e))) (record {
  known = omega arith;
  free = λ z. absurd (omega arith);
  fits = omega arith;
  filler = λ j l. all_alike 8 j no_atom;
})

pub file-slot :
    (i : ℕ) → (i ≡ 0 → ⊥) → i ≤ most_files
    → FrameSlot i (record {
      state = 1;
      head = record { 0 = 3 * i };
      positives = 2;
      negatives = 1;
      entries = record { 0 = 3 * i - 3 } ∷ record { 0 = 3 * i - 2 } ∷ record { 0 = 3 * i - 1 } ∷ replicate 5 no_atom;
    })
file-slot i n l = frame-slot i _ l (frame-page i (file_rule i) (sym (frame-file i (omega arith)))) (record {
  known = omega arith;
  free = λ z. absurd (omega arith);
  fits = omega arith;
  filler = past;
})
  where
    past :
        (j : ℕ) → 3 ≤ j
        → get_or (record { 0 = 3 * i - 3 } ∷ record { 0 = 3 * i - 2 } ∷ record { 0 = 3 * i - 1 } ∷ replicate 5 no_atom) j
        no_atom
        ≡ no_atom
    past zero k = absurd (omega arith)
    past (suc zero) k = absurd (omega arith)
    past (suc (suc zero)) k = absurd (omega arith)
    past (suc (suc (suc j))) k = all_alike 5 j no_atom

-- Numbers whose slots hold the first i rules of the frame.
pub record Staged (i : ℕ) (table : List ℕ) : Type 0 where
  pub holds : book_of (rules_of table) ≡ stage i
  pub well : WellFormedSlots (rules_of table)

pub staged-empty : (t : Table) → t ≡ empty_table → Staged 0 t.words
staged-empty t e = subst (λ (u : Table). Staged 0 u.words) (sym e) (record {
  holds = ap book_of (zero-rules words) ∙ free-book document.slots;
  well = empty-well;
})

pub staged-next :
    (before after : List ℕ) (i : ℕ) (r : Rule) → i ≤ most_files → Staged i before → FrameSlot i r
    → rules_of after ≡ set (rules_of before) i r → Staged (i + 1) after
staged-next before after i r l S F put =
    let e : suc i ≡ i + 1 = omega arith in
    subst (λ (k : ℕ). Staged k after) e (record {
      holds =
          ap book_of put ∙ book-set (rules_of before) i r
          ∙ ap₂ (λ (B : Pages) o. set B i o) S.holds F.page
          ∙ stage-set i (omega arith);
      well = subst WellFormedSlots (sym put) (well-set before i r S.well F.well);
    })

-- The frame's rules have different heads, and every entry lies below its rule's head.
module _ (n : ℕ) (low : 1 ≤ n) (high : n ≤ most_files) where
  opened-once : Single (all (opened document n))
  opened-once s t r h g =
      let e = sym (frame-head s) ∙ ap (λ (q : theory.Rule). q.head)
      (sym (stage-rule (suc n) s r h).1 ∙ (stage-rule (suc n) t r g).1) ∙ frame-head t in
      omega (arith, e)

  opened-acyclic : NegativeCycle (all (opened document n)) → ⊥
  opened-acyclic = checklist-acyclic (opened document n) n (opened-checklist n low high)

  pub staged-made :
      (before after : List ℕ) (b : Bool) → Staged (n + 1) before → Made before after b → Framed n (table_of after)
  staged-made before after b S M = go M
    where
      frames : book_of (rules_of before) ≡ opened document n
      frames = (let e : n + 1 ≡ suc n = omega arith in S.holds ∙ ap stage e)

      go : {w : List ℕ} {c : Bool} → Made before w c → Framed n (table_of w)
      go (twice f) = absurd (f (subst (λ (B : Pages). Single (all B)) (sym frames) opened-once))
      go (cyclic U c) = absurd (opened-acyclic (subst (λ (B : Pages). NegativeCycle (all B)) frames c))
      go (made w U f long e W) = record { sized = record { long = long }; holds = ap book_of e ∙ frames; sound = W }

-- Opening: 21 for no files and for more than the most; else the table framed.

pub open-refused :
    (n : ℕ) (t : Table) → on_list (some most_files) n ≡ false → t ≡ empty_table
    → OpenEnds n (Err WrongFileCount) t
open-refused n t f e =
    subst (OpenEnds n (Err WrongFileCount)) (sym e) (contract.refused WrongFileCount (first_no-here _ _ f))

pub open-accepted : (n : ℕ) (u : Table) → on_list (some most_files) n ≡ true → Framed n u → OpenEnds n (Ok tt) u
unfolding first_no
open-accepted n u l F = contract.accepted u (first_no-yes _ [] l) F.sized F.holds F.sound
