-- How saving ends, from the answers of its questions. Assumes nothing.
use Rattle.std.specs.Prelude.{Ok, Err}
use Prim.Native.Nat.{ℕ, ◌+◌, ◌*◌, ◌<◌}
use native.Mathlib.Omega.{arith}
use mathlib.Core.Path.{◌≡◌, refl, sym, ◌∙◌, ap, subst}
use mathlib.Core.Bool.{Bool, true, not}
use mathlib.Core.Logic.{◌↔◌}
use mathlib.Core.List.{List, [], ◌++◌}
use mathlib.Core.Option.{none}
use lib.ListN.{length, drop}
use Rattle.theory.specs.Questions.{first_no}
use Rattle.theory.proofs.Lists.{not-true, clash}
use Rattle.table.specs.declared.Table.{Table}
use Rattle.table.specs.Sound.{Sound}
use Rattle.fields.specs.Written.{put, Wrote}
use Rattle.file_blocks.specs.Files.{BLOCK, blocks_for, file_of}
use Rattle.file_blocks.proofs.RoundTrips.{file-length}
use Rattle.refusals.specs.declared.Refusal.TheVariants.{BufferTooShort, TableUnsound}
use Rattle.calls.specs.Ends as contract
use Rattle.calls.specs.Ends.{held, SaveEnds}
use Rattle.file_records.specs.declared.HeldSlots.{HeldSlots}
use Rattle.file_records.specs.Held.{HeldIn}

pub save-unsound :
    (t : Table) (before : List ℕ) (b : Bool) → (b ≡ true) ↔ Sound t → not b ≡ true
    → SaveEnds t before (Err TableUnsound) before
save-unsound t before b told u = contract.unsound (λ S. clash (told.1 S) (not-true b u))

-- No question is asked but 15 and 11.
no-question : first_no [] ≡ none
unfolding first_no
no-question = refl

module _ (t : Table) (S : Sound t) (before : List ℕ) (h : HeldSlots) (H : HeldIn (held t) h) (n : ℕ)
    (many : n ≡ blocks_for h.count) where
  long : length (file_of (held t)) ≡ BLOCK * n
  long =
      file-length (held t) S.rules.passes
      ∙ ap (λ (k : ℕ). BLOCK * k) (ap blocks_for (sym H.count) ∙ sym many)

  pub save-short : length before < BLOCK * n → SaveEnds t before (Err (BufferTooShort (BLOCK * n))) before
  save-short l =
      subst (λ (k : ℕ). SaveEnds t before (Err (BufferTooShort k)) before) long
      (contract.short S.kept.model (file_of (held t)) S no-question S.kept.admissible refl
      (omega (arith, long)))

  pub save-written :
      (after : List ℕ) → Wrote (file_of (held t)) before 0 after (BLOCK * n) → SaveEnds t before (Ok (BLOCK * n)) after
  unfolding put
  save-written after W =
      let here : 0 + length (file_of (held t)) ≡ length (file_of (held t)) = omega arith in
      let stands : file_of (held t) ++ drop (length (file_of (held t))) before ≡ after =
      ap (λ (k : ℕ). file_of (held t) ++ drop k before) (sym here) ∙ sym W.buffer in
      subst (λ (k : ℕ). SaveEnds t before (Ok k) after) long
      (subst (λ (bs : List ℕ). SaveEnds t before (Ok (length (file_of (held t)))) bs) stands
      (contract.accepted S.kept.model (file_of (held t)) S no-question S.kept.admissible refl
      (omega (arith, W.room))))
