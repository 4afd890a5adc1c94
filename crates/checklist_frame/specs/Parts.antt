-- Private to the crates behind the checklist's calls: what the functions that read a table's slots tell. No call's
-- contract speaks of it. Assumes nothing.
use Rattle.std.specs.Prelude.{ℕ, suc, ◌≤◌, ◌<◌, ◌≡◌, Bool, true, false, ◌↔◌, get_or}
use Rattle.std.specs.Prelude as prelude
use Rattle.std.proofs.Math.Option.{Option, none, some}
use Rattle.theory.specs.Rules.{Program, Page, Pages, Held}
use Rattle.checklist_frame.specs.declared.Mark.{Mark}
use Rattle.checklist_frame.specs.declared.Mark.TheVariants as mark
use Rattle.checklist_frame.specs.Frame.{most_files, sent, skipped, frame, MarkFact}

-- The atom of a mark of file i.
abbrev pub mark_atom : Mark → ℕ → ℕ
mark_atom mark.Sent i = sent i
mark_atom mark.Skipped i = skipped i

-- How many files a checklist has, if there is one, as a function tells it.
abbrev pub files_told : prelude.Option ℕ → Option ℕ
files_told prelude.None = none
files_told (prelude.Some n) = some n

-- The frame of n files stands from slot 0 on, and not that of one more, unless n is the most. Where n is 0 it need not
-- have its start. (It is asked of the unmuted rules.)
pub record FrameRun (P : Program) (n : ℕ) : Type 0 where
  pub few : n ≤ most_files
  pub stands : 1 ≤ n → (s : ℕ) → s ≤ n → Held P s (frame s)
  pub ends : n < most_files → ((s : ℕ) → s ≤ suc n → Held P s (frame s)) → ⊥

-- A slot that is free or holds the fact of a mark, unmuted; every slot behind the frame is such a slot.
abbrev pub FreeOrMark : ℕ → Option Page → Type 0
FreeOrMark n o = (p : Page) → o ≡ some p → (p.muted ≡ false) × MarkFact n p.rule

abbrev pub MarksBehind : Pages → ℕ → Bool → Type 0
MarksBehind B n r = (r ≡ true) ↔ ((s : ℕ) → n < s → FreeOrMark n (get_or B s none))
