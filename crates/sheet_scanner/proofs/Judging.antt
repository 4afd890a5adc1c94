-- From what was read of a line to what questions 14 and 13 make of it. Assumes nothing.
use Prim.Native.Nat.{ℕ}
use native.Mathlib.Omega.{arith}
use mathlib.Core.Path.{◌≡◌, refl, sym, ◌∙◌, ap, subst}
use mathlib.Core.Logic.{inl, inr}
use mathlib.Core.List.{List, [], ◌∷◌}
use types.Run.{OneOf}
use denote.Enum.Declared.{tag_of}
use Rattle.sheet_lines.specs.declared.Command.{Command}
use Rattle.sheet_lines.specs.declared.Parsed.{Parsed}
use Rattle.sheet_lines.specs.declared.Reading.{Reading}
use Rattle.sheet_lines.specs.declared.Reading.TheVariants as reading-of
use Rattle.sheet_lines.specs.Readings.{is, reading, line_of, reading_of, command_of, positives_in, negatives_in, Answers}
use Rattle.sheet_lines.specs.contracts.Reading as T
use Rattle.sheet_printing.specs.Printed.{refusal_line}
use Rattle.fields.specs.Written.{Wrote}
use Rattle.sheet_meaning.specs.Lines as prints
use Rattle.sheet_scanner.specs.declared.Judged.{Judged}
use Rattle.sheet_scanner.specs.declared.Judged.TheVariants as judged
use Rattle.sheet_scanner.specs.Judging.{Answered, Judges, Unless, Unread}

-- What was read, by the case of the reading.
pub told : (p : Parsed) (x : Reading) → p.reading ≡ x → reading_of p ≡ line_of x (positives_in p) (negatives_in p)
told p x e = ap (λ (y : Reading). line_of y (positives_in p) (negatives_in p)) e

-- The numbers of the cases that are left of the reading where it is none of some.
pub no_command-keys :
    (x : Reading) → ((c : Command) → x ≡ reading-of.Command c → ⊥)
    → OneOf (0 ∷ 1 ∷ 2 ∷ []) (tag_of T.the_type x)
no_command-keys reading-of.Blank n = inl refl
no_command-keys reading-of.LineTooLong n = inr (inl refl)
no_command-keys reading-of.NotACommand n = inr (inr refl)
no_command-keys (reading-of.Command c) n = absurd (n c refl)

-- A line whose reading is none of the commands is refused by question 13, unless it is blank or too long.
module _ (p : Parsed) {before : List ℕ} {at : ℕ} {after : List ℕ} {next : ℕ} where
  pub unread :
      OneOf (0 ∷ 1 ∷ 2 ∷ []) (tag_of T.the_type p.reading)
      → Wrote (refusal_line p.place.line 13) before at after next
      → Unread p before at after (judged.Told next)
  unread k w = go p.reading refl k
    where
      go : (x : Reading) → p.reading ≡ x → OneOf (0 ∷ 1 ∷ 2 ∷ []) (tag_of T.the_type x)
          → Unless x (Judges p before at after (judged.Told next))
      go reading-of.Blank e k = tt
      go reading-of.LineTooLong e k = tt
      go reading-of.NotACommand e k =
          λ line d.
          record { printed = _; prints = λ t. prints.unread (d ∙ told p reading-of.NotACommand e); wrote = w }
      go (reading-of.Command c) e (inl k) = absurd (omega (arith, k))
      go (reading-of.Command c) e (inr (inl k)) = absurd (omega (arith, k))
      go (reading-of.Command c) e (inr (inr k)) = absurd (omega (arith, k))

-- What a line prints, by what was read of it, and of what was written.
module _ {p : Parsed} (line before : List ℕ) (at : ℕ) (after : List ℕ) (j : Judged)
    (read : Answers (reading line) p) (judges : Judges p before at after j) where
  pub judged-told : {next : ℕ} → j ≡ judged.Told next → Answered p.place.line line before at after next
  judged-told e = subst (λ (y : Judged). Judges p before at after y) e judges line (sym read.meaning)

  pub judged-command : {c : Command} → j ≡ judged.Command c
      → (reading line ≡ is (command_of c (positives_in p) (negatives_in p))) × (after ≡ before)
  judged-command e =
      let w = subst (λ (y : Judged). Judges p before at after y) e judges in
      (sym read.meaning ∙ w.0, w.1)
