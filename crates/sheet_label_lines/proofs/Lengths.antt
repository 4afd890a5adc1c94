-- How many bytes the line of an atom has, and one more such line written. Assumes nothing.
use Prim.Native.Nat.{ℕ, zero, suc, ◌+◌, ◌≤◌, ◌<◌}
use native.Mathlib.Omega.{arith}
use native.Mathlib.Numerals.{add-one}
use mathlib.Core.List.{List, ◌++◌}
use lib.ListN.{length, length-append}
use Rattle.theory.specs.Limits.{document}
use Rattle.theory.specs.Labels as theory
use Rattle.fields.specs.Texts.{bytes, newline}
use Rattle.fields.specs.Fields.{decimal, field}
use Rattle.fields.specs.Written.{Wrote, WroteIn}
use Rattle.fields.proofs.Decimals.{decimal-length}
use Rattle.fields.proofs.Wrote.{field-length, wrote_then}
use Rattle.sheet_label_lines.specs.LabelLines.{in_line, label_line, label_lines}

pub in-length : (depth slot : ℕ) → depth < 4294967296 → slot < 4294967296 → length (in_line depth slot) ≤ 26
unfolding in_line bytes
in-length depth slot d s =
    omega (
      arith,
      length-append (field depth) (field slot ++ newline),
      length-append (field slot) newline,
      field-length depth d,
      field-length slot s,
    )

-- An atom has at most 3 digits.
pub wrote-atom :
    {before after : List ℕ} {at next a : ℕ} → a < document.atoms → at + 3 ≤ length before
    → WroteIn (length (decimal a)) (decimal a) before at after next
    → Wrote (decimal a) before at after next × (next ≤ at + 3)
wrote-atom {a = a} l room p =
    let few = decimal-length 2 a (omega arith) in
    let w = p.fits (omega arith) in
    (w, omega arith)

pub wrote-next-label :
    {before middle after : List ℕ} {at next end : ℕ} (label : ℕ → theory.Label) (i : ℕ)
    → Wrote (label_lines label i) before at middle next → Wrote (label_line i (label i)) middle next after end
    → Wrote (label_lines label (i + 1)) before at after end
unfolding label_lines
wrote-next-label label i v w = rw add-one (wrote_then v w)
