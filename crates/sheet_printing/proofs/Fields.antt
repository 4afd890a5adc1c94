-- One more field of a list written. Assumes nothing.
use Prim.Native.Nat.{ℕ, zero, suc, ◌+◌, ◌<◌}
use native.Mathlib.Omega.{arith}
use native.Mathlib.Numerals.{add-one}
use mathlib.Core.Path.{◌≡◌, sym, ◌∙◌, ap}
use mathlib.Core.List.{List, [], ◌∷◌, ◌++◌, append_assoc, append-nil}
use lib.ListN.{length, take, get_or}
use Rattle.fields.specs.Fields.{field, fields}
use Rattle.fields.specs.Written.{Wrote}
use Rattle.fields.proofs.Wrote.{wrote_then}

fields-next :
    (ns : List ℕ) (i : ℕ) → i < length ns → fields (take (suc i) ns) ≡ fields (take i ns) ++ field (get_or ns i 0)
unfolding fields
fields-next [] i l = absurd (omega arith)
fields-next (n ∷ ns) zero l = append-nil (field n)
fields-next (n ∷ ns) (suc i) l =
    ap (λ (bs : List ℕ). field n ++ bs) (fields-next ns i (omega arith))
    ∙ sym (append_assoc (field n) (fields (take i ns)) (field (get_or ns i 0)))

pub wrote-next-field :
    {before middle after : List ℕ} {at next end : ℕ} (ns : List ℕ) (i : ℕ) → i < length ns
    → Wrote (fields (take i ns)) before at middle next → Wrote (field (get_or ns i 0)) middle next after end
    → Wrote (fields (take (i + 1) ns)) before at after end
wrote-next-field ns i l v w = rw (add-one, fields-next ns i l) (wrote_then v w)
