-- Two answers of a probe that its contract allows for the same table are equal. Assumes nothing.
use Prim.Native.Nat.{ℕ, ◌<◌}
use native.Mathlib.Omega.{arith}
use mathlib.Core.Path.{◌≡◌, refl, sym, ◌∙◌, ap}
use mathlib.Core.List.{List}
use lib.Seq.{ext_get_or}
use Rattle.theory.specs.Limits.{document}
use Rattle.theory.proofs.Bounds.{told-unique}
use Rattle.theory.proofs.Slots.{slots-determined}
use Rattle.table.specs.declared.Table.{Table}
use Rattle.table.specs.Rules.{book_of}
use Rattle.table.specs.Words.{table_of, rules_of, depth_at, spoiler_at}
use Rattle.table.specs.Sets.{number}
use Rattle.table.proofs.Programs.{book-length}
use Rattle.table.proofs.Words.{rules-length, words-determined}
use Rattle.probe.specs.declared.Relabelled.{Relabelled}
use Rattle.probe.specs.declared.RoundsCounted.{RoundsCounted}
use Rattle.probe.specs.Probes.{SoundProbe, is_sound, is_not}
use Rattle.probe.specs.Probes.{LabelsProbe, unfit, cyclic, labelled}
use Rattle.probe.specs.Probes.{RoundsProbe, not_fit, no_strata, counted}

pub sound-probe-determined : (t : Table) (x y : ℕ) → SoundProbe t x → SoundProbe t y → x ≡ y
sound-probe-determined t x y (is_sound S) (is_sound T) = refl
sound-probe-determined t x y (is_sound S) (is_not n) = absurd (n S)
sound-probe-determined t x y (is_not n) (is_sound T) = absurd (n T)
sound-probe-determined t x y (is_not n) (is_not m) = refl

-- Rules without a negative cycle have one admissible model, so each slot has one depth and one spoiler to keep.
pub labels-probe-determined : (t : Table) (x y : Relabelled) → LabelsProbe t x → LabelsProbe t y → x ≡ y
labels-probe-determined t x y (unfit n) (unfit m) = refl
labels-probe-determined t x y (unfit n) (cyclic F c) = absurd (n F)
labels-probe-determined t x y (unfit n) (labelled u F free e l K) = absurd (n F)
labels-probe-determined t x y (cyclic F c) (unfit n) = absurd (n F)
labels-probe-determined t x y (cyclic F c) (cyclic G d) = refl
labels-probe-determined t x y (cyclic F c) (labelled u G free e l K) = absurd (free c)
labels-probe-determined t x y (labelled u F free e l K) (unfit n) = absurd (n F)
labels-probe-determined t x y (labelled u F free e l K) (cyclic G c) = absurd (free c)
labels-probe-determined t x y (labelled u F free e l K) (labelled v G also f k L) =
    ap (λ (w : List ℕ). record { refused = 0; table = table_of w })
    (words-determined u.words v.words l k (e ∙ sym f) (λ s m. (same s m).0) (λ s m. (same s m).1))
  where
    same : (s : ℕ) → s < document.slots
        → (depth_at u.words s ≡ depth_at v.words s) × (spoiler_at u.words s ≡ spoiler_at v.words s)
    same s m = slots-determined (book_of (rules_of t.words)) free _ _ _ _ K L s
        (omega (arith, book-length (rules_of t.words), rules-length t.words))

pub rounds-probe-determined : (t : Table) (x y : RoundsCounted) → RoundsProbe t x → RoundsProbe t y → x ≡ y
rounds-probe-determined t x y (not_fit n) (not_fit m) = refl
rounds-probe-determined t x y (not_fit n) (no_strata F c) = absurd (n F)
rounds-probe-determined t x y (not_fit n) (counted r F free l R) = absurd (n F)
rounds-probe-determined t x y (no_strata F c) (not_fit n) = absurd (n F)
rounds-probe-determined t x y (no_strata F c) (no_strata G d) = refl
rounds-probe-determined t x y (no_strata F c) (counted r G free l R) = absurd (free c)
rounds-probe-determined t x y (counted r F free l R) (not_fit n) = absurd (n F)
rounds-probe-determined t x y (counted r F free l R) (no_strata G c) = absurd (free c)
rounds-probe-determined t x y (counted r F free l R) (counted q G also k Q) =
    ap (λ (z : List ℕ). record { refused = 0; rounds = z })
    (ext_get_or 0 r q (l ∙ sym k) (λ i b. told-unique (book_of (rules_of t.words)) i (number r i) (number q i) (R i) (Q i)))
