-- What a table keeps of each slot (specification 1.9), and the label of an atom read off it. Assumes nothing.
use Rattle.std.specs.Prelude.{ℕ, zero, suc, ◌-◌, ◌≡◌, Bool, true, false, not, ◌&&◌, cond, [], ◌∷◌, eqb, ltb, get_or, length}
use Rattle.std.proofs.Math.Option.{Option, none, some}
use Rattle.theory.specs.Lists.{any}
use Rattle.theory.specs.Rules.{Rule, Program, Held, Pages, all, active, entries, any_rule}
use Rattle.theory.specs.Models.{AtomSet}
use Rattle.theory.specs.Derivations.{Depth}
use Rattle.theory.specs.Labels.{Supporting, spoiler, place_over, Label, absent, out, in_at}
use Rattle.theory.specs.Labels.{positive, negative, Spoiler}

-- The depth that slot s keeps: that of the atom whose supporting rule it holds, else 0.
pub data SlotDepth (B : Pages) (M : AtomSet) (s : ℕ) : ℕ → Type 0 where
  supports : {a d : ℕ} → Depth (active B) M a d → Supporting (active B) M a s → SlotDepth B M s d
  idle : ((a : ℕ) → Supporting (active B) M a s → ⊥) → SlotDepth B M s 0

-- The spoiler that slot s keeps: the place of that of its unmuted rule, counted from 1 over both lists; 0 if the rule
-- is valid or muted, or the slot is free.
abbrev pub place_kept : AtomSet → Option Rule → ℕ
place_kept M none = zero
place_kept M (some r) = place_over r (spoiler M r)

abbrev pub slot_spoiler : Pages → AtomSet → ℕ → ℕ
slot_spoiler B M s = place_kept M (get_or (active B) s none)

-- And back: the spoiler that a kept place tells of a rule.
unfoldable pub spoiler_at_place : Rule → ℕ → Option Spoiler
spoiler_at_place r zero = none
spoiler_at_place r (suc k) = elim (ltb k (length r.positives)) [
  | true ↦ some (record { side = positive; place = k; atom = get_or r.positives k 0 })
  | false ↦ some (record {
    side = negative;
    place = k - length r.positives;
    atom = get_or r.negatives (k - length r.positives) 0;
  })
]

-- Does a slot that keeps this depth hold a rule with the head a, and is the depth one?
abbrev pub keeps? : ℕ → ℕ → Option Rule → Bool
keeps? depth a none = false
keeps? depth a (some r) = eqb r.head a && not (eqb depth 0)

-- Such a slot.
pub record Keeps (P : Program) (depth : ℕ → ℕ) (a s : ℕ) : Type 0 where
  pub rule : Rule
  pub held : Held P s rule
  pub heads : rule.head ≡ a
  pub deep : depth s ≡ 0 → ⊥

-- The lowest such slot, from slot s on.
unfoldable pub kept_from : (ℕ → ℕ) → ℕ → ℕ → Program → Option ℕ
kept_from depth a s [] = none
kept_from depth a s (o ∷ P) = elim (keeps? (depth s) a o) [ true ↦ some s | false ↦ kept_from depth a (suc s) P ]

-- Does the atom occur in a rule held?
unfoldable pub occurs? : Program → ℕ → Bool
occurs? P a = any_rule (λ r. any (eqb a) (r.head ∷ entries r)) P

-- The label of an atom: in, if a slot with this head keeps a depth; that slot is the supporting one. Else out if the
-- atom occurs, else absent.
abbrev pub label_from : Option ℕ → (ℕ → ℕ) → Bool → Label
label_from (some s) depth occurs = in_at (depth s) s
label_from none depth occurs = cond occurs out absent

abbrev pub label_by : Pages → (ℕ → ℕ) → ℕ → Label
label_by B depth a = label_from (kept_from depth a 0 (all B)) depth (occurs? (all B) a)
