-- What a refusal's number says of it: it determines the refusal, but for the length that 11 carries. Assumes nothing.
use Prim.Native.Nat.{ℕ, ◌≤◌}
use native.Mathlib.Omega.{arith}
use mathlib.Core.Path.{◌≡◌, refl, ap}
use mathlib.Core.Logic.{◌⊎◌, inl, inr, ⊎_elim}
use mathlib.Core.List.{List, [], ◌∷◌}
use lib.ListN.{get_or}
use Rattle.refusals.specs.declared.Refusal.{Refusal}
use Rattle.refusals.specs.declared.Refusal.TheVariants.{HeadTooLarge, TooManyEntries, EntryTooLarge}
use Rattle.refusals.specs.declared.Refusal.TheVariants.{RepeatedEntry, SameRule, TableFull, NegativeCycle}
use Rattle.refusals.specs.declared.Refusal.TheVariants.{SlotTooLarge, SlotFree, AtomTooLarge, BufferTooShort}
use Rattle.refusals.specs.declared.Refusal.TheVariants.{AtomNotIn, TableUnsound, WrongLength, WrongChecksum}
use Rattle.refusals.specs.declared.Refusal.TheVariants.{WrongBlock, WrongRecord, FileNotListed, WrongFileCount}
use Rattle.refusals.specs.declared.Refusal.TheVariants.{MarkUnchanged}
use Rattle.refusals.specs.Refusals.{number_of, needed_by}

-- The refusals in the order of their numbers. 0, 11, 13, 14 and those past 22 have none of their own here:
-- `TableUnsound`, whose number is 15, only fills their places.
abbrev by_number : List Refusal
by_number =
    TableUnsound ∷ HeadTooLarge ∷ TooManyEntries ∷ EntryTooLarge ∷ RepeatedEntry ∷ SameRule ∷ TableFull
    ∷ NegativeCycle ∷ SlotTooLarge ∷ SlotFree ∷ AtomTooLarge ∷ TableUnsound ∷ AtomNotIn ∷ TableUnsound ∷ TableUnsound
    ∷ TableUnsound ∷ WrongLength ∷ WrongChecksum ∷ WrongBlock ∷ WrongRecord ∷ FileNotListed ∷ WrongFileCount
    ∷ MarkUnchanged ∷ []

abbrev pub refusal_of : ℕ → Refusal
refusal_of k = get_or by_number k TableUnsound

-- A refusal without a length: its number is one of the list, and determines it.
pub record Plain (f : Refusal) : Type 0 where
  pub known : refusal_of (number_of f) ≡ f
  pub low : number_of f ≤ 22
  pub none : needed_by f ≡ 0

-- Each refusal is one, or it is 11.
plain : (f : Refusal) → refusal_of (number_of f) ≡ f → number_of f ≤ 22 → needed_by f ≡ 0
    → Plain f ⊎ ((n : ℕ) × (f ≡ BufferTooShort n))
plain f e l z = inl (record { known = e; low = l; none = z })

pub plain-or-11 : (f : Refusal) → Plain f ⊎ ((n : ℕ) × (f ≡ BufferTooShort n))
plain-or-11 HeadTooLarge = plain HeadTooLarge refl (omega arith) refl
plain-or-11 TooManyEntries = plain TooManyEntries refl (omega arith) refl
plain-or-11 EntryTooLarge = plain EntryTooLarge refl (omega arith) refl
plain-or-11 RepeatedEntry = plain RepeatedEntry refl (omega arith) refl
plain-or-11 SameRule = plain SameRule refl (omega arith) refl
plain-or-11 TableFull = plain TableFull refl (omega arith) refl
plain-or-11 NegativeCycle = plain NegativeCycle refl (omega arith) refl
plain-or-11 SlotTooLarge = plain SlotTooLarge refl (omega arith) refl
plain-or-11 SlotFree = plain SlotFree refl (omega arith) refl
plain-or-11 AtomTooLarge = plain AtomTooLarge refl (omega arith) refl
plain-or-11 (BufferTooShort needed) = inr (needed, refl)
plain-or-11 AtomNotIn = plain AtomNotIn refl (omega arith) refl
plain-or-11 TableUnsound = plain TableUnsound refl (omega arith) refl
plain-or-11 WrongLength = plain WrongLength refl (omega arith) refl
plain-or-11 WrongChecksum = plain WrongChecksum refl (omega arith) refl
plain-or-11 WrongBlock = plain WrongBlock refl (omega arith) refl
plain-or-11 WrongRecord = plain WrongRecord refl (omega arith) refl
plain-or-11 FileNotListed = plain FileNotListed refl (omega arith) refl
plain-or-11 WrongFileCount = plain WrongFileCount refl (omega arith) refl
plain-or-11 MarkUnchanged = plain MarkUnchanged refl (omega arith) refl

pub refusal-number : (f : Refusal) → (number_of f ≡ 11 → ⊥) → refusal_of (number_of f) ≡ f
refusal-number f n = ⊎_elim
    (λ (p : Plain f). p.known)
    (λ (b : (m : ℕ) × (f ≡ BufferTooShort m)). absurd (n (ap number_of b.1)))
    (plain-or-11 f)

pub number_small : (f : Refusal) → number_of f ≤ 22
number_small f = ⊎_elim
    (λ (p : Plain f). p.low)
    (λ (b : (m : ℕ) × (f ≡ BufferTooShort m)). omega (arith, ap number_of b.1))
    (plain-or-11 f)
