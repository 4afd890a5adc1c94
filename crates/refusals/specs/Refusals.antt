-- Refusals by their numbers. Assumes nothing.
use Rattle.std.specs.Prelude.{ℕ}
use Rattle.refusals.specs.declared.Refusal.{Refusal}
use Rattle.refusals.specs.declared.Refusal.TheVariants.{HeadTooLarge, TooManyEntries, EntryTooLarge}
use Rattle.refusals.specs.declared.Refusal.TheVariants.{RepeatedEntry, SameRule, TableFull, NegativeCycle}
use Rattle.refusals.specs.declared.Refusal.TheVariants.{SlotTooLarge, SlotFree, AtomTooLarge, BufferTooShort}
use Rattle.refusals.specs.declared.Refusal.TheVariants.{AtomNotIn, TableUnsound, WrongLength, WrongChecksum}
use Rattle.refusals.specs.declared.Refusal.TheVariants.{WrongBlock, WrongRecord, FileNotListed, WrongFileCount}
use Rattle.refusals.specs.declared.Refusal.TheVariants.{MarkUnchanged}

-- What a refusal tells: its number (specification 3.2), and the length needed, which 11 carries.
abbrev pub told : Refusal → ℕ × ℕ
told HeadTooLarge = (1, 0)
told TooManyEntries = (2, 0)
told EntryTooLarge = (3, 0)
told RepeatedEntry = (4, 0)
told SameRule = (5, 0)
told TableFull = (6, 0)
told NegativeCycle = (7, 0)
told SlotTooLarge = (8, 0)
told SlotFree = (9, 0)
told AtomTooLarge = (10, 0)
told (BufferTooShort needed) = (11, needed)
told AtomNotIn = (12, 0)
told TableUnsound = (15, 0)
told WrongLength = (16, 0)
told WrongChecksum = (17, 0)
told WrongBlock = (18, 0)
told WrongRecord = (19, 0)
told FileNotListed = (20, 0)
told WrongFileCount = (21, 0)
told MarkUnchanged = (22, 0)

abbrev pub number_of : Refusal → ℕ
number_of f = (told f).0

-- How many entries are needed: 11 says it, every other refusal 0.
abbrev pub needed_by : Refusal → ℕ
needed_by f = (told f).1
