-- The checklist of n files, 1 to 60 (specification 8.1 to 8.4): its atoms, its frame, its marks, and which pages are
-- one. Assumes nothing.
use Rattle.std.specs.Prelude.{ℕ, zero, suc, ◌-◌, ◌*◌, ◌≤◌, ◌<◌, ◌≡◌, Bool, true, false, not, ◌&&◌, ◌||◌, List, [], ◌∷◌, ◌++◌, eqb, leb, ltb}
use Rattle.std.proofs.Math.Option.{Option, none, some}
use Rattle.theory.specs.Lists.{any, every, first}
use Rattle.theory.specs.Rules.{Rule, Program, Page, Pages, all, Held, passes, any_rule}

-- A checklist is opened for 1 to 60 files.
abbrev pub most_files : ℕ
most_files = 60

-- File i, from 1, has the atoms sent, skipped and good. Atom 0 is the good that the first file follows.
abbrev pub sent : ℕ → ℕ
sent i = 3 * i - 2

abbrev pub skipped : ℕ → ℕ
skipped i = 3 * i - 1

abbrev pub good : ℕ → ℕ
good i = 3 * i

-- A fact: a rule without entries.
abbrev pub fact : ℕ → Rule
fact a = record { head = a; positives = []; negatives = [] }

-- The frame: in slot 0 atom 0 is a fact; in slot i, good i follows from good i - 1, sent i and not skipped i.
abbrev pub frame : ℕ → Rule
frame zero = fact 0
frame (suc i) =
    record { head = good (suc i); positives = good i ∷ sent (suc i) ∷ []; negatives = skipped (suc i) ∷ [] }

-- The files of a checklist of n: 1 to n.
unfoldable pub files : ℕ → List ℕ
files zero = []
files (suc n) = files n ++ (suc n ∷ [])

-- Is the file on the list of n files, if there is one? Files are numbered from 1.
abbrev pub on_list : Option ℕ → ℕ → Bool
on_list none i = false
on_list (some n) i = leb 1 i && leb i n

-- The atoms of the marks that n files can have: sent and skipped.
unfoldable pub is_mark : ℕ → ℕ → Bool
is_mark n a = any (λ i. eqb a (sent i) || eqb a (skipped i)) (files n)

-- Two lists are equal entry for entry; two rules are. (Pages hold rules as they are kept, and of kept rules only equal
-- ones are the same: the law `ascending-same`.)
unfoldable pub equal_lists : List ℕ → List ℕ → Bool
equal_lists [] [] = true
equal_lists [] (y ∷ ys) = false
equal_lists (x ∷ xs) [] = false
equal_lists (x ∷ xs) (y ∷ ys) = eqb x y && equal_lists xs ys

unfoldable pub equal : Rule → Rule → Bool
equal q r =
    eqb q.head r.head && (equal_lists q.positives r.positives && equal_lists q.negatives r.negatives)

-- The fact of a mark of one of n files.
abbrev pub MarkFact : ℕ → Rule → Type 0
MarkFact n r = (is_mark n r.head ≡ true) × (r ≡ fact r.head)

-- No page is muted (request #108).
abbrev pub unmuted_on : Option Page → Bool
unmuted_on none = true
unmuted_on (some p) = not p.muted

abbrev pub none_muted : Pages → Bool
none_muted B = every unmuted_on B

-- Pages are a checklist of n files if none is muted, and their rules are those that the marks of n files give: the
-- frame in slots 0 to n, and in any other slot nothing, or the fact of a mark.
pub record Checklist (B : Pages) (n : ℕ) : Type 0 where
  pub low : 1 ≤ n
  pub high : n ≤ most_files
  pub unmuted : none_muted B ≡ true
  pub frames : (s : ℕ) → s ≤ n → Held (all B) s (frame s)
  pub others : (s : ℕ) (r : Rule) → n < s → Held (all B) s r → MarkFact n r

-- What the rules are as a test, slot by slot.
abbrev pub free_or_mark : ℕ → Option Rule → Bool
free_or_mark n none = true
free_or_mark n (some r) = is_mark n r.head && equal (fact r.head) r

unfoldable pub fits : ℕ → ℕ → Option Rule → Bool
fits n s o = elim (leb s n) [ true ↦ passes (equal (frame s)) o | false ↦ free_or_mark n o ]

-- From slot s on, every slot holds what it does in a checklist of n files.
unfoldable pub fits_from : ℕ → ℕ → Program → Bool
fits_from n s [] = ltb n s
fits_from n s (o ∷ P) = fits n s o && fits_from n (suc s) P

-- How many files the checklist has that pages are, if they are one: the laws `checklist-of` and `of-checklist`. (They
-- are one of no other number of files: `one_number`.)
unfoldable pub files_of : Pages → Option ℕ
files_of B = first (λ n. none_muted B && fits_from n 0 (all B)) (files most_files)

-- A mark stands if a slot holds its fact: this file is sent, this one has a skip standing.
abbrev pub marked : Pages → ℕ → Bool
marked B a = any_rule (equal (fact a)) (all B)

-- The first slot that holds the rule, if one does.
unfoldable pub first_slot : Rule → Program → ℕ
first_slot r [] = zero
first_slot r (o ∷ P) = elim (passes (equal r) o) [ true ↦ zero | false ↦ suc (first_slot r P) ]
