-- The slot that a record is read into. Assumes nothing.
use Prim.Native.Nat.{ℕ, zero, suc, ◌+◌, ◌*◌, ◌%◌, ◌≤◌, ◌<◌}
use native.Mathlib.Omega.{arith}
use mathlib.Core.Path.{◌≡◌, refl, sym, ◌∙◌, ap, ap₂}
use mathlib.Core.Bool.{Bool, true, false}
use mathlib.Core.Logic.{◌↔◌}
use mathlib.Core.List.{List, map}
use lib.Dec.{leb}
use lib.ListN.{length, get_or, drop, length-map, get_or-map}
use lib.Seq.{ext_get_or, get_or-drop, drop-drop}
use Rattle.theory.specs.Limits.{document}
use Rattle.theory.proofs.Lists.{le-leb, leb-le, unless}
use Rattle.table.specs.declared.Atom.{Atom}
use Rattle.table.specs.declared.Rule.{Rule}
use Rattle.table.specs.Clean.{WellFormed}
use Rattle.table.specs.Rules.{no_atom, state_of}
use Rattle.theory.proofs.Lists.{is_not}
use Rattle.file_blocks.specs.Words.{BYTE, word_at, words_in}
use Rattle.file_blocks.specs.Places.{place_numbered}
use Rattle.file_blocks.proofs.Reading.{word-drop}
use Rattle.file_loading.specs.Reading.{Stands, atom, slot_from}

module _ (slot least : ℕ) (rule : Rule) where
  pub stands-behind : slot < least → (false ≡ true) ↔ Stands slot least rule
  stands-behind l = is_not (λ w. (let u = w.behind in omega arith))

  pub stands-past : document.slots ≤ slot → (false ≡ true) ↔ Stands slot least rule
  stands-past l = is_not (λ w. (let u = w.below in omega arith))

  pub stands-well :
      least ≤ slot → slot < document.slots → (t : Bool) → (t ≡ true) ↔ WellFormed rule
      → (t ≡ true) ↔ Stands slot least rule
  stands-well b l t w = ((λ e. record { behind = b; below = l; well = w.0 e }), (λ s. w.1 s.well))

-- The entries of a record that begins at an offset of some bytes, one by one.

pub words-length : (n : ℕ) (bs : List ℕ) → n ≡ length (words_in n bs)
unfolding words_in
words-length zero bs = refl
words-length (suc n) bs = ap suc (words-length n (drop 2 bs))

word-here : (n j : ℕ) (bs : List ℕ) → j < n → get_or (words_in n bs) j 0 ≡ word_at bs (2 * j)
unfolding words_in
word-here zero j bs l = absurd (omega arith)
word-here (suc n) zero bs l = refl
word-here (suc n) (suc j) bs l =
    let here : 2 + 2 * j ≡ 2 * suc j = omega arith in
    let next : 2 + (2 * j + 1) ≡ 2 * suc j + 1 = omega arith in
    word-here n j (drop 2 bs) (omega arith)
    ∙ ap₂ (λ (x y : ℕ). x + BYTE * y)
    (get_or-drop 2 bs (2 * j) 0 ∙ ap (λ (k : ℕ). get_or bs k 0) here)
    (get_or-drop 2 bs (2 * j + 1) 0 ∙ ap (λ (k : ℕ). get_or bs k 0) next)

pub entries-read :
    (bs : List ℕ) (at : ℕ) (entries : List Atom) → length entries ≡ 8
    → ((k : ℕ) → k < 8 → get_or entries k no_atom ≡ atom (word_at bs (at + 6 + 2 * k)))
    → entries ≡ map atom (words_in 8 (drop (at + 6) bs))
entries-read bs at entries long each =
    let ws = words_in 8 (drop (at + 6) bs) in
    ext_get_or no_atom entries (map atom ws) (long ∙ words-length 8 (drop (at + 6) bs) ∙ sym (length-map ws atom)) (λ k l.
    each k (omega (arith, long))
    ∙ ap atom (sym (word-here 8 k (drop (at + 6) bs) (omega (arith, long)) ∙ word-drop (at + 6) (2 * k) bs))
    ∙ sym (get_or-map atom ws k 0))

-- The state by the byte of the positive count: without the mark, and with it.
pub state-plain : (count : ℕ) → count < 128 → 1 ≡ state_of (leb 128 count)
state-plain count l = sym (ap state_of (unless (leb 128 count) (λ t. (let m = leb-le 128 count t in omega arith))))

pub state-marked : (count : ℕ) → 128 ≤ count → 2 ≡ state_of (leb 128 count)
state-marked count l = sym (ap state_of (le-leb 128 count l))

-- The slot read at an offset of some bytes is that of the place that they begin with there.
pub fields_at :
    (bs : List ℕ) (at head state positives negatives : ℕ) (entries : List Atom) → head ≡ word_at bs (at + 2)
    → state ≡ state_of (leb 128 (get_or bs (at + 4) 0)) → positives ≡ get_or bs (at + 4) 0 % 128
    → negatives ≡ get_or bs (at + 5) 0 → entries ≡ map atom (words_in 8 (drop (at + 6) bs))
    → ◌≡◌ {A = Rule}
    (record {
      state = state;
      head = atom head;
      positives = positives;
      negatives = negatives;
      entries = entries;
    })
    (slot_from (place_numbered (drop at bs)))
fields_at bs at head state positives negatives entries h s m n e = λ i. record {
  state = (s ∙ ap (λ (b : ℕ). state_of (leb 128 b)) (sym (get_or-drop at bs 4 0))) i;
  head = atom ((h ∙ sym (word-drop at 2 bs)) i);
  positives = (m ∙ ap (λ (b : ℕ). b % 128) (sym (get_or-drop at bs 4 0))) i;
  negatives = (n ∙ sym (get_or-drop at bs 5 0)) i;
  entries = (e ∙ ap (λ (cs : List ℕ). map atom (words_in 8 cs)) (sym (drop-drop 6 at bs))) i;
}
