-- Laws of the numbers and the entries copied of each atom, and of the loops that copy them. Assumes nothing. The number
-- of atoms is a parameter.
use Prim.Native.Nat.{ℕ, ◌+◌, ◌*◌, ◌≤◌, ◌<◌, min}
use native.Mathlib.Omega.{arith}
use mathlib.Core.Path.{◌≡◌, refl, sym, ◌∙◌, ap, ap₂, subst}
use mathlib.Core.Logic.{inl, inr, ⊎_elim, ◌↔◌}
use mathlib.Core.Bool.{Bool, true, false}
use mathlib.Core.List.{List, []}
use lib.ListN.{length, get_or, set, take, replicate, length-map, length-take, length-set, length-replicate}
use lib.ListN.{get_or-map, get_or-eq_default}
use lib.Seq.{get_or-take, get_or-set_same, get_or-set_other}
use Rattle.theory.specs.Lists.{◌∈◌}
use Rattle.theory.specs.Models.{AtomSet}
use Rattle.theory.specs.Limits.{document}
use Rattle.theory.proofs.Lists.{entry_in, in_entry, le-or-lt}
use Rattle.table.specs.declared.Atom.{Atom}
use Rattle.table.specs.declared.Rule.{Rule}
use Rattle.table.specs.Sets.{member, number}
use Rattle.table.specs.Rules.{rule_of, no_atom}
use Rattle.table.specs.Clean.{free_rule}
use Rattle.reason_atoms.specs.SupportEntries.{positives_if, positives_at, entry_index, EntriesCopied}
use Rattle.reason_atoms.specs.SupportEntries.{SupportEntry, Fits, CopiedTo}

-- The copied entries are the members of the list that was copied.
pub copied-entries :
    (xs counts entries : List ℕ) (a : ℕ) → EntriesCopied xs counts entries a → (x : ℕ)
    → SupportEntry counts entries a x ↔ x ∈ xs
copied-entries xs counts entries a k x = (
  λ s. (
      let l : s.index < length xs = omega (arith, s.counted, k.counted) in
      subst (λ z. z ∈ xs) (sym (k.copied s.index l) ∙ s.there) (entry_in xs s.index l)),
  λ m. (
      let w = in_entry xs x m in
      record {
        index = w.0;
        counted = omega (arith, w.1, k.counted);
        there = k.copied w.0 w.1 ∙ w.2;
      }),
)

-- Entry j of the positive entries of an atom's supporting rule is entry j of the rule.
positive-at :
    (b : Bool) (rule : Rule) (j : ℕ) → j < length (positives_if b rule)
    → get_or (positives_if b rule) j 0 ≡ (get_or rule.entries j no_atom).0
positive-at true rule j l =
    let k : j < rule.positives = omega (
      arith,
      length-map (take rule.positives rule.entries) (λ a. a.0),
      length-take rule.positives rule.entries,
    ) in
    get_or-map (λ a. a.0) (take rule.positives rule.entries) j no_atom
    ∙ ap (λ a. a.0) (get_or-take rule.positives rule.entries j no_atom k)
positive-at false rule j l = absurd (omega arith)

-- What was read of an atom: whether it is in, its slot k, and the rule there.
module _ (rules : List Rule) (M : AtomSet) (s : ℕ → ℕ) (a : ℕ) (b : Bool) (k : ℕ) (r : Rule) (told : b ≡ M a)
    (slot : k ≡ s a) (read : r ≡ get_or rules k free_rule) where
  same : positives_if b r ≡ positives_at rules M s a
  same = ap₂ positives_if told (read ∙ ap (λ i. get_or rules i free_rule) slot)

  pub count-read : (n : ℕ) → n ≡ length (positives_if b r) → n ≡ length (positives_at rules M s a)
  count-read n e = e ∙ ap length same

  pub entry_read :
      (j : ℕ) → j < length (positives_at rules M s a)
      → get_or (positives_at rules M s a) j 0 ≡ (get_or r.entries j no_atom).0
  entry_read j l =
      ap (λ ys. get_or ys j 0) (sym same) ∙ positive-at b r j (subst (λ ys. j < length ys) (sym same) l)

-- There are at most as many as entries.
pub positives-length :
    (rule : Rule) (n : ℕ) → length rule.entries ≡ n → min rule.positives n ≡ length (rule_of rule).positives
positives-length rule n l =
    sym (length-map (take rule.positives rule.entries) (λ a. a.0)
    ∙ length-take rule.positives rule.entries ∙ ap (min rule.positives) l)

-- Copying one entry more.
module _ (xs : List Atom) (from : ℕ) (before : List ℕ) where
  pub copied-start : CopiedTo xs 0 from before before
  copied-start = record { long = refl; here = λ j l. absurd (omega arith); other = λ k o. refl }

  pub copied_next :
      (n : ℕ) (now : List ℕ) → from + n < length before → CopiedTo xs n from before now
      → CopiedTo xs (n + 1) from before (set now (from + n) (get_or xs n no_atom).0)
  copied_next n now l c =
      let v = (get_or xs n no_atom).0 in
      record {
        long = length-set now (from + n) v ∙ c.long;
        here = λ j i. ⊎_elim
            (λ (h : n ≤ j). (let e : j ≡ n = omega arith in
            rw e (get_or-set_same now (from + n) v 0 (omega (arith, c.long)))))
            (λ (h : j < n).
            get_or-set_other now (from + n) (from + j) v 0 (λ e. omega arith) ∙ c.here j h)
            (le-or-lt n j);
        other = λ k o. ⊎_elim
            (λ (h : k < from). get_or-set_other now (from + n) k v 0 (λ e. omega arith) ∙ c.other k (inl h))
            (λ (h : from + (n + 1) ≤ k).
            get_or-set_other now (from + n) k v 0 (λ e. omega arith) ∙ c.other k (inr (omega arith)))
            o;
      }

-- An array of n numbers, filled with g a for each atom a below i.
pub record Copying (g : ℕ → ℕ) (n i : ℕ) (xs : List ℕ) : Type 0 where
  pub long : length xs ≡ n
  pub done : (a : ℕ) → a < i → number xs a ≡ g a

module _ (g : ℕ → ℕ) (n : ℕ) where
  pub copying-start : Copying g n 0 (replicate n 0)
  copying-start = record { long = length-replicate n 0; done = λ a l. absurd (omega arith) }

  pub copying-next :
      (i : ℕ) (xs : List ℕ) (v : ℕ) → i < n → v ≡ g i → Copying g n i xs → Copying g n (i + 1) (set xs i v)
  copying-next i xs v l e c =
      record {
        long = length-set xs i v ∙ c.long;
        done = λ a k. ⊎_elim
            (λ (h : i ≤ a). (let q : a ≡ i = omega arith in
            rw q (get_or-set_same xs i v 0 (omega (arith, c.long)) ∙ e)))
            (λ (h : a < i). get_or-set_other xs i a v 0 (λ q. omega arith) ∙ c.done a h)
            (le-or-lt i a);
      }

  pub copying-end :
      (i : ℕ) (xs : List ℕ) → n ≤ i → ((a : ℕ) → n ≤ a → g a ≡ 0) → Copying g n i xs
      → (a : ℕ) → number xs a ≡ g a
  copying-end i xs l past c a = ⊎_elim
      (λ (h : n ≤ a). get_or-eq_default xs 0 (omega (arith, c.long)) ∙ sym (past a h))
      (λ (h : a < n). c.done a (omega arith))
      (le-or-lt n a)

-- For each atom below i the entries ys a are copied.
pub record CopiedBelow (ys : ℕ → List ℕ) (n i : ℕ) (counts entries : List ℕ) : Type 0 where
  pub counted : Copying (λ a. length (ys a)) n i counts
  pub long : length entries ≡ n * document.entries
  pub few : (a : ℕ) → a < i → length (ys a) ≤ document.entries
  pub copied : (a : ℕ) → a < i → (j : ℕ) → j < length (ys a) → number entries (entry_index a j) ≡ get_or (ys a) j 0

module _ (ys : ℕ → List ℕ) (n : ℕ) where
  pub entries-start : CopiedBelow ys n 0 (replicate n 0) (replicate (n * document.entries) 0)
  entries-start =
      record {
        counted = copying-start (λ a. length (ys a)) n;
        long = length-replicate (n * document.entries) 0;
        few = λ a l. absurd (omega arith);
        copied = λ a l. absurd (omega arith);
      }

  module _ (i : ℕ) (l : i < n) (counts entries : List ℕ) (k : CopiedBelow ys n i counts entries) where
    -- The array has room for entries of atom i.
    pub entries-room : n ≡ document.atoms → (m : ℕ) → m ≤ document.entries → Fits m (i * document.entries) entries
    entries-room e m h =
        record {
          few = h;
          long = k.long ∙ ap (λ z. z * document.entries) e;
          fits = omega (arith, k.long);
        }

    pub entries_next :
        (xs : List Atom) (m : ℕ) (after : List ℕ) → m ≡ length (ys i) → m ≤ document.entries
        → ((j : ℕ) → j < length (ys i) → get_or (ys i) j 0 ≡ (get_or xs j no_atom).0)
        → CopiedTo xs m (i * document.entries) entries after → CopiedBelow ys n (i + 1) (set counts i m) after
    entries_next xs m after e h at c =
        record {
          counted = copying-next (λ a. length (ys a)) n i counts m l e k.counted;
          long = c.long ∙ k.long;
          few = λ a o. ⊎_elim
              (λ (p : i ≤ a). (let q : a ≡ i = omega arith in rw q (omega arith)))
              (λ (p : a < i). k.few a p)
              (le-or-lt i a);
          copied = λ a o j b. ⊎_elim
              (λ (p : i ≤ a). (
              let q : a ≡ i = omega arith in
              let b' : j < length (ys i) = rw q at b in
              rw q (c.here j (omega arith) ∙ sym (at j b'))))
              (λ (p : a < i). c.other (entry_index a j) (inl (omega (arith, k.few a p))) ∙ k.copied a p j b)
              (le-or-lt i a);
        }

  pub entries-end :
      (i : ℕ) (counts entries : List ℕ) → n ≤ i → ((a : ℕ) → n ≤ a → ys a ≡ []) → CopiedBelow ys n i counts entries
      → (a : ℕ) → EntriesCopied (ys a) counts entries a
  entries-end i counts entries l past k a =
      record {
        counted = copying-end (λ b. length (ys b)) n i counts l (λ b h. ap length (past b h)) k.counted a;
        copied = λ j b. ⊎_elim
            (λ (h : n ≤ a). absurd (omega (arith, ap length (past a h))))
            (λ (h : a < n). k.copied a (omega arith) j b)
            (le-or-lt n a);
      }

-- Past the end of the flags no atom is in.
pub past-positives :
    (rules : List Rule) (flags : List Bool) (s : ℕ → ℕ) (n : ℕ) → length flags ≡ n → (a : ℕ) → n ≤ a
    → positives_at rules (member flags) s a ≡ []
past-positives rules flags s n l a h =
    ap (λ b. positives_if b (get_or rules (s a) free_rule)) (get_or-eq_default flags false (omega arith))
