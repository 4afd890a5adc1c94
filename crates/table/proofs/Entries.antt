-- Laws of reading an array place by place, and of a rule's two lists as parts of its entries. Assumes nothing.
-- The number of entries is a parameter of each law.
use Prim.Native.Nat.{ℕ, zero, suc, ◌+◌, ◌-◌, ◌≤◌, ◌<◌, min, max}
use native.Mathlib.Omega.{arith}
use native.Mathlib.Numerals.{add-one}
use mathlib.Core.Path.{◌≡◌, refl, sym, ◌∙◌, ap, ap₂}
use mathlib.Core.Logic.{⊎_elim}
use mathlib.Core.Bool.{Bool, true, false, not, ◌&&◌}
use mathlib.Core.List.{List, [], ◌∷◌, ◌++◌, map-append}
use mathlib.Core.Option.{none, some, none-ne-some}
use lib.ListN.{length, get_or, take, drop, set, length-map, length-take, drop_of_length-le}
use lib.ListN.{get_or-map, get_or-eq_default}
use lib.Seq.{slice, slice-cons, length-slice, get_or-drop, get_or-take}
use lib.Seq.{take-add, take-suc, take-suc-set, take_all, take-nil}
use Rattle.std.specs.Prelude.{Some, None, is_some}
use Rattle.std.proofs.lemmas.Bool.{false≢true}
use Rattle.std.specs.Prelude as rust
use Rattle.theory.specs.Lists.{every, before, greatest}
use Rattle.theory.specs.Rules as theory
use Rattle.theory.specs.Models.{AtomSet, valid}
use Rattle.theory.specs.Labels.{Side, positive, negative, first_on, spoiler}
use Rattle.theory.proofs.Lists.{before-hit, before-miss, first_past, first-there, le-or-lt, unless}
use Rattle.theory.proofs.Labels.{first-on-none, first-on-some, no_spoiler-valid, spoiler-negative, spoiler-positive}
use Rattle.theory.proofs.Labels.{valid-no_spoiler}
use Rattle.table.specs.declared.Atom.{Atom}
use Rattle.table.specs.declared.Rule.{Rule}
use Rattle.table.specs.declared.Spoiler.{Spoiler}
use Rattle.table.specs.declared.Spoiler.TheVariants.{Positive, Negative}
use Rattle.table.specs.Rules.{numbers, rule_of, spoiler_of, no_atom}

-- Past its end an array reads as the default.
pub past : {A : Type 0} (xs : List A) (i : ℕ) (d : A) → length xs ≤ i → d ≡ get_or xs i d
past xs i d l = sym (get_or-eq_default xs d l)

-- At a place that it has, an array reads the same whatever it reads as past its end.
pub there : {A : Type 0} (xs : List A) (i : ℕ) (d e : A) → i < length xs → get_or xs i d ≡ get_or xs i e
there [] i d e l = absurd (omega arith)
there (x ∷ xs) zero d e l = refl
there (x ∷ xs) (suc i) d e l = there xs i d e (omega arith)

-- The entries from j to below n: none, or entry j and the rest.
module _ (xs : List Atom) (j n : ℕ) where
  pub part-over : n ≤ j → numbers (slice j n xs) ≡ []
  part-over l = ap numbers (drop_of_length-le (take n xs) {i = j} (simp length-take (omega arith)))

  pub part-next :
      j < n → n ≤ length xs → numbers (slice j n xs) ≡ (get_or xs j no_atom).0 ∷ numbers (slice (j + 1) n xs)
  part-next l k = rw (add-one, slice-cons j n xs no_atom)

-- What a walk over the entries learns of the whole: at each entry, and past the last.
module _ (f : ℕ → Bool) (xs : List Atom) (j n : ℕ) where
  pub every-over : n ≤ j → every f (numbers (slice j n xs)) ≡ true
  unfolding every
  every-over l = rw (part-over xs j n l)

  every-step :
      j < n → n ≤ length xs
      → every f (numbers (slice j n xs)) ≡ (f (get_or xs j no_atom).0 && every f (numbers (slice (j + 1) n xs)))
  unfolding every
  every-step l k = rw (part-next xs j n l k)

  pub every-next :
      j < n → n ≤ length xs → f (get_or xs j no_atom).0 ≡ true
      → every f (numbers (slice j n xs)) ≡ every f (numbers (slice (j + 1) n xs))
  every-next l k t = every-step l k ∙ ap (λ b. b && every f (numbers (slice (j + 1) n xs))) t

  pub every-stop :
      j < n → n ≤ length xs → f (get_or xs j no_atom).0 ≡ false → every f (numbers (slice j n xs)) ≡ false
  every-stop l k t = every-step l k ∙ ap (λ b. b && every f (numbers (slice (j + 1) n xs))) t

  pub before-over : n ≤ j → j + before f (numbers (slice j n xs)) ≡ j
  unfolding before
  before-over l = rw (part-over xs j n l) (omega arith)

  pub before-next :
      j < n → n ≤ length xs → f (get_or xs j no_atom).0 ≡ false
      → j + before f (numbers (slice j n xs)) ≡ (j + 1) + before f (numbers (slice (j + 1) n xs))
  before-next l k t =
      let e = ap (before f) (part-next xs j n l k) ∙ before-miss f _ _ t in
      omega (arith, e)

  pub before-stop :
      j < n → n ≤ length xs → f (get_or xs j no_atom).0 ≡ true → j + before f (numbers (slice j n xs)) ≡ j
  before-stop l k t =
      let e = ap (before f) (part-next xs j n l k) ∙ before-hit f _ _ t in
      omega (arith, e)

-- The greatest number of a part: none, or the greater of that of entry j and of the rest.
module _ (d : ℕ → ℕ) (xs : List Atom) (j n : ℕ) where
  pub greatest-over : n ≤ j → greatest d (numbers (slice j n xs)) ≡ 0
  unfolding greatest
  greatest-over l = rw (part-over xs j n l)

  pub greatest-next :
      j < n → n ≤ length xs
      → greatest d (numbers (slice j n xs)) ≡ max (d (get_or xs j no_atom).0) (greatest d (numbers (slice (j + 1) n xs)))
  unfolding greatest
  greatest-next l k = rw (part-next xs j n l k)

-- Where a walk over the part from j to below n stopped, at k: at the first entry that passes, or past the part.
module _ (d : Side) (f : ℕ → Bool) (xs : List Atom) (j n : ℕ) (in-it : n ≤ length xs) (k : ℕ)
    (stopped : k ≡ j + before f (numbers (slice j n xs))) where
  part-long : length (numbers (slice j n xs)) ≡ n - j
  part-long = length-map (slice j n xs) (λ a. a.0) ∙ length-slice j n xs in-it

  part-entry : k < n → get_or (numbers (slice j n xs)) (before f (numbers (slice j n xs))) 0 ≡ (get_or xs k no_atom).0
  part-entry l =
      let b = before f (numbers (slice j n xs)) in
      get_or-map (λ a. a.0) (slice j n xs) b no_atom
      ∙ ap (λ (a : Atom). a.0) (get_or-drop j (take n xs) b no_atom
      ∙ get_or-take n xs (j + b) no_atom (omega (arith, stopped)) ∙ ap (λ i. get_or xs i no_atom) (sym stopped))

  pub part-found :
      k < n
      → first_on d f (numbers (slice j n xs))
      ≡ some (record { side = d; place = k - j; atom = (get_or xs k no_atom).0 })
  part-found l =
      let e : before f (numbers (slice j n xs)) ≡ k - j = omega (arith, stopped) in
      first-on-some d f _ _ (first-there f _ (omega (arith, part-long, stopped)))
      ∙ ap₂ (λ i a. some (record { side = d; place = i; atom = a })) e (part-entry l)

  pub part_none : n ≤ k → first_on d f (numbers (slice j n xs)) ≡ none
  part_none l = first-on-none d f _ (first_past f _ (omega (arith, part-long, stopped)))

-- A list cut at its own length, or beyond it, is whole.
take_min : {A : Type 0} (n : ℕ) (xs : List A) → take (min n (length xs)) xs ≡ take n xs
take_min n xs = ⊎_elim
    (λ (l : n ≤ length xs). (let e : min n (length xs) ≡ n = omega arith in rw e))
    (λ (l : length xs < n). (let e : min n (length xs) ≡ length xs = omega arith in
    rw e (take_all (length xs) xs (omega arith) ∙ sym (take_all n xs (omega arith)))))
    (le-or-lt n (length xs))

-- Cut off the front and then the end, or the end and then the front.
take-drop : {A : Type 0} (p q : ℕ) (xs : List A) → take q (drop p xs) ≡ drop p (take (p + q) xs)
take-drop zero q xs = (let e : zero + q ≡ q = omega arith in rw e)
take-drop (suc p) q [] = (let e : suc p + q ≡ suc (p + q) = omega arith in rw e (take-nil q))
take-drop (suc p) q (x ∷ xs) = (let e : suc p + q ≡ suc (p + q) = omega arith in rw e (take-drop p q xs))

-- Up to where the negative list ends, a rule's b entries are the positive list and then the negative list.
pub entries-are :
    (r : Rule) (b : ℕ) → length r.entries ≡ b → (n : ℕ) → n ≡ min (r.positives + r.negatives) b
    → numbers (take n r.entries) ≡ theory.entries (rule_of r)
entries-are r b long n e =
    let q : n ≡ min (r.positives + r.negatives) (length r.entries) = omega arith in
    ap numbers
    (ap (λ k. take k r.entries) q ∙ take_min (r.positives + r.negatives) r.entries
    ∙ take-add r.positives r.negatives r.entries)
    ∙ map-append (λ (a : Atom). a.0) (take r.positives r.entries)
    (take r.negatives (drop r.positives r.entries))

-- A rule's lists are parts of its b entries: the positive list ends at n, the negative list at m.
module _ (r : Rule) (b : ℕ) (long : length r.entries ≡ b) (n : ℕ) (here : n ≡ min r.positives b) where
  pub positives-are : (rule_of r).positives ≡ numbers (slice 0 n r.entries)
  positives-are =
      let e : n ≡ min r.positives (length r.entries) = omega arith in
      ap numbers (sym (ap (λ k. take k r.entries) e ∙ take_min r.positives r.entries))

  -- a front that goes past the end may as well stop there
  front : (xs : List Atom) → length xs ≤ b → drop r.positives xs ≡ drop n xs
  front xs k = ⊎_elim
      (λ (l : r.positives ≤ b). (let e : r.positives ≡ n = omega arith in ap (λ z. drop z xs) e))
      (λ (l : b < r.positives).
      drop_of_length-le xs {i = r.positives} (omega arith) ∙ sym (drop_of_length-le xs {i = n} (omega arith)))
      (le-or-lt r.positives b)

  module _ (m : ℕ) (there : m ≡ min (r.positives + r.negatives) b) where
    pub negatives-are : (rule_of r).negatives ≡ numbers (slice n m r.entries)
    negatives-are =
        let e : m ≡ min (r.positives + r.negatives) (length r.entries) = omega arith in
        ap numbers
        (take-drop r.positives r.negatives r.entries
        ∙ ap (drop r.positives)
        (sym (ap (λ k. take k r.entries) e ∙ take_min (r.positives + r.negatives) r.entries))
        ∙ front (take m r.entries) (simp length-take (omega arith)))

    module _ (M : AtomSet) where
      -- the walk over the positive part stopped at i, the one over the negative part at k
      module _ (i : ℕ) (at_i : i ≡ 0 + before (λ x. not (M x)) (numbers (slice 0 n r.entries))) where
        pub spoiler-needs : i < n → spoiler_of (Some (Positive i (get_or r.entries i no_atom))) ≡ spoiler M (rule_of r)
        spoiler-needs l =
            let e : i - 0 ≡ i = omega arith in
            let out = part-found positive (λ x. not (M x)) r.entries 0 n (omega arith) i at_i l in
            sym (spoiler-positive M (rule_of r) _ (rw positives-are (rw e at out)))

        no-positive : n ≤ i → spoiler M (rule_of r) ≡ first_on negative M (numbers (slice n m r.entries))
        no-positive l =
            let in_all = part_none positive (λ x. not (M x)) r.entries 0 n (omega arith) i at_i l in
            spoiler-negative M (rule_of r) (rw positives-are in_all) ∙ ap (first_on negative M) negatives-are

        module _ (over : n ≤ i) (k : ℕ) (at-k : k ≡ n + before M (numbers (slice n m r.entries))) where
          pub spoiler-blocked :
              k < m → spoiler_of (Some (Negative (k - n) (get_or r.entries k no_atom))) ≡ spoiler M (rule_of r)
          spoiler-blocked l =
              sym (no-positive over ∙ part-found negative M r.entries n m (omega arith) k at-k l)

          pub spoiler-nothing : m ≤ k → spoiler_of None ≡ spoiler M (rule_of r)
          spoiler-nothing l =
              sym (no-positive over ∙ part_none negative M r.entries n m (omega arith) k at-k l)

-- A rule is valid exactly if no entry spoils it.
pub unspoiled-valid :
    (M : AtomSet) (r : theory.Rule) (f : rust.Option Spoiler) (b : Bool) → spoiler_of f ≡ spoiler M r
    → is_some f ≡ not b → b ≡ valid M r
unspoiled-valid M r None true p e = sym (no_spoiler-valid M r (sym p))
unspoiled-valid M r None false p e = absurd (false≢true e)
unspoiled-valid M r (Some f) true p e = absurd (false≢true (sym e))
unspoiled-valid M r (Some (Positive i a)) false p e =
    sym (unless _ (λ v. none-ne-some _ (sym (valid-no_spoiler M r v) ∙ sym p)))
unspoiled-valid M r (Some (Negative i a)) false p e =
    sym (unless _ (λ v. none-ne-some _ (sym (valid-no_spoiler M r v) ∙ sym p)))

-- Numbers taken of a part, or a part taken of the numbers.
pub numbers-take : (n : ℕ) (xs : List Atom) → take n (numbers xs) ≡ numbers (take n xs)
numbers-take zero xs = refl
numbers-take (suc n) [] = refl
numbers-take (suc n) (x ∷ xs) = ap (λ ys. x.0 ∷ ys) (numbers-take n xs)

pub numbers-drop : (n : ℕ) (xs : List Atom) → drop n (numbers xs) ≡ numbers (drop n xs)
numbers-drop zero xs = refl
numbers-drop (suc n) [] = refl
numbers-drop (suc n) (x ∷ xs) = numbers-drop n xs

-- Copying the numbers of b entries, one after the other, into ns.
module _ (xs : List Atom) (ns : List ℕ) where
  pub copied :
      (j : ℕ) → j < length ns → j < length xs → take j ns ≡ take j (numbers xs)
      → take (j + 1) (set ns j (get_or xs j no_atom).0) ≡ take (j + 1) (numbers xs)
  copied j l k e =
      let long : j < length (numbers xs) = simp length-map (k) in
      rw add-one
      (take-suc-set ns j _ l ∙ ap₂ (λ ys y. ys ++ (y ∷ [])) e (sym (get_or-map (λ a. a.0) xs j no_atom))
      ∙ sym (take-suc (numbers xs) j 0 long))

  pub all-copied :
      (b : ℕ) → length ns ≡ b → length xs ≡ b → (j : ℕ) → b ≤ j → take j ns ≡ take j (numbers xs)
      → ns ≡ numbers xs
  all-copied b l k j h e =
      let long : length (numbers xs) ≤ j = simp length-map (omega arith) in
      sym (take_all j ns (omega arith)) ∙ e ∙ take_all j (numbers xs) long
