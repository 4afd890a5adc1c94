-- What is written of the atoms is what the labels tell. Assumes nothing.
use Rattle.std.specs.Prelude.{Ok, Err}
use Prim.Native.Nat.{ℕ, zero, suc, ◌+◌, ◌*◌, ◌≤◌, ◌<◌}
use native.Mathlib.Omega.{arith}
use native.Mathlib.Numerals.{add-one}
use mathlib.Core.Path.{◌≡◌, refl, sym, ◌∙◌, ap, ap₂, subst}
use mathlib.Core.Bool.{Bool, true, false, cond}
use mathlib.Core.List.Memᴰ
use mathlib.Core.List.{List, [], ◌∷◌, ◌++◌}
use mathlib.Core.Option.{Option, none, some}
use lib.ListN.{length, set, length-append}
use Rattle.theory.specs.Rules.{Program}
use Rattle.theory.specs.Models.{AtomSet}
use Rattle.theory.specs.Questions.{is_in_label}
use Rattle.theory.specs.Certificate.{depth_in, slot_in}
use Rattle.theory.specs.Slots.{kept_from, label_from, occurs?}
use Rattle.theory.specs.Limits.{document}
use Rattle.theory.proofs.Lists.{same_test}
use Rattle.theory.proofs.Rules.{occurs-at, occurs-of}
use Rattle.theory.proofs.Slots.{found-kept}
use Rattle.table.specs.declared.Table.{Table}
use Rattle.table.specs.declared.arrays.LabelArrays.{LabelArrays}
use Rattle.table.specs.Sets.{member, number, one_if}
use Rattle.table.specs.Rules.{program_of}
use Rattle.table.specs.Words.{rules_of, depth_at}
use Rattle.table.specs.Labels.{label_at}
use Rattle.table.specs.Arrays.{ArraysOf}
use Rattle.table.specs.Sound.{Sound}
use Rattle.occurring.specs.Occurrence.{OccurringIn}
use Rattle.reading.proofs.SoundArrays.{sound-label}
use Rattle.refusals.specs.declared.Refusal.TheVariants.{BufferTooShort}
use Rattle.calls.specs.Ends.{accepted, held, short}
use Rattle.written_lists.specs.Lists.{below}
use Rattle.written_lists.specs.Written.{Appends}
use Rattle.written_lists.proofs.Lists.{below_length, length_none, next-length}
use Rattle.written_lists.proofs.Written.{appends-all, appends-both, appends-none, appends-one, overwrite-all}
use Rattle.label_list.specs.Listed.{label_numbers, LabelsEnd, LabelsListed, up_to}
use Rattle.label_list.specs.Found.{found_numbers, numbers_of}

-- One number more at a time.
up_next : (f : ℕ → List ℕ) (n : ℕ) → up_to f (n + 1) ≡ up_to f n ++ f n
unfolding up_to
up_next f n = rw add-one

pub up_start : (f : ℕ → List ℕ) (x : List ℕ) → Appends (up_to f 0) 0 0 x x
unfolding up_to
up_start f x = appends-none 0 x

pub up-written :
    (f : ℕ → List ℕ) (i m r : ℕ) (x y z : List ℕ) → Appends (up_to f i) 0 m x y → Appends (f i) m r y z
    → Appends (up_to f (i + 1)) 0 r x z
up-written f i m r x y z A B = subst (λ zs. Appends zs 0 r x z) (sym (up_next f i)) (appends-both A B)

-- Two that agree below n give the same list.
pub up_same : (f g : ℕ → List ℕ) (n : ℕ) → ((a : ℕ) → a < n → f a ≡ g a) → up_to f n ≡ up_to g n
unfolding up_to
up_same f g zero h = refl
up_same f g (suc n) h = ap₂ (λ xs ys. xs ++ ys) (up_same f g n (λ a l. h a (omega arith))) (h n (omega arith))

-- Four numbers, one after another.
pub four-written :
    (n a b c d : ℕ) (x y z u v : List ℕ) → y ≡ set x n a → z ≡ set y (n + 1) b → u ≡ set z (n + 2) c
    → v ≡ set u (n + 3) d → Appends (a ∷ b ∷ c ∷ d ∷ []) n (n + 4) x v
four-written n a b c d x y z u v e f g h =
    let A : Appends (a ∷ []) n (n + 1) x y = rw e (appends-one n a x) in
    let B : Appends (b ∷ []) (n + 1) (n + 2) y z = one (n + 1) (n + 2) b y z (omega arith) f in
    let C : Appends (c ∷ []) (n + 2) (n + 3) z u = one (n + 2) (n + 3) c z u (omega arith) g in
    let D : Appends (d ∷ []) (n + 3) (n + 4) u v = one (n + 3) (n + 4) d u v (omega arith) h in
    appends-both (appends-both (appends-both A B) C) D
  where
    one : (m k x : ℕ) (p q : List ℕ) → m + 1 ≡ k → q ≡ set p m x → Appends (x ∷ []) m k p q
    one m k x p q e f = subst (λ j. Appends (x ∷ []) m j p q) e (rw f (appends-one m x p))

-- Of one atom.
module _ (b i : Bool) (a d s n : ℕ) (x : List ℕ) where
  pub atom-passed : b ≡ false → Appends (numbers_of b i a d s) n n x x
  atom-passed t = rw t (appends-none n x)

  pub atom-written :
      b ≡ true → (j e t r : ℕ) (y : List ℕ) → j ≡ cond i 2 1 → e ≡ d → t ≡ s → Appends (a ∷ j ∷ e ∷ t ∷ []) n r x y
      → Appends (numbers_of b i a d s) n r x y
  atom-written u j e t r y f g h A =
      subst (λ zs. Appends zs n r x y)
      (sym (ap (λ c. numbers_of c i a d s) u
      ∙ sym (ap (λ k. a ∷ k ∷ e ∷ t ∷ []) f ∙ ap₂ (λ k m. a ∷ cond i 2 1 ∷ k ∷ m ∷ []) g h)))
      A

-- Of the atoms below i: four numbers for each that occurs.
module _ (O M : AtomSet) (d s : ℕ → ℕ) where
  four-each : (a : ℕ) → length (found_numbers O M d s a) ≡ 4 * one_if (O a)
  four-each a = go (O a)
    where
      go : (b : Bool) → length (numbers_of b (M a) a (d a) (s a)) ≡ 4 * one_if b
      go true = refl
      go false = refl

  four-all : (n : ℕ) → length (up_to (found_numbers O M d s) n) ≡ 4 * length (below O n)
  unfolding up_to
  four-all zero = omega (arith, length_none O)
  four-all (suc n) =
      let e : n + 1 ≡ suc n = omega arith in
      let more : length (below O (suc n)) ≡ length (below O n) + one_if (O n) =
      ap (λ k. length (below O k)) (sym e) ∙ next-length O n in
      omega (
        arith,
        length-append (up_to (found_numbers O M d s) n) (found_numbers O M d s n),
        four-all n,
        four-each n,
        more,
      )

  -- Before atom i at most four numbers for each atom below it are written.
  pub atoms-room :
      (i m : ℕ) (x y : List ℕ) → Appends (up_to (found_numbers O M d s) i) 0 m x y → m ≤ 4 * i
  atoms-room i m x y A = omega (arith, A.next, four-all i, below_length O i)

-- What was found of a sound table tells its labels.
module _ (t : Table) (S : Sound t) (k : LabelArrays) (K : ArraysOf t.words k) (O : AtomSet)
    (o : OccurringIn (program_of (rules_of t.words)) O) where
  abbrev P : Program
  P = program_of (rules_of t.words)

  abbrev found : ℕ → List ℕ
  found = found_numbers O (member k.flags) (number k.depths) (number k.slots)

  abbrev told : ℕ → List ℕ
  told a = label_numbers a (label_at t.words a)

  -- an atom of which a slot keeps a depth occurs
  kept-occurs : (a s : ℕ) → kept_from (depth_at t.words) a 0 P ≡ some s → occurs? P a ≡ true
  kept-occurs a s e =
      let w = found-kept P (depth_at t.words) a s e in
      occurs-of P a (record { slot = s; rule = w.rule; held = w.held; there = Memᴰ.head (sym w.heads) })

  told-label :
      (f : Option ℕ) (depth : ℕ → ℕ) (b : Bool) (a : ℕ) → ((s : ℕ) → f ≡ some s → b ≡ true)
      → numbers_of b (is_in_label (label_from f depth b)) a (depth_in (label_from f depth b))
      (slot_in (label_from f depth b)) ≡ label_numbers a (label_from f depth b)
  told-label none depth true a h = refl
  told-label none depth false a h = refl
  told-label (some s) depth true a h = refl
  told-label (some s) depth false a h = absurd (let z : ◌≡◌ {A = Bool} false true = h s refl in false-true z)
    where
      false-true : false ≡ true → ⊥
      false-true z = mathlib.Core.Bool.true≢false (sym z)

  found-told : (a : ℕ) → a < document.atoms → found a ≡ told a
  found-told a l =
      let there : O a ≡ occurs? P a =
      same_test (O a) (occurs? P a) (λ t. occurs-of P a ((o a).0 t)) (λ t. (o a).1 (occurs-at P a t)) in
      alike there (K.flags a l) (K.depths a l) (K.slots a l)
      ∙ told-label (kept_from (depth_at t.words) a 0 P) (depth_at t.words) (occurs? P a) a (kept-occurs a)
    where
      alike : {b c i j : Bool} {x y u v : ℕ} → b ≡ c → i ≡ j → x ≡ y → u ≡ v → numbers_of b i a x u ≡ numbers_of c j a y v
      alike p q r s = rw (p, q, r, s) refl

  abbrev pub list : List ℕ
  list = up_to found document.atoms

  is-list : LabelsListed (held t) S.kept.model list
  is-list =
      record {
        label = label_at t.words;
        labelled = sound-label t S;
        told = up_same found told document.atoms found-told;
      }

  -- The ends of the call: there are n numbers, which do not fit the buffer, or were written.
  module _ (buffer : List ℕ) (m n : ℕ) (counted : m ≡ length (below O document.atoms)) (four : n ≡ 4 * m) where
    count-is : n ≡ length list
    count-is = omega (arith, four-all O (member k.flags) (number k.depths) (number k.slots) document.atoms)

    pub ends-short : length buffer < n → LabelsEnd t buffer (Err (BufferTooShort n)) buffer
    unfolding Rattle.theory.specs.Questions.first_no
    ends-short l =
        rw count-is (short S.kept.model list S refl S.kept.admissible is-list (omega (arith, count-is)))

    pub ends-written :
        n ≤ length buffer → (r : ℕ) (after : List ℕ) → Appends list 0 r buffer after
        → LabelsEnd t buffer (Ok n) after
    unfolding Rattle.theory.specs.Questions.first_no
    ends-written l r after A =
        let fits : length list ≤ length buffer = omega (arith, count-is) in
        rw (count-is, appends-all list r buffer after A ∙ overwrite-all list buffer fits)
        (accepted S.kept.model list S refl S.kept.admissible is-list fits)
