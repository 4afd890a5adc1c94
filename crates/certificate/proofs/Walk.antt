-- Laws of the walk over the slots, and of the depths that they keep. Assumes nothing.
use Prim.Native.Nat.{ℕ, suc, ◌+◌, ◌≤◌, ◌<◌}
use native.Mathlib.Omega.{arith}
use native.Mathlib.Numerals.{add-one}
use mathlib.Core.Path.{◌≡◌, refl, sym, ◌∙◌, ap, subst, fun_ext}
use mathlib.Core.Logic.{⊎_elim, ◌↔◌}
use mathlib.Core.Bool.{Bool, true, false, ◌&&◌, ◌||◌, true≢false}
use mathlib.Core.List.Memᴰ
use mathlib.Core.List.{List}
use mathlib.Core.Option.{Option, none, some}
use lib.Dec.{eqb}
use lib.ListN.{length, get_or, get_or-eq_default}
use Rattle.theory.specs.Rules.{Bounded, passes, Pages, all, active, Rule}
use Rattle.theory.specs.Models.{AtomSet}
use Rattle.theory.specs.Labels.{absent, in_at, Label, out}
use Rattle.theory.specs.Questions.{is_in_label}
use Rattle.theory.specs.Slots.{Keeps, kept_from, label_by, label_from, occurs?}
use Rattle.theory.specs.Certificate.{Confirmed, depth_in, DepthsRead, given_below, gives?, kept_depth, kept_in}
use Rattle.theory.specs.Certificate.{SlotConfirmed}
use Rattle.theory.specs.Sound.{SoundSlots}
use Rattle.theory.specs.Limits.{document}
use Rattle.theory.proofs.Lists.{clash, is_not, le-or-lt, unless}
use Rattle.theory.proofs.Pages.{active-held}
use Rattle.theory.proofs.Slots.{missed-kept, read-in_at}
use Rattle.theory.proofs.SlotCertificate.{confirmed-sound, given-at, sound-confirmed}
use Rattle.table.specs.declared.Rule as table
use Rattle.table.specs.declared.arrays.LabelArrays.{LabelArrays}
use Rattle.table.specs.Sets.{member, number}
use Rattle.table.specs.Rules.{active_in, active_of, book_of, past_rule, program_of}
use Rattle.table.specs.Words.{rules_of, depth_at, spoiler_at}
use Rattle.table.specs.Labels.{label_at}
use Rattle.table.specs.Arrays.{ArraysOf}
use Rattle.table.proofs.Programs.{active-place, active-rule, book-length}
use Rattle.table.proofs.Words.{rules-length}
use Rattle.table.proofs.LabelArrays.{flags-are, depths-are}
use Rattle.certificate.specs.Compared.{Compared}

-- The in atoms and depths that are read off the slots' labels are those that the slots keep.
module _ (B : Pages) (depth : ℕ → ℕ) where
  in_is : (l : Label) → is_in_label l ≡ true → (d : ℕ) × (s : ℕ) × (l ≡ in_at d s)
  in_is absent t = absurd (true≢false (sym t))
  in_is out t = absurd (true≢false (sym t))
  in_is (in_at d s) t = (d, s, refl)

  out-depth : (l : Label) → is_in_label l ≡ false → depth_in l ≡ 0
  out-depth absent t = refl
  out-depth out t = refl
  out-depth (in_at d s) t = absurd (true≢false t)

  pub labels-read : DepthsRead B depth (kept_in (label_by B depth)) (kept_depth (label_by B depth))
  labels-read = record {
    kept = λ a t. (
        let w = in_is (label_by B depth a) t in
        let k = read-in_at B depth a w.0 w.1 w.2 in
        (w.1, k.0, ap depth_in w.2 ∙ sym k.1));
    every_kept = λ a s k. go a s k (kept_from depth a 0 (all B)) refl;
    others = λ a t. out-depth (label_by B depth a) t;
  }
    where
      go : (a s : ℕ) → Keeps (all B) depth a s → (o : Option ℕ) → kept_from depth a 0 (all B) ≡ o
          → is_in_label (label_from o depth (occurs? (all B) a)) ≡ true
      go a s k none e = absurd (missed-kept (all B) depth a e s k)
      go a s k (some t) e = refl

-- The walk: the slots below i are confirmed, and flagged are the atoms to which one of them gives their depths.
pub record Walked (B : Pages) (M : AtomSet) (d depth spoiler : ℕ → ℕ) (n : ℕ) (given : List Bool) (i : ℕ) : Type 0 where
  pub long : length given ≡ n
  pub flags : member given ≡ given_below (active B) M d i
  pub passed :
      (s : ℕ) → s < i
      → SlotConfirmed M d (given_below (active B) M d s) (get_or (active B) s none) (depth s) (spoiler s)

module _ (B : Pages) (M : AtomSet) (d depth spoiler : ℕ → ℕ) (n : ℕ) (below : Bounded (all B) n) where
  pub walk-starts : (given : List Bool) → length given ≡ n → ((a : ℕ) → member given a ≡ false)
      → Walked B M d depth spoiler n given 0
  unfolding given_below
  walk-starts given l f =
      record { long = l; flags = fun_ext f; passed = λ s m. absurd (omega arith) }

  -- no atom past the last is given a depth
  given_above : (s a : ℕ) → n ≤ a → given_below (active B) M d s a ≡ false
  given_above s a l = unless _ (λ t. (
      let w = given-at (active B) M d s a t in
      let r = w.1 in
      omega (arith, below w.0 r (active-held B w.0 r w.3) r.head (Memᴰ.head refl), w.4)))

  module _ (i : ℕ) (before after : List Bool) (t : Bool) (W : Walked B M d depth spoiler n before i)
      (C : Compared M d (get_or (active B) i none) before after (depth i) (spoiler i) t) where
    here : SlotConfirmed M d (member before) (get_or (active B) i none) (depth i) (spoiler i)
        ≡ SlotConfirmed M d (given_below (active B) M d i) (get_or (active B) i none) (depth i) (spoiler i)
    here = ap (λ (g : AtomSet). SlotConfirmed M d g (get_or (active B) i none) (depth i) (spoiler i)) W.flags

    pub walk-stops : i < length B → t ≡ false → (false ≡ true) ↔ Confirmed B M d depth spoiler
    walk-stops l f = is_not (λ F. clash (C.test.1 (subst (λ (Q : Type 0). Q) (sym here) (F i l))) f)

    flags-next : (a : ℕ) → member after a ≡ given_below (active B) M d (suc i) a
    unfolding given_below
    flags-next a = ⊎_elim
        (λ (l : n ≤ a). get_or-eq_default after false (omega (arith, C.given.long, W.long))
        ∙ sym (given_above (suc i) a l))
        (λ (l : a < n). C.given.each a (omega (arith, W.long))
        ∙ ap (λ (g : AtomSet). passes (λ r. eqb r.head a && gives? M d r) (get_or (active B) i none) || g a) W.flags)
        (le-or-lt n a)

    pub walk-goes : t ≡ true → Walked B M d depth spoiler n after (i + 1)
    walk-goes u = record {
      long = C.given.long ∙ W.long;
      flags = fun_ext flags-next ∙ ap (given_below (active B) M d) (sym (add-one i));
      passed = λ s l. ⊎_elim
          (λ (m : i ≤ s). (
          let z : i ≡ s = omega arith in
          subst (λ (k : ℕ). SlotConfirmed M d (given_below (active B) M d k) (get_or (active B) k none) (depth k) (spoiler k))
          z (subst (λ (Q : Type 0). Q) here (C.test.0 u))))
          (λ (m : s < i). W.passed s m)
          (le-or-lt i s);
    }

  pub walk_ends : (given : List Bool) (i : ℕ) → length B ≤ i → Walked B M d depth spoiler n given i
      → (true ≡ true) ↔ Confirmed B M d depth spoiler
  walk_ends given i l W = (λ t s m. W.passed s (omega arith), λ F. refl)

-- The slot in a place of the table, of which a rule, a depth and a spoiler were read, was compared.
pub compared_at :
    (rows : List table.Rule) (M : AtomSet) (d : ℕ → ℕ) (i : ℕ) (r : table.Rule) → r ≡ get_or rows i past_rule
    → (before after : List Bool) (x y depth spoiler : ℕ) → x ≡ depth → y ≡ spoiler → (t : Bool)
    → Compared M d (active_in r) before after x y t
    → Compared M d (get_or (active_of rows) i none) before after depth spoiler t
compared_at rows M d i r read before after x y depth spoiler e f t C =
    subst (λ (k : ℕ). Compared M d (get_or (active_of rows) i none) before after depth k t) f
    (subst (λ (k : ℕ). Compared M d (get_or (active_of rows) i none) before after k y t) e
    (subst (λ (o : Option Rule). Compared M d o before after x y t)
    (ap active_in read ∙ sym (active-place rows i)) C))

-- The head of a slot's unmuted rule.
pub head_of : (r : table.Rule) (q : Rule) → active_in r ≡ some q → q.head ≡ r.head.0
head_of r q h = ap (λ (p : Rule). p.head) (sym (active-rule r q h))

-- A table has as many pages as slots.
pub table-long : (table : List ℕ) → length (book_of (rules_of table)) ≡ document.slots
table-long table = book-length (rules_of table) ∙ rules-length table

-- The slots are confirmed by the arrays that were gathered from them exactly if they are sound.
module _ (table : List ℕ) (k : LabelArrays) (A : ArraysOf table k)
    (below : Bounded (program_of (rules_of table)) document.atoms) where
  abbrev B : Pages
  B = book_of (rules_of table)

  arrays-read : DepthsRead B (depth_at table) (member k.flags) (number k.depths)
  arrays-read =
      subst (λ (M : AtomSet). DepthsRead B (depth_at table) M (number k.depths)) (sym (flags-are table k A below))
      (subst (λ (d : ℕ → ℕ). DepthsRead B (depth_at table) (kept_in (label_at table)) d) (sym (depths-are table k A below))
      (labels-read B (depth_at table)))

  pub arrays-certify :
      (t : Bool) → (t ≡ true) ↔ Confirmed B (member k.flags) (number k.depths) (depth_at table) (spoiler_at table)
      → (t ≡ true) ↔ SoundSlots B (depth_at table) (spoiler_at table)
  arrays-certify t told = (
    λ u. confirmed-sound B (depth_at table) (spoiler_at table) _ _ arrays-read (told.0 u),
    λ K. told.1 (sound-confirmed B (depth_at table) (spoiler_at table) _ _ arrays-read K),
  )
