-- On a sound table the kept entries are the positive entries of the supporting rules, so that what is gathered from an
-- atom and written by depth is its reason. Assumes nothing.
use Rattle.std.specs.Prelude.{Ok, Err}
use Prim.Native.Nat.{ℕ, ◌≤◌, ◌<◌}
use native.Mathlib.Omega.{arith}
use mathlib.Core.Path.{◌≡◌, refl, sym, ◌∙◌, ap, ap₂, subst}
use mathlib.Core.Logic.{◌⊎◌, ⊎_elim}
use mathlib.Core.Bool.{Bool, true, false}
use mathlib.Core.List.Memᴰ
use mathlib.Core.List.{List, [], ◌∷◌, map}
use mathlib.Core.Option.{none, some}
use lib.ListN.{length, get_or, drop, replicate, length-map, length-replicate}
use Rattle.theory.specs.Lists.{◌∈◌}
use Rattle.theory.specs.Rules.{Pages, Program, active, Held}
use Rattle.theory.specs.Rules as theory
use Rattle.theory.specs.Models.{AtomSet, valid}
use Rattle.theory.specs.Derivations.{Depth}
use Rattle.theory.specs.Labels.{Supporting}
use Rattle.theory.specs.Explanations.{Gathered, asked, onward, Before, SlotsOf, Reason}
use Rattle.theory.specs.Questions.{Question, first_no, reason_questions, is_in_label}
use Rattle.theory.specs.Limits.{document}
use Rattle.theory.proofs.Lists.{clash, lt-ltb, test}
use Rattle.theory.proofs.Rules.{held-unique, valid-positive}
use Rattle.theory.proofs.Derivations.{last}
use Rattle.theory.proofs.Depths.{depth-unique}
use Rattle.theory.proofs.Labels.{supporting-unique, in-occurs-held}
use Rattle.theory.proofs.Questions.{held_below, first_no-yes, first_no-here}
use Rattle.table.specs.declared.Atom.{Atom}
use Rattle.table.specs.declared.Rule.{Rule}
use Rattle.table.specs.declared.Table.{Table}
use Rattle.table.specs.Sets.{member, number}
use Rattle.table.specs.Rules.{book_of, past_rule, rule_of}
use Rattle.table.specs.Words.{rules_of}
use Rattle.table.specs.Clean.{free_rule}
use Rattle.table.specs.Labels.{label_at}
use Rattle.table.specs.Sound.{Sound}
use Rattle.table.specs.declared.arrays.LabelArrays.{LabelArrays}
use Rattle.table.specs.Arrays.{ArraysOf}
use Rattle.table.proofs.Entries.{there}
use Rattle.table.proofs.Members.{all_alike}
use Rattle.table.proofs.Programs.{active-length, unmuted-rule}
use Rattle.calls.specs.Answers.{ListAnswer}
use Rattle.refusals.specs.declared.Refusal.TheVariants.{AtomNotIn, BufferTooShort}
use Rattle.calls.specs.Ends.{ReasonEnds, refused, short, accepted}
use Rattle.calls.proofs.Asking.{Passes}
use Rattle.reading.proofs.SoundArrays.{flag-model, in-depth, in-supporting, label-model, sound-bounded}
use Rattle.reason_atoms.specs.SupportEntries.{positives_if, positives_at, EntriesOf, SupportEntry}
use Rattle.reason_atoms.specs.Gathering.{Leads, Falling, Gathers}
use Rattle.reason_atoms.specs.Gathering as gathering
use Rattle.written_lists.specs.Lists.{below}
use Rattle.written_lists.specs.Written.{Appends}
use Rattle.reason_order.specs.Depths.{by_depth}
use Rattle.reason_atoms.proofs.SupportEntries.{copied-entries}
use Rattle.written_lists.proofs.Written.{overwrite-all, appends-all}
use Rattle.reason_order.proofs.Depths.{by_depth-at, by_depth-of, by_depth-count, by_depth-sorted}

-- Where steps fall, what is reached is no deeper.
reached-depth :
    {S : ℕ → ℕ → Type 0} {a x : ℕ} (d : ℕ → ℕ) → Falling S d → Leads S a x → d x ≤ d a
reached-depth d f (gathering.self e) = omega (arith, ap d e)
reached-depth d f (gathering.onward {x = x} {y = y} w s) = omega (arith, reached-depth d f w, f x y s)

-- The supporting slots of a list, from a number for each atom.
slots-of :
    (P : Program) (M : AtomSet) (v : ℕ → ℕ) (xs : List ℕ) → ((x : ℕ) → x ∈ xs → Supporting P M x (v x))
    → SlotsOf P M xs (map v xs)
slots-of P M v [] h = tt
slots-of P M v (x ∷ xs) h = (h x (Memᴰ.head refl), slots-of P M v xs (λ y m. h y (Memᴰ.tail m)))

-- The answers to the questions that come before the buffer's length.
module _ (words : List ℕ) (a : ℕ) where
  abbrev questions : List Question
  questions = reason_questions document a (label_at words a)

  module _ (l : a < document.atoms) where
    asked-10 : first_no questions ≡ first_no (drop 1 questions)
    asked-10 = first_no-yes _ _ (lt-ltb a document.atoms l)

    no-12 : is_in_label (label_at words a) ≡ false → first_no questions ≡ some 12
    no-12 h = asked-10 ∙ first_no-here _ _ h

    all_yes : is_in_label (label_at words a) ≡ true → first_no questions ≡ none
    unfolding first_no
    all_yes h = asked-10 ∙ first_no-yes _ [] h

-- The atom that passed 15 and 10.
pub ends_asked :
    (t : Table) (a : ℕ) (x : Atom) → Passes t a x → (before : List ℕ) (r : ListAnswer) (after : List ℕ)
    → ReasonEnds t x.0 before r after → ReasonEnds t a before r after
ends_asked t a x Q before r after E = subst (λ (k : ℕ). ReasonEnds t k before r after) Q.atom E

-- An atom that is not in is refused by 12.
pub ends-12 :
    (t : Table) (sound : Sound t) (k : LabelArrays) → ArraysOf t.words k → (a : ℕ) → a < document.atoms
    → member k.flags a ≡ false → (buffer : List ℕ) → ReasonEnds t a buffer (Err AtomNotIn) buffer
ends-12 t sound k K a l n buffer =
    refused AtomNotIn sound (no-12 t.words a l (sym (K.flags a l) ∙ n))

module _ (t : Table) (sound : Sound t) where
  abbrev rows : List Rule
  rows = rules_of t.words

  abbrev B : Pages
  B = book_of rows

  -- a reason is one of the unmuted rules
  abbrev P : Program
  P = active B

  abbrev M : AtomSet
  M = sound.kept.model

  -- An in atom is below the limit.
  in-below : (x : ℕ) → M x ≡ true → x < document.atoms
  in-below x u =
      let w = in-occurs-held B M sound.kept.admissible.founded x u in
      sound-bounded t sound w.slot w.rule w.held x w.there

  -- The positive entries of the supporting rule of an in atom are in.
  positive-in :
      (x s : ℕ) (r : theory.Rule) → Supporting P M x s → Held P s r → (y : ℕ) → y ∈ r.positives → M y ≡ true
  positive-in x s r S h y m =
      let e : S.supports.rule ≡ r = held-unique P s _ _ S.supports.held h in
      valid-positive M r (subst (λ q. valid M q ≡ true) e S.supports.good) y m

  -- What is gathered from an in atom is in.
  gathered-in : {a x : ℕ} → M a ≡ true → Gathered P M a x → M x ≡ true
  gathered-in u (asked e) = ap M e ∙ u
  gathered-in u (onward {x = x} {y = y} s r g S h m) = positive-in x s r S h y m

  module _
      (k : LabelArrays) (K : ArraysOf t.words k) (counts entries : List ℕ)
      (copied : EntriesOf rows (member k.flags) (number k.slots) counts entries)
    where
      -- An in atom's depth and slot, as the arrays have them.
      abbrev depths : List ℕ
      depths = k.depths

      abbrev slots : List ℕ
      slots = k.slots

      deep : (x : ℕ) → M x ≡ true → Depth P M x (number depths x)
      deep = in-depth t sound k K

      supporting : (x : ℕ) → M x ≡ true → Supporting P M x (number slots x)
      supporting = in-supporting t sound k K

      -- The entries copied of an in atom are the positive entries of its supporting rule, of any other none.
      positives-are :
          (x : ℕ) → M x ≡ true → (s : ℕ) (r : theory.Rule) → Supporting P M x s → Held P s r
          → positives_at rows (member k.flags) (number slots) x ≡ r.positives
      positives-are x u s r S h =
          let e : number slots x ≡ s = supporting-unique P M x _ _ (supporting x u) S in
          let low : s < length rows = omega (arith, held_below P s r h, active-length rows) in
          ap₂ (λ b j. positives_if b (get_or rows j free_rule)) (flag-model t sound k K x ∙ u) e
          ∙ ap (λ (q : Rule). (rule_of q).positives) (there rows s free_rule past_rule low)
          ∙ ap (λ (q : theory.Rule). q.positives) (unmuted-rule rows s r h)

      entry-from-in : (x y : ℕ) → SupportEntry counts entries x y → M x ≡ true
      entry-from-in x y c = ⊎_elim
          (λ (u : M x ≡ true). u)
          (λ (n : M x ≡ false). (
          let m = (copied-entries _ counts entries x (copied x) y).0 c in
          let none = ap (λ b. positives_if b (get_or rows (number slots x) free_rule)) (flag-model t sound k K x ∙ n) in
          absurd (Memᴰ.not-nil (subst (λ ys. y ∈ ys) none m))))
          (test (M x))

      entry-positive :
          (x y : ℕ) (u : M x ≡ true) → SupportEntry counts entries x y → y ∈ (supporting x u).supports.rule.positives
      entry-positive x y u c =
          let S = supporting x u in
          subst (λ ys. y ∈ ys) (positives-are x u _ _ S S.supports.held)
          ((copied-entries _ counts entries x (copied x) y).0 c)

      -- They are of smaller depth: the test before the recursive call never fails.
      pub falling : Falling (SupportEntry counts entries) (number depths)
      falling x y c =
          let u = entry-from-in x y c in
          let S = supporting x u in
          let m = entry-positive x y u c in
          let w = S.supports.smaller y m in
          let v = positive-in x _ _ S S.supports.held y m in
          omega (
            arith,
            w.order,
            depth-unique w.depth_x (deep y v),
            depth-unique w.depth_a (deep x u),
          )

      -- What is reached by kept entries from an in atom is gathered from it,
      reached-gathered : {a x : ℕ} → M a ≡ true → Leads (SupportEntry counts entries) a x → Gathered P M a x
      reached-gathered u (gathering.self e) = asked e
      reached-gathered u (gathering.onward {x = x} {y = y} w c) =
          let v = entry-from-in x y c in
          let S = supporting x v in
          onward _ _ (reached-gathered u w) S S.supports.held (entry-positive x y v c)

      -- and a set that holds the atom and is closed under kept entries holds all that is gathered.
      gathered-seen :
          {a : ℕ} → M a ≡ true → (seen : List Bool) → member seen a ≡ true
          → ((x y : ℕ) → member seen x ≡ true → SupportEntry counts entries x y → y < document.atoms
          → member seen y ≡ true)
          → {x : ℕ} → Gathered P M a x → member seen x ≡ true
      gathered-seen u seen here closed (asked e) = ap (member seen) e ∙ here
      gathered-seen u seen here closed (onward {x = x} {y = y} s r g S h m) =
          let v = gathered-in u g in
          let m' : y ∈ positives_at rows (member k.flags) (number slots) x =
          subst (λ ys. y ∈ ys) (sym (positives-are x v s r S h)) m in
          closed x y (gathered-seen u seen here closed g) ((copied-entries _ counts entries x (copied x) y).1 m')
          (in-below y (positive-in x s r S h y m))

      -- The set gathered from an in atom.
      module _
          (a : ℕ) (q : member k.flags a ≡ true) (depth : ℕ) (is-depth : depth ≡ number depths a) (seen : List Bool)
          (G : Gathers (SupportEntry counts entries) (number depths) a depth (replicate document.atoms false) seen)
        where
          u : M a ≡ true
          u = sym (flag-model t sound k K a) ∙ q

          all_seen : {x : ℕ} → Gathered P M a x → member seen x ≡ true
          all_seen = gathered-seen u seen
              (G.here (omega (arith, length-replicate document.atoms false, in-below a u)))
              (λ x y s k l. G.closed is-depth falling x y s (all_alike document.atoms x false) k
              (omega (arith, length-replicate document.atoms false)))

          reached : (x : ℕ) → member seen x ≡ true → Leads (SupportEntry counts entries) a x
          reached x s = ⊎_elim
              (λ (b : member (replicate document.atoms false) x ≡ true).
              absurd (clash b (all_alike document.atoms x false)))
              (λ (w : Leads (SupportEntry counts entries) a x). w)
              (G.only x s)

          seen-in : (x : ℕ) → member seen x ≡ true → M x ≡ true
          seen-in x s = gathered-in u (reached-gathered u (reached x s))

          -- the atoms and their slots, as they are written
          abbrev pub atoms : List ℕ
          atoms = by_depth (member seen) (number depths) document.atoms depth

          abbrev pub written : List ℕ
          written = map (number slots) atoms

          atom-seen : (x : ℕ) → x ∈ atoms → member seen x ≡ true
          atom-seen x m = (by_depth-at (member seen) (number depths) document.atoms depth x m).1

          before : (x y : ℕ) → member seen x ≡ true → member seen y ≡ true
              → (number depths x < number depths y) ⊎ ((number depths x ≡ number depths y) × (x < y))
              → Before P M x y
          before x y r s o =
              record {
                dx = number depths x;
                dy = number depths y;
                depth_x = deep x (seen-in x r);
                depth_y = deep y (seen-in y s);
                order = o;
              }

          seen-depth : (x : ℕ) → member seen x ≡ true → (0 < number depths x) × (number depths x ≤ depth)
          seen-depth x s = (
            omega (arith, (last (deep x (seen-in x s)).reached).height),
            omega (arith, is-depth, reached-depth (number depths) falling (reached x s)),
          )

          gathered-atom : (x : ℕ) → Gathered P M a x → x ∈ atoms
          gathered-atom x g =
              let s = all_seen g in
              let w = seen-depth x s in
              by_depth-of (member seen) (number depths) document.atoms depth x (in-below x (seen-in x s)) s
              w.0 w.1

          -- The reason: the set holds exactly what is gathered, and the list has it by depth and then by number.
          pub is-reason : Reason P M a written
          is-reason =
              record {
                atoms = atoms;
                sorted = by_depth-sorted (member seen) (number depths) document.atoms (Before P M)
                    (λ x y l k r s o. before x y r s o) depth;
                exactly = λ x.
                    (λ m. reached-gathered u (reached x (atom-seen x m)), gathered-atom x);
                supports = slots-of P M (number slots) atoms
                    (λ x m. supporting x (seen-in x (atom-seen x m)));
              }

          yes : first_no (questions t.words a) ≡ none
          yes = all_yes t.words a (in-below a u) (label-model t sound a ∙ u)

          -- The ends of the call: there are n slots, which do not fit the buffer, or were written.
          module _ (buffer : List ℕ) (n : ℕ) (counted : n ≡ length (below (member seen) (length seen))) where
            count-is : n ≡ length written
            count-is =
                counted
                ∙ ap (λ (k : ℕ). length (below (member seen) k)) (G.long ∙ length-replicate document.atoms false)
                ∙ sym (length-map atoms (number slots)
                ∙ by_depth-count (member seen) (number depths) document.atoms depth (λ x l. seen-depth x))

            pub ends-short : length buffer < n → ReasonEnds t a buffer (Err (BufferTooShort n)) buffer
            ends-short l =
                rw count-is
                (short M written sound yes sound.kept.admissible is-reason
                (omega (arith, count-is)))

            pub ends-written :
                n ≤ length buffer → (r : ℕ) (after : List ℕ) → Appends written 0 r buffer after
                → ReasonEnds t a buffer (Ok n) after
            ends-written l r after A =
                let fits : length written ≤ length buffer = omega (arith, count-is) in
                rw (count-is, appends-all written r buffer after A ∙ overwrite-all written buffer fits)
                (accepted M written sound yes sound.kept.admissible
                is-reason fits)
