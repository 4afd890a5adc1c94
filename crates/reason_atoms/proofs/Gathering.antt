-- Gathering, entry by entry: what came in before entry j is followed, and what comes in from it. Assumes nothing.
use Prim.Native.Nat.{ℕ, ◌+◌, ◌≤◌, ◌<◌}
use native.Mathlib.Omega.{arith}
use mathlib.Core.Path.{◌≡◌, refl, sym, ◌∙◌, ap, subst}
use mathlib.Core.Logic.{◌⊎◌, inl, inr, ⊎_elim}
use mathlib.Core.Bool.{Bool, true, false}
use mathlib.Core.List.{List}
use lib.Dec.{eqb}
use lib.ListN.{length, set, length-set}
use lib.Seq.{set_out}
use Rattle.theory.proofs.Lists.{clash, le-or-lt, test, eqb-eq, eqb_of}
use Rattle.table.specs.Sets.{member, number}
use Rattle.table.proofs.Members.{mark-in, mark-other, mark-keeps}
use Rattle.reason_atoms.specs.SupportEntries.{entry_index, SupportEntry}
use Rattle.reason_atoms.specs.Gathering.{Leads, self, onward, Falling, Gathers}

-- What is reached from an atom to which a step leads from a is reached from a.
pub leads-first : {S : ℕ → ℕ → Type 0} {a e x : ℕ} → S a e → Leads S e x → Leads S a x
leads-first {S = S} {a = a} s (self q) = onward (self refl) (subst (λ z. S a z) (sym q) s)
leads-first s (onward w t) = onward (leads-first s w) t

-- The atom a and the first j of the entries copied for it were gathered. The idea of a search in depth: an atom that
-- came in is a, whose first j entries are in, or another, all of whose entries are in. Of what was in before, nothing is
-- said: a call further out is still about it. At the outermost call nothing was in before, so that the set is closed
-- at last.
pub record Gathering (counts entries : List ℕ) (d : ℕ → ℕ) (a depth j : ℕ) (before now : List Bool) : Type 0 where
  pub long : length now ≡ length before
  pub grows : (x : ℕ) → member before x ≡ true → member now x ≡ true
  pub here : a < length before → member now a ≡ true
  pub only : (x : ℕ) → member now x ≡ true → (member before x ≡ true) ⊎ Leads (SupportEntry counts entries) a x
  pub others :
      depth ≡ d a → Falling (SupportEntry counts entries) d → (x y : ℕ) → member now x ≡ true
      → member before x ≡ false → (x ≡ a → ⊥) → SupportEntry counts entries x y → y < length before
      → member now y ≡ true
  pub own :
      depth ≡ d a → Falling (SupportEntry counts entries) d → (k : ℕ) → k < j → k < number counts a
      → number entries (entry_index a k) < length before → member now (number entries (entry_index a k)) ≡ true

-- A mark past the end changes nothing.
marks-keep : (before : List Bool) (a x : ℕ) → member before x ≡ true → member (set before a true) x ≡ true
marks-keep before a x t = ⊎_elim
    (λ (l : length before ≤ a). ap (λ s. member s x) (set_out before a true l) ∙ t)
    (λ (l : a < length before). mark-keeps before a l x t)
    (le-or-lt (length before) a)

module _ (counts entries : List ℕ) (d : ℕ → ℕ) (a depth : ℕ) (before : List Bool) where
  pub gathering-start : Gathering counts entries d a depth 0 before (set before a true)
  gathering-start =
      record {
        long = length-set before a true;
        grows = marks-keep before a;
        here = mark-in before a;
        only = λ x t. ⊎_elim
            (λ (q : eqb x a ≡ true). inr (self (eqb-eq x a q)))
            (λ (q : eqb x a ≡ false). inl (sym (mark-other before a x (λ p. clash (eqb_of x a p) q)) ∙ t))
            (test (eqb x a));
        others = λ p f x y t n q s l. absurd (clash t (mark-other before a x q ∙ n));
        own = λ p f k l. absurd (omega arith);
      }

  module _ (j : ℕ) (counted : j < number counts a) where
    -- Entry j of a, and the step to it.
    abbrev entry : ℕ
    entry = number entries (entry_index a j)

    step : SupportEntry counts entries a entry
    step = record { index = j; counted = counted; there = refl }

    -- Entry j is in.
    with-entry :
        (now : List Bool) → Gathering counts entries d a depth j before now
        → (depth ≡ d a → Falling (SupportEntry counts entries) d → entry < length before → member now entry ≡ true)
        → Gathering counts entries d a depth (j + 1) before now
    with-entry now g h =
        record {
          long = g.long;
          grows = g.grows;
          here = g.here;
          only = g.only;
          others = g.others;
          own = λ p f k l c i. ⊎_elim
              (λ (m : j ≤ k). (let q : k ≡ j = omega arith in rw q (h p f (rw q at i))))
              (λ (m : k < j). g.own p f k m c i)
              (le-or-lt j k);
        }

    -- That entry is x, whose depth is e.
    module _
        (now : List Bool) (g : Gathering counts entries d a depth j before now)
        (x e : ℕ) (is-entry : x ≡ entry) (is-depth : e ≡ d x)
      where
        -- It is not of smaller depth: this cannot be where steps fall.
        pub gathering-deep : depth ≤ e → Gathering counts entries d a depth (j + 1) before now
        gathering-deep l = with-entry now g (λ p f i. absurd (omega (arith, f a entry step, ap d is-entry)))

        -- It is in already.
        pub gathering-seen : member now x ≡ true → Gathering counts entries d a depth (j + 1) before now
        gathering-seen t = with-entry now g (λ p f i. ap (member now) (sym is-entry) ∙ t)

        -- It is gathered.
        module _ (after : List Bool) (r : Gathers (SupportEntry counts entries) d x e now after) where
          followed : Gathering counts entries d a depth j before after
          followed =
              record {
                long = r.long ∙ g.long;
                grows = λ y t. r.grows y (g.grows y t);
                here = λ l. r.grows a (g.here l);
                only = λ y t. ⊎_elim
                    (λ (u : member now y ≡ true). g.only y u)
                    (λ (u : Leads (SupportEntry counts entries) x y).
                    inr (leads-first (subst (λ z. SupportEntry counts entries a z) (sym is-entry) step) u))
                    (r.only y t);
                others = λ p f y z t n q s l. ⊎_elim
                    (λ (u : member now y ≡ true). r.grows z (g.others p f y z u n q s l))
                    (λ (u : member now y ≡ false). r.closed is-depth f y z t u s (omega (arith, g.long)))
                    (test (member now y));
                own = λ p f k l c i. r.grows _ (g.own p f k l c i);
              }

          pub gathering-called : Gathering counts entries d a depth (j + 1) before after
          gathering-called =
              with-entry after followed
              (λ p f i. ap (member after) (sym is-entry) ∙ r.here (omega (arith, g.long, is-entry)))

  -- All entries of a were gathered.
  pub gathering-end :
      (j : ℕ) (now : List Bool) → number counts a ≤ j → Gathering counts entries d a depth j before now
      → Gathers (SupportEntry counts entries) d a depth before now
  gathering-end j now l g =
      record {
        long = g.long;
        grows = g.grows;
        here = g.here;
        only = g.only;
        closed = λ p f x y t n s i. ⊎_elim
            (λ (q : eqb x a ≡ true). (
            let e = eqb-eq x a q in
            let s' : SupportEntry counts entries a y = subst (λ z. SupportEntry counts entries z y) e s in
            subst (λ z. member now z ≡ true) s'.there
            (g.own p f s'.index (omega (arith, s'.counted)) s'.counted
            (omega (arith, s'.there)))))
            (λ (q : eqb x a ≡ false). g.others p f x y t n (λ e. clash (eqb_of x a e) q) s i)
            (test (eqb x a));
      }
