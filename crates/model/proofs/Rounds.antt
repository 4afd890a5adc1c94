-- The rounds of a layer, as a loop makes them, and the layers, one after another. Assumes nothing.
use Rattle.std.proofs.Common.{◌≡◌, ℕ, suc, ◌+◌, ◌<◌, ◌≤◌, Bool, true, false, List, [], ◌∷◌, length, get_or, set, replicate, sym, refl, ap, ◌∙◌, subst, ⊎_elim, eq-or-lt_of_le, add-one, arith, length-set}
use mathlib.Core.Path.{fun_ext}
use mathlib.Core.List.Memᴰ
use mathlib.Core.Option.{none, some}
use lib.ListN.{length-replicate}
use Rattle.theory.specs.Rules.{all, Bounded, Pages, Program}
use Rattle.theory.specs.Models.{AtomSet}
use Rattle.theory.specs.Dependencies.{NegativeCycle, Stratum}
use Rattle.theory.specs.Questions as questions
use Rattle.theory.specs.Limits.{document}
use Rattle.theory.specs.Rounds.{adds, again, final, next_stratum, nothing, Rounds, RoundsOf, RoundsTold}
use Rattle.theory.specs.Rounds.{no_stratum, of_stratum, sweep}
use Rattle.theory.proofs.Lists.{count-length, le-or-lt}
use Rattle.theory.proofs.Strata.{exact-strata, few-negatives, Strata, strata-acyclic, stratum-below, stratum-unique}
use Rattle.theory.proofs.Pages.{active-bounded, strata-active}
use Rattle.theory.proofs.Fill.{Filled}
use Rattle.theory.proofs.Rounds.{adds_none, sweep-stays}
use Rattle.theory.proofs.Found.{heads_in, adds-more-heads}
use Rattle.theory.proofs.Models.{found-model}
use Rattle.table.specs.declared.Rule.{Rule}
use Rattle.table.specs.Rules.{active_in, active_of, book_of, past_rule}
use Rattle.table.specs.Sets.{member, number}
use Rattle.table.proofs.Members.{all_alike, number_same, number-other}
use Rattle.table.proofs.Programs.{active-length, active-place, program-length}
use Rattle.model.specs.Model.{Stratified, Searched}
use Rattle.model.specs.Rounds.{Ready, Filling, HighestOf}
use Rattle.model.proofs.Visits.{HeadBelow, Round}

-- No more rules than slots.
pub few-rules : (P : Program) → length (questions.rules P) ≤ length P
unfolding questions.rules
few-rules [] = omega arith
few-rules (none ∷ P) = omega (arith, few-rules P)
few-rules (some r ∷ P) = omega (arith, few-rules P)

-- The rounds made so far: each of them added, so that one more rule has its head in; and with those that are still to
-- be made they are the rounds of the layer from the set M₀ on.
pub record Going (P : Program) (ℓ : ℕ → ℕ) (k : ℕ) (M₀ M : AtomSet) (made : ℕ) : Type 0 where
  pub few : made ≤ heads_in P M
  pub filled : Filled P ℓ k M
  pub whole : (n : ℕ) (N : AtomSet) → Rounds P ℓ k M n N → Rounds P ℓ k M₀ (made + n) N

module _ (P : Program) (ℓ : ℕ → ℕ) (k : ℕ) (M₀ : AtomSet) where
  pub going_start : Filled P ℓ k M₀ → Going P ℓ k M₀ M₀ 0
  going_start F = record {
    few = omega arith;
    filled = F;
    whole = λ n N R. (let e : 0 + n ≡ n = omega arith in rw e R);
  }

  module _ (M : AtomSet) (made : ℕ) (G : Going P ℓ k M₀ M made) where
    -- Rounds that add are no more than the rules.
    pub going-few : made ≤ length (questions.rules P)
    going-few = omega (arith, G.few, count-length (λ r. M r.head) (questions.rules P))

    -- A round that adds leaves the rest to do.
    pub going_next : Strata P ℓ → adds ℓ k M P ≡ true → Going P ℓ k M₀ (sweep ℓ k M P) (made + 1)
    going_next L h = record {
      few = omega (arith, G.few, adds-more-heads P ℓ L k M G.filled h);
      filled = sweep-stays P ℓ L k M G.filled;
      whole = λ n N R. (let e : (made + 1) + n ≡ made + suc n = omega arith in rw e (G.whole (suc n) N (again h R)));
    }

    -- A round that adds none is the last, and leaves the set.
    pub going_end : adds ℓ k M P ≡ false → Rounds P ℓ k M₀ (made + 1) (sweep ℓ k M P)
    going_end h = rw (adds_none ℓ k P M h) (G.whole 1 M (final h))

-- The same of a table's slots and of arrays of flags.

pub room_of : (rules : List Rule) (n : ℕ) → length rules ≡ n → length (questions.rules (active_of rules)) < suc n
room_of rules n e = omega (arith, few-rules (active_of rules), active-length rules)

-- The strata of all rules held are strata of the unmuted ones.
pub strata-given : (rules : List Rule) (ℓ : ℕ → ℕ) → Stratified (book_of rules) ℓ → Strata (active_of rules) ℓ
strata-given rules ℓ S = strata-active (book_of rules) ℓ (exact-strata (all (book_of rules)) ℓ S.exact)

-- The head of a slot's rule is below the limit n, where all atoms of the program are.
pub head-below : (rules : List Rule) (n i : ℕ) (r : Rule) → r ≡ get_or rules i past_rule → Bounded (all (book_of rules)) n
    → HeadBelow (active_in r) n
head-below rules n i r read b q e =
    active-bounded (book_of rules) n b i q (active-place rules i ∙ ap active_in (sym read) ∙ e) q.head
    (Memᴰ.head refl)

module _ (rules : List Rule) (ℓ : ℕ → ℕ) (k : ℕ) (M₀ : AtomSet) (found after : List Bool) (made : ℕ) (t : Bool)
    (G : Going (active_of rules) ℓ k M₀ (member found) made) (R : Round ℓ k rules found after t) where
  pub stratum-next : Strata (active_of rules) ℓ → t ≡ true → Going (active_of rules) ℓ k M₀ (member after) (made + 1)
  stratum-next L e = rw R.whole (going_next (active_of rules) ℓ k M₀ (member found) made G L (sym R.more ∙ e))

  pub stratum-end : t ≡ false → Rounds (active_of rules) ℓ k M₀ (made + 1) (member after)
  stratum-end e = rw R.whole (going_end (active_of rules) ℓ k M₀ (member found) made G (sym R.more ∙ e))

-- The layers, one after another.

-- At the start no atom is found.
none_found : (n : ℕ) → member (replicate n false) ≡ (λ a. false)
none_found n = fun_ext (λ a. all_alike n a false)

-- Of each layer below k it is kept how many rounds it has; nothing is kept of the others.
pub record RoundsKept (B : Pages) (k : ℕ) (rounds : List ℕ) : Type 0 where
  pub below : (j : ℕ) → j < k → RoundsOf B j (number rounds j)
  pub others : (j : ℕ) → k ≤ j → number rounds j ≡ 0

pub kept-start : (B : Pages) (n : ℕ) → RoundsKept B 0 (replicate n 0)
kept-start B n = record { below = λ j l. absurd (omega arith); others = λ j l. all_alike n j 0 }

pub kept_next : (B : Pages) (k n : ℕ) (rounds : List ℕ) → k < length rounds → RoundsOf B k n → RoundsKept B k rounds
    → RoundsKept B (k + 1) (set rounds k n)
kept_next B k n rounds l R C = record {
  below = λ j m. ⊎_elim
      (λ (e : suc j ≡ k + 1). (let j-is : j ≡ k = omega arith in
      subst (λ (z : ℕ). RoundsOf B z (number (set rounds k n) z)) (sym j-is) (rw (number_same rounds k n l) R)))
      (λ (e : suc j < k + 1). rw (number-other rounds k n j (λ q. omega arith)) (C.below j (omega arith)))
      (eq-or-lt_of_le m);
  others = λ j m. number-other rounds k n j (λ q. omega arith) ∙ C.others j (omega arith);
}

-- The highest layer, and that there is room for it.
module _ (B : Pages) (ℓ : ℕ → ℕ) (exact : (a : ℕ) → Stratum (all B) a (ℓ a)) (top : ℕ) (T : HighestOf ℓ top) where
  acyclic : NegativeCycle (all B) → ⊥
  acyclic = strata-acyclic (all B) ℓ (exact-strata (all B) ℓ exact)

  pub few-strata : top ≤ length (questions.rules (all B))
  few-strata = omega (arith, few-negatives (all B) acyclic (exact T.atom).path, T.there)

  pub kept-told : (rounds : List ℕ) → RoundsKept B (top + 1) rounds → (k : ℕ) → RoundsTold B k (number rounds k)
  kept-told rounds C k = ⊎_elim
      (λ (l : k ≤ top). (
      let b = stratum-below (all B) acyclic T.atom _ k (exact T.atom) (omega (arith, T.there)) in
      of_stratum b.0 b.1 (C.below k (omega arith))))
      (λ (l : top < k). rw (C.others k (omega arith))
      (no_stratum (λ a S. omega (arith, T.above a, stratum-unique (all B) a (ℓ a) k (exact a) S))))
      (le-or-lt k top)

-- Before layer k, where top is the highest: those below it have ended, their rounds are kept, and there is room for
-- those of all layers.
pub record Between (B : Pages) (ℓ : ℕ → ℕ) (top k : ℕ) (found : List Bool) (rounds : List ℕ) : Type 0 where
  pub ready : Ready B ℓ k found
  pub kept : RoundsKept B k rounds
  pub long : length rounds ≡ suc document.slots
  pub high : k ≤ top

module _ (rules : List Rule) (ℓ : ℕ → ℕ) (S : Stratified (book_of rules) ℓ) (top : ℕ) (T : HighestOf ℓ top) where
  pub between_start :
      (n m : ℕ) → n ≡ document.atoms → m ≡ suc document.slots
      → Between (book_of rules) ℓ top 0 (replicate n false) (replicate m 0)
  between_start n m e f = record {
    ready = record {
      stratified = S;
      below = rw (none_found n) nothing;
      size = length-replicate n false ∙ e;
    };
    kept = kept-start (book_of rules) m;
    long = length-replicate m 0 ∙ f;
    high = omega arith;
  }

  -- no layer has a number above that of the slots
  pub stratum-room : length rules ≡ document.slots → top < suc document.slots
  stratum-room full = omega
      (arith, few-strata (book_of rules) ℓ S.exact top T, few-rules (all (book_of rules)), program-length rules)

  module _ (full : length rules ≡ document.slots) (k : ℕ) (before after : List Bool) (rounds : List ℕ) (n : ℕ)
      (Y : Between (book_of rules) ℓ top k before rounds) (F : Filling (active_of rules) ℓ k before after n) where
    ready-next : Ready (book_of rules) ℓ (k + 1) after
    ready-next = record {
      stratified = S;
      below = rw add-one (next_stratum Y.ready.below F.rounds);
      size = F.size ∙ Y.ready.size;
    }

    kept_then : RoundsKept (book_of rules) (k + 1) (set rounds k n)
    kept_then = kept_next (book_of rules) k n rounds (omega (arith, stratum-room full, Y.long, Y.high))
        (record {
          stratum = ℓ;
          exact = S.exact;
          before = member before;
          after = member after;
          below = Y.ready.below;
          rounds = F.rounds;
        })
        Y.kept

    -- below the highest layer there is a next one
    pub between_next : k < top → Between (book_of rules) ℓ top (k + 1) after (set rounds k n)
    between_next l = record {
      ready = ready-next;
      kept = kept_then;
      long = length-set rounds k n ∙ Y.long;
      high = omega arith;
    }

    -- after the highest all is found and told
    pub between-end :
        (hint : List ℕ) → top ≤ k
        → Searched (book_of rules) (record { found = after; rounds = set rounds k n; order = hint })
    between-end hint l =
        let e : k ≡ top = omega (arith, Y.high) in
        let L = strata-given rules ℓ S in
        record {
          model = found-model (active_of rules) ℓ L ready-next.below (λ s r h. omega (arith, T.above r.head));
          rounds = kept-told (book_of rules) ℓ S.exact top T (set rounds k n)
              (subst (λ (z : ℕ). RoundsKept (book_of rules) (z + 1) (set rounds k n)) e kept_then);
        }
