-- What request #104 asks to be shown, of the answer of `in_atoms`: which layers there are, and what the number of
-- rounds of each lies between. Assumes nothing.
use Rattle.std.proofs.Common.{◌≡◌, ℕ, suc, ◌≤◌, true, ◌↔◌}
use Rattle.theory.specs.Rules.{all, Pages}
use Rattle.theory.specs.Dependencies.{NegativeCycle, Stratum}
use Rattle.theory.specs.Rounds.{GreatestDepth, RoundsWithin}
use Rattle.theory.proofs.Strata.{lowest-stratum, stratum-below}
use Rattle.theory.proofs.Labels.{one-model}
use Rattle.theory.proofs.Bounds.{greatest-unique, told-stratum, told-unique, told-within}
use Rattle.table.specs.Sets.{member, number}
use Rattle.model.specs.declared.Search.{Search}
use Rattle.model.specs.Model.{Searched}

module _ (B : Pages) (r : Search) (R : Searched B r) where
  -- The bounds, whole: of each layer k, that is where an atom a has the stratum k.
  pub rounds-shown : (a k : ℕ) → Stratum (all B) a k → RoundsWithin B (member r.found) k (number r.rounds k)
  rounds-shown a k S = told-within B (member r.found) R.model a k (number r.rounds k) S (R.rounds k)

  -- A layer has at least one round.
  pub one-round : (a k : ℕ) → Stratum (all B) a k → 1 ≤ number r.rounds k
  one-round a k S = (rounds-shown a k S).one

  -- It has two where an atom of it is in.
  pub two-rounds : (a k : ℕ) → Stratum (all B) a k → member r.found a ≡ true → 2 ≤ number r.rounds k
  two-rounds a k S t = (rounds-shown a k S).two a S t

  -- It has at most the greatest depth of its in atoms plus 1.
  pub depth-rounds :
      (a k d : ℕ) → Stratum (all B) a k → GreatestDepth B (member r.found) k d → number r.rounds k ≤ suc d
  depth-rounds a k d S G =
      let W = rounds-shown a k S in
      rw (greatest-unique G W.greatest) W.most

  -- Rounds are told of the layers alone, and of each: none is without an atom of its own.
  pub strata-told : (k : ℕ) → (1 ≤ number r.rounds k) ↔ ((a : ℕ) × Stratum (all B) a k)
  strata-told k = told-stratum B k (number r.rounds k) (R.rounds k)

  -- They are numbered from 0 on without a gap.
  module _ (free : NegativeCycle (all B) → ⊥) where
    pub lowest-told : 1 ≤ number r.rounds 0
    lowest-told = (strata-told 0).1 (lowest-stratum (all B) free)

    pub strata-below : (j k : ℕ) → j ≤ k → 1 ≤ number r.rounds k → 1 ≤ number r.rounds j
    strata-below j k l h =
        let w = (strata-told k).0 h in
        (strata-told j).1 (stratum-below (all B) free w.0 k j w.1 l)

-- Two answers that the contract allows tell the same atoms and the same rounds.
pub search-determined :
    (B : Pages) → (NegativeCycle (all B) → ⊥) → (r q : Search) → Searched B r → Searched B q
    → ((a : ℕ) → member r.found a ≡ member q.found a)
    × ((k : ℕ) → number r.rounds k ≡ number q.rounds k)
search-determined B free r q R Q = (
  one-model B free (member r.found) (member q.found) R.model Q.model,
  (λ k. told-unique B k (number r.rounds k) (number q.rounds k) (R.rounds k) (Q.rounds k)),
)
