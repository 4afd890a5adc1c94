-- The loop that collects numbers, and where they stand among the entries. Assumes nothing.
use Prim.Native.Nat.{ℕ, ◌+◌, ◌≤◌}
use native.Mathlib.Omega.{arith}
use native.Mathlib.Numerals.{add-one}
use mathlib.Core.Path.{◌≡◌, refl, sym, ◌∙◌, ap}
use mathlib.Core.List.{List}
use mathlib.Core.Option.{none, some}
use lib.ListN.{length, set, length-set}
use lib.Seq.{sets}
use Rattle.tokens.specs.Numerals.{numeral}
use Rattle.sheet_lines.specs.Readings.{TOKENS}
use Rattle.tokens.specs.Parts.{first_of, rest_of}
use Rattle.sheet_lines.specs.Parts.{leading_numbers, past_numbers}
use Rattle.sheet_lines.proofs.Commands.{advance, halt}

-- From entries xs₀, k₀ of them read, with ts₀ left, a loop came to xs, k and ts; what is left gives the whole.
pub record Collecting (xs₀ : List ℕ) (k₀ : ℕ) (ts₀ : List (List ℕ)) (xs : List ℕ) (k : ℕ) (ts : List (List ℕ))
    : Type 0 where
  pub size : length xs ≡ TOKENS
  pub room : k + length ts ≤ TOKENS
  pub entries : sets xs k (leading_numbers ts) ≡ sets xs₀ k₀ (leading_numbers ts₀)
  pub count : k + length (leading_numbers ts) ≡ k₀ + length (leading_numbers ts₀)
  pub rest : past_numbers ts ≡ past_numbers ts₀

module _ (xs₀ : List ℕ) (k₀ : ℕ) (ts₀ : List (List ℕ)) where
  pub collect-start : length xs₀ ≡ TOKENS → k₀ + length ts₀ ≤ TOKENS → Collecting xs₀ k₀ ts₀ xs₀ k₀ ts₀
  collect-start l r = record { size = l; room = r; entries = refl; count = refl; rest = refl }

  module _ (xs : List ℕ) (k : ℕ) (ts : List (List ℕ)) (c : Collecting xs₀ k₀ ts₀ xs k ts) where
    pub collect-next : (n : ℕ) (us : List (List ℕ)) → numeral (first_of ts) ≡ some n → us ≡ rest_of ts
        → Collecting xs₀ k₀ ts₀ (set xs k n) (k + 1) us
    collect-next n us e u =
        let a = advance ts n e in
        rw u (record {
          size = length-set xs k n ∙ c.size;
          room = omega (arith, a.shorter, c.room);
          entries = rw (add-one k) (sym (ap (sets xs k) a.numbers) ∙ c.entries);
          count = omega (arith, ap length a.numbers, c.count);
          rest = sym a.past ∙ c.rest;
        })

    pub collect-entries : numeral (first_of ts) ≡ none → xs ≡ sets xs₀ k₀ (leading_numbers ts₀)
    collect-entries e = sym (ap (sets xs k) (halt ts e).numbers) ∙ c.entries

    pub collect-count : numeral (first_of ts) ≡ none → k ≡ k₀ + length (leading_numbers ts₀)
    collect-count e = omega (arith, ap length (halt ts e).numbers, c.count)

    pub collect-rest : numeral (first_of ts) ≡ none → ts ≡ past_numbers ts₀
    collect-rest e = sym (halt ts e).past ∙ c.rest
