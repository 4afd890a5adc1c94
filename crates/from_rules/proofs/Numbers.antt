-- A table's numbers for any rules and for whatever their slots are to keep: there are some. Assumes nothing.
use Prim.Native.Nat.{ℕ, zero, suc, ◌*◌, ◌≤◌, ◌<◌}
use native.Mathlib.Omega.{arith}
use native.Mathlib.Decide.{ℕ_discrete}
use mathlib.Core.Path.{◌≡◌, refl, sym, ◌∙◌, ap, ap₂}
use mathlib.Core.List.{List}
use lib.ListN.{length, get_or, set, replicate, length-replicate}
use lib.Seq.{ext_get_or, get_or-set_same, get_or-set_other, length-paste}
use Rattle.theory.specs.Limits.{document}
use Rattle.table.specs.declared.Rule.{Rule}
use Rattle.table.specs.Rules.{past_rule}
use Rattle.table.specs.Words.{width, words, rules_of, depth_at, spoiler_at, rule_words, with_rule, with_kept}
use Rattle.table.proofs.Words.{rules-length, put-rules, kept-length, kept-rules, kept_depth-here, kept_depth-other}
use Rattle.table.proofs.Words.{kept-spoiler-here, kept-spoiler-other}

module _ (rules : List Rule) (depth spoiler : ℕ → ℕ) where
  -- The rules of the first n slots put into the empty table's numbers; then what the first n slots keep.
  put_to : ℕ → List ℕ
  put_to zero = replicate words 0
  put_to (suc n) = with_rule (put_to n) n (get_or rules n past_rule)

  kept_to : ℕ → List ℕ
  kept_to zero = put_to document.slots
  kept_to (suc n) = with_kept (kept_to n) n (depth n) (spoiler n)

  put_next : (n : ℕ) → put_to (suc n) ≡ with_rule (put_to n) n (get_or rules n past_rule)
  put_next n = unfold put_to in refl

  keep-next : (n : ℕ) → kept_to (suc n) ≡ with_kept (kept_to n) n (depth n) (spoiler n)
  keep-next n = unfold kept_to in refl

  pub numbers_for : List ℕ
  numbers_for = kept_to document.slots

  put-length : (n : ℕ) → n ≤ document.slots → length (put_to n) ≡ words
  unfolding put_to
  put-length zero l = length-replicate {A = ℕ} words 0
  put-length (suc n) l =
      let long = put-length n (omega arith) in
      length-paste (put_to n) (width * n) (rule_words (get_or rules n past_rule)) 12 (omega arith) (omega arith) ∙ long

  keep-length : (n : ℕ) → n ≤ document.slots → length (kept_to n) ≡ words
  unfolding kept_to
  keep-length zero l = put-length document.slots (omega arith)
  keep-length (suc n) l = kept-length (kept_to n) n (depth n) (spoiler n) (keep-length n (omega arith)) l

  pub numbers-length : length numbers_for ≡ words
  unfolding numbers_for
  numbers-length = keep-length document.slots (omega arith)

  module _
      (all : (s : ℕ) → s < document.slots → length (get_or rules s past_rule).entries ≡ document.entries)
    where
      put-at :
          (n : ℕ) → n ≤ document.slots → (s : ℕ) → s < n
          → get_or (rules_of (put_to n)) s past_rule ≡ get_or rules s past_rule
      put-at zero l s k = absurd (omega arith)
      put-at (suc n) l s k =
          let r = get_or rules n past_rule in
          let long = put-length n (omega arith) in
          let e = ap rules_of (put_next n) ∙ put-rules (put_to n) n r long l (all n l) in
          ap (λ (rs : List Rule). get_or rs s past_rule) e ∙ elim (ℕ_discrete s n) [
            | yes same ↦ ap (λ (i : ℕ). get_or (set (rules_of (put_to n)) n r) i past_rule) same
                ∙ get_or-set_same (rules_of (put_to n)) n r past_rule (omega (arith, rules-length (put_to n)))
                ∙ ap (λ (i : ℕ). get_or rules i past_rule) (sym same)
            | no other ↦ get_or-set_other (rules_of (put_to n)) n s r past_rule other
                ∙ put-at n (omega arith) s (omega arith)
          ]

      keep-rules : (n : ℕ) → n ≤ document.slots → rules_of (kept_to n) ≡ rules_of (put_to document.slots)
      unfolding kept_to
      keep-rules zero l = refl
      keep-rules (suc n) l =
          kept-rules (kept_to n) n (depth n) (spoiler n) (keep-length n (omega arith)) l ∙ keep-rules n (omega arith)

      pub numbers-rules : length rules ≡ document.slots → rules_of numbers_for ≡ rules
      unfolding numbers_for
      numbers-rules long =
          let w = put_to document.slots in
          keep-rules document.slots (omega arith)
          ∙ ext_get_or past_rule (rules_of w) rules (rules-length w ∙ sym long)
          (λ s l. put-at document.slots (omega arith) s (omega (arith, rules-length w)))

  -- What the first n slots keep is what they are to keep.
  kept_at :
      (n : ℕ) → n ≤ document.slots → (s : ℕ) → s < n
      → (depth_at (kept_to n) s ≡ depth s) × (spoiler_at (kept_to n) s ≡ spoiler s)
  kept_at zero l s k = absurd (omega arith)
  kept_at (suc n) l s k =
      let w = kept_to n in
      let long = keep-length n (omega arith) in
      let here = keep-next n in
      elim (ℕ_discrete s n) [
        | yes same ↦ (
          ap₂ depth_at here same ∙ kept_depth-here w n (depth n) (spoiler n) long l ∙ ap depth (sym same),
          ap₂ spoiler_at here same ∙ kept-spoiler-here w n (depth n) (spoiler n) long l ∙ ap spoiler (sym same),
        )
        | no other ↦ (
            let rest = kept_at n (omega arith) s (omega arith) in (
              ap (λ (v : List ℕ). depth_at v s) here ∙ kept_depth-other w n (depth n) (spoiler n) long l s other
                  ∙ rest.0,
              ap (λ (v : List ℕ). spoiler_at v s) here ∙ kept-spoiler-other w n (depth n) (spoiler n) long l s other
                  ∙ rest.1,
            ))
      ]

  pub numbers-kept :
      (s : ℕ) → s < document.slots → (depth_at numbers_for s ≡ depth s) × (spoiler_at numbers_for s ≡ spoiler s)
  unfolding numbers_for
  numbers-kept = kept_at document.slots (omega arith)
