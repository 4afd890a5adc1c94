-- The call at a place of the list, by what stands there. Assumes nothing.
use Prim.Native.Nat.{ℕ, zero, suc, ◌+◌, ◌-◌, ◌≤◌, ◌<◌}
use native.Mathlib.Omega.{arith}
use mathlib.Core.Path.{◌≡◌, refl, sym, ◌∙◌, ap, ap₂}
use mathlib.Core.Bool.{Bool, true, false, not, ◌&&◌}
use mathlib.Core.List.{List, [], ◌∷◌}
use mathlib.Core.Option as math
use mathlib.Core.Option.{none, some}
use Rattle.std.specs.Prelude.{Option, Some, None}
use lib.Dec.{eqb, leb}
use lib.ListN.{length, get_or, take, drop}
use Rattle.theory.specs.Rules.{Rule}
use Rattle.theory.specs.Book as book
use Rattle.theory.proofs.Lists.{unless, leb-le, le-leb, and_l, and_r, and-of}
use Rattle.history_words.specs.declared.Next.{Next}
use Rattle.history_words.specs.declared.Next.TheVariants as next
use Rattle.history_words.specs.declared.RuleWords.{RuleWords}
use Rattle.history.specs.Calls.{change}
use Rattle.history_words.specs.Encoding.{Placed, rule_in_words, rule_end, load_at, mute_at, when, in_files}
use Rattle.history_words.specs.Encoding.{placed_rule, placed_load, placed_mute, placed_kind, placed, decode}
use Rattle.history_words.specs.Reading.{rule_between, call_of, Parts, InOrder, ReadAs, FindRule, cut, whole}
use Rattle.history_words.specs.Reading.{NextLoad, NextMute, NextOf}
use Rattle.history_words.specs.Reading.{NextChecklist, neither, opens, sent, skipped, withdrawn}

module _ (ws files : List ℕ) (at : ℕ) where
  pub short : length ws < at + 2 → placed ws files at ≡ none
  unfolding placed
  short l =
      ap (λ (t : Bool). when t (placed_kind ws files at (get_or ws at 0)))
      (unless (leb (at + 2) (length ws)) (λ t. omega (arith, leb-le (at + 2) (length ws) t)))

  pub by_kind : at + 2 ≤ length ws → (k : ℕ) → get_or ws at 0 ≡ k → placed ws files at ≡ placed_kind ws files at k
  unfolding placed
  by_kind l k e =
      ap (λ (t : Bool). when t (placed_kind ws files at (get_or ws at 0))) (le-leb (at + 2) (length ws) l)
      ∙ ap (placed_kind ws files at) e

  -- what a load's places say
  abbrev fits : Bool
  fits = leb (at + 3) (length ws) && in_files files (get_or ws (at + 1) 0) (get_or ws (at + 2) 0)

  pub load_fits :
      at + 3 ≤ length ws → get_or ws (at + 1) 0 ≤ get_or ws (at + 2) 0 → get_or ws (at + 2) 0 ≤ length files
      → placed_load ws files at ≡ some (load_at ws files at)
  unfolding placed_load
  load_fits l o i =
      ap (λ (t : Bool). when t (some (load_at ws files at)))
      (and-of _ _ (le-leb _ _ l) (and-of _ _ (le-leb _ _ o) (le-leb _ _ i)))

  no-load : (fits ≡ true → ⊥) → placed_load ws files at ≡ none
  unfolding placed_load
  no-load f = ap (λ (t : Bool). when t (some (load_at ws files at))) (unless fits f)

  -- Nothing is read.

  pub end_short : length ws < at + 2 → NextOf ws files at None
  end_short l = record { read = sym (short l); order = tt }

  pub load-short : length ws < at + 3 → NextLoad ws files at None
  load-short l = record {
    read = sym (no-load (λ t. omega (arith, leb-le (at + 3) (length ws) (and_l _ _ t))));
    order = tt;
  }

  pub load-backward : get_or ws (at + 2) 0 < get_or ws (at + 1) 0 → NextLoad ws files at None
  load-backward l = record {
    read = sym (no-load (λ t. omega (
      arith,
      leb-le (get_or ws (at + 1) 0) (get_or ws (at + 2) 0) (and_l _ _ (and_r (leb (at + 3) (length ws)) _ t)),
    )));
    order = tt;
  }

  pub load_past : length files < get_or ws (at + 2) 0 → NextLoad ws files at None
  load_past l = record {
    read = sym (no-load (λ t. omega (
      arith,
      leb-le (get_or ws (at + 2) 0) (length files)
          (and_r (leb (get_or ws (at + 1) 0) (get_or ws (at + 2) 0)) _ (and_r (leb (at + 3) (length ws)) _ t)),
    )));
    order = tt;
  }

  -- A removal, a load.

  pub reads-removal :
      at + 2 ≤ length ws → get_or ws at 0 ≡ 0
      → NextOf ws files at (Some (next.Remove (get_or ws (at + 1) 0) (at + 2)))
  reads-removal l e = record { read = sym (by_kind l 0 e); order = l }

  pub reads_load :
      at + 3 ≤ length ws → get_or ws (at + 1) 0 ≤ get_or ws (at + 2) 0 → get_or ws (at + 2) 0 ≤ length files
      → NextLoad ws files at (Some (next.Load (get_or ws (at + 1) 0) (get_or ws (at + 2) 0) (at + 3)))
  reads_load l o i = record { read = sym (load_fits l o i); order = (o, i) }

  -- What another function read, of the kind that stands there.
  pub reads-kind :
      (k : ℕ) (r : Option Next) → at + 2 ≤ length ws → get_or ws at 0 ≡ k
      → ReadAs ws files (placed_kind ws files at k) r → NextOf ws files at r
  reads-kind k r l e N = record { read = N.read ∙ sym (by_kind l k e); order = N.order }

  -- What a kind that is neither 0, 1, 2, 7 nor 8 says, from 9 on nothing.
  pub reads-checklist :
      (r : Option Next) → at + 2 ≤ length ws → (get_or ws at 0 ≡ 0 → ⊥) → (get_or ws at 0 ≡ 1 → ⊥)
      → (get_or ws at 0 ≡ 2 → ⊥) → (get_or ws at 0 ≡ 7 → ⊥) → (get_or ws at 0 ≡ 8 → ⊥)
      → NextChecklist (get_or ws at 0) (get_or ws (at + 1) 0) (at + 2) r → NextOf ws files at r
  reads-checklist r l f g h i j (neither k) = record { read = sym (other (get_or ws at 0) refl k); order = tt }
    where
      other : (k : ℕ) → get_or ws at 0 ≡ k → (3 ≤ get_or ws at 0 → get_or ws at 0 ≤ 6 → ⊥) → placed ws files at ≡ none
      other zero e k = absurd (f e)
      other (suc zero) e k = absurd (g e)
      other (suc (suc zero)) e k = absurd (h e)
      other (suc (suc (suc zero))) e k = absurd (k (omega arith) (omega arith))
      other (suc (suc (suc (suc zero)))) e k = absurd (k (omega arith) (omega arith))
      other (suc (suc (suc (suc (suc zero))))) e k = absurd (k (omega arith) (omega arith))
      other (suc (suc (suc (suc (suc (suc zero)))))) e k = absurd (k (omega arith) (omega arith))
      other (suc (suc (suc (suc (suc (suc (suc zero))))))) e k = absurd (i e)
      other (suc (suc (suc (suc (suc (suc (suc (suc zero)))))))) e k = absurd (j e)
      other (suc (suc (suc (suc (suc (suc (suc (suc (suc n))))))))) e k =
          by_kind l (suc (suc (suc (suc (suc (suc (suc (suc (suc n))))))))) e
  reads-checklist r l f g h i j (opens e) = record { read = sym (by_kind l 3 e); order = l }
  reads-checklist r l f g h i j (sent e) = record { read = sym (by_kind l 4 e); order = l }
  reads-checklist r l f g h i j (skipped e) = record { read = sym (by_kind l 5 e); order = l }
  reads-checklist r l f g h i j (withdrawn e) = record { read = sym (by_kind l 6 e); order = l }

-- A muting: none if it is cut short.
module _ (ws : List ℕ) (at : ℕ) where
  mute-fits : (t : Bool) → leb (at + 3) (length ws) ≡ t → placed_mute ws at ≡ when t (some (mute_at ws at))
  unfolding placed_mute
  mute-fits t e = ap (λ (b : Bool). when b (some (mute_at ws at))) e

  pub mute-whole : at + 3 ≤ length ws → placed_mute ws at ≡ some (mute_at ws at)
  mute-whole l = mute-fits true (le-leb _ _ l)

  pub mute-short : length ws < at + 3 → NextMute ws at None
  mute-short l files = record {
    read = sym (mute-fits false
        (unless (leb (at + 3) (length ws)) (λ t. omega (arith, leb-le (at + 3) (length ws) t))));
    order = tt;
  }

  pub reads-mute :
      at + 3 ≤ length ws
      → NextMute ws at (Some (next.Mute (get_or ws (at + 1) 0) (not (eqb (get_or ws (at + 2) 0) 0)) (at + 3)))
  reads-mute l files = record { read = sym (mute-whole l); order = l }

-- A call of the rule whose head stands at a place: none if the rule is cut short.
module _ (ws : List ℕ) (at : ℕ) (of : Rule → book.Call) where
  abbrev call_of_rule : math.Option Placed
  call_of_rule = some (record { call = change (of (rule_in_words ws at)); behind = rule_end ws at })

  rule_fits : (t : Bool) → leb (rule_end ws at) (length ws) ≡ t → placed_rule ws at of ≡ when t call_of_rule
  unfolding placed_rule
  rule_fits t e = ap (λ (b : Bool). when b call_of_rule) e

  rule-cut : length ws < rule_end ws at → placed_rule ws at of ≡ none
  rule-cut l =
      rule_fits false
      (unless (leb (rule_end ws at) (length ws)) (λ t. omega (arith, leb-le (rule_end ws at) (length ws) t)))

  pub rule-whole : rule_end ws at ≤ length ws → placed_rule ws at of ≡ call_of_rule
  rule-whole l = rule_fits true (le-leb _ _ l)

  pub found-cut : FindRule ws at None → placed_rule ws at of ≡ none
  found-cut (cut l) = rule-cut l

  -- The call of a rule that was found.
  abbrev found_call : RuleWords → math.Option Placed
  found_call w = some (record { call = change (of (rule_between ws w.head w.from w.middle w.to)); behind = w.to })

  pub found-whole :
      (w : RuleWords) → FindRule ws at (Some w)
      → (found_call w ≡ placed_rule ws at of) × Parts (length ws) w.from w.middle w.to
  found-whole w (whole l) =
      let p = get_or ws (at + 1) 0 in
      let n = get_or ws (at + 2) 0 in
      let u : at + 3 + p - (at + 3) ≡ p = omega arith in
      let v : at + 3 + p + n - (at + 3 + p) ≡ n = omega arith in (
        ◌∙◌ {b = call_of_rule}
            (ap₂ (λ (j k : ℕ). some (record {
              call = change (of (record {
                head = get_or ws at 0;
                positives = take j (drop (at + 3) ws);
                negatives = take k (drop (at + 3 + p) ws);
              }));
              behind = at + 3 + p + n;
            })) u v)
            (sym (rule-whole l)),
        (omega arith, omega arith, l),
      )

-- A call of a rule is read.
module _ (ws files : List ℕ) (at place : ℕ) (of : Rule → book.Call)
    (stands : placed ws files at ≡ placed_rule ws place of) where
  pub reads-no-rule : FindRule ws place None → NextOf ws files at None
  reads-no-rule F = record { read = sym (stands ∙ found-cut ws place of F); order = tt }

  pub reads-rule :
      (w : RuleWords) → FindRule ws place (Some w) → (z : Option Next)
      → call_of ws files z ≡ found_call ws place of w → (Parts (length ws) w.from w.middle w.to → InOrder (length ws) (length files) z) → NextOf ws files at z
  reads-rule w F z q o =
      let f = found-whole ws place of w F in
      record { read = q ∙ f.0 ∙ sym stands; order = o f.1 }

-- The calls from a place on: none where no call stands there, else that call and those behind it.

pub decode-over :
    (most : ℕ) (ws files : List ℕ) (at : ℕ) → placed ws files at ≡ none → decode most ws files at ≡ []
decode-over zero ws files at e = unfold decode in refl
decode-over (suc most) ws files at e = unfold decode in (rw (e, decode))

pub decode-next :
    (most : ℕ) (ws files : List ℕ) (at : ℕ) (c : Placed) → placed ws files at ≡ some c
    → decode (suc most) ws files at ≡ c.call ∷ decode most ws files c.behind
unfolding decode
decode-next most ws files at c e = rw (e, decode)
