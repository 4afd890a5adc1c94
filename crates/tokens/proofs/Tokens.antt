-- Laws of `tokens`: what blanks and the bytes of a token do to them, and how many a line can have. Assumes nothing.
use Prim.Native.Nat.{ℕ, suc, ◌+◌, ◌-◌, ◌*◌, ◌≤◌}
use native.Mathlib.Omega.{arith}
use mathlib.Core.Path.{◌≡◌, refl, sym, ◌∙◌, ap}
use mathlib.Core.Bool.{Bool, true, false}
use mathlib.Core.List.{List, [], ◌∷◌}
use lib.ListN.{length, take, drop, get_or, length-drop}
use lib.Seq.{drop-drop}
use borrow.Author.Tests.{eq-eqb, ne_eqb, leb-true, leb-false}
use lib.Dec.{eqb, leb, eqb-suc-suc, eqb-zero-suc}
use Rattle.tokens.specs.Tokens.{in_token, onto, pieces, filled, tokens, one}
use Rattle.places.specs.Places.{is_space, leading}
use Rattle.tokens.specs.Parts.{part, first_of, rest_of, empty}
use Rattle.places.proofs.Leading.{leading-within, leading-spent}

-- Blanks in front.

pub tokens-blanks : (s : List ℕ) → tokens (drop (leading is_space s) s) ≡ tokens s
unfolding leading tokens pieces filled
tokens-blanks [] = refl
tokens-blanks (b ∷ s) = go (is_space b) refl (tokens-blanks s)
  where
    go : (t : Bool) → is_space b ≡ t → tokens (drop (leading is_space s) s) ≡ tokens s
        → tokens (drop (leading is_space (b ∷ s)) (b ∷ s)) ≡ tokens (b ∷ s)
    go true t h = rw t h
    go false t h = rw (t, t)

-- A token in front: its bytes are the first piece, and what follows them begins with an empty piece.

record Split (s : List ℕ) : Type 0 where
  more : List (List ℕ)
  whole : pieces s ≡ take (leading in_token s) s ∷ more
  after : pieces (drop (leading in_token s) s) ≡ [] ∷ more

split : (s : List ℕ) → Split s
unfolding leading pieces onto
split [] = record { more = []; whole = refl; after = refl }
split (b ∷ s) = go (is_space b) refl (split s)
  where
    go : (t : Bool) → is_space b ≡ t → Split s → Split (b ∷ s)
    go true t h = record { more = pieces s; whole = rw t; after = rw (t, t) }
    go false t h = record { more = h.more; whole = rw (t, h.whole); after = rw t h.after }

record Front (s : List ℕ) : Type 0 where
  first : take (leading in_token s) s ≡ first_of (tokens s)
  rest : tokens (drop (leading in_token s) s) ≡ rest_of (tokens s)

front : (s : List ℕ) → leading is_space s ≡ 0 → Front s
unfolding leading tokens pieces onto filled
front [] h = record { first = refl; rest = refl }
front (b ∷ s) h = go (is_space b) refl h (split s)
  where
    go : (t : Bool) → is_space b ≡ t → leading is_space (b ∷ s) ≡ 0 → Split s → Front (b ∷ s)
    go true t h w = absurd (let z = rw t at h in omega arith)
    go false t h w = record { first = rw (t, w.whole); rest = rw (t, w.after, w.whole) }

-- The first token from an offset on, and those after it.
module _ (line : List ℕ) (from start end : ℕ) (begins : start ≡ from + leading is_space (drop from line))
    (ends : end ≡ start + leading in_token (drop start line)) where
  at-start : drop start line ≡ drop (leading is_space (drop from line)) (drop from line)
  at-start = rw (begins, drop-drop)

  at-end : drop end line ≡ drop (leading in_token (drop start line)) (drop start line)
  at-end = rw (ends, drop-drop)

  same-tokens : tokens (drop start line) ≡ tokens (drop from line)
  same-tokens = rw at-start (tokens-blanks (drop from line))

  in-front : Front (drop start line)
  in-front = front (drop start line) (rw at-start (leading-spent is_space (drop from line)))

  pub first-token : part line start end ≡ first_of (tokens (drop from line))
  first-token =
      let e : end - start ≡ leading in_token (drop start line) = omega arith in
      rw e (in-front.first ∙ ap first_of same-tokens)

  pub rest-tokens : tokens (drop end line) ≡ rest_of (tokens (drop from line))
  rest-tokens = ap tokens at-end ∙ in-front.rest ∙ ap rest_of same-tokens

-- No token is left where blanks alone are.

pub empty-onto : (b : ℕ) (ps : List (List ℕ)) → empty (filled (onto b ps)) ≡ false
unfolding filled onto
empty-onto b [] = refl
empty-onto b (p ∷ ps) = refl

empty-tokens : (s : List ℕ) → empty (tokens s) ≡ eqb (leading is_space s) (length s)
unfolding leading tokens pieces filled
empty-tokens [] = refl
empty-tokens (b ∷ s) = go (is_space b) refl (empty-tokens s)
  where
    go : (t : Bool) → is_space b ≡ t → empty (tokens s) ≡ eqb (leading is_space s) (length s)
        → empty (tokens (b ∷ s)) ≡ eqb (leading is_space (b ∷ s)) (suc (length s))
    go true t h = rw t (h ∙ sym (eqb-suc-suc (leading is_space s) (length s)))
    go false t h = rw t (empty-onto b (pieces s) ∙ sym (eqb-zero-suc (length s)))

pub empty-from : (line : List ℕ) (from end : ℕ) → end ≡ from + leading is_space (drop from line)
    → leb (length line) end ≡ empty (tokens (drop from line))
empty-from line from end e =
    go (leb (length line) end) refl ∙ sym (empty-tokens (drop from line))
  where
    k : ℕ
    k = leading is_space (drop from line)

    go : (t : Bool) → leb (length line) end ≡ t → leb (length line) end ≡ eqb k (length (drop from line))
    go true t =
        let all = leading-within is_space (drop from line) in
        let here = leb-true (length line) end t in
        t ∙ sym (eq-eqb k (length (drop from line)) (omega (arith, here, all, length-drop from line)))
    go false t =
        let past = leb-false (length line) end t in
        t ∙ sym (ne_eqb k (length (drop from line)) (λ h. omega (arith, past, h, length-drop from line)))

-- Each token but the last has a space after it, so a line of n bytes has at most (n + 1) / 2 tokens.

record Counted (s : List ℕ) : Type 0 where
  head : List ℕ
  tail : List (List ℕ)
  shape : pieces s ≡ head ∷ tail
  bound : 2 * length (filled tail) + length head ≤ length s

filled-bound : (p : List ℕ) (ps : List (List ℕ)) (n : ℕ) → 2 * length (filled ps) + length p ≤ n
    → 2 * length (filled (p ∷ ps)) ≤ suc n
unfolding filled
filled-bound [] ps n h = omega arith
filled-bound (b ∷ p) ps n h = omega arith

counted : (s : List ℕ) → Counted s
unfolding pieces onto filled
counted [] = record { head = []; tail = []; shape = refl; bound = omega arith }
counted (b ∷ s) = go (is_space b) refl (counted s)
  where
    go : (t : Bool) → is_space b ≡ t → Counted s → Counted (b ∷ s)
    go true t w = record {
      head = [];
      tail = w.head ∷ w.tail;
      shape = rw (t, w.shape);
      bound = omega (arith, filled-bound w.head w.tail (length s) w.bound);
    }
    go false t w = record {
      head = b ∷ w.head;
      tail = w.tail;
      shape = rw (t, w.shape);
      bound = omega (arith, w.bound);
    }

pub tokens-bound : (s : List ℕ) → 2 * length (tokens s) ≤ suc (length s)
unfolding tokens
tokens-bound s = let w = counted s in rw w.shape (filled-bound w.head w.tail (length s) w.bound)

-- One byte.

pub one-not : (b : ℕ) (t : List ℕ) → (length t ≡ 1 → ⊥) → false ≡ one b t
unfolding one
one-not b [] h = refl
one-not b (x ∷ []) h = absurd (h refl)
one-not b (x ∷ y ∷ t) h = refl

pub one-is : (b : ℕ) (t : List ℕ) → length t ≡ 1 → eqb (get_or t 0 0) b ≡ one b t
unfolding one
one-is b [] h = absurd (omega arith)
one-is b (x ∷ []) h = refl
one-is b (x ∷ y ∷ t) h = absurd (omega arith)
