-- Numbers and places as bytes: what is written is read, and what is read is written. Assumes nothing.
use Rattle.std.proofs.Common.{◌≡◌, ℕ, zero, suc, ◌+◌, ◌*◌, ◌/◌, ◌%◌, ◌<◌, ◌≤◌, Bool, true, false, eqb, leb, List, []}
use Rattle.std.proofs.Common.{◌∷◌, ◌++◌, length, get_or, take, drop, replicate, sym, refl, ap, ◌∙◌, ap₂, ⊎_elim}
use Rattle.std.proofs.Common.{append_assoc, mod-eq_of_lt, arith, length-append, length-drop, take-add, drop_at}
use native.Mathlib.Nat.{add-mul-div_left, add-mul-mod_self_left}
use Rattle.theory.specs.Lists.{every}
use Rattle.theory.proofs.Lists.{and_l, and-of, and_r, eqb-eq, le-leb, le-or-lt, leb-le, unless}
use Rattle.file_blocks.specs.Words.{BYTE, WORD, word, words, word_at, words_in}
use Rattle.file_blocks.specs.Places.{count_byte, Place, place_bytes, place_numbered}
use Rattle.file_blocks.specs.Files.{places_bytes}
use Rattle.file_blocks.specs.Questions.{places_from}

-- Every entry of a list is so.
module _ {A : Type 0} where
  abbrev pub All : (A → Type 0) → List A → Type 0
  All F [] = Unit {0}
  All F (x ∷ xs) = F x × All F xs

  pub all_map : {F G : A → Type 0} → ((x : A) → F x → G x) → (xs : List A) → All F xs → All G xs
  all_map f [] a = tt
  all_map f (x ∷ xs) a = (f x a.0, all_map f xs a.1)

  pub all_both :
      {F G H : A → Type 0} → ((x : A) → F x → G x → H x) → (xs : List A) → All F xs → All G xs → All H xs
  all_both f [] a b = tt
  all_both f (x ∷ xs) a b = (f x a.0 b.0, all_both f xs a.1 b.1)

  module _ (F : A → Type 0) where
    pub all_take : (n : ℕ) (xs : List A) → All F xs → All F (take n xs)
    all_take zero xs a = tt
    all_take (suc n) [] a = tt
    all_take (suc n) (x ∷ xs) a = (a.0, all_take n xs a.1)

    pub all_drop : (n : ℕ) (xs : List A) → All F xs → All F (drop n xs)
    all_drop zero xs a = a
    all_drop (suc n) [] a = tt
    all_drop (suc n) (x ∷ xs) a = all_drop n xs a.1

    pub all_append : (xs ys : List A) → All F xs → All F ys → All F (xs ++ ys)
    all_append [] ys a b = b
    all_append (x ∷ xs) ys a b = (a.0, all_append xs ys a.1 b)

    pub all_replicate : (n : ℕ) (x : A) → F x → All F (replicate n x)
    all_replicate zero x f = tt
    all_replicate (suc n) x f = (f, all_replicate n x f)

    pub all_get_d : (xs : List A) (i : ℕ) (d : A) → F d → All F xs → F (get_or xs i d)
    all_get_d [] i d f a = f
    all_get_d (x ∷ xs) zero d f a = a.0
    all_get_d (x ∷ xs) (suc i) d f a = all_get_d xs i d f a.1

    pub every-all : (f : A → Bool) → ((x : A) → f x ≡ true → F x) → (xs : List A) → every f xs ≡ true → All F xs
    unfolding every
    every-all f g [] t = tt
    every-all f g (x ∷ xs) t = (g x (and_l (f x) _ t), every-all f g xs (and_r (f x) _ t))

    pub all-every : (f : A → Bool) → ((x : A) → F x → f x ≡ true) → (xs : List A) → All F xs → every f xs ≡ true
    unfolding every
    all-every f g [] a = refl
    all-every f g (x ∷ xs) a = and-of _ _ (g x a.0) (all-every f g xs a.1)

-- Bytes, and numbers of two bytes.

abbrev pub Bytes : List ℕ → Type 0
Bytes bs = All (λ b. b < BYTE) bs

abbrev pub Wide : List ℕ → Type 0
Wide xs = All (λ x. x < WORD) xs

pub zeros : (xs : List ℕ) → every (eqb 0) xs ≡ true → xs ≡ replicate (length xs) 0
unfolding every
zeros [] t = refl
zeros (x ∷ xs) t =
    ap₂ {C = List ℕ} ◌∷◌ (sym (eqb-eq 0 x (and_l (eqb 0 x) _ t))) (zeros xs (and_r (eqb 0 x) _ t))

pub length-words : (xs : List ℕ) → length (words xs) ≡ 2 * length xs
unfolding words
length-words [] = refl
length-words (x ∷ xs) = omega (arith, length-words xs)

pub words-bytes : (xs : List ℕ) → Bytes (words xs)
unfolding words
words-bytes [] = tt
words-bytes (x ∷ xs) = (omega arith, (omega arith, words-bytes xs))

-- A number that fits into two bytes is read from them.
pub read_word : (x : ℕ) → x < WORD → word_at (word x) 0 ≡ x
read_word x l = omega arith

pub read-words : (xs ys : List ℕ) → Wide xs → words_in (length xs) (words xs ++ ys) ≡ xs
unfolding words words_in
read-words [] ys a = refl
read-words (x ∷ xs) ys a = ap₂ {C = List ℕ} ◌∷◌ (read_word x a.0) (read-words xs ys a.1)

-- Two bytes make a number that is written as these bytes.
pub write_word : (x y : ℕ) → x < BYTE → y < BYTE → word (x + BYTE * y) ≡ x ∷ y ∷ []
write_word x y l m =
    let low : (x + BYTE * y) % BYTE ≡ x = add-mul-mod_self_left x BYTE y ∙ mod-eq_of_lt l in
    let high : (x + BYTE * y) / BYTE ≡ y = omega (arith, add-mul-div_left x y {y = BYTE} (omega arith)) in
    λ i. low i ∷ (ap (λ (k : ℕ). k % BYTE) high ∙ mod-eq_of_lt m) i ∷ []

pub write-words : (n : ℕ) (bs : List ℕ) → 2 * n ≤ length bs → Bytes bs → words (words_in n bs) ≡ take (2 * n) bs
unfolding words words_in
write-words zero bs l a = refl
write-words (suc n) [] l a = absurd (omega arith)
write-words (suc n) (x ∷ []) l a = absurd (omega arith)
write-words (suc n) (x ∷ y ∷ bs) l a =
    let s : 2 * suc n ≡ suc (suc (2 * n)) = omega arith in
    rw s (ap₂ ◌++◌ (write_word x y a.0 a.1.0) (write-words n bs (omega arith) a.1.1))

-- A mark and a count of less than 128 are read from their byte, and a byte is that of what is read from it.

no-mark : (b : ℕ) → b < 128 → leb 128 b ≡ false
no-mark b l = unless (leb 128 b) (λ t. (let m = leb-le 128 b t in omega arith))

read-mark : (m : Bool) (n : ℕ) → n < 128 → leb 128 (count_byte m n) ≡ m
read-mark true n l = le-leb 128 (128 + n) (omega arith)
read-mark false n l = no-mark (0 + n) (omega arith)

read_count : (m : Bool) (n : ℕ) → n < 128 → count_byte m n % 128 ≡ n
read_count true n l = omega arith
read_count false n l = omega arith

count_low : (m : Bool) (n : ℕ) → n < 128 → count_byte m n < BYTE
count_low true n l = omega arith
count_low false n l = omega arith

write-count : (b : ℕ) → b < BYTE → count_byte (leb 128 b) (b % 128) ≡ b
write-count b l = ⊎_elim
    (λ (k : 128 ≤ b). ap (λ (m : Bool). count_byte m (b % 128)) (le-leb 128 b k) ∙ omega arith)
    (λ (k : b < 128). ap (λ (m : Bool). count_byte m (b % 128)) (no-mark b k) ∙ omega arith)
    (le-or-lt 128 b)

-- A place: what its bytes hold fits into them.
pub record Fits (p : Place) : Type 0 where
  pub slot : p.slot < WORD
  pub head : p.head < WORD
  pub positives : p.positives < 128
  pub count : length p.entries ≡ 8
  pub entries : Wide p.entries

pub length-place_bytes : (p : Place) → length p.entries ≡ 8 → length (place_bytes p) ≡ 22
length-place_bytes p e = omega (arith, e, length-words p.entries)

pub read-place : (p : Place) (bs : List ℕ) → Fits p → place_numbered (place_bytes p ++ bs) ≡ p
read-place p bs f =
    let s = read_word p.slot f.slot in
    let h = read_word p.head f.head in
    let e : words_in 8 (words p.entries ++ bs) ≡ p.entries =
    ap (λ (n : ℕ). words_in n (words p.entries ++ bs)) (sym f.count)
    ∙ read-words p.entries bs f.entries in
    let m = read-mark p.muted p.positives f.positives in
    let c = read_count p.muted p.positives f.positives in
    λ i. record { slot = s i; head = h i; muted = m i; positives = c i; negatives = p.negatives; entries = e i }

pub write-place : (bs : List ℕ) → 22 ≤ length bs → Bytes bs → place_bytes (place_numbered bs) ≡ take 22 bs
write-place [] l w = absurd (omega arith)
write-place (a ∷ []) l w = absurd (omega arith)
write-place (a ∷ b ∷ []) l w = absurd (omega arith)
write-place (a ∷ b ∷ c ∷ []) l w = absurd (omega arith)
write-place (a ∷ b ∷ c ∷ d ∷ []) l w = absurd (omega arith)
write-place (a ∷ b ∷ c ∷ d ∷ p ∷ []) l w = absurd (omega arith)
write-place (a ∷ b ∷ c ∷ d ∷ p ∷ n ∷ bs) l w =
    let x = w.1.1 in
    ap₂ ◌++◌ (write_word a b w.0 w.1.0)
    (ap₂ ◌++◌ (write_word c d x.0 x.1.0)
    (ap₂ (λ (y : ℕ) (ys : List ℕ). y ∷ n ∷ ys) (write-count p x.1.1.0)
    (write-words 8 bs (omega arith) x.1.1.1.1)))

-- Places one behind the other.

pub length-places_bytes :
    (ps : List Place) → All (λ p. length p.entries ≡ 8) ps → length (places_bytes ps) ≡ 22 * length ps
unfolding places_bytes
length-places_bytes [] a = refl
length-places_bytes (p ∷ ps) a =
    let n = length-place_bytes p a.0 in
    omega (arith, n, length-append (place_bytes p) (places_bytes ps), length-places_bytes ps a.1)

pub places_bytes-bytes :
    (ps : List Place) → All (λ p. (p.positives < 128) × (p.negatives < BYTE)) ps → Bytes (places_bytes ps)
unfolding places_bytes
places_bytes-bytes [] a = tt
places_bytes-bytes (p ∷ ps) a =
    let c = count_low p.muted p.positives a.0.0 in
    all_append _ (place_bytes p) (places_bytes ps)
    (omega arith, (omega arith, (omega arith, (omega arith, (c, (a.0.1, words-bytes p.entries))))))
    (places_bytes-bytes ps a.1)

pub read-places : (ps : List Place) (bs : List ℕ) → All Fits ps → places_from (length ps) (places_bytes ps ++ bs) ≡ ps
unfolding places_bytes places_from
read-places [] bs a = refl
read-places (p ∷ ps) bs a =
    let qs = places_bytes ps ++ bs in
    ap (places_from (suc (length ps))) (append_assoc (place_bytes p) (places_bytes ps) bs)
    ∙ ap₂ {C = List Place} ◌∷◌ (read-place p qs a.0)
    (ap (places_from (length ps)) (drop_at (place_bytes p) qs 22 (length-place_bytes p a.0.count))
    ∙ read-places ps bs a.1)

pub write-places :
    (k : ℕ) (bs : List ℕ) → 22 * k ≤ length bs → Bytes bs → places_bytes (places_from k bs) ≡ take (22 * k) bs
unfolding places_bytes places_from
write-places zero bs l a = refl
write-places (suc k) bs l a =
    let e : 22 + 22 * k ≡ 22 * suc k = omega arith in
    ap₂ ◌++◌ (write-place bs (omega arith) a)
    (write-places k (drop 22 bs) (omega (arith, length-drop 22 bs)) (all_drop _ 22 bs a))
    ∙ sym (take-add 22 (22 * k) bs) ∙ ap (λ (n : ℕ). take n bs) e
