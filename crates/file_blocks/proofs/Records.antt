-- The records of sound pages pass question 19. Assumes nothing.
use Rattle.std.proofs.Common.{◌≡◌, ℕ, zero, suc, ◌+◌, ◌-◌, ◌<◌, ◌≤◌, true, not, ◌&&◌, ltb, leb, ◌↔◌, List, [], ◌∷◌}
use Rattle.std.proofs.Common.{map, length, get_or, replicate, sym, refl, ap, ◌∙◌, subst, ⊎_elim, arith, length-append}
use mathlib.Core.List.Memᴰ
use mathlib.Core.Option.{Option, none, some, none-ne-some, some-injective}
use Rattle.theory.specs.Lists.{◌∈◌, any, Sorted}
use Rattle.theory.specs.Limits.{Limits}
use Rattle.theory.specs.Rules.{all, Ascending, entries, Held, Page, Pages, Program, Rule, same}
use Rattle.theory.specs.Questions.{first_no, is_some, rule_questions, rules, stratified}
use Rattle.theory.specs.Sound.{SoundRules}
use Rattle.theory.proofs.Lists.{and_l, and_r, and-of, any_at, any_of, clash, false-not, not-true, le-leb, leb-le}
use Rattle.theory.proofs.Lists.{lt-ltb, ltb-lt, some_below, unless}
use Rattle.theory.proofs.Rules.{rules-at, rules-of}
use Rattle.theory.proofs.Pages.{held-page}
use Rattle.theory.proofs.Sameness.{same_refl}
use Rattle.theory.proofs.Questions.{first_no-none}
use Rattle.theory.proofs.Cycles.{stratified-iff}
use Rattle.file_blocks.specs.Words.{BYTE, WORD}
use Rattle.file_blocks.specs.Places.{Place, recorded, records, records_from, rule_in}
use Rattle.file_blocks.specs.Questions.{ascends, distinct_rules, pages_with, recorded_on, records_right, right}
use Rattle.file_blocks.proofs.Bytes.{All, all_append, all-every, all_replicate, every-all, Fits}
use Rattle.file_blocks.proofs.Written.{length-padded, padded-rest}
use Rattle.file_blocks.proofs.Pages.{pages-records, rule-recorded}

-- What holds of the record of each page with a rule holds of every record.

later : (F : Place → Type 0) (s t : ℕ) (p : Page) → F (recorded (s + suc t) p) → F (recorded (suc s + t) p)
later F s t p f = (let e : s + suc t ≡ suc s + t = omega arith in subst (λ (z : ℕ). F (recorded z p)) e f)

pub records-all :
    (F : Place → Type 0) (s : ℕ) (B : Pages)
    → ((t : ℕ) (p : Page) → get_or B t none ≡ some p → F (recorded (s + t) p)) → All F (records_from s B)
unfolding records_from
records-all F s [] f = tt
records-all F s (none ∷ B) f = records-all F (suc s) B (λ t p h. later F s t p (f (suc t) p h))
records-all F s (some q ∷ B) f = (
  (let e : s + 0 ≡ s = omega arith in subst (λ (z : ℕ). F (recorded z q)) e (f 0 q refl)),
  records-all F (suc s) B (λ t p h. later F s t p (f (suc t) p h)),
)

pub length-records : (s : ℕ) (B : Pages) → length (records_from s B) ≤ length B
unfolding records_from
length-records s [] = omega arith
length-records s (none ∷ B) = omega (arith, length-records (suc s) B)
length-records s (some p ∷ B) = omega (arith, length-records (suc s) B)

records-ascend : (least s : ℕ) (B : Pages) → least ≤ s → ascends least (map (λ p. p.slot) (records_from s B)) ≡ true
unfolding records_from ascends
records-ascend least s [] l = refl
records-ascend least s (none ∷ B) l = records-ascend least (suc s) B (omega arith)
records-ascend least s (some p ∷ B) l =
    and-of _ _ (le-leb least s l) (records-ascend (suc s) (suc s) B (omega arith))

pub records-rules : (s : ℕ) (B : Pages) → map rule_in (records_from s B) ≡ rules (all B)
unfolding records_from rules
records-rules s [] = refl
records-rules s (none ∷ B) = records-rules (suc s) B
records-rules s (some p ∷ B) = λ i. rule-recorded s p i ∷ records-rules (suc s) B i

-- A rule that is held again behind the first page is the same as the first.
held-again :
    (P : Program) (q : Rule) → (not (any (same q) (rules P)) && distinct_rules (rules P)) ≡ true → (s : ℕ) (r : Rule)
    → some q ≡ some r → Held P s r → ⊥
held-again P q d s r e h =
    let one = some-injective q r e in
    clash (any_of (same q) (rules P) r (rules-of P s r h) (ap (same q) (sym one) ∙ same_refl q))
    (not-true (any (same q) (rules P)) (and_l (not (any (same q) (rules P))) _ d))

-- No two held rules are the same, and so none is held twice.
pub distinct-rules :
    (P : Program) → ((s t : ℕ) (q r : Rule) → Held P s q → Held P t r → same q r ≡ true → s ≡ t)
    → distinct_rules (rules P) ≡ true
unfolding rules distinct_rules
distinct-rules [] f = refl
distinct-rules (none ∷ P) f = distinct-rules P (λ s t q r h i u. (let e = f (suc s) (suc t) q r h i u in omega arith))
distinct-rules (some r ∷ P) f =
    and-of _ _
    (false-not (any (same r) (rules P)) (unless _ (λ t. (
    let w = any_at (same r) (rules P) t in
    let v = rules-at P w.0 w.1 in
    let e = f 0 (suc v.0) r w.0 refl v.1 w.2 in
    omega arith))))
    (distinct-rules P (λ s t q u h i z. (let e = f (suc s) (suc t) q u h i z in omega arith)))

pub distinct-held :
    (P : Program) → distinct_rules (rules P) ≡ true → (s t : ℕ) (r : Rule) → Held P s r → Held P t r → s ≡ t
unfolding rules distinct_rules
distinct-held [] d s t r h i = absurd (none-ne-some r h)
distinct-held (none ∷ P) d zero t r h i = absurd (none-ne-some r h)
distinct-held (none ∷ P) d (suc s) zero r h i = absurd (none-ne-some r i)
distinct-held (none ∷ P) d (suc s) (suc t) r h i = ap suc (distinct-held P d s t r h i)
distinct-held (some q ∷ P) d zero zero r h i = refl
distinct-held (some q ∷ P) d zero (suc t) r h i = absurd (held-again P q d t r h i)
distinct-held (some q ∷ P) d (suc s) zero r h i = absurd (held-again P q d s r i h)
distinct-held (some q ∷ P) d (suc s) (suc t) r h i =
    ap suc (distinct-held P (and_r (not (any (same q) (rules P))) _ d) s t r h i)

-- Numbers that ascend, none below the first: each comes before all that follow.
pub ascends-iff : (least : ℕ) (xs : List ℕ) → (ascends least xs ≡ true)
    ↔ (((x : ℕ) → x ∈ xs → least ≤ x) × Sorted (λ x y. x < y) xs)
unfolding ascends
ascends-iff least [] = ((λ t. ((λ x m. absurd (Memᴰ.not-nil m)), tt)), (λ w. refl))
ascends-iff least (x ∷ xs) =
    let further = ascends-iff (suc x) xs in (
      λ t. (
          let l = leb-le least x (and_l (leb least x) _ t) in
          let w = further.0 (and_r (leb least x) _ t) in (
            λ y m. ⊎_elim
                (λ (e : y ≡ x). omega arith)
                (λ (n : y ∈ xs). (let k = w.0 y n in omega arith))
                (Memᴰ.cases_cons m),
            (w.0, w.1),
          )),
      λ w. and-of (leb least x) _ (le-leb least x (w.0 x (Memᴰ.head refl))) (further.1 w.1),
    )

pub ascends-sorted : (xs : List ℕ) → (ascends 0 xs ≡ true) ↔ Sorted (λ x y. x < y) xs
ascends-sorted xs = ((λ t. ((ascends-iff 0 xs).0 t).1), (λ w. (ascends-iff 0 xs).1 ((λ x m. omega arith), w)))

module _ (limits : Limits) (few : limits.entries ≤ 8) where
  -- A rule that passes 2 has at most eight entries.
  few-entries : (r : Rule) → first_no (rule_questions limits r) ≡ none → length (entries r) ≤ 8
  few-entries r e =
      let one = first_no-none _ _ e in
      let two = first_no-none _ _ one.1 in
      omega (
        arith,
        length-append r.positives r.negatives,
        leb-le (length r.positives + length r.negatives) limits.entries two.0,
        few,
      )

  -- A page whose rule passes 1 to 4, recorded: it has eight entries, its counts and all else fit into their bytes.
  pub recorded-eight : (s : ℕ) (p : Page) → first_no (rule_questions limits p.rule) ≡ none
      → length (recorded s p).entries ≡ 8
  recorded-eight s p e = length-padded 8 (entries p.rule) (few-entries p.rule e)

  pub recorded-counts :
      (s : ℕ) (p : Page) → first_no (rule_questions limits p.rule) ≡ none
      → ((recorded s p).positives < 128) × ((recorded s p).negatives < BYTE)
  recorded-counts s p e =
      let r = p.rule in
      let n = few-entries r e in
      omega (arith, n, length-append r.positives r.negatives)

  pub recorded-fits :
      (s : ℕ) (p : Page) → limits.atoms ≤ WORD → s < WORD → first_no (rule_questions limits p.rule) ≡ none
      → Fits (recorded s p)
  recorded-fits s p a l e =
      let r = p.rule in
      let one = first_no-none _ _ e in
      let two = first_no-none _ _ one.1 in
      let three = first_no-none _ _ two.1 in
      record {
        slot = l;
        head = omega (arith, ltb-lt r.head limits.atoms one.0, a);
        positives = (recorded-counts s p e).0;
        count = recorded-eight s p e;
        entries = all_append _ (entries r) (replicate (8 - length (entries r)) 0)
            (every-all (λ x. x < WORD) (λ x. ltb x limits.atoms)
            (λ x t. omega (arith, ltb-lt x limits.atoms t, a)) (entries r) three.0)
            (all_replicate _ (8 - length (entries r)) 0 (omega arith));
      }

  recorded-right :
      (s : ℕ) (p : Page) → first_no (rule_questions limits p.rule) ≡ none → Ascending p.rule
      → right limits (recorded s p) ≡ true
  unfolding right
  recorded-right s p e a =
      let r = p.rule in
      let one = first_no-none _ _ e in
      let two = first_no-none _ _ one.1 in
      and-of _ _ two.0
      (and-of _ _
      (padded-rest 8 (length r.positives + length r.negatives) (entries r)
      (length-append r.positives r.negatives))
      (ap (λ (q : Rule). not (is_some (first_no (rule_questions limits q)))
      && (ascends 0 q.positives && ascends 0 q.negatives)) (rule-recorded s p)
      ∙ and-of _ _ (ap (λ (o : Option ℕ). not (is_some o)) e)
      (and-of _ _
      ((ascends-sorted r.positives).1 a.positives)
      ((ascends-sorted r.negatives).1 a.negatives))))

  module _ (B : Pages) (sound : SoundRules limits B) where
    pub pages-sound : pages_with limits (records B) ≡ B
    pages-sound =
        ap (λ (n : ℕ). recorded_on limits (replicate n none) (records B)) (sym sound.slots)
        ∙ pages-records limits [] B

    pub records-right : records_right limits (records B) ≡ true
    unfolding records_right
    records-right =
        and-of _ _ (records-ascend 0 0 B (omega arith))
        (and-of _ _
        (all-every (λ p. p.slot < limits.slots) (λ p. ltb p.slot limits.slots) (λ p l. lt-ltb _ _ l) (records B)
        (records-all _ 0 B (λ t p h. omega (arith, some_below B t p h, sound.slots))))
        (and-of _ _
        (all-every (λ p. right limits p ≡ true) (right limits) (λ p e. e) (records B)
        (records-all _ 0 B (λ t p h. (
        let i = held-page B t p h in
        recorded-right (0 + t) p (sound.passes t p.rule i) (sound.ascending t p.rule i)))))
        (and-of _ _
        (ap distinct_rules (records-rules 0 B) ∙ distinct-rules (all B) sound.single)
        (ap (λ (Q : Pages). stratified (all Q)) pages-sound ∙ (stratified-iff (all B)).1 sound.acyclic))))
