-- The records of pages, and the pages of records. Assumes nothing.
use Rattle.std.proofs.Common.{◌≡◌, ℕ, zero, suc, ◌+◌, ◌-◌, ◌<◌, ◌≤◌, true, eqb, leb, List, [], ◌∷◌, ◌++◌, map, length}
use Rattle.std.proofs.Common.{take, drop, set, replicate, sym, refl, ap, ◌∙◌, ap₂, append_assoc, append-nil, arith}
use Rattle.std.proofs.Common.{length-append, length-drop, length-take, take-add}
use mathlib.Core.Option.{Option, none, some}
use lib.ListN.{length-replicate}
use lib.ListN.{replicate-append-replicate}
use lib.Seq.{append_snoc, drop-append_seam, set-append_seam, set_at, take-append_seam}
use Rattle.theory.specs.Lists.{every}
use Rattle.theory.specs.Limits.{Limits}
use Rattle.theory.specs.Rules.{Page, Pages, entries}
use Rattle.theory.proofs.Lists.{and_l, and_r, leb-le}
use Rattle.file_blocks.specs.Words.{padded}
use Rattle.file_blocks.specs.Places.{page_in_place, Place, recorded, records_from, rule_in}
use Rattle.file_blocks.specs.Questions.{ascends, recorded_on}
use Rattle.file_blocks.proofs.Bytes.{All, all_map}
use Rattle.file_blocks.proofs.Written.{padded-back}

-- A page is read as it was recorded: its rule, and its mark.
pub rule-recorded : (s : ℕ) (p : Page) → rule_in (recorded s p) ≡ p.rule
rule-recorded s p =
    let r = p.rule in
    let zs : List ℕ = replicate (8 - length (entries r)) 0 in
    let e : padded 8 (entries r) ≡ r.positives ++ (r.negatives ++ zs) =
    append_assoc r.positives r.negatives zs in
    let a : take (length r.positives) (padded 8 (entries r)) ≡ r.positives =
    ap (take (length r.positives)) e ∙ take-append_seam r.positives (r.negatives ++ zs) in
    let n : take (length r.negatives) (drop (length r.positives) (padded 8 (entries r))) ≡ r.negatives =
    ap (λ (xs : List ℕ). take (length r.negatives) (drop (length r.positives) xs)) e
    ∙ ap (take (length r.negatives)) (drop-append_seam r.positives (r.negatives ++ zs))
    ∙ take-append_seam r.negatives zs in
    λ i. record { head = r.head; positives = a i; negatives = n i }

pub page-recorded : (s : ℕ) (p : Page) → page_in_place (recorded s p) ≡ p
page-recorded s p = λ i. record { rule = rule-recorded s p i; muted = p.muted }

-- A place whose counts are within its eight entries, the others being zero, is recorded as it was read.
pub recorded-back :
    (p : Place) → length p.entries ≡ 8 → p.positives + p.negatives ≤ 8
    → every (eqb 0) (drop (p.positives + p.negatives) p.entries) ≡ true → recorded p.slot (page_in_place p) ≡ p
recorded-back p e l t =
    let xs = p.entries in
    let a : length (take p.positives xs) ≡ p.positives = omega (arith, length-take p.positives xs) in
    let b : length (take p.negatives (drop p.positives xs)) ≡ p.negatives =
    omega (arith, length-take p.negatives (drop p.positives xs), length-drop p.positives xs) in
    let c : padded 8 (take p.positives xs ++ take p.negatives (drop p.positives xs)) ≡ xs =
    ap (padded 8) (sym (take-add p.positives p.negatives xs))
    ∙ padded-back 8 (p.positives + p.negatives) xs e l t in
    λ i. record { slot = p.slot; head = p.head; muted = p.muted; positives = a i; negatives = b i; entries = c i }

-- Records in a row of pages: those in front, then those behind.

pub records-append :
    (s : ℕ) (F B : Pages) → records_from s (F ++ B) ≡ records_from s F ++ records_from (s + length F) B
unfolding records_from
records-append s [] B = (let e : s ≡ s + 0 = omega arith in ap (λ (k : ℕ). records_from k B) e)
records-append s (none ∷ F) B =
    let e : suc s + length F ≡ s + suc (length F) = omega arith in
    records-append (suc s) F B ∙ ap (λ (k : ℕ). records_from (suc s) F ++ records_from k B) e
records-append s (some p ∷ F) B =
    let e : suc s + length F ≡ s + suc (length F) = omega arith in
    ap (λ (ps : List Place). recorded s p ∷ ps)
    (records-append (suc s) F B ∙ ap (λ (k : ℕ). records_from (suc s) F ++ records_from k B) e)

records-free : (s n : ℕ) → records_from s (replicate n none) ≡ []
unfolding records_from
records-free s zero = refl
records-free s (suc n) = records-free (suc s) n

-- One page more in front.
length_more : (F : Pages) (o : Option Page) → length (F ++ (o ∷ [])) ≡ suc (length F)
length_more F o = omega (arith, length-append F (o ∷ []))

-- A record set on a free page: free pages in front of it and behind it.
set-record :
    (F : Pages) (s m : ℕ) (p : Page) → length F ≤ s → s < length F + m
    → set (F ++ replicate m none) s (some p)
    ≡ ((F ++ replicate (s - length F) none) ++ (some p ∷ [])) ++ replicate (m - suc (s - length F)) none
set-record F s m p l u =
    let j = s - length F in
    let k = m - suc j in
    let free : Option Page = none in
    let e : m ≡ j + suc k = omega arith in
    let n : length (F ++ replicate j free) ≡ s =
    omega (arith, length-append F (replicate j free), length-replicate j free) in
    ap (λ (B : Pages). set B s (some p))
    (ap (λ (z : ℕ). F ++ replicate z free) e
    ∙ ap (λ (B : Pages). F ++ B) (sym (replicate-append-replicate j (suc k) free))
    ∙ sym (append_assoc F (replicate j free) (free ∷ replicate k free)))
    ∙ set_at (F ++ replicate j free) free (replicate k free) (some p) s n
    ∙ sym (append_snoc (F ++ replicate j free) (some p) (replicate k free))

length-set-record :
    (F : Pages) (s : ℕ) (p : Page) → length F ≤ s
    → length ((F ++ replicate (s - length F) none) ++ (some p ∷ [])) ≡ suc s
length-set-record F s p l =
    let free : Option Page = none in
    let G = replicate (s - length F) free in
    omega (arith, length_more (F ++ G) (some p), length-append F G, length-replicate (s - length F) free)

records-set :
    (F : Pages) (s : ℕ) (p : Page) → length F ≤ s
    → records_from 0 ((F ++ replicate (s - length F) none) ++ (some p ∷ [])) ≡ records_from 0 F ++ (recorded s p ∷ [])
unfolding records_from
records-set F s p l =
    let free : Option Page = none in
    let j = s - length F in
    let e : 0 + length (F ++ replicate j free) ≡ s =
    omega (arith, length-append F (replicate j free), length-replicate j free) in
    records-append 0 (F ++ replicate j free) (some p ∷ [])
    ∙ ap₂ ◌++◌
    (records-append 0 F (replicate j free)
    ∙ ap (λ (ps : List Place). records_from 0 F ++ ps) (records-free (0 + length F) j) ∙ append-nil (records_from 0 F))
    (ap (λ (z : ℕ). recorded z p ∷ []) e)

module _ (limits : Limits) where
  -- The pages of the records of some pages are these pages.

  pages-more :
      (F B : Pages) (o : Option Page)
      → recorded_on limits ((F ++ (o ∷ [])) ++ replicate (length B) none) (records_from (length (F ++ (o ∷ []))) B)
      ≡ (F ++ (o ∷ [])) ++ B
      → recorded_on limits (F ++ o ∷ replicate (length B) none) (records_from (suc (length F)) B) ≡ F ++ o ∷ B
  pages-more F B o h =
      ap₂ (recorded_on limits) (sym (append_snoc F o (replicate (length B) none)))
      (ap (λ (k : ℕ). records_from k B) (sym (length_more F o)))
      ∙ h ∙ append_snoc F o B

  pub pages-records :
      (F B : Pages) → recorded_on limits (F ++ replicate (length B) none) (records_from (length F) B) ≡ F ++ B
  unfolding records_from recorded_on
  pages-records F [] = refl
  pages-records F (none ∷ B) = pages-more F B none (pages-records (F ++ (none ∷ [])) B)
  pages-records F (some p ∷ B) =
      ap (λ (Q : Pages). recorded_on limits Q (records_from (suc (length F)) B))
      (set-append_seam F none (replicate (length B) none) (some (page_in_place (recorded (length F) p)))
      ∙ ap (λ (q : Page). F ++ some q ∷ replicate (length B) none) (page-recorded (length F) p))
      ∙ pages-more F B (some p) (pages-records (F ++ (some p ∷ [])) B)

  -- The records of the pages of records are the records, if their slots ascend and they are read as recorded.
  pub records-pages :
      (F : Pages) (m : ℕ) (ps : List Place) → ascends (length F) (map (λ p. p.slot) ps) ≡ true
      → All (λ p. p.slot < length F + m) ps → All (λ p. recorded p.slot (page_in_place p) ≡ p) ps
      → records_from 0 (recorded_on limits (F ++ replicate m none) ps) ≡ records_from 0 F ++ ps
  unfolding recorded_on ascends
  records-pages F m [] t a b =
      records-append 0 F (replicate m none)
      ∙ ap (λ (ps : List Place). records_from 0 F ++ ps) (records-free (0 + length F) m)
  records-pages F m (p ∷ ps) t a b =
      let s = p.slot in
      let page = page_in_place p in
      let l = leb-le _ _ (and_l (leb (length F) s) _ t) in
      let F' : Pages = (F ++ replicate (s - length F) none) ++ (some page ∷ []) in
      let k = m - suc (s - length F) in
      let n : length F' ≡ suc s = length-set-record F s page l in
      ap (λ (Q : Pages). records_from 0 (recorded_on limits Q ps)) (set-record F s m page l a.0)
      ∙ records-pages F' k ps
      (ap (λ (z : ℕ). ascends z (map (λ q. q.slot) ps)) n ∙ and_r (leb (length F) s) _ t)
      (all_map (λ q u. omega (arith, a.0)) ps a.1) b.1
      ∙ ap (λ (qs : List Place). qs ++ ps)
      (records-set F s page l ∙ ap (λ (q : Place). records_from 0 F ++ (q ∷ [])) b.0)
      ∙ append_snoc (records_from 0 F) p ps
