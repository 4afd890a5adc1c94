-- What request #107 asks to be shown, of what the calls answer and hand back. (That the table without the old rule has
-- a free slot stands with the questions: crates/theory/proofs/Replacing.antt, `free-left`, `never-full`.) Assumes
-- nothing.
use Rattle.std.specs.Prelude.{Ok, Err}
use Prim.Native.Nat.{ℕ}
use mathlib.Core.Path.{◌≡◌, refl, sym, ◌∙◌, ap, ap₂, subst}
use mathlib.Core.Bool.{true, false}
use mathlib.Core.Option.{Option, none, some, some-injective}
use lib.ListN.{get_or, set}
use lib.Seq.{set-get_or, set-set}
use Rattle.theory.specs.Lists.{every}
use Rattle.theory.specs.Rules.{Page, Pages, Program, Rule, all, Held, new_page, same}
use Rattle.theory.specs.Questions.{first_no, rule_questions, add_questions, replace_questions, lowest_free}
use Rattle.theory.specs.Limits.{document}
use Rattle.theory.proofs.Questions.{never-refused}
use Rattle.theory.proofs.Pages.{all_set, held-page, page-held, set_mark}
use Rattle.theory.proofs.Replacing.{slot-first, judged-as-added, back_passes, kept-old}
use Rattle.theory.proofs.Sameness.{same_refl}
use Rattle.table.specs.declared.Slot.{Slot}
use Rattle.table.specs.declared.Table.{Table}
use Rattle.table.specs.Labels.{label_at}
use Rattle.table.specs.Sound.{Sound}
use Rattle.refusals.specs.declared.Refusal.{Refusal}
use Rattle.refusals.specs.declared.Refusal.TheVariants as refusal
use Rattle.calls.specs.Answers.{AddAnswer, ChangeAnswer}
use Rattle.refusals.specs.Refusals.{number_of}
use Rattle.calls.specs.Ends as contract
use Rattle.calls.specs.Ends.{held, Sized, AddEnds, RemoveEnds, ReplaceEnds, MuteEnds}
use Rattle.calls.proofs.OneTable.{table-unique}
use Rattle.calls.proofs.Determined.{refusal-unique, both}

-- No replacement is refused by 6: it is not asked. That it need not be is `free-left` (crates/theory/proofs/Replacing).
pub not_full : (t u : Table) (s : ℕ) (r : Rule) → ReplaceEnds t s r (Err refusal.TableFull) u → ⊥
unfolding every
not_full t u s r (contract.refused f S e) = never-refused 6 (replace_questions document (all (held t)) s r) refl e

-- Refused, the table is as it came, old rule included: every label is left.

pub refused-keeps : (t u : Table) (s : ℕ) (r : Rule) (f : Refusal) → ReplaceEnds t s r (Err f) u → u ≡ t
refused-keeps t u s r f (contract.unsound n) = refl
refused-keeps t u s r f (contract.refused g S e) = refl

pub refused-keeps-labels :
    (t u : Table) (s : ℕ) (r : Rule) (f : Refusal) → ReplaceEnds t s r (Err f) u → (a : ℕ)
    → label_at u.words a ≡ label_at t.words a
refused-keeps-labels t u s r f E a = ap (λ (w : Table). label_at w.words a) (refused-keeps t u s r f E)

-- The new rule is judged against the table without the old one: as the addition to the table that the removal leaves.
pub judged-without :
    (t v : Table) (s : ℕ) (r : Rule) → RemoveEnds t s (Ok tt) v
    → first_no (replace_questions document (all (held t)) s r) ≡ first_no (add_questions document (all (held v)) r)
judged-without t v s r (contract.accepted w S d Z h U) =
    judged-as-added document (all (held t)) s d r
    ∙ ap (λ (P : Program). first_no (add_questions document P r)) (sym (all_set (held t) s none) ∙ ap all (sym h))

-- A removal that is refused: the replacement is refused by the same.
pub refused-as-removed :
    (t u v : Table) (s : ℕ) (r : Rule) (f : Refusal) (x : ChangeAnswer) → RemoveEnds t s (Err f) v
    → ReplaceEnds t s r x u → x ≡ Err f
unfolding every
refused-as-removed t u v s r f x (contract.unsound n) (contract.unsound m) = refl
refused-as-removed t u v s r f x (contract.unsound n) (contract.refused g S e) = absurd (n S)
refused-as-removed t u v s r f x (contract.unsound n) (contract.accepted w S e Z h U) = absurd (n S)
refused-as-removed t u v s r f x (contract.refused g S d) (contract.unsound n) = absurd (n S)
refused-as-removed t u v s r f x (contract.refused g S d) (contract.refused k T e) =
    ap Err (refusal-unique (replace_questions document (all (held t)) s r) refl k g e
    (slot-first document (all (held t)) s r _ d))
refused-as-removed t u v s r f x (contract.refused g S d) (contract.accepted w T e Z h U) =
    absurd (both _ _ (slot-first document (all (held t)) s r _ d) e)

-- A removal that is accepted: the replacement is accepted if the addition to what it leaves is, and refused as that is.

pub accepted-as-two :
    (t u v w : Table) (s : ℕ) (r : Rule) (l : Slot) (x : ChangeAnswer) → RemoveEnds t s (Ok tt) v
    → AddEnds v r (Ok l) w → ReplaceEnds t s r x u → x ≡ Ok tt
accepted-as-two t u v w s r l x (contract.accepted z S d Z h U) A (contract.unsound n) = absurd (n S)
accepted-as-two t u v w s r l x (contract.accepted z S d Z h U) (contract.accepted k b W j low X i B)
    (contract.refused g T e) =
    absurd (both _ _ (sym (judged-without t z s r (contract.accepted z S d Z h U)) ∙ e) j)
accepted-as-two t u v w s r l x (contract.accepted z S d Z h U) A (contract.accepted o T e Y i O) = refl

pub refused-as-added :
    (t u v w : Table) (s : ℕ) (r : Rule) (f : Refusal) (x : AddAnswer) → ReplaceEnds t s r (Err f) u
    → RemoveEnds t s (Ok tt) v → AddEnds v r x w → x ≡ Err f
unfolding every
refused-as-added t u v w s r f x (contract.unsound n) (contract.accepted _ S d Z h U) A = absurd (n S)
refused-as-added t u v w s r f x (contract.refused g T e) (contract.accepted z S d Z h U) A = go A
  where
    refusal-there : first_no (add_questions document (all (held z)) r) ≡ some (number_of g)
    refusal-there = sym (judged-without t z s r (contract.accepted z S d Z h U)) ∙ e

    go : {y : AddAnswer} {o : Table} → AddEnds z r y o → y ≡ Err g
    go (contract.unsound n) = absurd (n U)
    go (contract.refused k W i) =
        ap Err (refusal-unique (add_questions document (all (held z)) r) refl k g i refusal-there)
    go (contract.accepted l o W i low Y j O) = absurd (both _ _ refusal-there i)

-- Where the slot is the lowest free one after the removal, replacing is removing and adding: the addition takes that
-- slot, and the tables are the same in every field.
pub replaced-as-two :
    (t u v w : Table) (s : ℕ) (r : Rule) (x : AddAnswer) → ReplaceEnds t s r (Ok tt) u
    → RemoveEnds t s (Ok tt) v → AddEnds v r x w → lowest_free (set (all (held t)) s none) ≡ some s
    → (x ≡ Ok (record { 0 = s })) × (w ≡ u)
replaced-as-two t u v w s r x (contract.accepted o T e Y i O) (contract.accepted z S d Z h U) A low = go A
  where
    passes-there : first_no (add_questions document (all (held z)) r) ≡ none
    passes-there = sym (judged-without t z s r (contract.accepted z S d Z h U)) ∙ e

    go : {y : AddAnswer} {b : Table} → AddEnds z r y b → (y ≡ Ok (record { 0 = s })) × (b ≡ o)
    go (contract.unsound n) = absurd (n U)
    go (contract.refused k W j) = absurd (both _ _ j passes-there)
    go (contract.accepted l b W j lowest X k B) =
        let left = ap all h ∙ all_set (held t) s none in
        let there : l.0 ≡ s = some-injective _ _ (sym lowest ∙ ap lowest_free left ∙ low) in
        let slot : l ≡ record { 0 = s } = λ i. record { 0 = there i } in
        let rules = k ∙ ap₂ (λ (B : Pages) (n : ℕ). set B n (some (new_page r))) h there
        ∙ set-set (held t) s none (some (new_page r)) ∙ sym i in
        (ap Ok slot, table-unique b o X Y B O rules)

-- A rule q of the table t, muted or not, and p, which is the same in whatever order and passes questions 1 to 4. Where
-- the table u has another page in its slot, and is like t otherwise, replacing that by p is accepted and gives t again
-- with q unmuted.
abbrev unmuted : Rule → Page
unmuted q = record { rule = q; muted = false }

given_back :
    (t u v : Table) (s : ℕ) (q : Rule) (o : Page) (p : Rule) (x : ChangeAnswer) → Sound t → Held (all (held t)) s q
    → same p q ≡ true → first_no (rule_questions document p) ≡ none → Sound u → held u ≡ set (held t) s (some o)
    → ReplaceEnds u s p x v
    → (x ≡ Ok tt) × (Sound v × Sized v × (held v ≡ set (held t) s (some (unmuted q))))
given_back t u v s q o p x S h e pass U is (contract.unsound n) = absurd (n U)
given_back t u v s q o p x S h e pass U is (contract.refused f T d) =
    let rules = ap all is ∙ all_set (held t) s (some o) in
    absurd (both _ _ d (subst (λ (P : Program). first_no (replace_questions document P s p) ≡ none) (sym rules)
    (back_passes document (held t) S.rules s q h p e pass o.rule)))
given_back t u v s q o p x S h e pass U is (contract.accepted w T d Y i W) =
    let back = kept-old document (held t) S.rules s q h p e pass o.rule in
    let rules = i ∙ ap (λ (B : Pages). set B s (some (new_page p))) is
    ∙ set-set (held t) s (some o) (some (new_page p)) ∙ ap (λ (r : Rule). set (held t) s (some (unmuted r))) back in
    (refl, (W, Y, rules))

-- The table again, where q was not muted.
same-table :
    (t v : Table) (s : ℕ) (q : Rule) → Sound t → Sized t → get_or (held t) s none ≡ some (unmuted q)
    → Sound v × Sized v × (held v ≡ set (held t) s (some (unmuted q))) → v ≡ t
same-table t v s q S Z h w =
    table-unique v t w.1 Z w.0 S (w.2 ∙ ap (set (held t) s) (sym h) ∙ set-get_or (held t) s none)

-- Replacing there and back gives the table again; also where the old rule is given back in another order. (The old rule
-- was not muted: a replaced rule starts unmuted.)

pub there-and-back-reordered :
    (t u v : Table) (s : ℕ) (q r p : Rule) (x : ChangeAnswer) → Sized t → get_or (held t) s none ≡ some (unmuted q)
    → same p q ≡ true → first_no (rule_questions document p) ≡ none → ReplaceEnds t s r (Ok tt) u
    → ReplaceEnds u s p x v → (x ≡ Ok tt) × (v ≡ t)
there-and-back-reordered t u v s q r p x Z h e pass (contract.accepted w S d Y i W) E =
    let g = given_back t w v s q _ p x S (held-page (held t) s _ h) e pass W i E in
    (g.0, same-table t v s q S Z h g.1)

pub there_and_back :
    (t u v : Table) (s : ℕ) (q r : Rule) (x : ChangeAnswer) → Sized t → get_or (held t) s none ≡ some (unmuted q)
    → ReplaceEnds t s r (Ok tt) u → ReplaceEnds u s q x v → (x ≡ Ok tt) × (v ≡ t)
there_and_back t u v s q r x Z h (contract.accepted w S d Y i W) =
    there-and-back-reordered t w v s q r q x Z h (same_refl q)
    (S.rules.passes s q (held-page (held t) s _ h)) (contract.accepted w S d Y i W)

-- Replacing a rule by itself, also where it is given in another order, is accepted and leaves what unmuting it leaves.
pub by-itself-unmutes :
    (t v w : Table) (s : ℕ) (q p : Rule) (x : ChangeAnswer) → Sound t → Held (all (held t)) s q → same p q ≡ true
    → first_no (rule_questions document p) ≡ none → ReplaceEnds t s p x v → MuteEnds t s false (Ok tt) w
    → (x ≡ Ok tt) × (v ≡ w)
by-itself-unmutes t v w s q p x S h e pass E (contract.accepted y T d Y i W) =
    let k = page-held (held t) s q h in
    let g = given_back t t v s q k.0 p x S h e pass S
    (sym (ap (set (held t) s) (sym k.1) ∙ set-get_or (held t) s none)) E in
    let mark = i ∙ ap (λ (o : Option Page). set (held t) s (set_mark false o)) k.1
    ∙ ap (λ (r : Rule). set (held t) s (some (unmuted r))) k.2 in
    (g.0, table-unique v y g.1.1 Y g.1.0 W (g.1.2 ∙ sym mark))

-- So replacing a rule that is not muted by itself changes nothing.

pub by-itself-reordered :
    (t v : Table) (s : ℕ) (q p : Rule) (x : ChangeAnswer) → Sound t → Sized t
    → get_or (held t) s none ≡ some (unmuted q) → same p q ≡ true → first_no (rule_questions document p) ≡ none
    → ReplaceEnds t s p x v → (x ≡ Ok tt) × (v ≡ t)
by-itself-reordered t v s q p x S Z h e pass E =
    let g = given_back t t v s q (unmuted q) p x S (held-page (held t) s _ h) e pass S
    (sym (ap (set (held t) s) (sym h) ∙ set-get_or (held t) s none)) E in
    (g.0, same-table t v s q S Z h g.1)

pub by_itself :
    (t v : Table) (s : ℕ) (q : Rule) (x : ChangeAnswer) → Sound t → Sized t → get_or (held t) s none ≡ some (unmuted q)
    → ReplaceEnds t s q x v → (x ≡ Ok tt) × (v ≡ t)
by_itself t v s q x S Z h E =
    by-itself-reordered t v s q q x S Z h (same_refl q) (S.rules.passes s q (held-page (held t) s _ h)) E
