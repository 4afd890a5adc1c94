-- Rules and programs (specification 1.2 to 1.8 and 2.16). Assumes nothing.
use Rattle.std.specs.Prelude.{ℕ, ◌<◌, ◌≡◌, Bool, true, false, ◌&&◌, List, ◌∷◌, ◌++◌, map, eqb, get_or, set}
use Rattle.std.proofs.Math.Option
use Rattle.std.proofs.Math.Option.{Option, none, some}
use Rattle.theory.specs.Lists.{◌∈◌, any, same_members, sort, Sorted}

-- A rule: a head and two lists of atoms, the positive list and the negative list.
pub record Rule : Type 0 where
  pub head : ℕ
  pub positives : List ℕ
  pub negatives : List ℕ

-- The entries of a rule, the positive list first.
abbrev pub entries : Rule → List ℕ
entries r = r.positives ++ r.negatives

-- A program: slots, each free or with one rule.
abbrev pub Program : Type 0
Program = List (Option Rule)

-- A page of the plain book (a held slot of a table): a rule and a mark, muted or not (request #108).
pub record Page : Type 0 where
  pub rule : Rule
  pub muted : Bool

-- The pages of the book, each free or with a rule and its mark.
abbrev pub Pages : Type 0
Pages = List (Option Page)

-- All rules held, muted or not. Of these speak: occurrence, justifications, consequences, sameness, free slots,
-- dependencies, loops through a negation, strata.
abbrev pub rule_on : Option Page → Option Rule
rule_on = Option.map (λ p. p.rule)

abbrev pub all : Pages → Program
all B = map rule_on B

-- The unmuted rules: a muted page is as a free one. Of these speak: the model, valid rules, derivations, depth,
-- supporting rules, spoilers, support, affected, repercussions, reasons, rounds.
abbrev pub active_on : Option Page → Option Rule
active_on none = none
active_on (some p) = elim p.muted [ true ↦ none | false ↦ some p.rule ]

abbrev pub active : Pages → Program
active B = map active_on B

-- Slot s holds the rule r.
abbrev pub Held : Program → ℕ → Rule → Type 0
Held P s r = get_or P s none ≡ some r

-- Some rule held passes the test.
abbrev pub passes : (Rule → Bool) → Option Rule → Bool
passes f none = false
passes f (some r) = f r

abbrev pub any_rule : (Rule → Bool) → Program → Bool
any_rule f P = any (passes f) P

-- An atom occurs if it is a head or an entry of a rule in the table; one that does not is absent.
pub record Occurs (P : Program) (a : ℕ) : Type 0 where
  pub slot : ℕ
  pub rule : Rule
  pub held : Held P slot rule
  pub there : a ∈ rule.head ∷ entries rule

-- Every atom of the program is below n.
abbrev pub Bounded : Program → ℕ → Type 0
Bounded P n = (s : ℕ) (r : Rule) → Held P s r → (x : ℕ) → x ∈ r.head ∷ entries r → x < n

-- Two rules are the same if heads are equal, the positive lists hold the same atoms and the negative lists hold the
-- same atoms, in whatever order.
unfoldable pub same : Rule → Rule → Bool
same q r =
    eqb q.head r.head
    && (same_members q.positives r.positives && same_members q.negatives r.negatives)

-- A rule as it is kept, on a page of the book and in a slot of the table: each list ascending.
abbrev pub kept : Rule → Rule
kept r = record { head = r.head; positives = sort r.positives; negatives = sort r.negatives }

-- The page of an added or replaced rule: it starts unmuted.
abbrev pub new_page : Rule → Page
new_page r = record { rule = kept r; muted = false }

-- The pages with the mark of page s set; a free page stays free.
abbrev pub with_mark : Pages → ℕ → Bool → Pages
with_mark B s m = set B s (Option.map (λ p. record { rule = p.rule; muted = m }) (get_or B s none))

-- Each list of the rule is ascending.
pub record Ascending (r : Rule) : Type 0 where
  pub positives : Sorted (λ x y. x < y) r.positives
  pub negatives : Sorted (λ x y. x < y) r.negatives
