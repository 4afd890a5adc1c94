-- The rule in a slot told as numbers, and how the call ends that tells it. Assumes nothing.
use Rattle.std.specs.Prelude.{ℕ, ◌≡◌, false, List, [], ◌∷◌, leb, length, get_or, replicate, Result, Ok, Err}
use Rattle.std.proofs.Math.Option.{none, some}
use Rattle.theory.specs.Rules.{Page, all, entries}
use Rattle.theory.specs.Questions.{first_no, slot_questions}
use Rattle.theory.specs.Limits.{document}
use Rattle.table.specs.declared.Rule.{Rule}
use Rattle.table.specs.declared.Table.{Table}
use Rattle.table.specs.Rules.{no_atom}
use Rattle.table.specs.Sound.{Sound}
use Rattle.refusals.specs.declared.Refusal.{Refusal}
use Rattle.refusals.specs.declared.Refusal.TheVariants.{TableUnsound}
use Rattle.refusals.specs.Refusals.{number_of}
use Rattle.calls.specs.Ends.{held}
use Rattle.queries.specs.declared.RuleNumbers.{RuleNumbers}

-- The first eight numbers of a list: 0 past its end.
abbrev pub eight_of : List ℕ → List ℕ
eight_of xs =
    get_or xs 0 0
    ∷ get_or xs 1 0
    ∷ get_or xs 2 0
    ∷ get_or xs 3 0
    ∷ get_or xs 4 0
    ∷ get_or xs 5 0
    ∷ get_or xs 6 0
    ∷ get_or xs 7 0
    ∷ []

-- What is told of a page: the head, the mark, how long the lists are, and the entries.
abbrev pub tell_numbers : Page → RuleNumbers
tell_numbers p =
    record {
      head = p.rule.head;
      muted = p.muted;
      positives = length p.rule.positives;
      negatives = length p.rule.negatives;
      entries = eight_of (entries p.rule);
    }

-- What is told where there is no rule.
abbrev pub no_numbers : RuleNumbers
no_numbers = record { head = 0; muted = false; positives = 0; negatives = 0; entries = replicate document.entries 0 }

-- What the call on the rule in a slot answers.
abbrev pub RuleAnswer : Type 0
RuleAnswer = Result RuleNumbers Refusal

-- Rule: 15, 8, 9. A refusal tells no rule.
pub data RuleEnds (t : Table) (s : ℕ) : RuleAnswer → Type 0 where
  unsound : (Sound t → ⊥) → RuleEnds t s (Err TableUnsound)
  refused :
      (f : Refusal) → Sound t → first_no (slot_questions document (all (held t)) s) ≡ some (number_of f)
      → RuleEnds t s (Err f)
  accepted :
      (p : Page) → Sound t → first_no (slot_questions document (all (held t)) s) ≡ none
      → get_or (held t) s none ≡ some p → RuleEnds t s (Ok (tell_numbers p))

-- Private: the numbers that stand in a slot for its rule.
abbrev pub plain_numbers : Rule → RuleNumbers
plain_numbers r =
    record {
      head = r.head.0;
      muted = leb 2 r.state;
      positives = r.positives;
      negatives = r.negatives;
      entries =
          (get_or r.entries 0 no_atom).0
          ∷ (get_or r.entries 1 no_atom).0
          ∷ (get_or r.entries 2 no_atom).0
          ∷ (get_or r.entries 3 no_atom).0
          ∷ (get_or r.entries 4 no_atom).0
          ∷ (get_or r.entries 5 no_atom).0
          ∷ (get_or r.entries 6 no_atom).0
          ∷ (get_or r.entries 7 no_atom).0
          ∷ [];
    }
