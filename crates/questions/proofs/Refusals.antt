-- The first of questions 1 to 4 answered no, from the answers one by one. Assumes nothing. The limits are a parameter.
use Prim.Native.Nat.{ℕ, ◌+◌}
use mathlib.Core.Path.{◌≡◌, sym, ◌∙◌}
use mathlib.Core.Bool.{Bool, true, false, not, ◌&&◌}
use mathlib.Core.List.{List, [], ◌∷◌, ◌++◌}
use mathlib.Core.Option.{Option, none, some}
use lib.Dec.{leb, ltb}
use lib.ListN.{length}
use Rattle.theory.specs.Lists.{every, distinct}
use Rattle.theory.specs.Limits.{Limits}
use Rattle.theory.specs.Questions.{Question, asks, first_no, rule_questions}
use Rattle.theory.proofs.Lists.{not-true, not-false}
use Rattle.theory.proofs.Questions.{first_no-here, first_no-yes}
use Rattle.table.specs.Questions.{rule_from}
use Rattle.table.proofs.Walks.{every_append}

-- A negated test t of an answer q.
pub no-by : (t q : Bool) → t ≡ q → not t ≡ true → q ≡ false
no-by t q e u = sym e ∙ not-true t u

pub yes-by : (t q : Bool) → t ≡ q → not t ≡ false → q ≡ true
yes-by t q e u = sym e ∙ not-false t u

pub both-no : (a b : Bool) → a ≡ false → (a && b) ≡ false
both-no a b p = cc

pub both-no-2 : (a b : Bool) → a ≡ true → b ≡ false → (a && b) ≡ false
both-no-2 a b p q = cc

-- The rule that the arguments name, and what is asked of it.
module _ (limits : Limits) (head : ℕ) (ps ns : List ℕ) where
  abbrev asked : Option ℕ
  asked = first_no (rule_questions limits (rule_from head ps ns))

  abbrev fits : List ℕ → Bool
  fits xs = every (λ x. ltb x limits.atoms) xs

  abbrev head_asked : Question
  head_asked = asks 1 (ltb head limits.atoms)

  abbrev few_asked : Question
  few_asked = asks 2 (leb (length ps + length ns) limits.entries)

  abbrev fit_asked : Question
  fit_asked = asks 3 (fits (ps ++ ns))

  abbrev repeats_asked : Question
  repeats_asked = asks 4 (distinct ps && distinct ns)

  pub refused-1 : ltb head limits.atoms ≡ false → some 1 ≡ asked
  refused-1 p = sym (first_no-here head_asked (few_asked ∷ fit_asked ∷ repeats_asked ∷ []) p)

  module _ (one : ltb head limits.atoms ≡ true) where
    past-1 : asked ≡ first_no (few_asked ∷ fit_asked ∷ repeats_asked ∷ [])
    past-1 = first_no-yes head_asked (few_asked ∷ fit_asked ∷ repeats_asked ∷ []) one

    pub refused-2 : leb (length ps + length ns) limits.entries ≡ false → some 2 ≡ asked
    refused-2 p = sym (past-1 ∙ first_no-here few_asked (fit_asked ∷ repeats_asked ∷ []) p)

    module _ (two : leb (length ps + length ns) limits.entries ≡ true) where
      past-2 : asked ≡ first_no (fit_asked ∷ repeats_asked ∷ [])
      past-2 = past-1 ∙ first_no-yes few_asked (fit_asked ∷ repeats_asked ∷ []) two

      -- each list answers for itself
      both-fit : (b : Bool) → (fits ps && fits ns) ≡ b → fits (ps ++ ns) ≡ b
      both-fit b p = every_append (λ x. ltb x limits.atoms) ps ns ∙ p

      pub refused-3 : (fits ps && fits ns) ≡ false → some 3 ≡ asked
      refused-3 p = sym (past-2 ∙ first_no-here fit_asked (repeats_asked ∷ []) (both-fit false p))

      module _ (three : (fits ps && fits ns) ≡ true) where
        past-3 : asked ≡ first_no (repeats_asked ∷ [])
        past-3 = past-2 ∙ first_no-yes fit_asked (repeats_asked ∷ []) (both-fit true three)

        pub refused-4 : (distinct ps && distinct ns) ≡ false → some 4 ≡ asked
        refused-4 p = sym (past-3 ∙ first_no-here repeats_asked [] p)

        pub passed-all : (distinct ps && distinct ns) ≡ true → none ≡ asked
        unfolding first_no
        passed-all p = sym (past-3 ∙ first_no-yes repeats_asked [] p)
