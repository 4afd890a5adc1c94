-- How loading ends, from the answers of its questions. Assumes nothing.
use Rattle.std.specs.Prelude.{Ok, Err}
use Prim.Native.Nat.{ℕ}
use mathlib.Core.Path.{◌≡◌, refl, sym, ◌∙◌, ap, subst}
use mathlib.Core.Bool.{Bool, true, false, ◌&&◌, true≢false}
use mathlib.Core.List.{List, map}
use Rattle.theory.specs.Lists.{every}
use Rattle.theory.specs.Rules.{all, Held, Pages, Program, Rule, same}
use Rattle.theory.specs.Dependencies.{NegativeCycle}
use Rattle.theory.specs.Questions.{first_no}
use Rattle.theory.specs.Limits.{document}
use Rattle.theory.proofs.Lists.{and-of, unless, clash}
use Rattle.theory.proofs.Questions.{first_no-yes, first_no-here}
use Rattle.theory.proofs.Cycles.{cycle-found, stratified-iff}
use Rattle.table.specs.declared.Rule as slot
use Rattle.table.specs.Rules.{book_of, program_of}
use Rattle.table.specs.Words.{rules_of, table_of}
use Rattle.table.specs.Clean.{empty_table}
use Rattle.questions.proofs.Refusals.{both-no, both-no-2}
use Rattle.well_formed.specs.Slots.{Single}
use Rattle.sound.proofs.Soundness.{well-formed-single}
use Rattle.file_blocks.specs.Places.{Place, rule_in}
use Rattle.file_blocks.specs.Questions.{blocks, block_count, places_of, whole, summed, numbered, filled}
use Rattle.file_blocks.specs.Questions.{distinct_rules, records_right, pages_of}
use Rattle.file_blocks.proofs.Sequences.{places-eight}
use Rattle.file_blocks.proofs.Records.{distinct-rules}
use Rattle.file_loading.specs.Reading.{all_are_right}
use Rattle.refusals.specs.declared.Refusal.TheVariants.{WrongLength, WrongChecksum, WrongBlock, WrongRecord}
use Rattle.calls.specs.Ends as contract
use Rattle.calls.specs.Ends.{LoadEnds}
use Rattle.from_rules.specs.Making.{WellFormedSlots, Made, twice, cyclic, made}
use Rattle.file_calls.proofs.Recorded.{split, join, same-rules, once}

module _ (bs : List ℕ) where
  pub not-whole : whole bs ≡ false → LoadEnds bs (Err WrongLength) empty_table
  not-whole e = contract.refused WrongLength (first_no-here _ _ e)

  module _ (w : whole bs ≡ true) where
    pub not-summed : every summed (blocks bs) ≡ false → LoadEnds bs (Err WrongChecksum) empty_table
    not-summed e = contract.refused WrongChecksum (first_no-yes _ _ w ∙ first_no-here _ _ e)

    module _ (s : every summed (blocks bs) ≡ true) where
      pub not-numbered :
          numbered (block_count bs) 0 (blocks bs) ≡ false → LoadEnds bs (Err WrongBlock) empty_table
      not-numbered e =
          contract.refused WrongBlock (first_no-yes _ _ w ∙ first_no-yes _ _ s ∙ first_no-here _ _ e)

      module _ (m : numbered (block_count bs) 0 (blocks bs) ≡ true) where
        not_right :
            (every filled (blocks bs) && records_right document (places_of (blocks bs))) ≡ false
            → LoadEnds bs (Err WrongRecord) empty_table
        not_right e =
            contract.refused WrongRecord
            (first_no-yes _ _ w ∙ first_no-yes _ _ s ∙ first_no-yes _ _ m ∙ first_no-here _ _ e)

        pub not-filled : every filled (blocks bs) ≡ false → LoadEnds bs (Err WrongRecord) empty_table
        not-filled e = not_right (both-no _ _ e)

        module _ (f : every filled (blocks bs) ≡ true) where
          abbrev ps : List Place
          ps = places_of (blocks bs)

          abbrev pages : Pages
          pages = pages_of document bs

          not-records : records_right document ps ≡ false → LoadEnds bs (Err WrongRecord) empty_table
          not-records e = not_right (both-no-2 _ _ f e)

          pub not-all-right : all_are_right 0 ps ≡ false → LoadEnds bs (Err WrongRecord) empty_table
          not-all-right e = not-records (unless _ (λ t. clash (split ps t).0 e))

          module _ (a : all_are_right 0 ps ≡ true) where
            -- the table of the rules read
            module _ (table : List ℕ) (well : WellFormedSlots (rules_of table)) (read : book_of (rules_of table) ≡ pages) where
              abbrev slots : List slot.Rule
              slots = rules_of table

              same-program : program_of slots ≡ all pages
              same-program = ap all read

              distinct : Single (program_of slots) → distinct_rules (map rule_in ps) ≡ true
              distinct U =
                  ap distinct_rules (same-rules ps (places-eight (blocks bs)) a)
                  ∙ distinct-rules (all pages)
                  (subst (λ (P : Program). (s t : ℕ) (q r : Rule) → Held P s q → Held P t r → same q r ≡ true → s ≡ t)
                  same-program (well-formed-single table well U))

              -- what making the table answered
              pub rules-refused :
                  (after : List ℕ) (b : Bool) → Made table after b → b ≡ false → LoadEnds bs (Err WrongRecord) empty_table
              rules-refused after b (twice n) e =
                  not-records (unless _ (λ t.
                  n (subst Single (sym same-program) (once ps (places-eight (blocks bs)) a (split ps t).1))))
              rules-refused after b (cyclic U c) e =
                  not-records (unless _ (λ t.
                  clash (split ps t).2 (cycle-found (all pages) (subst NegativeCycle same-program c))))
              rules-refused after b (made numbers U n l h S) e = absurd (true≢false e)

              pub rules-loaded :
                  (after : List ℕ) (b : Bool) → Made table after b → b ≡ true → LoadEnds bs (Ok tt) (table_of after)
              rules-loaded after b (twice n) e = absurd (true≢false (sym e))
              rules-loaded after b (cyclic U c) e = absurd (true≢false (sym e))
              rules-loaded after b (made numbers U n l h S) e =
                  let none-closed = (stratified-iff (all pages)).1 (λ c. n (subst NegativeCycle (sym same-program) c)) in
                  contract.accepted (table_of numbers)
                  (first_no-yes _ _ w ∙ first_no-yes _ _ s ∙ first_no-yes _ _ m
                  ∙ first_no-yes _ _ (and-of (every filled (blocks bs)) _ f (join ps a (distinct U) none-closed))
                  ∙ (unfold first_no in refl))
                  (record { long = l }) (ap book_of h ∙ read) S
