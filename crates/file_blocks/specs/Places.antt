-- A place of a block: 22 bytes, the record of one rule and its mark (specification 7.3). Assumes nothing.
use Rattle.std.specs.Prelude.{ℕ, suc, ◌+◌, ◌%◌, Bool, cond, List, [], ◌∷◌, ◌++◌, length, take, drop, nat_le, slice_index}
use Rattle.std.proofs.Math.Option.{none, some}
use Rattle.theory.specs.Rules.{Rule, Page, Pages, entries}
use Rattle.file_blocks.specs.Words.{word, words, word_at, words_in, padded}

-- What the bytes of a place say: slot (2), head (2), positive count (1), whose top bit is the mark, muted or not
-- (request #108), negative count (1), eight entries of 2, positives first.
pub record Place : Type 0 where
  pub slot : ℕ
  pub head : ℕ
  pub muted : Bool
  pub positives : ℕ
  pub negatives : ℕ
  pub entries : List ℕ

-- A place has room for eight entries.
abbrev pub PLACE_ENTRIES : ℕ
PLACE_ENTRIES = 8

-- The byte of a mark and a positive count: the count takes the other seven bits.
abbrev pub MARK : ℕ
MARK = 128

abbrev pub count_byte : Bool → ℕ → ℕ
count_byte muted n = cond muted MARK 0 + n

-- The bytes of a place.
abbrev pub place_bytes : Place → List ℕ
place_bytes p =
    word p.slot
    ++ (word p.head ++ (count_byte p.muted p.positives ∷ p.negatives ∷ words p.entries))

-- The place whose bytes some bytes begin with.
abbrev pub place_numbered : List ℕ → Place
place_numbered bs =
    record {
      slot = word_at bs 0;
      head = word_at bs 2;
      muted = nat_le MARK (slice_index bs 4);
      positives = slice_index bs 4 % MARK;
      negatives = slice_index bs 5;
      entries = words_in PLACE_ENTRIES (drop 6 bs);
    }

-- The place that records a page, of a slot: unused entries are zero.
abbrev pub recorded : ℕ → Page → Place
recorded s p =
    record {
      slot = s;
      head = p.rule.head;
      muted = p.muted;
      positives = length p.rule.positives;
      negatives = length p.rule.negatives;
      entries = padded PLACE_ENTRIES (entries p.rule);
    }

-- The rule that a place records. Whatever the counts say, a list ends where the entries end.
abbrev pub rule_in : Place → Rule
rule_in p =
    record {
      head = p.head;
      positives = take p.positives p.entries;
      negatives = take p.negatives (drop p.positives p.entries);
    }

-- The page that a place records: its rule with its mark.
abbrev pub page_in_place : Place → Page
page_in_place p = record { rule = rule_in p; muted = p.muted }

-- The records of some pages, ascending by slot; the first has the number s.
unfoldable pub records_from : ℕ → Pages → List Place
records_from s [] = []
records_from s (none ∷ B) = records_from (suc s) B
records_from s (some p ∷ B) = recorded s p ∷ records_from (suc s) B

abbrev pub records : Pages → List Place
records B = records_from 0 B
