-- A list of calls written as numbers, with the files that they load. Assumes nothing.
use Rattle.std.specs.Prelude.{ℕ, zero, suc, ◌+◌, ◌-◌, ◌^◌, ◌<◌, Bool, true, false, cond, not, ◌&&◌, List, [], ◌∷◌, ◌++◌, eqb, leb, length, get_or, take, drop}
use Rattle.std.proofs.Math.Option.{Option, none, some}
use Rattle.theory.specs.Lists.{◌∈◌}
use Rattle.theory.specs.Rules.{Rule}
use Rattle.theory.specs.Book as book
use Rattle.theory.specs.Book.{add, remove, replace, mute}
use Rattle.checklist_meaning.specs.Questions.{file, file_sent, file_skipped, skip_withdrawn}
use Rattle.checklist_meaning.specs.Book.{opening, of_file}
use Rattle.checklist_meaning.specs.Book as list
use Rattle.history.specs.Calls.{Call, change, load, checklist}

-- A call that stands at a place of the list, and the place behind it.
pub record Placed : Type 0 where
  pub call : Call
  pub behind : ℕ

-- The rule whose head stands at a place: behind it how many positives and how many negatives, then these. And the place
-- behind the rule.
abbrev pub rule_in_words : List ℕ → ℕ → Rule
rule_in_words ws at =
    record {
      head = get_or ws at 0;
      positives = take (get_or ws (at + 1) 0) (drop (at + 3) ws);
      negatives = take (get_or ws (at + 2) 0) (drop (at + 3 + get_or ws (at + 1) 0) ws);
    }

abbrev pub rule_end : List ℕ → ℕ → ℕ
rule_end ws at = at + 3 + get_or ws (at + 1) 0 + get_or ws (at + 2) 0

-- The entries of a list from a place to below another.
abbrev pub between : List ℕ → ℕ → ℕ → List ℕ
between xs from to = take (to - from) (drop from xs)

-- A load, of the bytes of the files from the place told after its kind to below the place told next.
abbrev pub load_at : List ℕ → List ℕ → ℕ → Placed
load_at ws files at =
    record { call = load (between files (get_or ws (at + 1) 0) (get_or ws (at + 2) 0)); behind = at + 3 }

-- A muting, of the slot told after its kind; by the mark told next: 0 unmutes, any other number mutes.
abbrev pub mute_at : List ℕ → ℕ → Placed
mute_at ws at =
    record { call = change (mute (get_or ws (at + 1) 0) (not (eqb (get_or ws (at + 2) 0) 0))); behind = at + 3 }

-- A call of a checklist whose number stands at the place after its kind.
abbrev pub checklist_at : List ℕ → ℕ → (ℕ → list.Call) → Placed
checklist_at ws at of = record { call = checklist (of (get_or ws (at + 1) 0)); behind = at + 2 }

abbrev pub when : Bool → Option Placed → Option Placed
when true o = o
when false o = none

-- Are these places of a file, the second not before the first?
abbrev pub in_files : List ℕ → ℕ → ℕ → Bool
in_files files from to = leb from to && leb to (length files)

-- A call of the rule whose head stands at a place.
unfoldable pub placed_rule : List ℕ → ℕ → (Rule → book.Call) → Option Placed
placed_rule ws at of =
    when (leb (rule_end ws at) (length ws))
    (some (record { call = change (of (rule_in_words ws at)); behind = rule_end ws at }))

unfoldable pub placed_load : List ℕ → List ℕ → ℕ → Option Placed
placed_load ws files at =
    when (leb (at + 3) (length ws) && in_files files (get_or ws (at + 1) 0) (get_or ws (at + 2) 0))
    (some (load_at ws files at))

unfoldable pub placed_mute : List ℕ → ℕ → Option Placed
placed_mute ws at = when (leb (at + 3) (length ws)) (some (mute_at ws at))

-- 0 and a slot: a removal. 1, a head, how many positives and how many negatives, then these: an addition. 2 and two
-- places: a load of the bytes of the files from the first to below the second. 3 and a number of files: the opening of
-- a checklist. 4, 5, 6 and a file: file sent, file skipped, skip withdrawn. 7, a slot, then as behind the 1 of an
-- addition: a replacement. 8, a slot and a mark: a muting. Any other number is no call; what is cut short is none, and
-- neither is a load of bytes that the files do not have.
abbrev pub placed_kind : List ℕ → List ℕ → ℕ → ℕ → Option Placed
placed_kind ws files at zero = some (record { call = change (remove (get_or ws (at + 1) 0)); behind = at + 2 })
placed_kind ws files at (suc zero) = placed_rule ws (at + 1) add
placed_kind ws files at (suc (suc zero)) = placed_load ws files at
placed_kind ws files at (suc (suc (suc zero))) = some (checklist_at ws at opening)
placed_kind ws files at (suc (suc (suc (suc zero)))) = some (checklist_at ws at (λ i. of_file (file_sent i)))
placed_kind ws files at (suc (suc (suc (suc (suc zero))))) = some (checklist_at ws at (λ i. of_file (file_skipped i)))
placed_kind ws files at (suc (suc (suc (suc (suc (suc zero)))))) =
    some (checklist_at ws at (λ i. of_file (skip_withdrawn i)))
placed_kind ws files at (suc (suc (suc (suc (suc (suc (suc zero))))))) =
    placed_rule ws (at + 2) (replace (get_or ws (at + 1) 0))
placed_kind ws files at (suc (suc (suc (suc (suc (suc (suc (suc zero)))))))) = placed_mute ws at
placed_kind ws files at (suc (suc (suc (suc (suc (suc (suc (suc (suc k))))))))) = none

unfoldable pub placed : List ℕ → List ℕ → ℕ → Option Placed
placed ws files at = when (leb (at + 2) (length ws)) (placed_kind ws files at (get_or ws at 0))

-- The calls from a place on, at most so many.
unfoldable pub decode : ℕ → List ℕ → List ℕ → ℕ → List Call
decode zero ws files at = []
decode (suc most) ws files at =
    elim (placed ws files at) [ none ↦ [] | some c ↦ c.call ∷ decode most ws files c.behind ]

-- The calls that the list holds, at most as many as there is room for answers.
abbrev pub calls_in : List ℕ → List ℕ → List ℕ → List Call
calls_in ws files before = decode (length before) ws files 0

-- The file of a call, if it loads one.
abbrev pub call_file : Call → List ℕ
call_file (change c) = []
call_file (load bytes) = bytes
call_file (checklist c) = []

-- The files of a list of calls, one behind another.
unfoldable pub loaded_files : List Call → List ℕ
loaded_files [] = []
loaded_files (c ∷ cs) = call_file c ++ loaded_files cs

-- A rule's words: its head, how many positives and how many negatives, then these.
abbrev pub written_rule : Rule → List ℕ
written_rule r = r.head ∷ length r.positives ∷ length r.negatives ∷ (r.positives ++ r.negatives)

-- The words that are read as a list of calls: each call's, one after another, where so many bytes of the files stand
-- before those of the first.
abbrev pub call_words : ℕ → Call → List ℕ
call_words passed (change (remove s)) = 0 ∷ s ∷ []
call_words passed (change (add r)) = 1 ∷ written_rule r
call_words passed (change (replace s r)) = 7 ∷ s ∷ written_rule r
call_words passed (change (mute s m)) = 8 ∷ s ∷ cond m 1 0 ∷ []
call_words passed (load bytes) = 2 ∷ passed ∷ (passed + length bytes) ∷ []
call_words passed (checklist (opening n)) = 3 ∷ n ∷ []
call_words passed (checklist (of_file (file_sent i))) = 4 ∷ i ∷ []
call_words passed (checklist (of_file (file_skipped i))) = 5 ∷ i ∷ []
call_words passed (checklist (of_file (skip_withdrawn i))) = 6 ∷ i ∷ []

unfoldable pub written_from : ℕ → List Call → List ℕ
written_from passed [] = []
written_from passed (c ∷ cs) = call_words passed c ++ written_from (passed + length (call_file c)) cs

abbrev pub written : List Call → List ℕ
written cs = written_from 0 cs

-- Numbers below a bound: words of 32 bits, bytes.
abbrev pub Below : ℕ → List ℕ → Type 0
Below n xs = (x : ℕ) → x ∈ xs → x < n

abbrev pub Words : List ℕ → Type 0
Words = Below (2 ^ 32)

abbrev pub Bytes : List ℕ → Type 0
Bytes = Below 256

-- A rule whose numbers and whose lists' lengths have 32 bits; such a call, whose file is of bytes.
abbrev pub RuleFits : Rule → Type 0
RuleFits r =
    (r.head < 2 ^ 32) × (length r.positives < 2 ^ 32) × (length r.negatives < 2 ^ 32) × Words r.positives
    × Words r.negatives

abbrev pub CallFits : Call → Type 0
CallFits (change (remove s)) = s < 2 ^ 32
CallFits (change (add r)) = RuleFits r
CallFits (change (replace s r)) = (s < 2 ^ 32) × RuleFits r
CallFits (change (mute s m)) = s < 2 ^ 32
CallFits (load bytes) = Bytes bytes
CallFits (checklist (opening n)) = n < 2 ^ 32
CallFits (checklist (of_file c)) = file c < 2 ^ 32
