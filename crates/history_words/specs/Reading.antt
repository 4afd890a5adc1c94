-- Private: what the functions that read the words tell each other. No exported contract speaks of it. Assumes nothing.
use Rattle.std.specs.Prelude.{ℕ, ◌+◌, ◌≤◌, ◌<◌, ◌≡◌, Option, Some, None, List, length, get_or}
use Rattle.std.proofs.Math.Option as math
use Rattle.std.proofs.Math.Option.{none, some}
use Rattle.theory.specs.Rules.{Rule}
use Rattle.theory.specs.Book.{add, remove, replace, mute}
use Rattle.checklist_meaning.specs.Questions.{file_sent, file_skipped, skip_withdrawn}
use Rattle.checklist_meaning.specs.Book.{opening, of_file}
use Rattle.checklist_meaning.specs.Book as list
use Rattle.history_words.specs.declared.ChecklistCall.{ChecklistCall}
use Rattle.history_words.specs.declared.ChecklistCall.TheVariants as which
use Rattle.history_words.specs.declared.Next.{Next}
use Rattle.history_words.specs.declared.Next.TheVariants as next
use Rattle.history_words.specs.declared.RuleWords.{RuleWords}
use Rattle.history.specs.Calls.{change, load, checklist}
use Rattle.history_words.specs.Encoding.{Placed, rule_end, between, placed_load, placed_mute, placed}

-- The call of a checklist that is named, with its number.
abbrev pub checklist_call : ChecklistCall → ℕ → list.Call
checklist_call which.Open n = opening n
checklist_call which.FileSent i = of_file (file_sent i)
checklist_call which.FileSkipped i = of_file (file_skipped i)
checklist_call which.SkipWithdrawn i = of_file (skip_withdrawn i)

-- The rule whose lists are parts of the list.
abbrev pub rule_between : List ℕ → ℕ → ℕ → ℕ → ℕ → Rule
rule_between ws head from middle to =
    record { head = head; positives = between ws from middle; negatives = between ws middle to }

-- The call that is read at a place, and the place behind it.
abbrev pub call_of : List ℕ → List ℕ → Option Next → math.Option Placed
call_of ws files None = none
call_of ws files (Some (next.Remove s behind)) = some (record { call = change (remove s); behind = behind })
call_of ws files (Some (next.Add head from middle to)) =
    some (record { call = change (add (rule_between ws head from middle to)); behind = to })
call_of ws files (Some (next.Replace slot head from middle to)) =
    some (record { call = change (replace slot (rule_between ws head from middle to)); behind = to })
call_of ws files (Some (next.Mute slot muted behind)) =
    some (record { call = change (mute slot muted); behind = behind })
call_of ws files (Some (next.Load from to behind)) =
    some (record { call = load (between files from to); behind = behind })
call_of ws files (Some (next.Checklist w number behind)) =
    some (record { call = checklist (checklist_call w number); behind = behind })

-- The parts of the lists lie in the list, and a file in the files.
abbrev pub Parts : ℕ → ℕ → ℕ → ℕ → Type 0
Parts words from middle to = (from ≤ middle) × (middle ≤ to) × (to ≤ words)

abbrev pub InOrder : ℕ → ℕ → Option Next → Type 0
InOrder words bytes None = Unit {0}
InOrder words bytes (Some (next.Remove s behind)) = behind ≤ words
InOrder words bytes (Some (next.Add head from middle to)) = Parts words from middle to
InOrder words bytes (Some (next.Replace slot head from middle to)) = Parts words from middle to
InOrder words bytes (Some (next.Mute slot muted behind)) = behind ≤ words
InOrder words bytes (Some (next.Load from to behind)) = (from ≤ to) × (to ≤ bytes)
InOrder words bytes (Some (next.Checklist w number behind)) = behind ≤ words

-- What was read is this call, or that there is none.
pub record ReadAs (ws files : List ℕ) (call : math.Option Placed) (r : Option Next) : Type 0 where
  pub read : call_of ws files r ≡ call
  pub order : InOrder (length ws) (length files) r

-- The load or the muting at a place whose kind says so, and the call at any place. No file plays a part in a muting.
abbrev pub NextLoad : List ℕ → List ℕ → ℕ → Option Next → Type 0
NextLoad ws files at r = ReadAs ws files (placed_load ws files at) r

abbrev pub NextMute : List ℕ → ℕ → Option Next → Type 0
NextMute ws at r = (files : List ℕ) → ReadAs ws files (placed_mute ws at) r

abbrev pub NextOf : List ℕ → List ℕ → ℕ → Option Next → Type 0
NextOf ws files at r = ReadAs ws files (placed ws files at) r

-- The rule whose head stands at a place: it is cut short, or where its lists begin and end.
pub data FindRule (ws : List ℕ) (at : ℕ) : Option RuleWords → Type 0 where
  cut : length ws < rule_end ws at → FindRule ws at None
  whole :
      rule_end ws at ≤ length ws
      → FindRule ws at (Some (record {
        head = get_or ws at 0;
        from = at + 3;
        middle = at + 3 + get_or ws (at + 1) 0;
        to = rule_end ws at;
      }))

-- Kinds 3 to 6 are a checklist's.
pub data NextChecklist (kind number behind : ℕ) : Option Next → Type 0 where
  neither : (3 ≤ kind → kind ≤ 6 → ⊥) → NextChecklist kind number behind None
  opens : kind ≡ 3 → NextChecklist kind number behind (Some (next.Checklist which.Open number behind))
  sent : kind ≡ 4 → NextChecklist kind number behind (Some (next.Checklist which.FileSent number behind))
  skipped : kind ≡ 5 → NextChecklist kind number behind (Some (next.Checklist which.FileSkipped number behind))
  withdrawn : kind ≡ 6 → NextChecklist kind number behind (Some (next.Checklist which.SkipWithdrawn number behind))
