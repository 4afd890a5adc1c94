-- The calls' answers as numbers: `refused` is 0 or the refusal's number (specification 3.2). Assumes nothing.
use Rattle.table.specs.declared.Label.TheVariants.{Out, In, Absent}
use Rattle.calls.specs.declared.RuleStatus.TheVariants as spoilt
use Rattle.std.specs.Prelude.{ℕ, true, false, cond, Ok, Err}
use Rattle.table.specs.declared.Table.{Table}
use Rattle.calls.specs.Answers.{AddAnswer}
use Rattle.calls.specs.Answers.{ChangeAnswer}
use Rattle.calls.specs.Answers.{LabelAnswer}
use Rattle.calls.specs.Answers.{SpoilerAnswer}
use Rattle.calls.specs.Answers.{ListAnswer}
use Rattle.queries.specs.declared.RuleNumbers.{RuleNumbers}
use Rattle.queries.specs.RuleTold.{eight_of, no_numbers, RuleAnswer}
use Rattle.refusals.specs.Refusals.{number_of, needed_by}
use Rattle.checklist_meaning.specs.Ends.{CompleteAnswer}
use Rattle.c_answers.specs.declared.Change.{Change}
use Rattle.c_answers.specs.declared.AtomLabel.{AtomLabel}
use Rattle.c_answers.specs.declared.SlotRule.{SlotRule}
use Rattle.c_answers.specs.declared.RuleSpoiler.{RuleSpoiler}
use Rattle.c_answers.specs.declared.Written.{Written}
use Rattle.c_answers.specs.declared.Accepted.{Accepted}
use Rattle.c_answers.specs.declared.Completeness.{Completeness}

abbrev pub crossed_add : AddAnswer → Table → Change
crossed_add (Ok s) u = record { refused = 0; slot = s.0; table = u }
crossed_add (Err f) u = record { refused = number_of f; slot = 0; table = u }

-- A removal that was accepted names its slot.
abbrev pub crossed_remove : ℕ → ChangeAnswer → Table → Change
crossed_remove s (Ok done) u = record { refused = 0; slot = s; table = u }
crossed_remove s (Err f) u = record { refused = number_of f; slot = 0; table = u }

abbrev pub crossed_label : LabelAnswer → AtomLabel
crossed_label (Ok Absent) = record { refused = 0; state = 0; depth = 0; slot = 0 }
crossed_label (Ok Out) = record { refused = 0; state = 1; depth = 0; slot = 0 }
crossed_label (Ok (In d s)) = record { refused = 0; state = 2; depth = d; slot = s.0 }
crossed_label (Err f) = record { refused = number_of f; state = 0; depth = 0; slot = 0 }

-- The numbers of a rule, and n for the refusal; 1 says that it is muted.
abbrev pub wide_rule : ℕ → RuleNumbers → SlotRule
wide_rule n r =
    record {
      refused = n;
      head = r.head;
      muted = cond r.muted 1 0;
      positives = r.positives;
      negatives = r.negatives;
      entries = eight_of r.entries;
    }

abbrev pub crossed_rule : RuleAnswer → SlotRule
crossed_rule (Ok r) = wide_rule 0 r
crossed_rule (Err f) = wide_rule (number_of f) no_numbers

-- 1 says that the rule needs a positive entry, 2 that it is blocked by a negative one, 3 that it is muted.
abbrev pub crossed_spoiler : SpoilerAnswer → RuleSpoiler
crossed_spoiler (Ok spoilt.Valid) = record { refused = 0; spoiled = 0; place = 0; atom = 0 }
crossed_spoiler (Ok spoilt.Muted) = record { refused = 0; spoiled = 3; place = 0; atom = 0 }
crossed_spoiler (Ok (spoilt.Positive i a)) = record { refused = 0; spoiled = 1; place = i; atom = a.0 }
crossed_spoiler (Ok (spoilt.Negative i a)) = record { refused = 0; spoiled = 2; place = i; atom = a.0 }
crossed_spoiler (Err f) = record { refused = number_of f; spoiled = 0; place = 0; atom = 0 }

abbrev pub crossed_list : ListAnswer → Written
crossed_list (Ok n) = record { refused = 0; count = n }
crossed_list (Err f) = record { refused = number_of f; count = needed_by f }

abbrev pub crossed_change : ChangeAnswer → Table → Accepted
crossed_change (Ok done) u = record { refused = 0; table = u }
crossed_change (Err f) u = record { refused = number_of f; table = u }

abbrev pub crossed_complete : CompleteAnswer → Completeness
crossed_complete (Ok true) = record { refused = 0; complete = 1 }
crossed_complete (Ok false) = record { refused = 0; complete = 0 }
crossed_complete (Err f) = record { refused = number_of f; complete = 0 }
