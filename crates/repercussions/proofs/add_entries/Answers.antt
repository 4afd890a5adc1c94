-- `repercussions::add_entries` meets its contract. Assumes nothing.
-- The loop keeps: the first `j` entries have their edges.
use native.Mathlib.Omega.{arith}
use mathlib.Core.Path.{◌≡◌, ◌∙◌}
use lib.ListN.{length}
use Rattle.theory.specs.Limits.{document}
use Rattle.table.specs.Rules.{rule_of}
use Rattle.table.proofs.Entries.{entries-are}
use Rattle.repercussions.proofs.Edges.{entering-start, entering-next, entering-over}
use Rattle.repercussions.proofs.add_entries.Goals as goal
use Rattle.repercussions.proofs.add_entries.Goals.{Start}

-- what owning the rule tells of its entries
long : (s : Start) → length s.args.rule.entries ≡ document.entries
long s = s.well_formed.0.1.1.1.1.1.1.0.1.0.1

pub loop-j-init : goal.loop-j-init
loop-j-init c = (omega arith, entering-start _ _ _ _ _)

pub add_edge-at-requires : goal.add_edge-at-requires
add_edge-at-requires c =
    let at = c.loop-j in
    omega (arith, at.invariant.1.counted, c.negative_end-n.ensures)

pub loop-j-preserved : goal.loop-j-preserved
loop-j-preserved c =
    let k = long c.before.before.before.before.before.before.before.before in (
      omega arith,
      entering-next c.args.rule.entries c.loop-j.j (omega arith) c.loop-j.invariant.1 c.add_edge-at.ensures,
    )

pub returns : goal.returns
returns c =
    let e : c.loop-j.j ≡ c.negative_end-n.result = omega arith in
    let all = entries-are c.args.rule document.entries (long c.before.before.before.before) _ (e ∙ c.negative_end-n.ensures) in
    entering-over (rule_of c.args.rule) c.args.rule.entries c.loop-j.j (omega arith) all c.loop-j.invariant.1
