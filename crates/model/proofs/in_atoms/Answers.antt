-- `model::in_atoms` answers the admissible model and the rounds of each layer. Assumes nothing.
-- Before layer k all layers below it have ended; above the highest there are no heads.
use Rattle.std.proofs.Common.{suc, ◌<◌, refl, arith, rules}
use Rattle.theory.specs.Limits.{document}
use Rattle.table.specs.Words.{rules_of}
use Rattle.table.proofs.Words.{rules-length}
use Rattle.model.proofs.Rounds.{between_start, between_next, between-end, stratum-room}
use Rattle.model.proofs.in_atoms.Goals as goal
use Rattle.model.proofs.in_atoms.Goals.{After-fill_stratum-n}

pub loop-k-init : goal.loop-k-init
loop-k-init c =
    between_start (rules_of c.args.table.now) _ c.requires _ c.highest-top.ensures document.atoms
    (suc document.slots) refl refl

pub fill_stratum-n-requires : goal.fill_stratum-n-requires
fill_stratum-n-requires c = c.loop-k.invariant.ready

-- the highest layer has a place in the array of rounds
room :
    (c : After-fill_stratum-n)
    → c.highest-top.result < suc document.slots
room c =
    let len = rules-length c.args.table.now in
    stratum-room (rules_of c.args.table.now) _ c.requires _ c.highest-top.ensures len

pub bounds-rounds-k : goal.bounds-rounds-k
bounds-rounds-k c = (let r = room c in search rules)

pub loop-k-preserved : goal.loop-k-preserved
loop-k-preserved c =
    let len = rules-length c.args.table.now in
    let told = c.highest-top.ensures in
    between_next (rules_of c.args.table.now) _ c.requires _ told len _ _ _ _ _
    c.loop-k.invariant c.fill_stratum-n.ensures (omega arith)

pub returns : goal.returns
returns c = absurd (omega (arith, c.loop-k.auto.k-end, c.loop-k-test.false))

pub returns-2 : goal.returns-2
returns-2 c =
    let len = rules-length c.args.table.now in
    let told = c.highest-top.ensures in
    between-end (rules_of c.args.table.now) _ c.requires _ told len _ _ _ _ _
    c.loop-k.invariant c.fill_stratum-n.ensures _ (omega arith)
