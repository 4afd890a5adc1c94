-- `file_saving::write_zeros` meets its contract. Assumes nothing.
use Prim.Native.Nat.{◌-◌}
use mathlib.Core.Path.{◌≡◌}
use lib.ListN.{replicate}
use borrow.Author.Rules.{rules}
use Rattle.file_saving.proofs.Written.{wrote-zeros}
use Rattle.file_saving.proofs.write_zeros.Goals as goal

pub returns : goal.returns
returns c =
    let a = c.args in
    let zeros : c.fill.new.self ≡ replicate (a.to - a.at) 0 = search rules in
    wrote-zeros a.at a.to c.requires.0 c.requires.1 zeros
