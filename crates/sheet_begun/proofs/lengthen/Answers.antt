-- `sheet_begun::lengthen` meets its contract: behind the bytes of the line stand those that were copied. Assumes nothing.
use Prim.Native.Nat.{◌+◌}
use native.Mathlib.Omega.{arith}
use mathlib.Core.Path.{◌≡◌, refl, ◌∙◌, ap}
use mathlib.Core.List.{◌++◌}
use lib.ListN.{length, take}
use lib.Seq.{length-take-le}
use Rattle.std.proofs.lemmas.Slice.{take-put_mid}
use Rattle.sheet_begun.proofs.Lengthening.{longer-held, begun_sized}
use Rattle.sheet_begun.proofs.lengthen.Goals as goal

pub returns : goal.returns
returns c =
    let begun = c.args.begun in
    let bytes = c.args.bytes.now in
    let end = c.min-end.result in
    let n = c.min-n.result in
    let part = c.copy_from_slice.new.self in
    let long = begun_sized begun _ c.well_formed.0 in
    let copied : part ≡ take n bytes = c.copy_from_slice.ensures.after in
    let size = ap length copied ∙ length-take-le n bytes (omega (arith, c.min-n.ensures)) in
    longer-held begun bytes n long c.min-end.ensures c.min-n.ensures refl
    (take-put_mid end _ begun.bytes part (end + n) (omega (arith, size)) (omega (arith, c.min-end.ensures, long))
    ∙ ap (λ ys. take end begun.bytes ++ ys) copied)
