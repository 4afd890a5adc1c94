-- `fields::write_number` meets its contract. The loop's invariant: the digits of what is left, then those stored,
-- are the number's, and what is left is below the power of ten for which there is room. Assumes nothing.
use Prim.Native.Nat.{◌+◌, ◌-◌, ◌%◌, ◌≤◌, ◌<◌}
use native.Mathlib.Omega.{arith}
use mathlib.Core.Path.{◌≡◌, refl, ◌∙◌}
use mathlib.Core.List.{append-nil}
use lib.ListN.{length, drop, take, set, length-set, length-drop}
use lib.Seq.{take_all}
use Rattle.fields.specs.Fields.{decimal}
use Rattle.fields.proofs.Decimals.{digit-next, digit-first, room-for-more, room-behind}
use Rattle.fields.proofs.write_number.Goals as goal

pub loop-rest-init : goal.loop-rest-init
loop-rest-init c = (refl, omega arith, omega (arith, c.ranges.n.fits), append-nil (decimal c.args.n))

pub overflow_sub-i : goal.overflow_sub-i
overflow_sub-i c = omega (arith, room-for-more _ _ c.loop-rest.invariant.2 c.loop-rest-test.true)

pub loop-rest-preserved : goal.loop-rest-preserved
loop-rest-preserved c =
    let l = c.loop-rest in
    let some_left : 0 < l.i = room-for-more _ _ l.invariant.2 c.loop-rest-test.true in
    let front : l.i - 1 + 1 ≡ l.i = omega arith in (
      length-set l.digits l.i (48 + l.rest % 10) ∙ l.invariant.0,
      omega arith,
      rw front (room-behind l.rest l.i l.invariant.2),
      rw front (digit-next l.digits l.i l.rest (omega arith) _ l.invariant.3 c.loop-rest-test.true),
    )

pub slice_bounds-write_bytes-end : goal.slice_bounds-write_bytes-end
slice_bounds-write_bytes-end c =
    let l = c.loop-rest in
    simp length-set (omega (arith, l.invariant.0))

pub returns : goal.returns
returns c =
    let wb = c.write_bytes in
    let a = c.args in
    let l = c.loop-rest in
    let stored = set l.digits l.i (48 + l.rest) in
    let small : l.rest < 10 = c.loop-rest-test.false in
    let long : length (drop l.i stored) ≤ 10 - l.i =
    omega (arith, length-drop l.i stored, length-set l.digits l.i (48 + l.rest), l.invariant.0) in
    let spelled : take (10 - l.i) (drop l.i stored) ≡ decimal a.n =
    take_all (10 - l.i) (drop l.i stored) long
    ∙ digit-first l.digits l.i l.rest (omega arith) _ l.invariant.3 small in
    rw spelled at wb.ensures
