-- `fields::write_bytes` meets its contract. Assumes nothing.
use Prim.Native.Nat.{◌+◌, ◌≤◌}
use native.Mathlib.Omega.{arith}
use mathlib.Core.Path.{refl, ◌∙◌}
use lib.ListN.{length}
use Rattle.std.proofs.lemmas.Slice.{put_mid-paste}
use Rattle.fields.proofs.Buffers.{paste_all}
use Rattle.fields.proofs.Wrote.{wrote-all, wrote_none}
use Rattle.fields.proofs.write_bytes.Goals as goal

pub returns-then-out-at : goal.returns-then-out-at
returns-then-out-at c = wrote_none (omega (arith, c.if-out-at.true))

pub returns-then-out-at-2 : goal.returns-then-out-at-2
returns-then-out-at-2 c = wrote_none (omega (arith, c.if-out-at-2.true, c.if-out-at.false))

pub returns : goal.returns
returns c =
    let a = c.args in
    let room : a.at + length a.bytes.now ≤ length a.out.now = omega arith in
    let copied = put_mid-paste a.at _ a.out.now _ a.bytes.now (length a.bytes.now) c.copy_from_slice.ensures.after (omega arith) refl in
    let whole = copied ∙ paste_all a.out.now a.at a.bytes.now in
    wrote-all room (record { room = room; buffer = whole; place = refl })
