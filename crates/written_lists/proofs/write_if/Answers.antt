-- `written_lists::write_if` meets its contract. Assumes nothing.
use mathlib.Core.Path.{refl}
use Rattle.written_lists.proofs.Written.{appends-passed, appends-stored}
use Rattle.written_lists.proofs.write_if.Goals as goal

pub returns-then-not-flag : goal.returns-then-not-flag
returns-then-not-flag c =
    let a = c.args in
    appends-passed _ a.place a.flag _ _ c.if-not-flag.true refl

pub returns : goal.returns
returns c =
    let a = c.args in
    appends-stored _ a.place a.flag _ _ c.if-not-flag.false c.write_at.ensures
