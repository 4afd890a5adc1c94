-- `probe::probe_sound` meets its contract. Assumes nothing.
use Rattle.std.specs.Prelude.{◌≡◌, ◌↔◌, Bool, true, false}
use Rattle.std.specs.Int.{from_bool}
use mathlib.Core.Path.{refl}
use Rattle.theory.proofs.Lists.{clash}
use Rattle.table.specs.declared.Table.{Table}
use Rattle.table.specs.Sound.{Sound}
use Rattle.probe.specs.Probes.{SoundProbe, is_sound, is_not}
use Rattle.probe.proofs.probe_sound.Goals as goal

-- The test's answer as a number.
told : (t : Table) (b : Bool) → (b ≡ true) ↔ Sound t → SoundProbe t (from_bool b)
told t true w = is_sound (w.0 refl)
told t false w = is_not (λ S. clash (w.1 S) refl)

pub returns : goal.returns
returns c = rw c.from.ensures (told _ _ c.sound.ensures)
