-- Private: which files lack something, as the functions behind the list tell it. No exported contract speaks of it.
-- Assumes nothing.
use Rattle.std.specs.Prelude.{ℕ, suc, ◌≡◌, Bool, not, ◌&&◌, ◌||◌, List, length}
use Rattle.std.proofs.Math.Option.{some}
use Rattle.table.specs.Sets.{member}
use Rattle.checklist_frame.specs.Frame.{most_files, sent, skipped, on_list}

-- Of each number, whether it is one of n files, and unsent or with a skip standing by the atoms that are in.
pub record Lacking (atoms : List Bool) (n : ℕ) (lacks : List Bool) : Type 0 where
  pub size : length lacks ≡ suc most_files
  pub each :
      (i : ℕ)
      → member lacks i ≡ (on_list (some n) i && (not (member atoms (sent i)) || member atoms (skipped i)))
