-- What the code finds is sized: what owning it tells of its array of rounds. Assumes nothing.
use Rattle.std.proofs.Common.{◌≡◌, suc, List, length}
use mir.Val.{Val}
use denote.Laws.{Is}
use denote.Struct.Declared.{row}
use Rattle.theory.specs.Limits.{document}
use Rattle.model.specs.declared.Search.{Search}
use Rattle.model.specs.contracts.Search as search-type

pub rounds-sized : (r : Search) (vs : List Val) → Is (row search-type.the_type) r vs
    → length r.rounds ≡ suc document.slots
rounds-sized r vs p = p.1.1.1.0.1.0.1
