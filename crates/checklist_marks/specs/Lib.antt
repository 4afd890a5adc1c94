-- What the functions behind the calls on a file tell each other; the contract stands in `checklist_meaning`.
pub mod Parts
