-- What the functions behind the list of files tell each other; the contracts stand in `checklist_meaning`.
pub mod Parts
