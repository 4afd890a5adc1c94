-- What the functions behind `open` tell each other; its contract stands in `checklist_meaning`.
pub mod Parts
