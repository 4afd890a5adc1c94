-- What the contracts cite. A reader of `reach` believes Edges; Rounds is what its parts promise one another.
pub mod Edges
pub mod Rounds
