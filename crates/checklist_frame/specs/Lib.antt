-- The frame and the marks of a checklist (request #106). A reader of its calls believes Frame; Parts is private.
pub mod Frame
pub mod Parts
