-- The calls of the deposit checklist (request #106): a reader of them believes these, the definitions of
-- `checklist_frame` and those of `calls`.
pub mod Questions
pub mod Book
pub mod Ends
