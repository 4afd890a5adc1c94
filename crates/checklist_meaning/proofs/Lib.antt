-- Laws of a checklist's pages, of its model and of its calls' contracts.
pub mod Questions
pub mod Marks
pub mod Model
pub mod Determined
pub mod Shown
pub mod Opened
