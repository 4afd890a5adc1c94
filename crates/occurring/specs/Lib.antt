-- What the contracts say: of the exported function (Occurrence), and of one slot of the pass (Marks).
pub mod Occurrence
pub mod Marks
