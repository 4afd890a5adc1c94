pub mod LabelLines
