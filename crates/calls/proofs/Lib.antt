-- Laws about the contracts. Nothing here needs to be believed.
pub mod OneTable
pub mod Asking
pub mod Determined
pub mod Sizes
