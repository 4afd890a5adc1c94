-- Laws behind replacing a rule, and what request #107 asks to be shown. Nothing here needs to be believed.
pub mod Ends
pub mod Shown
