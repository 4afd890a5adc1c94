-- Laws behind muting a rule, and what request #108 asks to be shown. Nothing here needs to be believed.
pub mod Ends
pub mod Shown
