-- How the call ends that tells the rule in a slot: a reader of that call believes it.
pub mod RuleTold
