pub mod InsnRules
