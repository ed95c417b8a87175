pub mod Checking
pub mod Parts
pub mod Places
pub mod RuleExamples
pub mod RuleLaws
