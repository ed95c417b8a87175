-- `Traits`: traits, and one that fails between two labels
-- `Causes`: what brings a trait into expressions, program labels and variables: functions beside those of `LabelRules`,
--     row by row
-- `Listed`: who acts for whom, as a test; which pairs and principals are listed of those that fail
-- `Asks`: what each statement asks for: its constraint, what it names, and what brings a trait into the label that is
--     asked about. The walk is that of `LabelRules`
-- `Reasons`: what fails of a constraint, the reasons of what is asked for, and the first that is refused
-- `Programs`: what the laws need of a program
-- `CauseExamples`, `ReasonExamples`: small programs
pub mod Traits
pub mod Causes
pub mod CauseExamples
pub mod Listed
pub mod Asks
pub mod Reasons
pub mod Programs
pub mod ReasonExamples
pub mod Search
