pub mod CommandWords
pub mod MadeCounts
pub mod WordForms
