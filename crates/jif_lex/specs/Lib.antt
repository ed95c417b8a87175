pub mod Symbols
pub mod Tokens
pub mod Lexing
pub mod TokenLists
pub mod Spelled
pub mod SpelledExamples
