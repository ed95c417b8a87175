pub mod Label
pub mod Lattice
pub mod Over
pub mod Written
pub mod Reading
pub mod Printed
pub mod PrintedExamples
