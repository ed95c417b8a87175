pub mod ProgramLabels
