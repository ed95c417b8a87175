pub mod MadePrograms
pub mod Made
