pub mod Eyes
pub mod Points
