pub mod LackingDrafts
pub mod LackingTrees
pub mod LackingPrograms
