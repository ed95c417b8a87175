pub mod NodeSources
pub mod SourceNames
