pub mod TokenOrder
pub mod LoadedFiles
