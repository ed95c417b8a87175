pub mod KeyLines
pub mod OpenedLinks
