pub mod LabelsOver
pub mod DraftLines
