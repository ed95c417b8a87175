-- `SomeRows`, `OneRun`, `SomeRun`: events that happen have rows; one verdict is due, and some verdict is
-- `AsReplay`: what is drawn and refused is what a replay makes happen and refuses
-- `Exposures`, `ShownFields`: which fields are kept, and where they are shown
-- `RunSources`: what a chart is drawn by is what is defined
pub mod AsReplay
pub mod Exposures
pub mod OneRun
pub mod RunSources
pub mod ShownFields
pub mod SomeRows
pub mod SomeRun
