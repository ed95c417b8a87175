pub mod DueFiles
pub mod Rereading
pub mod StoppedStages
pub mod OneExplanation
pub mod OneVerdict
pub mod SomeVerdict
pub mod LineLaws
pub mod PlacesAgain
