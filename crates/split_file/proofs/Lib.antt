-- `Sequels`: the laws of readers in a row that read places
-- `SoundCodes`: from what is tested while reading to a code that is sound
pub mod Appends
pub mod ExpressionLaws
pub mod FileLaws
pub mod FrontLaws
pub mod Items
pub mod NextItems
pub mod NumberLaws
pub mod OperandLaws
pub mod OperationLaws
pub mod PartLaws
pub mod Sequels
pub mod SoundCodes
pub mod SoundParts
pub mod StartLaws
pub mod TableLaws
pub mod Temporaries
pub mod VariableNames
