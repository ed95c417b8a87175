pub mod ItemLaws
pub mod Items
pub mod NumberLaws
pub mod Sequels
