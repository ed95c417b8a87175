pub mod Cells
pub mod Order
pub mod RowPlaces
