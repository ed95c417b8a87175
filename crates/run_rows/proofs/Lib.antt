mod AskedIn
mod Changes
mod FittingRows
mod Ignoring
mod OneRow
mod PicturedMore
mod Postings
mod RowLaws
mod SeenAfter
mod SlotLists
mod StackLists
pub mod StatesOf
pub mod TakenOff
pub mod Tellings
pub mod TurnTraces
