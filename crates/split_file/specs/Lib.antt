-- `Spelling`: the bytes of a code, as one list
-- `Reader`, `Reading`: readers of places and texts, over those of `byte_format`; the code at the front of bytes, or the
--     first fault, item by item
-- `File`: the code of whole files, and which codes have one
-- `Put`: items that were put behind bytes, with a fact that holds of each
pub mod Examples
pub mod File
pub mod Put
pub mod Reader
pub mod Reading
pub mod Shapes
pub mod Spelling
