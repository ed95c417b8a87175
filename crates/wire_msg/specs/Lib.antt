-- `Spelling`: the bytes of a frame, as one list
-- `Frames`: which frames may be sent, and what their types keep
-- `Reader`, `Reading`: the readers of `byte_format` with the refusals of frames; the frame of bytes, or the first
--     fault, field by field
-- `Faults`: the first fault, by a table of lengths and of the places of tokens and of a count
pub mod Examples
pub mod Faults
pub mod Frames
pub mod Reader
pub mod Reading
pub mod Spelling
