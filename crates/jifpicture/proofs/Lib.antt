-- `Sheets`: what a picture is drawn by is what is defined
-- `Shown`: hosts and fields of a program in its picture
-- `Numbers`: which rows show which fields and statements
-- `Between`: which ways stay on their host
-- `Read`: what is known of a program that was read, for its texts and marks
-- `DueFiles`, `OneVerdict`, `SomeVerdict`, `Completeness`: what is due for words and files
pub mod Between
pub mod Completeness
pub mod DueFiles
pub mod Numbers
pub mod OneVerdict
pub mod Read
pub mod Sheets
pub mod Shown
pub mod SomeVerdict
