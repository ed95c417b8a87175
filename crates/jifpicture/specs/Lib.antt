-- `Picture`: what a picture is drawn by, and its text
-- `Standing`, `Staying`: what rows show, and which ways may stay on their host
-- `Due`, `Answers`: what is due for the words, and what is answered and put out
pub mod Answers
pub mod Due
pub mod Picture
pub mod Standing
pub mod Staying
