-- `Phrases`: the phrases of a program, with a node for each pair of parentheses
-- `Operators`, `Grouping`: how operators are written and how they group; what else is asked of phrases
-- `Marks`, `Spelling`: the tokens of a phrase, each with its nesting and what begins at it; the limits
-- `DraftShapes`, `Drafts`: drafts without pointers, with the one bridge from those of `jif_tree`, and the draft of
--     phrases
-- `Programs`: which tokens are a program, begin one, or are refused
-- `Unmarked`: the tokens of a phrase without marks, before others
-- `Due`: what may come after the first tokens of a program, token by token
-- `Nesting`, `Verdicts`: the same with the constructs that are open around it, which gives each token its mark; and
--     what tokens are refused for, found in one walk
pub mod Phrases
pub mod Operators
pub mod Due
pub mod Marks
pub mod Spelling
pub mod Unmarked
pub mod Grouping
pub mod DraftShapes
pub mod Drafts
pub mod Programs
pub mod Nesting
pub mod Verdicts
