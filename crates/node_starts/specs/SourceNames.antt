-- The file that a node's code comes from: a program, which is placed and split, or a split file.
use Rattle.std.specs.Prelude.{ℕ, List}
use Rattle.js_base.specs.declared.limits.TheConstants.{PROGRAM_BYTES, SPLIT_FILE_BYTES}
use Rattle.node_starts.specs.declared.source_word.SourceWord.{SourceWord}
use Rattle.node_starts.specs.declared.source_word.SourceWord.TheVariants as word

-- where a node's code comes from
pub data SourceName : Type 0 where
  Program : List ℕ → SourceName
  Code : List ℕ → SourceName

-- the file that it names
abbrev pub name_of : SourceName → List ℕ
name_of (Program name) = name
name_of (Code name) = name

-- how many bytes of it are read
abbrev pub most_of : SourceName → ℕ
most_of (Program name) = PROGRAM_BYTES
most_of (Code name) = SPLIT_FILE_BYTES

-- the word that was read, as contracts see it
abbrev pub source_name : SourceWord → SourceName
source_name (word.Program name) = Program name.now
source_name (word.Code name) = Code name.now
