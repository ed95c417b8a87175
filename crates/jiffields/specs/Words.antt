-- The words, and the files that they name. A word is the list of its bytes.
use Rattle.std.specs.Prelude.{ℕ, List, [], ◌∷◌, codes}
use Rattle.node_starts.specs.SourceNames.{SourceName, Program, Code, name_of, source_name}
use Rattle.jiffields.specs.declared.words.Asked as native

-- what is asked for: the fields of a host, by the source of its code, and the names of a host file, of a file of
-- starting values and of a journal
pub record FieldsAsked : Type 0 where
  pub source : SourceName
  pub hosts : List ℕ
  pub host : List ℕ
  pub start : List ℕ
  pub journal : List ℕ

-- `CODE HOSTS HOST START JOURNAL`, or `--program P HOSTS HOST START JOURNAL`
abbrev pub words_with : SourceName → List (List ℕ) → List (List ℕ)
words_with (Code name) others = name ∷ others
words_with (Program name) others = codes "--program" ∷ name ∷ others

abbrev pub words_of : FieldsAsked → List (List ℕ)
words_of asked = words_with asked.source (asked.hosts ∷ asked.host ∷ asked.start ∷ asked.journal ∷ [])

-- the files that are loaded, in order
abbrev pub files_of : FieldsAsked → List (List ℕ)
files_of asked = name_of asked.source ∷ asked.hosts ∷ asked.start ∷ asked.journal ∷ []

-- ---- in the program

abbrev pub asked_shape : native.Asked → FieldsAsked
asked_shape asked = record {
  source = source_name asked.source;
  hosts = asked.hosts.now;
  host = asked.host.now;
  start = asked.start.now;
  journal = asked.journal.now;
}
