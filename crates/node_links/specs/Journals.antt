-- Whose journal it is, where it tells, and what a journal in memory is to its callers.
use Rattle.std.specs.Prelude.{ℕ, List, [], ◌∷◌, ◌++◌, Option}
use Rattle.js_base.specs.MemSink.{SinkInMemory}
use Rattle.node_links.specs.Links.{OneMore}

-- it was told that it is the journal of a host of this name
abbrev pub JournalIsNamed : List ℕ → Option (List (List ℕ)) → Option (List (List ℕ)) → Type 0
JournalIsNamed name old new = OneMore name old new

-- the sink that takes the lines, and the names that were told
pub record JournalInMemory : Type 0 where
  pub sink : SinkInMemory
  pub named : List (List ℕ)

-- with a name behind those that were told
abbrev pub after_name : List ℕ → JournalInMemory → JournalInMemory
after_name name state = record state { named = state.named ++ name ∷ [] }
