-- How a node begins: links learn which host it is and the paths of all hosts, and then the journal the host's name.
use Rattle.std.specs.Prelude.{◌≡◌, ◌⊎◌, ℕ, List}
use Rattle.js_base.specs.declared.ids.HostId.{HostId}
use Rattle.js_base.specs.declared.status.Status.{Status}
use Rattle.js_base.specs.declared.status.Status.TheVariants as status
use Rattle.node_links.specs.Journals.{JournalIsNamed}
use Rattle.node_links.specs.Links.{Began}
use Rattle.node_engine.specs.Told.{NodeChange}

-- the number of the node's host, the paths of all hosts in order, and the host's name
pub record NodeBeginning : Type 0 where
  pub me : HostId
  pub paths : List (List ℕ)
  pub name : List ℕ

-- no frame was taken or sent, and nothing was noted
pub record IsNodeIdle (change : NodeChange) : Type 0 where
  pub left : change.new.links.left ≡ change.old.links.left
  pub sent : change.new.links.sent ≡ change.old.links.sent
  pub journal : change.new.journal.taken ≡ change.old.journal.taken

-- links began, once more than before
abbrev pub LinksBegan : NodeBeginning → NodeChange → Type 0
LinksBegan start change = Began start.me start.paths change.old.links.begun change.new.links.begun

-- nothing began, and nothing else changed
pub record BeginsNothing (change : NodeChange) : Type 0 where
  pub outside : change.new ≡ change.old
  pub names : change.names_after ≡ change.names_before

-- links and journal began, and nothing else was done
pub record HasBegun (start : NodeBeginning) (change : NodeChange) : Type 0 where
  pub links : LinksBegan start change
  pub names : JournalIsNamed start.name change.names_before change.names_after
  pub idle : IsNodeIdle change

-- links were to begin, and did so or not; the journal learned nothing
pub record BreaksAtLinks (start : NodeBeginning) (answer : Status) (change : NodeChange) : Type 0 where
  pub by : (answer ≡ status.NoMemory) ⊎ (answer ≡ status.LinkFault)
  pub links : (change.new.links.begun ≡ change.old.links.begun) ⊎ LinksBegan start change
  pub names : change.names_after ≡ change.names_before
  pub idle : IsNodeIdle change

-- links began, and the journal was to learn the host's name, and did so or not
pub record BreaksAtJournal (start : NodeBeginning) (answer : Status) (change : NodeChange) : Type 0 where
  pub by : (answer ≡ status.NoMemory) ⊎ (answer ≡ status.OutFault)
  pub links : LinksBegan start change
  pub names : (change.names_after ≡ change.names_before)
      ⊎ JournalIsNamed start.name change.names_before change.names_after
  pub idle : IsNodeIdle change

-- it does not come to its first unit: memory ran out before it was to begin, or it broke at its links or its journal
abbrev pub EndsUnbegun : NodeBeginning → Status → NodeChange → Type 0
EndsUnbegun start answer change =
    ((answer ≡ status.NoMemory) × BeginsNothing change)
    ⊎ BreaksAtLinks start answer change
    ⊎ BreaksAtJournal start answer change
