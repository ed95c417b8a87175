-- What links and journal tell, the world of a node that they make with what is inside of it, and what goes on between
-- two moments.
use Rattle.std.specs.Prelude.{◌≡◌, ◌≤◌, ℕ, Bool, false, List, ◌∷◌, Option, Some}
use Rattle.js_base.specs.Counts.{Rose}
use Rattle.js_base.specs.declared.ids.HostId.{HostId}
use Rattle.js_base.specs.declared.sink.Sink as sink
use Rattle.js_base.specs.declared.status.Status.{Status}
use Rattle.js_base.specs.declared.status.Status.TheVariants as status
use Rattle.host_code.specs.Code.{CodeShape}
use Rattle.host_core.specs.Fits.{HostFits}
use Rattle.host_core.specs.Host.{state_of}
use Rattle.node_links.specs.declared.links.Links as links
use Rattle.node_engine.specs.declared.node.Node.{Node}
use Rattle.node_engine.specs.declared.node_error.NodeError.{NodeError}
use Rattle.node_engine.specs.NodeWorlds.{Inside, NodeWorld, NodePart, Taking, do_part, do_all, BreaksIn}
use Rattle.node_engine.specs.Serving.{Serves}
use Rattle.node_engine.specs.Statuses.{status_of}
use Rattle.node_engine.specs.Units.{AreUnitParts, IsUnit}

-- What links tell: how many faults they counted; and where they tell it, as which host they began, each time with the
-- paths of all hosts, what they have left to give, and what they took.
pub record LinksTold : Type 0 where
  pub faults : ℕ
  pub begun : Option (List (HostId × List (List ℕ)))
  pub left : Option (List (List ℕ))
  pub sent : Option (List (HostId × List ℕ))

-- what a journal tells: how many faults it counted, and what it took, where it tells
pub record JournalTold : Type 0 where
  pub faults : ℕ
  pub taken : Option (List ℕ)

pub record Outside : Type 0 where
  pub links : LinksTold
  pub journal : JournalTold

-- what links and a journal of these kinds tell
abbrev pub outside : {L R : Type 0} → links.Ghosts L → sink.Ghosts R → L → R → Outside
outside of to there journal = record {
  links = record {
    faults = of.faults there;
    begun = of.begun there;
    left = of.left there;
    sent = of.sent there;
  };
  journal = record { faults = to.faults journal; taken = to.taken journal };
}

-- the names of the hosts whose journal a journal was said to be, where it tells
abbrev pub JournalNames : Type 0
JournalNames = Option (List (List ℕ))

-- at some moment a journal that tells its names so tells these
abbrev pub Reaches : {R : Type 0} → (R → JournalNames) → JournalNames → Type 0
Reaches {R} named names = (there : R) × (named there ≡ names)

-- what is told before and after a call, with the names of the journal
pub record NodeChange : Type 0 where
  pub old : Outside
  pub new : Outside
  pub names_before : JournalNames
  pub names_after : JournalNames

abbrev pub node_change : {L R : Type 0} → links.Ghosts L → sink.Ghosts R → (named : R → JournalNames) →
    (before after : L) → (journal later : R) → NodeChange
node_change of to named before after journal later = record {
  old = outside of to before journal;
  new = outside of to after later;
  names_before = named journal;
  names_after = named later;
}

-- what is inside of a node, and what is told outside of it
pub record Seen : Type 0 where
  pub inside : Inside
  pub outside : Outside

-- what is inside of a node
abbrev pub inside : {L R : Type 0} → Node L R → Inside
inside node = record { host = state_of node.host.now; seals = node.seals.now }

-- what is seen of it
abbrev pub seen : {L R : Type 0} → links.Ghosts L → sink.Ghosts R → Node L R → Seen
seen of to node = record {
  inside = inside node;
  outside = outside of to node.links.now node.journal.now;
}

-- all is told, and makes this world
pub record IsAllTold (world : NodeWorld) (there : Seen) : Type 0 where
  pub host_is : there.inside.host ≡ world.host
  pub seals_is : there.inside.seals ≡ world.seals
  pub left_is : there.outside.links.left ≡ Some world.left
  pub sent_is : there.outside.links.sent ≡ Some world.sent
  pub journal_is : there.outside.journal.taken ≡ Some world.journal

-- it makes some world of which this is so
abbrev pub TellsOf : (NodeWorld → Type 0) → Seen → Type 0
TellsOf P there = (world : NodeWorld) × IsAllTold world there × P world

-- ---- faults

-- a count rose, and did not fall
pub record Rises (before after : ℕ) : Type 0 where
  pub no_less : before ≤ after
  pub rose : Rose before after

-- between two moments links and journal counted the faults of what this answer blames, and of nothing else
abbrev pub Faults : Status → Outside → Outside → Type 0
Faults status.LinkFault old new = Rises old.links.faults new.links.faults × (new.journal.faults ≡ old.journal.faults)
Faults status.OutFault old new = (new.links.faults ≡ old.links.faults) × Rises old.journal.faults new.journal.faults
Faults answer old new = (new.links.faults ≡ old.links.faults) × (new.journal.faults ≡ old.journal.faults)

-- what each part of a node's work leaves, whether links and journal tell or not: it has the faults of its answer, and
-- links did not begin in it
pub record Leaves (answer : Status) (old new : Outside) : Type 0 where
  pub faults : Faults answer old new
  pub begun : new.links.begun ≡ old.links.begun

-- ---- between two moments, whatever the world was

-- this frame was taken
pub record TakesFrame (bytes : List ℕ) (old new : Seen) : Type 0 where
  pub after : (world : NodeWorld) → IsAllTold world old →
      IsAllTold (do_part Taking world) new × ((rest : List (List ℕ)) × (world.left ≡ bytes ∷ rest))
  pub leaves : Leaves status.Done old.outside new.outside

-- these parts were done
pub record PartsAreDone (parts : List NodePart) (old new : Seen) : Type 0 where
  pub after : (world : NodeWorld) → IsAllTold world old → IsAllTold (do_all parts world) new
  pub leaves : Leaves status.Done old.outside new.outside

-- or this error broke one of them
pub record Stops (error : NodeError) (parts : List NodePart) (old new : Seen) : Type 0 where
  pub after : (world : NodeWorld) → IsAllTold world old → TellsOf (BreaksIn error parts world) new
  pub leaves : Leaves (status_of error) old.outside new.outside

-- a unit of a node was done, after which the root did or did not say that the program is done
pub record DoesUnit {L R : Type 0} (ended : Bool) (node : Node L R) (old new : Seen) : Type 0 where
  pub after : (world : NodeWorld) → IsAllTold world old → world.ended ≡ false →
      (parts : List NodePart) × AreUnitParts node.code.now node.me world parts × IsUnit world
      × IsAllTold (do_all parts world) new × ((do_all parts world).ended ≡ ended)
  pub leaves : Leaves status.Done old.outside new.outside

-- or this error broke it
pub record StopsUnit {L R : Type 0} (error : NodeError) (node : Node L R) (old new : Seen) : Type 0 where
  pub after : (world : NodeWorld) → IsAllTold world old →
      (parts : List NodePart) × AreUnitParts node.code.now node.me world parts
      × TellsOf (BreaksIn error parts world) new
  pub leaves : Leaves (status_of error) old.outside new.outside

-- so many units at most were done, and it ended with this answer
pub record ServesFrom (code : CodeShape) (me : HostId) (units : ℕ) (answer : Status) (old new : Seen) : Type 0 where
  pub after : (world : NodeWorld) → IsAllTold world old → world.ended ≡ false →
      TellsOf (Serves code me units answer world) new

-- ---- a node and what it is lent

-- it has the same host, seals, links and journal yet, which may have changed
pub record IsSameNode {L R : Type 0} (old new : Node L R) : Type 0 where
  pub code : new.code.now ≡ old.code.now
  pub me : new.me ≡ old.me
  pub host : new.host.ghost_name ≡ old.host.ghost_name
  pub seals : new.seals.ghost_name ≡ old.seals.ghost_name
  pub links : new.links.ghost_name ≡ old.links.ghost_name
  pub journal : new.journal.ghost_name ≡ old.journal.ghost_name

-- and its host did not change
pub record HasSameHost {L R : Type 0} (old new : Node L R) : Type 0 where
  pub node : IsSameNode old new
  pub host_is : new.host.now ≡ old.host.now

-- and its seals did not change
pub record HasSameInside {L R : Type 0} (old new : Node L R) : Type 0 where
  pub same : HasSameHost old new
  pub seals_is : new.seals.now ≡ old.seals.now

-- its host fits the code and has the node's number
pub record IsNodeReady {L R : Type 0} (node : Node L R) : Type 0 where
  pub fits : HostFits node.code.now node.host.now
  pub me : node.host.now.me ≡ node.me
