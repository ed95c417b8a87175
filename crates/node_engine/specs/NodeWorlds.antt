-- A node with all that it has of the outside, the parts of which its work is made, and which error may break which
-- part.
--
-- A node is told by parts. Its contract names no count of units done and no ghost list: a recursion over the parts of a
-- unit says where it broke, and a table which error may break which part.
use Rattle.std.specs.Prelude.{◌≡◌, ◌⊎◌, ℕ, Bool, true, List, [], ◌∷◌, ◌++◌, drop, take}
use Rattle.js_base.specs.declared.ids.HostId.{HostId}
use Rattle.host_core.specs.Host.{HostState}
use Rattle.node_engine.specs.declared.node_error.NodeError.{NodeError}
use Rattle.node_engine.specs.declared.node_error.NodeError.TheVariants.{OutOfMemory, LinkFault, OutFault}
use Rattle.node_seals.specs.Seals.{SealsShape, after_opening, after_sealing}

-- The node's host, and its seals; the strings that its links have left to give, the next one first; those that were
-- sent, each with the host that it was sent to; the bytes of the journal; and whether the root said that the program is
-- done.
pub record NodeWorld : Type 0 where
  pub host : HostState
  pub seals : SealsShape
  pub left : List (List ℕ)
  pub sent : List (HostId × List ℕ)
  pub journal : List ℕ
  pub ended : Bool

-- What is inside of a node: what no part changes that is not a step, an opening or a sealing.
pub record Inside : Type 0 where
  pub host : HostState
  pub seals : SealsShape

abbrev pub inside_of : NodeWorld → Inside
inside_of world = record { host = world.host; seals = world.seals }

-- A part: the next string is taken from the links; what is sealed of it, on the link from a host, is opened; the host
-- makes a step, and is this after it; the root's word that the program is done is heard; a line of the journal is put;
-- a frame is sealed for the link to a host; or a string is sent to a host.
pub data NodePart : Type 0 where
  Taking : NodePart
  Opening : HostId → NodePart
  Step : HostState → NodePart
  Hearing : NodePart
  Line : List ℕ → NodePart
  Sealing : HostId → NodePart
  Sending : HostId → List ℕ → NodePart

-- the world after a part
abbrev pub do_part : NodePart → NodeWorld → NodeWorld
do_part Taking world = record world { left = drop 1 world.left }
do_part (Opening from) world = record world { seals = after_opening from world.seals }
do_part (Step host) world = record world { host = host }
do_part Hearing world = record world { ended = true }
do_part (Line bytes) world = record world { journal = world.journal ++ bytes }
do_part (Sealing to) world = record world { seals = after_sealing to world.seals }
do_part (Sending to bytes) world = record world { sent = world.sent ++ (to, bytes) ∷ [] }

-- and after parts in order
abbrev pub do_all : List NodePart → NodeWorld → NodeWorld
do_all [] world = world
do_all (part ∷ parts) world = do_all parts (do_part part world)

-- ---- parts that break

-- This error breaks the part, and leaves this world. A link fault comes only at a taking, where nothing was taken, or
-- at a send, where the string was sent or not; an output fault only at a line, of which a front was put. Want of memory
-- may come at each part but the hearing, which wants none, and leaves no more than these; after it a step was not made,
-- and nothing was opened or sealed. It also tells that a link had all the frames that can be sealed for it.
abbrev pub Breaks : NodeError → NodePart → NodeWorld → NodeWorld → Type 0
Breaks OutOfMemory Taking world new = new ≡ world
Breaks OutOfMemory (Opening from) world new = new ≡ world
Breaks OutOfMemory (Step host) world new = new ≡ world
Breaks OutOfMemory Hearing world new = ⊥
Breaks OutOfMemory (Line bytes) world new = (n : ℕ) × (new ≡ do_part (Line (take n bytes)) world)
Breaks OutOfMemory (Sealing to) world new = new ≡ world
Breaks OutOfMemory (Sending to bytes) world new = (new ≡ world) ⊎ (new ≡ do_part (Sending to bytes) world)
Breaks LinkFault Taking world new = new ≡ world
Breaks LinkFault (Sending to bytes) world new = (new ≡ world) ⊎ (new ≡ do_part (Sending to bytes) world)
Breaks LinkFault part world new = ⊥
Breaks OutFault (Line bytes) world new = (n : ℕ) × (new ≡ do_part (Line (take n bytes)) world)
Breaks OutFault part world new = ⊥

-- the parts before some part were done, and that one broke
abbrev pub BreaksIn : NodeError → List NodePart → NodeWorld → NodeWorld → Type 0
BreaksIn error [] world new = ⊥
BreaksIn error (part ∷ parts) world new =
    Breaks error part world new ⊎ BreaksIn error parts (do_part part world) new
