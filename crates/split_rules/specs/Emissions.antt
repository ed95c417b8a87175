-- What a walk over a program gives, in its order: instructions of hosts, entries, and where these stand. Code is read
-- off such a list, and nothing of it changes once it is given. Entries and branches are numbered in the order in which
-- they are given.
use Rattle.std.specs.Prelude.{ℕ, suc, List, [], ◌∷◌}
use Rattle.js_base.specs.declared.ids.HostId.{HostId}
use Rattle.js_base.specs.declared.ids.StmtId.{StmtId}
use Rattle.label_lattice.specs.declared.label.Label.{Label}
use Rattle.host_code.specs.declared.code_expr.Node.{Node}
use Rattle.host_code.specs.declared.instruction.Op.{Op}
use Rattle.host_code.specs.declared.instruction.Op.TheVariants as op

-- An instruction, with its program label and the statement that it is made for. A branch has its number as its target.
-- Besides stand the operands whose values it releases, by their nodes, of which code has nothing.
pub record Emitted : Type 0 where
  pub host : HostId
  pub label : Label
  pub statement : StmtId
  pub op : Op
  pub released : List (List Node)

-- an entry on a host, with its program label and a word of those who have to trust whoever enters
pub record NamedEntry : Type 0 where
  pub host : HostId
  pub label : Label
  pub need : ℕ

pub data Emission : Type 0 where
  instruction : Emitted → Emission
  entry : NamedEntry → Emission
  -- the entry of this number stands at the next instruction of the host
  stands : HostId → ℕ → Emission
  -- the branch of this number leads to the next instruction of the host
  lands : HostId → ℕ → Emission

-- how many entries and branches there are
pub record Counts : Type 0 where
  pub entries : ℕ
  pub branches : ℕ

abbrev pub one_more_branch : Op → Counts → Counts
one_more_branch (op.Branch guard target) counts =
    record { entries = counts.entries; branches = suc counts.branches }
one_more_branch other counts = counts

abbrev pub counts_with : Counts → Emission → Counts
counts_with counts (instruction emitted) = one_more_branch emitted.op counts
counts_with counts (entry named) = record { entries = suc counts.entries; branches = counts.branches }
counts_with counts (stands host number) = counts
counts_with counts (lands host number) = counts

abbrev pub counts_after : Counts → List Emission → Counts
counts_after counts [] = counts
counts_after counts (emission ∷ others) = counts_after (counts_with counts emission) others
