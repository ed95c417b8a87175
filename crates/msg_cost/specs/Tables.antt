-- From where on hosts are trusted in a block, as tables have it.
use Rattle.std.specs.Prelude.{◌≡◌, ◌↔◌, ℕ, ◌<◌, IsTrue, List, [], length, nat_le, slice_index, slice_index_or}
use Rattle.std.specs.List.{All}
use Rattle.std.specs.Global.{Vec}
use Rattle.js_base.specs.declared.ids.HostId.{HostId}
use Rattle.js_base.specs.declared.limits.TheConstants.{HOSTS}
use Rattle.host_decl.specs.Hosts.{HostsShape}
use Rattle.jif_tree.specs.declared.program.Method.{Method}
use Rattle.jif_tree.specs.declared.program.Stmt.{Stmt}
use Rattle.jif_tree.specs.Trees.{ProgramTree}
use Rattle.need_labels.specs.Needs.{NeedsShape}
use Rattle.need_labels.specs.Plan.{PlanShape}
use Rattle.msg_cost.specs.declared.piece.Piece.{Piece as Kept}
use Rattle.msg_cost.specs.declared.piece.Piece.TheVariants as kept
use Rattle.msg_cost.specs.declared.table.TheConstants.{FAR}
use Rattle.msg_cost.specs.declared.trust.Trust.{Trust}
use Rattle.msg_cost.specs.declared.trust.Trust.TheVariants as trust
use Rattle.msg_cost.specs.declared.walk.Walk.{Walk}
use Rattle.msg_cost.specs.Kept.{is_trusted_from, AreTrustedTo}
use Rattle.msg_cost.specs.Moves.{PlannedShape}
use Rattle.msg_cost.specs.Walks.{IsAscending}

-- what a program needs and the hosts, with a program and a plan
abbrev pub planned_with : NeedsShape → HostsShape → ProgramTree → PlanShape → PlannedShape
planned_with needs hosts program plan = record {
  program = program;
  needs = needs;
  hosts = hosts;
  plan = plan;
}

-- The place is the first of a block from which the host is trusted for all statements to the end, whatever the program
-- and the plan. Of places from `FAR` on nothing is said.
abbrev pub IsTrustedSince : NeedsShape → HostsShape → HostId → List Stmt → ℕ → Type 0
IsTrustedSince needs hosts host block first = (program : ProgramTree) (plan : PlanShape) (place : ℕ) →
    place < FAR → is_trusted_from (planned_with needs hosts program plan) host block place ≡ nat_le first place

-- for each host the first place of a block from which it is trusted for all statements to the end
abbrev pub IsTable : NeedsShape → HostsShape → List Stmt → List ℕ → Type 0
IsTable needs hosts block table = (host : HostId) → host.0 < HOSTS →
    IsTrustedSince needs hosts host block (slice_index table host.0)

-- what is known at a place of a block is right
abbrev pub IsRight : PlannedShape → List Stmt → ℕ → Trust → Type 0
IsRight planned block place (trust.Noted ends) = AreTrustedTo planned block place ends
IsRight planned block place (trust.Table table) = IsTable planned.needs planned.hosts block table.now

-- a walk has the table of its block, and says whether the numbers of its statements ascend
pub record KnowsBlock (needs : NeedsShape) (hosts : HostsShape) (walk : Walk) : Type 0 where
  pub ascends : IsTrue walk.ascending ↔ IsAscending walk.block.now
  pub table : IsTable needs hosts walk.block.now walk.table

-- a piece knows its block, where it is a walk or depends on one
abbrev pub HasTable : NeedsShape → HostsShape → Kept → Type 0
HasTable needs hosts (kept.Access weight statement field) = Unit {0}
HasTable needs hosts (kept.Giving walk place statement variable) = KnowsBlock needs hosts walk
HasTable needs hosts (kept.Passing weight statement method variable) = Unit {0}
HasTable needs hosts (kept.Calling weight statement method kept) = Unit {0}
HasTable needs hosts (kept.Walk walk) = KnowsBlock needs hosts walk
HasTable needs hosts (kept.Ending method) = Unit {0}

-- each of these pieces knows its block, where it depends on one
abbrev pub HaveTables : NeedsShape → HostsShape → List Kept → Type 0
HaveTables needs hosts pieces = All (HasTable needs hosts) pieces

-- the same of each row
abbrev pub RowsHaveTables : NeedsShape → HostsShape → List (Vec Kept) → Type 0
RowsHaveTables needs hosts rows = All (λ row. HaveTables needs hosts row.items) rows

-- the tables of the bodies of methods
pub record AreBodies (needs : NeedsShape) (hosts : HostsShape) (methods : List Method) (tables : List (List ℕ)) :
    Type 0 where
  pub long : length tables ≡ length methods
  pub are : (number : ℕ) (method : Method) → number < length methods → method ≡ slice_index_or methods number method →
      IsTable needs hosts method.body.items (slice_index_or tables number [])
