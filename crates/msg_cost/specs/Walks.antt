-- Walks over the statements of a block, up to a place of it, under a plan and behind the move of one statement.
use Rattle.std.specs.Prelude.{◌≡◌, ◌≢◌, ℕ, zero, suc, ◌+◌, ◌^◌, ◌<◌, ◌≤◌, List, [], ◌∷◌, None, length, map, slice_index}
use Rattle.std.specs.List.{AllByRecursion}
use Rattle.js_base.specs.declared.ids.HostId.{HostId}
use Rattle.js_base.specs.declared.ids.StmtId.{StmtId}
use Rattle.host_decl.specs.Hosts.{HostsShape}
use Rattle.jif_tree.specs.declared.program.Stmt.{Stmt}
use Rattle.need_labels.specs.Plan.{PlanShape, statement_host}
use Rattle.msg_cost.specs.declared.around.Around.{Around}
use Rattle.msg_cost.specs.declared.spot.Spot.{Spot}
use Rattle.msg_cost.specs.declared.walk_change.Change.{Change}
use Rattle.msg_cost.specs.Cost.{cost_of}
use Rattle.msg_cost.specs.Moves.{PlannedShape, on, next_spot}
use Rattle.msg_cost.specs.Terms.{Term}
use Rattle.msg_cost.specs.Views.{capped}

-- the spot at which a walk stands behind so many statements
abbrev pub spot_behind : PlannedShape → Spot → List StmtId → ℕ → Spot
spot_behind planned spot own zero = spot
spot_behind planned spot [] (suc count) = spot
spot_behind planned spot (statement ∷ others) (suc count) =
    spot_behind planned (next_spot planned spot statement others) others count

-- behind so many statements a walk stands at the spot, wherever it began, and goes on from there alone
pub record IsSettled (planned : PlannedShape) (own : List StmtId) (count : ℕ) (spot : Spot) : Type 0 where
  pub at : (home : HostId) → spot_behind planned (on home) own count ≡ spot
  pub alone : spot.back ≡ None

-- ---- where a statement stands in a block

-- the number of the statement at a place
abbrev pub number_at : List Stmt → ℕ → ℕ
number_at block place = slice_index (map (λ statement. statement.id.0) block) place

-- the numbers of the statements ascend
abbrev pub IsAscending : List Stmt → Type 0
IsAscending block = (first second : ℕ) → first < second → second < length block →
    number_at block first < number_at block second

-- the place is the first whose statement has this number or a higher one
pub record IsPlaceFrom (block : List Stmt) (number place : ℕ) : Type 0 where
  pub within : place ≤ length block
  pub before : (other : ℕ) → other < place → number_at block other < number
  pub from : (other : ℕ) → place ≤ other → other < length block → number ≤ number_at block other

-- the statement is not among the first ones, so many, and not among those from a place on
pub record IsAround (statement : StmtId) (block : List Stmt) (around : Around) : Type 0 where
  pub within : around.before ≤ length block
  pub before : (place : ℕ) → place < around.before → number_at block place ≢ statement.0
  pub behind : (place : ℕ) → around.behind ≤ place → place < length block → number_at block place ≢ statement.0

-- ---- before and behind a move

-- the same, under another plan
abbrev pub under : PlannedShape → PlanShape → PlannedShape
under planned plan = record planned { plan = plan }

-- the statements stand on the same hosts
abbrev pub SameHosts : PlannedShape → PlanShape → List StmtId → Type 0
SameHosts planned plan statements =
    AllByRecursion (λ statement. statement_host planned.plan statement ≡ statement_host plan statement) statements

-- two plans differ at most in the host of a statement
pub record IsMoved (statement : StmtId) (before after : PlannedShape) : Type 0 where
  pub same : after ≡ under before after.plan
  pub stay : (other : StmtId) → other.0 ≢ statement.0 →
      statement_host before.plan other ≡ statement_host after.plan other

-- ---- sums

-- the total so far, and the terms that are left, cost what all terms do
pub record CostsWith (hosts : HostsShape) (all : List Term) (total : ℕ) (left : List Term) : Type 0 where
  pub fits : total < 2 ^ 64
  pub is : capped (cost_of hosts all) ≡ capped (total + cost_of hosts left)

-- Of two sums it has parts. What is left of the first is what is left of the second.
pub record IsChange (before after : ℕ) (change : Change) : Type 0 where
  pub left : ℕ
  pub was : capped before ≡ capped (change.before + left)
  pub is : capped after ≡ capped (change.after + left)
