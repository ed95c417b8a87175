-- What the statements of a block need of their hosts from each place on.
use Rattle.std.specs.Prelude.{◌≡◌, ℕ, suc, ◌≤◌, Bool, false, List, [], ◌∷◌, length, drop, slice_index_or}
use Rattle.js_base.specs.declared.ids.HostId.{HostId}
use Rattle.js_base.specs.declared.ids.StmtId.{StmtId}
use Rattle.need_labels.specs.Plan.{statement_host}
use Rattle.msg_cost.specs.Moves.{PlannedShape, is_same}
use Rattle.split_rules.specs.Walk.{need_of, row_on, behind_row}
use Rattle.control_split.specs.declared.needs.Ahead.{Ahead}

-- whether statements begin on this host
abbrev pub begins_on : PlannedShape → HostId → List StmtId → Bool
begins_on planned host [] = false
begins_on planned host (statement ∷ others) = is_same (statement_host planned.plan statement) host

-- the statements in a row on the host of the first, and those behind them
abbrev pub first_row : PlannedShape → List StmtId → List StmtId
first_row planned [] = []
first_row planned (statement ∷ others) = row_on planned (statement_host planned.plan statement) (statement ∷ others)

abbrev pub behind_first_row : PlannedShape → List StmtId → List StmtId
behind_first_row planned [] = []
behind_first_row planned (statement ∷ others) =
    behind_row planned (statement_host planned.plan statement) (statement ∷ others)

abbrev pub ahead_of : PlannedShape → List StmtId → Ahead
ahead_of planned statements = record {
  all = need_of planned statements;
  row = need_of planned (first_row planned statements);
  behind = need_of planned (behind_first_row planned statements);
}

-- the statements begin on this host, and need so much
pub record IsAhead (planned : PlannedShape) (host : HostId) (statements : List StmtId) (ahead : Ahead) : Type 0 where
  pub all : ahead.all ≡ need_of planned statements
  pub row : ahead.row ≡ need_of planned (row_on planned host statements)
  pub behind : ahead.behind ≡ need_of planned (behind_row planned host statements)

-- for each place of a block, and behind its last statement
pub record AreAhead (planned : PlannedShape) (statements : List StmtId) (needs : List Ahead) : Type 0 where
  pub count : length needs ≡ suc (length statements)
  pub each : (place : ℕ) (other : Ahead) → place ≤ length statements →
      slice_index_or needs place other ≡ ahead_of planned (drop place statements)
