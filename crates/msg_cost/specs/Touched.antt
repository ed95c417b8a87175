-- What is counted of a plan where one part of it may be moved.
use Rattle.std.specs.Prelude.{ℕ, List, Option, Some, None, slice_get, option_map, unwrap_or}
use Rattle.std.specs.Global.{Vec}
use Rattle.host_decl.specs.Hosts.{HostsShape}
use Rattle.js_base.specs.declared.ids.StmtId.{StmtId}
use Rattle.need_labels.specs.Labelled.{Labelled}
use Rattle.need_labels.specs.Needs.{NeedsShape}
use Rattle.need_labels.specs.Plan.{PlanShape}
use Rattle.msg_cost.specs.declared.index.Index.{Index}
use Rattle.msg_cost.specs.declared.piece.Piece.{Piece as Kept}
use Rattle.msg_cost.specs.declared.step.Step.{Step}
use Rattle.msg_cost.specs.declared.step.Step.TheVariants as step
use Rattle.msg_cost.specs.Moves.{PlannedShape, planned_of}
use Rattle.msg_cost.specs.Pieces.{pieces_cost, others_cost, program_pieces}
use Rattle.msg_cost.specs.PieceViews.{all_pieces}

-- the statement that a step moves
abbrev pub moved_by : Step → Option StmtId
moved_by (step.Field field host) = None
moved_by (step.Statement statement host) = Some statement

-- what the pieces of a row cost that are no walks, or what all pieces cost where there is no such row
abbrev pub row_others : PlannedShape → Option StmtId → List (Vec Kept) → ℕ → ℕ
row_others planned moved rows number =
    unwrap_or (option_map (λ row. others_cost planned moved (all_pieces row.items)) (slice_get rows number))
    (pieces_cost planned moved (program_pieces planned.program))

-- What is counted for a move beside walks: the pieces that the index has for the part, and all pieces, with the walks,
-- where it has no row for it.
abbrev pub touched_others : PlannedShape → Index → Step → ℕ
touched_others planned index (step.Field field host) = row_others planned None index.fields.items field.0
touched_others planned index (step.Statement statement host) =
    row_others planned (Some statement) index.statements.items statement.0

-- the same under a plan
abbrev pub touched_cost : Labelled → NeedsShape → HostsShape → Index → Step → PlanShape → ℕ
touched_cost labelled needs hosts index step plan =
    touched_others (planned_of labelled needs hosts plan) index step
