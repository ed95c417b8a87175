-- What contracts see of the places of a walk.
use Rattle.std.specs.Prelude.{◌≤◌, All, List, [], ◌∷◌, Option, Some, None}
use Rattle.js_base.specs.declared.ids.VarId.{VarId}
use Rattle.jif_tree.specs.Trees.{BlockTree, ExprTree, method_tree}
use Rattle.jif_tree.specs.Sizes.{expr_nodes, block_nodes}
use Rattle.host_code.specs.declared.code_expr.TheConstants.{MOST_NODES}
use Rattle.need_labels.specs.Labelled.{Labelled, labelled_of}
use Rattle.msg_cost.specs.Moves.{PlannedShape}
use Rattle.split_rules.specs.Placed.{PlacedProgram, placed_of, planned_from}
use Rattle.split_rules.specs.Walk.{Walked, Around, Lane, walked_in}
use Rattle.control_split.specs.declared.walk.Split.{Split}
use Rattle.control_split.specs.declared.walk.Walk.{Walk}
use Rattle.control_split.specs.declared.walk.Around.{Around as BlockAround}
use Rattle.control_split.specs.declared.walk.Lane.{Lane as BlockLane}

abbrev pub labelled_in : Split → Labelled
labelled_in split = labelled_of split.checked.now

abbrev pub placed_in : Split → PlacedProgram
placed_in split = placed_of split.checked.now split.needs.now split.hosts.now split.plan.now

abbrev pub planned_in : Split → PlannedShape
planned_in split = planned_from (placed_in split)

abbrev pub walked_of : Walk → Walked
walked_of walk =
    walked_in walk.split.hosts.now.principals (labelled_in walk.split) (planned_in walk.split)
    (method_tree walk.method.now)

abbrev pub around_of : BlockAround → Around
around_of around = record { owner = around.owner; pc = around.pc.now }

-- the variable that rides, where one does
abbrev pub riding_of : Option VarId → List VarId
riding_of None = []
riding_of (Some x) = x ∷ []

-- the variables that ride, where some do
abbrev pub riders_of : Option (List VarId) → List VarId
riders_of None = []
riders_of (Some riders) = riders

abbrev pub lane_of : BlockLane → Lane
lane_of lane = record { spot = lane.spot; return_entry = lane.return_entry; riding = riding_of lane.riding }

-- the expressions have so few nodes that their code has no more than it may have
abbrev pub IsSizedExpr : ExprTree → Type 0
IsSizedExpr expr = expr_nodes expr ≤ MOST_NODES

abbrev pub IsSizedBlock : BlockTree → Type 0
IsSizedBlock block = All (λ nodes. nodes ≤ MOST_NODES) (block_nodes block)
