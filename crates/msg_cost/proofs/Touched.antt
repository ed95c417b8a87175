-- What is counted for a move costs little, and differs as the costs of the plans do.
use Rattle.std.proofs.Common.{◌≡◌, ◌⊎◌, inl, inr, ℕ, zero, suc, ◌+◌, ◌<◌, ◌^◌, ◌∙◌, List, [], ◌∷◌, length, refl, ap}
use Rattle.std.proofs.Common.{sym, subst, arith}
use Rattle.std.proofs.lemmas.List.Sums.{sum_by-cons}
use Rattle.std.specs.Prelude.{Option, Some, None, slice_index_or, slice_get, option_map, unwrap_or}
use Rattle.std.specs.Global.{Vec}
use Rattle.host_decl.specs.Hosts.{AreHosts}
use Rattle.jif_tree.specs.Limits.{IsWithinLimits}
use Rattle.js_base.specs.declared.ids.FieldId.{FieldId}
use Rattle.js_base.specs.declared.ids.HostId.{HostId}
use Rattle.js_base.specs.declared.ids.StmtId.{StmtId}
use Rattle.msg_cost.specs.declared.index.Index.{Index}
use Rattle.msg_cost.specs.declared.piece.Piece.{Piece as Kept}
use Rattle.msg_cost.specs.declared.step.Step.{Step}
use Rattle.msg_cost.specs.declared.step.Step.TheVariants as step
use Rattle.msg_cost.specs.declared.walk_change.Change.{Change}
use Rattle.msg_cost.specs.Cost.{cost_of}
use Rattle.msg_cost.specs.Moves.{PlannedShape}
use Rattle.msg_cost.specs.Pieces.{CostPiece, access, giving, passing, calling, walk, ending, piece_cost, pieces_cost}
use Rattle.msg_cost.specs.Pieces.{walk_cost}
use Rattle.msg_cost.specs.Pieces.{walks_cost, other_cost, others_cost, program_pieces}
use Rattle.msg_cost.specs.PieceViews.{all_pieces}
use Rattle.msg_cost.specs.Rows.{HasCostRows, AreRows, rows_of, numbers_of, pieces_with, kind_of, number_of}
use Rattle.msg_cost.specs.Steps.{moved}
use Rattle.msg_cost.specs.Terms.{program_terms}
use Rattle.msg_cost.specs.Touched.{moved_by, row_others, touched_others}
use Rattle.msg_cost.proofs.Quiet.{quiet_all}
use Rattle.msg_cost.specs.Touches.{statements_of}
use Rattle.msg_cost.specs.Views.{capped}
use Rattle.msg_cost.specs.Walks.{under, IsMoved, IsChange}
use Rattle.msg_cost.proofs.Bounds.{program_small}
use Rattle.msg_cost.proofs.ByPieces.{by_pieces}
use Rattle.msg_cost.proofs.Changes.{row_small, changed, statements_stay}
use Rattle.msg_cost.proofs.Independent.{piece_same}
use Rattle.msg_cost.proofs.Seats.{set_other}
use Rattle.msg_cost.proofs.WalkChanges.{nothing_changed}

-- ---- rows

-- the pieces of a row, or all where there is no such row
abbrev row_or_all : List (Vec Kept) → ℕ → List CostPiece → List CostPiece
row_or_all rows number all = unwrap_or (option_map (λ row. all_pieces row.items) (slice_get rows number)) all

-- the pieces that are counted for a move: those that the index has for the part, and all where it has no row for it
abbrev touched_pieces : PlannedShape → Index → Step → List CostPiece
touched_pieces planned index (step.Field field host) =
    row_or_all index.fields.items field.0 (program_pieces planned.program)
touched_pieces planned index (step.Statement statement host) =
    row_or_all index.statements.items statement.0 (program_pieces planned.program)

there : (rows : List (Vec Kept)) (number : ℕ) (all : List CostPiece) →
    ((number < length (rows_of rows)) × (row_or_all rows number all ≡ slice_index_or (rows_of rows) number []))
    ⊎ (row_or_all rows number all ≡ all)
there [] number all = inr refl
there (row ∷ rows) zero all = inl (omega arith, refl)
there (row ∷ rows) (suc number) all = elim (there rows number all) [
  | inl found ↦ let within = found.0 in inl (omega arith, found.1)
  | inr none ↦ inr none
]

row_is : (touched : CostPiece → List ℕ) (all : List CostPiece) (rows : List (Vec Kept)) →
    AreRows touched all (rows_of rows) →
    (number : ℕ) →
    (row_or_all rows number all ≡ pieces_with touched number all) ⊎ (row_or_all rows number all ≡ all)
row_is touched all rows are number = elim (there rows number all) [
  | inl found ↦ inl (found.1 ∙ are.rows_are number found.0)
  | inr none ↦ inr none
]

-- they are those that depend on the part, or all
touched_are : (planned : PlannedShape) (index : Index) → HasCostRows planned.program planned.needs index →
    (move : Step) → (touched_pieces planned index move
    ≡ pieces_with (numbers_of (kind_of move) planned.program planned.needs) (number_of move)
    (program_pieces planned.program))
    ⊎ (touched_pieces planned index move ≡ program_pieces planned.program)
touched_are planned index is (step.Field field host) =
    row_is (numbers_of (kind_of (step.Field field host)) planned.program planned.needs) (program_pieces planned.program)
    index.fields.items is.fields field.0
touched_are planned index is (step.Statement statement host) =
    row_is (numbers_of (kind_of (step.Statement statement host)) planned.program planned.needs)
    (program_pieces planned.program) index.statements.items is.statements statement.0

-- ---- walks and other pieces

one_or_other : (planned : PlannedShape) (part : Option StmtId) (piece : CostPiece) →
    walk_cost planned part piece + other_cost planned part piece ≡ piece_cost planned part piece
one_or_other planned part (access weight statement field) = omega arith
one_or_other planned part (giving weight statement x home own place) = omega arith
one_or_other planned part (passing weight statement method x) = omega arith
one_or_other planned part (calling weight statement method kept) = omega arith
one_or_other planned part (walk weight home nested own) = omega arith
one_or_other planned part (ending method) = omega arith

both_kinds : (planned : PlannedShape) (part : Option StmtId) (pieces : List CostPiece) →
    walks_cost planned part pieces + others_cost planned part pieces ≡ pieces_cost planned part pieces
both_kinds planned part [] = omega arith
both_kinds planned part (piece ∷ others) =
    let one = one_or_other planned part piece in
    let rest = both_kinds planned part others in
    let walks = sum_by-cons (walk_cost planned part) piece others in
    let other = sum_by-cons (other_cost planned part) piece others in
    let all = sum_by-cons (piece_cost planned part) piece others in
    omega arith

-- what the walks of a row cost, nothing where there is no such row
abbrev row_walks : PlannedShape → Option StmtId → List (Vec Kept) → ℕ → ℕ
row_walks planned part rows number =
    unwrap_or (option_map (λ row. walks_cost planned part (all_pieces row.items)) (slice_get rows number)) 0

abbrev pub touched_walks : PlannedShape → Index → Step → ℕ
touched_walks planned index (step.Field field host) = row_walks planned None index.fields.items field.0
touched_walks planned index (step.Statement statement host) =
    row_walks planned (Some statement) index.statements.items statement.0

row_parts : (planned : PlannedShape) (part : Option StmtId) (rows : List (Vec Kept)) (number : ℕ) →
    row_walks planned part rows number + row_others planned part rows number
    ≡ pieces_cost planned part (row_or_all rows number (program_pieces planned.program))
row_parts planned part [] number = omega arith
row_parts planned part (row ∷ rows) zero = both_kinds planned part (all_pieces row.items)
row_parts planned part (row ∷ rows) (suc number) = row_parts planned part rows number

touched_parts : (planned : PlannedShape) (index : Index) (move : Step) →
    touched_walks planned index move + touched_others planned index move
    ≡ pieces_cost planned (moved_by move) (touched_pieces planned index move)
touched_parts planned index (step.Field field host) = row_parts planned None index.fields.items field.0
touched_parts planned index (step.Statement statement host) =
    row_parts planned (Some statement) index.statements.items statement.0

-- ---- costs

all_small : (planned : PlannedShape) → AreHosts planned.hosts → IsWithinLimits planned.program →
    (index : Index) → HasCostRows planned.program planned.needs index → (move : Step) →
    pieces_cost planned (moved_by move) (touched_pieces planned index move) < 2 ^ 62
all_small planned sound sized index is move = elim (touched_are planned index is move) [
  | inl row ↦
      let counted = row_small planned sound sized (moved_by move) _ (touched_pieces planned index move) row
      (capped (pieces_cost planned (moved_by move) (touched_pieces planned index move))) refl in
      let same = counted.0 in
      let small = counted.1 in
      omega arith
  | inr all ↦
      let whole = program_small planned sound sized in
      let parts = by_pieces planned (moved_by move) in
      let same = ap (pieces_cost planned (moved_by move)) all in
      omega arith
]

pub others_small : (planned : PlannedShape) → AreHosts planned.hosts → IsWithinLimits planned.program →
    (index : Index) → HasCostRows planned.program planned.needs index → (move : Step) → (total : ℕ) →
    total ≡ capped (touched_others planned index move) →
    (total ≡ touched_others planned index move) × (total < 2 ^ 62)
others_small planned sound sized index is move total counted =
    let all = all_small planned sound sized index is move in
    let parts = touched_parts planned index move in
    (omega arith, omega arith)

-- what a move changes is what it changes of that
touched_changed : (planned : PlannedShape) (index : Index) → HasCostRows planned.program planned.needs index →
    (move : Step) →
    cost_of planned.hosts (program_terms (under planned (moved planned.plan move)))
    + pieces_cost planned (moved_by move) (touched_pieces planned index move)
    ≡ cost_of planned.hosts (program_terms planned)
    + pieces_cost (under planned (moved planned.plan move)) (moved_by move) (touched_pieces planned index move)
touched_changed planned index is move =
    let then = under planned (moved planned.plan move) in
    let parts = by_pieces planned (moved_by move) in
    let then_parts = by_pieces then (moved_by move) in
    elim (touched_are planned index is move) [
      | inl row ↦
          let change = changed planned move (program_pieces planned.program) in
          let same = ap (pieces_cost planned (moved_by move)) row in
          let then_same = ap (pieces_cost then (moved_by move)) row in
          omega arith
      | inr all ↦
          let same = ap (pieces_cost planned (moved_by move)) all in
          let then_same = ap (pieces_cost then (moved_by move)) all in
          omega arith
    ]

same_pieces : (planned : PlannedShape) (index : Index) (move : Step) →
    touched_pieces (under planned (moved planned.plan move)) index move ≡ touched_pieces planned index move
same_pieces planned index (step.Field field host) = refl
same_pieces planned index (step.Statement statement host) = refl

-- the cost of a plan changes as that of walks and of other pieces does, and these changes are small
pub walks_changed : (planned : PlannedShape) → AreHosts planned.hosts → IsWithinLimits planned.program →
    (index : Index) → HasCostRows planned.program planned.needs index → (move : Step) → (change : Change) →
    IsChange (touched_walks planned index move)
    (touched_walks (under planned (moved planned.plan move)) index move) change →
    (cost_of planned.hosts (program_terms (under planned (moved planned.plan move)))
    + (touched_others planned index move + change.before)
    ≡ cost_of planned.hosts (program_terms planned)
    + (touched_others (under planned (moved planned.plan move)) index move + change.after))
    × ((change.before < 2 ^ 62) × (change.after < 2 ^ 62))
walks_changed planned sound sized index is move change are =
    let then = under planned (moved planned.plan move) in
    let all = touched_changed planned index is move in
    let first = touched_parts planned index move in
    let second = touched_parts then index move in
    let same = ap (pieces_cost then (moved_by move)) (same_pieces planned index move) in
    let small = all_small planned sound sized index is move in
    let then_small = all_small then sound sized index is move in
    let was = are.was in
    let now = are.is in
    (omega arith, (omega arith, omega arith))

-- ---- fields

-- walks don't depend on the hosts of fields
walk_stays : (planned : PlannedShape) (field : FieldId) (host : HostId) (piece : CostPiece) →
    walk_cost planned None piece
    ≡ walk_cost (under planned (moved planned.plan (step.Field field host))) None piece
walk_stays planned field host (access weight statement other) = refl
walk_stays planned field host (giving weight statement x home own place) = refl
walk_stays planned field host (passing weight statement method x) = refl
walk_stays planned field host (calling weight statement method kept) = refl
walk_stays planned field host (walk weight home nested own) =
    ap (cost_of planned.hosts)
    (piece_same planned (moved planned.plan (step.Field field host)) None (walk weight home nested own)
    (quiet_all planned (moved planned.plan (step.Field field host)) (statements_stay planned field host)) tt tt
    (statements_stay planned field host (statements_of planned.program planned.needs (walk weight home nested own))))
walk_stays planned field host (ending method) = refl

walks_stay : (planned : PlannedShape) (field : FieldId) (host : HostId) (pieces : List CostPiece) →
    walks_cost planned None pieces
    ≡ walks_cost (under planned (moved planned.plan (step.Field field host))) None pieces
walks_stay planned field host [] = refl
walks_stay planned field host (piece ∷ others) =
    let one = walk_stays planned field host piece in
    let rest = walks_stay planned field host others in
    let was = sum_by-cons (walk_cost planned None) piece others in
    let now = sum_by-cons (walk_cost (under planned (moved planned.plan (step.Field field host))) None) piece others in
    omega arith

row_stays : (planned : PlannedShape) (field : FieldId) (host : HostId) (rows : List (Vec Kept)) (number : ℕ) →
    row_walks planned None rows number
    ≡ row_walks (under planned (moved planned.plan (step.Field field host))) None rows number
row_stays planned field host [] number = refl
row_stays planned field host (row ∷ rows) zero = walks_stay planned field host (all_pieces row.items)
row_stays planned field host (row ∷ rows) (suc number) = row_stays planned field host rows number

pub field_moved : (planned : PlannedShape) (index : Index) (field : FieldId) (host : HostId) →
    IsChange (touched_walks planned index (step.Field field host))
    (touched_walks (under planned (moved planned.plan (step.Field field host))) index (step.Field field host))
    (record { before = 0; after = 0 })
field_moved planned index field host =
    let same = row_stays planned field host index.fields.items field.0 in
    record {
      left = touched_walks planned index (step.Field field host);
      was = omega arith;
      is = omega arith;
    }

-- ---- statements

pub statement_moves : (planned : PlannedShape) (statement : StmtId) (host : HostId) →
    IsMoved statement planned (under planned (moved planned.plan (step.Statement statement host)))
statement_moves planned statement host = record {
  same = refl;
  stay = λ other apart.
      set_other planned.plan.statements statement.0 other.0 host (λ same. apart (sym same));
}

touched_there : (planned : PlannedShape) (index : Index) (move : Step) (statement : StmtId) (host : HostId)
    (row : Vec Kept) → move ≡ step.Statement statement host →
    slice_get index.statements.items statement.0 ≡ Some row →
    touched_walks planned index move ≡ walks_cost planned (Some statement) (all_pieces row.items)
touched_there planned index move statement host row is found =
    ap (touched_walks planned index) is
    ∙ ap (λ (one : Option (Vec Kept)).
    unwrap_or (option_map (λ (row : Vec Kept). walks_cost planned (Some statement) (all_pieces row.items)) one) 0) found

-- the walks of the row of the statement are those that the move touches
pub row_moved : (planned : PlannedShape) (index : Index) (move : Step) (statement : StmtId) (host : HostId)
    (row : Vec Kept) (change : Change) → move ≡ step.Statement statement host →
    slice_get index.statements.items statement.0 ≡ Some row →
    IsChange (walks_cost planned (Some statement) (all_pieces row.items))
    (walks_cost (under planned (moved planned.plan move)) (Some statement) (all_pieces row.items)) change →
    IsChange (touched_walks planned index move)
    (touched_walks (under planned (moved planned.plan move)) index move) change
row_moved planned index move statement host row change is found changed =
    let behind = under planned (moved planned.plan move) in
    let Changed : ℕ → ℕ → Type 0 = λ was now. IsChange was now change in
    subst (Changed (touched_walks planned index move))
    (sym (touched_there behind index move statement host row is found))
    (subst (λ (was : ℕ). Changed was (walks_cost behind (Some statement) (all_pieces row.items)))
    (sym (touched_there planned index move statement host row is found)) changed)

touched_nowhere : (planned : PlannedShape) (index : Index) (move : Step) (statement : StmtId) (host : HostId) →
    move ≡ step.Statement statement host → slice_get index.statements.items statement.0 ≡ None →
    touched_walks planned index move ≡ 0
touched_nowhere planned index move statement host is none =
    ap (touched_walks planned index) is
    ∙ ap (λ (one : Option (Vec Kept)).
    unwrap_or (option_map (λ (row : Vec Kept). walks_cost planned (Some statement) (all_pieces row.items)) one) 0) none

-- where there is no row for the statement, no walks are counted
pub absent_moved : (planned : PlannedShape) (index : Index) (move : Step) (statement : StmtId) (host : HostId) →
    move ≡ step.Statement statement host → slice_get index.statements.items statement.0 ≡ None →
    IsChange (touched_walks planned index move)
    (touched_walks (under planned (moved planned.plan move)) index move) (record { before = 0; after = 0 })
absent_moved planned index move statement host is none =
    let behind = under planned (moved planned.plan move) in
    let Changed : ℕ → ℕ → Type 0 = λ was now. IsChange was now (record { before = 0; after = 0 }) in
    subst (Changed (touched_walks planned index move))
    (sym (touched_nowhere behind index move statement host is none))
    (subst (λ (was : ℕ). Changed was 0) (sym (touched_nowhere planned index move statement host is none))
    nothing_changed)
