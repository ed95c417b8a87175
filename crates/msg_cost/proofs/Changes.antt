-- What a move changes: the cost of the pieces that depend on the moved part, and of no others.
use Rattle.std.proofs.Common.{◌≡◌, ℕ, ◌+◌, ◌<◌, ◌≤◌, ◌^◌, Bool, true, false, cond, nat_eq, List, [], ◌∷◌}
use Rattle.std.proofs.Common.{map, filter}
use Rattle.std.proofs.Common.{refl, ap, sym, arith, inl, inr}
use Rattle.std.proofs.lemmas.Bool.{cases_Bool}
use Rattle.host_decl.specs.Hosts.{AreHosts}
use Rattle.jif_tree.specs.Limits.{IsWithinLimits}
use Rattle.std.specs.List.{AllByRecursion}
use Rattle.js_base.specs.declared.ids.FieldId.{FieldId}
use Rattle.js_base.specs.declared.ids.HostId.{HostId}
use Rattle.js_base.specs.declared.ids.StmtId.{StmtId}
use Rattle.need_labels.specs.Plan.{field_host}
use Rattle.msg_cost.specs.declared.step.Step.{Step}
use Rattle.msg_cost.specs.declared.step.Step.TheVariants as step
use Rattle.msg_cost.specs.Cost.{cost_of}
use Rattle.msg_cost.specs.Moves.{PlannedShape}
use Rattle.msg_cost.specs.Pieces.{CostPiece, piece_cost, pieces_cost}
use Rattle.msg_cost.specs.Pieces.{program_pieces}
use Rattle.msg_cost.specs.Rows.{has_number, numbers_of, pieces_with, kind_of, number_of}
use Rattle.msg_cost.specs.Steps.{moved}
use Rattle.msg_cost.specs.Views.{capped}
use Rattle.msg_cost.specs.Touches.{statements_of, fields_of}
use Rattle.msg_cost.proofs.Bounds.{program_small}
use Rattle.msg_cost.proofs.ByPieces.{pieces-cons, by_pieces}
use Rattle.msg_cost.specs.Walks.{under, SameHosts}
use Rattle.msg_cost.proofs.Independent.{piece_same}
use Rattle.msg_cost.proofs.Quiet.{neither, apart, quiet_moved, quiet_all, not_touched, none_touched}
use Rattle.msg_cost.specs.Touched.{moved_by}
use Rattle.std.specs.Prelude.{Option, Some, None}
use Rattle.msg_cost.proofs.Seats.{set_other}

-- ---- sums

passed : (test : CostPiece → Bool) (piece : CostPiece) (others : List CostPiece) → test piece ≡ true →
    filter test (piece ∷ others) ≡ piece ∷ filter test others
passed test piece others is = ap (λ (b : Bool). cond b (piece ∷ filter test others) (filter test others)) is

held_back : (test : CostPiece → Bool) (piece : CostPiece) (others : List CostPiece) → test piece ≡ false →
    filter test (piece ∷ others) ≡ filter test others
held_back test piece others is = ap (λ (b : Bool). cond b (piece ∷ filter test others) (filter test others)) is

-- two sums differ as those of the pieces differ that pass a test, where the others cost the same
pub parted : (first second : PlannedShape) (moved : Option StmtId) (test : CostPiece → Bool) → ((piece : CostPiece) →
    test piece ≡ false → piece_cost first moved piece ≡ piece_cost second moved piece) → (pieces : List CostPiece) →
    pieces_cost second moved pieces + pieces_cost first moved (filter test pieces)
    ≡ pieces_cost first moved pieces + pieces_cost second moved (filter test pieces)
parted first second moved test same [] = omega arith
parted first second moved test same (piece ∷ others) =
    let rest = parted first second moved test same others in
    let one = pieces-cons first moved piece others in
    let two = pieces-cons second moved piece others in
    elim (cases_Bool (test piece)) [
      | inl is ↦
          let three = ap (pieces_cost first moved) (passed test piece others is) in
          let four = ap (pieces_cost second moved) (passed test piece others is) in
          let five = pieces-cons first moved piece (filter test others) in
          let six = pieces-cons second moved piece (filter test others) in
          omega arith
      | inr is ↦
          let three = ap (pieces_cost first moved) (held_back test piece others is) in
          let four = ap (pieces_cost second moved) (held_back test piece others is) in
          let five = same piece is in
          omega arith
    ]

pub fewer : (planned : PlannedShape) (moved : Option StmtId) (test : CostPiece → Bool) (pieces : List CostPiece) →
    pieces_cost planned moved (filter test pieces) ≤ pieces_cost planned moved pieces
fewer planned moved test [] = omega arith
fewer planned moved test (piece ∷ others) =
    let rest = fewer planned moved test others in
    let one = pieces-cons planned moved piece others in
    elim (cases_Bool (test piece)) [
      | inl is ↦
          let two = ap (pieces_cost planned moved) (passed test piece others is) in
          let three = pieces-cons planned moved piece (filter test others) in
          omega arith
      | inr is ↦ let two = ap (pieces_cost planned moved) (held_back test piece others is) in omega arith
    ]

-- ---- parts that are not moved

all_stay : (planned : PlannedShape) (moves : Step) (statement : StmtId) (host : HostId) (statements : List StmtId) →
    has_number statement.0 (map (λ one. one.0) statements) ≡ false →
    SameHosts planned (moved planned.plan (step.Statement statement host)) statements
all_stay planned moves statement host [] not = tt
all_stay planned moves statement host (one ∷ others) not =
    let parts = neither (nat_eq one.0 statement.0) (has_number statement.0 (map (λ other. other.0) others)) not in (
      set_other planned.plan.statements statement.0 one.0 host (apart one.0 statement.0 parts.0),
      all_stay planned moves statement host others parts.1,
    )

pub statements_stay : (planned : PlannedShape) (field : FieldId) (host : HostId) (statements : List StmtId) →
    SameHosts planned (moved planned.plan (step.Field field host)) statements
statements_stay planned field host [] = tt
statements_stay planned field host (one ∷ others) = (refl, statements_stay planned field host others)

fields_stay : (planned : PlannedShape) (statement : StmtId) (host : HostId) (fields : List FieldId) →
    AllByRecursion (λ field.
    field_host planned.plan field ≡ field_host (moved planned.plan (step.Statement statement host)) field) fields
fields_stay planned statement host [] = tt
fields_stay planned statement host (one ∷ others) = (refl, fields_stay planned statement host others)

all_fields_stay : (planned : PlannedShape) (field : FieldId) (host : HostId) (fields : List FieldId) →
    has_number field.0 (map (λ one. one.0) fields) ≡ false →
    AllByRecursion (λ one. field_host planned.plan one ≡ field_host (moved planned.plan (step.Field field host)) one)
    fields
all_fields_stay planned field host [] not = tt
all_fields_stay planned field host (one ∷ others) not =
    let parts = neither (nat_eq one.0 field.0) (has_number field.0 (map (λ other. other.0) others)) not in (
      set_other planned.plan.fields field.0 one.0 host (apart one.0 field.0 parts.0),
      all_fields_stay planned field host others parts.1,
    )

-- a piece that does not depend on the moved part costs the same
untouched : (planned : PlannedShape) (move : Step) (piece : CostPiece) →
    has_number (number_of move) (numbers_of (kind_of move) planned.program planned.needs piece) ≡ false →
    piece_cost planned (moved_by move) piece
    ≡ piece_cost (under planned (moved planned.plan move)) (moved_by move) piece
untouched planned (step.Field field host) piece not =
    ap (cost_of planned.hosts)
    (piece_same planned (moved planned.plan (step.Field field host)) None piece
    (quiet_all planned (moved planned.plan (step.Field field host)) (statements_stay planned field host))
    (none_touched planned piece)
    (all_fields_stay planned field host (fields_of piece) not)
    (statements_stay planned field host (statements_of planned.program planned.needs piece)))
untouched planned (step.Statement statement host) piece not =
    ap (cost_of planned.hosts)
    (piece_same planned (moved planned.plan (step.Statement statement host)) (Some statement) piece
    (quiet_moved planned (moved planned.plan (step.Statement statement host)) statement (λ other apart.
    set_other planned.plan.statements statement.0 other.0 host (λ same. apart (sym same))))
    (not_touched planned statement piece not)
    (fields_stay planned statement host (fields_of piece))
    (all_stay planned (step.Statement statement host) statement host
    (statements_of planned.program planned.needs piece) not))

-- what a move changes is what the pieces that depend on the part come to
pub changed : (planned : PlannedShape) (move : Step) (pieces : List CostPiece) →
    pieces_cost (under planned (moved planned.plan move)) (moved_by move) pieces
    + pieces_cost planned (moved_by move)
    (pieces_with (numbers_of (kind_of move) planned.program planned.needs) (number_of move) pieces)
    ≡ pieces_cost planned (moved_by move) pieces
    + pieces_cost (under planned (moved planned.plan move)) (moved_by move)
    (pieces_with (numbers_of (kind_of move) planned.program planned.needs) (number_of move) pieces)
changed planned move pieces =
    parted planned (under planned (moved planned.plan move)) (moved_by move)
    (λ piece. has_number (number_of move) (numbers_of (kind_of move) planned.program planned.needs piece))
    (untouched planned move) pieces

-- ---- rows as the code counts them

-- some pieces of a program within the limits cost little
pub row_small : (planned : PlannedShape) → AreHosts planned.hosts → IsWithinLimits planned.program →
    (part : Option StmtId) (test : CostPiece → Bool) (row : List CostPiece) →
    row ≡ filter test (program_pieces planned.program) → (total : ℕ) →
    total ≡ capped (pieces_cost planned part row) → (total ≡ pieces_cost planned part row) × (total < 2 ^ 62)
row_small planned sound sized part test row is total counted =
    let all = program_small planned sound sized in
    let parts = by_pieces planned part in
    let some = fewer planned part test (program_pieces planned.program) in
    let same = ap (pieces_cost planned part) is in
    (omega arith, omega arith)
