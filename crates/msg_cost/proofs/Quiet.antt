-- A move leaves the readers of what is given that it does not touch on their hosts.
use Rattle.std.proofs.Common.{◌≡◌, ◌≢◌, ◌∙◌, ◌||◌, Bool, true, false, ℕ, nat_eq, List, [], ◌∷◌, map, refl, ap, sym}
use Rattle.std.specs.Prelude.{Option, Some, None, slice_get, unwrap_or, if◌then◌else◌}
use Rattle.std.specs.List.{list_any}
use Rattle.std.proofs.lemmas.Bool.{eqb-false}
use Rattle.js_base.specs.declared.ids.StmtId.{StmtId}
use Rattle.js_base.specs.declared.ids.VarId.{VarId}
use Rattle.need_labels.specs.Plan.{PlanShape, statement_host}
use Rattle.msg_cost.specs.Moves.{PlannedShape}
use Rattle.msg_cost.specs.Pieces.{CostPiece, access, giving, passing, calling, walk, ending, touches, untouched}
use Rattle.msg_cost.specs.Rows.{has_number}
use Rattle.msg_cost.specs.Touches.{statements_of}
use Rattle.msg_cost.specs.Walks.{SameHosts}
use Rattle.msg_cost.proofs.Forwards.{true_not_false}
use Rattle.msg_cost.proofs.Independent.{ReadersStay, Quiet, NotTouched}

-- the plan behind a move leaves the statements of other numbers
abbrev pub Stay : PlannedShape → PlanShape → StmtId → Type 0
Stay planned plan statement = (other : StmtId) → other.0 ≢ statement.0 →
    statement_host planned.plan other ≡ statement_host plan other

pub neither : (first second : Bool) → (first || second) ≡ false → (first ≡ false) × (second ≡ false)
neither false second is = (refl, is)
neither true second is = absurd (true_not_false is)

pub apart : (one other : ℕ) → nat_eq one other ≡ false → other ≢ one
apart one other not same = eqb-false one other not (sym same)

others_stay : (planned : PlannedShape) (plan : PlanShape) (statement : StmtId) → Stay planned plan statement →
    (readers : List StmtId) → list_any (λ reader. nat_eq reader.0 statement.0) readers ≡ false →
    SameHosts planned plan readers
others_stay planned plan statement stay [] not = tt
others_stay planned plan statement stay (one ∷ others) not =
    let parts = neither (nat_eq one.0 statement.0) (list_any (λ reader. nat_eq reader.0 statement.0) others) not in (
      stay one (λ same. apart one.0 statement.0 parts.0 (sym same)),
      others_stay planned plan statement stay others parts.1,
    )

stays_where : (planned : PlannedShape) (plan : PlanShape) (moved : Option StmtId) (id : StmtId)
    (gives : Option VarId) → ((x : VarId) → touches planned.needs moved id x ≡ false →
    SameHosts planned plan (unwrap_or (slice_get planned.needs.readers x.0) [])) →
    ReadersStay planned plan (untouched planned.needs moved (record { id = id; gives = gives }))
stays_where planned plan moved id None each = tt
stays_where planned plan moved id (Some x) each = decide (touches planned.needs moved id x) refl
  where
    decide : (test : Bool) → touches planned.needs moved id x ≡ test →
        ReadersStay planned plan (if test then None else Some x)
    decide true is = tt
    decide false is = each x is

pub quiet_moved : (planned : PlannedShape) (plan : PlanShape) (statement : StmtId) → Stay planned plan statement →
    Quiet planned plan (Some statement)
quiet_moved planned plan statement stay given =
    stays_where planned plan (Some statement) given.id given.gives (λ x not.
    let readers = unwrap_or (slice_get planned.needs.readers x.0) [] in
    others_stay planned plan statement stay readers
    (neither (nat_eq given.id.0 statement.0) (list_any (λ reader. nat_eq reader.0 statement.0) readers) not).1)

pub quiet_all : (planned : PlannedShape) (plan : PlanShape) →
    ((statements : List StmtId) → SameHosts planned plan statements) → Quiet planned plan None
quiet_all planned plan same given =
    stays_where planned plan None given.id given.gives
    (λ x not. same (unwrap_or (slice_get planned.needs.readers x.0) []))

-- ---- numbers

any_numbers : (number : ℕ) (statements : List StmtId) →
    list_any (λ one. nat_eq one.0 number) statements ≡ has_number number (map (λ one. one.0) statements)
any_numbers number [] = refl
any_numbers number (one ∷ others) = ap (λ (rest : Bool). nat_eq one.0 number || rest) (any_numbers number others)

pub not_touched : (planned : PlannedShape) (statement : StmtId) (piece : CostPiece) →
    has_number statement.0 (map (λ one. one.0) (statements_of planned.program planned.needs piece)) ≡ false →
    NotTouched planned (Some statement) piece
not_touched planned statement (access weight one field) not = tt
not_touched planned statement (giving weight one x home own place) not =
    ap (λ (rest : Bool). nat_eq one.0 statement.0 || rest)
    (any_numbers statement.0 (unwrap_or (slice_get planned.needs.readers x.0) []))
    ∙ not
not_touched planned statement (passing weight one method x) not = tt
not_touched planned statement (calling weight one method kept) not = tt
not_touched planned statement (walk weight home nested own) not = tt
not_touched planned statement (ending method) not = tt

pub none_touched : (planned : PlannedShape) (piece : CostPiece) → NotTouched planned None piece
none_touched planned (access weight one field) = tt
none_touched planned (giving weight one x home own place) = refl
none_touched planned (passing weight one method x) = tt
none_touched planned (calling weight one method kept) = tt
none_touched planned (walk weight home nested own) = tt
none_touched planned (ending method) = tt
