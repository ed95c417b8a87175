-- A piece costs the same under two plans where the parts that it depends on stand on the same hosts.
use Rattle.std.proofs.Common.{◌≡◌, ◌∙◌, ℕ, Bool, ◌&&◌, ◌||◌, not, nat_eq, List, [], ◌∷◌, ◌++◌, map, filter, length}
use Rattle.std.proofs.Common.{refl, ap, sym, false}
use Rattle.std.specs.Prelude.{Option, Some, None, slice_get, unwrap_or, if◌then◌else◌}
use Rattle.std.specs.List.{AllByRecursion, list_any, range_with_len}
use Rattle.js_base.specs.declared.ids.HostId.{HostId}
use Rattle.js_base.specs.declared.ids.StmtId.{StmtId}
use Rattle.js_base.specs.declared.ids.VarId.{VarId}
use Rattle.jif_tree.specs.LabelRules.{method_at}
use Rattle.jif_tree.specs.Trees.{MethodTree}
use Rattle.need_labels.specs.Plan.{PlanShape, field_host, statement_host}
use Rattle.msg_cost.specs.declared.spot.Spot.{Spot}
use Rattle.msg_cost.specs.Moves.{PlannedShape, is_same, is_trusted_for_all, host_behind, return_host, on}
use Rattle.msg_cost.specs.Moves.{end_of, entered, next_spot, end_host, own_statements, called_home}
use Rattle.msg_cost.specs.Moves.{called_end, straight_to, is_to}
use Rattle.msg_cost.specs.Terms.{Term, message, exchange, leave_terms, move_terms, is_told, forwards, given_terms}
use Rattle.msg_cost.specs.Pieces.{Given, given_ids, CostPiece, access, giving, passing, calling, walk, ending}
use Rattle.msg_cost.specs.Pieces.{touches, untouched, carried_at, walk_terms, piece_terms}
use Rattle.msg_cost.specs.Walks.{under, SameHosts}
use Rattle.msg_cost.specs.Touches.{head_of_method, statements_of_method, statements_of, fields_of}

behind_same : (planned : PlannedShape) (plan : PlanShape) (host : HostId) (statements : List StmtId) →
    SameHosts planned plan statements →
    host_behind planned host statements ≡ host_behind (under planned plan) host statements
behind_same planned plan host [] same = refl
behind_same planned plan host (statement ∷ others) same =
    ap (λ (one : HostId). if is_same one host then host_behind planned host others else Some one) same.0
    ∙ ap (λ (rest : Option HostId).
    if is_same (statement_host plan statement) host then rest else Some (statement_host plan statement))
    (behind_same planned plan host others same.1)

return_same : (planned : PlannedShape) (plan : PlanShape) (from host : HostId) (statements : List StmtId) →
    SameHosts planned plan statements →
    return_host planned from host statements ≡ return_host (under planned plan) from host statements
return_same planned plan from host statements same = rw (behind_same planned plan host statements same) refl

entered_same : (planned : PlannedShape) (plan : PlanShape) (from host : HostId) (statements : List StmtId) →
    SameHosts planned plan statements →
    entered planned from host statements ≡ entered (under planned plan) from host statements
entered_same planned plan from host statements same =
    ap (λ (one : HostId).
    if is_same from host then on host
    else if is_trusted_for_all planned host statements then on host
    else record { host = host; back = Some one })
    (return_same planned plan from host statements same)

next_same : (planned : PlannedShape) (plan : PlanShape) (spot : Spot) (statement : StmtId) (others : List StmtId) →
    SameHosts planned plan (statement ∷ others) →
    next_spot planned spot statement others ≡ next_spot (under planned plan) spot statement others
next_same planned plan spot statement others same =
    ap (λ (host : HostId).
    if is_same spot.host host then spot else entered planned (end_of spot) host (statement ∷ others)) same.0
    ∙ ap (λ (one : Spot). if is_same spot.host (statement_host plan statement) then spot else one)
    (entered_same planned plan (end_of spot) (statement_host plan statement) (statement ∷ others) same)

end_same : (planned : PlannedShape) (plan : PlanShape) (spot : Spot) (statements : List StmtId) →
    SameHosts planned plan statements →
    end_host planned spot statements ≡ end_host (under planned plan) spot statements
end_same planned plan spot [] same = refl
end_same planned plan spot (statement ∷ others) same =
    ap (λ (next : Spot). end_host planned next others) (next_same planned plan spot statement others same)
    ∙ end_same planned plan (next_spot (under planned plan) spot statement others) others same.1

-- ---- values

any_same : (planned : PlannedShape) (plan : PlanShape) (host : ℕ) (readers : List StmtId) →
    SameHosts planned plan readers →
    list_any (λ (statement : StmtId). nat_eq (statement_host planned.plan statement).0 host) readers
    ≡ list_any (λ (statement : StmtId). nat_eq (statement_host plan statement).0 host) readers
any_same planned plan host [] same = refl
any_same planned plan host (statement ∷ others) same =
    ap (λ (one : HostId). nat_eq one.0 host
    || list_any (λ (other : StmtId). nat_eq (statement_host planned.plan other).0 host) others) same.0
    ∙ ap (λ (rest : Bool). nat_eq (statement_host plan statement).0 host || rest)
    (any_same planned plan host others same.1)

-- the readers of a variable stand on the same hosts
abbrev pub ReadersStay : PlannedShape → PlanShape → Option VarId → Type 0
ReadersStay planned plan None = Unit {0}
ReadersStay planned plan (Some x) = SameHosts planned plan (unwrap_or (slice_get planned.needs.readers x.0) [])

forwards_same : (planned : PlannedShape) (plan : PlanShape) (weight : ℕ) (host : HostId) (x : VarId)
    (carried : Option HostId) → SameHosts planned plan (unwrap_or (slice_get planned.needs.readers x.0) []) →
    forwards planned weight host x carried ≡ forwards (under planned plan) weight host x carried
forwards_same planned plan weight host x carried same =
    let readers = unwrap_or (slice_get planned.needs.readers x.0) [] in
    let gets : is_told planned host x carried ≡ is_told (under planned plan) host x carried =
    λ i other. not (nat_eq other host.0) && any_same planned plan other readers same i && not (is_to carried other) in
    ap (λ (test : ℕ → Bool). map (λ other. exchange weight host (record { 0 = other }))
    (filter test (range_with_len 0 (length planned.hosts.hosts)))) gets

pub given_same : (planned : PlannedShape) (plan : PlanShape) (weight : ℕ) (host : HostId) (gives : Option VarId)
    (carried : Option HostId) → ReadersStay planned plan gives →
    given_terms planned weight host gives carried ≡ given_terms (under planned plan) weight host gives carried
given_same planned plan weight host None carried stay = refl
given_same planned plan weight host (Some x) carried stay = forwards_same planned plan weight host x carried stay

-- ---- walks

-- the readers stay of what is given that the moved statement does not touch
abbrev pub Quiet : PlannedShape → PlanShape → Option StmtId → Type 0
Quiet planned plan moved = (given : Given) → ReadersStay planned plan (untouched planned.needs moved given)

pub walk_same : (planned : PlannedShape) (plan : PlanShape) (moved : Option StmtId) (weight : ℕ) (spot : Spot)
    (gives : Option VarId) (own : List Given) → Quiet planned plan moved → ReadersStay planned plan gives →
    SameHosts planned plan (given_ids own) →
    walk_terms planned moved weight spot gives own ≡ walk_terms (under planned plan) moved weight spot gives own
walk_same planned plan moved weight spot gives [] quiet stay same =
    ap (λ (terms : List Term). terms ++ leave_terms weight spot)
    (given_same planned plan weight spot.host gives None stay)
walk_same planned plan moved weight spot gives (given ∷ others) quiet stay same =
    let left = untouched planned.needs moved given in
    let behind = under planned plan in
    ap (λ (next : Spot).
    (given_terms planned weight spot.host gives (straight_to spot next) ++ move_terms weight spot next)
    ++ walk_terms planned moved weight next left others)
    (next_same planned plan spot given.id (given_ids others) same)
    ∙ ap (λ (terms : List Term).
    (terms ++ move_terms weight spot (next_spot behind spot given.id (given_ids others)))
    ++ walk_terms planned moved weight (next_spot behind spot given.id (given_ids others)) left others)
    (given_same planned plan weight spot.host gives
    (straight_to spot (next_spot behind spot given.id (given_ids others))) stay)
    ∙ ap (λ (rest : List Term).
    (given_terms behind weight spot.host gives (straight_to spot (next_spot behind spot given.id (given_ids others)))
    ++ move_terms weight spot (next_spot behind spot given.id (given_ids others))) ++ rest)
    (walk_same planned plan moved weight (next_spot behind spot given.id (given_ids others)) left others quiet
    (quiet given) same.1)

-- ---- calls

home_same : (planned : PlannedShape) (plan : PlanShape) (called : Option MethodTree) →
    SameHosts planned plan (statements_of_method called) →
    called_home planned called ≡ called_home (under planned plan) called
home_same planned plan None same = refl
home_same planned plan (Some method) same = same.0

called_end_same : (planned : PlannedShape) (plan : PlanShape) (called : Option MethodTree) →
    SameHosts planned plan (statements_of_method called) →
    called_end planned called ≡ called_end (under planned plan) called
called_end_same planned plan None same = refl
called_end_same planned plan (Some method) same =
    ap (λ (home : HostId). end_host planned (on home) (own_statements method.body)) same.0
    ∙ end_same planned plan (on (statement_host plan method.head)) (own_statements method.body) same.1

-- ---- pieces

-- the fields stand on the same hosts
abbrev pub SameFields : PlannedShape → PlanShape → CostPiece → Type 0
SameFields planned plan piece =
    AllByRecursion (λ field. field_host planned.plan field ≡ field_host plan field) (fields_of piece)

-- the moved statement does not touch what the piece gives
abbrev pub NotTouched : PlannedShape → Option StmtId → CostPiece → Type 0
NotTouched planned moved (giving weight statement x home own place) = touches planned.needs moved statement x ≡ false
NotTouched planned moved other = Unit {0}

home_and_readers : (planned : PlannedShape) (plan : PlanShape) (called : Option MethodTree) (readers : List StmtId) →
    SameHosts planned plan (head_of_method called ++ readers) →
    (called_home planned called ≡ called_home (under planned plan) called) × SameHosts planned plan readers
home_and_readers planned plan None readers same = (refl, same)
home_and_readers planned plan (Some method) readers same = same

pub piece_same : (planned : PlannedShape) (plan : PlanShape) (moved : Option StmtId) (piece : CostPiece) →
    Quiet planned plan moved → NotTouched planned moved piece → SameFields planned plan piece →
    SameHosts planned plan (statements_of planned.program planned.needs piece) →
    piece_terms planned moved piece ≡ piece_terms (under planned plan) moved piece
piece_same planned plan moved (access weight statement field) quiet not fields same =
    ap (λ (host : HostId). exchange weight host (field_host planned.plan field) ∷ []) same.0
    ∙ ap (λ (owner : HostId). exchange weight (statement_host plan statement) owner ∷ []) fields.0
piece_same planned plan moved (giving weight statement x home own place) quiet not fields same =
    let given : PlannedShape → List Term = λ one.
    forwards one weight (statement_host one.plan statement) x (carried_at one home (given_ids own) place) in
    ap (λ (test : Bool). if test then given planned else []) not
    ∙ sym (ap (λ (test : Bool). if test then given (under planned plan) else []) not)
piece_same planned plan moved (passing weight statement method x) quiet not fields same =
    let called = method_at planned.program method in
    let parts = home_and_readers planned plan called (unwrap_or (slice_get planned.needs.readers x.0) []) same.1 in
    ap (λ (host : HostId). forwards planned weight host x (Some (called_home planned called))) same.0
    ∙ ap (λ (home : HostId). forwards planned weight (statement_host plan statement) x (Some home)) parts.0
    ∙ forwards_same planned plan weight (statement_host plan statement) x
    (Some (called_home (under planned plan) called)) parts.1
piece_same planned plan moved (calling weight statement method kept) quiet not fields same =
    let called = method_at planned.program method in
    let terms : HostId → HostId → HostId → List Term = λ host home end.
    (message weight host home ∷ message weight end host ∷ [])
    ++ (if kept then exchange weight end host ∷ [] else []) in
    ap (λ (host : HostId). terms host (called_home planned called) (called_end planned called)) same.0
    ∙ ap (λ (home : HostId). terms (statement_host plan statement) home (called_end planned called))
    (home_same planned plan called same.1)
    ∙ ap (λ (end : HostId). terms (statement_host plan statement) (called_home (under planned plan) called) end)
    (called_end_same planned plan called same.1)
piece_same planned plan moved (walk weight home nested own) quiet not fields same =
    let terms : PlannedShape → HostId → HostId → List Term = λ one host end.
    walk_terms one moved weight (on host) None own ++ (if nested then message weight end host ∷ [] else []) in
    let host = statement_host plan home in
    let ids = given_ids own in
    ap (λ (one : HostId). terms planned one (end_host planned (on one) ids)) same.0
    ∙ ap (λ (end : HostId). terms planned host end) (end_same planned plan (on host) ids same.1)
    ∙ ap (λ (moves : List Term). moves
    ++ (if nested then message weight (end_host (under planned plan) (on host) ids) host ∷ [] else []))
    (walk_same planned plan moved weight (on host) None own quiet tt same.1)
piece_same planned plan moved (ending method) quiet not fields same =
    let called = method_at planned.program method in
    ap (λ (end : HostId). message 1 end (called_home planned called) ∷ []) (called_end_same planned plan called same)
    ∙ ap (λ (home : HostId). message 1 (called_end (under planned plan) called) home ∷ [])
    (home_same planned plan called same)
