-- What rides from a place of a block.
use Rattle.std.proofs.Common.{◌≡◌, ◌≢◌, ◌∙◌, ◌⊎◌, inl, inr, ℕ, zero, suc, ◌<◌, ◌≤◌, Bool, true, false, ◌&&◌, List}
use Rattle.std.proofs.Common.{[], ◌∷◌, drop, length, get_or, eq-eqb, refl, ap, sym, subst, arith}
use Rattle.std.specs.Prelude.{Option, Some, None, unwrap_or, if◌then◌else◌}
use Rattle.js_base.specs.declared.ids.HostId.{HostId}
use Rattle.js_base.specs.declared.ids.StmtId.{StmtId}
use Rattle.jif_tree.specs.declared.program.Stmt.{Stmt}
use Rattle.need_labels.specs.Plan.{statement_host}
use Rattle.msg_cost.specs.declared.spot.Spot.{Spot}
use Rattle.msg_cost.specs.Kept.{is_trusted_from}
use Rattle.msg_cost.specs.Moves.{PlannedShape, is_same, is_trusted_for, is_trusted_for_all, host_behind, return_host}
use Rattle.msg_cost.specs.Moves.{on, end_of, entered, next_spot, straight_to, carried_to}
use Rattle.msg_cost.specs.Views.{ids_of}
use Rattle.msg_cost.specs.Walks.{spot_behind}
use Rattle.msg_cost.proofs.Forwards.{true_not_false}
use Rattle.msg_cost.proofs.SettledSpots.{stands_on}
use Rattle.msg_cost.proofs.Spots.{chosen, same_host, next_stays, tail_trusted}

-- the walk goes over the statement at a place
pub one_behind : (planned : PlannedShape) (spot : Spot) (block : List Stmt) (place : ℕ) (here next : Spot) →
    place < length block → here ≡ spot_behind planned spot (ids_of block) place →
    ((statement : StmtId) (others : List StmtId) → ids_of (drop place block) ≡ statement ∷ others →
    next ≡ next_spot planned here statement others) →
    next ≡ spot_behind planned spot (ids_of block) (suc place)
one_behind planned spot [] place here next within at is = absurd (omega arith)
one_behind planned spot (first ∷ others) zero here next within at is =
    is first.id (ids_of others) refl
    ∙ ap (λ (one : Spot). next_spot planned one first.id (ids_of others)) at
one_behind planned spot (first ∷ others) (suc place) here next within at is =
    one_behind planned (next_spot planned spot first.id (ids_of others)) others place here next (omega arith) at is

-- nothing rides to the end of a block
pub none_behind : (planned : PlannedShape) (spot : Spot) (block : List Stmt) (place : ℕ) → length block ≤ place →
    None ≡ carried_to planned spot (drop place (ids_of block))
none_behind planned spot [] zero past = refl
none_behind planned spot [] (suc place) past = refl
none_behind planned spot (first ∷ others) zero past = absurd (omega arith)
none_behind planned spot (first ∷ others) (suc place) past = none_behind planned spot others place (omega arith)

pub carried_behind : (planned : PlannedShape) (spot next : Spot) (block : List Stmt) (place : ℕ) →
    place < length block →
    ((statement : StmtId) (others : List StmtId) → ids_of (drop place block) ≡ statement ∷ others →
    next ≡ next_spot planned spot statement others) →
    straight_to spot next ≡ carried_to planned spot (drop place (ids_of block))
carried_behind planned spot next [] place within is = absurd (omega arith)
carried_behind planned spot next (first ∷ others) zero within is =
    ap (straight_to spot) (is first.id (ids_of others) refl)
carried_behind planned spot next (first ∷ others) (suc place) within is =
    carried_behind planned spot next others place (omega arith) is

-- ---- where nothing rides

stays_none : (spot : Spot) → None ≡ straight_to spot spot
stays_none spot = rw (eq-eqb spot.host.0 spot.host.0 refl) refl

-- the statement behind stands on the host of the spot
pub same_none : (planned : PlannedShape) (spot : Spot) (block : List Stmt) (place : ℕ) (statement : Stmt) →
    place < length block → statement ≡ get_or block place statement →
    spot.host ≡ statement_host planned.plan statement.id → None ≡ carried_to planned spot (drop place (ids_of block))
same_none planned spot [] place statement within is same = absurd (omega arith)
same_none planned spot (first ∷ others) zero statement within is same =
    stays_none spot
    ∙ ap (straight_to spot) (sym (next_stays planned spot first.id (ids_of others)
    (eq-eqb spot.host.0 (statement_host planned.plan first.id).0
    (ap (λ (host : HostId). host.0) same ∙ ap (λ (one : Stmt). (statement_host planned.plan one.id).0) is))))
same_none planned spot (first ∷ others) (suc place) statement within is same =
    same_none planned spot others place statement (omega arith) is same

abbrev nobody : Option HostId
nobody = None

either_none : (test : Bool) → nobody ≡ (if test then nobody else nobody)
either_none true = refl
either_none false = refl

-- a lent segment gives the token back first
lent_straight : (host : HostId) (back : Option HostId) (next : Spot) → (back ≡ None → ⊥) →
    None ≡ straight_to (record { host = host; back = back }) next
lent_straight host None next lent = absurd (lent refl)
lent_straight host (Some back) next lent = either_none (is_same host next.host)

lent_carried : (planned : PlannedShape) (spot : Spot) (ids : List StmtId) → (spot.back ≡ None → ⊥) →
    None ≡ carried_to planned spot ids
lent_carried planned spot [] lent = refl
lent_carried planned spot (statement ∷ others) lent =
    lent_straight spot.host spot.back (next_spot planned spot statement others) lent

-- the host that holds the token at a spot is this one, or one that is trusted for all that is left
abbrev Holds : PlannedShape → HostId → List StmtId → HostId → Type 0
Holds planned home rest host = (host ≡ home) ⊎ (is_trusted_for_all planned host rest ≡ true)

less : (planned : PlannedShape) (home : HostId) (statement : StmtId) (others : List StmtId) (host : HostId) →
    Holds planned home (statement ∷ others) host → Holds planned home others host
less planned home statement others host holds = elim holds [
  | inl same ↦ inl same
  | inr trusted ↦
      inr (tail_trusted (is_trusted_for planned host statement) (is_trusted_for_all planned host others) trusted)
]

first_true : (first second : Bool) → (first && second) ≡ true → first ≡ true
first_true true second is = refl
first_true false second is = is

given_back : (planned : PlannedShape) (home from host : HostId) (statements : List StmtId) →
    Holds planned home statements from → Holds planned home statements (return_host planned from host statements)
given_back planned home from host statements holds = split (host_behind planned host statements) refl
  where
    split : (behind : Option HostId) → host_behind planned host statements ≡ behind →
        Holds planned home statements (return_host planned from host statements)
    split None is = rw is holds
    split (Some next) is =
        rw is (chosen _ (Holds planned home statements) next from (λ both. inr (first_true _ _ both)) (λ not. holds))

entered_holds : (planned : PlannedShape) (home from host : HostId) (statements : List StmtId) →
    Holds planned home statements from →
    Holds planned home statements (end_of (entered planned from host statements))
entered_holds planned home from host statements holds =
    let P : Spot → Type 0 = λ spot. Holds planned home statements (end_of spot) in
    chosen (is_same from host) P _ _
    (λ same. subst (λ (one : HostId). Holds planned home statements one) (same_host from host same) holds)
    (λ apart. chosen (is_trusted_for_all planned host statements) P _ _ (λ trusted. inr trusted)
    (λ not. given_back planned home from host statements holds))

next_holds : (planned : PlannedShape) (home : HostId) (spot : Spot) (statement : StmtId) (others : List StmtId) →
    Holds planned home (statement ∷ others) (end_of spot) →
    Holds planned home (statement ∷ others) (end_of (next_spot planned spot statement others))
next_holds planned home spot statement others holds =
    let host = statement_host planned.plan statement in
    chosen (is_same spot.host host)
    (λ (next : Spot). Holds planned home (statement ∷ others) (end_of next)) _ _ (λ same. holds)
    (λ apart. entered_holds planned home (end_of spot) host (statement ∷ others) holds)

holds_behind : (planned : PlannedShape) (home : HostId) (spot : Spot) (block : List Stmt) (count : ℕ) →
    Holds planned home (ids_of block) (end_of spot) →
    Holds planned home (ids_of (drop count block)) (end_of (spot_behind planned spot (ids_of block) count))
holds_behind planned home spot block zero holds = holds
holds_behind planned home spot [] (suc count) holds = holds
holds_behind planned home spot (first ∷ others) (suc count) holds =
    holds_behind planned home (next_spot planned spot first.id (ids_of others)) others count
    (less planned home first.id (ids_of others) _
    (next_holds planned home spot first.id (ids_of others) holds))

-- A host other than the home that is not trusted for what is left does not hold the token. So what it gives does not
-- ride.
pub lent_none : (planned : PlannedShape) (home : HostId) (block : List Stmt) (place : ℕ) (statement : Stmt) →
    place < length block → statement ≡ get_or block place statement →
    (statement_host planned.plan statement.id).0 ≢ home.0 →
    is_trusted_from planned (statement_host planned.plan statement.id) block (suc place) ≡ false →
    None ≡ carried_to planned (spot_behind planned (on home) (ids_of block) (suc place))
    (drop (suc place) (ids_of block))
lent_none planned home block place statement within is apart not =
    let spot = spot_behind planned (on home) (ids_of block) (suc place) in
    let host = statement_host planned.plan statement.id in
    let stands : spot.host ≡ host = stands_on planned (on home) block place statement within is in
    let holds = holds_behind planned home (on home) block (suc place) (inl refl) in
    lent_carried planned spot (drop (suc place) (ids_of block)) (λ alone.
    let holder : end_of spot ≡ host = ap (λ (back : Option HostId). unwrap_or back spot.host) alone ∙ stands in
    elim (subst (λ (one : HostId). Holds planned home (ids_of (drop (suc place) block)) one) holder holds) [
      | inl same ↦ apart (ap (λ (one : HostId). one.0) same)
      | inr trusted ↦ true_not_false (sym trusted ∙ not)
    ])
