-- What walks cost before and behind the move of one statement.
use Rattle.std.proofs.Common.{◌≡◌, ◌≢◌, ◌∙◌, inl, inr, ℕ, zero, suc, ◌+◌, ◌-◌, ◌^◌, ◌<◌, ◌≤◌, min, List, [], ◌∷◌, ◌++◌}
use Rattle.std.proofs.Common.{true, false, length, get_or, take, drop, append-nil, refl, ap, sym, subst, arith}
use Rattle.std.proofs.lemmas.List.{take_more, map-append}
use Rattle.std.proofs.lemmas.List.Sums.{sum_by-cons, sum_by-append}
use Rattle.std.proofs.lemmas.Bool.{cases_eq, cases_lt}
use Rattle.std.specs.Prelude.{Option, Some, None}
use Rattle.host_decl.specs.Hosts.{HostsShape}
use Rattle.js_base.specs.declared.ids.HostId.{HostId}
use Rattle.js_base.specs.declared.ids.StmtId.{StmtId}
use Rattle.js_base.specs.declared.ids.VarId.{VarId}
use Rattle.jif_tree.specs.declared.program.Stmt.{Stmt}
use Rattle.need_labels.specs.Needs.{NeedsShape}
use Rattle.need_labels.specs.Plan.{PlanShape, statement_host}
use Rattle.msg_cost.specs.declared.around.Around.{Around}
use Rattle.msg_cost.specs.declared.piece.Piece.{Piece as Kept}
use Rattle.msg_cost.specs.declared.spot.Spot.{Spot}
use Rattle.msg_cost.specs.declared.walk_change.Change.{Change}
use Rattle.msg_cost.specs.Cost.{cost_of}
use Rattle.msg_cost.specs.Moves.{PlannedShape, on, next_spot, straight_to, end_host}
use Rattle.msg_cost.specs.Pieces.{Given, given_ids, untouched, gives_behind, walk, walk_terms, piece_cost, walk_cost}
use Rattle.msg_cost.specs.Pieces.{walks_cost}
use Rattle.msg_cost.specs.PieceViews.{given_of, givens_of, piece_shape, all_pieces}
use Rattle.msg_cost.specs.Terms.{Term, message, leave_terms, move_terms, given_terms}
use Rattle.msg_cost.specs.Views.{ids_of, capped}
use Rattle.msg_cost.specs.Walks.{number_at, spot_behind, under, SameHosts, IsAround, IsMoved, IsChange}
use Rattle.msg_cost.proofs.Independent.{ReadersStay, Quiet, walk_same}
use Rattle.msg_cost.proofs.Quiet.{Stay, quiet_moved}
use Rattle.msg_cost.proofs.Statements.{list_ids}
use Rattle.msg_cost.proofs.Spots.{moves_behind, walk_parts, same_before}
use Rattle.msg_cost.proofs.Sums.{cost-append}

-- ---- statements that are not moved

same_first : (planned : PlannedShape) (plan : PlanShape) (statement : StmtId) → Stay planned plan statement →
    (block : List Stmt) (count : ℕ) → ((place : ℕ) → place < count → number_at block place ≢ statement.0) →
    SameHosts planned plan (take count (ids_of block))
same_first planned plan statement stay block zero apart = tt
same_first planned plan statement stay [] (suc count) apart = tt
same_first planned plan statement stay (first ∷ others) (suc count) apart = (
  stay first.id (apart 0 (omega arith)),
  same_first planned plan statement stay others count (λ place below. apart (suc place) (omega arith)),
)

same_last : (planned : PlannedShape) (plan : PlanShape) (statement : StmtId) → Stay planned plan statement →
    (block : List Stmt) (from : ℕ) →
    ((place : ℕ) → from ≤ place → place < length block → number_at block place ≢ statement.0) →
    SameHosts planned plan (ids_of (drop from block))
same_last planned plan statement stay [] zero apart = tt
same_last planned plan statement stay [] (suc from) apart = tt
same_last planned plan statement stay (first ∷ others) zero apart = (
  stay first.id (apart 0 (omega arith) (omega arith)),
  same_last planned plan statement stay others 0
      (λ place least within. apart (suc place) (omega arith) (omega arith)),
)
same_last planned plan statement stay (first ∷ others) (suc from) apart =
    same_last planned plan statement stay others from
    (λ place least within. apart (suc place) (omega arith) (omega arith))

same_rest : (planned : PlannedShape) (plan : PlanShape) (block : List Stmt) (count : ℕ) →
    SameHosts planned plan (ids_of block) → SameHosts planned plan (ids_of (drop count block))
same_rest planned plan block zero same = same
same_rest planned plan [] (suc count) same = tt
same_rest planned plan (first ∷ others) (suc count) same = same_rest planned plan others count same.1

-- what holds from a place on holds from later ones on
pub same_later : (planned : PlannedShape) (plan : PlanShape) (block : List Stmt) (from place : ℕ) → from ≤ place →
    SameHosts planned plan (ids_of (drop from block)) → SameHosts planned plan (ids_of (drop place block))
same_later planned plan block zero place later same = same_rest planned plan block place same
same_later planned plan [] (suc from) zero later same = tt
same_later planned plan [] (suc from) (suc place) later same = tt
same_later planned plan (first ∷ others) (suc from) zero later same = absurd (omega arith)
same_later planned plan (first ∷ others) (suc from) (suc place) later same =
    same_later planned plan others from place (omega arith) same

pub rest_stays : (statement : StmtId) (before after : PlannedShape) (block : List Stmt) (around : Around) →
    IsMoved statement before after → IsAround statement block around →
    SameHosts before after.plan (ids_of (drop around.behind block))
rest_stays statement before after block around moved is =
    same_last before after.plan statement moved.stay block around.behind is.behind

-- ---- sums

pub nothing_changed : IsChange 0 0 (record { before = 0; after = 0 })
nothing_changed = record { left = 0; was = refl; is = refl }

-- what is the same is left
pub same_changed : (before after : ℕ) → before ≡ after → IsChange before after (record { before = 0; after = 0 })
same_changed before after same = record { left = before; was = omega arith; is = omega arith }

-- what comes before both is left of both
pub with_same : (more before after : ℕ) (change : Change) → IsChange before after change →
    IsChange (more + before) (more + after) change
with_same more before after change is =
    let was = is.was in
    let now = is.is in
    record { left = more + is.left; was = omega arith; is = omega arith }

-- two changes are one
pub both_changed : (before after more less : ℕ) (change other next : Change) → IsChange before after change →
    IsChange more less other → next.before ≡ min (change.before + other.before) (2 ^ 64 - 1) →
    next.after ≡ min (change.after + other.after) (2 ^ 64 - 1) → IsChange (before + more) (after + less) next
both_changed before after more less change other next one two before_is after_is =
    let was = one.was in
    let now = one.is in
    let other_was = two.was in
    let other_now = two.is in
    record { left = one.left + two.left; was = omega arith; is = omega arith }

-- numbers that are counted whole are a change of their own
pub all_changed : (before after : ℕ) (change : Change) → change.before ≡ capped before →
    change.after ≡ capped after → IsChange before after change
all_changed before after change was now = record { left = 0; was = omega arith; is = omega arith }

-- what was gone over costs this, and the rest is still to be gone over
pub record Progressed (all all_then rest rest_then : ℕ) (change : Change) : Type 0 where
  pub gone : ℕ
  pub gone_then : ℕ
  pub was : all ≡ gone + rest
  pub is : all_then ≡ gone_then + rest_then
  pub changed : IsChange gone gone_then change

pub starts : (all all_then : ℕ) → Progressed all all_then all all_then (record { before = 0; after = 0 })
starts all all_then = record {
  gone = 0;
  gone_then = 0;
  was = omega arith;
  is = omega arith;
  changed = nothing_changed;
}

abbrev pub plus : Change → Change → Change
plus first second = record {
  before = min (first.before + second.before) (2 ^ 64 - 1);
  after = min (first.after + second.after) (2 ^ 64 - 1);
}

pub goes_on : (all all_then one one_then rest rest_then : ℕ) (change step : Change) →
    Progressed all all_then (one + rest) (one_then + rest_then) change → IsChange one one_then step →
    Progressed all all_then rest rest_then (plus change step)
goes_on all all_then one one_then rest rest_then change step so stepped =
    let was = so.was in
    let is = so.is in
    record {
      gone = so.gone + one;
      gone_then = so.gone_then + one_then;
      was = omega arith;
      is = omega arith;
      changed = both_changed so.gone so.gone_then one one_then change step (plus change step) so.changed stepped refl
          refl;
    }

-- what is left is the same
pub ended : (all all_then rest rest_then : ℕ) (change : Change) → Progressed all all_then rest rest_then change →
    rest ≡ rest_then → IsChange all all_then change
ended all all_then rest rest_then change so same =
    let was = so.was in
    let is = so.is in
    let changed_was = so.changed.was in
    let changed_is = so.changed.is in
    record { left = so.changed.left + rest; was = omega arith; is = omega arith }

-- ---- walks of whole blocks

pub ids_drop : (block : List Stmt) (count : ℕ) → ids_of (drop count block) ≡ drop count (ids_of block)
ids_drop block zero = refl
ids_drop [] (suc count) = refl
ids_drop (first ∷ others) (suc count) = ids_drop others count

pub givens_drop : (block : List Stmt) (count : ℕ) → givens_of (drop count block) ≡ drop count (givens_of block)
givens_drop block zero = refl
givens_drop [] (suc count) = refl
givens_drop (first ∷ others) (suc count) = givens_drop others count

parts_cost : (planned : PlannedShape) (hosts : HostsShape) (moved : Option StmtId) (weight : ℕ) (spot at : Spot)
    (left : Option VarId) (block : List Stmt) (place : ℕ) → at ≡ spot_behind planned spot (ids_of block) place →
    left ≡ gives_behind planned.needs moved None (givens_of block) place →
    cost_of hosts (walk_terms planned moved weight spot None (givens_of block))
    ≡ cost_of hosts (moves_behind planned moved weight spot None (givens_of block) place)
    + cost_of hosts (walk_terms planned moved weight at left (givens_of (drop place block)))
parts_cost planned hosts moved weight spot at left block place is left_is =
    let own = givens_of block in
    let moves = moves_behind planned moved weight spot None own place in
    let stands : spot_behind planned spot (given_ids own) place ≡ at =
    ap (λ (ids : List StmtId). spot_behind planned spot ids place) (list_ids block) ∙ sym is in
    let there : walk_terms planned moved weight (spot_behind planned spot (given_ids own) place)
    (gives_behind planned.needs moved None own place) (drop place own)
    ≡ walk_terms planned moved weight at left (givens_of (drop place block)) =
    ap (λ (one : Spot). walk_terms planned moved weight one (gives_behind planned.needs moved None own place)
    (drop place own)) stands
    ∙ ap (λ (gives : Option VarId). walk_terms planned moved weight at gives (drop place own)) (sym left_is)
    ∙ ap (λ (rest : List Given). walk_terms planned moved weight at left rest) (sym (givens_drop block place)) in
    ap (cost_of hosts) (walk_parts planned moved weight spot None own place
    ∙ ap (λ (rest : List Term). moves ++ rest) there)
    ∙ cost-append hosts moves (walk_terms planned moved weight at left (givens_of (drop place block)))

-- one statement of a walk
pub walk_step : (planned : PlannedShape) (hosts : HostsShape) (moved : Option StmtId) (weight : ℕ) (spot next : Spot)
    (start left gives : Option VarId) (block : List Stmt) (place : ℕ) → place < length block →
    gives ≡ gives_behind planned.needs moved start (givens_of block) (suc place) →
    ((one : StmtId) (others : List StmtId) → ids_of (drop place block) ≡ one ∷ others →
    next ≡ next_spot planned spot one others) →
    cost_of hosts (walk_terms planned moved weight spot left (givens_of (drop place block)))
    ≡ cost_of hosts (given_terms planned weight spot.host left (straight_to spot next))
    + (cost_of hosts (move_terms weight spot next)
    + cost_of hosts (walk_terms planned moved weight next gives (givens_of (drop (suc place) block))))
walk_step planned hosts moved weight spot next start left gives [] place within gives_is next_is =
    absurd (omega arith)
walk_step planned hosts moved weight spot next start left gives (first ∷ others) zero within gives_is next_is =
    let terms : Spot → Option VarId → List Term = λ at more.
    (given_terms planned weight spot.host left (straight_to spot at) ++ move_terms weight spot at)
    ++ walk_terms planned moved weight at more (givens_of others) in
    let there : next_spot planned spot first.id (given_ids (givens_of others)) ≡ next =
    ap (λ (ids : List StmtId). next_spot planned spot first.id ids) (list_ids others)
    ∙ sym (next_is first.id (ids_of others) refl) in
    let all = ap (λ (at : Spot). cost_of hosts (terms at (untouched planned.needs moved (given_of first)))) there
    ∙ ap (λ (more : Option VarId). cost_of hosts (terms next more)) (sym gives_is) in
    let one = cost-append hosts
    (given_terms planned weight spot.host left (straight_to spot next) ++ move_terms weight spot next)
    (walk_terms planned moved weight next gives (givens_of others)) in
    let two = cost-append hosts (given_terms planned weight spot.host left (straight_to spot next))
    (move_terms weight spot next) in
    omega arith
walk_step planned hosts moved weight spot next start left gives (first ∷ others) (suc place) within gives_is next_is =
    walk_step planned hosts moved weight spot next (untouched planned.needs moved (given_of first)) left gives others
    place (omega arith) gives_is next_is

-- the end of a walk
pub walk_last : (planned : PlannedShape) (hosts : HostsShape) (moved : Option StmtId) (weight : ℕ) (spot : Spot)
    (left : Option VarId) (rest : List Stmt) → rest ≡ [] →
    cost_of hosts (walk_terms planned moved weight spot left (givens_of rest))
    ≡ cost_of hosts (given_terms planned weight spot.host left None) + (cost_of hosts (leave_terms weight spot) + 0)
walk_last planned hosts moved weight spot left rest done =
    let all = ap (λ (statements : List Stmt).
    cost_of hosts (walk_terms planned moved weight spot left (givens_of statements))) done in
    let first = cost-append hosts (given_terms planned weight spot.host left None) (leave_terms weight spot) in
    omega arith

-- both walks stand at the same spot, and what is left stands on the same hosts
pub joined : (planned : PlannedShape) (plan : PlanShape) (moved : Option StmtId) (weight : ℕ) (first second : Spot)
    (left : Option VarId) (rest : List Stmt) → Quiet planned plan moved → ReadersStay planned plan left →
    SameHosts planned plan (ids_of rest) → first ≡ second →
    cost_of planned.hosts (walk_terms planned moved weight first left (givens_of rest))
    ≡ cost_of planned.hosts (walk_terms (under planned plan) moved weight second left (givens_of rest))
joined planned plan moved weight first second left rest quiet stay same one =
    let same_ids = subst (λ (ids : List StmtId). SameHosts planned plan ids) (sym (list_ids rest)) same in
    ap (cost_of planned.hosts) (walk_same planned plan moved weight first left (givens_of rest) quiet stay same_ids
    ∙ ap (λ (spot : Spot). walk_terms (under planned plan) moved weight spot left (givens_of rest)) one)

-- what is still to be counted at a place
pub gives_at : (needs : NeedsShape) (moved : Option StmtId) (left : Option VarId) (block : List Stmt) (place : ℕ)
    (statement : Stmt) → place < length block → statement ≡ get_or block place statement →
    untouched needs moved (given_of statement) ≡ gives_behind needs moved left (givens_of block) (suc place)
gives_at needs moved left [] place statement within is = absurd (omega arith)
gives_at needs moved left (first ∷ others) zero statement within is =
    ap (λ (one : Stmt). untouched needs moved (given_of one)) is
gives_at needs moved left (first ∷ others) (suc place) statement within is =
    gives_at needs moved (untouched needs moved (given_of first)) others place statement (omega arith) is

pub gives_stay : (planned : PlannedShape) (plan : PlanShape) (moved : Option StmtId) (left : Option VarId)
    (own : List Given) (count : ℕ) → Quiet planned plan moved → ReadersStay planned plan left →
    ReadersStay planned plan (gives_behind planned.needs moved left own count)
gives_stay planned plan moved left own zero quiet stay = stay
gives_stay planned plan moved left [] (suc count) quiet stay = stay
gives_stay planned plan moved left (given ∷ others) (suc count) quiet stay =
    gives_stay planned plan moved (untouched planned.needs moved given) others count quiet (quiet given)

-- From a place on the walks change so. Up to there both cost the same, where the first stands at the spot of a host
-- alone there, and the statements before it and the home are not moved.
pub whole_changed : (planned : PlannedShape) (plan : PlanShape) (statement home : StmtId) (weight : ℕ)
    (block : List Stmt) (most place : ℕ) (at at_then : Spot) (left : Option VarId) (change : Change) →
    Stay planned plan statement →
    ((other : ℕ) → other < most → number_at block other ≢ statement.0) →
    (0 < most → home.0 ≢ statement.0) → place ≤ most →
    at ≡ spot_behind planned (on (statement_host planned.plan home)) (ids_of block) place → at.back ≡ None →
    (place ≡ 0 → at_then ≡ on (statement_host plan home)) → (place ≢ 0 → at_then ≡ at) →
    left ≡ gives_behind planned.needs (Some statement) None (givens_of block) place →
    IsChange
    (cost_of planned.hosts (walk_terms planned (Some statement) weight at left (givens_of (drop place block))))
    (cost_of planned.hosts
    (walk_terms (under planned plan) (Some statement) weight at_then left (givens_of (drop place block)))) change →
    IsChange
    (cost_of planned.hosts
    (walk_terms planned (Some statement) weight (on (statement_host planned.plan home)) None (givens_of block)))
    (cost_of planned.hosts
    (walk_terms (under planned plan) (Some statement) weight (on (statement_host plan home)) None (givens_of block)))
    change
whole_changed planned plan statement home weight block most place at at_then left change stay apart other within is
    alone first later left_is changed = elim (cases_eq place 0) [
      | inl none ↦
          let Changed : Spot → Spot → Option VarId → ℕ → Type 0 = λ one two gives count.
          IsChange (cost_of planned.hosts
          (walk_terms planned (Some statement) weight one gives (givens_of (drop count block))))
          (cost_of planned.hosts
          (walk_terms (under planned plan) (Some statement) weight two gives (givens_of (drop count block)))) change in
          let here : at ≡ on (statement_host planned.plan home) =
          is
          ∙ ap (λ (count : ℕ). spot_behind planned (on (statement_host planned.plan home)) (ids_of block) count)
          none in
          let nothing : left ≡ None =
          left_is
          ∙ ap (λ (count : ℕ). gives_behind planned.needs (Some statement) None (givens_of block) count) none in
          subst (λ (count : ℕ).
          Changed (on (statement_host planned.plan home)) (on (statement_host plan home)) None count) none
          (subst (λ (gives : Option VarId).
          Changed (on (statement_host planned.plan home)) (on (statement_host plan home)) gives place) nothing
          (subst (λ (two : Spot). Changed (on (statement_host planned.plan home)) two left place) (first none)
          (subst (λ (one : Spot). Changed one at_then left place) here changed)))
      | inr some ↦ beside some
    ]
  where
    beside : place ≢ 0 → IsChange
        (cost_of planned.hosts
        (walk_terms planned (Some statement) weight (on (statement_host planned.plan home)) None (givens_of block)))
        (cost_of planned.hosts
        (walk_terms (under planned plan) (Some statement) weight (on (statement_host plan home)) None
        (givens_of block)))
        change
    beside some =
        let part : Option StmtId = Some statement in
        let behind = under planned plan in
        let start = on (statement_host planned.plan home) in
        let own = givens_of block in
        let begins : 0 < most = elim (cases_lt 0 most) [
          | inl more ↦ more
          | inr none ↦ absurd (some (omega arith))
        ] in
        let home_stays : statement_host planned.plan home ≡ statement_host plan home = stay home (other begins) in
        let firsts = same_first planned plan statement stay block place (λ one below. apart one (omega arith)) in
        let same = subst (λ (ids : List StmtId). SameHosts planned plan (take place ids)) (sym (list_ids block))
        firsts in
        let stands : spot_behind planned start (given_ids own) place ≡ at =
        ap (λ (ids : List StmtId). spot_behind planned start ids place) (list_ids block) ∙ sym is in
        let stands_then : spot_behind behind start (given_ids own) place
        ≡ spot_behind behind start (ids_of block) place =
        ap (λ (ids : List StmtId). spot_behind behind start ids place) (list_ids block) in
        let before = same_before planned plan part weight start None own place
        (quiet_moved planned plan statement stay) tt same
        (ap (λ (spot : Spot). spot.back) stands ∙ alone) in
        let one = parts_cost planned planned.hosts part weight start at left block place is left_is in
        let two = parts_cost behind planned.hosts part weight start at_then left block place
        (later some ∙ sym stands ∙ before.at ∙ stands_then) left_is in
        let moves = ap (cost_of planned.hosts) before.moves in
        let starts = ap (λ (host : HostId).
        cost_of planned.hosts (walk_terms behind part weight (on host) None own)) home_stays in
        let all = with_same (cost_of planned.hosts (moves_behind planned part weight start None own place)) _ _ change
        changed in
        let Changed : ℕ → ℕ → Type 0 = λ was now. IsChange was now change in
        subst (Changed (cost_of planned.hosts (walk_terms planned part weight start None own)))
        (ap (λ (n : ℕ).
        n + cost_of planned.hosts (walk_terms behind part weight at_then left (givens_of (drop place block)))) moves
        ∙ sym two ∙ starts)
        (subst (λ (was : ℕ). Changed was
        (cost_of planned.hosts (moves_behind planned part weight start None own place)
        + cost_of planned.hosts (walk_terms behind part weight at_then left (givens_of (drop place block)))))
        (sym one) all)

-- ---- the way back behind a nested block

pub without_back : (first second : PlannedShape) (part : Option StmtId) (weight : ℕ) (home : StmtId)
    (own : List Given) (change : Change) → second.hosts ≡ first.hosts →
    IsChange (cost_of first.hosts (walk_terms first part weight (on (statement_host first.plan home)) None own))
    (cost_of first.hosts (walk_terms second part weight (on (statement_host second.plan home)) None own)) change →
    IsChange (piece_cost first part (walk weight home false own)) (piece_cost second part (walk weight home false own))
    change
without_back first second part weight home own change same changed =
    let moves = walk_terms first part weight (on (statement_host first.plan home)) None own in
    let moves_then = walk_terms second part weight (on (statement_host second.plan home)) None own in
    let Changed : ℕ → ℕ → Type 0 = λ was now. IsChange was now change in
    let was : cost_of first.hosts moves ≡ cost_of first.hosts (moves ++ []) =
    ap (cost_of first.hosts) (sym (append-nil moves)) in
    let now : cost_of first.hosts moves_then ≡ cost_of second.hosts (moves_then ++ []) =
    ap (cost_of first.hosts) (sym (append-nil moves_then))
    ∙ ap (λ (hosts : HostsShape). cost_of hosts (moves_then ++ [])) (sym same) in
    subst (Changed (cost_of first.hosts (moves ++ []))) now
    (subst (λ (n : ℕ). Changed n (cost_of first.hosts moves_then)) was changed)

pub with_back : (first second : PlannedShape) (part : Option StmtId) (weight : ℕ) (home : StmtId) (own : List Given)
    (change back next : Change) → second.hosts ≡ first.hosts →
    IsChange (cost_of first.hosts (walk_terms first part weight (on (statement_host first.plan home)) None own))
    (cost_of first.hosts (walk_terms second part weight (on (statement_host second.plan home)) None own)) change →
    back.before ≡ capped (cost_of first.hosts (message weight
    (end_host first (on (statement_host first.plan home)) (given_ids own)) (statement_host first.plan home) ∷ [])) →
    back.after ≡ capped (cost_of second.hosts (message weight
    (end_host second (on (statement_host second.plan home)) (given_ids own)) (statement_host second.plan home) ∷ [])) →
    next.before ≡ min (change.before + back.before) (2 ^ 64 - 1) →
    next.after ≡ min (change.after + back.after) (2 ^ 64 - 1) →
    IsChange (piece_cost first part (walk weight home true own)) (piece_cost second part (walk weight home true own))
    next
with_back first second part weight home own change back next same changed was now before after =
    let moves = walk_terms first part weight (on (statement_host first.plan home)) None own in
    let moves_then = walk_terms second part weight (on (statement_host second.plan home)) None own in
    let ways : List Term = message weight (end_host first (on (statement_host first.plan home)) (given_ids own))
    (statement_host first.plan home) ∷ [] in
    let ways_then : List Term = message weight (end_host second (on (statement_host second.plan home)) (given_ids own))
    (statement_host second.plan home) ∷ [] in
    let both = both_changed (cost_of first.hosts moves) (cost_of first.hosts moves_then) (cost_of first.hosts ways)
    (cost_of second.hosts ways_then) change back next changed
    (all_changed (cost_of first.hosts ways) (cost_of second.hosts ways_then) back was now) before after in
    let Changed : ℕ → ℕ → Type 0 = λ one two. IsChange one two next in
    let one : cost_of first.hosts moves + cost_of first.hosts ways ≡ cost_of first.hosts (moves ++ ways) =
    sym (cost-append first.hosts moves ways) in
    let two : cost_of first.hosts moves_then + cost_of second.hosts ways_then
    ≡ cost_of second.hosts (moves_then ++ ways_then) =
    ap (λ (hosts : HostsShape). cost_of hosts moves_then + cost_of second.hosts ways_then) (sym same)
    ∙ sym (cost-append second.hosts moves_then ways_then) in
    subst (Changed (cost_of first.hosts (moves ++ ways))) two
    (subst (λ (n : ℕ). Changed n (cost_of first.hosts moves_then + cost_of second.hosts ways_then)) one both)

-- ---- the walks of a row

walks_more : (planned : PlannedShape) (part : Option StmtId) (row : List Kept) (place : ℕ) (piece : Kept) →
    place < length row → piece ≡ get_or row place piece →
    walks_cost planned part (all_pieces (take (place + 1) row))
    ≡ walks_cost planned part (all_pieces (take place row)) + walk_cost planned part (piece_shape piece)
walks_more planned part row place piece within is =
    let cut : take (place + 1) row ≡ take place row ++ piece ∷ [] =
    take_more row place piece within ∙ ap (λ (one : Kept). take place row ++ one ∷ []) (sym is) in
    let one = sum_by-cons (walk_cost planned part) (piece_shape piece) [] in
    ap (λ (pieces : List Kept). walks_cost planned part (all_pieces pieces)) cut
    ∙ ap (walks_cost planned part) (map-append piece_shape (take place row) (piece ∷ []))
    ∙ sum_by-append (walk_cost planned part) (all_pieces (take place row)) (piece_shape piece ∷ [])
    ∙ omega arith

-- one more walk
pub row_walked : (first second : PlannedShape) (part : Option StmtId) (row : List Kept) (place : ℕ) (piece : Kept)
    (change one next : Change) → place < length row → piece ≡ get_or row place piece →
    IsChange (walks_cost first part (all_pieces (take place row)))
    (walks_cost second part (all_pieces (take place row))) change →
    IsChange (walk_cost first part (piece_shape piece)) (walk_cost second part (piece_shape piece)) one →
    next.before ≡ min (change.before + one.before) (2 ^ 64 - 1) →
    next.after ≡ min (change.after + one.after) (2 ^ 64 - 1) →
    IsChange (walks_cost first part (all_pieces (take (place + 1) row)))
    (walks_cost second part (all_pieces (take (place + 1) row))) next
row_walked first second part row place piece change one next within is so more before after =
    let Changed : ℕ → ℕ → Type 0 = λ was now. IsChange was now next in
    let both = both_changed (walks_cost first part (all_pieces (take place row)))
    (walks_cost second part (all_pieces (take place row))) (walk_cost first part (piece_shape piece))
    (walk_cost second part (piece_shape piece)) change one next so more before after in
    subst (Changed (walks_cost first part (all_pieces (take (place + 1) row))))
    (sym (walks_more second part row place piece within is))
    (subst (λ (was : ℕ). Changed was
    (walks_cost second part (all_pieces (take place row)) + walk_cost second part (piece_shape piece)))
    (sym (walks_more first part row place piece within is)) both)
