-- Spots of a walk: where they stand, and when they are the same under two plans.
use Rattle.std.proofs.Common.{◌≡◌, ◌≢◌, ◌∙◌, ◌⊎◌, inl, inr, ℕ, zero, suc, ◌<◌, ◌≤◌, Bool, true, false, ◌&&◌, List}
use Rattle.std.proofs.Common.{[], ◌∷◌, ◌++◌, length, get_or, take, drop, refl, ap, sym, append_assoc, arith}
use Rattle.std.proofs.lemmas.Bool.{cases_Bool, cases_eq, eqb-true, eq-eqb}
use Rattle.std.specs.Prelude.{Option, Some, None, if◌then◌else◌}
use Rattle.js_base.specs.declared.ids.HostId.{HostId}
use Rattle.js_base.specs.declared.ids.StmtId.{StmtId}
use Rattle.js_base.specs.declared.ids.VarId.{VarId}
use Rattle.need_labels.specs.Plan.{PlanShape, statement_host}
use Rattle.msg_cost.specs.declared.spot.Spot.{Spot}
use Rattle.msg_cost.specs.Moves.{PlannedShape, is_same, is_trusted_for, is_trusted_for_all, host_behind, return_host}
use Rattle.msg_cost.specs.Moves.{on, end_of, entered, next_spot, straight_to, end_host}
use Rattle.msg_cost.specs.Pieces.{Given, given_ids, untouched, gives_behind, walk_terms}
use Rattle.msg_cost.specs.Terms.{Term, move_terms, given_terms}
use Rattle.msg_cost.specs.Walks.{spot_behind, under, SameHosts}
use Rattle.msg_cost.proofs.Independent.{ReadersStay, Quiet, given_same}

-- ---- choices

-- what holds of both choices holds of the one that a test makes
pub chosen : {A : Type 0} (test : Bool) (P : A → Type 0) (first second : A) → (test ≡ true → P first) →
    (test ≡ false → P second) → P (if test then first else second)
chosen true P first second one other = one refl
chosen false P first second one other = other refl

pub same_host : (first second : HostId) → is_same first second ≡ true → first ≡ second
same_host first second is = ap (λ (number : ℕ). record { 0 = number }) (eqb-true first.0 second.0 is)

-- ---- hosts of spots

entered_host : (planned : PlannedShape) (from host : HostId) (statements : List StmtId) →
    (entered planned from host statements).host ≡ host
entered_host planned from host statements =
    let Stands : Spot → Type 0 = λ spot. spot.host ≡ host in
    chosen (is_same from host) Stands _ _ (λ is. refl)
    (λ is. chosen (is_trusted_for_all planned host statements) Stands _ _ (λ is. refl) (λ is. refl))

-- a statement runs on the host on which it stands
pub next_host : (planned : PlannedShape) (spot : Spot) (statement : StmtId) (others : List StmtId) →
    (next_spot planned spot statement others).host ≡ statement_host planned.plan statement
next_host planned spot statement others =
    let host = statement_host planned.plan statement in
    let Stands : Spot → Type 0 = λ next. next.host ≡ host in
    chosen (is_same spot.host host) Stands _ _ (same_host spot.host host)
    (λ is. entered_host planned (end_of spot) host (statement ∷ others))

-- where the host is that of the spot, the spot stays
pub next_stays : (planned : PlannedShape) (spot : Spot) (statement : StmtId) (others : List StmtId) →
    is_same spot.host (statement_host planned.plan statement) ≡ true → next_spot planned spot statement others ≡ spot
next_stays planned spot statement others is =
    ap (λ (test : Bool). if test then spot
    else entered planned (end_of spot) (statement_host planned.plan statement) (statement ∷ others)) is

pub spot_host : (planned : PlannedShape) (spot : Spot) (own : List StmtId) (place : ℕ) (d : StmtId) →
    place < length own →
    (spot_behind planned spot own (suc place)).host ≡ statement_host planned.plan (get_or own place d)
spot_host planned spot [] place d within = absurd (omega arith)
spot_host planned spot (statement ∷ others) zero d within = next_host planned spot statement others
spot_host planned spot (statement ∷ others) (suc place) d within =
    spot_host planned (next_spot planned spot statement others) others place d (omega arith)

-- ---- walks in two parts

-- the moves over the first statements, so many, without what the last of them gives
abbrev pub moves_behind : PlannedShape → Option StmtId → ℕ → Spot → Option VarId → List Given → ℕ → List Term
moves_behind planned moved weight spot gives own zero = []
moves_behind planned moved weight spot gives [] (suc count) = []
moves_behind planned moved weight spot gives (given ∷ others) (suc count) =
    let next = next_spot planned spot given.id (given_ids others) in
    (given_terms planned weight spot.host gives (straight_to spot next) ++ move_terms weight spot next)
    ++ moves_behind planned moved weight next (untouched planned.needs moved given) others count

pub walk_parts : (planned : PlannedShape) (moved : Option StmtId) (weight : ℕ) (spot : Spot) (gives : Option VarId)
    (own : List Given) (count : ℕ) →
    walk_terms planned moved weight spot gives own
    ≡ moves_behind planned moved weight spot gives own count
    ++ walk_terms planned moved weight (spot_behind planned spot (given_ids own) count)
    (gives_behind planned.needs moved gives own count) (drop count own)
walk_parts planned moved weight spot gives own zero = refl
walk_parts planned moved weight spot gives [] (suc count) = refl
walk_parts planned moved weight spot gives (given ∷ others) (suc count) =
    let next = next_spot planned spot given.id (given_ids others) in
    let first = given_terms planned weight spot.host gives (straight_to spot next) ++ move_terms weight spot next in
    let left = untouched planned.needs moved given in
    ap (λ (rest : List Term). first ++ rest) (walk_parts planned moved weight next left others count)
    ∙ sym (append_assoc first (moves_behind planned moved weight next left others count)
    (walk_terms planned moved weight (spot_behind planned next (given_ids others) count)
    (gives_behind planned.needs moved left others count) (drop count others)))

-- a walk ends where it stands behind all statements
pub ends_behind : (planned : PlannedShape) (spot : Spot) (own : List StmtId) →
    end_host planned spot own ≡ end_of (spot_behind planned spot own (length own))
ends_behind planned spot [] = refl
ends_behind planned spot (statement ∷ others) = ends_behind planned (next_spot planned spot statement others) others

-- ---- spots of hosts that are trusted for all that is left

-- a walk is not lent to the host
abbrev pub IsNotLentTo : HostId → Spot → Type 0
IsNotLentTo host spot = (spot.host.0 ≢ host.0) ⊎ (spot ≡ on host)

-- the next statement is on the spot of the host alone, or elsewhere
next_settles : (planned : PlannedShape) (host : HostId) (spot : Spot) (statement : StmtId) (others : List StmtId) →
    is_trusted_for_all planned host (statement ∷ others) ≡ true → IsNotLentTo host spot →
    statement_host planned.plan statement ≡ host → next_spot planned spot statement others ≡ on host
next_settles planned host spot statement others trusted not is =
    let there : next_spot planned spot statement others
    ≡ (if is_same spot.host host then spot else entered planned (end_of spot) host (statement ∷ others)) =
    ap (λ (one : HostId). if is_same spot.host one then spot
    else entered planned (end_of spot) one (statement ∷ others)) is in
    let Settled : Spot → Type 0 = λ next. next ≡ on host in
    there ∙ chosen (is_same spot.host host) Settled _ _ here
    (λ other. chosen (is_same (end_of spot) host) Settled _ _ (λ held. refl)
    (λ free. ap (λ (test : Bool). if test then on host
    else record { host = host; back = Some (return_host planned (end_of spot) host (statement ∷ others)) }) trusted))
  where
    here : is_same spot.host host ≡ true → spot ≡ on host
    here same = elim not [
      | inl apart ↦ absurd (apart (eqb-true spot.host.0 host.0 same))
      | inr alone ↦ alone
    ]

next_not_lent : (planned : PlannedShape) (host : HostId) (spot : Spot) (statement : StmtId) (others : List StmtId) →
    is_trusted_for_all planned host (statement ∷ others) ≡ true → IsNotLentTo host spot →
    IsNotLentTo host (next_spot planned spot statement others)
next_not_lent planned host spot statement others trusted not =
    let there = statement_host planned.plan statement in
    elim (cases_eq there.0 host.0) [
      | inl same ↦ inr (next_settles planned host spot statement others trusted not
          (ap (λ (number : ℕ). record { 0 = number }) same))
      | inr apart ↦ inl (λ same. apart
          (sym (ap (λ (one : HostId). one.0) (next_host planned spot statement others)) ∙ same))
    ]

pub tail_trusted : (first rest : Bool) → (first && rest) ≡ true → rest ≡ true
tail_trusted true rest is = is
tail_trusted false rest is = absurd (cc)

settles : (planned : PlannedShape) (host : HostId) (spot : Spot) (own : List StmtId) (place : ℕ) (d : StmtId) →
    place < length own → is_trusted_for_all planned host own ≡ true → IsNotLentTo host spot →
    statement_host planned.plan (get_or own place d) ≡ host → spot_behind planned spot own (suc place) ≡ on host
settles planned host spot [] place d within trusted not is = absurd (omega arith)
settles planned host spot (statement ∷ others) zero d within trusted not is =
    next_settles planned host spot statement others trusted not is
settles planned host spot (statement ∷ others) (suc place) d within trusted not is =
    settles planned host (next_spot planned spot statement others) others place d (omega arith)
    (tail_trusted (is_trusted_for planned host statement) (is_trusted_for_all planned host others) trusted)
    (next_not_lent planned host spot statement others trusted not) is

-- From some place on the host is trusted for all, and there the walk is not lent to it. So behind each later statement
-- on it the walk stands at the spot of the host alone.
pub settles_since : (planned : PlannedShape) (host : HostId) (spot : Spot) (own : List StmtId) (since place : ℕ)
    (d : StmtId) → since ≤ place → place < length own → is_trusted_for_all planned host (drop since own) ≡ true →
    IsNotLentTo host (spot_behind planned spot own since) → statement_host planned.plan (get_or own place d) ≡ host →
    spot_behind planned spot own (suc place) ≡ on host
settles_since planned host spot own zero place d from within trusted not is =
    settles planned host spot own place d within trusted not is
settles_since planned host spot [] (suc since) place d from within trusted not is = absurd (omega arith)
settles_since planned host spot (statement ∷ others) (suc since) zero d from within trusted not is =
    absurd (omega arith)
settles_since planned host spot (statement ∷ others) (suc since) (suc place) d from within trusted not is =
    settles_since planned host (next_spot planned spot statement others) others since place d (omega arith)
    (omega arith) trusted not is

-- ---- two plans

behind_more : (planned : PlannedShape) (plan : PlanShape) (host : HostId) (statement : StmtId) (others : List StmtId) →
    statement_host planned.plan statement ≡ statement_host plan statement →
    host_behind planned host others ≡ host_behind (under planned plan) host others →
    host_behind planned host (statement ∷ others) ≡ host_behind (under planned plan) host (statement ∷ others)
behind_more planned plan host statement others same found =
    ap (λ (one : HostId). if is_same one host then host_behind planned host others else Some one) same
    ∙ ap (λ (rest : Option HostId).
    if is_same (statement_host plan statement) host then rest else Some (statement_host plan statement)) found

behind_here : (planned : PlannedShape) (plan : PlanShape) (host : HostId) (statement : StmtId) (others : List StmtId) →
    statement_host planned.plan statement ≡ statement_host plan statement →
    is_same (statement_host planned.plan statement) host ≡ false →
    host_behind planned host (statement ∷ others) ≡ host_behind (under planned plan) host (statement ∷ others)
behind_here planned plan host statement others same other =
    let there = statement_host plan statement in
    let apart : is_same there host ≡ false = ap (λ (one : HostId). is_same one host) (sym same) ∙ other in
    ap (λ (one : HostId). if is_same one host then host_behind planned host others else Some one) same
    ∙ ap (λ (test : Bool). if test then host_behind planned host others else Some there) apart
    ∙ sym (ap (λ (test : Bool). if test then host_behind (under planned plan) host others else Some there) apart)

-- The host behind a segment is found among the first statements, which stand on the same hosts under both plans. Or
-- they all belong to the segment, and a walk that stands on its host stays there over them.
found_or_stays : (planned : PlannedShape) (plan : PlanShape) (host : HostId) (own : List StmtId) (count : ℕ) →
    SameHosts planned plan (take count own) →
    (host_behind planned host own ≡ host_behind (under planned plan) host own)
    ⊎ ((spot : Spot) → spot.host ≡ host → spot_behind planned spot own count ≡ spot)
found_or_stays planned plan host own zero same = inr (λ spot is. refl)
found_or_stays planned plan host [] (suc count) same = inl refl
found_or_stays planned plan host (statement ∷ others) (suc count) same =
    let there = statement_host planned.plan statement in
    elim (cases_Bool (is_same there host)) [
      | inl is ↦ elim (found_or_stays planned plan host others count same.1) [
        | inl found ↦ inl (behind_more planned plan host statement others same.0 found)
        | inr stays ↦ inr (λ spot at.
            ap (λ (next : Spot). spot_behind planned next others count)
            (next_stays planned spot statement others
            (eq-eqb spot.host.0 there.0 (ap (λ (one : HostId). one.0) (at ∙ sym (same_host there host is)))))
            ∙ stays spot at)
      ]
      | inr other ↦ inl (behind_here planned plan host statement others same.0 other)
    ]

-- a walk enters at the same spot where it later stands at one of a host alone
entered_before : (planned : PlannedShape) (plan : PlanShape) (from host : HostId) (statement : StmtId)
    (others : List StmtId) (count : ℕ) → statement_host planned.plan statement ≡ statement_host plan statement →
    SameHosts planned plan (take count others) →
    (spot_behind planned (entered planned from host (statement ∷ others)) others count).back ≡ None →
    entered planned from host (statement ∷ others) ≡ entered (under planned plan) from host (statement ∷ others)
entered_before planned plan from host statement others count here same alone =
    decide (is_same from host) (is_trusted_for_all planned host (statement ∷ others)) alone
  where
    lent : HostId → Spot
    lent back = record { host = host; back = Some back }

    pick : Bool → Bool → HostId → Spot
    pick held trusted back = if held then on host else if trusted then on host else lent back

    gives : HostId
    gives = return_host planned from host (statement ∷ others)

    gives_then : HostId
    gives_then = return_host (under planned plan) from host (statement ∷ others)

    given_same : host_behind planned host others ≡ host_behind (under planned plan) host others → gives ≡ gives_then
    given_same found = rw (behind_more planned plan host statement others here found) refl

    decide : (held trusted : Bool) → (spot_behind planned (pick held trusted gives) others count).back ≡ None →
        pick held trusted gives ≡ pick held trusted gives_then
    decide true trusted alone = refl
    decide false true alone = refl
    decide false false alone = elim (found_or_stays planned plan host others count same) [
      | inl found ↦ ap lent (given_same found)
      | inr stays ↦
          let never : Some gives ≡ None =
          sym (ap (λ (spot : Spot). spot.back) (stays (lent gives) refl)) ∙ alone in
          absurd (cc)
    ]

-- the next spot is the same where the walk later stands at the spot of a host alone
next_before : (planned : PlannedShape) (plan : PlanShape) (spot : Spot) (statement : StmtId) (others : List StmtId)
    (count : ℕ) → statement_host planned.plan statement ≡ statement_host plan statement →
    SameHosts planned plan (take count others) →
    (spot_behind planned (next_spot planned spot statement others) others count).back ≡ None →
    next_spot planned spot statement others ≡ next_spot (under planned plan) spot statement others
next_before planned plan spot statement others count here same alone =
    decide (is_same spot.host (statement_host planned.plan statement)) alone
    ∙ ap (λ (host : HostId). if is_same spot.host host then spot
    else entered (under planned plan) (end_of spot) host (statement ∷ others)) here
  where
    first : Spot
    first = entered planned (end_of spot) (statement_host planned.plan statement) (statement ∷ others)

    second : Spot
    second = entered (under planned plan) (end_of spot) (statement_host planned.plan statement) (statement ∷ others)

    decide : (stays : Bool) →
        (spot_behind planned (if stays then spot else first) others count).back ≡ None →
        (if stays then spot else first) ≡ (if stays then spot else second)
    decide true alone = refl
    decide false alone =
        entered_before planned plan (end_of spot) (statement_host planned.plan statement) statement others count here
        same alone

-- the first statements, so many, cost the same under two plans, and lead to the same spot
pub record IsSameBefore (planned : PlannedShape) (plan : PlanShape) (moved : Option StmtId) (weight : ℕ) (spot : Spot)
    (gives : Option VarId) (own : List Given) (count : ℕ) : Type 0 where
  pub at : spot_behind planned spot (given_ids own) count ≡ spot_behind (under planned plan) spot (given_ids own) count
  pub moves : moves_behind planned moved weight spot gives own count
      ≡ moves_behind (under planned plan) moved weight spot gives own count

-- They do where they stand on the same hosts, and the walk comes to the spot of a host alone.
pub same_before : (planned : PlannedShape) (plan : PlanShape) (moved : Option StmtId) (weight : ℕ) (spot : Spot)
    (gives : Option VarId) (own : List Given) (count : ℕ) → Quiet planned plan moved → ReadersStay planned plan gives →
    SameHosts planned plan (take count (given_ids own)) →
    (spot_behind planned spot (given_ids own) count).back ≡ None →
    IsSameBefore planned plan moved weight spot gives own count
same_before planned plan moved weight spot gives own zero quiet stay same alone = record { at = refl; moves = refl }
same_before planned plan moved weight spot gives [] (suc count) quiet stay same alone =
    record { at = refl; moves = refl }
same_before planned plan moved weight spot gives (given ∷ others) (suc count) quiet stay same alone =
    let next = next_spot planned spot given.id (given_ids others) in
    let behind = under planned plan in
    let left = untouched planned.needs moved given in
    let is : next ≡ next_spot behind spot given.id (given_ids others) =
    next_before planned plan spot given.id (given_ids others) count same.0 same.1 alone in
    let rest = same_before planned plan moved weight next left others count quiet (quiet given) same.1 alone in
    record {
      at = rest.at ∙ ap (λ (one : Spot). spot_behind behind one (given_ids others) count) is;
      moves = ap (λ (more : List Term).
          (given_terms planned weight spot.host gives (straight_to spot next) ++ move_terms weight spot next) ++ more)
          rest.moves
          ∙ ap (λ (terms : List Term). (terms ++ move_terms weight spot next)
          ++ moves_behind behind moved weight next left others count)
          (given_same planned plan weight spot.host gives (straight_to spot next) stay)
          ∙ ap (λ (one : Spot).
          (given_terms behind weight spot.host gives (straight_to spot one) ++ move_terms weight spot one)
          ++ moves_behind behind moved weight one left others count) is;
    }
