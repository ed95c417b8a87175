-- Spots that are known from the table of a block.
use Rattle.std.proofs.Common.{◌≡◌, ◌≢◌, ◌∙◌, inl, inr, ℕ, suc, ◌<◌, ◌≤◌, List, length, get_or}
use Rattle.std.proofs.Common.{nat_le, refl, ap, sym, subst, arith}
use Rattle.std.proofs.lemmas.Bool.{cases_eq, le-leb}
use Rattle.std.proofs.lemmas.List.{get_or-map, length-map}
use Rattle.js_base.specs.declared.ids.HostId.{HostId}
use Rattle.jif_tree.specs.declared.program.Stmt.{Stmt}
use Rattle.need_labels.specs.Plan.{statement_host}
use Rattle.msg_cost.specs.declared.spot.Spot.{Spot}
use Rattle.msg_cost.specs.declared.table.TheConstants.{FAR}
use Rattle.msg_cost.specs.Kept.{is_trusted_from}
use Rattle.msg_cost.specs.Moves.{PlannedShape, is_trusted_for_all, on, end_of, end_host}
use Rattle.msg_cost.specs.Views.{ids_of}
use Rattle.msg_cost.specs.Walks.{spot_behind, IsSettled}
use Rattle.msg_cost.proofs.Spots.{IsNotLentTo, spot_host, settles_since, ends_behind}
use Rattle.msg_cost.proofs.WalkChanges.{ids_drop}

id_there : (block : List Stmt) (place : ℕ) (statement : Stmt) → place < length block →
    statement ≡ get_or block place statement → get_or (ids_of block) place statement.id ≡ statement.id
id_there block place statement within is =
    get_or-map (λ (one : Stmt). one.id) block place statement statement.id within
    ∙ ap (λ (one : Stmt). one.id) (sym is)

-- a walk stands on the host of the statement that it went over last
pub stands_on : (planned : PlannedShape) (spot : Spot) (block : List Stmt) (place : ℕ) (statement : Stmt) →
    place < length block → statement ≡ get_or block place statement →
    (spot_behind planned spot (ids_of block) (suc place)).host ≡ statement_host planned.plan statement.id
stands_on planned spot block place statement within is =
    let many = length-map block (λ (one : Stmt). one.id) in
    spot_host planned spot (ids_of block) place statement.id (omega arith)
    ∙ ap (statement_host planned.plan) (id_there block place statement within is)

-- no walk is lent to a host at the start of its block
pub first_not_lent : (planned : PlannedShape) (host home : HostId) (block : List Stmt) →
    IsNotLentTo host (spot_behind planned (on home) (ids_of block) 0)
first_not_lent planned host home block = elim (cases_eq home.0 host.0) [
  | inl same ↦ inr (ap on (ap (λ (number : ℕ). record { 0 = number }) same))
  | inr apart ↦ inl apart
]

-- no walk is lent to a host behind a statement on another one
pub other_not_lent : (planned : PlannedShape) (host home : HostId) (block : List Stmt) (since last : ℕ)
    (statement : Stmt) → since ≡ suc last → last < length block → statement ≡ get_or block last statement →
    (statement_host planned.plan statement.id).0 ≢ host.0 →
    IsNotLentTo host (spot_behind planned (on home) (ids_of block) since)
other_not_lent planned host home block since last statement is within there apart =
    let P : ℕ → Type 0 = λ count. IsNotLentTo host (spot_behind planned (on home) (ids_of block) count) in
    subst P (sym is) (inl (λ same. apart
    (sym (ap (λ (one : HostId). one.0) (stands_on planned (on home) block last statement within there)) ∙ same)))

-- the spot of the statement at a place
pub settled : (planned : PlannedShape) (host : HostId) (block : List Stmt) (since place : ℕ) (statement : Stmt) →
    ((other : ℕ) → other < FAR → is_trusted_from planned host block other ≡ nat_le since other) →
    place < FAR → since ≤ place → place < length block → statement ≡ get_or block place statement →
    statement_host planned.plan statement.id ≡ host →
    ((home : HostId) → IsNotLentTo host (spot_behind planned (on home) (ids_of block) since)) →
    IsSettled planned (ids_of block) (suc place) (on host)
settled planned host block since place statement trusted near from within is on_host not = record {
  at = λ home.
      let many = length-map block (λ (one : Stmt). one.id) in
      settles_since planned host (on home) (ids_of block) since place statement.id from (omega arith)
      (sym (ap (is_trusted_for_all planned host) (ids_drop block since))
      ∙ trusted since (omega arith) ∙ le-leb since since (omega arith))
      (not home) (ap (statement_host planned.plan) (id_there block place statement within is) ∙ on_host);
  alone = refl;
}

-- where the last statement of a block is at a known spot, the block ends there
pub settled_end : (planned : PlannedShape) (home : HostId) (block : List Stmt) (last : ℕ) (spot : Spot) →
    length block ≡ suc last → IsSettled planned (ids_of block) (suc last) spot →
    end_of spot ≡ end_host planned (on home) (ids_of block)
settled_end planned home block last spot is settled =
    let many : length (ids_of block) ≡ suc last = length-map block (λ (one : Stmt). one.id) ∙ is in
    sym (ends_behind planned (on home) (ids_of block)
    ∙ ap (λ (count : ℕ). end_of (spot_behind planned (on home) (ids_of block) count)) many
    ∙ ap end_of (settled.at home))
