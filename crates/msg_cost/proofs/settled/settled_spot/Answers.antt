use Rattle.std.proofs.Common.{◌≡◌, ◌∙◌, ℕ, ◌-◌, nat_le, ap, subst, sym, arith}
use Rattle.js_base.specs.declared.ids.HostId.{HostId}
use Rattle.jif_tree.specs.declared.program.Stmt.{Stmt}
use Rattle.jif_tree.specs.Trees.{program_tree}
use Rattle.need_labels.specs.Plan.{statement_host}
use Rattle.msg_cost.specs.Moves.{on}
use Rattle.msg_cost.specs.Views.{seated_shape, ids_of}
use Rattle.msg_cost.specs.Walks.{spot_behind}
use Rattle.msg_cost.proofs.Spots.{IsNotLentTo}
use Rattle.msg_cost.proofs.SettledSpots.{first_not_lent, other_not_lent, settled}
use Rattle.msg_cost.proofs.settled.settled_spot.Goals as goal
use Rattle.msg_cost.proofs.settled.settled_spot.Goals.{else-since-gt0-via-then-since-gt0+else-host_of-host}
use Rattle.msg_cost.proofs.settled.settled_spot.Goals.{else-since-gt0-via-else-since-gt0}

pub returns : goal.returns
returns c =
    let planned = seated_shape c.args.planned.now in
    let block = c.args.block.now in
    let host = c.host_of-host.result in
    let since = c.from-since.result in
    let NotLent : Type 0 = (home : HostId) →
    IsNotLentTo host (spot_behind planned (on home) (ids_of block) since) in
    let not : NotLent = elim c.else-since-gt0.branch [
      | else-since-gt0-via-then-since-gt0+else-host_of-host w ↦ λ home.
          other_not_lent planned host home block since (since - 1) w.index-block-since.result (omega arith)
          (omega arith) w.index-block-since.is
          (λ same. w.if-host_of-host.false
          (ap (λ (one : HostId). one.0) w.host_of.ensures
          ∙ ap (λ (one : Stmt). (statement_host planned.plan one.id).0) (sym w.index-block-since.is) ∙ same))
      | else-since-gt0-via-else-since-gt0 w ↦ λ home.
          let none : since ≡ 0 = omega arith in
          subst (λ (count : ℕ). IsNotLentTo host (spot_behind planned (on home) (ids_of block) count)) (sym none)
          (first_not_lent planned host home block)
    ] in
    let program = program_tree c.args.planned.now.program.now in
    rw c.on.ensures
    (settled planned host block since c.args.place c.index-block-place.result
    (λ other near. c.requires.table host (omega arith) program planned.plan other near
    ∙ ap (λ (first : ℕ). nat_le first other) (sym c.from-since.ensures))
    (omega arith) (omega arith) c.requires.place c.index-block-place.is
    (ap (λ (one : Stmt). statement_host planned.plan one.id) c.index-block-place.is ∙ sym c.host_of-host.ensures) not)
