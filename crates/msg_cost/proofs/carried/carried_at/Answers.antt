use Rattle.std.proofs.Common.{◌≡◌, ◌∙◌, ℕ, suc, ◌≤◌, ◌<◌, drop, length, ap, sym, add-one, arith}
use Rattle.js_base.specs.declared.ids.HostId.{HostId}
use Rattle.jif_tree.specs.declared.program.Stmt.{Stmt}
use Rattle.need_labels.specs.Plan.{statement_host}
use Rattle.msg_cost.specs.declared.spot.Spot.{Spot}
use Rattle.msg_cost.specs.Kept.{is_trusted_from}
use Rattle.msg_cost.specs.Moves.{on, carried_to}
use Rattle.msg_cost.specs.Views.{seated_shape, ids_of}
use Rattle.msg_cost.specs.Walks.{spot_behind}
use Rattle.msg_cost.proofs.Riding.{none_behind, carried_behind, same_none, lent_none}
use Rattle.msg_cost.proofs.SettledSpots.{stands_on}
use Rattle.msg_cost.proofs.carried.carried_at.Goals as goal

pub returns-then-left-lt2 : goal.returns-then-left-lt2
returns-then-left-lt2 c =
    let planned = seated_shape c.args.planned.now in
    let past : length c.args.walk.now.block.now ≤ suc c.args.place = omega arith in
    none_behind planned (spot_behind planned (on (statement_host planned.plan c.args.walk.now.home))
    (ids_of c.args.walk.now.block.now) (suc c.args.place)) c.args.walk.now.block.now (suc c.args.place) past

pub returns-then-host_of-host : goal.returns-then-host_of-host
returns-then-host_of-host c =
    let planned = seated_shape c.args.planned.now in
    let block = c.args.walk.now.block.now in
    let place = c.args.place in
    let home = statement_host planned.plan c.args.walk.now.home in
    let one = c.index-walk-place.result in
    let next = c.index-walk-place-2.result in
    let first : place < length block = omega arith in
    let second : suc place < length block = omega arith in
    let here : c.host_of-host.result ≡ statement_host planned.plan one.id =
    c.host_of-host.ensures ∙ ap (λ (at : Stmt). statement_host planned.plan at.id) (sym c.index-walk-place.is) in
    let there : c.host_of.result ≡ statement_host planned.plan next.id =
    c.host_of.ensures ∙ ap (λ (at : Stmt). statement_host planned.plan at.id) (sym c.index-walk-place-2.is) in
    let same : c.host_of-host.result ≡ c.host_of.result =
    ap (λ (number : ℕ). record { 0 = number }) (sym c.if-host_of-host.true) in
    same_none planned (spot_behind planned (on home) (ids_of block) (suc place)) block (suc place) next second
    (rw add-one at c.index-walk-place-2.is)
    (stands_on planned (on home) block place one first c.index-walk-place.is ∙ sym here ∙ same ∙ there)

pub returns-then-is_lent : goal.returns-then-is_lent
returns-then-is_lent c =
    let planned = seated_shape c.args.planned.now in
    let block = c.args.walk.now.block.now in
    let place = c.args.place in
    let one = c.index-walk-place.result in
    let first : place < length block = omega arith in
    let here : c.host_of-host.result ≡ statement_host planned.plan one.id =
    c.host_of-host.ensures ∙ ap (λ (at : Stmt). statement_host planned.plan at.id) (sym c.index-walk-place.is) in
    let lent = c.is_lent.ensures.0 c.if-is_lent.true in
    lent_none planned (statement_host planned.plan c.args.walk.now.home) block place one first c.index-walk-place.is
    (λ same. lent.0 (ap (λ (host : HostId). host.0) here ∙ same
    ∙ sym (ap (λ (host : HostId). host.0) c.host_of-home.ensures)))
    (sym (ap (λ (host : HostId). is_trusted_from planned host block (suc place)) here) ∙ rw add-one at lent.1)

pub returns : goal.returns
returns c =
    let planned = seated_shape c.args.planned.now in
    let block = c.args.walk.now.block.now in
    let within : suc c.args.place < length block = omega arith in
    c.straight_to.ensures
    ∙ carried_behind planned c.spot_at-spot.result c.next_spot-next.result block (suc c.args.place) within
    (rw add-one at c.next_spot-next.ensures.result)
    ∙ ap (λ (spot : Spot). carried_to planned spot (drop (suc c.args.place) (ids_of block)))
    ((rw add-one at c.spot_at-spot.ensures)
    ∙ ap (λ (host : HostId). spot_behind planned (on host) (ids_of block) (suc c.args.place)) c.host_of-home.ensures)
