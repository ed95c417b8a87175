use Rattle.std.proofs.Common.{◌≡◌, ◌≤◌, length, vec_len, sym, ap, ◌∙◌, arith}
use Rattle.std.specs.Vec.Iter.{into_iter_items, into_iter_len}
use Rattle.host_decl.proofs.HostRows.{few_read, read_none, read_more, read_all, first_without}
use Rattle.host_decl.proofs.rows.rows_of.Goals as goal

pub loop-host-init : goal.loop-host-init
loop-host-init c =
    let whole : vec_len c.args.hosts ≡ length c.args.hosts.items = omega arith in (
      read_none c.args.principals.now c.args.hosts.items _ _ c.into_iter-host-iterator.ensures.into_iter_gives.0
          c.new-rows.ensures.items,
      c.into_iter-host-iterator.ensures.into_iter_gives.1 ∙ whole
          ∙ ap length (sym c.into_iter-host-iterator.ensures.into_iter_gives.0),
    )

pub overflow_cast-result : goal.overflow_cast-result
overflow_cast-result c =
    let few : length c.loop-host.rows.items ≤ length c.args.hosts.items =
    few_read c.args.principals.now c.args.hosts.items c.loop-host.yielded
    (into_iter_items c.loop-host.host-iterator) c.loop-host.rows.items c.loop-host.invariant.0 in
    omega arith

pub returns-in-Err : goal.returns-in-Err
returns-in-Err c =
    let counted : c.len.result ≡ length c.loop-host.rows.items = omega arith in
    let without = rw c.in-Err.is at c.in_ok-row.ensures in
    first_without c.args.principals.now c.args.hosts.items c.loop-host.yielded
    (into_iter_items c.loop-host.host-iterator) (into_iter_items c.next.new.self) c.loop-host.rows.items
    c.in-Some.host c.len.result _ c.in-Some.ensures.steps.0 counted without.0 without.1 c.loop-host.invariant.0

pub loop-host-preserved : goal.loop-host-preserved
loop-host-preserved c =
    let is = rw c.in-Ok.is at c.in_ok-row.ensures in
    let one_less : into_iter_len c.next.new.self ≡ length (into_iter_items c.next.new.self) =
    (let items = ap length c.in-Some.ensures.steps.0 in let count = c.in-Some.ensures.steps.1 in
    let before = c.loop-host.invariant.1 in omega arith) in (
      rw c.in_ok-push.ensures.items
          (read_more c.args.principals.now c.args.hosts.items c.loop-host.yielded
          (into_iter_items c.loop-host.host-iterator) (into_iter_items c.next.new.self) c.loop-host.rows.items
          c.in-Some.host c.in-Ok.row c.in-Some.ensures.steps.0 is c.loop-host.invariant.0),
      one_less,
    )

pub returns : goal.returns
returns c =
    let empty : length (into_iter_items c.loop-host.host-iterator) ≡ 0 = sym c.loop-host.invariant.1
    ∙ c.in-None.ensures.steps.0 in
    read_all c.args.principals.now c.args.hosts.items c.loop-host.yielded
    (into_iter_items c.loop-host.host-iterator) c.loop-host.rows.items empty c.loop-host.invariant.0
