use Rattle.std.proofs.Common.{◌<◌, ◌+◌, ℕ, ◌∙◌, List, length, sym, ap, subst, arith}
use Rattle.std.proofs.lemmas.List.{length-map}
use Rattle.host_decl.specs.Hosts.{HostShape}
use Rattle.js_base.specs.declared.bits.TheConstants.{WORD_BITS}
use Rattle.msg_cost.specs.Views.{seated_shape}
use Rattle.msg_cost.proofs.Forwards.{forwards_below, one_gets, one_gets_not, not_reading, the_sender, true_not_false}
use Rattle.msg_cost.proofs.Forwards.{none_told, it_rides}
use Rattle.msg_cost.proofs.Sums.{Costs}
use Rattle.msg_cost.proofs.values.forwards.Goals as goal
use Rattle.msg_cost.proofs.values.forwards.Goals.{then-other-host+then-has_bit+then-not-rides_to, else-other-host}
use Rattle.msg_cost.proofs.values.forwards.Goals.{else-other-host-via-then-other-host+then-has_bit+else-not-rides_to}
use Rattle.msg_cost.proofs.values.forwards.Goals.{else-other-host-via-then-other-host+else-has_bit}
use Rattle.msg_cost.proofs.values.forwards.Goals.{else-other-host-via-else-other-host}

pub loop-other-preserved : goal.loop-other-preserved
loop-other-preserved c =
    let planned = seated_shape c.args.planned.now in
    let x = c.args.reading.variable in
    let P : ℕ → Type 0 = λ total. Costs planned.hosts
    (forwards_below planned c.args.weight c.args.host x c.args.carried (c.loop-other.other + 1)) total in
    let long = length-map planned.hosts.hosts (λ (host : HostShape). host.name) in
    let few = c.hosts.ensures.sound.names.few in
    let same = ap (λ (hosts : List HostShape). length hosts) c.hosts.ensures.hosts in
    let small : c.loop-other.other < WORD_BITS = omega arith in
    elim c.if-other-host.branch [
      | then-other-host+then-has_bit+then-not-rides_to w ↦
          subst P (sym (w.total-is ∙ w.saturating_add-total.ensures))
          (one_gets planned c.args.weight c.args.host x c.args.carried c.loop-other.other c.loop-other.total
          w.exchange.result w.if-other-host.true
          ((c.requires c.loop-other.other small).0 (w.has_bit.ensures.0 w.if-has_bit.true))
          (sym w.rides_to.ensures ∙ w.if-not-rides_to.true)
          w.exchange.ensures c.loop-other.invariant)
      | else-other-host w ↦ subst P (sym w.total-is)
          (one_gets_not planned c.args.weight c.args.host x c.args.carried c.loop-other.other c.loop-other.total
          (elim w.else-other-host.branch [
            | else-other-host-via-then-other-host+else-has_bit w' ↦
                none_told planned c.args.host x c.args.carried c.loop-other.other
                (not_reading planned c.args.host x c.loop-other.other (λ reads.
                true_not_false (sym (w'.has_bit.ensures.1
                ((c.requires c.loop-other.other small).1 reads)) ∙ w'.if-has_bit.false)))
            | else-other-host-via-then-other-host+then-has_bit+else-not-rides_to w' ↦
                it_rides planned c.args.host x c.args.carried c.loop-other.other
                (sym w'.rides_to.ensures ∙ w'.if-not-rides_to.false)
            | else-other-host-via-else-other-host w' ↦
                none_told planned c.args.host x c.args.carried c.loop-other.other
                (the_sender planned c.args.host x c.loop-other.other w'.if-other-host.false)
          ]) c.loop-other.invariant)
    ]
