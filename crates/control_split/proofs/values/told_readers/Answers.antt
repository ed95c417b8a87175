use Rattle.std.proofs.Common.{◌≡◌, ◌<◌, Vec, Global, ◌∙◌, List, length, sym, ap, subst, arith}
use Rattle.std.proofs.lemmas.List.{length-map}
use Rattle.js_base.specs.declared.ids.HostId.{HostId}
use Rattle.host_decl.specs.Hosts.{HostShape}
use Rattle.js_base.specs.declared.bits.TheConstants.{WORD_BITS}
use Rattle.msg_cost.specs.Kept.{IsReadingWord}
use Rattle.msg_cost.specs.Moves.{PlannedShape}
use Rattle.msg_cost.proofs.Forwards.{not_reading, the_sender, true_not_false, none_told, it_rides}
use Rattle.control_split.specs.Views.{planned_in}
use Rattle.control_split.proofs.Receivers.{one_gets, one_gets_not}
use Rattle.control_split.proofs.values.told_readers.Goals as goal
use Rattle.control_split.proofs.values.told_readers.Goals.{then-other-host+then-has_bit+then-not-is_to+in_ok-push}
use Rattle.control_split.proofs.values.told_readers.Goals.{else-other-host}
use Rattle.control_split.proofs.values.told_readers.Goals.{}
use Rattle.control_split.proofs.values.told_readers.Goals.{else-other-host-via-then-other-host+then-has_bit+else-not-is_to}
use Rattle.control_split.proofs.values.told_readers.Goals.{else-other-host-via-then-other-host+else-has_bit}
use Rattle.control_split.proofs.values.told_readers.Goals.{else-other-host-via-else-other-host}

pub loop-other-preserved : goal.loop-other-preserved
loop-other-preserved c =
    let split = c.args.split.now in
    let planned = planned_in split in
    let reading : IsReadingWord planned c.args.x c.reading_hosts-reading.result =
    subst (λ (shape : PlannedShape). IsReadingWord shape c.args.x c.reading_hosts-reading.result)
    c.planned.ensures c.reading_hosts-reading.ensures in
    let long = length-map split.hosts.now.hosts (λ (host : HostShape). host.name) in
    let few = c.hosts.ensures.sound.names.few in
    let same = ap (λ (hosts : List HostShape). length hosts) c.hosts.ensures.hosts in
    let small : c.loop-other.other < WORD_BITS = omega arith in
    let items : (one other : Vec HostId Global) → one ≡ other → one.items ≡ other.items =
    λ one other same. ap (λ (hosts : Vec HostId Global). hosts.items) same in
    elim c.if-other-host.branch [
      | then-other-host+then-has_bit+then-not-is_to+in_ok-push w ↦
          one_gets planned c.args.host c.args.x c.args.carried c.loop-other.other c.loop-other.readers.items
          c.if-other-host.readers.items w.if-other-host.true
          ((reading c.loop-other.other small).0 (w.has_bit.ensures.0 w.if-has_bit.true))
          (sym w.is_to.ensures ∙ w.if-not-is_to.true)
          (items _ _ w.readers-is ∙ w.in_ok-push.ensures.items) c.loop-other.invariant
      | else-other-host w ↦
          one_gets_not planned c.args.host c.args.x c.args.carried c.loop-other.other c.loop-other.readers.items
          c.if-other-host.readers.items
          (elim w.else-other-host.branch [
            | else-other-host-via-then-other-host+else-has_bit w' ↦
                none_told planned c.args.host c.args.x c.args.carried c.loop-other.other
                (not_reading planned c.args.host c.args.x c.loop-other.other (λ reads.
                true_not_false (sym (w'.has_bit.ensures.1 ((reading c.loop-other.other small).1 reads))
                ∙ w'.if-has_bit.false)))
            | else-other-host-via-then-other-host+then-has_bit+else-not-is_to w' ↦
                it_rides planned c.args.host c.args.x c.args.carried c.loop-other.other
                (sym w'.is_to.ensures ∙ w'.if-not-is_to.false)
            | else-other-host-via-else-other-host w' ↦
                none_told planned c.args.host c.args.x c.args.carried c.loop-other.other
                (the_sender planned c.args.host c.args.x c.loop-other.other w'.if-other-host.false)
          ]) (items _ _ w.readers-is) c.loop-other.invariant
    ]
