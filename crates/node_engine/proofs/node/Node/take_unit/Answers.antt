use Rattle.std.proofs.Common.{◌∙◌, ap, ap₂}
use Rattle.std.proofs.lemmas.Result.{IfOk-weaker, IfErr-weaker}
use Rattle.host_core.specs.Host.{state_of}
use Rattle.node_seals.specs.Seals.{opened_of}
use Rattle.node_engine.specs.Told.{inside, seen}
use Rattle.node_engine.specs.Units.{inside_opened}
use Rattle.node_engine.proofs.Breaking.{handed}
use Rattle.node_engine.proofs.UnitParts.{arrival_parts, opening_stops, taking_does, taking_stops_first}
use Rattle.node_engine.proofs.UnitParts.{taking_stops_later}
use Rattle.node_engine.proofs.node.Node.take_unit.Goals as goal

pub returns-in_err-arrived-clause-err : goal.returns-in_err-arrived-clause-err
returns-in_err-arrived-clause-err g c =
    handed _ c.in_err-arrived.field-0.0 c.from_residual.result c.from_residual.ensures
    (taking_stops_first _ c.args.self.now _ _ c.requires.rest c.in_err-arrived.ensures.err
    (c.unit_laws.ensures.some_taking c.args.self.now.code.now c.args.self.now.me (inside c.args.self.now)))

pub returns-in_err-arrival-clause-err : goal.returns-in_err-arrival-clause-err
returns-in_err-arrival-clause-err g c =
    let node = c.args.self.now in
    let bytes = c.in_ok-arrived.arrived.bytes.items in
    let taken = c.in_ok-arrived.ensures.same in
    let some = c.unit_laws.ensures.some_arrival node.code.now node.me node.seals.now bytes in
    let parts = arrival_parts c.step_laws.ensures.some_taking node.code.now node.me
    (inside_opened (opened_of node.seals.now bytes) (inside node)) some.0 in
    handed _ c.in_err-arrival.field-0.0 c.from_residual-in_err-arrival.result c.from_residual-in_err-arrival.ensures
    (opening_stops _ node bytes some.0 _ _ _ parts.0 c.requires.rest c.in_ok-arrived.ensures.ok
    (ap₂ (λ h s. record { host = h; seals = s }) (ap state_of taken.same.host_is) taken.seals_is)
    (rw c.deref.ensures.value at c.in_err-arrival.ensures.err) some.1 parts.1)

pub returns-clause-ok : goal.returns-clause-ok
returns-clause-ok g c =
    let node = c.args.self.now in
    let taken = c.in_ok-arrived.ensures.same in
    let opened = c.in_ok-arrival.ensures.same in
    let code = opened.node.code ∙ taken.same.node.code in
    let me = opened.node.me ∙ taken.same.node.me in
    IfOk-weaker c.handled.result _ _
    (λ ended did.
    taking_does node _ _ _ (seen g.L.Links g.R.Sink c.taken.new.self) _ _ did.0 ended
    (record {
      rests = c.requires.rest;
      takes = c.in_ok-arrived.ensures.ok;
      same = ap₂ (λ h s. record { host = h; seals = s }) (ap state_of taken.same.host_is) taken.seals_is;
      opens = rw c.deref.ensures.value at c.in_ok-arrival.ensures.ok;
      arrives = rw (c.deref.ensures.value, taken.same.node.code, taken.same.node.me)
          at c.in_ok-arrival.ensures.arrives;
      inside = ap₂ (λ h s. record { host = h; seals = s }) (ap state_of opened.host_is)
          (rw c.deref.ensures.value at c.in_ok-arrival.ensures.opened);
      are = did.1;
    }) did.2 did.3)
    (rw (code, me) at c.handled.ensures.ok)

pub returns-clause-err : goal.returns-clause-err
returns-clause-err g c =
    let node = c.args.self.now in
    let taken = c.in_ok-arrived.ensures.same in
    let opened = c.in_ok-arrival.ensures.same in
    let code = opened.node.code ∙ taken.same.node.code in
    let me = opened.node.me ∙ taken.same.node.me in
    IfErr-weaker c.handled.result _ _
    (λ error did.
    taking_stops_later error node _ _ _ (seen g.L.Links g.R.Sink c.taken.new.self) _ _ did.0
    (record {
      rests = c.requires.rest;
      takes = c.in_ok-arrived.ensures.ok;
      same = ap₂ (λ h s. record { host = h; seals = s }) (ap state_of taken.same.host_is) taken.seals_is;
      opens = rw c.deref.ensures.value at c.in_ok-arrival.ensures.ok;
      arrives = rw (c.deref.ensures.value, taken.same.node.code, taken.same.node.me)
          at c.in_ok-arrival.ensures.arrives;
      inside = ap₂ (λ h s. record { host = h; seals = s }) (ap state_of opened.host_is)
          (rw c.deref.ensures.value at c.in_ok-arrival.ensures.opened);
      are = did.1;
    }) did.2)
    (rw (code, me) at c.handled.ensures.err)
