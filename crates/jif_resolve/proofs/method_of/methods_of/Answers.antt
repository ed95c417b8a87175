use Rattle.std.proofs.Common.{◌≡◌, length, ◌∙◌, arith}
use Rattle.jif_grammar.specs.DraftShapes.{method_shape}
use Rattle.jif_resolve.proofs.Cleanly.{none_left}
use Rattle.jif_resolve.proofs.MethodWalks.{gives_is}
use Rattle.jif_resolve.proofs.Methods.{gives_setting, method_clean, next_counted, next_has_room, methods_more}
use Rattle.jif_resolve.proofs.Methods.{methods_all}
use Rattle.jif_resolve.proofs.method_of.methods_of.Goals as goal

pub method_of-requires-clause-clean : goal.method_of-requires-clause-clean
method_of-requires-clause-clean c =
    method_clean c.in-Some.draft c.next.new.self.rest.items _ c.loop-draft.invariant c.in-Some.ensures.steps.0
    (gives_setting c.args.principals.now c.args.globals.now c.is_some-gives.result (method_shape c.in-Some.draft)
    (c.is_some-gives.ensures ∙ gives_is c.in-Some.draft.result))

pub method_of-requires-clause-counted : goal.method_of-requires-clause-counted
method_of-requires-clause-counted c =
    next_counted c.in-Some.draft c.next.new.self.rest.items c.requires.limits.0 c.requires.limits.1 c.requires.limits.2
    c.loop-draft.invariant c.in-Some.ensures.steps.0

pub next_method-requires : goal.next_method-requires
next_method-requires c =
    next_has_room c.in-Some.draft c.next.new.self.rest.items c.method_of.new.scope c.requires.limits.0
    c.requires.limits.1
    c.requires.limits.2 c.loop-draft.invariant c.in-Some.ensures.steps.0 c.in_ok-method_of.ensures.place

pub loop-draft-preserved : goal.loop-draft-preserved
loop-draft-preserved c =
    rw c.in_ok-push.ensures.items
    (methods_more c.in-Some.draft c.next.new.self.rest.items _ c.method_of.new.scope c.next_method.new.self
    c.in_ok-method_of.field-0 c.loop-draft.invariant c.in-Some.ensures.steps.0
    (gives_setting c.args.principals.now c.args.globals.now c.is_some-gives.result (method_shape c.in-Some.draft)
    (c.is_some-gives.ensures ∙ gives_is c.in-Some.draft.result)) c.in_ok-method_of.ensures.place
    c.next_method.ensures c.in_ok-method_of.ensures.method)

pub returns : goal.returns
returns c =
    let left = c.loop-draft.draft-iterator.rest in
    let none : length left.items ≡ 0 = omega (arith, left.ok.0, c.in-None.ensures.steps.0) in
    methods_all c.loop-draft.invariant (none_left left.items none)
