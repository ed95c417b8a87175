use Rattle.std.proofs.Common.{Some, ap, ◌∙◌}
use Rattle.js_base.proofs.HeldFiles.{held_in-set_same, held_in-set_other, held_in-push_same, held_in-push_other}
use Rattle.js_base.proofs.named_files.replace.Goals as goal

pub returns-in-Some-clause-ok : goal.returns-in-Some-clause-ok
returns-in-Some-clause-ok c =
    held_in-set_same c.args.name.now c.args.files.now.items c.in-Some.place c.index_mut.result.now c.in_ok-copy.copy
    (rw c.deref.ensures.value at c.in-Some.ensures) c.index_mut.ensures.value
    ∙ ap (λ x. Some x) c.in_ok-copy.ensures.items

pub returns-in-Some-clause-others : goal.returns-in-Some-clause-others
returns-in-Some-clause-others c = λ other differ.
    held_in-set_other c.args.name.now c.args.files.now.items c.in-Some.place c.index_mut.result.now
    c.in_ok-copy.copy other (rw c.deref.ensures.value at c.in-Some.ensures) c.index_mut.ensures.value differ

pub returns-in_ok-push-in-None-clause-ok : goal.returns-in_ok-push-in-None-clause-ok
returns-in_ok-push-in-None-clause-ok c =
    rw c.in_ok-push-in-None.ensures.items
    (held_in-push_same c.args.files.now.items (c.in_ok-from_str-in-None.field-0, c.in_ok-copy.copy) c.args.name.now
    (rw c.deref.ensures.value at c.in-None.ensures) c.in_ok-from_str-in-None.ensures.ok
    ∙ ap (λ x. Some x) c.in_ok-copy.ensures.items)

pub returns-in_ok-push-in-None-clause-others : goal.returns-in_ok-push-in-None-clause-others
returns-in_ok-push-in-None-clause-others c = λ other differ.
    rw c.in_ok-push-in-None.ensures.items
    (held_in-push_other c.args.files.now.items (c.in_ok-from_str-in-None.field-0, c.in_ok-copy.copy) c.args.name.now
    other c.in_ok-from_str-in-None.ensures.ok differ)
