use Rattle.std.proofs.Common.{List, ◌∙◌, length, ap, sym, arith}
use Rattle.std.proofs.lemmas.Bool.{ltb-true, ltb-false}
use Rattle.std.proofs.lemmas.List.{length-map}
use Rattle.std.proofs.lemmas.Option.{slice_get_past}
use Rattle.js_base.specs.declared.ids.StmtId.{StmtId}
use Rattle.jif_tree.specs.Trees.{method_tree}
use Rattle.need_labels.specs.Plan.{statement_host}
use Rattle.msg_cost.specs.Moves.{on, end_host, called_end}
use Rattle.msg_cost.specs.Views.{seated_shape}
use Rattle.msg_cost.proofs.Found.{method_there}
use Rattle.msg_cost.proofs.Statements.{own_ids}
use Rattle.msg_cost.proofs.ends.listed_end.Goals as goal

pub returns-in-Some : goal.returns-in-Some
returns-in-Some c =
    let planned = seated_shape c.args.planned.now in
    let methods = c.args.planned.now.program.now.methods.items in
    let lookup = rw c.deref.ensures.value at c.in-Some.ensures.lookup in
    let called = c.in-Some.called.now in
    let within = ltb-true c.args.method.0 (length methods) (sym lookup.0) in
    let ended = rw (c.host_of-home.ensures, c.deref-in-Some.ensures.value) at c.walk_end.ensures in
    ended
    ∙ ap (λ (ids : List StmtId). end_host planned (on (statement_host planned.plan called.head)) ids)
    (sym (own_ids called.body.items))
    ∙ sym (ap (called_end planned) (method_there methods c.args.method.0 called within lookup.1))

pub returns-in-None : goal.returns-in-None
returns-in-None c =
    let planned = seated_shape c.args.planned.now in
    let methods = c.args.planned.now.program.now.methods.items in
    let lookup = rw c.deref.ensures.value at c.in-None.ensures.lookup in
    let past = ltb-false c.args.method.0 (length methods) (sym lookup.0) in
    let many = length-map methods method_tree in
    sym (ap (called_end planned) (slice_get_past planned.program.methods c.args.method.0 (omega arith)))
