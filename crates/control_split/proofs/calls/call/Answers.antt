use Rattle.std.proofs.Common.{◌≡◌, ◌∙◌, ◌∷◌, suc, map, ℕ, List, Option, ap}
use Rattle.std.proofs.lemmas.Result.{on_ok_weaker}
use Rattle.js_base.specs.declared.ids.EntryId.{EntryId}
use Rattle.js_base.specs.declared.ids.HostId.{HostId}
use Rattle.js_base.specs.declared.ids.VarId.{VarId}
use Rattle.jif_tree.specs.LabelRules.{method_at, params_of, result_of}
use Rattle.jif_tree.specs.Trees.{expr_tree, program_tree}
use Rattle.host_code.specs.declared.instruction.Op.{Op}
use Rattle.host_code.specs.declared.instruction.Op.TheVariants as op
use Rattle.msg_cost.specs.Moves.{called_home, PlannedShape}
use Rattle.split_rules.specs.Emissions.{Emission, entry, stands}
use Rattle.split_rules.specs.Walk.{emitted, entry_id, argument_emissions, riding_params, call_with, kept_emissions}
use Rattle.split_rules.specs.Walk.{need_of}
use Rattle.control_split.specs.Trace.{traced}
use Rattle.control_split.specs.Views.{walked_of}
use Rattle.control_split.proofs.Operands.{with_one, called}
use Rattle.control_split.proofs.calls.call.Goals as goal

pub returns : goal.returns
returns c = λ left needed.
    let place = c.args.place.now in
    let host = place.host in
    let label = place.label.now in
    let id = place.statement in
    let walked = walked_of c.args.walk.now in
    let what = c.args.what.now in
    let counts = c.args.trace.now.counts in
    let method = method_at (program_tree c.args.walk.now.split.checked.now.program) what.method in
    let args = map expr_tree what.args.now in
    let home = called_home walked.planned method in
    let gave : List VarId → HostId → List Emission = λ params on. argument_emissions walked host on label id params args
    in
    let ridden : List VarId → HostId → List VarId = λ params on. riding_params walked.planned host on params args in
    let kept : Option VarId → List Emission = λ given. kept_emissions walked host label id given what.into
    c.args.carried in
    let home_is : c.called_home-home.result ≡ home = c.called_home-home.ensures
    ∙ ap (λ (planned : PlannedShape). called_home planned (method_at planned.program what.method)) c.planned.ensures in
    on_ok_weaker c.keep.result (λ is.
    is ∙ ap (λ given. traced c.stands.new.self (kept given)) c.result_of-result.ensures.tree
    ∙ called c.args.trace.now c.entry.new.self c.instruction.new.self c.arguments.new.trace c.instruction-2.new.self
    c.instruction-3.new.self c.stands.new.self
    (entry (record { host = host; label = label; need = need_of walked.planned (id ∷ left) }))
    (emitted host label id (op.Frame what.site)) (gave (params_of method) home)
    (emitted host label id (op.Push (entry_id counts.entries)))
    (emitted host label id (call_with (ridden (params_of method) home) (entry_id (suc what.method.0)) home))
    (stands host counts.entries) (kept (result_of method))
    (with_one c.args.trace.now c.entry.new.self _ _ c.in_ok-entry.ensures
    (ap (λ (need : ℕ). entry (record { host = host; label = label; need = need })) needed))
    c.in_ok-instruction.ensures
    (c.in_ok-arguments.ensures
    ∙ ap (λ params. traced c.instruction.new.self (gave params c.called_home-home.result))
    c.params_of-params.ensures.tree
    ∙ ap (λ on. traced c.instruction.new.self (gave (params_of method) on)) home_is)
    (with_one c.arguments.new.trace c.instruction-2.new.self _ _ c.in_ok-instruction-2.ensures
    (ap (λ (number : ℕ). emitted host label id (op.Push (entry_id number))) c.entries-behind.ensures))
    (with_one c.instruction-2.new.self c.instruction-3.new.self _ _ c.in_ok-instruction-3.ensures
    (ap (λ (what_is : Op). emitted host label id what_is) (c.call_with.ensures
    ∙ ap (λ riders. call_with riders c.in_ok-method.method c.called_home-home.result)
    (c.in_ok-riders.ensures ∙ c.in_ok-riding_params.ensures
    ∙ ap (λ params. ridden params c.called_home-home.result) c.params_of-params.ensures.tree
    ∙ ap (λ on. ridden (params_of method) on) home_is)
    ∙ ap (λ (there : EntryId). call_with (ridden (params_of method) home) there c.called_home-home.result)
    c.in_ok-method.ensures
    ∙ ap (λ on. call_with (ridden (params_of method) home) (entry_id (suc what.method.0)) on) home_is)))
    (with_one c.instruction-3.new.self c.stands.new.self _ _ c.in_ok-stands.ensures
    (ap (λ (number : ℕ). stands host number) c.entries-behind.ensures)))
    c.keep.ensures
