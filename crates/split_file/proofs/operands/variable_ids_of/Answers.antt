use Rattle.std.proofs.Common.{◌+◌, length, ap, ◌∙◌}
use Rattle.std.proofs.lemmas.Result.{err_from_is_err_and}
use Rattle.std.proofs.lemmas.List.{length_push}
use Rattle.byte_format.proofs.Items.{items_more, items_done}
use Rattle.split_file.specs.Reading.{variable_id_at}
use Rattle.split_file.proofs.Items.{items_fail}
use Rattle.split_file.proofs.operands.variable_ids_of.Goals as goal

pub returns-in_err-var-clause-variables : goal.returns-in_err-var-clause-variables
returns-in_err-var-clause-variables c =
    let p = err_from_is_err_and c.from_residual.result c.from_residual.ensures.1 in
    rw (p.1, p.2) (items_fail (λ _. variable_id_at c.args.vars) c.loop.found.items c.args.count c.loop.counter _
    c.loop.rest.now _ c.loop-test.true c.in_err-var.ensures c.loop.invariant.read)

pub loop-preserved : goal.loop-preserved
loop-preserved c = record {
  read = rw c.in_ok-push.ensures.items (items_more (λ _. variable_id_at c.args.vars) c.loop.found.items c.args.count
      c.loop.counter _ c.loop.rest.now _ _ c.loop-test.true c.in_ok-var.ensures c.loop.invariant.read);
  count = ap length c.in_ok-push.ensures.items ∙ length_push c.loop.found.items c.in_ok-var.var
      ∙ ap (λ n. n + 1) c.loop.invariant.count;
}

pub returns-clause-variables : goal.returns-clause-variables
returns-clause-variables c =
    items_done (λ _. variable_id_at c.args.vars) c.loop.found.items c.args.count c.loop.counter c.loop.rest.now _
    c.loop-test.false c.loop.invariant.read
