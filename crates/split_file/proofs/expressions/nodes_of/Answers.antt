use Rattle.std.proofs.Common.{◌+◌, length, ap, ◌∙◌}
use Rattle.std.proofs.lemmas.Result.{err_from_is_err_and}
use Rattle.std.proofs.lemmas.List.{length_push}
use Rattle.byte_format.proofs.Items.{items_more, items_done}
use Rattle.split_file.specs.Reading.{node_at}
use Rattle.split_file.proofs.Items.{items_fail}
use Rattle.split_file.proofs.expressions.nodes_of.Goals as goal

pub returns-in_err-node-clause-nodes : goal.returns-in_err-node-clause-nodes
returns-in_err-node-clause-nodes c =
    let p = err_from_is_err_and c.from_residual.result c.from_residual.ensures.1 in
    rw (p.1, p.2) (items_fail (λ _. node_at c.args.vars c.args.temporaries) c.loop.nodes.items c.args.count
    c.loop.counter _ c.loop.rest.now _ c.loop-test.true c.in_err-node.ensures c.loop.invariant.read)

pub loop-preserved : goal.loop-preserved
loop-preserved c = record {
  read = rw c.in_ok-push.ensures.items (items_more (λ _. node_at c.args.vars c.args.temporaries) c.loop.nodes.items
      c.args.count c.loop.counter _ c.loop.rest.now _ _ c.loop-test.true c.in_ok-node.ensures c.loop.invariant.read);
  count = ap length c.in_ok-push.ensures.items ∙ length_push c.loop.nodes.items c.in_ok-node.node
      ∙ ap (λ n. n + 1) c.loop.invariant.count;
}

pub returns-clause-nodes : goal.returns-clause-nodes
returns-clause-nodes c =
    items_done (λ _. node_at c.args.vars c.args.temporaries) c.loop.nodes.items c.args.count c.loop.counter
    c.loop.rest.now _ c.loop-test.false c.loop.invariant.read
