use Rattle.std.proofs.Common.{ap}
use Rattle.jif_tree.specs.Trees.{block_tree}
use Rattle.label_reasons.proofs.MethodSearches.{method_walks}
use Rattle.label_reasons.proofs.refusal.search_method.Goals as goal

pub returns : goal.returns
returns c =
    method_walks (record {
      principals = c.args.principals;
      program = c.args.program;
      method = c.args.method;
      held = c.args.held;
      pairs = c.args.pairs;
      distrusts = c.args.distrusts;
    }) c.cause_where.result c.args.number c.args.known.now c.search_block.new.known c.search_block.new.found _
    c.cause_where.ensures (ap block_tree c.deref.ensures.value) c.search_block.ensures
