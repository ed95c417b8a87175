use Rattle.std.proofs.Common.{ap}
use Rattle.jif_tree.specs.Trees.{block_tree}
use Rattle.place_reasons.proofs.Walking.{method_answers}
use Rattle.place_reasons.proofs.walk.answer_method.Goals as goal

pub returns : goal.returns
returns c =
    method_answers (record {
      principals = c.args.principals;
      program = c.args.program;
      method = c.args.method;
      held = c.args.held;
      pairs = _;
      distrusts = _;
    }) c.args.question c.cause_where.result c.args.number c.args.known.now c.answer_block.new.known
    c.args.answers.now.items c.push.new.self.items c.answer_block.new.answers.items _
    c.cause_where.ensures (ap block_tree c.deref.ensures.value) c.in_ok-push.ensures.items c.in_ok-answer_block.ensures
