use Rattle.std.proofs.Common.{ap, map}
use Rattle.jif_tree.specs.Trees.{done, block_tree, expr_tree, head_of, method_tree, tree_before}
use Rattle.jif_tree.proofs.NestingTrees.{if_is, while_is}
use Rattle.place_texts.specs.Parts.{part_shape, statement}
use Rattle.place_texts.proofs.PartsOf.{branch_parts, loop_parts, pushed}
use Rattle.place_texts.proofs.part.+blocks.Goals as goal

pub push_statement-returns-in_ok-push_block-in-If-2 : goal.push_statement-returns-in_ok-push_block-in-If-2
push_statement-returns-in_ok-push_block-in-If-2 t c rest =
    branch_parts (method_tree c.args.method.now) (map part_shape c.args.all.now.items)
    (map part_shape c.push.new.self.items) (map part_shape c.push_block.new.all.items)
    (map part_shape c.push_block-in-If.new.all.items) (head_of c.args.statement.now) (expr_tree c.in-If.guard)
    (block_tree c.in-If.yes.items) (block_tree c.in-If.no.items) rest (tree_before c.args.statement.now rest)
    (statement (method_tree c.args.method.now) (tree_before c.args.statement.now done))
    (if_is c.args.statement.now c.in-If.guard c.in-If.yes c.in-If.no rest c.in-If.is c.tree_laws.ensures.branches)
    (ap (statement (method_tree c.args.method.now))
    (if_is c.args.statement.now c.in-If.guard c.in-If.yes c.in-If.no done c.in-If.is c.tree_laws.ensures.branches))
    (pushed c.args.all.now.items c.push.new.self.items _ c.in_ok-push.ensures.items)
    (rw c.deref.ensures.value at c.in_ok-push_block-in-If.ensures)
    (rw c.deref-in-If.ensures.value at c.in_ok-push_block-in-If-2.ensures)

pub push_statement-returns-in_ok-push_block-in-While : goal.push_statement-returns-in_ok-push_block-in-While
push_statement-returns-in_ok-push_block-in-While t c rest =
    loop_parts (method_tree c.args.method.now) (map part_shape c.args.all.now.items)
    (map part_shape c.push.new.self.items) (map part_shape c.push_block-in-While.new.all.items)
    (head_of c.args.statement.now) (expr_tree c.in-While.guard) (block_tree c.in-While.body.items) rest
    (tree_before c.args.statement.now rest)
    (statement (method_tree c.args.method.now) (tree_before c.args.statement.now done))
    (while_is c.args.statement.now c.in-While.guard c.in-While.body rest c.in-While.is c.tree_laws.ensures.loops)
    (ap (statement (method_tree c.args.method.now))
    (while_is c.args.statement.now c.in-While.guard c.in-While.body done c.in-While.is c.tree_laws.ensures.loops))
    (pushed c.args.all.now.items c.push.new.self.items _ c.in_ok-push.ensures.items)
    (rw c.deref-in-While.ensures.value at c.in_ok-push_block-in-While.ensures)
