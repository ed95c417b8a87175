use Rattle.std.proofs.Common.{◌∙◌, ◌++◌, List, ap, map, add-one}
use Rattle.std.specs.List.{flat_map}
use Rattle.jif_tree.specs.declared.program.Method.{Method}
use Rattle.jif_tree.specs.declared.program.Stmt.{Stmt}
use Rattle.jif_tree.specs.Trees.{block_tree, method_tree}
use Rattle.split_rules.specs.Positions.{all_statements}
use Rattle.split_rules.specs.ReleaseRows.{shown}
use Rattle.split_rules.proofs.AddedStatements.{all_in, methods_more, methods_all, pushed_more}
use Rattle.split_rules.proofs.statements.statements_of.Goals as goal

pub loop-method-preserved : goal.loop-method-preserved
loop-method-preserved c =
    rw add-one (methods_more _ _ (map shown c.push.new.self.items) _ _ c.loop-method.method-index c.method-item.result
    c.loop-method-test.true c.method-item.is (pushed_more _ _ _ c.in_ok-push.ensures.items)
    (c.in_ok-add_block.ensures
    ∙ ap (λ (body : List Stmt). map shown c.push.new.self.items ++ all_statements (block_tree body))
    c.deref.ensures.value) c.loop-method.invariant)

pub returns : goal.returns
returns c =
    methods_all _ _ _ c.loop-method.method-index c.loop-method-test.false c.loop-method.invariant
    ∙ ap (λ (methods : List Method). flat_map all_in (map method_tree methods)) c.deref-method-items.ensures.value
