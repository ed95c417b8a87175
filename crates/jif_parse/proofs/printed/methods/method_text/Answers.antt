use Rattle.jif_tree.specs.Trees.{method_tree}
use Rattle.jif_parse.specs.PrintedNames.{naming_of}
use Rattle.jif_parse.proofs.PrintedMethods.{method_prints}
use Rattle.jif_parse.proofs.printed.methods.method_text.Goals as goal

pub returns-clause-text : goal.returns-clause-text
returns-clause-text c =
    method_prints (naming_of c.args.names.now) c.args.seen.now (method_tree c.args.method.now) _ _ _ _ _ _ _ _
    c.in_ok-format.ensures.ok c.in_ok-kind.ensures c.as_str-name.ensures.value c.in_ok-begin.ensures
    (rw c.deref.ensures.value at c.in_ok-params.ensures) (rw c.deref-2.ensures.value at c.in_ok-authority.ensures)
    (rw c.deref-3.ensures.value at c.see_all.ensures) (rw c.deref-4.ensures.value at c.in_ok-body.ensures.text)
