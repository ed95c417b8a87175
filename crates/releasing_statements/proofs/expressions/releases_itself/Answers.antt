use Rattle.std.proofs.Common.{◌∙◌, sym, ap}
use Rattle.std.specs.List.{list_any}
use Rattle.jif_tree.specs.declared.program.Expr.{Expr}
use Rattle.jif_tree.specs.declared.program.StmtKind.{StmtKind}
use Rattle.jif_tree.specs.Trees.{expr_tree}
use Rattle.need_labels.specs.Needs.{releases}
use Rattle.releasing_statements.specs.Kinds.{own_exprs}
use Rattle.releasing_statements.proofs.MarkParts.{any_of}
use Rattle.releasing_statements.proofs.expressions.releases_itself.Goals as goal

pub returns-in-Call : goal.returns-in-Call
returns-in-Call c =
    c.some_releases.ensures ∙ ap (list_any (λ (expr : Expr). releases (expr_tree expr))) c.deref.ensures.value
    ∙ sym (any_of expr_tree releases c.in-Call.args.items)
    ∙ ap (λ (what : StmtKind). list_any releases (own_exprs what)) (sym c.in-Call.is)
