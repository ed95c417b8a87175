use Rattle.std.proofs.Common.{◌≡◌, subst}
use Rattle.std.specs.Prelude.{IfOk}
use Rattle.jif_tree.specs.Trees.{done, tree_before}
use Rattle.place_reasons.specs.Firsts.{or_first}
use Rattle.place_reasons.specs.Reasons.{Site, call_row, need_row, run_row, use_row}
use Rattle.place_reasons.proofs.Sites.{same_site}
use Rattle.place_reasons.proofs.statements.statement_reason.Goals as goal

pub returns-clause-reason : goal.returns-clause-reason
returns-clause-reason c =
    let of = c.site_of-site.ensures in
    let block = tree_before c.args.statement.now done in
    let P : Site → Type 0 = λ site. IfOk c.reason_at.result (λ reason. reason ≡ or_first (run_row site block)
    (or_first (use_row site block) (or_first (call_row site block) (need_row site block)))) in
    subst P (same_site c.site_of-site.result c.args.search.now.principals.now c.args.search.now.checked.now
    c.args.host.now c.args.method.now of.principals of.checked of.host of.method) c.reason_at.ensures.reason
