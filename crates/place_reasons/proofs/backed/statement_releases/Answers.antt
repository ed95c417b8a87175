use Rattle.std.proofs.Common.{◌∙◌, sym, ap}
use Rattle.std.specs.List.{list_any}
use Rattle.jif_tree.specs.Trees.{ExprTree}
use Rattle.need_labels.specs.Needs.{releases}
use Rattle.place_reasons.proofs.Numbered.{exprs_are}
use Rattle.place_reasons.proofs.backed.statement_releases.Goals as goal

pub returns : goal.returns
returns c rest = c.releases_itself.ensures ∙ ap (list_any releases) (sym (exprs_are c.args.statement.now rest))
