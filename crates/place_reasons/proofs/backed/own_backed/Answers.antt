use Rattle.std.proofs.Common.{◌≡◌, true, sym, ap, ◌∙◌}
use Rattle.std.specs.List.{list_any}
use Rattle.jif_tree.specs.Trees.{tree_before}
use Rattle.need_labels.specs.Needs.{releases}
use Rattle.place_reasons.specs.Firsts.{or_first}
use Rattle.place_reasons.specs.Reasons.{id_of, exprs_of, changed_by, release_backed}
use Rattle.place_reasons.specs.Search.{site_is}
use Rattle.place_reasons.proofs.Firsts.{two_found}
use Rattle.place_reasons.proofs.Numbered.{id_is, released}
use Rattle.place_reasons.proofs.backed.own_backed.Goals as goal

pub returns-then-statement_releases : goal.returns-then-statement_releases
returns-then-statement_releases c rest =
    let tree = tree_before c.args.statement.now rest in
    let site = site_is c.args.site.now in
    let test : list_any releases (exprs_of tree) ≡ true = sym (c.statement_releases.ensures rest)
    ∙ c.if-statement_releases.true in
    two_found c.args.found.now c.changed_by.new.found c.members_backed.new.found
    (changed_by site c.args.principal tree) (release_backed site c.args.principal (id_of tree) (exprs_of tree))
    (c.changed_by.ensures rest) (c.members_backed.ensures ∙ ap (or_first c.changed_by.new.found)
    (released site c.args.principal c.args.statement.now.id (id_of tree) (exprs_of tree)
    (id_is c.args.statement.now rest) test))
