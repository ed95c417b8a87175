use Rattle.std.proofs.Common.{◌≡◌, length, ap, sym, ◌∙◌, arith}
use Rattle.std.proofs.lemmas.List.{length-map}
use Rattle.host_decl.proofs.Costs.{row_is_long}
use Rattle.host_decl.proofs.hosts.Hosts.cost.Goals as goal

pub index-requires-2 : goal.index-requires-2
index-requires-2 c =
    let same : length c.self.inside.hosts.items ≡ length c.args.self.now.hosts =
    ap (λ seen. length seen.hosts) c.self.view_is in
    let rows : length c.self.inside.costs.items ≡ length c.self.inside.hosts.items = sym (length-map _ _)
    ∙ c.self.invariant.table.rows in
    let long = row_is_long c.self.inside.costs.items
    (length c.self.inside.hosts.items) c.args.from.0 c.index.result.now c.self.invariant.table.columns
    (omega arith) c.index.ensures in
    omega arith
