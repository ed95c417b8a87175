use Rattle.std.proofs.Common.{map, ap}
use Rattle.std.specs.String.{string_bytes}
use Rattle.jif_resolve.proofs.KnownLists.{kept_known}
use Rattle.jif_resolve.proofs.scope.Scope.leave.Goals as goal

pub returns : goal.returns
returns c =
    rw (← c.self.view_is, c.truncate.ensures.items)
    (ap (λ known. record {
      first = c.self.inside.first;
      earlier = map string_bytes c.self.inside.taken.items;
      known = known;
      statement = c.self.inside.statement;
      site = c.self.inside.site;
    }) (kept_known c.args.mark c.self.inside.visible.items))
