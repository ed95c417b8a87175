use Rattle.std.proofs.Common.{ap, ◌∙◌}
use Rattle.std.specs.List.{list_any}
use Rattle.std.specs.Str.{bytes_eq}
use Rattle.std.specs.String.{string_bytes}
use Rattle.jif_resolve.proofs.KnownLists.{any_of}
use Rattle.jif_resolve.proofs.scope.Scope.is_taken.Goals as goal

pub returns : goal.returns
returns c =
    rw (← c.self.view_is)
    (c.is_among.ensures ∙ ap (list_any (λ other. bytes_eq c.args.name.now (string_bytes other))) c.deref.ensures.value
    ∙ any_of string_bytes (bytes_eq c.args.name.now) c.self.inside.taken.items)
