use Rattle.std.proofs.Common.{map, ap, is_some, ◌∙◌}
use Rattle.jif_resolve.specs.GlobalNames.{global_shape}
use Rattle.jif_resolve.proofs.GlobalLists.{any_named}
use Rattle.jif_resolve.proofs.globals.Globals.has.Goals as goal

pub returns : goal.returns
returns c =
    rw (← c.self.view_is)
    (c.contains_key.ensures ∙ ap is_some (c.self.invariant c.args.name.now)
    ∙ any_named c.args.name.now (map global_shape c.self.inside.declared.items))
