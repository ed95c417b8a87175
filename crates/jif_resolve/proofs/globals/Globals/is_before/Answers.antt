use Rattle.std.proofs.Common.{map, Some, None}
use Rattle.jif_grammar.specs.DraftShapes.{name_shape}
use Rattle.jif_resolve.specs.GlobalNames.{global_shape}
use Rattle.jif_resolve.proofs.GlobalLists.{before_is}
use Rattle.jif_resolve.proofs.globals.Globals.is_before.Goals as goal

pub returns-in-Some : goal.returns-in-Some
returns-in-Some c =
    rw (← c.self.view_is)
    (before_is c.self.inside.first.entries (map global_shape c.self.inside.declared.items) (name_shape c.args.name.now)
    c.as_str.result.now (Some c.in-Some.first.now) c.self.invariant c.as_str.ensures.value c.in-Some.ensures.value)

pub returns-in-None : goal.returns-in-None
returns-in-None c =
    rw (← c.self.view_is)
    (before_is c.self.inside.first.entries (map global_shape c.self.inside.declared.items) (name_shape c.args.name.now)
    c.as_str.result.now None c.self.invariant c.as_str.ensures.value c.in-None.ensures.value)
