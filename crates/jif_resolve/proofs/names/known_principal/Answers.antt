use Rattle.jif_grammar.specs.DraftShapes.{name_shape}
use Rattle.jif_resolve.proofs.Usable.{no_unknown}
use Rattle.jif_resolve.proofs.names.known_principal.Goals as goal

pub unreachable-requires : goal.unreachable-requires
unreachable-requires c =
    no_unknown c.args.principals.now (name_shape c.args.name.now) _ c.requires c.as_str.ensures.value
    c.in-None.ensures.none
