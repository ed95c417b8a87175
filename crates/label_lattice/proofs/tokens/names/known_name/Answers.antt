use Rattle.label_lattice.proofs.KnownNames.{unknown_name}
use Rattle.label_lattice.proofs.tokens.names.known_name.Goals as goal

pub returns-in-Name-clause-none : goal.returns-in-Name-clause-none
returns-in-Name-clause-none c =
    unknown_name c.args.principals.now c.args.tokens.now c.token-item.result c.in-Name.name c.as_str.result.now
    c.find.result c.token-item.is c.in-Name.is c.as_str.ensures.text c.find.ensures.none
