use Rattle.label_lattice.specs.Written.{kinds}
use Rattle.label_lattice.proofs.PartsLoop.{not_ok_label}
use Rattle.label_lattice.proofs.tokens.read_label.Goals as goal

pub returns-in-Some-clause-none : goal.returns-in-Some-clause-none
returns-in-Some-clause-none c =
    not_ok_label c.args.principals.now c.args.tokens.now (kinds c.in-Some.inside.now) c.label_of_parts.result
    c.in-Some.ensures.found c.label_of_parts.ensures.none
