use Rattle.std.proofs.Common.{refl}
use Rattle.label_lattice.specs.Written.{kinds}
use Rattle.jif_parse.proofs.assignments.called_method.Goals as goal

pub returns-in-Name-clause-called : goal.returns-in-Name-clause-called
returns-in-Name-clause-called c =
    let first = c.in-Name.is in
    let second = c.if-not-is_symbol.ensures.0 refl in
    let front = c.in_ok-first.ensures.cases.0 in
    let next = c.in_ok-second.ensures.cases.0 in
    (kinds c.in_ok-second.field-0-1.now, cc (first, second, front, next))
