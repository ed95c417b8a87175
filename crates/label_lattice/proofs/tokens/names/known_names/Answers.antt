use Rattle.label_lattice.specs.Written.{kinds}
use Rattle.label_lattice.proofs.NamesLoop.{names_at_start, names_more, names_at_end, not_known}
use Rattle.label_lattice.proofs.tokens.names.known_names.Goals as goal

pub loop-left-init : goal.loop-left-init
loop-left-init c = rw c.new-known.ensures.items
    (names_at_start c.args.principals.now (kinds c.args.tokens.now) _ c.unless_empty-left.ensures)

pub returns-in_default-known_name-clause-none : goal.returns-in_default-known_name-clause-none
returns-in_default-known_name-clause-none c =
    not_known c.args.principals.now (kinds c.args.tokens.now) (kinds c.in-Some.rest.now) (kinds c.cut_at.result.0.now)
    _ c.loop-left.known.items c.cut_at.ensures c.in_default-known_name.ensures.none
    (rw c.in-Some.is at c.loop-left.invariant)

pub loop-left-preserved : goal.loop-left-preserved
loop-left-preserved c =
    rw c.in_ok-push.ensures.items
    (names_more c.args.principals.now (kinds c.args.tokens.now) (kinds c.in-Some.rest.now)
    (kinds c.cut_at.result.0.now) _
    c.loop-left.known.items c.in-Some-known_name.ensures.found.0 c.in-Some-known_name.principal c.cut_at.ensures
    c.in-Some-known_name.ensures.found.1 c.in-Some-known_name.ensures.found.2 c.in-Some-known_name.ensures.declared
    (rw c.in-Some.is at c.loop-left.invariant))

pub returns-clause-found : goal.returns-clause-found
returns-clause-found c = names_at_end c.args.principals.now (kinds c.args.tokens.now) c.loop-left.known.items
    (rw c.in_default.is at c.loop-left.invariant)
