use Rattle.label_lattice.specs.Written.{kinds}
use Rattle.label_lattice.proofs.PartLemmas.{policy_part, trust_part, unknown_owner}
use Rattle.label_lattice.proofs.tokens.with_part.Goals as goal

pub returns-then-is_symbol-clause-found : goal.returns-then-is_symbol-clause-found
returns-then-is_symbol-clause-found c =
    let names = rw c.in-Some-2.is at c.in_ok-known.ensures.found in
    trust_part c.args.principals.now (kinds c.args.part.now) (kinds c.in-Some.names.now) c.in-Some.head.now.kind
    c.args.label c.with_trust.result
    names.0 c.in-Some-2.known.items c.in-Some.ensures.found (c.is_symbol.ensures.0 c.if-is_symbol.true) names.1 names.2
    c.with_trust.ensures.forbids (rw c.deref.ensures.value at c.with_trust.ensures.trusts)

pub returns-clause-found : goal.returns-clause-found
returns-clause-found c =
    let names = rw c.in-Some-2.is at c.in_ok-known.ensures.found in
    policy_part c.args.principals.now (kinds c.args.part.now) (kinds c.in-Some.names.now) c.in-Some.head.now.kind
    c.args.label c.with_policy.result
    c.in-Name.owner c.as_str.result.now c.in-Some-find.owner names.0 c.in-Some-2.known.items c.in-Some.ensures.found
    c.in-Name.is c.as_str.ensures.text names.1 c.in-Some-find.ensures.found names.2
    (rw c.deref-2.ensures.value at c.with_policy.ensures.forbids) c.with_policy.ensures.trusts

pub returns-in_default-find-clause-none : goal.returns-in_default-find-clause-none
returns-in_default-find-clause-none c =
    unknown_owner c.args.principals.now (kinds c.args.part.now) (kinds c.in-Some.names.now) c.in-Some.head.now.kind
    c.in-Name.owner c.as_str.result.now c.in-Some.ensures.found c.in-Name.is c.as_str.ensures.text
    c.in_default-find.ensures.none
