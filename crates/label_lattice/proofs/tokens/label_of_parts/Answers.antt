use Rattle.std.proofs.Common.{◌∙◌, sym}
use Rattle.std.proofs.lemmas.Bool.{false≢true}
use Rattle.label_lattice.specs.Written.{kinds}
use Rattle.label_lattice.proofs.PartsLoop.{parts_at_start, parts_more, parts_at_end, not_a_part, not_last}
use Rattle.label_lattice.proofs.tokens.label_of_parts.Goals as goal

pub loop-left-init : goal.loop-left-init
loop-left-init c = record {
  so_far = parts_at_start c.args.principals.now (kinds c.args.inside.now) c.empty-label.result _
      c.empty-label.ensures.forbids c.empty-label.ensures.trusts c.unless_empty-left.ensures;
  over = c.empty-label.ensures.over c.args.principals.now;
}

pub returns-clause-found : goal.returns-clause-found
returns-clause-found c = parts_at_end c.args.principals.now (kinds c.args.inside.now) c.loop-left.label
    (rw c.in_default.is at c.loop-left.invariant.so_far)

pub returns-then-not-may_stand-clause-none : goal.returns-then-not-may_stand-clause-none
returns-then-not-may_stand-clause-none c label is =
    not_last c.args.principals.now (kinds c.args.inside.now) (kinds c.in-Some.rest.now) (kinds c.cut_at.result.0.now)
    _ c.loop-left.label c.cut_at.ensures
    (λ may. false≢true (sym c.if-not-may_stand.true ∙ c.may_stand.ensures.1 may))
    (rw c.in-Some.is at c.loop-left.invariant.so_far) is.parts is.written is.trust_is_last

pub returns-in_default-2-clause-none : goal.returns-in_default-2-clause-none
returns-in_default-2-clause-none c label is =
    not_a_part c.args.principals.now (kinds c.args.inside.now) (kinds c.in-Some.rest.now)
    (kinds c.cut_at.result.0.now) _ c.loop-left.label c.cut_at.ensures
    (rw c.in_default-2.is at c.in_ok-more.ensures.none) (rw c.in-Some.is at c.loop-left.invariant.so_far) is.parts
    is.known is.written is.are_known

pub loop-left-preserved : goal.loop-left-preserved
loop-left-preserved c = record {
  so_far =
      parts_more c.args.principals.now (kinds c.args.inside.now) (kinds c.in-Some.rest.now)
      (kinds c.cut_at.result.0.now) _ c.loop-left.label c.in-Some-2.more c.cut_at.ensures
      (c.may_stand.ensures.0 c.if-not-may_stand.false) (rw c.in-Some-2.is at c.in_ok-more.ensures.found)
      (rw c.in-Some.is at c.loop-left.invariant.so_far);
  over = (rw c.in-Some-2.is at c.in_ok-more.ensures.over) c.loop-left.invariant.over;
}
