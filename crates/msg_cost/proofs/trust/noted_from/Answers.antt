use Rattle.std.proofs.Common.{◌∙◌, ◌≤◌, ℕ, List, max, sym, subst, arith}
use Rattle.msg_cost.specs.Kept.{IsTrustedBetween, AreTrustedTo}
use Rattle.msg_cost.specs.Views.{seated_shape}
use Rattle.msg_cost.proofs.Between.{joined, noted_too}
use Rattle.msg_cost.proofs.trust.noted_from.Goals as goal

between : (c : goal.After-note) →
    IsTrustedBetween (seated_shape c.args.planned.now) c.args.host c.args.block.now c.args.place c.trusted_to-end.result
between c =
    let planned = seated_shape c.args.planned.now in
    let end = c.trusted_to-end.result in
    let later : max c.noted_at-known.result c.args.place ≤ end =
    omega (arith, c.max.ensures, c.trusted_to-end.ensures.later) in
    joined planned c.args.host c.args.block.now c.args.place c.noted_at-known.result end later
    (subst (IsTrustedBetween planned c.args.host c.args.block.now c.args.place) (sym c.noted_at-known.ensures)
    (c.requires c.args.host))
    (subst (λ (start : ℕ). IsTrustedBetween planned c.args.host c.args.block.now start end) c.max.ensures
    c.trusted_to-end.ensures.between)

pub returns-clause-result : goal.returns-clause-result
returns-clause-result c =
    sym (between c c.args.place (omega arith) (omega (arith, c.max.ensures, c.trusted_to-end.ensures.later))
    ∙ c.trusted_to-end.ensures.stops)

pub returns-clause-noted : goal.returns-clause-noted
returns-clause-noted c =
    let planned = seated_shape c.args.planned.now in
    subst (λ (ends : List ℕ). AreTrustedTo planned c.args.block.now c.args.place ends) (sym c.note.ensures)
    (noted_too planned c.args.host c.args.block.now c.args.place c.trusted_to-end.result c.args.noted.now (between c)
    c.requires)
