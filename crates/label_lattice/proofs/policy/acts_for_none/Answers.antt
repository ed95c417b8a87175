use Rattle.std.proofs.Common.{◌∙◌, sym, arith, refl}
use Rattle.std.proofs.lemmas.Bool.{false≢true}
use Rattle.label_lattice.proofs.PolicyLemmas.{none_more}
use Rattle.label_lattice.proofs.policy.acts_for_none.Goals as goal

pub returns-then-acts_for : goal.returns-then-acts_for
returns-then-acts_for c = (
  λ never. absurd (false≢true never),
  λ none. absurd (none c.loop-other.other-index _ (omega arith) (c.acts_for.ensures.0 c.if-acts_for.true)),
)

pub loop-other-preserved : goal.loop-other-preserved
loop-other-preserved c =
    none_more c.args.principals.now c.args.p.0 c.args.others.now c.loop-other.other-index _ (omega arith)
    (λ acts. false≢true (sym c.if-acts_for.false ∙ c.acts_for.ensures.1 acts)) c.loop-other.invariant

pub returns : goal.returns
returns c = (λ _ k d within. c.loop-other.invariant k d (omega arith), λ _. refl)
