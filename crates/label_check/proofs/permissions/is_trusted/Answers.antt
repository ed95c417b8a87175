use Rattle.std.proofs.Common.{◌∙◌, sym, subst, List, arith, refl}
use Rattle.std.specs.Prelude.{All}
use Rattle.std.proofs.lemmas.Bool.{false≢true}
use Rattle.std.proofs.lemmas.List.{take_all}
use Rattle.std.proofs.lemmas.List.Elements.{All-more}
use Rattle.js_base.specs.declared.ids.PrincipalId.{PrincipalId}
use Rattle.label_lattice.specs.Label.{Trusts}
use Rattle.label_check.proofs.permissions.is_trusted.Goals as goal

pub loop-member-preserved : goal.loop-member-preserved
loop-member-preserved c =
    All-more (λ member. Trusts c.args.label.now member.0) c.args.authority.now c.loop-member.member-index _
    (omega arith)
    c.loop-member.invariant (c.trusts.ensures.0 c.if-not-trusts.false)

pub returns-then-not-trusts : goal.returns-then-not-trusts
returns-then-not-trusts c = (
  λ never. absurd (false≢true never),
  λ all. absurd (false≢true (sym c.if-not-trusts.true
      ∙ c.trusts.ensures.1 (all c.loop-member.member-index _ (omega arith)))),
)

pub returns : goal.returns
returns c =
    let Q : List PrincipalId → Type 0 = λ members. All (λ member. Trusts c.args.label.now member.0) members in (
      λ _. subst Q (take_all c.loop-member.member-index c.args.authority.now (omega arith)) c.loop-member.invariant,
      λ _. refl,
    )
