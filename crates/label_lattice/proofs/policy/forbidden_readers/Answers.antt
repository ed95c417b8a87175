use Rattle.std.proofs.Common.{◌∙◌, arith, sym}
use Rattle.std.proofs.lemmas.Bool.{false≢true}
use Rattle.label_lattice.proofs.PolicyLemmas.{kept_all, kept_more, let_in}
use Rattle.label_lattice.proofs.policy.forbidden_readers.Goals as goal
use Rattle.label_lattice.proofs.policy.forbidden_readers.Goals.{then-is_kept_out, else-is_kept_out}

pub loop-place-preserved : goal.loop-place-preserved
loop-place-preserved c =
    elim c.if-is_kept_out.branch [
      | then-is_kept_out w ↦
          rw w.forbidden-is
          (kept_more c.args.principals.now c.args.owner c.args.readers.now c.loop-place.forbidden
          w.with_bit-forbidden-then-is_kept_out.result c.loop-place.place (omega arith)
          (λ _. c.is_kept_out.ensures.0 w.if-is_kept_out.true, λ _. w.with_bit-forbidden-then-is_kept_out.ensures.set)
          w.with_bit-forbidden-then-is_kept_out.ensures.others c.loop-place.invariant)
      | else-is_kept_out w ↦
          rw w.forbidden-is
          (let_in c.args.principals.now c.args.owner c.args.readers.now c.loop-place.forbidden c.loop-place.place
          (omega arith)
          (λ kept. false≢true (sym w.if-is_kept_out.false ∙ c.is_kept_out.ensures.1 kept)) c.loop-place.invariant)
    ]

pub returns : goal.returns
returns c =
    kept_all c.acts_for_laws.ensures.of_outsider c.args.principals.now c.args.owner c.args.readers.now
    c.loop-place.forbidden c.loop-place.place c.count-place-end.ensures.declared c.requires.owner
    c.requires.readers (omega arith) (omega arith) c.loop-place.invariant
