use Rattle.std.proofs.Common.{◌∙◌, sym, arith}
use Rattle.std.proofs.lemmas.Bool.{false≢true}
use Rattle.label_lattice.specs.Label.{AddsPolicy}
use Rattle.label_lattice.proofs.OverLemmas.{over_policy}
use Rattle.label_lattice.proofs.PolicyLemmas.{row_more, rows_more, rows_stay, rows_with_policy}
use Rattle.label_lattice.proofs.label.Label.with_policy.Goals as goal
use Rattle.label_lattice.proofs.label.Label.with_policy.Goals.{then-acts_for, else-acts_for}

pub loop-place-preserved : goal.loop-place-preserved
loop-place-preserved c =
    elim c.if-acts_for.branch [
      | then-acts_for w ↦
          rw w.rows-is
          (rows_more c.args.self.rows c.loop-place.rows c.args.principals.now c.args.owner c.args.readers.now
          c.loop-place.place w.without_bits.result (omega arith) (omega arith)
          (row_more c.args.principals.now c.args.owner c.args.readers.now c.loop-place.place _
          c.forbidden_readers-forbidden.result w.without_bits.result (c.acts_for.ensures.0 w.if-acts_for.true)
          c.forbidden_readers-forbidden.ensures w.without_bits.ensures)
          c.loop-place.invariant)
      | else-acts_for w ↦
          rw w.rows-is
          (rows_stay c.args.self.rows c.loop-place.rows c.args.principals.now c.args.owner c.args.readers.now
          c.loop-place.place
          (λ acts. false≢true (sym w.if-acts_for.false ∙ c.acts_for.ensures.1 acts)) c.loop-place.invariant)
    ]

adds : (c : goal.After-loop-place) →
    AddsPolicy c.args.self (record { rows = c.loop-place.rows; trust = c.args.self.trust })
    c.args.principals.now c.args.owner c.args.readers.now
adds c principal reader principal_in reader_in =
    rows_with_policy c.acts_for_laws.ensures.of_declared c.args.self.rows c.loop-place.rows c.args.principals.now
    c.args.owner c.args.readers.now c.loop-place.place c.count-place-end.ensures.declared c.requires.owner
    (omega arith) c.loop-place.invariant principal principal_in reader reader_in

pub returns-clause-forbids : goal.returns-clause-forbids
returns-clause-forbids c = adds c

pub returns-clause-over : goal.returns-clause-over
returns-clause-over c over =
    over_policy c.acts_for_laws.ensures.of_outsider c.acts_for_laws.ensures.of_declared
    c.acts_for_laws.ensures.transitive c.args.principals.now c.args.owner c.args.readers.now c.args.self _
    c.count-place-end.ensures.declared c.requires.owner c.requires.readers
    (record {
      long = c.loop-place.invariant.long;
      words = c.loop-place.invariant.words over.is_label.words;
      trust = over.is_label.trust;
    })
    (adds c) (λ p p_in. (λ trusts. trusts, λ trusts. trusts)) over
