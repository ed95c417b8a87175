use Rattle.std.proofs.Common.{◌∙◌, sym, inl}
use Rattle.std.proofs.lemmas.Bool.{false≢true}
use Rattle.label_lattice.proofs.policy.is_kept_out.Goals as goal

pub returns-then-not-acts_for : goal.returns-then-not-acts_for
returns-then-not-acts_for c = (
  λ none. record {
    is_reader = inl c.requires.reader;
    not_owner = λ acts. false≢true (sym c.if-not-acts_for.true ∙ c.acts_for.ensures.1 acts);
    not_named = c.acts_for_none.ensures.0 none;
  },
  λ out. c.acts_for_none.ensures.1 out.not_named,
)
