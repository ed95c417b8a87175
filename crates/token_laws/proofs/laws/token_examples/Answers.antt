use Rattle.std.proofs.Common.{◌≢◌, true, ap, refl, arith, pos}
use Rattle.js_base.specs.declared.ids.EntryId.{EntryId}
use Rattle.host_code.specs.declared.message.Message.TheVariants as message
use Rattle.host_code.specs.Code.{halt}
use Rattle.entry_check.specs.Checks.{MayEnter, label_of_host}
use Rattle.host_core.specs.Start.{main_frame}
use Rattle.token_laws.specs.TokenExamples.{host_id, entry_id, a_field, first_request, other_state, answering, answered}
use Rattle.token_laws.specs.TokenExamples.{handing, first_token, handed, keeping, once, twice}
use Rattle.token_laws.proofs.laws.token_examples.Goals as goal

pub returns-clause-answers : goal.returns-clause-answers
returns-clause-answers c = (
  answered,
  record {
    state = other_state;
    flight = record { message = message.Get first_request a_field (pos 0); label = 0 };
    outcome = answering;
    there = refl;
    obeys = refl;
    rests = refl;
    takes = (true, (λ t. (refl, λ owner reader first second forbids. forbids), λ p. refl), refl);
    leaves = refl;
  },
  refl,
)

pushable : entry_id 2 ≢ halt
pushable same = omega (arith, ap (λ (e : EntryId). e.0) same)

may_enter : MayEnter handing (host_id 0) (entry_id 2) (label_of_host handing (host_id 1))
may_enter = (
  pushable,
  (refl, λ principal reader trusts. trusts, λ owner reader first second forbids. forbids),
)

pub returns-clause-presents_twice : goal.returns-clause-presents_twice
returns-clause-presents_twice c = (
  once,
  record {
    state = handed.state;
    message = message.Sync first_request main_frame (entry_id 2) first_token;
    outcome = keeping handed.state;
    bad = refl;
    obeys = refl;
    rests = refl;
    makes = refl;
    takes = (true, (λ t. may_enter, λ p. refl), refl);
    leaves = refl;
  },
  (
    twice,
    record {
      state = (keeping handed.state).state;
      message = message.Sync first_request main_frame (entry_id 2) first_token;
      outcome = keeping (keeping handed.state).state;
      bad = refl;
      obeys = refl;
      rests = refl;
      makes = refl;
      takes = (true, (λ t. may_enter, λ p. refl), refl);
      leaves = refl;
    },
    refl,
  ),
)
