-- What a call of a host keeps.
use Rattle.std.proofs.Common.{◌≡◌, ◌<◌, ◌≤◌, length, sym, ap, ◌∙◌, subst, arith}
use Rattle.std.specs.Prelude.{◌↔◌, Option, Ok, IsErrOf}
use Rattle.js_base.specs.declared.ids.HostId.{HostId}
use Rattle.js_base.specs.declared.limits.TheConstants.{HOSTS}
use Rattle.host_code.specs.declared.message.Message.{Message}
use Rattle.host_code.specs.Thread.{ThreadShape}
use Rattle.host_code.specs.Code.{CodeShape}
use Rattle.host_code.specs.Sound.{IsOther, IsSoundCode}
use Rattle.entry_check.specs.Checks.{ChecksShape, AreChecksOf}
use Rattle.host_core.specs.declared.host.HostError.{HostError}
use Rattle.host_core.specs.declared.host.HostError.TheVariants.{Stopped}
use Rattle.host_core.specs.Calls.{CountsCall, KeepsHost}
use Rattle.host_core.specs.Host.{HostState, HostModel, Outcome, IsSameHost, StepsBy, IsStopped, state_of}
use Rattle.host_core.specs.Taking.{IsTaking}
use Rattle.host_core.specs.Turn.{IsTurn}
use Rattle.host_core.specs.Fits.{HostFits, OutcomeFits, SentFits, TokensFit}
use Rattle.host_core.proofs.TakingKept.{taking_kept}
use Rattle.host_core.proofs.TurnKept.{turn_kept}

-- the checks of a host are those of its number
pub same_checks : (code : CodeShape) (me after : HostId) (checks now : ChecksShape) → AreChecksOf code me checks →
    after ≡ me
    → now ≡ checks → AreChecksOf code after now
same_checks code me after checks now are host same =
    subst (λ (h : HostId). AreChecksOf code h now) (sym host) (subst (AreChecksOf code me) (sym same) are)

-- what holds of a host after a step from a state that is that of the host before it
step_kept : (code : CodeShape) (before begun after : HostModel) (sent : Option (HostId × Message)) →
    HostFits code before
    → state_of begun ≡ state_of before → begun.checks ≡ before.checks → IsSameHost begun after
    → OutcomeFits code before.me (record { state = state_of after; sent = sent })
    → HostFits code after × SentFits code before.me sent
step_kept code before begun after sent fits state checks same kept = (
  record {
    state = kept.0;
    checks = same_checks code before.me after.me before.checks after.checks fits.checks
        (same.me ∙ ap (λ (h : HostState). h.me) state) (same.checks ∙ checks);
  },
  kept.1,
)

pub deliver_kept : (code : CodeShape) (before begun after : HostModel) (from : HostId) (letter : Message)
    (sent : Option (HostId × Message)) → IsSoundCode code → HostFits code before → IsOther code before.me from
    → TokensFit code letter → state_of begun ≡ state_of before → begun.checks ≡ before.checks
    → StepsBy begun after sent (IsTaking code (state_of begun) from letter)
    → HostFits code after × SentFits code before.me sent
deliver_kept code before begun after from letter sent sound fits other tokens state checks made =
    let outcome : Outcome = record { state = state_of after; sent = sent } in
    let taking = subst (λ (h : HostState). IsTaking code h from letter outcome) state made.step in
    step_kept code before begun after sent fits state checks made.same
    (taking_kept code (state_of before) from letter outcome sound fits.state other tokens taking)

pub turn_call_kept : (code : CodeShape) (before begun after : HostModel) (sent : Option (HostId × Message))
    → IsSoundCode code → HostFits code before → state_of begun ≡ state_of before → begun.checks ≡ before.checks
    → IsSameHost begun after → IsTurn code (state_of before) (record { state = state_of after; sent = sent })
    → HostFits code after × SentFits code before.me sent
turn_call_kept code before begun after sent sound fits state checks same step =
    step_kept code before begun after sent fits state checks same
    (turn_kept code (state_of before) (record { state = state_of after; sent = sent }) sound fits.state step)

-- a step of the host without its thread is one of the host
pub thread_taken : (begun after : HostModel) (running : Option ThreadShape)
    → IsSameHost (record begun { running = running }) after → IsSameHost begun after
thread_taken begun after running same = record {
  me = same.me;
  checks = same.checks;
  calls = same.calls;
  stopped = same.stopped;
}

-- a step that was made keeps the host
pub made_keeps : (code : CodeShape) (before begun after : HostModel) → HostFits code after → after.me ≡ before.me
    → CountsCall before begun → IsSameHost begun after
    → (IsErrOf {T = Unit {0}} {E = HostError} (Ok tt) Stopped ↔ IsStopped before)
    → KeepsHost {X = Unit {0}} code before after (Ok tt)
made_keeps code before begun after fits me counted same stopped = record {
  me = me;
  fits = fits;
  counted = record { calls = same.calls ∙ counted.calls; stopped = same.stopped ∙ counted.stopped };
  err = tt;
  stopped = stopped;
  kept = λ none. cc;
  out_of_memory = λ none. cc;
}

-- who asks is one of the hosts that there may be
pub few_hosts : (code : CodeShape) (me from : HostId) → IsSoundCode code → IsOther code me from → from.0 < HOSTS
few_hosts code me from sound other =
    let there : from.0 < length code.hosts = other.0 in
    let few : length code.hosts ≤ HOSTS = sound.few_hosts in
    omega arith
