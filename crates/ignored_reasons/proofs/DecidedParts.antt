-- Each part of a check holds or does not.
use Rattle.std.proofs.Common.{ℕ, Option, Some, None, inl, inr, refl}
use Rattle.std.specs.Prelude.{IsSome}
use Rattle.js_base.specs.declared.ids.HostId.{HostId}
use Rattle.js_base.proofs.Decisions.{Decided, never, both}
use Rattle.label_lattice.specs.declared.label.Label.{Label}
use Rattle.label_lattice.proofs.Decisions.{integ_flows, is_trusted}
use Rattle.ics_stack.specs.Stack.{top_token}
use Rattle.host_code.specs.declared.message.Message.{Message}
use Rattle.host_code.specs.declared.message.Message.TheVariants as message
use Rattle.host_code.specs.Code.{CodeShape, halt, field_at, variable_at, entry_at}
use Rattle.entry_check.specs.Checks.{MayAffect, IsTrustedFor, label_at, label_of_host}
use Rattle.entry_check.proofs.Decisions.{some_and, same_host, same_entry, may_see}
use Rattle.host_core.specs.Host.{HostState}
use Rattle.host_core.proofs.SomeOutcome.{some_token}
use Rattle.ignored_reasons.specs.declared.why.Why.{Why}
use Rattle.ignored_reasons.specs.declared.why.Why.TheVariants as reason
use Rattle.ignored_reasons.specs.Parts.{GivesTop, IsAwaited}
use Rattle.ignored_reasons.specs.Reasons.{PartHolds}

may_affect : (host label : Option Label) → Decided (MayAffect host label)
may_affect (Some host) (Some label) = integ_flows host label
may_affect (Some host) None = inr (λ affects. affects)
may_affect None label = inr (λ affects. affects)

is_trusted_for : (host : Option Label) (need : ℕ) → Decided (IsTrustedFor host need)
is_trusted_for (Some host) need = is_trusted host need
is_trusted_for None need = inr (λ trusts. trusts)

is_some : {X : Type 0} (found : Option X) → Decided (IsSome found)
is_some None = inr (λ there. cc)
is_some (Some x) = inl refl

gives_top : (host : HostState) (taken : Message) → Decided (GivesTop host taken)
gives_top host (message.Lgoto token) = some_token (top_token host.entries) token
gives_top host _ = inr (λ gives. gives)

is_awaited : (host : HostState) (from : HostId) (taken : Message) → Decided (IsAwaited host from taken)
is_awaited host from (message.Value request value) = is_some _
is_awaited host from (message.Ack request) = is_some _
is_awaited host from (message.Token request token) = is_some _
is_awaited host from _ = inr (λ awaited. awaited)

pub part : (code : CodeShape) (host : HostState) (from : HostId) (taken : Message) (why : Why) →
    Decided (PartHolds code host from taken why)
part code host from taken (reason.FieldElsewhere field) =
    some_and _ (λ there. same_host there.host host.me) (field_at code field)
part code host from taken (reason.MayNotSee field) =
    some_and _ (λ there. may_see (label_at code there.label) (label_of_host code from)) (field_at code field)
part code host from taken (reason.MayNotSet field) =
    some_and _ (λ there. may_affect (label_of_host code from) (label_at code there.label)) (field_at code field)
part code host from taken (reason.MayNotForward variable) =
    some_and _ (λ there. may_affect (label_of_host code from) (label_at code there.label)) (variable_at code variable)
part code host from taken (reason.NoEntry entry) =
    both _ _ (never _ (same_entry entry halt))
    (some_and _ (λ there. same_host there.host host.me) (entry_at code entry))
part code host from taken (reason.MayNotEnter entry) =
    some_and _ (λ there. is_trusted_for (label_of_host code from) there.need) (entry_at code entry)
part code host from taken (reason.MayNotKnow entry) =
    some_and _ (λ there. may_see (label_at code there.label) (label_of_host code from)) (entry_at code entry)
part code host from taken reason.NotOnTop = gives_top host taken
part code host from taken reason.NoneWaits = is_awaited host from taken
