-- A host may ask for a thing, or it may not.
use Rattle.std.proofs.Common.{◌≡◌, ℕ, Option, Some, None, ap, inr}
use Rattle.std.specs.Prelude.{IsSomeAnd}
use Rattle.std.proofs.lemmas.Bool.{cases_eq}
use Rattle.js_base.specs.declared.ids.HostId.{HostId}
use Rattle.js_base.specs.declared.ids.EntryId.{EntryId}
use Rattle.js_base.proofs.Decisions.{Decided, never, both, as_well}
use Rattle.label_lattice.specs.declared.label.Label.{Label}
use Rattle.label_lattice.proofs.Decisions.{conf_flows, integ_flows, is_trusted}
use Rattle.host_code.specs.Code.{CodeShape, halt, field_at, variable_at, entry_at}
use Rattle.entry_check.specs.declared.ask.Ask.{Ask}
use Rattle.entry_check.specs.declared.ask.Ask.TheVariants as ask
use Rattle.entry_check.specs.Checks.{May, MaySee, MayAffect, MayEnter, IsTrustedFor, label_at, label_of_host}

pub some_and : {X : Type 0} (P : X → Type 0) → ((x : X) → Decided (P x)) → (found : Option X) →
    Decided (IsSomeAnd found P)
some_and P each None = inr (λ there. there)
some_and P each (Some x) = each x

pub same_host : (first second : HostId) → Decided (first ≡ second)
same_host first second = as_well _ _ (ap host_of) (ap (λ (host : HostId). host.0)) (cases_eq first.0 second.0)
  where
    host_of : ℕ → HostId
    host_of number = record { 0 = number }

pub same_entry : (first second : EntryId) → Decided (first ≡ second)
same_entry first second = as_well _ _ (ap entry_of) (ap (λ (entry : EntryId). entry.0)) (cases_eq first.0 second.0)
  where
    entry_of : ℕ → EntryId
    entry_of number = record { 0 = number }

pub may_see : (label host : Option Label) → Decided (MaySee label host)
may_see (Some label) (Some host) = conf_flows label host
may_see (Some label) None = inr (λ sees. sees)
may_see None host = inr (λ sees. sees)

may_affect : (host label : Option Label) → Decided (MayAffect host label)
may_affect (Some host) (Some label) = integ_flows host label
may_affect (Some host) None = inr (λ affects. affects)
may_affect None label = inr (λ affects. affects)

is_trusted_for : (host : Option Label) (need : ℕ) → Decided (IsTrustedFor host need)
is_trusted_for (Some host) need = is_trusted host need
is_trusted_for None need = inr (λ trusts. trusts)

may_enter : (code : CodeShape) (me : HostId) (entry : EntryId) (host : Option Label) →
    Decided (MayEnter code me entry host)
may_enter code me entry host =
    both _ _ (never _ (same_entry entry halt))
    (some_and _ (λ there. as_well _ _ (λ is. (is.0, is.1.0, is.1.1)) (λ is. (is.0, (is.1, is.2)))
    (both _ _ (same_host there.host me)
    (both _ _ (is_trusted_for host there.need) (may_see (label_at code there.label) host))))
    (entry_at code entry))

pub may : (code : CodeShape) (me : HostId) (asked : Ask) (from : HostId) → Decided (May code me asked from)
may code me (ask.Get field) from =
    some_and _ (λ there. both _ _ (same_host there.host me)
    (may_see (label_at code there.label) (label_of_host code from)))
    (field_at code field)
may code me (ask.Set field) from =
    some_and _ (λ there. both _ _ (same_host there.host me)
    (may_affect (label_of_host code from) (label_at code there.label)))
    (field_at code field)
may code me (ask.Forward variable) from =
    some_and _ (λ there. may_affect (label_of_host code from) (label_at code there.label)) (variable_at code variable)
may code me (ask.Enter entry) from = may_enter code me entry (label_of_host code from)
