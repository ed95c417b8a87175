-- Whether a label may flow to another, whether it is trusted, and what a policy forbids.
use Rattle.std.proofs.Common.{◌≡◌, ℕ, ◌<◌, List, length}
use Rattle.std.specs.Int.{bit_at}
use Rattle.std.proofs.lemmas.Bool.{cases_eq}
use Rattle.js_base.specs.declared.ids.PrincipalId.{PrincipalId}
use Rattle.js_base.specs.declared.limits.TheConstants.{PRINCIPALS}
use Rattle.js_base.proofs.Decisions.{Decided, all_below, all_of, implied, both, either, never, as_well, less_than}
use Rattle.principals.specs.ActsFor.{Declared, ActsFor, outsider}
use Rattle.principals.proofs.Decisions.{acts_for}
use Rattle.label_lattice.specs.declared.label.Label.{Label}
use Rattle.label_lattice.specs.declared.label.TheConstants.{READERS}
use Rattle.label_lattice.specs.Label.{Forbids, Trusts, ConfFlows, IntegFlows, Flows, IsTrustedBy, KeepsOut}
use Rattle.label_lattice.specs.Label.{PolicyForbids}

-- for each owner and each reader
pub all_pairs : (P : ℕ → ℕ → Type 0) → ((owner reader : ℕ) → Decided (P owner reader)) →
    Decided ((owner reader : ℕ) → owner < PRINCIPALS → reader < READERS → P owner reader)
all_pairs P each =
    as_well _ _ (λ all owner reader lt less. all owner lt reader less)
    (λ all owner lt reader less. all owner reader lt less)
    (all_below PRINCIPALS (λ owner. (reader : ℕ) → reader < READERS → P owner reader)
    (λ owner. all_below READERS (P owner) (each owner)))

pub forbids : (label : Label) (owner reader : ℕ) → Decided (Forbids label owner reader)
forbids label owner reader = cases_eq _ 0

pub trusts : (label : Label) (principal : ℕ) → Decided (Trusts label principal)
trusts label principal = cases_eq _ 1

pub conf_flows : (from to : Label) → Decided (ConfFlows from to)
conf_flows from to =
    all_pairs (λ owner reader. Forbids from owner reader → Forbids to owner reader)
    (λ owner reader. implied _ _ (forbids from owner reader) (forbids to owner reader))

pub integ_flows : (from to : Label) → Decided (IntegFlows from to)
integ_flows from to =
    all_below READERS (λ principal. Trusts to principal → Trusts from principal)
    (λ principal. implied _ _ (trusts to principal) (trusts from principal))

pub flows : (from to : Label) → Decided (Flows from to)
flows from to = both _ _ (conf_flows from to) (integ_flows from to)

pub is_trusted : (label : Label) (word : ℕ) → Decided (IsTrustedBy label word)
is_trusted label word =
    all_below READERS (λ principal. bit_at word principal ≡ 1 → Trusts label principal)
    (λ principal. implied _ _ (cases_eq _ 1) (trusts label principal))

pub keeps_out : (principals : Declared) (owner : PrincipalId) (readers : List PrincipalId) (reader : ℕ) →
    Decided (KeepsOut principals owner readers reader)
keeps_out principals owner readers reader =
    as_well _ _
    (λ out. record { is_reader = out.0; not_owner = out.1.0; not_named = out.1.1 })
    (λ out. (out.is_reader, (out.not_owner, out.not_named)))
    (both _ _ (either _ _ (less_than reader (length principals.names)) (cases_eq reader outsider))
    (both _ _ (never _ (acts_for principals reader owner.0))
    (all_of (λ named. ¬ ActsFor principals reader named.0) (λ named. never _ (acts_for principals reader named.0))
    readers)))

pub policy_forbids : (principals : Declared) (owner : PrincipalId) (readers : List PrincipalId) (principal reader : ℕ) →
    Decided (PolicyForbids principals owner readers principal reader)
policy_forbids principals owner readers principal reader =
    both _ _ (acts_for principals owner.0 principal) (keeps_out principals owner readers reader)
