-- Which hosts may hold which fields and statements. The rules are this project's own.
use Rattle.std.specs.Prelude.{◌≡◌, ℕ, ◌<◌, ◌^◌, ◌↔◌, List, All, slice_get}
use Rattle.std.specs.List.{AllZip, zip}
use Rattle.std.specs.Option.{IsSomeAnd}
use Rattle.std.specs.Int.{bit_at}
use Rattle.js_base.specs.declared.limits.TheConstants.{HOSTS}
use Rattle.label_lattice.specs.declared.label.Label.{Label}
use Rattle.label_lattice.specs.Label.{ConfFlows, IntegFlows, IsTrustedBy}
use Rattle.label_lattice.specs.Lattice.{join_of}
use Rattle.host_decl.specs.Hosts.{HostShape, HostsShape}
use Rattle.jif_tree.specs.Trees.{FieldTree}
use Rattle.need_labels.specs.Labelled.{Labelled}
use Rattle.need_labels.specs.Needs.{NeedsShape}
use Rattle.place_rules.specs.Allowed.{AllowedShape}

-- the fields, each with the label of what its reads tell
abbrev pub told_fields : Labelled → NeedsShape → List (FieldTree × Label)
told_fields labelled needs = zip labelled.program.fields needs.loc

-- for each statement the label of what its execution tells, and the word of those who have to trust its host
abbrev pub needed_statements : NeedsShape → List (Label × ℕ)
needed_statements needs = zip needs.used needs.need

-- The host of a field sees the field and learns what its reads tell, and whoever trusts the field trusts the host.
abbrev pub MayHoldField : FieldTree × Label → HostShape → Type 0
MayHoldField (field, told) host = ConfFlows (join_of field.label told) host.label × IntegFlows host.label field.label

-- The host of a statement learns what its execution tells, and whoever has to trust it does.
abbrev pub MayHoldStatement : Label × ℕ → HostShape → Type 0
MayHoldStatement (used, need) host = ConfFlows used host.label × IsTrustedBy host.label need

-- the host of this number may hold it
abbrev pub HoldsOn : (HostShape → Type 0) → List HostShape → ℕ → Type 0
HoldsOn may hosts number = IsSomeAnd (slice_get hosts number) may

-- some host may hold it
abbrev pub HasHolder : (HostShape → Type 0) → List HostShape → Type 0
HasHolder may hosts = (number : ℕ) × HoldsOn may hosts number

-- a word with a bit for each host that may hold it
pub record IsWordOf (may : HostShape → Type 0) (hosts : List HostShape) (word : ℕ) : Type 0 where
  pub fits : word < 2 ^ HOSTS
  pub members : (number : ℕ) → ((bit_at word number ≡ 1) ↔ HoldsOn may hosts number)

-- the words of a program whose fields and statements each may be held by some host
pub record AreAllowed (labelled : Labelled) (needs : NeedsShape) (hosts : HostsShape) (allowed : AllowedShape) :
    Type 0 where
  pub fields : AllZip (λ one word. IsWordOf (MayHoldField one) hosts.hosts word) (told_fields labelled needs)
      allowed.fields
  pub statements : AllZip (λ one word. IsWordOf (MayHoldStatement one) hosts.hosts word) (needed_statements needs)
      allowed.statements
  pub held_fields : All (λ one. HasHolder (MayHoldField one) hosts.hosts) (told_fields labelled needs)
  pub held_statements : All (λ one. HasHolder (MayHoldStatement one) hosts.hosts) (needed_statements needs)

-- A word of hosts, of which there are so many, that has one at least.
pub record IsWordOfSome (count : ℕ) (word : ℕ) : Type 0 where
  pub fits : word < 2 ^ HOSTS
  pub within : (number : ℕ) → bit_at word number ≡ 1 → number < count
  pub some : (number : ℕ) × (bit_at word number ≡ 1)
