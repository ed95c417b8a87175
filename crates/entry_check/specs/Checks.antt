-- What one host may ask of another: the checks that a host makes on each request that reaches it.
--
-- Checks are made once. What each host may ask is computed when the host starts, one word for each field, variable and
-- entry, with a bit for each host. Asking takes no memory then, and no look at labels.
use Rattle.std.specs.Prelude.{◌≡◌, ◌≢◌, ℕ, ◌<◌, ◌↔◌, List, Option, Some, None, IsSomeAnd}
use Rattle.std.specs.Prelude.{slice_get, slice_index}
use Rattle.std.specs.List.{AllByRecursion}
use Rattle.std.specs.Option.{option_map}
use Rattle.std.specs.Int.{bit_at}
use Rattle.js_base.specs.declared.ids.HostId.{HostId}
use Rattle.js_base.specs.declared.ids.FieldId.{FieldId}
use Rattle.js_base.specs.declared.ids.VarId.{VarId}
use Rattle.js_base.specs.declared.ids.EntryId.{EntryId}
use Rattle.js_base.specs.declared.limits.TheConstants.{HOSTS}
use Rattle.label_lattice.specs.declared.label.Label.{Label}
use Rattle.label_lattice.specs.Label.{ConfFlows, IntegFlows, IsTrustedBy}
use Rattle.host_code.specs.Code.{CodeShape, halt, field_at, variable_at, entry_at}
use Rattle.entry_check.specs.declared.ask.Ask.{Ask}
use Rattle.entry_check.specs.declared.ask.Ask.TheVariants as ask
use Rattle.entry_check.specs.declared.checks.Kind.{Kind}
use Rattle.entry_check.specs.declared.checks.Kind.TheVariants as kind

-- ---- labels that the code has

abbrev pub label_at : CodeShape → ℕ → Option Label
label_at code label = slice_get code.labels label

-- the most that a host may see, and who trusts it
abbrev pub label_of_host : CodeShape → HostId → Option Label
label_of_host code host = option_map (λ there. there.label) (slice_get code.hosts host.0)

-- the confidentiality of what is asked for may flow to who asks
abbrev pub MaySee : Option Label → Option Label → Type 0
MaySee (Some label) (Some host) = ConfFlows label host
MaySee (Some label) None = ⊥
MaySee None host = ⊥

-- who trusts what is changed trusts who asks
abbrev pub MayAffect : Option Label → Option Label → Type 0
MayAffect (Some host) (Some label) = IntegFlows host label
MayAffect (Some host) None = ⊥
MayAffect None label = ⊥

-- every principal of the need trusts who asks
abbrev pub IsTrustedFor : Option Label → ℕ → Type 0
IsTrustedFor (Some host) need = IsTrustedBy host need
IsTrustedFor None need = ⊥

-- ---- the checks

-- The host may read a field of this host where what the field's label forbids, its own label forbids. It may write one
-- where who trusts the field trusts it, and forward a variable in the same way. It may enter at an entry of this host,
-- by rgoto or sync, where who is in the entry's need trusts it, and it may see the entry's program label. Nobody enters
-- at the entry that ends the program.
abbrev pub MayEnter : CodeShape → HostId → EntryId → Option Label → Type 0
MayEnter code me entry host =
    (entry ≢ halt) × IsSomeAnd (entry_at code entry) (λ there.
    (there.host ≡ me) × IsTrustedFor host there.need × MaySee (label_at code there.label) host)

abbrev pub May : CodeShape → HostId → Ask → HostId → Type 0
May code me (ask.Get field) from =
    IsSomeAnd (field_at code field) (λ there.
    (there.host ≡ me) × MaySee (label_at code there.label) (label_of_host code from))
May code me (ask.Set field) from =
    IsSomeAnd (field_at code field) (λ there.
    (there.host ≡ me) × MayAffect (label_of_host code from) (label_at code there.label))
May code me (ask.Forward variable) from =
    IsSomeAnd (variable_at code variable) (λ there. MayAffect (label_of_host code from) (label_at code there.label))
May code me (ask.Enter entry) from = MayEnter code me entry (label_of_host code from)

-- the host may forward each of these variables, so their values may ride with what it sends
abbrev pub MayRide : CodeShape → HostId → HostId → List VarId → Type 0
MayRide code me from variables = AllByRecursion (λ variable. May code me (ask.Forward variable) from) variables

-- ---- the checks as words

-- for each field, variable and entry a word with a bit for each host that may ask
pub record ChecksShape : Type 0 where
  pub gets : List ℕ
  pub sets : List ℕ
  pub forwards : List ℕ
  pub enters : List ℕ

-- what is asked by this kind of this number
abbrev pub ask_of : Kind → ℕ → Ask
ask_of kind.Get number = ask.Get (record { 0 = number })
ask_of kind.Set number = ask.Set (record { 0 = number })
ask_of kind.Forward number = ask.Forward (record { 0 = number })
ask_of kind.Enter number = ask.Enter (record { 0 = number })

-- the word has the bits of the hosts that may
abbrev pub IsWordOfAsk : CodeShape → HostId → Ask → ℕ → Type 0
IsWordOfAsk code me asked word = (from : HostId) → from.0 < HOSTS →
    ((bit_at word from.0 ≡ 1) ↔ May code me asked from)

-- the words are those of this host with this code
pub record AreChecksOf (code : CodeShape) (me : HostId) (checks : ChecksShape) : Type 0 where
  pub gets : (field : FieldId) → IsWordOfAsk code me (ask.Get field) (slice_index checks.gets field.0)
  pub sets : (field : FieldId) → IsWordOfAsk code me (ask.Set field) (slice_index checks.sets field.0)
  pub forwards : (variable : VarId) →
      IsWordOfAsk code me (ask.Forward variable) (slice_index checks.forwards variable.0)
  pub enters : (entry : EntryId) → IsWordOfAsk code me (ask.Enter entry) (slice_index checks.enters entry.0)
