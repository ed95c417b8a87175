-- What a label means, after the decentralized label model of Myers and Liskov: a set of forbidden pairs, an owner and a
-- reader each, and a set of trusting principals. Owners are the numbers below `PRINCIPALS`, and readers those below
-- `READERS`, of which the last is the outsider (principals, ActsFor). A label is kept as a word for each owner, with a
-- bit set for each reader that the owner allows, and one word with a bit set for each principal that trusts.
--
-- Bits of undeclared readers stay allowed. A label has a place for each of 63 principals and one for the outsider. A
-- policy forbids only declared principals and the outsider. The places past the last declared principal stay allowed in
-- every label. So labels can be compared by their bits, and what is forbidden is always a reader who exists.
use Rattle.std.specs.Prelude.{◌≡◌, ℕ, ◌<◌, ◌↔◌, ◌⊎◌, ◌^◌, List, All, Any, length}
use Rattle.std.specs.Prelude.{slice_index}
use Rattle.std.specs.Int.{bit_at}
use Rattle.js_base.specs.declared.ids.PrincipalId.{PrincipalId}
use Rattle.js_base.specs.declared.bits.TheConstants.{WORD_BITS}
use Rattle.js_base.specs.declared.limits.TheConstants.{PRINCIPALS}
use Rattle.principals.specs.ActsFor.{Declared, ActsFor, IsReader}
use Rattle.label_lattice.specs.declared.label.Label.{Label}
use Rattle.label_lattice.specs.declared.label.TheConstants.{READERS}

-- the pair is forbidden: the owner's bit for the reader is clear
abbrev pub Forbids : Label → ℕ → ℕ → Type 0
Forbids label owner reader = bit_at (slice_index label.rows owner) reader ≡ 0

-- the principal's bit is set
abbrev pub Trusts : Label → ℕ → Type 0
Trusts label principal = bit_at label.trust principal ≡ 1

-- what every label is: a word for each owner, and one more
pub record IsLabel (label : Label) : Type 0 where
  pub long : length label.rows ≡ PRINCIPALS
  pub words : All (λ row. row < 2 ^ WORD_BITS) label.rows
  pub trust : label.trust < 2 ^ WORD_BITS

-- confidentiality may flow from the first to the second: every pair that the first forbids, the second forbids
abbrev pub ConfFlows : Label → Label → Type 0
ConfFlows from to = (owner reader : ℕ) → owner < PRINCIPALS → reader < READERS →
    Forbids from owner reader → Forbids to owner reader

-- integrity may flow from the first to the second: whoever trusts the second trusts the first
abbrev pub IntegFlows : Label → Label → Type 0
IntegFlows from to = (principal : ℕ) → principal < READERS → Trusts to principal → Trusts from principal

-- each principal of a word trusts the label
abbrev pub IsTrustedBy : Label → ℕ → Type 0
IsTrustedBy label word = (principal : ℕ) → principal < READERS → bit_at word principal ≡ 1 →
    Trusts label principal

-- the first may flow to the second
abbrev pub Flows : Label → Label → Type 0
Flows from to = ConfFlows from to × IntegFlows from to

abbrev pub SameForbidden : Label → Label → Type 0
SameForbidden old new = (owner reader : ℕ) → owner < PRINCIPALS → reader < READERS →
    (Forbids new owner reader ↔ Forbids old owner reader)

abbrev pub SameTrust : Label → Label → Type 0
SameTrust old new = (principal : ℕ) → principal < READERS → (Trusts new principal ↔ Trusts old principal)

-- the label forbids no reader at all
abbrev pub ForbidsNothing : Label → Type 0
ForbidsNothing label = (owner reader : ℕ) → owner < PRINCIPALS → reader < READERS →
    ¬ Forbids label owner reader

-- nobody trusts it
abbrev pub IsUntrusted : Label → Type 0
IsUntrusted label = (principal : ℕ) → principal < READERS → ¬ Trusts label principal

-- it forbids nothing, and every declared principal trusts it
pub record IsBottom (principals : Declared) (label : Label) : Type 0 where
  pub forbids : ForbidsNothing label
  pub trusts : (principal : ℕ) → principal < READERS →
      (Trusts label principal ↔ (principal < length principals.names))

-- The policy of an owner who names some readers keeps out each reader who acts for neither the owner nor one of those.
-- A place past the declared principals is not a reader, and no policy clears its bit.
pub record KeepsOut (principals : Declared) (owner : PrincipalId) (readers : List PrincipalId) (reader : ℕ) :
    Type 0 where
  pub is_reader : IsReader principals reader
  pub not_owner : ¬ ActsFor principals reader owner.0
  pub not_named : All (λ named. ¬ ActsFor principals reader named.0) readers

-- it forbids them on behalf of each principal whom the owner acts for
abbrev pub PolicyForbids : Declared → PrincipalId → List PrincipalId → ℕ → ℕ → Type 0
PolicyForbids principals owner readers principal reader =
    ActsFor principals owner.0 principal × KeepsOut principals owner readers reader

-- the label forbids what the policy forbids, and nothing else
abbrev pub IsPolicy : Label → Declared → PrincipalId → List PrincipalId → Type 0
IsPolicy label principals owner readers = (principal reader : ℕ) → principal < PRINCIPALS → reader < READERS →
    (Forbids label principal reader ↔ PolicyForbids principals owner readers principal reader)

-- the new label forbids what the old one or the policy forbids
abbrev pub AddsPolicy : Label → Label → Declared → PrincipalId → List PrincipalId → Type 0
AddsPolicy old new principals owner readers = (principal reader : ℕ) → principal < PRINCIPALS →
    reader < READERS →
    (Forbids new principal reader ↔
    (Forbids old principal reader ⊎ PolicyForbids principals owner readers principal reader))

-- the new label is also trusted by each principal whom one of these acts for
abbrev pub AddsTrust : Label → Label → Declared → List PrincipalId → Type 0
AddsTrust old new principals by = (principal : ℕ) → principal < READERS →
    (Trusts new principal ↔ (Trusts old principal ⊎ Any (λ member. ActsFor principals member.0 principal) by))
