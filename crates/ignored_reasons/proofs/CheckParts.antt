-- The parts of a check make the check.
use Rattle.std.proofs.Common.{List, [], ◌∷◌, ◌++◌, Option, Some, None}
use Rattle.std.specs.Prelude.{◌↔◌, IsSomeAnd}
use Rattle.std.specs.List.{AllByRecursion}
use Rattle.js_base.specs.declared.ids.HostId.{HostId}
use Rattle.js_base.specs.declared.ids.VarId.{VarId}
use Rattle.js_base.specs.declared.ids.EntryId.{EntryId}
use Rattle.host_code.specs.declared.message.Message.{Message}
use Rattle.host_code.specs.declared.message.Message.TheVariants as message
use Rattle.host_code.specs.Code.{CodeShape, field_at, entry_at}
use Rattle.host_code.specs.Riders.{names_of}
use Rattle.entry_check.specs.Checks.{MayRide, MayEnter, label_of_host}
use Rattle.host_core.specs.Host.{HostState}
use Rattle.host_core.specs.Taking.{PassesCheck}
use Rattle.ignored_reasons.specs.Reasons.{PartHolds, parts_of, parts_at, parts_riding}

-- facts of what is there, one after the other or together
pub together : {X : Type 0} (found : Option X) (P Q : X → Type 0) →
    ((IsSomeAnd found P × IsSomeAnd found Q) ↔ IsSomeAnd found (λ x. P x × Q x))
together None P Q = (λ both. both.0, λ none. (none, none))
together (Some x) P Q = (λ both. both, λ both. both)

pub three_together : {X : Type 0} (found : Option X) (P Q R : X → Type 0) →
    ((IsSomeAnd found P × IsSomeAnd found Q × IsSomeAnd found R) ↔ IsSomeAnd found (λ x. P x × Q x × R x))
three_together None P Q R = (λ all. all.0, λ none. (none, none, none))
three_together (Some x) P Q R = (λ all. all, λ all. all)

all_append : {X : Type 0} (P : X → Type 0) (front back : List X) →
    (AllByRecursion P (front ++ back) ↔ (AllByRecursion P front × AllByRecursion P back))
all_append P [] back = (λ all. (tt, all), λ all. all.1)
all_append P (x ∷ front) back =
    let rest = all_append P front back in (
      λ all. (let parts = rest.0 all.1 in ((all.0, parts.0), parts.1)),
      λ all. (all.0.0, rest.1 (all.0.1, all.1)),
    )

riding : (code : CodeShape) (host : HostState) (from : HostId) (taken : Message) (variables : List VarId) →
    (AllByRecursion (PartHolds code host from taken) (parts_riding variables) ↔ MayRide code host.me from variables)
riding code host from taken [] = (λ all. tt, λ all. tt)
riding code host from taken (variable ∷ variables) =
    let rest = riding code host from taken variables in
    (λ all. (all.0, rest.0 all.1), λ all. (all.0, rest.1 all.1))

entering : (code : CodeShape) (host : HostState) (from : HostId) (taken : Message) (entry : EntryId) →
    (AllByRecursion (PartHolds code host from taken) (parts_at entry)
    ↔ MayEnter code host.me entry (label_of_host code from))
entering code host from taken entry =
    let whole = three_together (entry_at code entry) _ _ _ in (
      λ all. (all.0.0, whole.0 (all.0.1, all.1.0, all.1.1.0)),
      λ may. (let parts = whole.1 may.1 in ((may.0, parts.0), (parts.1, (parts.2, tt)))),
    )

pub all_pass : (code : CodeShape) (host : HostState) (from : HostId) (taken : Message) →
    (AllByRecursion (PartHolds code host from taken) (parts_of taken) ↔ PassesCheck code host from taken)
all_pass code host from (message.Get request field index) =
    let whole = together (field_at code field) _ _ in
    (λ all. whole.0 (all.0, all.1.0), λ may. (let parts = whole.1 may in (parts.0, (parts.1, tt))))
all_pass code host from (message.Set request field index value) =
    let whole = together (field_at code field) _ _ in
    (λ all. whole.0 (all.0, all.1.0), λ may. (let parts = whole.1 may in (parts.0, (parts.1, tt))))
all_pass code host from (message.Forward request frame variable value) = (λ all. all.0, λ may. (may, tt))
all_pass code host from (message.Sync request frame entry token) =
    entering code host from (message.Sync request frame entry token) entry
all_pass code host from (message.Rgoto frame entry token) =
    entering code host from (message.Rgoto frame entry token) entry
all_pass code host from (message.RgotoWith frame entry token riders) =
    let taken : Message = message.RgotoWith frame entry token riders in
    let whole = all_append (PartHolds code host from taken) (parts_at entry) (parts_riding (names_of riders)) in
    let enters = entering code host from taken entry in
    let rides = riding code host from taken (names_of riders) in (
      λ all. (let parts = whole.0 all in (enters.0 parts.0, rides.0 parts.1)),
      λ may. whole.1 (enters.1 may.0, rides.1 may.1),
    )
all_pass code host from (message.Lgoto token) = (λ all. all.0, λ may. (may, tt))
all_pass code host from (message.Value request value) = (λ all. all.0, λ may. (may, tt))
all_pass code host from (message.Ack request) = (λ all. all.0, λ may. (may, tt))
all_pass code host from (message.Token request token) = (λ all. all.0, λ may. (may, tt))
