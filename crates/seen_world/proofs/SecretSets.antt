-- What a secret message sets may not be seen, nor may the block that it enters.
use Rattle.std.proofs.Common.{◌≡◌, ◌∙◌, ℕ, zero, suc, false, List, [], ◌∷◌, Option, Some, None, inl, inr}
use Rattle.std.proofs.Common.{refl, ap, sym, subst}
use Rattle.std.specs.Prelude.{◌⊎◌, IfSome, slice_get}
use Rattle.std.specs.List.{AllByRecursion}
use Rattle.std.proofs.lemmas.Bool.{cases_Bool, false≢true}
use Rattle.js_base.specs.declared.ids.HostId.{HostId}
use Rattle.js_base.specs.declared.ids.EntryId.{EntryId}
use Rattle.js_base.specs.declared.ids.FieldId.{FieldId}
use Rattle.js_base.specs.declared.ids.FrameId.{FrameId}
use Rattle.js_base.specs.declared.ids.VarId.{VarId}
use Rattle.label_lattice.specs.declared.label.Label.{Label}
use Rattle.capability.specs.declared.token.Token.{Token}
use Rattle.label_lattice.specs.Label.{ConfFlows}
use Rattle.jif_tree.specs.LabelRules.{field_label}
use Rattle.host_code.specs.declared.code_expr.Node.{Node}
use Rattle.host_code.specs.declared.instruction.Op.{Op}
use Rattle.host_code.specs.declared.instruction.Op.TheVariants as op
use Rattle.host_code.specs.declared.message.Message.{Message}
use Rattle.host_code.specs.declared.message.Message.TheVariants as message
use Rattle.host_code.specs.Riders.{Rider, names_of}
use Rattle.host_code.specs.Code.{CodeFieldShape, CodeVariableShape, field_at, variable_at}
use Rattle.entry_check.specs.Checks.{label_at}
use Rattle.need_labels.specs.Needs.{label_of}
use Rattle.net_world.specs.Flying.{Flight}
use Rattle.net_world.specs.World.{WorldShape}
use Rattle.split_shades.specs.ShadedCode.{IsShadedOp}
use Rattle.split_shades.specs.Shading.{IsUnderBlock, GoesToInShade, CallsOn, Rides}
use Rattle.token_laws.proofs.HeldLaws.{all_at}
use Rattle.seen_world.specs.Eyes.{Eyes, AreEyes, sees_at}
use Rattle.seen_world.specs.Points.{IsInstructionAt, IsAskedBy, HasLabelAt, IsLabelledAs, SetsHidden, EntersHidden}
use Rattle.seen_world.specs.Points.{IsInFlight}
use Rattle.seen_world.specs.Points.{IsDeepEntry, PointsHold}
use Rattle.seen_world.proofs.LabelsSent.{label_same}

-- ---- what the program label flows to

shaded_at : (eyes : Eyes) → AreEyes eyes → (host : HostId) (place : ℕ) (it : Op) → IsInstructionAt eyes host place it →
    IsShadedOp eyes.scene eyes.shades host place it
shaded_at eyes are host place it at =
    subst (IsShadedOp eyes.scene eyes.shades host place) at.2 (are.shaded.instructions host place at.0 at.1).law

-- it flows to each variable that rides
riders_flow : (eyes : Eyes) → AreEyes eyes → (from to : HostId) (place label : ℕ) (entry : EntryId)
    (riders : List VarId) (has : HasLabelAt eyes from place label) →
    (has.0.op ≡ op.GoWith entry to riders) ⊎ (has.0.op ≡ op.CallWith entry to riders) →
    Rides eyes.scene (eyes.shades.at from place) riders to
riders_flow eyes are from to place label entry riders has (inl is) =
    (shaded_at eyes are from place (op.GoWith entry to riders) (has.0, has.1, is)).1
riders_flow eyes are from to place label entry riders has (inr is) =
    (shaded_at eyes are from place (op.CallWith entry to riders) (has.0, has.1, is)).1

variable_flows : (eyes : Eyes) → AreEyes eyes → (from to : HostId) (place : ℕ) (x : VarId) →
    IsInstructionAt eyes from place (op.Send x to)
    ⊎ (IsInstructionAt eyes from place (op.Pass x to)
    ⊎ ((given : List Node) × IsInstructionAt eyes from place (op.Ret x given))) →
    ConfFlows (eyes.shades.at from place).pc (label_of eyes.scene.basis.labelled x)
variable_flows eyes are from to place x (inl at) = (shaded_at eyes are from place (op.Send x to) at).1.1.2.0
variable_flows eyes are from to place x (inr (inl at)) = (shaded_at eyes are from place (op.Pass x to) at).1.1.2.0
variable_flows eyes are from to place x (inr (inr gives)) =
    (shaded_at eyes are from place (op.Ret x gives.0) gives.1).1.2.flows.program

-- ---- what is set

unseen : (eyes : Eyes) → AreEyes eyes → (host : HostId) (place label number : ℕ) (kept : Label) →
    HasLabelAt eyes host place label → sees_at eyes label ≡ false → label_at eyes.code number ≡ Some kept →
    ConfFlows (eyes.shades.at host place).pc kept → sees_at eyes number ≡ false
unseen eyes are host place label number kept has hidden is flows =
    let same : sees_at eyes number ≡ eyes.sees kept = rw is refl in
    elim (cases_Bool (eyes.sees kept)) [
      | inl seen ↦
          absurd (false≢true (sym hidden ∙ label_same eyes are host place label has
          ∙ are.below (eyes.shades.at host place).pc kept flows seen))
      | inr not_seen ↦ same ∙ not_seen
    ]

set_variable : (eyes : Eyes) → AreEyes eyes → (from : HostId) (place label : ℕ) (x : VarId) →
    ConfFlows (eyes.shades.at from place).pc (label_of eyes.scene.basis.labelled x) →
    HasLabelAt eyes from place label → sees_at eyes label ≡ false → (found : Option CodeVariableShape) →
    variable_at eyes.code x ≡ found → IfSome found (λ there. sees_at eyes there.label ≡ false)
set_variable eyes are from place label x flows has hidden None is = tt
set_variable eyes are from place label x flows has hidden (Some there) is =
    unseen eyes are from place label there.label (label_of eyes.scene.basis.labelled x) has hidden
    (are.known.variables x there is) flows

set_riders : (eyes : Eyes) → AreEyes eyes → (from to : HostId) (place label : ℕ) → HasLabelAt eyes from place label →
    sees_at eyes label ≡ false → (riders : List Rider) →
    Rides eyes.scene (eyes.shades.at from place) (names_of riders) to →
    AllByRecursion (λ rider. IfSome (variable_at eyes.code rider.0) (λ there. sees_at eyes there.label ≡ false)) riders
set_riders eyes are from to place label has hidden [] rides = tt
set_riders eyes are from to place label has hidden (rider ∷ riders) rides = (
  set_variable eyes are from place label rider.0 rides.0.0 has hidden (variable_at eyes.code rider.0) refl,
  set_riders eyes are from to place label has hidden riders rides.1,
)

set_field : (eyes : Eyes) → AreEyes eyes → (from : HostId) (place label : ℕ) (field : FieldId)
    (index written : List Node) → IsInstructionAt eyes from place (op.Put field index written) →
    HasLabelAt eyes from place label → sees_at eyes label ≡ false → (found : Option CodeFieldShape) →
    field_at eyes.code field ≡ found → IfSome found (λ there. sees_at eyes there.label ≡ false)
set_field eyes are from place label field index written at has hidden None is = tt
set_field eyes are from place label field index written at has hidden (Some there) is =
    unseen eyes are from place label there.label (field_label eyes.scene.basis.labelled.program field) has hidden
    (are.known.fields field there is).0
    (shaded_at eyes are from place (op.Put field index written) at).1.2.flows.program

sets_hidden : (eyes : Eyes) → AreEyes eyes → (from to : HostId) (said : Message) (label : ℕ) →
    IsAskedBy eyes from to said → IsLabelledAs eyes from to said label → sees_at eyes label ≡ false →
    SetsHidden eyes said
sets_hidden eyes are from to (message.Get request field index) label asked has hidden = tt
sets_hidden eyes are from to (message.Set request field index value) label asked has hidden =
    set_field eyes are from request.at label field asked.0 asked.1 asked.2 has hidden (field_at eyes.code field) refl
sets_hidden eyes are from to (message.Forward request frame x value) label asked has hidden =
    set_variable eyes are from request.at label x (variable_flows eyes are from to request.at x asked) has hidden
    (variable_at eyes.code x) refl
sets_hidden eyes are from to (message.Sync request frame entry token) label asked has hidden = tt
sets_hidden eyes are from to (message.Rgoto frame entry token) label asked has hidden = tt
sets_hidden eyes are from to (message.RgotoWith frame entry token riders) label asked has hidden =
    set_riders eyes are from to has.0 label has.1 hidden riders
    (riders_flow eyes are from to has.0 label entry (names_of riders) has.1 has.2)
sets_hidden eyes are from to (message.Lgoto token) label asked has hidden = tt
sets_hidden eyes are from to (message.Value request value) label asked has hidden = tt
sets_hidden eyes are from to (message.Ack request) label asked has hidden = tt
sets_hidden eyes are from to (message.Token request token) label asked has hidden = tt

-- ---- what is entered

-- where an instruction outside of guards may not be seen, its block may not be
deep_there : (eyes : Eyes) → AreEyes eyes → (host : HostId) (place label : ℕ) → HasLabelAt eyes host place label →
    sees_at eyes label ≡ false → (eyes.shades.at host place).guard ≡ None →
    eyes.sees (eyes.shades.at host place).block ≡ false
deep_there eyes are host place label has hidden plain =
    let here = eyes.shades.at host place in
    let same : here.pc ≡ here.block =
    subst (λ guard. IsUnderBlock guard here.block here.pc) plain
    (are.shaded.instructions host place has.0 has.1).is_shade.under_block in
    ap eyes.sees (sym same) ∙ sym (label_same eyes are host place label has) ∙ hidden

goes_deep : (eyes : Eyes) → AreEyes eyes → (from to : HostId) (place label : ℕ) (entry : EntryId) →
    HasLabelAt eyes from place label → sees_at eyes label ≡ false →
    GoesToInShade eyes.scene eyes.shades.entries (eyes.shades.at from place) entry.0 to → IsDeepEntry eyes entry.0
goes_deep eyes are from to place label entry has hidden goes =
    let hands = goes.3 in
    (hands.it, hands.is, ap eyes.sees hands.block ∙ deep_there eyes are from place label has hidden goes.2)

calls_deep : (eyes : Eyes) → AreEyes eyes → (from to : HostId) (place label : ℕ) (entry : EntryId) →
    HasLabelAt eyes from place label → sees_at eyes label ≡ false →
    CallsOn eyes.scene eyes.shades.entries (eyes.shades.at from place) entry.0 to → IsDeepEntry eyes entry.0
calls_deep eyes are from to place label entry has hidden calls =
    let enters = calls.3 in
    let here = eyes.shades.at from place in (
      enters.it,
      enters.is,
      elim (cases_Bool (eyes.sees enters.it.block)) [
        | inl seen ↦
            absurd (false≢true (sym (deep_there eyes are from place label has hidden calls.2)
            ∙ are.below here.block enters.it.block enters.below seen))
        | inr not_seen ↦ not_seen
      ],
    )

ends_hidden : (eyes : Eyes) → AreEyes eyes → (from to : HostId) (place label : ℕ) (entry : EntryId)
    (has : HasLabelAt eyes from place label) → sees_at eyes label ≡ false →
    (has.0.op ≡ op.Go entry to) ⊎ (has.0.op ≡ op.Call entry to) → IsDeepEntry eyes entry.0
ends_hidden eyes are from to place label entry has hidden (inl is) =
    goes_deep eyes are from to place label entry has hidden
    (shaded_at eyes are from place (op.Go entry to) (has.0, has.1, is))
ends_hidden eyes are from to place label entry has hidden (inr is) =
    calls_deep eyes are from to place label entry has hidden
    (shaded_at eyes are from place (op.Call entry to) (has.0, has.1, is))

-- the same where values ride
rides_hidden : (eyes : Eyes) → AreEyes eyes → (from to : HostId) (place label : ℕ) (entry : EntryId)
    (riders : List VarId) (has : HasLabelAt eyes from place label) → sees_at eyes label ≡ false →
    (has.0.op ≡ op.GoWith entry to riders) ⊎ (has.0.op ≡ op.CallWith entry to riders) → IsDeepEntry eyes entry.0
rides_hidden eyes are from to place label entry riders has hidden (inl is) =
    goes_deep eyes are from to place label entry has hidden
    (shaded_at eyes are from place (op.GoWith entry to riders) (has.0, has.1, is)).0
rides_hidden eyes are from to place label entry riders has hidden (inr is) =
    calls_deep eyes are from to place label entry has hidden
    (shaded_at eyes are from place (op.CallWith entry to riders) (has.0, has.1, is)).0

enters_hidden : (eyes : Eyes) → AreEyes eyes → (from to : HostId) (said : Message) (label : ℕ) →
    IsAskedBy eyes from to said → IsLabelledAs eyes from to said label → sees_at eyes label ≡ false →
    EntersHidden eyes said
enters_hidden eyes are from to (message.Get request field index) label asked has hidden = tt
enters_hidden eyes are from to (message.Set request field index value) label asked has hidden = tt
enters_hidden eyes are from to (message.Forward request frame x value) label asked has hidden = tt
enters_hidden eyes are from to (message.Sync request frame entry token) label asked has hidden =
    let law = shaded_at eyes are from request.at (op.Ask entry to) asked in
    let names = law.1.3.0 in (
      names.it,
      names.is,
      ap eyes.sees names.block ∙ deep_there eyes are from request.at label has hidden law.1.2,
    )
enters_hidden eyes are from to (message.Rgoto frame entry token) label asked has hidden =
    ends_hidden eyes are from to has.0 label entry has.1 hidden has.2
enters_hidden eyes are from to (message.RgotoWith frame entry token riders) label asked has hidden =
    rides_hidden eyes are from to has.0 label entry (names_of riders) has.1 hidden has.2
enters_hidden eyes are from to (message.Lgoto token) label asked has hidden = tt
enters_hidden eyes are from to (message.Value request value) label asked has hidden = tt
enters_hidden eyes are from to (message.Ack request) label asked has hidden = tt
enters_hidden eyes are from to (message.Token request token) label asked has hidden = tt

-- what is hidden of each variable that rides, at its place
pub rider_hidden : (eyes : Eyes) (frame : FrameId) (entry : EntryId) (token : Token) (riders : List Rider) (place : ℕ)
    (rider : Rider) → SetsHidden eyes (message.RgotoWith frame entry token riders) →
    slice_get riders place ≡ Some rider →
    IfSome (variable_at eyes.code rider.0) (λ there. sees_at eyes there.label ≡ false)
rider_hidden eyes frame entry token [] place rider hidden there = absurd (cc)
rider_hidden eyes frame entry token (first ∷ riders) zero rider hidden there =
    let same : first ≡ rider = cc in
    subst (λ (one : Rider). IfSome (variable_at eyes.code one.0) (λ it. sees_at eyes it.label ≡ false)) same hidden.0
rider_hidden eyes frame entry token (first ∷ riders) (suc place) rider hidden there =
    rider_hidden eyes frame entry token riders place rider hidden.1 there

pub flight_enters : (eyes : Eyes) (world : WorldShape) (from to : HostId) (place : ℕ) (flight : Flight) →
    AreEyes eyes → PointsHold eyes world → slice_get (world.flying from to) place ≡ Some flight →
    sees_at eyes flight.label ≡ false → EntersHidden eyes flight.message
flight_enters eyes world from to place flight are points there hidden =
    let flies : IsInFlight eyes from to flight =
    all_at (IsInFlight eyes from to) (world.flying from to) place flight (points.flying from to) there in
    enters_hidden eyes are from to flight.message flight.label flies.well.0 flies.labelled hidden

pub flight_sets : (eyes : Eyes) (world : WorldShape) (from to : HostId) (place : ℕ) (flight : Flight) →
    AreEyes eyes → PointsHold eyes world → slice_get (world.flying from to) place ≡ Some flight →
    sees_at eyes flight.label ≡ false → SetsHidden eyes flight.message
flight_sets eyes world from to place flight are points there hidden =
    let flies : IsInFlight eyes from to flight =
    all_at (IsInFlight eyes from to) (world.flying from to) place flight (points.flying from to) there in
    sets_hidden eyes are from to flight.message flight.label flies.well.0 flies.labelled hidden
