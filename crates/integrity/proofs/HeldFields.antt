-- Where each field stands on a host that may hold it, one that stands on a misbehaving host may be affected.
use Rattle.std.proofs.Common.{◌≡◌, ◌∙◌, ℕ, zero, suc, ◌+◌, true, List, [], ◌∷◌, length, Option, Some, None, refl, sym}
use Rattle.std.proofs.Common.{ap, subst, arith}
use Rattle.std.specs.Prelude.{slice_get, unwrap_or, Any}
use Rattle.std.specs.List.{range_with_len, zip}
use Rattle.std.specs.Option.{IsSomeAnd, option_map}
use Rattle.std.proofs.lemmas.List.{length-map}
use Rattle.std.proofs.lemmas.Option.{slice_get-map, slice_get_within}
use Rattle.std.proofs.lemmas.List.FromFn.{length-range_with_len}
use Rattle.js_base.specs.declared.ids.FieldId.{FieldId}
use Rattle.js_base.specs.declared.ids.HostId.{HostId}
use Rattle.label_lattice.specs.declared.label.Label.{Label}
use Rattle.label_lattice.specs.Label.{ConfFlows, IntegFlows}
use Rattle.label_lattice.specs.Lattice.{join_of}
use Rattle.host_decl.specs.Hosts.{HostShape}
use Rattle.jif_tree.specs.Trees.{FieldTree}
use Rattle.jif_tree.specs.Altered.{IsAffected, FieldIsAffected}
use Rattle.host_code.specs.Code.{CodeFieldShape, CodeHostShape}
use Rattle.need_labels.specs.Plan.{PlanShape, field_host, first_host}
use Rattle.split_rules.specs.Placed.{PlacedProgram, planned_from}
use Rattle.split_rules.specs.Allowed.{IsAllowed}
use Rattle.split_rules.specs.Held.{HoldsField, IsWellHeld}
use Rattle.split_rules.specs.SplitCode.{placed_code_fields, code_labels, split_code}
use Rattle.split_rules.specs.TypedCode.{Table}
use Rattle.split_rules.specs.Walk.{program_emissions}
use Rattle.split_rules.proofs.AllowedTyping.{zipped_there}
use Rattle.split_rules.proofs.SeenPrograms.{zip_at}
use Rattle.net_world.specs.World.{WorldShape, misbehaves}
use Rattle.typed_steps.specs.Requests.{FieldIsOn}
use Rattle.typed_steps.specs.Views.{Split}
use Rattle.typed_steps.proofs.Calls.{there_within}
use Rattle.integrity.specs.Outside.{Threat, threat_of}
use Rattle.integrity.specs.Standing.{threat_in}
use Rattle.integrity.proofs.OpenSteps.{any_each}
use Rattle.integrity.proofs.OpenWorlds.{AreBad}

-- a field of the code is one of the program, and stands on the host that the plan gives it
pub record IsPlaced (plan : PlanShape) (number : ℕ) (fields : List FieldTree) (place : ℕ) (there : CodeFieldShape)
    : Type 0 where
  pub tree : FieldTree
  pub is : slice_get fields place ≡ Some tree
  pub on_host : there.host ≡ field_host plan (record { 0 = number + place })

field_placed : (labels : List Label) (plan : PlanShape) (number : ℕ) (fields : List FieldTree) (place : ℕ)
    (there : CodeFieldShape) → slice_get (placed_code_fields labels plan number fields) place ≡ Some there →
    IsPlaced plan number fields place there
field_placed labels plan number [] place there is = absurd (cc)
field_placed labels plan number (field ∷ fields) zero there is =
    let sum : number ≡ number + 0 = omega arith in
    record {
      tree = field;
      is = refl;
      on_host = ap (λ (o : Option CodeFieldShape). unwrap_or (option_map (λ (f : CodeFieldShape). f.host) o) first_host)
          (sym is)
          ∙ ap (λ n. field_host plan (record { 0 = n })) sum;
    }
field_placed labels plan number (field ∷ fields) (suc place) there is =
    let later = field_placed labels plan (suc number) fields place there is in
    let sum : suc number + place ≡ number + suc place = omega arith in
    record {
      tree = later.tree;
      is = later.is;
      on_host = later.on_host ∙ ap (λ n. field_host plan (record { 0 = n })) sum;
    }

-- whoever trusts the field trusts the host, whatever else is known of both
only_trust : (told : Label) (tree : FieldTree) (found : Option HostShape) →
    IsSomeAnd found (λ row. ConfFlows (join_of tree.label told) row.label × IntegFlows row.label tree.label) →
    (label : Label) → option_map (λ (row : HostShape). row.label) found ≡ Some label → IntegFlows label tree.label
only_trust told tree None never label is = absurd never
only_trust told tree (Some row) both label is =
    let same : row.label ≡ label = cc in
    subst (λ one. IntegFlows one tree.label) same both.1

affected_by : (bad : List Label) (found : Option FieldTree) (tree : FieldTree) → found ≡ Some tree →
    Any (λ host. IntegFlows host tree.label) bad →
    IsSomeAnd (option_map (λ (one : FieldTree). one.label) found) (IsAffected bad)
affected_by bad None tree is any = absurd (cc)
affected_by bad (Some other) tree is any =
    let same : other ≡ tree = cc in
    subst (λ (one : FieldTree). Any (λ host. IntegFlows host one.label) bad) (sym same) any

field_open : (placed : PlacedProgram) (table : Table) (bad : ℕ) (world : WorldShape) →
    IsAllowed placed → IsWellHeld placed →
    AreBad (threat_of placed table bad) world → (field : FieldId) (to : HostId) →
    FieldIsOn (split_code placed) field to → misbehaves world to ≡ true →
    FieldIsAffected (threat_of placed table bad).exposure field
field_open placed table bad world allowed held are_bad field to on misbehaving =
    let threat = threat_of placed table bad in
    let fields = placed.labelled.program.fields in
    let planned = planned_from placed in
    let labels = code_labels placed.labelled (program_emissions placed) in
    let at = field_placed labels placed.plan 0 fields field.0 on.there on.is in
    let within = slice_get_within fields field.0 at.tree at.is in
    let long : length placed.needs.loc ≡ length fields =
    ap length allowed.needs_of.loc ∙ length-map (range_with_len 0 (length fields)) _
    ∙ length-range_with_len 0 (length fields) in
    let told = there_within placed.needs.loc field.0 (omega (arith, long, within)) in
    let holds =
    zipped_there (HoldsField placed.hosts) (zip fields placed.needs.loc) placed.plan.fields held.fields field.0
    (at.tree, told.0)
    (zip_at fields placed.needs.loc field.0 at.tree told.0 at.is told.1) in
    let sum : 0 + field.0 ≡ field.0 = omega arith in
    let host_is : holds.0 ≡ to =
    sym (ap (λ found. unwrap_or found first_host) holds.1)
    ∙ ap (λ n. field_host placed.plan (record { 0 = n })) (sym sum) ∙ sym at.on_host ∙ on.on_host in
    let one = are_bad to misbehaving in
    let row_is : option_map (λ (row : HostShape). row.label) (slice_get placed.hosts.hosts holds.0.0) ≡ Some one.label =
    ap (λ (h : HostId). option_map (λ (row : HostShape). row.label) (slice_get placed.hosts.hosts h.0)) host_is
    ∙ labels_of (slice_get placed.hosts.hosts to.0)
    ∙ ap (option_map (λ (it : CodeHostShape). it.label))
    (sym (slice_get-map (λ (host : HostShape). record { name = host.name; label = host.label }) placed.hosts.hosts
    to.0))
    ∙ one.of_host in
    let trusts = only_trust told.0 at.tree (slice_get placed.hosts.hosts holds.0.0) holds.2 one.label row_is in
    subst (λ o. IsSomeAnd o (IsAffected threat.exposure.bad))
    (sym (slice_get-map (λ (tree : FieldTree). tree.label) fields field.0))
    (affected_by threat.exposure.bad (slice_get fields field.0) at.tree at.is
    (any_each (λ other. other ≡ one.label) (λ other. IntegFlows other at.tree.label) threat.exposure.bad
    (λ other same. subst (λ label. IntegFlows label at.tree.label) (sym same) trusts) one.among))
  where
    labels_of : (found : Option HostShape) → option_map (λ (row : HostShape). row.label) found
        ≡ option_map (λ (it : CodeHostShape). it.label)
        (option_map (λ (host : HostShape). record { name = host.name; label = host.label }) found)
    labels_of None = refl
    labels_of (Some row) = refl

pub field_on_bad : (split : Split) (placed : PlacedProgram) (bad : ℕ) (world : WorldShape) →
    threat_in split ≡ threat_of placed split.table bad →
    IsAllowed placed → IsWellHeld placed → AreBad (threat_in split) world →
    (field : FieldId) (to : HostId) → FieldIsOn split.code field to → misbehaves world to ≡ true →
    FieldIsAffected split.exposure field
field_on_bad split placed bad world same allowed held =
    subst (λ (t : Threat). AreBad t world → (field : FieldId) (to : HostId) → FieldIsOn t.code field to →
    misbehaves world to ≡ true → FieldIsAffected t.exposure field) (sym same)
    (field_open placed split.table bad world allowed held)
