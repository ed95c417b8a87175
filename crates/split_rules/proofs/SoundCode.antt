-- The code that is read off emissions is sound where they go from the start of a walk to an end.
use Rattle.std.proofs.Common.{◌≡◌, ◌∙◌, ℕ, zero, suc, ◌<◌, ◌≤◌, inl, List, [], ◌∷◌, ◌++◌, map, length}
use Rattle.std.proofs.Common.{Some, slice_get, All, refl, ap, sym, subst, arith, sum_by, option_map, IsSomeAnd}
use Rattle.std.specs.List.{flat_map, range_with_len, zip}
use Rattle.std.proofs.lemmas.List.{length-map}
use Rattle.std.proofs.lemmas.List.Elements.{All-weaker}
use Rattle.std.proofs.lemmas.List.FromFn.{length-range_with_len}
use Rattle.std.proofs.lemmas.Option.{slice_get-map}
use Rattle.js_base.specs.Name.{IsName}
use Rattle.label_lattice.specs.declared.label.Label.{Label}
use Rattle.host_decl.specs.Hosts.{HostShape, HostsShape}
use Rattle.jif_tree.specs.Trees.{FieldTree, MethodTree}
use Rattle.jif_tree.specs.LabelRules.{method_at}
use Rattle.host_code.specs.declared.code.TheConstants.{MOST_ITEMS}
use Rattle.host_code.specs.declared.instruction.Instr.{Instr}
use Rattle.host_code.specs.Code.{CodeShape, CodeHostShape, CodeFieldShape, CodeVariableShape, halt, entry_at}
use Rattle.host_code.specs.Sound.{IsSoundCode, FieldFits, VariableFits, EntryFits, IsHost, IsOnRoot}
use Rattle.need_labels.specs.Labelled.{Labelled}
use Rattle.msg_cost.specs.Moves.{PlannedShape, home_of, called_home}
use Rattle.split_rules.specs.Placed.{PlacedProgram, planned_from}
use Rattle.split_rules.specs.Emissions.{Emission, entry, NamedEntry}
use Rattle.split_rules.specs.Walk.{method_entry, need_of}
use Rattle.split_rules.specs.SplitCode.{entries_in, code_labels}
use Rattle.split_rules.specs.SplitCode.{label_of_emission, placed_entries, code_variable}
use Rattle.split_rules.specs.SplitCode.{code_of_emissions, part_on}
use Rattle.split_rules.specs.Flow.{State, FlowGoes}
use Rattle.split_rules.specs.Splittable.{IsSplittable}
use Rattle.jif_tree.specs.Limits.{IsSizedField}
use Rattle.jif_tree.specs.Named.{IsNameInText, IsNamedVariable}
use Rattle.split_rules.specs.WalkStart.{scope_of, front_emissions, walk_start, IsEnd}
use Rattle.split_rules.proofs.Places.{entries_append, entries_few, found_entry}
use Rattle.split_rules.proofs.Standing.{placed_below}
use Rattle.split_rules.proofs.CodeLabels.{label_there, label_left, label_right, label_at}
use Rattle.split_rules.proofs.NumberedLists.{length-numbered, made, sum_by-numbered, all_at, at_all, length-zip}
use Rattle.split_rules.proofs.NumberedLists.{zip_there}
use Rattle.split_rules.proofs.FittingOperations.{HasScope}
use Rattle.split_rules.proofs.CodeItems.{known_host, all_sites_known, code_field, fields_numbered, code_entry}
use Rattle.split_rules.proofs.CodeItems.{entries_numbered, variable_name}
use Rattle.split_rules.proofs.Fronts.{IsWalk, front_is, walk_there, all_stand}
use Rattle.split_rules.proofs.SoundParts.{given, code_given, long_part, entry_made, entry_there}
use Rattle.split_rules.proofs.SoundInstructions.{label_given, mapped, get_left, part_fits}

-- ---- how much there is

-- No list of a code is so long that its items have no number of 32 bits.
pub record HasFew (code : CodeShape) (emissions : List Emission) : Type 0 where
  pub few_emissions : length emissions ≤ MOST_ITEMS
  pub host_names : All (λ host. length host.name ≤ MOST_ITEMS) code.hosts
  pub labels : length code.labels ≤ MOST_ITEMS
  pub fields : length code.fields ≤ MOST_ITEMS
  pub field_names : All (λ field. length field.name ≤ MOST_ITEMS) code.fields
  pub variables : length code.variables ≤ MOST_ITEMS
  pub variable_names : All (λ variable. length variable.name ≤ MOST_ITEMS) code.variables
  pub sites : length code.sites ≤ MOST_ITEMS

has_scope : (labelled : Labelled) (hosts : HostsShape) (planned : PlannedShape) (emissions : List Emission) →
    length labelled.var_labels ≡ length labelled.program.vars →
    HasScope (scope_of labelled hosts planned.plan) (code_of_emissions labelled hosts planned emissions)
has_scope labelled hosts planned emissions same =
    let labels = code_labels labelled emissions in
    let shown : HostShape → CodeHostShape = λ host. record { name = host.name; label = host.label } in
    record {
      hosts = length-map hosts.hosts shown;
      fields = ap length (fields_numbered labels planned.plan 0 labelled.program.fields)
          ∙ length-numbered (code_field labels planned.plan) 0 labelled.program.fields;
      variables = length-map (zip labelled.program.vars labelled.var_labels) (code_variable labelled.program labels)
          ∙ length-zip labelled.program.vars labelled.var_labels same;
      sites = refl;
    }

-- ---- hosts

both : {X : Type 0} (P Q : X → Type 0) (xs : List X) → All P xs → All Q xs → All (λ x. P x × Q x) xs
both P Q xs first second = all_at (λ x. P x × Q x) xs
    (λ place x there. (at_all P xs place x first there, at_all Q xs place x second there))

host_names : (hosts : HostsShape) → All IsName (map (λ host. host.name) hosts.hosts) →
    All {X = CodeHostShape} (λ host. IsName host.name)
    (map (λ host. record { name = host.name; label = host.label }) hosts.hosts)
host_names hosts named =
    let shown : HostShape → CodeHostShape = λ host. record { name = host.name; label = host.label } in
    let name_of : HostShape → List ℕ = λ host. host.name in
    all_at (λ host. IsName host.name) (map shown hosts.hosts) (λ place host there.
    let so = mapped shown hosts.hosts place host there in
    let name = at_all IsName (map name_of hosts.hosts) place so.0.name named
    (slice_get-map name_of hosts.hosts place ∙ ap (option_map name_of) so.1) in
    subst IsName (ap {A = CodeHostShape} (λ one. one.name) so.2) name)

-- ---- fields and variables

field_fits : (placed : PlacedProgram) (all : List Emission) → IsSplittable placed →
    let code = code_of_emissions placed.labelled placed.hosts (planned_from placed) all in
    All (λ field. length field.name ≤ MOST_ITEMS) code.fields → 0 < length placed.hosts.hosts →
    All (FieldFits code) code.fields
field_fits placed all splittable short some =
    let labelled = placed.labelled in
    let hosts = placed.hosts in
    let planned = planned_from placed in
    let code = code_of_emissions labelled hosts planned all in
    let labels = code_labels labelled all in
    let fields = labelled.program.fields in
    let make = code_field labels planned.plan in
    let label_of : FieldTree → Label = λ field. field.label in
    all_at (FieldFits code) code.fields (λ place field there.
    let so = made make fields place field
    (ap (λ list. slice_get list place) (sym (fields_numbered labels planned.plan 0 fields)) ∙ there) in
    let sized = at_all IsSizedField fields place so.of splittable.within.sizes so.there in
    let name = at_all (λ (one : FieldTree). IsNameInText one.name) fields place so.of splittable.named.fields so.there
    in
    let brief = at_all {X = CodeFieldShape} (λ one. length one.name ≤ MOST_ITEMS) code.fields place field short there in
    let on = known_host (length hosts.hosts) planned.plan.fields place splittable.stands.fields some in
    let many = length-map hosts.hosts (λ (host : HostShape). let shown : CodeHostShape =
    record { name = host.name; label = host.label } in shown) in
    let label = label_there so.of.label
    (map label_of fields ++ labelled.var_labels ++ flat_map label_of_emission all)
    (label_left so.of.label (map label_of fields ++ labelled.var_labels) (flat_map label_of_emission all)
    (label_left so.of.label (map label_of fields) labelled.var_labels
    (label_at (map label_of fields) place so.of.label
    (slice_get-map label_of fields place ∙ ap (option_map label_of) so.there)))) in
    subst (FieldFits code) (sym so.is) (record {
      name = name.name;
      short = subst (λ (one : CodeFieldShape). length one.name ≤ MOST_ITEMS) so.is brief;
      label = label;
      size = (sized.some, sized.few, sized.plain);
      host = omega arith;
    }))

variable_fits : (placed : PlacedProgram) (all : List Emission) → IsSplittable placed →
    let code = code_of_emissions placed.labelled placed.hosts (planned_from placed) all in
    All (λ variable. length variable.name ≤ MOST_ITEMS) code.variables → All (VariableFits code) code.variables
variable_fits placed all splittable short =
    let labelled = placed.labelled in
    let code = code_of_emissions labelled placed.hosts (planned_from placed) all in
    let labels = code_labels labelled all in
    let program = labelled.program in
    let pairs = zip program.vars labelled.var_labels in
    let fields = map (λ field. field.label) program.fields in
    all_at (VariableFits code) code.variables (λ place variable there.
    let so = mapped (code_variable program labels) pairs place variable there in
    let own = zip_there program.vars labelled.var_labels place so.0 so.1 in
    let named = at_all (IsNamedVariable program) program.vars place so.0.0 splittable.named.variables own.0 in
    let brief = at_all {X = CodeVariableShape} (λ one. length one.name ≤ MOST_ITEMS) code.variables place variable short
    there in
    let label = label_there so.0.1 (fields ++ labelled.var_labels ++ flat_map label_of_emission all)
    (label_left so.0.1 (fields ++ labelled.var_labels) (flat_map label_of_emission all)
    (label_right so.0.1 fields labelled.var_labels (label_at labelled.var_labels place so.0.1 own.1))) in
    subst (VariableFits code) so.2 (record {
      name = variable_name program so.0.0 splittable.named.methods named;
      short = subst (λ (one : CodeVariableShape). length one.name ≤ MOST_ITEMS) (sym so.2) brief;
      label = label;
    }))

-- ---- entries

entry_fits : (labelled : Labelled) (hosts : HostsShape) (planned : PlannedShape) (main : MethodTree)
    (emissions : List Emission) (last : State) → IsWalk labelled hosts planned main emissions last →
    let code = code_given labelled hosts planned main emissions in All (EntryFits code) code.entries
entry_fits labelled hosts planned main emissions last walk =
    let code = code_given labelled hosts planned main emissions in
    let all = given labelled planned main emissions in
    let labels = code_labels labelled all in
    let shown : HostShape → CodeHostShape = λ host. record { name = host.name; label = host.label } in
    let many = length-map hosts.hosts shown in
    all_at (EntryFits code) code.entries (λ place there is.
    let so = entry_made labels all place there is in
    let standing = all_stand labelled hosts planned main emissions last walk place so.0 so.1 in
    let found = found_entry all place so.0 so.1 in
    let within = standing.host in
    let long = long_part labelled hosts planned all so.0.host within in
    let below = placed_below _ so.0.host place all standing.placed in
    subst (EntryFits code) (sym so.2) (record {
      host = omega arith;
      at = omega arith;
      label = label_given labelled so.0.label all found.before (entry so.0) found.behind found.is (inl refl);
    }))

-- ---- the whole

few_entries : (labels : List Label) (all : List Emission) → length all ≤ MOST_ITEMS →
    length (placed_entries labels all 0 (entries_in all)) ≤ MOST_ITEMS
few_entries labels all few =
    let long = ap length (entries_numbered labels all 0 (entries_in all))
    ∙ length-numbered (code_entry labels all) 0 (entries_in all) in
    let fewer = entries_few all in
    omega arith

entry_of_method : (planned : PlannedShape) (methods : List MethodTree) (place : ℕ) (method : MethodTree) →
    slice_get methods place ≡ Some method →
    slice_get (entries_in (map (method_entry planned) methods)) place
    ≡ Some (record {
      host = home_of planned method;
      label = method.begin;
      need = need_of planned (method.head ∷ []);
    })
entry_of_method planned [] place method there = absurd (cc)
entry_of_method planned (first ∷ methods) zero method there =
    let same : first ≡ method = cc in
    ap (λ one. Some (record {
      host = home_of planned one;
      label = one.begin;
      need = need_of planned (one.head ∷ []);
    })) same
entry_of_method planned (first ∷ methods) (suc place) method there = entry_of_method planned methods place method there

-- the entry of `main` stands on its home
main_on_root : (labelled : Labelled) (hosts : HostsShape) (planned : PlannedShape) (main : MethodTree)
    (emissions : List Emission) → method_at labelled.program labelled.program.main ≡ Some main →
    let code = code_given labelled hosts planned main emissions in IsOnRoot code code.main
main_on_root labelled hosts planned main emissions main_is =
    let code = code_given labelled hosts planned main emissions in
    let all = given labelled planned main emissions in
    let labels = code_labels labelled all in
    let methods = labelled.program.methods in
    let place = labelled.program.main.0 in
    let named : NamedEntry = record {
      host = home_of planned main;
      label = main.begin;
      need = need_of planned (main.head ∷ []);
    } in
    let there : slice_get (entries_in all) (suc place) ≡ Some named =
    ap (λ list. slice_get list place) (entries_append (map (method_entry planned) methods) emissions)
    ∙ get_left (entries_in (map (method_entry planned) methods)) (entries_in emissions) place named
    (entry_of_method planned methods place main main_is) in
    subst (λ (found : _). IsSomeAnd found (λ one. one.host ≡ code.root))
    (sym (entry_there labels all (suc place) named there)) (sym (ap (called_home planned) main_is))

halt_on_root : (labelled : Labelled) (hosts : HostsShape) (planned : PlannedShape) (main : MethodTree)
    (emissions : List Emission) → method_at labelled.program labelled.program.main ≡ Some main →
    let code = code_given labelled hosts planned main emissions in
    IsSomeAnd (entry_at code halt) (λ there. (there.host ≡ code.root) × (there.at ≡ 0))
halt_on_root labelled hosts planned main emissions main_is = (sym (ap (called_home planned) main_is), refl)

sound_given : (placed : PlacedProgram) (main : MethodTree) (emissions : List Emission) (last : State) →
    let planned = planned_from placed in
    IsWalk placed.labelled placed.hosts planned main emissions last → IsSplittable placed →
    let code = code_given placed.labelled placed.hosts planned main emissions in
    HasFew code (given placed.labelled planned main emissions) → IsSoundCode code
sound_given placed main emissions last walk splittable few =
    let labelled = placed.labelled in
    let hosts = placed.hosts in
    let planned = planned_from placed in
    let code = code_given labelled hosts planned main emissions in
    let all = given labelled planned main emissions in
    let labels = code_labels labelled all in
    let shown : HostShape → CodeHostShape = λ host. record { name = host.name; label = host.label } in
    let name_of : HostShape → List ℕ = λ host. host.name in
    let many = length-map hosts.hosts shown in
    let as_many = length-map hosts.hosts name_of in
    let some = splittable.are_hosts.names.some in
    let not_many = splittable.are_hosts.names.few in
    let has = has_scope labelled hosts planned all splittable.var_labels in
    let sum = ap (sum_by (λ (field : CodeFieldShape). field.size))
    (fields_numbered labels planned.plan 0 labelled.program.fields)
    ∙ sum_by-numbered (code_field labels planned.plan) (λ (field : FieldTree). field.size)
    (λ (field : CodeFieldShape). field.size) 0 labelled.program.fields (λ at field. refl) in
    let elements = splittable.within.elements in
    let make : ℕ → List Instr = λ number. part_on labels all (record { 0 = number }) in
    record {
      some_host = omega arith;
      few_hosts = omega arith;
      host_names = both (λ host. IsName host.name) (λ host. length host.name ≤ MOST_ITEMS) code.hosts
          (host_names hosts splittable.are_hosts.named) few.host_names;
      few_labels = few.labels;
      few_fields = few.fields;
      fields = field_fits placed all splittable few.field_names walk.some;
      elements = omega arith;
      few_variables = few.variables;
      variables = variable_fits placed all splittable few.variable_names;
      few_entries = few_entries labels all few.few_emissions;
      entries = entry_fits labelled hosts planned main emissions last walk;
      few_sites = few.sites;
      sites = All-weaker (λ host. host.0 < length hosts.hosts) (IsHost code) (λ host within. omega arith) code.sites
          (all_sites_known (length hosts.hosts) planned.plan walk.among walk.some labelled.program.methods);
      a_part_each = length-map (range_with_len 0 (length hosts.hosts)) make
          ∙ length-range_with_len 0 (length hosts.hosts) ∙ sym many;
      parts = λ host there. part_fits labelled hosts planned main emissions last walk has few.few_emissions host
          (omega arith);
      halt_first = halt_on_root labelled hosts planned main emissions walk.main_is;
      main = main_on_root labelled hosts planned main emissions walk.main_is;
    }

-- the code of emissions that go from the start of a walk to an end is sound
pub sound_code : (placed : PlacedProgram) (emissions : List Emission) (last : State) → IsSplittable placed →
    let planned = planned_from placed in
    let all = front_emissions placed.labelled planned ++ emissions in
    let code = code_of_emissions placed.labelled placed.hosts planned all in
    HasFew code all →
    FlowGoes (scope_of placed.labelled placed.hosts placed.plan) (walk_start placed.labelled planned) emissions last →
    IsEnd last → IsSoundCode code
sound_code placed emissions last splittable few goes end =
    let labelled = placed.labelled in
    let hosts = placed.hosts in
    let planned = planned_from placed in
    let main = splittable.numbered.main.0 in
    let front = front_is labelled planned main splittable.numbered.main.1 in
    let walk = walk_there placed emissions last splittable goes end in
    let IsFew : List Emission → Type 0 = λ list. HasFew (code_of_emissions labelled hosts planned (list ++ emissions))
    (list ++ emissions) in
    let few_given = subst IsFew front few in
    subst (λ (list : List Emission). IsSoundCode (code_of_emissions labelled hosts planned (list ++ emissions)))
    (sym front) (sound_given placed main emissions last walk splittable few_given)
