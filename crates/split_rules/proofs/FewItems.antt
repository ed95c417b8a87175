-- No list of the code of a split program is so long that its items have no number of 32 bits.
use Rattle.std.proofs.Common.{◌≡◌, ◌∙◌, ℕ, zero, suc, ◌+◌, ◌*◌, ◌<◌, ◌≤◌, ◌⊎◌, inl, inr, Bool, true, false, cond, List}
use Rattle.std.proofs.Common.{[], ◌∷◌, ◌++◌, map, filter, length, refl, ap, sym, subst, arith, length-append, eq-eqb}
use Rattle.std.proofs.Common.{true≢false, eqb, codes}
use Rattle.std.specs.Prelude.{Option, Some, None, All, not, slice_get, unwrap_or, if◌then◌else◌}
use Rattle.std.specs.List.{AllByRecursion, flat_map, list_any, zip}
use Rattle.std.specs.Option.{option_map}
use Rattle.std.proofs.lemmas.Bool.{cases_eq}
use Rattle.std.proofs.lemmas.List.{length-map}
use Rattle.std.proofs.lemmas.List.Filters.{length-filter_both}
use Rattle.std.proofs.lemmas.Option.{slice_get_cases}
use Rattle.js_base.specs.declared.ids.MethodId.{MethodId}
use Rattle.js_base.specs.declared.ids.VarId.{VarId}
use Rattle.js_base.specs.declared.limits.TheConstants.{PROGRAM_BYTES}
use Rattle.label_lattice.specs.declared.label.Label.{Label}
use Rattle.host_decl.specs.Hosts.{HostShape, HostsShape}
use Rattle.jif_tree.specs.Trees.{BlockTree, done, set_local, set_field, set_element, branch, loop, call, give_back}
use Rattle.jif_tree.specs.Trees.{FieldTree, VarTree, MethodTree, ProgramTree}
use Rattle.jif_tree.specs.LabelRules.{method_at}
use Rattle.jif_tree.specs.Limits.{IsWithinLimits}
use Rattle.jif_tree.specs.Named.{IsNameInText, IsNamedVariable, AreNamed}
use Rattle.jif_tree.specs.Numbering.{block_statements}
use Rattle.jif_tree.specs.Sizes.{results_in}
use Rattle.host_code.specs.declared.code.TheConstants.{MOST_ITEMS}
use Rattle.host_code.specs.Code.{CodeHostShape, CodeFieldShape, CodeVariableShape}
use Rattle.need_labels.specs.Plan.{PlanShape}
use Rattle.msg_cost.specs.Moves.{PlannedShape}
use Rattle.split_rules.specs.Placed.{PlacedProgram, planned_from}
use Rattle.split_rules.specs.Emissions.{Emission, instruction, entry, stands, lands, counts_after}
use Rattle.split_rules.specs.SplitCode.{same_label, with_labels, label_of_emission, code_labels, site_hosts}
use Rattle.split_rules.specs.SplitCode.{placed_code_fields, method_name, code_variable, split_code}
use Rattle.split_rules.specs.Splittable.{IsSplittable}
use Rattle.split_rules.specs.Walk.{halt_entries, method_entry, methods_emissions, program_emissions}
use Rattle.split_rules.specs.WalkStart.{front_emissions}
use Rattle.split_rules.proofs.AllowedTyping.{each_there}
use Rattle.split_rules.proofs.CodeItems.{code_field, fields_numbered}
use Rattle.split_rules.proofs.Budgets.{methods_lead}
use Rattle.split_rules.proofs.FewEmissions.{room}
use Rattle.split_rules.proofs.NumberedLists.{length-numbered, made, all_at, at_all, length-zip, zip_there}
use Rattle.split_rules.proofs.PacedSplit.{few_params}
use Rattle.split_rules.proofs.SoundCode.{HasFew}
use Rattle.split_rules.proofs.SoundInstructions.{mapped}

-- ---- labels

few_labels : (there needed : List Label) → length (with_labels there needed) ≤ length there + length needed
few_labels there [] = omega arith
few_labels there (label ∷ needed) =
    by (list_any (same_label label) there) (few_labels there needed) (few_labels (there ++ label ∷ []) needed)
  where
    by : (b : Bool) → length (with_labels there needed) ≤ length there + length needed →
        length (with_labels (there ++ label ∷ []) needed) ≤ length (there ++ label ∷ []) + length needed →
        length (if b then with_labels there needed else with_labels (there ++ label ∷ []) needed)
        ≤ length there + length (label ∷ needed)
    by true there_already one_more = omega arith
    by false there_already one_more = let long = length-append there (label ∷ []) in omega arith

few_needed : (emissions : List Emission) → length (flat_map label_of_emission emissions) ≤ length emissions
few_needed [] = omega arith
few_needed (instruction one ∷ others) = let so = few_needed others in omega arith
few_needed (entry named ∷ others) = let so = few_needed others in omega arith
few_needed (stands host number ∷ others) = let so = few_needed others in omega arith
few_needed (lands host number ∷ others) = let so = few_needed others in omega arith

-- ---- variables, of which each method has few

filter_less : {X : Type 0} (p q : X → Bool) (xs : List X) → length (filter p (filter q xs)) ≤ length (filter p xs)
filter_less p q [] = omega arith
filter_less {X} p q (x ∷ xs) = by (filter_less p q xs) (q x)
  where
    kept : length (filter p (filter q xs)) ≤ length (filter p xs) → (c : Bool) →
        length (cond c (x ∷ filter p (filter q xs)) (filter p (filter q xs)))
        ≤ length (cond c (x ∷ filter p xs) (filter p xs))
    kept less true = omega arith
    kept less false = less

    left : length (filter p (filter q xs)) ≤ length (filter p xs) → (c : Bool) →
        length (filter p (filter q xs)) ≤ length (cond c (x ∷ filter p xs) (filter p xs))
    left less true = omega arith
    left less false = less

    by : length (filter p (filter q xs)) ≤ length (filter p xs) → (b : Bool) →
        length (filter p (cond b (x ∷ filter q xs) (filter q xs))) ≤ length (filter p (x ∷ xs))
    by less true = kept less (p x)
    by less false = left less (p x)

-- the keys that are left are below the greatest
others_below : {X : Type 0} (key : X → ℕ) (n : ℕ) (xs : List X) → AllByRecursion (λ x. key x < suc n) xs →
    AllByRecursion (λ x. key x < n) (filter (λ x. not (eqb (key x) n)) xs)
others_below key n [] below = tt
others_below {X} key n (x ∷ xs) below = by (eqb (key x) n) refl (others_below key n xs below.1)
  where
    smaller : (eqb (key x) n ≡ false) → key x < n
    smaller apart = elim (cases_eq (key x) n) [
      | inl same ↦ absurd (true≢false (sym (eq-eqb (key x) n same) ∙ apart))
      | inr other ↦ let here = below.0 in omega arith
    ]

    by : (b : Bool) → eqb (key x) n ≡ b →
        AllByRecursion (λ y. key y < n) (filter (λ y. not (eqb (key y) n)) xs) →
        AllByRecursion (λ y. key y < n) (cond (not b) (x ∷ filter (λ y. not (eqb (key y) n)) xs)
        (filter (λ y. not (eqb (key y) n)) xs))
    by true is others = others
    by false is others = (smaller is, others)

-- items of so many keys, of each of which there are few
few_keyed : {X : Type 0} (key : X → ℕ) (n : ℕ) (xs : List X) → AllByRecursion (λ x. key x < n) xs →
    ((k : ℕ) → k < n → length (filter (λ x. eqb (key x) k) xs) ≤ 257) → length xs ≤ 257 * n
few_keyed key zero [] below few = omega arith
few_keyed key zero (x ∷ xs) below few = absurd (let no = below.0 in omega arith)
few_keyed {X} key (suc n) xs below few =
    let others = filter (λ (x : X). not (eqb (key x) n)) xs in
    let parts = length-filter_both (λ (x : X). eqb (key x) n) (λ (x : X). not (eqb (key x) n)) (λ x. refl) xs in
    let one = few n (omega arith) in
    let rest = few_keyed key n others (others_below key n xs below) (λ k less.
    let most = few k (omega (arith, less)) in
    let fewer = filter_less (λ (x : X). eqb (key x) k) (λ (x : X). not (eqb (key x) n)) xs in
    omega (arith, most, fewer)) in
    omega arith

one_result : (result : Option VarId) → results_in result ≤ 1
one_result None = omega arith
one_result (Some result) = omega arith

few_variables : (program : ProgramTree) → AreNamed program → IsWithinLimits program →
    length program.vars ≤ 257 * length program.methods
few_variables program named within =
    few_keyed (λ (variable : VarTree). variable.method.0) (length program.methods) program.vars
    (each_there (λ (variable : VarTree). variable.method.0 < length program.methods) program.vars
    (λ place variable is. (at_all (IsNamedVariable program) program.vars place variable named.variables is).method))
    (λ number less. elim ((slice_get_cases program.methods number).1) [
      | inl found ↦
          let few = within.variables number found.0 found.2 in
          let one = one_result found.0.result in
          omega (arith, few, one)
      | inr past ↦ absurd (let over = past.0 in omega (arith, over, less))
    ])

-- ---- sites

few_in_block : (plan : PlanShape) (block : BlockTree) → length (site_hosts plan block) ≤ length (block_statements block)
few_in_block plan done = omega arith
few_in_block plan (set_local heading x value rest) = let so = few_in_block plan rest in omega arith
few_in_block plan (set_field heading field value rest) = let so = few_in_block plan rest in omega arith
few_in_block plan (set_element heading field index value rest) = let so = few_in_block plan rest in omega arith
few_in_block plan (branch heading guard first second rest) =
    let one = few_in_block plan first in
    let two = few_in_block plan second in
    let so = few_in_block plan rest in
    let hosts = length-append (site_hosts plan first) (site_hosts plan second) in
    let all_hosts = length-append (site_hosts plan first ++ site_hosts plan second) (site_hosts plan rest) in
    let own = length-append (block_statements first) (block_statements second) in
    let all_own = length-append (block_statements first ++ block_statements second) (block_statements rest) in
    omega arith
few_in_block plan (loop heading guard inner rest) =
    let one = few_in_block plan inner in
    let so = few_in_block plan rest in
    let hosts = length-append (site_hosts plan inner) (site_hosts plan rest) in
    let own = length-append (block_statements inner) (block_statements rest) in
    omega arith
few_in_block plan (call heading site method arguments into rest) = let so = few_in_block plan rest in omega arith
few_in_block plan (give_back heading value rest) = let so = few_in_block plan rest in omega arith

few_sites : (plan : PlanShape) (methods : List MethodTree) →
    length (flat_map (λ method. site_hosts plan method.body) methods)
    ≤ length (flat_map (λ method. method.head.0 ∷ block_statements method.body) methods)
few_sites plan [] = omega arith
few_sites plan (method ∷ methods) =
    let one = few_in_block plan method.body in
    let so = few_sites plan methods in
    let hosts = length-append (site_hosts plan method.body)
    (flat_map (λ (tree : MethodTree). site_hosts plan tree.body) methods) in
    let own = length-append (method.head.0 ∷ block_statements method.body)
    (flat_map (λ (tree : MethodTree). tree.head.0 ∷ block_statements tree.body) methods) in
    omega arith

-- ---- names

short_hosts : (hosts : HostsShape) → All (λ host. length host.name ≤ MOST_ITEMS) hosts.hosts →
    All {X = CodeHostShape} (λ host. length host.name ≤ MOST_ITEMS)
    (map (λ host. record { name = host.name; label = host.label }) hosts.hosts)
short_hosts hosts short =
    let shown : HostShape → CodeHostShape = λ host. record { name = host.name; label = host.label } in
    all_at (λ (host : CodeHostShape). length host.name ≤ MOST_ITEMS) (map shown hosts.hosts) (λ place host there.
    let so = mapped shown hosts.hosts place host there in
    let brief = at_all (λ (one : HostShape). length one.name ≤ MOST_ITEMS) hosts.hosts place so.0 short so.1 in
    subst (λ (one : CodeHostShape). length one.name ≤ MOST_ITEMS) so.2 brief)

short_fields : (labels : List Label) (plan : PlanShape) (fields : List FieldTree) →
    All (λ field. IsNameInText field.name) fields →
    All (λ field. length field.name ≤ MOST_ITEMS) (placed_code_fields labels plan 0 fields)
short_fields labels plan fields named =
    all_at (λ (field : CodeFieldShape). length field.name ≤ MOST_ITEMS) (placed_code_fields labels plan 0 fields)
    (λ place field there.
    let so = made (code_field labels plan) fields place field
    (ap (λ list. slice_get list place) (sym (fields_numbered labels plan 0 fields)) ∙ there) in
    let short = (at_all (λ (one : FieldTree). IsNameInText one.name) fields place so.of named so.there).short in
    let brief : length so.of.name ≤ MOST_ITEMS = omega (arith, short) in
    subst (λ (one : CodeFieldShape). length one.name ≤ MOST_ITEMS) (sym so.is) brief)

short_method : (program : ProgramTree) (method : MethodId) → All (λ tree. IsNameInText tree.name) program.methods →
    length (method_name program method) ≤ PROGRAM_BYTES
short_method program method named = by (slice_get program.methods method.0) refl
  where
    name_of : Option MethodTree → List ℕ
    name_of found = unwrap_or (option_map (λ tree. tree.name) found) []

    by : (found : Option MethodTree) → slice_get program.methods method.0 ≡ found →
        length (name_of found) ≤ PROGRAM_BYTES
    by None is = omega arith
    by (Some tree) is =
        (at_all (λ (one : MethodTree). IsNameInText one.name) program.methods method.0 tree named is).short

short_own : (name : List ℕ) → IsNameInText name ⊎ (name ≡ codes "return") → length name ≤ PROGRAM_BYTES
short_own name (inl there) = there.short
short_own name (inr result) = rw result (omega arith)

short_variables : (program : ProgramTree) (labels : List Label) (var_labels : List Label) → AreNamed program →
    All (λ variable. length variable.name ≤ MOST_ITEMS)
    (map (code_variable program labels) (zip program.vars var_labels))
short_variables program labels var_labels named =
    let pairs = zip program.vars var_labels in
    all_at (λ (variable : CodeVariableShape). length variable.name ≤ MOST_ITEMS)
    (map (code_variable program labels) pairs) (λ place variable there.
    let so = mapped (code_variable program labels) pairs place variable there in
    let own = zip_there program.vars var_labels place so.0 so.1 in
    let one = at_all (IsNamedVariable program) program.vars place so.0.0 named.variables own.0 in
    let method = method_name program so.0.0.method in
    let first = short_method program so.0.0.method named.methods in
    let second = short_own so.0.0.name one.name in
    let front = length-append method (codes ".") in
    let whole = length-append (method ++ codes ".") so.0.0.name in
    let dot : length (codes ".") ≡ 1 = refl in
    let brief : length (method ++ codes "." ++ so.0.0.name) ≤ MOST_ITEMS =
    omega (arith, first, second, front, whole, dot) in
    subst (λ (one : CodeVariableShape). length one.name ≤ MOST_ITEMS) so.2 brief)

-- ---- the whole

-- what is given before the bodies of the methods
few_first : (planned : PlannedShape) (main : Option MethodTree) → length (halt_entries planned main) ≤ 2
few_first planned None = omega arith
few_first planned (Some main) = omega arith

few_emissions : (placed : PlacedProgram) → IsSplittable placed →
    length (program_emissions placed) ≤ 13000000
few_emissions placed splittable =
    let planned = planned_from placed in
    let program = placed.labelled.program in
    let within = splittable.within in
    let halts = halt_entries planned (method_at program program.main) in
    let entries = map (method_entry planned) program.methods in
    let front = front_emissions placed.labelled planned in
    let counts = counts_after (record { entries = 0; branches = 0 }) front in
    let bodies = methods_emissions placed.hosts.principals placed.labelled planned counts 0 program.methods in
    let host_names = length-map placed.hosts.hosts (λ (host : HostShape). host.name) in
    let hosts_few = splittable.are_hosts.names.few in
    let few = (methods_lead room placed.hosts.principals placed.labelled planned
    (omega (arith, host_names, hosts_few)) (few_params program within.params) 0 program.methods
    splittable.numbered.methods within.nodes counts).few in
    let first = few_first planned (method_at program program.main) in
    let as_many = length-map program.methods (method_entry planned) in
    let fronts = length-append halts entries in
    let whole = length-append front bodies in
    let methods = within.methods in
    let statements = within.statements in
    omega (arith, few, first, as_many, fronts, whole, methods, statements)

pub split_is_few : (placed : PlacedProgram) → IsSplittable placed →
    HasFew (split_code placed)
    (program_emissions placed)
split_is_few placed splittable =
    let planned = planned_from placed in
    let program = placed.labelled.program in
    let within = splittable.within in
    let emissions = program_emissions placed in
    let labels = code_labels placed.labelled emissions in
    let few = few_emissions placed splittable in
    let fields = within.fields in
    let methods = within.methods in
    let statements = within.statements in
    let variables = few_variables program splittable.named within in
    let own = map (λ (field : FieldTree). field.label) program.fields in
    let given = flat_map label_of_emission emissions in
    let named = few_labels [] (own ++ placed.labelled.var_labels ++ given) in
    let own_many = length-map program.fields (λ (field : FieldTree). field.label) in
    let before = length-append own placed.labelled.var_labels in
    let all = length-append (own ++ placed.labelled.var_labels) given in
    let needed = few_needed emissions in
    let as_many = splittable.var_labels in
    let long_fields = ap length (fields_numbered labels placed.plan 0 program.fields)
    ∙ length-numbered (code_field labels placed.plan) 0 program.fields in
    let long_variables = length-map (zip program.vars placed.labelled.var_labels) (code_variable program labels)
    ∙ length-zip program.vars placed.labelled.var_labels as_many in
    let sites = few_sites placed.plan program.methods in
    record {
      few_emissions = omega (arith, few);
      host_names = short_hosts placed.hosts splittable.host_names;
      labels = omega (arith, few, fields, methods, variables, named, own_many, before, all, needed, as_many);
      fields = omega (arith, long_fields, fields);
      field_names = short_fields labels placed.plan program.fields splittable.named.fields;
      variables = omega (arith, long_variables, variables, methods);
      variable_names = short_variables program labels placed.labelled.var_labels splittable.named;
      sites = omega (arith, sites, statements);
    }
