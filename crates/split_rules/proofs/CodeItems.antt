-- The fields, the variables, the sites and the entries of a code, by what they are made of.
use Rattle.std.proofs.Common.{◌≡◌, ◌∙◌, ℕ, suc, ◌<◌, ◌⊎◌, inl, inr, List, [], ◌∷◌, ◌++◌}
use Rattle.std.proofs.Common.{length, slice_get, All, refl, ap, sym, subst, arith, codes, option_map}
use Rattle.std.proofs.Common.{append_assoc}
use Rattle.std.specs.Prelude.{unwrap_or}
use Rattle.std.specs.List.{flat_map}
use Rattle.std.proofs.lemmas.List.Elements.{All-append, All-nil, All-cons}
use Rattle.std.proofs.lemmas.Option.{slice_get_cases}
use Rattle.js_base.specs.Name.{IsName}
use Rattle.js_base.specs.declared.ids.HostId.{HostId}
use Rattle.label_lattice.specs.declared.label.Label.{Label}
use Rattle.jif_tree.specs.Trees.{BlockTree, done, set_local, set_field, set_element, branch, loop, call, give_back}
use Rattle.jif_tree.specs.Trees.{FieldTree, VarTree, MethodTree, ProgramTree}
use Rattle.host_code.specs.declared.code.Entry.{Entry}
use Rattle.host_code.specs.Code.{CodeFieldShape}
use Rattle.host_code.specs.Sound.{IsVariableName}
use Rattle.need_labels.specs.Plan.{PlanShape, first_host, statement_host, field_host}
use Rattle.split_rules.specs.Emissions.{Emission, NamedEntry}
use Rattle.split_rules.specs.SplitCode.{placed_entries, placed_code_fields, site_hosts, method_name}
use Rattle.split_rules.specs.SplitCode.{label_place, emitted_on, before_entry}
use Rattle.split_rules.specs.Splittable.{StandsAmong}
use Rattle.jif_tree.specs.Named.{IsNameInText, IsNamedVariable}
use Rattle.split_rules.proofs.NumberedLists.{numbered, at_all}

-- ---- hosts

pub known_host : (count : ℕ) (hosts : List HostId) (place : ℕ) → All (λ host. host.0 < count) hosts → 0 < count →
    (unwrap_or (slice_get hosts place) first_host).0 < count
known_host count hosts place all some = elim ((slice_get_cases hosts place).1) [
  | inl found ↦ subst (λ there. (unwrap_or there first_host).0 < count) (sym found.2)
      (at_all (λ host. host.0 < count) hosts place found.0 all found.2)
  | inr past ↦ subst (λ there. (unwrap_or there first_host).0 < count) (sym past.1) some
]

pub statement_known : (count : ℕ) (plan : PlanShape) → StandsAmong count plan → 0 < count →
    (id : _) → (statement_host plan id).0 < count
statement_known count plan among some id = known_host count plan.statements id.0 among.statements some

pub sites_known : (count : ℕ) (plan : PlanShape) → StandsAmong count plan → 0 < count → (block : BlockTree) →
    All (λ host. host.0 < count) (site_hosts plan block)
sites_known count plan among some done = All-nil (λ host. host.0 < count)
sites_known count plan among some (set_local heading variable value rest) = sites_known count plan among some rest
sites_known count plan among some (set_field heading field value rest) = sites_known count plan among some rest
sites_known count plan among some (set_element heading field index value rest) =
    sites_known count plan among some rest
sites_known count plan among some (branch heading guard first second rest) =
    All-append (λ host. host.0 < count) (site_hosts plan first ++ site_hosts plan second) (site_hosts plan rest)
    (All-append (λ host. host.0 < count) (site_hosts plan first) (site_hosts plan second)
    (sites_known count plan among some first) (sites_known count plan among some second))
    (sites_known count plan among some rest)
sites_known count plan among some (loop heading guard body rest) =
    All-append (λ host. host.0 < count) (site_hosts plan body) (site_hosts plan rest)
    (sites_known count plan among some body) (sites_known count plan among some rest)
sites_known count plan among some (call heading site method arguments into rest) =
    All-cons (λ host. host.0 < count) (statement_host plan heading.id) (site_hosts plan rest)
    (statement_known count plan among some heading.id) (sites_known count plan among some rest)
sites_known count plan among some (give_back heading value rest) = sites_known count plan among some rest

pub all_sites_known : (count : ℕ) (plan : PlanShape) → StandsAmong count plan → 0 < count →
    (methods : List MethodTree) →
    All (λ host. host.0 < count) (flat_map (λ method. site_hosts plan method.body) methods)
all_sites_known count plan among some [] = All-nil (λ host. host.0 < count)
all_sites_known count plan among some (method ∷ methods) =
    All-append (λ host. host.0 < count) (site_hosts plan method.body)
    (flat_map (λ method. site_hosts plan method.body) methods)
    (sites_known count plan among some method.body) (all_sites_known count plan among some methods)

-- ---- fields, variables and entries

abbrev pub code_field : List Label → PlanShape → ℕ → FieldTree → CodeFieldShape
code_field labels plan number field = record {
  name = field.name;
  label = label_place 0 field.label labels;
  size = field.size;
  array = field.array;
  first = field.first;
  host = field_host plan (record { 0 = number });
}

pub fields_numbered : (labels : List Label) (plan : PlanShape) (number : ℕ) (fields : List FieldTree) →
    placed_code_fields labels plan number fields ≡ numbered (code_field labels plan) number fields
fields_numbered labels plan number [] = refl
fields_numbered labels plan number (field ∷ fields) =
    ap (λ others. code_field labels plan number field ∷ others) (fields_numbered labels plan (suc number) fields)

abbrev pub code_entry : List Label → List Emission → ℕ → NamedEntry → Entry
code_entry labels emissions number named = record {
  host = named.host;
  at = length (emitted_on named.host (before_entry number emissions));
  label = label_place 0 named.label labels;
  need = named.need;
}

pub entries_numbered : (labels : List Label) (emissions : List Emission) (number : ℕ) (entries : List NamedEntry) →
    placed_entries labels emissions number entries ≡ numbered (code_entry labels emissions) number entries
entries_numbered labels emissions number [] = refl
entries_numbered labels emissions number (named ∷ entries) =
    ap (λ others. code_entry labels emissions number named ∷ others)
    (entries_numbered labels emissions (suc number) entries)

-- what the text of a program can name a variable is a name
name_there : (name : List ℕ) → IsNameInText name ⊎ (name ≡ codes "return") → IsName name ⊎ (name ≡ codes "return")
name_there name (inl there) = inl there.name
name_there name (inr result) = inr result

pub variable_name : (program : ProgramTree) (variable : VarTree) →
    All (λ method. IsNameInText method.name) program.methods → IsNamedVariable program variable →
    IsVariableName (method_name program variable.method ++ codes "." ++ variable.name)
variable_name program variable methods named = elim ((slice_get_cases program.methods variable.method.0).1) [
  | inl found ↦
      let is : method_name program variable.method ≡ found.0.name =
      ap (λ there. unwrap_or (option_map (λ tree. tree.name) there) []) found.2 in (
        found.0.name,
        variable.name,
        (at_all (λ method. IsNameInText method.name) program.methods variable.method.0 found.0 methods found.2).name,
        name_there variable.name named.name,
        ap (λ name. name ++ codes "." ++ variable.name) is
            ∙ append_assoc found.0.name (codes ".") variable.name,
      )
  | inr past ↦ absurd (let over = past.0 in let within = named.method in omega arith)
]
