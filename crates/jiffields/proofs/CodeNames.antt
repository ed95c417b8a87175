-- Names of a code: those of its hosts are those of a host file.
use Rattle.std.proofs.Common.{◌≡◌, ◌∙◌, ℕ, List, [], ◌∷◌, length, map, refl, sym, ap, subst, inl, inr}
use Rattle.std.specs.List.{IsDistinct}
use Rattle.std.specs.Str.{bytes_eq}
use Rattle.js_base.specs.Named.{IsFirstRepeated}
use Rattle.host_code.specs.Code.{CodeHostShape, CodeShape}
use Rattle.host_decl.specs.Hosts.{AreHosts, HostShape, HostsShape, names_of}
use Rattle.journal_laws.specs.Plays.{HaveOwnNames}
use Rattle.front_end.specs.declared.stop.Stop.{Stop}
use Rattle.front_end.specs.Loading.{StopsWith}
use Rattle.front_end.specs.Stages.{stopped}
use Rattle.front_end.proofs.Stages.{stops_weaker}
use Rattle.node_starts.specs.NodeSources.{AreHostsOf, named_host}
use Rattle.jiffields.specs.Names.{NamesRead, field_names, two_fields, two_variables, variable_names}

host_names : (rows : List HostShape) →
    names_of rows ≡ map (λ (host : CodeHostShape). host.name) (map named_host rows)
host_names [] = refl
host_names (row ∷ rows) = ap (λ (names : List (List ℕ)). row.name ∷ names) (host_names rows)

pub own_names : (code : CodeShape) (hosts : HostsShape) → AreHosts hosts → AreHostsOf code hosts.hosts →
    IsDistinct bytes_eq (field_names code) → IsDistinct bytes_eq (variable_names code) → HaveOwnNames code
own_names code hosts are same fields variables = record {
  hosts = subst (IsDistinct bytes_eq)
      (host_names hosts.hosts ∙ ap (λ (all : List CodeHostShape). map (λ (host : CodeHostShape). host.name) all) same)
      are.names.distinct;
  fields = fields;
  variables = variables;
}

-- two fields, or two variables, have one name
pub fields_stop : (file name : List ℕ) (code : CodeShape) (names : List (List ℕ)) (why : Stop) →
    names ≡ field_names code → IsFirstRepeated names name →
    StopsWith (λ verdict. verdict ≡ two_fields file name) why →
    StopsWith (λ verdict. NamesRead file code (stopped verdict)) why
fields_stop file name code names why same first stops =
    stops_weaker (λ verdict. verdict ≡ two_fields file name) (λ verdict. NamesRead file code (stopped verdict)) why
    (λ verdict is. inl (name, subst (λ (all : List (List ℕ)). IsFirstRepeated all name) same first, is)) stops

pub variables_stop : (file name : List ℕ) (code : CodeShape) (names : List (List ℕ)) (why : Stop) →
    IsDistinct bytes_eq (field_names code) → names ≡ variable_names code → IsFirstRepeated names name →
    StopsWith (λ verdict. verdict ≡ two_variables file name) why →
    StopsWith (λ verdict. NamesRead file code (stopped verdict)) why
variables_stop file name code names why fields same first stops =
    stops_weaker (λ verdict. verdict ≡ two_variables file name) (λ verdict. NamesRead file code (stopped verdict)) why
    (λ verdict is. inr (name, fields, subst (λ (all : List (List ℕ)). IsFirstRepeated all name) same first, is)) stops
