-- The hosts of a host file, as contracts see them. A text is the list of its bytes.
--
-- Names of hosts are as short as their file. Nothing looks at the length of a name. That no name is longer than the
-- largest host file is a law (`short_names` of `host_file_laws`), proved over the kit's definitions of TOML, and what
-- splitting asks of their lengths rests on it.
use Rattle.std.specs.Prelude.{◌≡◌, ◌≢◌, ℕ, ◌<◌, ◌≤◌, List, [], All, length, map, slice_index}
use Rattle.std.specs.Prelude.{slice_index_or}
use Rattle.std.specs.List.{IsDistinct}
use Rattle.std.specs.Str.{bytes_eq}
use Rattle.js_base.specs.Name.{IsName}
use Rattle.js_base.specs.declared.limits.TheConstants.{HOSTS, LINK_COST}
use Rattle.principals.specs.ActsFor.{Declared, IsDeclared}
use Rattle.host_decl.specs.declared.key.TheConstants.{KEY_BYTES}
use Rattle.label_lattice.specs.declared.label.Label.{Label}
use Rattle.label_lattice.specs.Over.{IsLabelOver}

-- a host: its name, the most that it may see and who trusts it, the 32 bytes of its key, and the path of its socket
pub record HostShape : Type 0 where
  pub name : List ℕ
  pub label : Label
  pub key : List ℕ
  pub path : List ℕ

-- the declared principals, the hosts in order, and for each host a row of costs, one for each host
pub record HostsShape : Type 0 where
  pub principals : Declared
  pub hosts : List HostShape
  pub costs : List (List ℕ)

abbrev pub names_of : List HostShape → List (List ℕ)
names_of hosts = map (λ host. host.name) hosts

-- the names of hosts that stand together
pub record AreHostNames (names : List (List ℕ)) : Type 0 where
  pub some : 0 < length names
  pub few : length names ≤ HOSTS
  pub distinct : IsDistinct bytes_eq names

-- the cost of the link from the first host to the second
abbrev pub cost_at : List (List ℕ) → ℕ → ℕ → ℕ
cost_at costs from to = slice_index (slice_index_or costs from []) to

-- a table of costs for so many hosts: nothing from a host to itself, otherwise 1 to 1,000
pub record AreCosts (count : ℕ) (costs : List (List ℕ)) : Type 0 where
  pub rows : length costs ≡ count
  pub columns : All (λ row. length row ≡ count) costs
  pub own : (host : ℕ) → host < count → cost_at costs host host ≡ 0
  pub others : (from to : ℕ) → from < count → to < count → from ≢ to →
      (1 ≤ cost_at costs from to) × (cost_at costs from to ≤ LINK_COST)

-- what the hosts of every host file keep
pub record AreHosts (hosts : HostsShape) : Type 0 where
  pub declared : IsDeclared hosts.principals
  pub names : AreHostNames (names_of hosts.hosts)
  pub named : All IsName (names_of hosts.hosts)
  pub labels : All (λ host. IsLabelOver hosts.principals host.label) hosts.hosts
  pub keys : All (λ host. length host.key ≡ KEY_BYTES) hosts.hosts
  pub table : AreCosts (length hosts.hosts) hosts.costs
