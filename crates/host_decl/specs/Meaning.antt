-- What becomes of what a sound host file says.
use Rattle.std.specs.Prelude.{◌≡◌, ◌≢◌, ◌⊎◌, ℕ, ℤ, pos, ◌<◌, ◌≤◌, Bool, true, false}
use Rattle.std.specs.Prelude.{not, ◌&&◌, int_le, if◌then◌else◌}
use Rattle.std.specs.Prelude.{List, [], ◌∷◌, map, take, length, Some, slice_get, string_bytes, ⊤}
use Rattle.std.specs.List.{AllByRecursion, AllZip, list_any}
use Rattle.std.specs.Str.{bytes_eq}
use Rattle.js_base.specs.Named.{IsFirstRepeated}
use Rattle.js_base.specs.declared.limits.TheConstants.{HOSTS, LINK_COST}
use Rattle.principals.specs.ActsFor.{Declared}
use Rattle.principals.specs.Declaring.{AreDeclaredAs, Refuses}
use Rattle.principals.specs.declared.principals.PrincipalError.TheVariants as principal_error
use Rattle.label_lattice.specs.declared.label.Label.{Label}
use Rattle.host_decl.specs.declared.error.HostsError.{HostsError}
use Rattle.host_decl.specs.declared.error.HostsError.TheVariants as error
use Rattle.host_decl.specs.Draft.{HostDraftShape, LinkDraftShape, HostsDraftShape}
use Rattle.host_decl.specs.Hosts.{HostShape, HostsShape, AreHostNames}
use Rattle.host_decl.specs.LabelText.{IsLabelText}

-- ---- hosts

-- the host that the text of a host says
pub record IsHostOf (principals : Declared) (text : HostDraftShape) (host : HostShape) : Type 0 where
  pub name : host.name ≡ text.name
  pub label : IsLabelText principals text.label host.label
  pub key : host.key ≡ text.key
  pub path : host.path ≡ text.path

-- the text of the host's label is a label
abbrev pub HasLabel : Declared → HostDraftShape → Type 0
HasLabel principals text = (label : Label) × IsLabelText principals text.label label

-- the first host whose text of a label is not a label, and its name
pub record IsFirstWithoutLabel (principals : Declared) (hosts : List HostDraftShape) (place : ℕ) (name : List ℕ) :
    Type 0 where
  pub host : HostDraftShape
  pub here : slice_get hosts place ≡ Some host
  pub named : host.name ≡ name
  pub without : ¬ HasLabel principals host
  pub before : AllByRecursion (HasLabel principals) (take place hosts)

-- ---- links

-- the links are from one host to one other
abbrev pub have_same_ends : LinkDraftShape → LinkDraftShape → Bool
have_same_ends first second = bytes_eq first.from second.from && bytes_eq first.to second.to

-- from 1 to 1,000
abbrev pub is_cost : ℤ → Bool
is_cost cost = int_le (pos 1) cost && int_le cost (pos LINK_COST)

-- the link leads from a known host to another one
abbrev pub has_sound_ends : List (List ℕ) → LinkDraftShape → Bool
has_sound_ends names link =
    (not (bytes_eq link.from link.to) && list_any (bytes_eq link.from) names) && list_any (bytes_eq link.to) names

-- the same, and it costs 1 to 1,000, and no earlier link has its ends
abbrev pub is_sound_link : List (List ℕ) → List LinkDraftShape → LinkDraftShape → Bool
is_sound_link names earlier link =
    (has_sound_ends names link && is_cost link.cost) && not (list_any (have_same_ends link) earlier)

-- each of the first so many links is sound, after those before it
abbrev pub AreSoundUpTo : List (List ℕ) → List LinkDraftShape → ℕ → Type 0
AreSoundUpTo names links count =
    (place : ℕ) → place < count → (link : LinkDraftShape) → slice_get links place ≡ Some link
    → is_sound_link names (take place links) link ≡ true

abbrev pub AreSoundLinks : List (List ℕ) → List LinkDraftShape → Type 0
AreSoundLinks names links = AreSoundUpTo names links (length links)

-- the first link that is not sound
pub record IsFirstBadLink (names : List (List ℕ)) (links : List LinkDraftShape) (place : ℕ) : Type 0 where
  pub link : LinkDraftShape
  pub here : slice_get links place ≡ Some link
  pub bad : is_sound_link names (take place links) link ≡ false
  pub before : AreSoundUpTo names links place

-- what the link between these hosts costs, and 1 where there is none
abbrev pub link_cost : List LinkDraftShape → List ℕ → List ℕ → ℤ
link_cost [] from to = pos 1
link_cost (link ∷ links) from to =
    if bytes_eq link.from from && bytes_eq link.to to then link.cost else link_cost links from to

-- the cost from one host to another, or to itself
abbrev pub cost_between : List LinkDraftShape → List ℕ → List ℕ → ℤ
cost_between links from to = if bytes_eq from to then pos 0 else link_cost links from to

-- the costs from each host to each host
abbrev pub cost_table : List (List ℕ) → List LinkDraftShape → List (List ℤ)
cost_table names links = map (λ from. map (cost_between links from) names) names

-- ---- the stages of a refusal

-- the principals are refused
abbrev pub PrincipalsFail : List (List ℕ) → List (List ℕ × List ℕ) → HostsError → Type 0
PrincipalsFail names pairs error.OutOfMemory = ⊤
PrincipalsFail names pairs (error.Principals refusal) =
    Refuses names pairs refusal × (refusal ≢ principal_error.OutOfMemory)
PrincipalsFail names pairs _ = ⊥

-- there is no host, otherwise there are too many, otherwise a name stands twice
abbrev pub NamesFail : List (List ℕ) → HostsError → Type 0
NamesFail names error.OutOfMemory = ⊤
NamesFail names error.NoHost = names ≡ []
NamesFail names error.TooManyHosts = HOSTS < length names
NamesFail names (error.HostTwice name) = (length names ≤ HOSTS) × IsFirstRepeated names (string_bytes name)
NamesFail names _ = ⊥

-- a text is not a label
abbrev pub LabelsFail : Declared → List HostDraftShape → HostsError → Type 0
LabelsFail principals hosts error.OutOfMemory = ⊤
LabelsFail principals hosts (error.BadLabel host name) = IsFirstWithoutLabel principals hosts host.0 (string_bytes name)
LabelsFail principals hosts _ = ⊥

-- a link is bad
abbrev pub LinksFail : List (List ℕ) → List LinkDraftShape → HostsError → Type 0
LinksFail names links (error.BadLink number) = IsFirstBadLink names links number
LinksFail names links _ = ⊥

-- ---- the file

abbrev pub host_names : HostsDraftShape → List (List ℕ)
host_names file = map (λ host. host.name) file.hosts

-- the file means these hosts
pub record IsMeaningOf (file : HostsDraftShape) (hosts : HostsShape) : Type 0 where
  pub principals : AreDeclaredAs file.names file.pairs hosts.principals
  pub names : AreHostNames (host_names file)
  pub rows : AllZip (IsHostOf hosts.principals) file.hosts hosts.hosts
  pub links : AreSoundLinks (host_names file) file.links
  pub costs : map (map pos) hosts.costs ≡ cost_table (host_names file) file.links

-- Why the hosts and links of a file have no meaning where its principals are declared: the names of the hosts are
-- refused, otherwise a label is bad, otherwise a link.
abbrev pub HostsFail : Declared → HostsDraftShape → HostsError → Type 0
HostsFail principals file refusal =
    NamesFail (host_names file) refusal
    ⊎ (AreHostNames (host_names file)
    × (LabelsFail principals file.hosts refusal
    ⊎ (AllByRecursion (HasLabel principals) file.hosts × LinksFail (host_names file) file.links refusal)))

-- Why a file has no meaning: its principals are refused, otherwise its hosts. Memory may run out at any time.
abbrev pub RefusesFile : HostsDraftShape → HostsError → Type 0
RefusesFile file refusal =
    PrincipalsFail file.names file.pairs refusal
    ⊎ ((principals : Declared) × AreDeclaredAs file.names file.pairs principals × HostsFail principals file refusal)
