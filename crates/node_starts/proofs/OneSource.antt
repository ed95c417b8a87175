-- What the files of a node hold gives one source and one host, or is refused for one cause.
use Rattle.std.proofs.Common.{◌≡◌, ◌≢◌, ◌⊎◌, inl, inr, ℕ, ◌<◌, ◌≤◌, List, length, map, take, get_or}
use Rattle.std.proofs.Common.{sym, ap, ap₂, ◌∙◌}
use Rattle.std.proofs.Common.{subst, arith, Err}
use Rattle.std.specs.Prelude.{All, slice_get}
use Rattle.std.proofs.lemmas.List.{get_or-take, length-take}
use Rattle.std.proofs.lemmas.Bool.{cases_eq, cases_lt}
use Rattle.std.proofs.lemmas.Option.{slice_get_within, slice_get-get_or}
use Rattle.js_base.specs.declared.ids.HostId.{HostId}
use Rattle.js_base.specs.declared.limits.TheConstants.{SPLIT_FILE_BYTES}
use Rattle.js_base.proofs.Options.{some_same}
use Rattle.host_code.specs.Code.{CodeShape}
use Rattle.host_decl.specs.Hosts.{HostsShape, HostShape}
use Rattle.event_text.specs.Settings.{form_of}
use Rattle.part_verify.specs.declared.errors.VerifyError.{VerifyError}
use Rattle.part_verify.specs.declared.errors.VerifyError.TheVariants as unsound
use Rattle.part_verify.specs.Refusing.{IsPartRefusedFor}
use Rattle.part_verify.specs.SoundPart.{IsSoundPart}
use Rattle.split_file.specs.declared.error.SplitError.{SplitError}
use Rattle.split_file.specs.File.{file_code}
use Rattle.front_end.specs.PlacedCode.{code_of}
use Rattle.front_end.specs.PlacedSources.{PlacedSources}
use Rattle.front_end.specs.Sources.{HostsRead}
use Rattle.front_end.specs.Stages.{given, stopped, Then}
use Rattle.front_end.specs.Starting.{StartingValues}
use Rattle.front_end.specs.Verdicts.{VerdictShape, too_long}
use Rattle.front_end.proofs.OneStart.{start_once}
use Rattle.front_end.proofs.Stages.{IsOne, give, one_then, stop_with}
use Rattle.node_starts.specs.NodeSources.{AreHostsOf, CodeRead, IsHostNamed, NodeSource, NodeSources, NodeStart}
use Rattle.node_starts.specs.NodeSources.{OfHost, PartChecked, PartRefused, PlacedNode}
use Rattle.node_starts.specs.NodeSources.{Valued, bad_code, no_host, other_hosts}
use Rattle.node_starts.specs.SourceNames.{SourceName, Program as from_program, Code as from_code}

-- what is known of programs, host files and parts
pub record OneSources : Type 0 where
  pub plans : (program hosts : List ℕ) → IsOne (PlacedSources program hosts)
  pub hosts : (bytes : List ℕ) → IsOne (HostsRead bytes)
  pub one_refusal : (code : CodeShape) (me : HostId) (first second : VerifyError) →
      first ≢ unsound.OutOfMemory → second ≢ unsound.OutOfMemory →
      IsPartRefusedFor code me first → IsPartRefusedFor code me second → first ≡ second
  pub never_both : (code : CodeShape) (me : HostId) (why : VerifyError) → IsSoundPart code me →
      IsPartRefusedFor code me why → why ≡ unsound.OutOfMemory

valued_once : (file start : List ℕ) (code : CodeShape) (hosts : HostsShape) → IsOne (Valued file start code hosts)
valued_once file start code hosts =
    one_then (StartingValues file start (map form_of code.fields))
    (λ values end. end ≡ given (record { code = code; hosts = hosts; values = values }))
    (start_once file start (map form_of code.fields)) (λ values was first second one two. one ∙ sym two)

-- ---- the code of a split file

abbrev Refused : (name bytes : List ℕ) → VerdictShape → Type 0
Refused name bytes verdict =
    ((SPLIT_FILE_BYTES < length bytes) × (verdict ≡ too_long name))
    ⊎ ((why : SplitError) × (length bytes ≤ SPLIT_FILE_BYTES) × (file_code bytes ≡ Err why)
    × (verdict ≡ bad_code name why))

-- bytes that are the file of a code are not refused
read_or_not : (name bytes : List ℕ) (code : CodeShape) (verdict : VerdictShape) → CodeRead name bytes (given code) →
    Refused name bytes verdict → ⊥
read_or_not name bytes code verdict one (inl more) = let many = more.0 in omega (arith, one.0)
read_or_not name bytes code verdict one (inr refused) = let no = sym one.1 ∙ refused.2 in cc

-- and they are for one cause
refused_once : (name bytes : List ℕ) (first second : VerdictShape) → Refused name bytes first →
    Refused name bytes second → first ≡ second
refused_once name bytes first second (inl one) (inl two) = one.1 ∙ sym two.1
refused_once name bytes first second (inl one) (inr two) =
    let many = one.0 in let few = two.1 in absurd (let never : ⊥ = omega arith in never)
refused_once name bytes first second (inr one) (inl two) =
    let many = two.0 in let few = one.1 in absurd (let never : ⊥ = omega arith in never)
refused_once name bytes first second (inr one) (inr two) =
    let both = sym one.2 ∙ two.2 in
    let same : one.0 ≡ two.0 = cc in one.3 ∙ ap (bad_code name) same ∙ sym two.3

code_read_once : (name bytes : List ℕ) → IsOne (CodeRead name bytes)
code_read_once name bytes (given first) (given second) one two =
    let both = sym one.1 ∙ two.1 in
    let same : first ≡ second = cc in ap (give {X = CodeShape}) same
code_read_once name bytes (given first) (stopped verdict) one two =
    absurd (read_or_not name bytes first verdict one two)
code_read_once name bytes (stopped verdict) (given second) one two =
    absurd (read_or_not name bytes second verdict two one)
code_read_once name bytes (stopped verdict) (stopped other) one two =
    ap (stop_with {X = CodeShape}) (refused_once name bytes verdict other one two)

-- ---- sources

pub source_once : OneSources → (name : SourceName) (source hosts file start : List ℕ) →
    IsOne (NodeSources name source hosts file start)
source_once laws (from_program name) source hosts file start =
    one_then (PlacedSources source hosts) (PlacedNode file start) (laws.plans source hosts)
    (λ placed was. valued_once file start (code_of placed) placed.source.file)
source_once laws (from_code name) source hosts file start =
    one_then (CodeRead name source) (λ code. Then (HostsRead hosts) (Valued file start code))
    (code_read_once name source)
    (λ code was. one_then (HostsRead hosts) (Valued file start code) (laws.hosts hosts)
    (λ hosts was. valued_once file start code hosts))

-- ---- the node's host

-- no row in front of the first of a name has it
not_before : (hosts : HostsShape) (name : List ℕ) (me other : HostId) → IsHostNamed hosts name me →
    IsHostNamed hosts name other → me.0 < other.0 → ⊥
not_before hosts name me other one two lt =
    let within : me.0 < length hosts.hosts = slice_get_within hosts.hosts me.0 one.0 one.1 in
    let row : get_or hosts.hosts me.0 one.0 ≡ one.0 =
    some_same (slice_get hosts.hosts me.0) (get_or hosts.hosts me.0 one.0) one.0
    (slice_get-get_or hosts.hosts me.0 one.0 within) one.1 in
    let front : me.0 < length (take other.0 hosts.hosts) = rw (length-take other.0 hosts.hosts) (omega arith) in
    two.3 me.0 one.0 front
    (ap (λ (it : HostShape). it.name) (get_or-take other.0 hosts.hosts me.0 one.0 lt ∙ row) ∙ one.2)

same_host : (hosts : HostsShape) (name : List ℕ) (me other : HostId) → IsHostNamed hosts name me →
    IsHostNamed hosts name other → me ≡ other
same_host hosts name me other one two =
    let same : me.0 ≡ other.0 = elim (cases_lt me.0 other.0) [
      | inl lt ↦ absurd (not_before hosts name me other one two lt)
      | inr not ↦ elim (cases_eq me.0 other.0) [
        | inl is ↦ is
        | inr other_is ↦ absurd (not_before hosts name other me two one (omega arith))
      ]
    ] in
    ap (λ (n : ℕ). record { 0 = n }) same

-- a host that is found is not missing
found_or_none : (hosts : HostsShape) (name : List ℕ) (me : HostId) → IsHostNamed hosts name me →
    All (λ row. row.name ≢ name) hosts.hosts → ⊥
found_or_none hosts name me named none =
    let within : me.0 < length hosts.hosts = slice_get_within hosts.hosts me.0 named.0 named.1 in
    let row : get_or hosts.hosts me.0 named.0 ≡ named.0 =
    some_same (slice_get hosts.hosts me.0) (get_or hosts.hosts me.0 named.0) named.0
    (slice_get-get_or hosts.hosts me.0 named.0 within) named.1 in
    none me.0 named.0 within (ap (λ (it : HostShape). it.name) row ∙ named.2)

abbrev Missing : (name code hosts : List ℕ) → NodeSource → VerdictShape → Type 0
Missing name code hosts source verdict =
    (All (λ row. row.name ≢ name) source.hosts.hosts × (verdict ≡ no_host name))
    ⊎ ((me : HostId) × IsHostNamed source.hosts name me × (¬ AreHostsOf source.code source.hosts.hosts)
    × (verdict ≡ other_hosts code hosts))

-- and hosts that are alike are not unlike
found_or_not : (name code hosts : List ℕ) (source : NodeSource) (node : NodeStart) (verdict : VerdictShape) →
    OfHost name code hosts source (given node) → Missing name code hosts source verdict → ⊥
found_or_not name code hosts source node verdict one (inl none) =
    found_or_none source.hosts name node.me one.1 none.0
found_or_not name code hosts source node verdict one (inr unlike) = unlike.2 one.2

missing_once : (name code hosts : List ℕ) (source : NodeSource) (first second : VerdictShape) →
    Missing name code hosts source first → Missing name code hosts source second → first ≡ second
missing_once name code hosts source first second (inl one) (inl two) = one.1 ∙ sym two.1
missing_once name code hosts source first second (inl one) (inr two) =
    absurd (found_or_none source.hosts name two.0 two.1 one.0)
missing_once name code hosts source first second (inr one) (inl two) =
    absurd (found_or_none source.hosts name one.0 one.1 two.0)
missing_once name code hosts source first second (inr one) (inr two) = one.3 ∙ sym two.3

pub host_once : (name code hosts : List ℕ) (source : NodeSource) → IsOne (OfHost name code hosts source)
host_once name code hosts source (given first) (given second) one two =
    let me : first.me ≡ second.me = same_host source.hosts name first.me second.me one.1 two.1 in
    ap (give {X = NodeStart})
    (ap₂ (λ (it : NodeSource) (host : HostId). record { source = it; me = host }) (one.0 ∙ sym two.0) me)
host_once name code hosts source (given first) (stopped verdict) one two =
    absurd (found_or_not name code hosts source first verdict one two)
host_once name code hosts source (stopped verdict) (given second) one two =
    absurd (found_or_not name code hosts source second verdict two one)
host_once name code hosts source (stopped verdict) (stopped other) one two =
    ap (stop_with {X = NodeStart}) (missing_once name code hosts source verdict other one two)

-- ---- the node's part

-- nothing is due for want of memory
not_memory : (file : List ℕ) (why : VerifyError) (verdict : VerdictShape) → PartRefused file why verdict →
    why ≢ unsound.OutOfMemory
not_memory file unsound.OutOfMemory verdict refused = absurd refused
not_memory file (unsound.WeakEntry entry place) verdict refused = λ same. cc
not_memory file (unsound.Reveals place) verdict refused = λ same. cc

told_alike : (file : List ℕ) (why : VerifyError) (first second : VerdictShape) → PartRefused file why first →
    PartRefused file why second → first ≡ second
told_alike file unsound.OutOfMemory first second one two = absurd one
told_alike file (unsound.WeakEntry entry place) first second one two = one ∙ sym two
told_alike file (unsound.Reveals place) first second one two = one ∙ sym two

pub part_once : OneSources → (name : SourceName) (node : NodeStart) → IsOne (PartChecked name node)
part_once laws (from_program name) node first second one two = one ∙ sym two
part_once laws (from_code name) node (given first) (given second) one two =
    ap (give {X = NodeStart}) (one.0 ∙ sym two.0)
part_once laws (from_code name) node (given first) (stopped verdict) one two =
    absurd (not_memory name two.0 verdict two.2 (laws.never_both node.source.code node.me two.0 one.1 two.1))
part_once laws (from_code name) node (stopped verdict) (given second) one two =
    absurd (not_memory name one.0 verdict one.2 (laws.never_both node.source.code node.me one.0 two.1 one.1))
part_once laws (from_code name) node (stopped verdict) (stopped other) one two =
    let same : one.0 ≡ two.0 =
    laws.one_refusal node.source.code node.me one.0 two.0 (not_memory name one.0 verdict one.2)
    (not_memory name two.0 other two.2) one.1 two.1 in
    ap (stop_with {X = NodeStart}) (told_alike name two.0 verdict other
    (subst (λ (why : VerifyError). PartRefused name why verdict) same one.2) two.2)
