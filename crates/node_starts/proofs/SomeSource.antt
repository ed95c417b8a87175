-- Whatever the files of a node hold, a source and a host are due, or a refusal.
use Rattle.std.proofs.Common.{◌≡◌, ◌≢◌, ◌⊎◌, ℕ, suc, ◌≤◌, List, [], ◌∷◌, length, map, take, Some, Ok, Err}
use Rattle.std.proofs.Common.{Result, inl, inr, refl, ap, ap₂, arith}
use Rattle.std.specs.Prelude.{All, slice_get}
use Rattle.std.proofs.lemmas.Bool.{cases_eq, cases_lt}
use Rattle.std.proofs.lemmas.List.Elements.{All-cons, All-nil}
use Rattle.js_base.specs.declared.limits.TheConstants.{SPLIT_FILE_BYTES}
use Rattle.js_base.proofs.Decisions.{Decided, same_text}
use Rattle.label_lattice.specs.declared.label.Label.{Label}
use Rattle.event_text.specs.Settings.{form_of}
use Rattle.js_base.specs.declared.ids.HostId.{HostId}
use Rattle.host_code.specs.Code.{CodeShape, CodeHostShape}
use Rattle.host_decl.specs.Hosts.{HostsShape, HostShape}
use Rattle.part_verify.specs.declared.errors.VerifyError.{VerifyError}
use Rattle.part_verify.specs.declared.errors.VerifyError.TheVariants as unsound
use Rattle.part_verify.specs.Refusing.{IsPartRefusedFor}
use Rattle.part_verify.specs.SoundPart.{IsSoundPart}
use Rattle.split_file.specs.declared.error.SplitError.{SplitError}
use Rattle.split_file.specs.File.{file_code}
use Rattle.front_end.specs.PlacedCode.{code_of}
use Rattle.front_end.specs.PlacedSources.{PlacedSources}
use Rattle.front_end.specs.Sources.{HostsRead}
use Rattle.front_end.specs.Stages.{given, stopped, Then}
use Rattle.front_end.specs.Starting.{StartingValues}
use Rattle.front_end.specs.Verdicts.{VerdictShape, too_long}
use Rattle.front_end.proofs.SomeStages.{HasOutcome, some_then}
use Rattle.front_end.proofs.SomeStart.{SomeStart, start_some}
use Rattle.node_starts.specs.NodeSources.{CodeRead, NodeSource, NodeSources, NodeStart, OfHost}
use Rattle.node_starts.specs.NodeSources.{PartChecked, PartRefused, PlacedNode, Valued}
use Rattle.node_starts.specs.NodeSources.{bad_code, named_host, no_host, other_hosts, reveals, weak_entry}
use Rattle.node_starts.specs.SourceNames.{SourceName, Program as from_program, Code as from_code}

-- what is known of programs, host files, files of starting values and parts
pub record SomeSources : Type 0 where
  pub plans : (program hosts : List ℕ) → HasOutcome (PlacedSources program hosts)
  pub hosts : (bytes : List ℕ) → HasOutcome (HostsRead bytes)
  pub start : SomeStart
  pub parts : (code : CodeShape) (me : HostId) →
      IsSoundPart code me ⊎ ((why : VerifyError) × (why ≢ unsound.OutOfMemory) × IsPartRefusedFor code me why)

-- ---- sources

valued_some : SomeStart → (file start : List ℕ) (code : CodeShape) (hosts : HostsShape) →
    HasOutcome (Valued file start code hosts)
valued_some law file start code hosts =
    some_then (StartingValues file start (map form_of code.fields))
    (λ values end. end ≡ given (record { code = code; hosts = hosts; values = values }))
    (start_some law file start (map form_of code.fields))
    (λ values was. (given (record { code = code; hosts = hosts; values = values }), refl))

code_by : (name bytes : List ℕ) (read : Result CodeShape SplitError) → file_code bytes ≡ read →
    length bytes ≤ SPLIT_FILE_BYTES → HasOutcome (CodeRead name bytes)
code_by name bytes (Ok code) is few = (given code, (few, is))
code_by name bytes (Err why) is few = (stopped (bad_code name why), inr (why, few, is, refl))

code_some : (name bytes : List ℕ) → HasOutcome (CodeRead name bytes)
code_some name bytes = elim (cases_lt SPLIT_FILE_BYTES (length bytes)) [
  | inl more ↦ (stopped (too_long name), inl (more, refl))
  | inr not ↦ code_by name bytes (file_code bytes) refl (omega arith)
]

pub source_some : SomeSources → (name : SourceName) (source hosts file start : List ℕ) →
    HasOutcome (NodeSources name source hosts file start)
source_some laws (from_program name) source hosts file start =
    some_then (PlacedSources source hosts) (PlacedNode file start) (laws.plans source hosts)
    (λ placed was. valued_some laws.start file start (code_of placed) placed.source.file)
source_some laws (from_code name) source hosts file start =
    some_then (CodeRead name source) (λ code. Then (HostsRead hosts) (Valued file start code)) (code_some name source)
    (λ code was. some_then (HostsRead hosts) (Valued file start code) (laws.hosts hosts)
    (λ hosts was. valued_some laws.start file start code hosts))

-- ---- the node's host

-- the first row of a name, or none has it
abbrev IsFirst : List HostShape → List ℕ → ℕ → Type 0
IsFirst rows name number =
    (row : HostShape) × (slice_get rows number ≡ Some row) × (row.name ≡ name)
    × All (λ other. other.name ≢ name) (take number rows)

row_named : (rows : List HostShape) (name : List ℕ) →
    ((number : ℕ) × IsFirst rows name number) ⊎ All (λ row. row.name ≢ name) rows
row_named [] name = inr (All-nil (λ row. row.name ≢ name))
row_named (row ∷ rows) name = elim (same_text row.name name) [
  | inl is ↦ inl (0, (row, refl, is, All-nil (λ other. other.name ≢ name)))
  | inr not ↦ elim (row_named rows name) [
    | inl (number, first) ↦ inl (
      suc number,
      (first.0, first.1, first.2, All-cons (λ other. other.name ≢ name) row (take number rows) not first.3),
    )
    | inr none ↦ inr (All-cons (λ other. other.name ≢ name) row rows not none)
  ]
]

same_label : (one other : Label) → Decided (one ≡ other)
same_label one other = elim (same_text one.rows other.rows) [
  | inl rows ↦ elim (cases_eq one.trust other.trust) [
    | inl trust ↦ inl (ap₂ (λ (r : List ℕ) (t : ℕ). record { rows = r; trust = t }) rows trust)
    | inr not ↦ inr (λ same. not (ap (λ (it : Label). it.trust) same))
  ]
  | inr not ↦ inr (λ same. not (ap (λ (it : Label). it.rows) same))
]

same_host : (one other : CodeHostShape) → Decided (one ≡ other)
same_host one other = elim (same_text one.name other.name) [
  | inl names ↦ elim (same_label one.label other.label) [
    | inl labels ↦ inl (ap₂ (λ (n : List ℕ) (l : Label). record { name = n; label = l }) names labels)
    | inr not ↦ inr (λ same. not (ap (λ (it : CodeHostShape). it.label) same))
  ]
  | inr not ↦ inr (λ same. not (ap (λ (it : CodeHostShape). it.name) same))
]

same_hosts : (first second : List CodeHostShape) → Decided (first ≡ second)
same_hosts [] [] = inl refl
same_hosts [] (other ∷ others) = inr (λ same. let never : ⊥ = cc in never)
same_hosts (one ∷ more) [] = inr (λ same. let never : ⊥ = cc in never)
same_hosts (one ∷ more) (other ∷ others) = elim (same_host one other) [
  | inl head ↦ elim (same_hosts more others) [
    | inl tail ↦ inl (ap₂ ◌∷◌ head tail)
    | inr not ↦ inr (λ same. not (let tail : more ≡ others = cc in tail))
  ]
  | inr not ↦ inr (λ same. not (let head : one ≡ other = cc in head))
]

pub host_some : (name code hosts : List ℕ) (source : NodeSource) → HasOutcome (OfHost name code hosts source)
host_some name code hosts source = elim (row_named source.hosts.hosts name) [
  | inr none ↦ (stopped (no_host name), inl (none, refl))
  | inl (number, first) ↦ elim (same_hosts (map named_host source.hosts.hosts) source.code.hosts) [
    | inl alike ↦ (
      given (record { source = source; me = record { 0 = number } }),
      (refl, first, alike),
    )
    | inr unlike ↦ (stopped (other_hosts code hosts), inr (record { 0 = number }, first, unlike, refl))
  ]
]

-- ---- the node's part

refused_some : (file : List ℕ) (why : VerifyError) → why ≢ unsound.OutOfMemory →
    (verdict : VerdictShape) × PartRefused file why verdict
refused_some file unsound.OutOfMemory not = absurd (not refl)
refused_some file (unsound.WeakEntry entry place) not = (weak_entry file entry place, refl)
refused_some file (unsound.Reveals place) not = (reveals file place, refl)

pub part_some : SomeSources → (name : SourceName) (node : NodeStart) → HasOutcome (PartChecked name node)
part_some laws (from_program name) node = (given node, refl)
part_some laws (from_code name) node = elim (laws.parts node.source.code node.me) [
  | inl sound ↦ (given node, (refl, sound))
  | inr (why, not, refused) ↦
      let told = refused_some name why not in
      (stopped told.0, (why, refused, told.1))
]
