-- Where a node is given no source or host, a refusal is due, and never a report.
use Rattle.std.proofs.Common.{◌≡◌, ℕ, List, inl, inr, map, subst, sym}
use Rattle.host_code.specs.Code.{CodeShape}
use Rattle.host_decl.specs.Hosts.{HostsShape}
use Rattle.event_text.specs.Settings.{FieldForm, form_of}
use Rattle.front_end.specs.PlacedCode.{code_of}
use Rattle.front_end.specs.PlacedSources.{OnHosts, PlacedSources}
use Rattle.front_end.specs.Refusals.{RefusalShape}
use Rattle.front_end.specs.Sources.{DraftAccepted, AcceptedWith, Drafted, HostsRead, ProgramLabelled, Lexed, Parsed}
use Rattle.front_end.specs.Sources.{Resolved}
use Rattle.front_end.specs.Sources.{Sources}
use Rattle.front_end.specs.Stages.{StageEnd, given, stopped, Then}
use Rattle.front_end.specs.Starting.{StartingValues, long, bad_line, read}
use Rattle.front_end.specs.Verdicts.{VerdictShape, Refuse, Print}
use Rattle.std.specs.Prelude.{ℤ, ⊤}
use Rattle.part_verify.specs.declared.errors.VerifyError.{VerifyError}
use Rattle.part_verify.specs.declared.errors.VerifyError.TheVariants as unsound
use Rattle.node_starts.specs.NodeSources.{CodeRead, NodeSource, NodeSources, NodeStart, OfHost}
use Rattle.node_starts.specs.NodeSources.{PartChecked, PartRefused, PlacedNode}
use Rattle.node_starts.specs.NodeSources.{Valued}
use Rattle.node_starts.specs.SourceNames.{SourceName, Program as from_program, Code as from_code}

abbrev pub IsRefusal : VerdictShape → Type 0
IsRefusal (Refuse why) = ⊤
IsRefusal (Print answer text) = ⊥

-- what a stage stops with is a refusal
abbrev pub Refuses : {X : Type 0} → (StageEnd X → Type 0) → Type 0
Refuses Stage = (verdict : VerdictShape) → Stage (stopped verdict) → IsRefusal verdict

pub is_refused : (verdict : VerdictShape) (why : RefusalShape) → verdict ≡ Refuse why → IsRefusal verdict
is_refused verdict why is = subst IsRefusal (sym is) tt

pub then_refuses : {X Y : Type 0} (First : StageEnd X → Type 0) (Next : X → StageEnd Y → Type 0) → Refuses First →
    ((x : X) → Refuses (Next x)) → Refuses (Then First Next)
then_refuses First Next one two verdict (inl (x, was, more)) = two x verdict more
then_refuses First Next one two verdict (inr (first, was, is)) =
    let same : verdict ≡ first = cc in subst IsRefusal (sym same) (one first was)

sources_refuse : (program hosts : List ℕ) → Refuses (Sources program hosts)
sources_refuse program hosts =
    then_refuses (Drafted program) (AcceptedWith hosts)
    (then_refuses (Lexed program) Parsed (λ verdict (why, fails, not, is). is_refused verdict _ is)
    (λ list verdict (why, fails, not, is). is_refused verdict _ is))
    (λ draft. then_refuses (HostsRead hosts) (λ file. DraftAccepted file draft)
    (λ verdict (why, fails, not, is). is_refused verdict _ is)
    (λ file. then_refuses (Resolved file draft) (ProgramLabelled file)
    (λ verdict (why, fails, not, is). is_refused verdict _ is)
    (λ tree verdict (why, fails, not, is). is_refused verdict _ is)))

plans_refuse : (program hosts : List ℕ) → Refuses (PlacedSources program hosts)
plans_refuse program hosts =
    then_refuses (Sources program hosts) OnHosts (sources_refuse program hosts)
    (λ source verdict (why, none, is). is_refused verdict _ is)

-- an outcome that is none, or a refusal
abbrev IsGivenOrRefused : {X : Type 0} → StageEnd X → Type 0
IsGivenOrRefused (given x) = ⊤
IsGivenOrRefused (stopped verdict) = IsRefusal verdict

start_ends : (file start : List ℕ) (fields : List FieldForm) (end : StageEnd (List (List ℤ))) →
    StartingValues file start fields end → IsGivenOrRefused end
start_ends file start fields _ (long more) = tt
start_ends file start fields _ (bad_line line short is) = tt
start_ends file start fields _ (read values short is) = tt

valued_refuses : (file start : List ℕ) (code : CodeShape) (hosts : HostsShape) →
    Refuses (Valued file start code hosts)
valued_refuses file start code hosts =
    then_refuses (StartingValues file start (map form_of code.fields))
    (λ values end. end ≡ given (record { code = code; hosts = hosts; values = values }))
    (λ verdict was. start_ends file start (map form_of code.fields) (stopped verdict) was)
    (λ values verdict is. absurd (let never : ⊥ = cc in never))

code_refuses : (name bytes : List ℕ) → Refuses (CodeRead name bytes)
code_refuses name bytes verdict (inl (more, is)) = is_refused verdict _ is
code_refuses name bytes verdict (inr (why, few, failed, is)) = is_refused verdict _ is

pub source_refuses : (name : SourceName) (source hosts file start : List ℕ) →
    Refuses (NodeSources name source hosts file start)
source_refuses (from_program name) source hosts file start =
    then_refuses (PlacedSources source hosts) (PlacedNode file start) (plans_refuse source hosts)
    (λ placed. valued_refuses file start (code_of placed) placed.source.file)
source_refuses (from_code name) source hosts file start =
    then_refuses (CodeRead name source) (λ code. Then (HostsRead hosts) (Valued file start code))
    (code_refuses name source)
    (λ code. then_refuses (HostsRead hosts) (Valued file start code)
    (λ verdict (why, fails, not, is). is_refused verdict _ is)
    (λ hosts. valued_refuses file start code hosts))

pub host_refuses : (name code hosts : List ℕ) (source : NodeSource) → Refuses (OfHost name code hosts source)
host_refuses name code hosts source verdict (inl (none, is)) = is_refused verdict _ is
host_refuses name code hosts source verdict (inr (me, named, unlike, is)) = is_refused verdict _ is

part_refuses : (file : List ℕ) (why : VerifyError) (verdict : VerdictShape) → PartRefused file why verdict →
    IsRefusal verdict
part_refuses file unsound.OutOfMemory verdict refused = absurd refused
part_refuses file (unsound.WeakEntry entry place) verdict refused = is_refused verdict _ refused
part_refuses file (unsound.Reveals place) verdict refused = is_refused verdict _ refused

pub checked_refuses : (name : SourceName) (node : NodeStart) → Refuses (PartChecked name node)
checked_refuses (from_program name) node verdict is = absurd (let never : ⊥ = cc in never)
checked_refuses (from_code name) node verdict (why, refused, told) = part_refuses name why verdict told
