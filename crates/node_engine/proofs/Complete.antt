-- A node whose files are accepted serves to an end, where nothing outside fails.
use Rattle.std.proofs.Common.{◌≡◌, inl, inr, ℕ, zero, suc, ◌<◌, List, Option, Some, None, refl, sym, subst, arith}
use Rattle.std.specs.Prelude.{slice_get}
use Rattle.std.specs.Option.{option_to_list}
use Rattle.js_base.specs.Counts.{Rose, last_count}
use Rattle.js_base.specs.declared.status.Status.{Status}
use Rattle.js_base.specs.declared.status.Status.TheVariants as status
use Rattle.front_end.specs.Loads.{FilesChange, Told as TellsFile}
use Rattle.front_end.specs.Stages.{StageEnd, given, stopped}
use Rattle.front_end.specs.Verdicts.{VerdictShape}
use Rattle.node_engine.specs.ReadyNodes.{ReadyNode}
use Rattle.node_engine.specs.Nodes.{End, HoldsNode, IsComplete, IsNodeDue, LoadedNode, NodeAnswer, OptionsAnswer}
use Rattle.node_engine.specs.Nodes.{HoldsKeys, TellsKeys, files_of}
use Rattle.node_engine.specs.Options.{Asked, IsAsked}
use Rattle.node_starts.specs.SourceNames.{name_of}
use Rattle.node_engine.specs.Statuses.{IsEnded, IsServed}
use Rattle.node_engine.specs.Told.{Faults, JournalNames, NodeChange, Outside}
use Rattle.node_engine.proofs.Ends.{node_served}

served_ended : (answer : Status) → IsServed answer → (answer ≡ status.LinkFault → ⊥) → (answer ≡ status.OutFault → ⊥) →
    IsEnded answer
served_ended status.Done served linked put = tt
served_ended status.Spent served linked put = tt
served_ended status.NoMemory served linked put = tt
served_ended status.LinkFault served linked put = absurd (linked refl)
served_ended status.OutFault served linked put = absurd (put refl)
served_ended status.Usage served linked put = absurd served
served_ended status.SourceRefused served linked put = absurd served
served_ended status.InputRefused served linked put = absurd served
served_ended status.Differ served linked put = absurd served
served_ended status.FileFault served linked put = absurd served
served_ended status.ChildFault served linked put = absurd served
served_ended status.ChildEnded served linked put = absurd served

-- no count rose that stands
not_risen : (before after : ℕ) → after ≡ before → before < last_count → Rose before after → ⊥
not_risen before after stays below (inl lt) = omega arith
not_risen before after stays below (inr last) = omega arith

-- a file that holds something is not absent
absent_not : (holds : List ℕ → Option (List ℕ)) (held : Option (List ℕ → Option (List ℕ))) (name file bytes : List ℕ) →
    held ≡ Some holds → TellsFile held file None → holds name ≡ Some bytes → Some name ≡ Some file → ⊥
absent_not holds held name file bytes is absent there same =
    let none : holds file ≡ None =
    subst (λ (it : Option (List ℕ → Option (List ℕ))). TellsFile it file None) is absent in
    let one : name ≡ file = cc in
    let some : holds file ≡ Some bytes = subst (λ (it : List ℕ). holds it ≡ Some bytes) one there in
    let never : ⊥ = cc in never

keys_not_absent : (seals : Option (List ℕ)) (keys : List ℕ) (holds : List ℕ → Option (List ℕ))
    (held : Option (List ℕ → Option (List ℕ))) (place : ℕ) (file : List ℕ) → HoldsKeys holds seals keys →
    held ≡ Some holds → TellsFile held file None → slice_get (option_to_list seals) place ≡ Some file → ⊥
keys_not_absent None keys holds held place file there is absent here = let never : ⊥ = cc in never
keys_not_absent (Some name) keys holds held zero file there is absent here =
    absent_not holds held name file keys is absent there here
keys_not_absent (Some name) keys holds held (suc place) file there is absent here = let never : ⊥ = cc in never

none_absent : (asked : Asked) (holds : List ℕ → Option (List ℕ)) (node : ReadyNode)
    (held : Option (List ℕ → Option (List ℕ))) (place : ℕ) (file : List ℕ) → HoldsNode asked holds node →
    held ≡ Some holds → TellsFile held file None → slice_get (files_of asked) place ≡ Some file → ⊥
none_absent asked holds node held zero file there is absent here =
    absent_not holds held (name_of asked.source) file there.source is absent there.source_is here
none_absent asked holds node held (suc zero) file there is absent here =
    absent_not holds held asked.hosts file there.hosts is absent there.hosts_is here
none_absent asked holds node held (suc (suc zero)) file there is absent here =
    absent_not holds held asked.start file there.start is absent there.start_is here
none_absent asked holds node held (suc (suc (suc place))) file there is absent here =
    keys_not_absent asked.seals there.keys holds held place file there.keys_is is absent here

-- and one that holds keys tells them
keys_tell : (seals : Option (List ℕ)) (keys : List ℕ) (holds : List ℕ → Option (List ℕ))
    (held : Option (List ℕ → Option (List ℕ))) → held ≡ Some holds → HoldsKeys holds seals keys →
    TellsKeys held seals keys
keys_tell None keys holds held is there = there
keys_tell (Some name) keys holds held is there =
    subst (λ (it : Option (List ℕ → Option (List ℕ))). TellsFile it name (Some keys)) (sym is) there

-- what is known of nodes and of words
abbrev pub OneLoaded : Type 0
OneLoaded = (asked : Asked) (files : FilesChange) (holds : List ℕ → Option (List ℕ))
    (first second : StageEnd ReadyNode) → files.held ≡ Some holds → LoadedNode asked files first →
    LoadedNode asked files second → first ≡ second

abbrev pub OneAsked : Type 0
OneAsked = (words : List (List ℕ)) (first second : Asked) → IsAsked words first → IsAsked words second → first ≡ second

not_stopped : OneLoaded → (asked : Asked) (files : FilesChange) (holds : List ℕ → Option (List ℕ)) (node : ReadyNode)
    (verdict : VerdictShape) → HoldsNode asked holds node → files.held ≡ Some holds →
    files.faults_after ≡ files.faults_before → files.faults_before < last_count →
    IsNodeDue asked files (stopped verdict) → ⊥
not_stopped one asked files holds node verdict there is stays below (inl (inl absent)) =
    none_absent asked holds node files.held absent.0 absent.1 there is absent.2.absent absent.2.here
not_stopped one asked files holds node verdict there is stays below (inl (inr fault)) =
    not_risen files.faults_before files.faults_after stays below fault.rose
not_stopped one asked files holds node verdict there is stays below (inr loaded) =
    let tells : (name bytes : List ℕ) → holds name ≡ Some bytes → TellsFile files.held name (Some bytes) =
    λ name bytes holds_it.
    subst (λ (it : Option (List ℕ → Option (List ℕ))). TellsFile it name (Some bytes)) (sym is) holds_it in
    let same : given node ≡ stopped verdict =
    one asked files holds (given node) (stopped verdict) is
    (record {
      loads = loaded.loads;
      source = there.source;
      hosts = there.hosts;
      start = there.start;
      keys = there.keys;
      source_told = tells (name_of asked.source) there.source there.source_is;
      hosts_told = tells asked.hosts there.hosts there.hosts_is;
      start_told = tells asked.start there.start there.start_is;
      keys_told = keys_tell asked.seals there.keys holds files.held is there.keys_is;
      starts = there.starts;
    }) loaded in
    let never : ⊥ = cc in never

options_complete : OneLoaded → (asked : Asked) (files : FilesChange) (holds : List ℕ → Option (List ℕ))
    (node : ReadyNode) (end : End) (change : NodeChange) (reaches : JournalNames → Type 0) →
    HoldsNode asked holds node →
    files.held ≡ Some holds → files.faults_after ≡ files.faults_before → files.faults_before < last_count →
    (end.status ≡ status.LinkFault → ⊥) → (end.status ≡ status.OutFault → ⊥) →
    OptionsAnswer asked files end change reaches → IsEnded end.status
options_complete one asked files holds node end change reaches there is stays below linked put
    (inl ((inl memory), nothing)) = subst (λ (it : End). IsEnded it.status) (sym memory) tt
options_complete one asked files holds node end change reaches there is stays below linked put
    (inl ((inr due), nothing)) = absurd (not_stopped one asked files holds node due.0 there is stays below due.1)
options_complete one asked files holds node end change reaches there is stays below linked put (inr runs) =
    served_ended end.status (node_served asked.turns runs.0 end.status change reaches runs.2) linked put

answer_complete : OneLoaded → OneAsked → (words : List (List ℕ)) (files : FilesChange) (end : End)
    (change : NodeChange) (reaches : JournalNames → Type 0) (asked : Asked) (node : ReadyNode)
    (holds : List ℕ → Option (List ℕ)) → NodeAnswer words files end change reaches → IsAsked words asked →
    files.held ≡ Some holds → HoldsNode asked holds node → files.faults_after ≡ files.faults_before →
    files.faults_before < last_count → (end.status ≡ status.LinkFault → ⊥) → (end.status ≡ status.OutFault → ⊥) →
    IsEnded end.status
answer_complete one once words files end change reaches asked node holds (inl memory) asks is there stays below
    linked put = subst (λ (it : End). IsEnded it.status) (sym memory.0) tt
answer_complete one once words files end change reaches asked node holds (inr (inl usage)) asks is there stays below
    linked put = absurd (usage.1 asked asks)
answer_complete one once words files end change reaches asked node holds (inr (inr some)) asks is there stays below
    linked put =
    let same : some.0 ≡ asked = once words some.0 asked some.1 asks in
    options_complete one asked files holds node end change reaches there is stays below linked put
    (subst (λ (it : Asked). OptionsAnswer it files end change reaches) same some.2)

-- faults of an answer that blames links or journal were counted
links_blamed : (answer : Status) (old new : Outside) → Faults answer old new → answer ≡ status.LinkFault →
    Rose old.links.faults new.links.faults
links_blamed answer old new faults is =
    let counted : Faults status.LinkFault old new = subst (λ (it : Status). Faults it old new) is faults in
    counted.0.rose

journal_blamed : (answer : Status) (old new : Outside) → Faults answer old new → answer ≡ status.OutFault →
    Rose old.journal.faults new.journal.faults
journal_blamed answer old new faults is =
    let counted : Faults status.OutFault old new = subst (λ (it : Status). Faults it old new) is faults in
    counted.1.rose

pub complete : OneLoaded → OneAsked → (words : List (List ℕ)) (files : FilesChange) (end : End)
    (change : NodeChange) (reaches : JournalNames → Type 0) → NodeAnswer words files end change reaches →
    Faults end.status change.old change.new → IsComplete words files end.status change.old change.new
complete one once words files end change reaches answer faults asked node holds asks is there stays below still under
    quiet less =
    answer_complete one once words files end change reaches asked node holds answer asks is there stays below
    (λ linked. not_risen _ _ still under (links_blamed end.status change.old change.new faults linked))
    (λ put. not_risen _ _ quiet less (journal_blamed end.status change.old change.new faults put))
