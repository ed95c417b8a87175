-- What a node is by the files that were loaded for it.
use Rattle.std.proofs.Common.{◌≡◌, ◌⊎◌, inl, inr, ℕ, List, [], ◌∷◌, length, get_or, refl, sym, subst, Result, Ok, Err}
use Rattle.std.proofs.Common.{Option, Some, None}
use Rattle.std.specs.Option.{option_to_list}
use Rattle.std.specs.List.{AllZip}
use Rattle.js_base.specs.declared.limits.TheConstants.{HOSTS_BYTES, SCRIPT_BYTES}
use Rattle.front_end.specs.declared.load.Asked as asked_file
use Rattle.front_end.specs.declared.load.Loaded.{Loaded}
use Rattle.front_end.specs.declared.stop.Stop.{Stop}
use Rattle.front_end.specs.Loading.{EndsAs, IsLoaded, StopsWith}
use Rattle.front_end.specs.Loads.{FilesChange, LoadsWell}
use Rattle.front_end.specs.Stages.{StageEnd, Then, given, stopped}
use Rattle.front_end.proofs.LoadedFiles.{given_file}
use Rattle.front_end.proofs.Stages.{stops_weaker}
use Rattle.front_end.proofs.Stops.{GivesAsked}
use Rattle.node_engine.specs.declared.node_files.ReadyNode as native_ready
use Rattle.node_seals.specs.declared.seals_file.TheConstants.{SEALS_BYTES}
use Rattle.front_end.specs.Verdicts.{VerdictShape}
use Rattle.node_seals.specs.declared.seals_file.SealsError.{SealsError}
use Rattle.node_seals.specs.declared.seals_file.SealsError.TheVariants as error
use Rattle.node_seals.specs.Seals.{SealsShape}
use Rattle.node_seals.specs.SealsFile.{seals_of}
use Rattle.node_starts.specs.NodeSources.{NodeStart}
use Rattle.node_engine.specs.ReadyNodes.{NodeStarts, ReadyNode, Sealed, SealedBy, ready_node}
use Rattle.node_engine.specs.Nodes.{IsNodeDue, TellsKeys}
use Rattle.node_starts.specs.SourceNames.{most_of}
use Rattle.node_engine.specs.Options.{Asked}
use Rattle.node_starts.specs.SourceNames.{name_of}

-- ---- files that were loaded

ends_wider : (P Q : StageEnd ReadyNode → Type 0) (result : Result native_ready.ReadyNode Stop) →
    ((end : StageEnd ReadyNode) → P end → Q end) → EndsAs ready_node P result → EndsAs ready_node Q result
ends_wider P Q (Ok node) wider ends = wider (given (ready_node node)) ends
ends_wider P Q (Err why) wider ends =
    stops_weaker (λ verdict. P (stopped verdict)) (λ verdict. Q (stopped verdict)) why
    (λ verdict is. wider (stopped verdict) is) ends

-- ---- the seals

seals_stopped : (file : List ℕ) (node : NodeStart) (keys : List ℕ) (why : SealsError) (verdict : VerdictShape) →
    ((why ≡ error.OutOfMemory) ⊎ (seals_of node.source.code node.me keys ≡ Err why)) →
    SealedBy file node (Err why) (stopped verdict) → Sealed (Some file) keys node (stopped verdict)
seals_stopped file node keys why verdict (inl memory) due =
    absurd (subst (λ (it : SealsError). SealedBy file node (Err it) (stopped verdict)) memory due)
seals_stopped file node keys why verdict (inr is) due =
    subst (λ (it : Result SealsShape SealsError). SealedBy file node it (stopped verdict)) (sym is) due

-- a file of keys gives none
pub seals_stop : (file : List ℕ) (node : NodeStart) (bytes keys : List ℕ) (why : SealsError) (result : Stop) →
    ((why ≡ error.OutOfMemory) ⊎ (seals_of node.source.code node.me bytes ≡ Err why)) → bytes ≡ keys →
    StopsWith (λ verdict. (other : NodeStart) → other.source.code ≡ node.source.code →
    SealedBy file other (Err why) (stopped verdict)) result →
    StopsWith (λ verdict. Sealed (Some file) keys node (stopped verdict)) result
seals_stop file node bytes keys why result refused same due =
    let refused_too = subst (λ (it : List ℕ).
    (why ≡ error.OutOfMemory) ⊎ (seals_of node.source.code node.me it ≡ Err why)) same refused in
    stops_weaker
    (λ verdict. (other : NodeStart) → other.source.code ≡ node.source.code →
    SealedBy file other (Err why) (stopped verdict))
    (λ verdict. Sealed (Some file) keys node (stopped verdict)) result
    (λ verdict all. seals_stopped file node keys why verdict refused_too (all node refl)) due

-- ---- files that were loaded, with keys or without

-- the files of a node, by whether there are keys among them
abbrev files_with : Asked → Option (List ℕ) → List (List ℕ)
files_with asked seals = name_of asked.source ∷ asked.hosts ∷ asked.start ∷ option_to_list seals

pub plain_loaded : (asked : Asked) (files : FilesChange) (one two three : asked_file.Asked) (all : List Loaded)
    (c h s : Loaded) (result : Result native_ready.ReadyNode Stop) → asked.seals ≡ None →
    AllZip (GivesAsked files.held) (one ∷ two ∷ three ∷ []) all → c ≡ get_or all 0 c → h ≡ get_or all 1 h →
    s ≡ get_or all 2 s →
    one.name.now ≡ name_of asked.source → one.most ≡ most_of asked.source → two.name.now ≡ asked.hosts →
    two.most ≡ HOSTS_BYTES → three.name.now ≡ asked.start → three.most ≡ SCRIPT_BYTES → LoadsWell 3 files →
    ((source hosts start : List ℕ) → IsLoaded (most_of asked.source) source c → IsLoaded HOSTS_BYTES hosts h →
    IsLoaded SCRIPT_BYTES start s →
    EndsAs ready_node (Then (NodeStarts asked source hosts start) (Sealed None [])) result) →
    EndsAs ready_node (IsNodeDue asked files) result
plain_loaded asked files one two three [] c h s result no_keys zipped pa pb pc na ma nb mb nc mc loads due =
    absurd zipped
plain_loaded asked files one two three (x ∷ []) c h s result no_keys zipped pa pb pc na ma nb mb nc mc loads due =
    absurd zipped.1
plain_loaded asked files one two three (x ∷ y ∷ []) c h s result no_keys zipped pa pb pc na ma nb mb nc mc loads due =
    absurd zipped.1.1
plain_loaded asked files one two three (x ∷ y ∷ z ∷ w ∷ more) c h s result no_keys zipped pa pb pc na ma nb mb nc mc
    loads due = absurd zipped.1.1.1
plain_loaded asked files one two three (x ∷ y ∷ z ∷ []) c h s result no_keys zipped pa pb pc na ma nb mb nc mc loads
    due =
    let first = given_file files.held one (name_of asked.source) (most_of asked.source) x na ma zipped.0 in
    let second = given_file files.held two asked.hosts HOSTS_BYTES y nb mb zipped.1.0 in
    let third = given_file files.held three asked.start SCRIPT_BYTES z nc mc zipped.1.1.0 in
    ends_wider (Then (NodeStarts asked first.0 second.0 third.0) (Sealed None [])) (IsNodeDue asked files) result
    (λ end starts. inr (record {
      loads = subst (λ (seals : Option (List ℕ)). LoadsWell (length (files_with asked seals)) files) (sym no_keys)
          loads;
      source = first.0;
      hosts = second.0;
      start = third.0;
      keys = [];
      source_told = first.1;
      hosts_told = second.1;
      start_told = third.1;
      keys_told = subst (λ (seals : Option (List ℕ)). TellsKeys files.held seals []) (sym no_keys) refl;
      starts = subst (λ (seals : Option (List ℕ)).
          Then (NodeStarts asked first.0 second.0 third.0) (Sealed seals []) end) (sym no_keys) starts;
    }))
    (due first.0 second.0 third.0 (subst (IsLoaded (most_of asked.source) first.0) (sym pa) first.2)
    (subst (IsLoaded HOSTS_BYTES second.0) (sym pb) second.2)
    (subst (IsLoaded SCRIPT_BYTES third.0) (sym pc) third.2))

pub sealed_loaded : (asked : Asked) (name : List ℕ) (files : FilesChange) (one two three four : asked_file.Asked)
    (all : List Loaded) (c h s k : Loaded) (result : Result native_ready.ReadyNode Stop) → asked.seals ≡ Some name →
    AllZip (GivesAsked files.held) (one ∷ two ∷ three ∷ four ∷ []) all → c ≡ get_or all 0 c → h ≡ get_or all 1 h →
    s ≡ get_or all 2 s → k ≡ get_or all 3 k →
    one.name.now ≡ name_of asked.source → one.most ≡ most_of asked.source → two.name.now ≡ asked.hosts →
    two.most ≡ HOSTS_BYTES → three.name.now ≡ asked.start → three.most ≡ SCRIPT_BYTES → four.name.now ≡ name →
    four.most ≡ SEALS_BYTES → LoadsWell 4 files →
    ((source hosts start keys : List ℕ) → IsLoaded (most_of asked.source) source c → IsLoaded HOSTS_BYTES hosts h →
    IsLoaded SCRIPT_BYTES start s → IsLoaded SEALS_BYTES keys k →
    EndsAs ready_node (Then (NodeStarts asked source hosts start) (Sealed (Some name) keys)) result) →
    EndsAs ready_node (IsNodeDue asked files) result
sealed_loaded asked name files one two three four [] c h s k result its zipped pa pb pc pd na ma nb mb nc mc nd md loads
    due = absurd zipped
sealed_loaded asked name files one two three four (x ∷ []) c h s k result its zipped pa pb pc pd na ma nb mb nc mc nd md
    loads due = absurd zipped.1
sealed_loaded asked name files one two three four (x ∷ y ∷ []) c h s k result its zipped pa pb pc pd na ma nb mb nc mc
    nd md loads due = absurd zipped.1.1
sealed_loaded asked name files one two three four (x ∷ y ∷ z ∷ []) c h s k result its zipped pa pb pc pd na ma nb mb nc
    mc nd md loads due = absurd zipped.1.1.1
sealed_loaded asked name files one two three four (x ∷ y ∷ z ∷ w ∷ v ∷ more) c h s k result its zipped pa pb pc pd na ma
    nb mb nc mc nd md loads due = absurd zipped.1.1.1.1
sealed_loaded asked name files one two three four (x ∷ y ∷ z ∷ w ∷ []) c h s k result its zipped pa pb pc pd na ma nb mb
    nc mc nd md loads due =
    let first = given_file files.held one (name_of asked.source) (most_of asked.source) x na ma zipped.0 in
    let second = given_file files.held two asked.hosts HOSTS_BYTES y nb mb zipped.1.0 in
    let third = given_file files.held three asked.start SCRIPT_BYTES z nc mc zipped.1.1.0 in
    let last = given_file files.held four name SEALS_BYTES w nd md zipped.1.1.1.0 in
    ends_wider (Then (NodeStarts asked first.0 second.0 third.0) (Sealed (Some name) last.0)) (IsNodeDue asked files)
    result
    (λ end starts. inr (record {
      loads = subst (λ (seals : Option (List ℕ)). LoadsWell (length (files_with asked seals)) files) (sym its) loads;
      source = first.0;
      hosts = second.0;
      start = third.0;
      keys = last.0;
      source_told = first.1;
      hosts_told = second.1;
      start_told = third.1;
      keys_told = subst (λ (seals : Option (List ℕ)). TellsKeys files.held seals last.0) (sym its) last.1;
      starts = subst (λ (seals : Option (List ℕ)).
          Then (NodeStarts asked first.0 second.0 third.0) (Sealed seals last.0) end) (sym its) starts;
    }))
    (due first.0 second.0 third.0 last.0 (subst (IsLoaded (most_of asked.source) first.0) (sym pa) first.2)
    (subst (IsLoaded HOSTS_BYTES second.0) (sym pb) second.2)
    (subst (IsLoaded SCRIPT_BYTES third.0) (sym pc) third.2)
    (subst (IsLoaded SEALS_BYTES last.0) (sym pd) last.2))
