-- What is due for the words of a run, from its stages.
use Rattle.std.proofs.Common.{◌≡◌, ℕ, List, [], ◌∷◌, get_or, sym, subst, inr}
use Rattle.std.proofs.Common.{Option, Some, Result, Ok, Err}
use Rattle.std.specs.Prelude.{IfOk, MatchResult}
use Rattle.std.specs.List.{AllZip}
use Rattle.js_base.specs.declared.OutOfMemory.{OutOfMemory}
use Rattle.host_decl.specs.Hosts.{HostsShape}
use Rattle.front_end.specs.declared.load.Asked.{Asked}
use Rattle.front_end.specs.declared.load.Loaded.{Loaded}
use Rattle.front_end.specs.declared.stop.Stop.{Stop}
use Rattle.front_end.specs.declared.stop.Stop.TheVariants as stop
use Rattle.front_end.specs.declared.verdict.Verdict.{Verdict}
use Rattle.front_end.specs.Loading.{EndsAs, Gives, StopsWith}
use Rattle.front_end.specs.Loads.{FilesChange, LoadsWell, Told}
use Rattle.front_end.specs.Sources.{HostsRead}
use Rattle.front_end.specs.Stages.{stopped}
use Rattle.front_end.specs.Verdicts.{VerdictShape, verdict_shape}
use Rattle.front_end.proofs.Stages.{stops_weaker}
use Rattle.launch.specs.Due.{HostsOf}

-- it was loaded, and is read or refused
pub hosts_ended : (name : List ℕ) (files : FilesChange) (bytes : List ℕ) (result : Result HostsShape Stop) →
    Told files.held name (Some bytes) → LoadsWell 1 files → EndsAs (λ hosts. hosts) (HostsRead bytes) result →
    EndsAs (λ hosts. hosts) (HostsOf name files) result
hosts_ended name files bytes (Ok hosts) told loads read = (bytes, told, loads, read)
hosts_ended name files bytes (Err why) told loads read =
    stops_weaker (λ verdict. HostsRead bytes (stopped verdict)) (λ verdict. HostsOf name files (stopped verdict)) why
    (λ verdict is. inr (bytes, told, loads, is)) read

-- the one file that was loaded
pub one_file : (held : Option (List ℕ → Option (List ℕ))) (asked : Asked) (given : List Loaded) (file : Loaded) →
    AllZip (λ one loaded. Gives held one.name.now one.most loaded) (asked ∷ []) given → file ≡ get_or given 0 file →
    Gives held asked.name.now asked.most file
one_file held asked [] file all is = absurd all
one_file held asked (one ∷ two ∷ more) file all is = absurd all.1
one_file held asked (one ∷ []) file all is = subst (Gives held asked.name.now asked.most) (sym is) all.0

-- what is due where a run goes no further
pub due_at : (P : VerdictShape → Type 0) (why : Stop) (result : Result Verdict OutOfMemory) → StopsWith P why →
    MatchResult result (λ verdict. why ≡ stop.Due verdict) (λ _. why ≡ stop.OutOfMemory) →
    IfOk result (λ verdict. P (verdict_shape verdict))
due_at P why (Ok verdict) stops is = subst (StopsWith P) is stops
due_at P why (Err memory) stops is = tt
