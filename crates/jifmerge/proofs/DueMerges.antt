-- What is due for starting values and for journals, by how the merge ended.
use Rattle.std.proofs.Common.{◌≡◌, ◌≢◌, ◌∙◌, ℕ, List, length, map, sym, ap, subst, inl, inr, Vec, Global, Result}
use Rattle.std.specs.Prelude.{ℤ, string_bytes}
use Rattle.std.specs.List.{AllZip}
use Rattle.std.proofs.lemmas.List.{length-map}
use Rattle.event_text.specs.declared.event.Event.{Event}
use Rattle.event_text.specs.ScriptText.{script_text}
use Rattle.front_end.specs.declared.load.Loaded.{Loaded}
use Rattle.front_end.specs.declared.stop.Stop.{Stop}
use Rattle.front_end.specs.declared.stop.Stop.TheVariants as stop
use Rattle.front_end.specs.declared.verdict.Verdict.{Verdict}
use Rattle.front_end.specs.Loading.{IsLoaded, StopsWith}
use Rattle.front_end.specs.PlacedCode.{code_of}
use Rattle.front_end.specs.PlacedSources.{PlacedSource}
use Rattle.front_end.specs.Verdicts.{VerdictShape, Print, verdict_shape}
use Rattle.front_end.proofs.Results.{both_ok}
use Rattle.front_end.proofs.Stages.{stopped_with}
use Rattle.host_code.specs.Code.{CodeShape}
use Rattle.host_decl.specs.Hosts.{HostShape}
use Rattle.js_base.specs.declared.OutOfMemory.{OutOfMemory}
use Rattle.js_base.specs.declared.status.Status.TheVariants.{Done}
use Rattle.net_world.specs.World.{AreHostsOf, named_host, world_at_start}
use Rattle.record_merge.specs.declared.journal.MergeError.{MergeError}
use Rattle.record_merge.specs.declared.journal.MergeError.TheVariants as error
use Rattle.record_merge.specs.Merging.{IsMerged, IsMergeRefusedFor}
use Rattle.std.specs.Prelude.{IfOk, MatchResult}
use Rattle.std.proofs.lemmas.Result.{IfOk-weaker}
use Rattle.jifmerge.specs.Merged.{DueForValues, merged, refused, refusal_for}

-- the hosts of the code are those of the file
pub code_hosts : (placed : PlacedSource) (code : CodeShape) → code ≡ code_of placed →
    AreHostsOf code placed.source.file.hosts
code_hosts placed code is = sym (ap (λ (c : CodeShape). c.hosts) is)

-- there is a journal for each host of the code
pub for_each_host : (placed : PlacedSource) (code : CodeShape) (count : ℕ) → code ≡ code_of placed →
    count ≡ length placed.source.file.hosts → count ≡ length code.hosts
for_each_host placed code count is same =
    same ∙ sym (length-map placed.source.file.hosts named_host)
    ∙ ap length (code_hosts placed code is)

pub script_due : (names journals : List (List ℕ)) (placed : PlacedSource) (code : CodeShape)
    (values : List (List ℤ)) (events : List Event) (text : List ℕ) → code ≡ code_of placed →
    IsMerged code (world_at_start code placed.source.file.hosts 0 values) journals events →
    text ≡ script_text code 0 values events → DueForValues names journals placed values (Print Done text)
script_due names journals placed code values events text is meets put =
    subst (DueForValues names journals placed values)
    (sym (ap (Print Done) (put ∙ ap (λ (c : CodeShape). script_text c 0 values events) is)))
    (merged events (subst
    (λ (c : CodeShape). IsMerged c (world_at_start c placed.source.file.hosts 0 values) journals events) is meets))

pub cause_due : (names journals : List (List ℕ)) (placed : PlacedSource) (code : CodeShape) (values : List (List ℤ))
    (why : MergeError) (due : Result Verdict OutOfMemory) (stopping : Stop) → code ≡ code_of placed →
    IsMergeRefusedFor code (world_at_start code placed.source.file.hosts 0 values) journals why →
    IfOk due (λ verdict. verdict_shape verdict ≡ refusal_for names why) →
    IfOk due (λ _. why ≢ error.OutOfMemory) →
    MatchResult due (λ verdict. stopping ≡ stop.Due verdict) (λ _. stopping ≡ stop.OutOfMemory) →
    StopsWith (DueForValues names journals placed values) stopping
cause_due names journals placed code values why due stopping is fails told not made =
    stopped_with (DueForValues names journals placed values) due stopping
    (IfOk-weaker due _ _
    (λ verdict both. subst (DueForValues names journals placed values) (sym both.0)
    (refused why both.1
    (subst (λ (c : CodeShape). IsMergeRefusedFor c (world_at_start c placed.source.file.hosts 0 values) journals why) is
    fails)))
    (both_ok due (λ verdict. verdict_shape verdict ≡ refusal_for names why) (λ _. why ≢ error.OutOfMemory) told not))
    made
