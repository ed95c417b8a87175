-- How a node ends that goes no further than its files, or that was to begin.
use Rattle.std.proofs.Common.{◌≡◌, ◌∙◌, inl, inr, ℕ, Some, refl, sym, ap, subst}
use Rattle.std.specs.Prelude.{slice_get}
use Rattle.js_base.specs.declared.status.Status.{Status}
use Rattle.js_base.specs.declared.status.Status.TheVariants as status
use Rattle.front_end.specs.declared.stop.Stop.{Stop}
use Rattle.front_end.specs.declared.stop.Stop.TheVariants as stop
use Rattle.front_end.specs.Loading.{StopsWith}
use Rattle.front_end.specs.Loads.{FilesChange}
use Rattle.front_end.specs.Refusals.{RefusalShape, refusal_status}
use Rattle.front_end.specs.Refusals as refusal
use Rattle.front_end.specs.Stages.{stopped}
use Rattle.front_end.specs.Verdicts.{VerdictShape, Refuse, Print, verdict_shape}
use Rattle.host_decl.specs.Hosts.{HostShape as HostRow}
use Rattle.node_engine.specs.Beginnings.{NodeBeginning, BeginsNothing, EndsUnbegun, HasBegun}
use Rattle.node_engine.specs.Nodes.{End, IsEndOf, IsNodeDue, OptionsAnswer, RunsNode, beginning_of, end_of}
use Rattle.node_engine.specs.Nodes.{inside_at_start}
use Rattle.node_engine.specs.NodeWorlds.{Inside}
use Rattle.node_engine.specs.Options.{Asked}
use Rattle.node_engine.specs.ReadyNodes.{ReadyNode}
use Rattle.node_engine.specs.Statuses.{IsServed}
use Rattle.node_engine.specs.Told.{Faults, Leaves, JournalNames, NodeChange, Outside, ServesFrom}

-- ---- refusals

pub stopped_answer : (asked : Asked) (files : FilesChange) (why : Stop) (end : End) (change : NodeChange)
    (reaches : JournalNames → Type 0) → StopsWith (λ verdict. IsNodeDue asked files (stopped verdict)) why →
    IsEndOf why end → BeginsNothing change → OptionsAnswer asked files end change reaches
stopped_answer asked files stop.OutOfMemory end change reaches stops is nothing = inl (inl is, nothing)
stopped_answer asked files (stop.Due verdict) end change reaches stops is nothing =
    inl (inr (verdict_shape verdict, stops, is), nothing)

-- no refusal blames links or the journal
refused_calmly : (why : RefusalShape) (there : Outside) → Faults (refusal_status why) there there
refused_calmly (refusal.Usage forms) there = (refl, refl)
refused_calmly (refusal.NoSuchFile file) there = (refl, refl)
refused_calmly (refusal.FileFault file) there = (refl, refl)
refused_calmly (refusal.Lex why) there = (refl, refl)
refused_calmly (refusal.Parse why) there = (refl, refl)
refused_calmly (refusal.Resolve why) there = (refl, refl)
refused_calmly (refusal.Labels why line words) there = (refl, refl)
refused_calmly (refusal.Hosts why) there = (refl, refl)
refused_calmly (refusal.Places why words) there = (refl, refl)
refused_calmly (refusal.TooLong file) there = (refl, refl)
refused_calmly (refusal.AtLine file line why) there = (refl, refl)
refused_calmly refusal.BadDiffer there = (refl, refl)
refused_calmly (refusal.StartsDiffer field) there = (refl, refl)
refused_calmly (refusal.BadCode file why) there = (refl, refl)
refused_calmly (refusal.NoHost name) there = (refl, refl)
refused_calmly (refusal.OtherHosts code hosts) there = (refl, refl)
refused_calmly (refusal.NoKey file host) there = (refl, refl)
refused_calmly (refusal.WeakEntry file entry place) there = (refl, refl)
refused_calmly (refusal.Reveals file place) there = (refl, refl)
refused_calmly refusal.WrongJournals there = (refl, refl)
refused_calmly (refusal.NoRun file line host) there = (refl, refl)
refused_calmly (refusal.TwoFields file name) there = (refl, refl)
refused_calmly (refusal.TwoVariables file name) there = (refl, refl)
refused_calmly (refusal.SourceExplained text) there = (refl, refl)
refused_calmly (refusal.InputExplained text) there = (refl, refl)

due_calmly : (verdict : VerdictShape) (there : Outside) → Faults (end_of verdict).status there there
due_calmly (Refuse why) there = refused_calmly why there
due_calmly (Print answer text) there = (refl, refl)

pub stopped_calmly : (why : Stop) (end : End) (there : Outside) → IsEndOf why end → Faults end.status there there
stopped_calmly stop.OutOfMemory end there is =
    subst (λ (it : End). Faults it.status there there) (sym is) (refl, refl)
stopped_calmly (stop.Due verdict) end there is =
    subst (λ (it : End). Faults it.status there there) (sym is) (due_calmly (verdict_shape verdict) there)

-- ---- nodes that begin

served_early : (start : NodeBeginning) (answer : Status) (change : NodeChange) → EndsUnbegun start answer change →
    IsServed answer
served_early start answer change (inl nothing) = subst IsServed (sym nothing.0) tt
served_early start answer change (inr (inl breaks)) = elim breaks.by [
  | inl memory ↦ subst IsServed (sym memory) tt
  | inr fault ↦ subst IsServed (sym fault) tt
]
served_early start answer change (inr (inr breaks)) = elim breaks.by [
  | inl memory ↦ subst IsServed (sym memory) tt
  | inr fault ↦ subst IsServed (sym fault) tt
]

pub node_served : (turns : ℕ) (node : ReadyNode) (answer : Status) (change : NodeChange)
    (reaches : JournalNames → Type 0) →
    RunsNode turns node answer change reaches → IsServed answer
node_served turns node answer change reaches (row, is, inl early) =
    served_early (beginning_of node.start row) answer change early
node_served turns node answer change reaches (row, is, inr serves) = serves.served

-- memory ran out before it was to begin
pub never_begun : (turns : ℕ) (node : ReadyNode) (row : HostRow) (change : NodeChange)
    (reaches : JournalNames → Type 0) →
    slice_get node.start.source.hosts.hosts node.start.me.0 ≡ Some row → BeginsNothing change →
    RunsNode turns node status.NoMemory change reaches
never_begun turns node row change reaches is nothing = (row, is, inl (inl (refl, nothing)))

-- it was to begin, and broke
pub broke_early : (turns : ℕ) (node : ReadyNode) (row : HostRow) (answer : Status) (change : NodeChange)
    (reaches : JournalNames → Type 0) → slice_get node.start.source.hosts.hosts node.start.me.0 ≡ Some row →
    EndsUnbegun (beginning_of node.start row) answer change → RunsNode turns node answer change reaches
broke_early turns node row answer change reaches is early = (row, is, inl early)

-- it began, and served
pub served_begun : (turns : ℕ) (node : ReadyNode) (row : HostRow) (answer : Status) (begun : NodeChange)
    (new : Outside) (after : JournalNames) (reaches : JournalNames → Type 0) (inside later : Inside) →
    slice_get node.start.source.hosts.hosts node.start.me.0 ≡ Some row → HasBegun (beginning_of node.start row) begun →
    reaches begun.names_after → inside ≡ inside_at_start node row →
    IsServed answer →
    ServesFrom node.start.source.code node.start.me turns answer (record { inside = inside; outside = begun.new })
    (record { inside = later; outside = new }) → Leaves answer begun.new new →
    RunsNode turns node answer (record {
      old = begun.old;
      new = new;
      names_before = begun.names_before;
      names_after = after;
    }) reaches
served_begun turns node row answer begun new after reaches inside later is has reached starts served serves leaves = (
  row,
  is,
  inr (record {
    links = leaves.begun ∙ has.links;
    names = begun.names_after;
    named = has.names;
    reached = reached;
    served = served;
    runs = λ world told not_yet. (
      later,
      serves.after world
          (record {
            host_is = ap (λ (i : Inside). i.host) starts ∙ told.host_is;
            seals_is = ap (λ (i : Inside). i.seals) starts ∙ told.seals_is;
            left_is = has.idle.left ∙ told.left_is;
            sent_is = has.idle.sent ∙ told.sent_is;
            journal_is = has.idle.journal ∙ told.journal_is;
          }) not_yet,
    );
  }),
)
