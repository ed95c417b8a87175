-- A program and a host file have some outcome up to the places, whatever bytes they are.
use Rattle.std.proofs.Common.{◌≢◌, ℕ, ◌<◌, ◌≤◌, List, length, refl, arith, ◌⊎◌, ⊎_elim}
use Rattle.std.proofs.lemmas.List.{length-map}
use Rattle.js_base.specs.declared.limits.TheConstants.{HOSTS}
use Rattle.principals.specs.ActsFor.{Declared}
use Rattle.host_decl.specs.Hosts.{HostsShape, AreHosts}
use Rattle.need_labels.specs.Labelled as needs
use Rattle.need_labels.specs.Needs.{NeedsShape, AreNeedsOf}
use Rattle.need_labels.specs.Plan.{PlanShape}
use Rattle.place_rules.specs.Allowed.{AllowedShape}
use Rattle.place_rules.specs.PlaceRules.{AreAllowed}
use Rattle.place_rules.specs.Refusal.{IsPlaceRefused}
use Rattle.place_rules.specs.declared.place_error.PlaceError.{PlaceError}
use Rattle.place_rules.specs.declared.place_error.PlaceError.TheVariants as place
use Rattle.placement.specs.Placing.{IsPlaced}
use Rattle.front_end.specs.PlacedSources.{OnHosts, PlacedSources, labelled_source}
use Rattle.front_end.specs.Sources.{Source, Sources}
use Rattle.front_end.specs.Stages.{given, stopped}
use Rattle.front_end.specs.Verdicts.{places_refused}
use Rattle.front_end.proofs.ReadSources.{read_source}
use Rattle.front_end.proofs.SomeSource.{SourceCauses, sources_some}
use Rattle.front_end.proofs.SomeStages.{HasOutcome, some_then}

-- what is known of needs, places and plans
pub record PlaceCauses : Type 0 where
  pub some_needs : (principals : Declared) (labelled : needs.Labelled) →
      (need : NeedsShape) × AreNeedsOf principals labelled need
  pub allowed_or_refused : (labelled : needs.Labelled) (need : NeedsShape) (hosts : HostsShape) →
      length hosts.hosts ≤ HOSTS → ((allowed : AllowedShape) × AreAllowed labelled need hosts allowed)
      ⊎ ((why : PlaceError) × (why ≢ place.OutOfMemory) × IsPlaceRefused labelled need hosts why)
  pub some_plan : (labelled : needs.Labelled) (need : NeedsShape) (hosts : HostsShape) (allowed : AllowedShape) →
      0 < length hosts.hosts → AreAllowed labelled need hosts allowed →
      (plan : PlanShape) × IsPlaced labelled need hosts allowed plan

on_hosts_some : PlaceCauses → (source : Source) → AreHosts source.file → HasOutcome (OnHosts source)
on_hosts_some laws source are =
    let labelled = labelled_source source in
    let need = laws.some_needs source.file.principals labelled in
    let number = length-map source.file.hosts (λ host. host.name) in
    let few : length source.file.hosts ≤ HOSTS = omega (arith, number, are.names.few) in
    let some : 0 < length source.file.hosts = omega (arith, number, are.names.some) in
    ⊎_elim
    (λ allowed. let plan = laws.some_plan labelled need.0 source.file allowed.0 some allowed.1 in (
      given (record { source = source; needs = need.0; allowed = allowed.0; plan = plan.0 }),
      record { same = refl; needs = need.1; plan = plan.1 },
    ))
    (λ refused. let why = refused.0 in (
      stopped (places_refused source.tree why),
      (why, record { needs = need.0; needs_are = need.1; refused = refused.2; not_memory = refused.1 }, refl),
    ))
    (laws.allowed_or_refused labelled need.0 source.file few)

pub places_some : SourceCauses → PlaceCauses → (program hosts : List ℕ) → HasOutcome (PlacedSources program hosts)
places_some laws places program hosts =
    some_then (Sources program hosts) OnHosts (sources_some laws program hosts)
    (λ source was. on_hosts_some places source
    (laws.hosts.sound hosts source.file (read_source program hosts source was).file))
