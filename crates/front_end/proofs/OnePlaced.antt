-- A program and a host file have one row of places, or one part that no host may hold.
use Rattle.std.proofs.Common.{◌≡◌, ◌≢◌, ℕ, List, sym, ap, ◌∙◌, subst}
use Rattle.principals.specs.ActsFor.{Declared}
use Rattle.host_decl.specs.Hosts.{HostsShape}
use Rattle.need_labels.specs.Labelled as needs
use Rattle.need_labels.specs.Needs.{NeedsShape, AreNeedsOf}
use Rattle.need_labels.specs.Plan.{PlanShape}
use Rattle.place_rules.specs.Allowed.{AllowedShape}
use Rattle.place_rules.specs.PlaceRules.{AreAllowed}
use Rattle.place_rules.specs.Refusal.{IsPlaceRefused}
use Rattle.place_rules.specs.declared.place_error.PlaceError.{PlaceError}
use Rattle.place_rules.specs.declared.place_error.PlaceError.TheVariants as place
use Rattle.placement.specs.Placing.{IsPlaced}
use Rattle.front_end.specs.PlacedSources.{PlacedSource, AreChosen, HasNoPlace, OnHosts, PlacedSources, labelled_source}
use Rattle.front_end.specs.Sources.{Source, Sources}
use Rattle.front_end.specs.Stages.{given, stopped}
use Rattle.front_end.specs.Verdicts.{places_refused}
use Rattle.front_end.proofs.OneSource.{SourceLaws, sources_once}
use Rattle.front_end.proofs.Stages.{IsOne, give, stop_with, one_then}

-- what is known of needs, places and plans
pub record PlaceLaws : Type 0 where
  pub one_needs : (principals : Declared) (labelled : needs.Labelled) (first second : NeedsShape) →
      AreNeedsOf principals labelled first → AreNeedsOf principals labelled second → first ≡ second
  pub one_plan : (labelled : needs.Labelled) (need : NeedsShape) (hosts : HostsShape) (allowed other : AllowedShape)
      (first second : PlanShape) → IsPlaced labelled need hosts allowed first →
      IsPlaced labelled need hosts other second → (allowed ≡ other) × (first ≡ second)
  pub one_refusal : (labelled : needs.Labelled) (need : NeedsShape) (hosts : HostsShape) (first second : PlaceError) →
      IsPlaceRefused labelled need hosts first → IsPlaceRefused labelled need hosts second → first ≢ place.OutOfMemory →
      second ≢ place.OutOfMemory → first ≡ second
  pub never_both : (labelled : needs.Labelled) (need : NeedsShape) (hosts : HostsShape) (allowed : AllowedShape)
      (why : PlaceError) → AreAllowed labelled need hosts allowed → IsPlaceRefused labelled need hosts why →
      why ≡ place.OutOfMemory

same_placed : (first second : PlacedSource) → first.source ≡ second.source → first.needs ≡ second.needs →
    first.allowed ≡ second.allowed → first.plan ≡ second.plan → first ≡ second
same_placed first second source need allowed plan =
    let of_source : Source → PlacedSource =
    λ x. record { source = x; needs = first.needs; allowed = first.allowed; plan = first.plan } in
    let of_needs : NeedsShape → PlacedSource =
    λ x. record { source = second.source; needs = x; allowed = first.allowed; plan = first.plan } in
    let of_allowed : AllowedShape → PlacedSource =
    λ x. record { source = second.source; needs = second.needs; allowed = x; plan = first.plan } in
    let of_plan : PlanShape → PlacedSource =
    λ x. record { source = second.source; needs = second.needs; allowed = second.allowed; plan = x } in
    ap of_source source ∙ ap of_needs need ∙ ap of_allowed allowed ∙ ap of_plan plan

-- two rows of needs are one
same_needs : PlaceLaws → (source : Source) (first second : NeedsShape) →
    AreNeedsOf source.file.principals (labelled_source source) first →
    AreNeedsOf source.file.principals (labelled_source source) second → first ≡ second
same_needs laws source first second one two =
    laws.one_needs source.file.principals (labelled_source source) first second one two

chosen_once : PlaceLaws → (source : Source) (first second : PlacedSource) → AreChosen source first →
    AreChosen source second → first ≡ second
chosen_once laws source first second one two =
    let need : second.needs ≡ first.needs = same_needs laws source second.needs first.needs two.needs one.needs in
    let plan = laws.one_plan (labelled_source source) first.needs source.file first.allowed second.allowed first.plan
    second.plan one.plan
    (subst (λ (n : NeedsShape). IsPlaced (labelled_source source) n source.file second.allowed second.plan) need
    two.plan) in
    same_placed first second (one.same ∙ sym two.same) (sym need) plan.0 plan.1

chosen_or_not : PlaceLaws → (source : Source) (placed : PlacedSource) (why : PlaceError) → AreChosen source placed →
    ¬ HasNoPlace source why
chosen_or_not laws source placed why chosen none =
    let need : none.needs ≡ placed.needs =
    same_needs laws source none.needs placed.needs none.needs_are chosen.needs in
    none.not_memory (laws.never_both (labelled_source source) placed.needs source.file placed.allowed why
    chosen.plan.words
    (subst (λ (n : NeedsShape). IsPlaceRefused (labelled_source source) n source.file why) need none.refused))

refused_once : PlaceLaws → (source : Source) (first second : PlaceError) → HasNoPlace source first →
    HasNoPlace source second → first ≡ second
refused_once laws source first second one two =
    let need : two.needs ≡ one.needs = same_needs laws source two.needs one.needs two.needs_are one.needs_are in
    laws.one_refusal (labelled_source source) one.needs source.file first second one.refused
    (subst (λ (n : NeedsShape). IsPlaceRefused (labelled_source source) n source.file second) need two.refused)
    one.not_memory two.not_memory

on_hosts_once : PlaceLaws → (source : Source) → IsOne (OnHosts source)
on_hosts_once laws source (given first) (given second) one two =
    ap (give {X = PlacedSource}) (chosen_once laws source first second one two)
on_hosts_once laws source (given first) (stopped verdict) one two =
    absurd (chosen_or_not laws source first two.0 one two.1)
on_hosts_once laws source (stopped verdict) (given second) one two =
    absurd (chosen_or_not laws source second one.0 two one.1)
on_hosts_once laws source (stopped verdict) (stopped other) one two =
    ap (stop_with {X = PlacedSource}) (one.2
    ∙ ap (places_refused source.tree) (refused_once laws source one.0 two.0 one.1 two.1) ∙ sym two.2)

pub places_once : SourceLaws → PlaceLaws → (program hosts : List ℕ) → IsOne (PlacedSources program hosts)
places_once laws places program hosts =
    one_then (Sources program hosts) OnHosts (sources_once laws program hosts)
    (λ source was. on_hosts_once places source)
