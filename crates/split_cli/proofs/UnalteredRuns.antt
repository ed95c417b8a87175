-- What misbehaving hosts may not affect of a program that endorses nothing follows its plain run.
use Rattle.std.proofs.Common.{◌≡◌, ◌∙◌, ℕ, ℤ, List, [], ◌∷◌, refl, subst}
use Rattle.principals.specs.ActsFor.{Declared}
use Rattle.label_lattice.specs.declared.label.Label.{Label}
use Rattle.jif_tree.specs.declared.program.Program.{Program}
use Rattle.jif_tree.specs.Altered.{Altered, Exposure}
use Rattle.jif_tree.specs.SourceRun.{Configuration, IsAtEnd, HasLength, after_steps, configuration_at_start}
use Rattle.jif_tree.specs.Trees.{program_tree}
use Rattle.need_labels.specs.Labelled.{Labelled}
use Rattle.need_labels.specs.Needs.{NeedsShape}
use Rattle.host_code.specs.Code.{CodeShape}
use Rattle.event_text.specs.declared.event.Event.{Event}
use Rattle.net_world.specs.Together.{Together}
use Rattle.net_world.specs.World.{WorldShape}
use Rattle.source_law.specs.Checked.{PassesLabelCheck, exposed_to}
use Rattle.source_law.specs.Follows.{EndsAfter, KeepsUp}
use Rattle.source_law.specs.Related.{AreRelated}
use Rattle.source_law.specs.Steady.{IsSteadyProgram}
use Rattle.source_law.specs.Unendorsed.{EndorsesNothing}
use Rattle.integrity.specs.Altering.{StandsFor, GoesOnAltered}
use Rattle.integrity.specs.Exposed.{bad_labels, exposure_of}
use Rattle.split_rules.specs.Placed.{PlacedProgram}
use Rattle.split_cli.specs.Headline.{MakesSteps}

-- the laws of altered runs of programs that endorse nothing
pub record UnalteredLaws : Type 0 where
  pub steady : (principals : Declared) (program : Program) (labelled : Labelled) (needs : NeedsShape)
      (bad : List Label) → program_tree program ≡ labelled.program → PassesLabelCheck principals labelled needs →
      EndorsesNothing labelled.program → IsSteadyProgram program (exposed_to labelled needs bad)
  pub starts : (program : Program) (exposure : Exposure) (store : List (List ℤ)) → IsSteadyProgram program exposure →
      AreRelated program exposure (configuration_at_start program store) (configuration_at_start program store)
  pub keeps_up : (program : Program) (exposure : Exposure) (left : ℕ) (c d now : Configuration)
      (others : List Configuration) → IsSteadyProgram program exposure → EndsAfter program left d →
      AreRelated program exposure c d → Altered program exposure c others now → KeepsUp program exposure d left now

module _ (laws : UnalteredLaws) (tree : Program) (power : Exposure) (code : CodeShape)
    (steady : IsSteadyProgram tree power) where
  -- a world that stands for a configuration of an altered run stands for that of the plain run
  stands : (world : WorldShape) (c d : Configuration) → AreRelated tree power c d → (IsAtEnd c → IsAtEnd d) →
      StandsFor code power world c → StandsFor code power world d
  stands world c d related ends it = record {
    fields = λ number field state at here clean.
        it.fields number field state at here clean ∙ related.fields (record { 0 = number }) clean;
    halted = λ halted. ends (it.halted halted);
  }

  -- from such configurations on, where the plain run ends after so many steps
  goes_on : (events : List Event) (world last : WorldShape) (c d : Configuration) (left : ℕ) → EndsAfter tree left d →
      AreRelated tree power c d → (IsAtEnd c → IsAtEnd d) →
      Together (StandsFor code power) (GoesOnAltered tree power) code world c events last →
      Together (StandsFor code power) (MakesSteps tree) code world d events last
  goes_on [] world last c d left ends related at_end it = (stands world c d related at_end it.0, it.1)
  goes_on (event ∷ events) world last c d left ends related at_end (here, (after, step, (now, goes, behind))) =
      let at = laws.keeps_up tree power left c d now goes.0 steady ends related goes.1 in
      let next : Configuration = after_steps tree at.steps d in
      let over : IsAtEnd now → IsAtEnd next =
      λ end. subst (λ (further : ℕ). EndsAfter tree further next) (at.ended end) at.still in (
        stands world c d related at_end here,
        (
          after,
          step,
          (next, (at.steps, refl), goes_on events after last now next at.further at.still at.related over behind),
        ),
      )

-- along the events of a world in which some hosts misbehave
pub unaltered : UnalteredLaws → (tree : Program) (placed : PlacedProgram) (bad : ℕ) (start : List (List ℤ))
    (events : List Event) (world last : WorldShape) (code : CodeShape) → program_tree tree ≡ placed.labelled.program →
    PassesLabelCheck placed.hosts.principals placed.labelled placed.needs → EndorsesNothing placed.labelled.program →
    (steps : ℕ) → HasLength tree start steps →
    Together (StandsFor code (exposure_of placed bad)) (GoesOnAltered tree (exposure_of placed bad)) code world
    (configuration_at_start tree start) events last →
    Together (StandsFor code (exposure_of placed bad)) (MakesSteps tree) code world (configuration_at_start tree start)
    events last
unaltered laws tree placed bad start events world last code is checked pure steps halts altered =
    let power = exposure_of placed bad in
    let first = configuration_at_start tree start in
    let steady : IsSteadyProgram tree power =
    laws.steady placed.hosts.principals tree placed.labelled placed.needs (bad_labels bad 0 placed.hosts.hosts) is
    checked pure in
    goes_on laws tree power code steady events world last first first steps halts.ends
    (laws.starts tree power start steady) (λ end. end) altered
