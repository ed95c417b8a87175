-- The code of a program that is split by a plan is sound.
use Rattle.host_code.specs.Sound.{IsSoundCode}
use Rattle.split_rules.specs.Placed.{PlacedProgram, planned_from}
use Rattle.split_rules.specs.Emissions.{counts_after}
use Rattle.split_rules.specs.SplitCode.{split_code}
use Rattle.split_rules.specs.Splittable.{IsSplittable}
use Rattle.split_rules.specs.Walk.{methods_emissions}
use Rattle.split_rules.specs.WalkStart.{front_emissions}
use Rattle.split_rules.proofs.FewItems.{split_is_few}
use Rattle.split_rules.proofs.SoundCode.{sound_code}
use Rattle.split_rules.proofs.WalkedPrograms.{program_goes}

pub split_is_sound : (placed : PlacedProgram) → IsSplittable placed → IsSoundCode (split_code placed)
split_is_sound placed splittable =
    let planned = planned_from placed in
    let counts = counts_after (record { entries = 0; branches = 0 }) (front_emissions placed.labelled planned) in
    let walk = program_goes placed splittable in
    sound_code placed
    (methods_emissions placed.hosts.principals placed.labelled planned counts 0 placed.labelled.program.methods) walk.0
    splittable
    (split_is_few placed splittable) walk.1 walk.2
