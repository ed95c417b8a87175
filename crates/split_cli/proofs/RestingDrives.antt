-- Where the plain run ends, hosts that are driven long enough come to rest.
use Rattle.std.proofs.Common.{◌≡◌, ◌≤◌, ◌+◌, ◌*◌, ℕ, List, [], ◌∷◌, map, length, Option, Some, Ok, refl, inl, arith}
use Rattle.std.specs.Prelude.{ℤ}
use Rattle.js_base.specs.declared.limits.TheConstants.{SCRIPT_BYTES}
use Rattle.js_base.specs.declared.status.Status.TheVariants.{Done}
use Rattle.jif_tree.specs.declared.program.Program.{Program}
use Rattle.jif_tree.specs.SourceRun.{HasLength}
use Rattle.event_text.specs.Start.{start_of, program_form}
use Rattle.net_world.specs.World.{world_at_start}
use Rattle.split_rules.specs.Placed.{PlacedProgram}
use Rattle.split_rules.specs.SplitCode.{split_code}
use Rattle.simulation.specs.Ending.{EVENTS, HaltsWithin}
use Rattle.simulation.specs.Obeying.{IsSet}
use Rattle.front_end.specs.PlacedCode.{code_of, program_of}
use Rattle.front_end.specs.PlacedSources.{PlacedSource}
use Rattle.front_end.specs.Starting as starting
use Rattle.front_end.specs.StepCounts.{IsStepCount}
use Rattle.front_end.specs.Verdicts.{Print}
use Rattle.split_words.specs.Commands.{Drive, words_of}
use Rattle.split_cli.specs.Drive.{drive_text}
use Rattle.split_cli.specs.Driven.{rested}
use Rattle.split_cli.specs.Due.{Due, for_command, loaded}
use Rattle.split_cli.specs.Headline.{IsPlacedAs}
use Rattle.split_cli.proofs.Faithful.{AllLaws, set_of}

-- where always the event that comes next happens, the program has halted after so many
abbrev pub HaltsLaw : Type 0
HaltsLaw = (tree : Program) (placed : PlacedProgram) (store : List (List ℤ)) (steps : ℕ) → IsSet tree placed →
    HasLength tree store steps →
    HaltsWithin (split_code placed) (EVENTS * (steps + 1))
    (world_at_start (split_code placed) placed.hosts.hosts 0 store)

pub comes_to_rest : AllLaws → HaltsLaw → (program hosts start p h s : List ℕ) (events steps : ℕ)
    (holds : List ℕ → Option (List ℕ)) (placed : PlacedSource) (tree : Program) (values : List (List ℤ)) →
    IsStepCount events → holds program ≡ Some p → holds hosts ≡ Some h → holds start ≡ Some s →
    IsPlacedAs p h placed tree → length s ≤ SCRIPT_BYTES →
    start_of (map program_form tree.fields.items) s ≡ Ok values → HasLength tree values steps →
    EVENTS * (steps + 1) ≤ events →
    (text : List ℕ) × Due (words_of (Drive program hosts start events)) (Some holds) 3 (Print Done text)
comes_to_rest laws halts program hosts start p h s events steps holds placed tree values few told_p told_h told_s
    is_placed short read ends enough =
    let code = code_of placed in
    let end = halts tree (program_of placed) values steps (set_of laws p h placed tree is_placed) ends in
    let text = drive_text code (length end.events) end.after in
    let within : length end.events ≤ events = let most = end.few in omega arith in (
      text,
      for_command (Drive program hosts start events) 3 (Print Done text) few refl (loaded (Print Done text) (record {
        bytes = p ∷ h ∷ s ∷ [];
        told = (told_p, (told_h, (told_s, tt)));
        due = inl (
          placed,
          is_placed.accepted,
          (
            tree,
            is_placed.tree_is,
            inl (
              values,
              starting.read values short read,
              record {
                events = end.events;
                last = end.after;
                status = Done;
                ends = rested within end.driven end.at_rest;
                verdict_is = refl;
              },
            ),
          ),
        );
      })),
    )
