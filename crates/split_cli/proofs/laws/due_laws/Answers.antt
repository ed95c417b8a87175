use Rattle.std.proofs.Common.{codes, refl, zero}
use Rattle.split_cli.proofs.DriveEnds.{StepCauses}
use Rattle.split_cli.proofs.MadeTexts.{two_made}
use Rattle.split_cli.proofs.OneDrive.{driven_run}
use Rattle.split_cli.proofs.OneVerdict.{AllLaws, due_once, answer_once}
use Rattle.front_end.proofs.NativeSources.{NativeLaws}
use Rattle.split_cli.proofs.SilentPrograms.{silent_program}
use Rattle.split_cli.proofs.SomeVerdict.{AllCauses, due_some}
use Rattle.split_words.proofs.WordForms.{none_asked}
use Rattle.split_words.specs.Commands.{Check}
use Rattle.split_cli.specs.Due.{no_words, for_command, absent}
use Rattle.front_end.specs.Verdicts.{no_such_file}
use Rattle.split_cli.proofs.laws.due_laws.Goals as goal

native_laws : (c : goal.After-step_laws) → NativeLaws
native_laws c = record {
  small = c.token_laws.ensures;
  named = c.named_laws.ensures.of_tokens;
  kept = c.limit_laws.ensures.kept;
  within = c.limit_laws.ensures.within;
  numbered = c.program_laws.ensures.well_numbered;
}

step_causes : (c : goal.After-step_laws) → StepCauses
step_causes c = record {
  some = c.step_laws.ensures.happens_or_refused;
  obeying = c.step_laws.ensures.misbehaving;
  fits = c.fits_laws.ensures.step;
}

all_causes : (c : goal.After-step_laws) → AllCauses
all_causes c = record {
  sources = c.source_laws.ensures.some_source;
  places = c.source_laws.ensures.some_plan;
  code = record {
    native = native_laws c;
    statements = c.program_laws.ensures.statements;
    sites = c.program_laws.ensures.sites;
    hosts = c.host_file_laws.ensures.sound;
    short_names = c.host_file_laws.ensures.short_names;
    places = c.placement_laws.ensures.hosts;
    sound = c.split_laws.ensures.sound;
    start = c.fits_laws.ensures.start;
  };
  start = c.script_laws.ensures.some_start;
  ends = c.run_laws.ensures.some_answer;
  scripts = c.script_laws.ensures.some_script;
  steps = step_causes c;
  comparing = record {
    steps = step_causes c;
    readable = c.secret_laws.ensures.readable;
    secret = c.secret_laws.ensures.secret;
    quiet = c.secret_laws.ensures.quiet;
    said_own = c.script_laws.ensures.own;
    own_at_start = c.fits_laws.ensures.own_at_start;
    own = c.fits_laws.ensures.own;
  };
}

all_laws : (c : goal.After-step_laws) → AllLaws
all_laws c = record {
  sources = c.source_laws.ensures.one_source;
  places = c.source_laws.ensures.one_plan;
  runs = record {
    same_runs = c.run_laws.ensures.same_runs;
    one_answer = c.run_laws.ensures.one_answer;
  };
  steps = record { one = c.step_laws.ensures.one; not_refused = c.step_laws.ensures.not_refused };
}

pub returns-clause-one_verdict : goal.returns-clause-one_verdict
returns-clause-one_verdict c = due_once (all_laws c)

pub returns-clause-some_verdict : goal.returns-clause-some_verdict
returns-clause-some_verdict c = due_some (all_causes c)

pub returns-clause-one_answer : goal.returns-clause-one_answer
returns-clause-one_answer c = answer_once (all_laws c)

pub returns-clause-driven_runs : goal.returns-clause-driven_runs
returns-clause-driven_runs c = driven_run

pub returns-clause-silent : goal.returns-clause-silent
returns-clause-silent c = silent_program

pub returns-clause-worked_made : goal.returns-clause-worked_made
returns-clause-worked_made c = two_made

pub returns-clause-worked_no_words : goal.returns-clause-worked_no_words
returns-clause-worked_no_words c held = no_words none_asked

pub returns-clause-worked_absent : goal.returns-clause-worked_absent
returns-clause-worked_absent c = for_command (Check (codes "P") (codes "H")) 1 (no_such_file (codes "P")) tt refl
    (absent zero (codes "P") (record { here = refl; absent = refl; before = tt }))
