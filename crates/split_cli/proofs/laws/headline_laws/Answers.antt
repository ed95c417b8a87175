use Rattle.split_cli.proofs.Compared.{PrivateLaws, compare_is_private}
use Rattle.split_cli.proofs.Faithful.{AllLaws, replay_is_faithful, drive_is_faithful}
use Rattle.split_cli.proofs.MadePlaced.{MakingLaws, made_placed, made_done}
use Rattle.split_cli.proofs.RestingDrives.{comes_to_rest}
use Rattle.split_cli.proofs.SilentComparisons.{never_differs}
use Rattle.split_cli.proofs.WordsOfTexts.{WordLaws, never_differs_by_text}
use Rattle.split_cli.proofs.laws.headline_laws.Goals as goal

all_laws : (c : goal.After-word_laws) → AllLaws
all_laws c = record {
  reading = record {
    hosts = c.host_file_laws.ensures.sound;
    short = c.host_file_laws.ensures.short_names;
    named = c.named_laws.ensures.of_text;
    kept = c.limit_laws.ensures.kept;
    returned = c.limit_laws.ensures.returns;
    within = c.limit_laws.ensures.within;
    statements = c.program_laws.ensures.statements;
    sites = c.program_laws.ensures.sites;
    numbered = c.program_laws.ensures.well_numbered;
    labelled = c.labelling_laws.ensures.labelled;
    values = c.labelling_laws.ensures.values;
    results = c.labelling_laws.ensures.results;
    given_back = c.result_laws.ensures.given;
    unread = c.result_laws.ensures.unread;
    in_order = c.program_laws.ensures.parameters;
    tokens = c.token_laws.ensures;
    numbers = c.number_laws.ensures.numbers;
  };
  plans = record {
    lengths = c.need_laws.ensures.lengths;
    allowed = c.placement_laws.ensures.allowed;
    hosts = c.placement_laws.ensures.hosts;
  };
  granted = c.asking_laws.ensures.granted;
  obeying = c.obeying_laws.ensures.follows;
  idle = c.obeying_laws.ensures.idle;
  next = c.obeying_laws.ensures.next;
  ending = c.ending_laws.ensures.ends;
  altered = c.integrity_laws.ensures.follows;
  sources = record {
    steady = c.steady_laws.ensures.steady;
    starts = c.steady_laws.ensures.starts;
    keeps_up = c.steady_laws.ensures.keeps_up;
  };
  scripts = record {
    sound = c.split_laws.ensures.sound;
    said_own = c.script_laws.ensures.own;
    own_at_start = c.fits_laws.ensures.own_at_start;
  };
}

private_laws : (c : goal.After-word_laws) → PrivateLaws
private_laws c = record {
  told_alike = c.run_laws.ensures.released;
  none_released = c.run_laws.ensures.none;
  one_step = c.step_laws.ensures.one;
}

words : (c : goal.After-word_laws) → WordLaws
words c = record {
  once = c.lex_laws.ensures;
  releases = c.word_laws.ensures.releases;
  endorses = c.word_laws.ensures.endorses;
}

pub returns-clause-replayed : goal.returns-clause-replayed
returns-clause-replayed c = replay_is_faithful (all_laws c)

pub returns-clause-driven : goal.returns-clause-driven
returns-clause-driven c = drive_is_faithful (all_laws c)

pub returns-clause-compared : goal.returns-clause-compared
returns-clause-compared c = compare_is_private (all_laws c) (private_laws c)

pub returns-clause-comes_to_rest : goal.returns-clause-comes_to_rest
returns-clause-comes_to_rest c = comes_to_rest (all_laws c) c.ending_laws.ensures.halts

pub returns-clause-never_differs : goal.returns-clause-never_differs
returns-clause-never_differs c = never_differs (all_laws c) (private_laws c) c.source_laws.ensures.one_plan

pub returns-clause-never_differs_by_text : goal.returns-clause-never_differs_by_text
returns-clause-never_differs_by_text c = never_differs_by_text (all_laws c) (private_laws c) (words c)

making_laws : (c : goal.After-word_laws) → MakingLaws
making_laws c = record {
  accepted = c.made_laws.ensures.accepted;
  hosts = c.host_file_laws.ensures.sound;
  some_plan = c.placement_laws.ensures.some_plan;
  native = record {
    small = c.token_laws.ensures;
    named = c.named_laws.ensures.of_tokens;
    kept = c.limit_laws.ensures.kept;
    within = c.limit_laws.ensures.within;
    numbered = c.program_laws.ensures.well_numbered;
  };
}

pub returns-clause-made_placed : goal.returns-clause-made_placed
returns-clause-made_placed c = made_placed (making_laws c)

pub returns-clause-made_done : goal.returns-clause-made_done
returns-clause-made_done c = made_done (making_laws c) (all_laws c) c.ending_laws.ensures.halts
