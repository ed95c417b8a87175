use Rattle.std.proofs.Common.{codes, refl, arith}
use Rattle.front_end.specs.Verdicts.{no_such_file}
use Rattle.jifmerge.specs.Due.{absent, few_words}
use Rattle.jifmerge.proofs.AcceptedCode.{AcceptedLaws, accepted_again, can_be_said}
use Rattle.jifmerge.proofs.OneVerdict.{MergeLaws, answer_once, due_once}
use Rattle.jifmerge.proofs.Replays.{ReplayLaws, noted_run, read_again}
use Rattle.jifmerge.proofs.laws.merged_laws.Goals as goal

laws : (c : goal.After-merge_laws) → MergeLaws
laws c = record {
  one_merge = c.merge_laws.ensures.one_merge;
  one_cause = c.merge_laws.ensures.one_cause;
  merged_or_refused = c.merge_laws.ensures.merged_or_refused;
  one_draft = c.source_laws.ensures.one_draft;
  one_hosts = c.source_laws.ensures.one_hosts;
  one_plan = c.source_laws.ensures.one_plan;
}

pub returns-clause-one_verdict : goal.returns-clause-one_verdict
returns-clause-one_verdict c = due_once (laws c)

pub returns-clause-one_answer : goal.returns-clause-one_answer
returns-clause-one_answer c = answer_once (laws c)

replay_laws : (c : goal.After-merge_laws) → ReplayLaws
replay_laws c = record {
  steps = record { single = c.single_laws.ensures.step; fits = c.fits_laws.ensures.step };
  start = c.single_laws.ensures.start;
  fits = c.fits_laws.ensures.start;
  script_again = c.script_laws.ensures.script_again;
}

pub returns-clause-replays : goal.returns-clause-replays
returns-clause-replays c = read_again (replay_laws c)

accepted_laws : (c : goal.After-merge_laws) → AcceptedLaws
accepted_laws c = record {
  real = λ program hosts placed accepted. (c.saved_laws.ensures.saved_again program hosts placed accepted).0;
  hosts = c.host_file_laws.ensures.sound;
}

pub returns-clause-can_be_said : goal.returns-clause-can_be_said
returns-clause-can_be_said c = can_be_said (accepted_laws c)

pub returns-clause-read_again : goal.returns-clause-read_again
returns-clause-read_again c = accepted_again (accepted_laws c) (replay_laws c)

pub returns-clause-happens : goal.returns-clause-happens
returns-clause-happens c = λ code world journals events merged.
    (merged.1.last, noted_run code world merged.1.last events merged.1.notes merged.1.run)

pub returns-clause-worked_no_words : goal.returns-clause-worked_no_words
returns-clause-worked_no_words c = λ held. few_words (omega arith)

pub returns-clause-worked_three_words : goal.returns-clause-worked_three_words
returns-clause-worked_three_words c = λ held. few_words (omega arith)

pub returns-clause-worked_absent : goal.returns-clause-worked_absent
returns-clause-worked_absent c =
    absent 0 (codes "P") (omega arith) (record { here = refl; absent = refl; before = tt })
