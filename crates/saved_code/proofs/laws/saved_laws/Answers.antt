use Rattle.split_file.proofs.FileLaws.{file_again}
use Rattle.split_rules.specs.SplitCode.{split_code}
use Rattle.saved_code.proofs.RealCode.{real_code}
use Rattle.saved_code.proofs.SavedSources.{ReadingLaws, PlanLaws, saved_there}
use Rattle.saved_code.proofs.laws.saved_laws.Goals as goal

reading_laws : (c : goal.After-placement_laws) → ReadingLaws
reading_laws c = record {
  hosts = c.host_file_laws.ensures.sound;
  short = c.host_file_laws.ensures.short_names;
  named = c.named_laws.ensures.of_text;
  kept = c.limit_laws.ensures.kept;
  returned = c.limit_laws.ensures.returns;
  within = c.limit_laws.ensures.within;
  statements = c.program_laws.ensures.statements;
  sites = c.program_laws.ensures.sites;
  numbered = c.program_laws.ensures.well_numbered;
  labelled = c.labelling_laws.ensures.labelled;
  tokens = c.token_laws.ensures;
  numbers = c.number_laws.ensures.numbers;
}

plan_laws : (c : goal.After-placement_laws) → PlanLaws
plan_laws c = record {
  lengths = c.need_laws.ensures.lengths;
  allowed = c.placement_laws.ensures.allowed;
  hosts = c.placement_laws.ensures.hosts;
}

pub returns-clause-saved_again : goal.returns-clause-saved_again
returns-clause-saved_again c = saved_there (reading_laws c) (plan_laws c)

pub returns-clause-real : goal.returns-clause-real
returns-clause-real c = real_code

pub returns-clause-again : goal.returns-clause-again
returns-clause-again c placed splittable allowed numbers labels =
    file_again (split_code placed) (real_code placed splittable allowed numbers labels)
