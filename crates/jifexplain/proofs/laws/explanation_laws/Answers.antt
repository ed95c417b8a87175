use Rattle.std.proofs.Common.{None, codes, refl, arith}
use Rattle.front_end.specs.Verdicts.{no_such_file}
use Rattle.jifexplain.specs.Due.{absent, no_words, names}
use Rattle.jifexplain.proofs.OneExplanation.{OneOfEach, explained_once, explained_some}
use Rattle.jifexplain.proofs.OneVerdict.{OneOfAll, answer_once, due_once, same_status, telling_once, word_status}
use Rattle.jifexplain.proofs.SomeVerdict.{due_some}
use Rattle.jifexplain.proofs.laws.explanation_laws.Goals as goal

one_of_each : (c : goal.After-host_told_laws) → OneOfEach
one_of_each c = record {
  tokens = c.source_laws.ensures.one_tokens;
  drafts = c.source_laws.ensures.one_parse;
  hosts = c.source_laws.ensures.one_hosts;
  programs = λ file draft declared first second one two.
      c.source_laws.ensures.one_program file draft first second declared one two;
  sources = c.source_laws.ensures.one_source;
  declared = λ h file was. (c.host_file_laws.ensures.sound h file was).declared;
}

one_of_all : (c : goal.After-host_told_laws) → OneOfAll
one_of_all c = record {
  each = one_of_each c;
  told = c.host_told_laws.ensures.one_told;
  plans = c.source_laws.ensures.one_plan;
}

pub returns-clause-one_explanation : goal.returns-clause-one_explanation
returns-clause-one_explanation c = explained_once (one_of_each c) c.host_told_laws.ensures.one_told

pub returns-clause-some_explanation : goal.returns-clause-some_explanation
returns-clause-some_explanation c = explained_some c.host_told_laws.ensures.some_told

pub returns-clause-one_telling : goal.returns-clause-one_telling
returns-clause-one_telling c = telling_once (one_of_each c)

pub returns-clause-same_status : goal.returns-clause-same_status
returns-clause-same_status c = same_status (one_of_all c)

pub returns-clause-word_status : goal.returns-clause-word_status
returns-clause-word_status c = word_status (one_of_all c)

pub returns-clause-one_verdict : goal.returns-clause-one_verdict
returns-clause-one_verdict c = due_once (one_of_all c)

pub returns-clause-one_answer : goal.returns-clause-one_answer
returns-clause-one_answer c = answer_once (one_of_all c)

pub returns-clause-some_verdict : goal.returns-clause-some_verdict
returns-clause-some_verdict c = due_some c.host_told_laws.ensures.some_told c.source_laws.ensures.some_plan

pub returns-clause-worked_no_words : goal.returns-clause-worked_no_words
returns-clause-worked_no_words c = λ held. no_words (λ same. omega arith) (λ same. omega arith)

pub returns-clause-worked_absent : goal.returns-clause-worked_absent
returns-clause-worked_absent c =
    names (codes "P") (codes "H") None 1 (no_such_file (codes "P")) refl
    (absent 0 (codes "P") (record { here = refl; absent = refl; before = tt }))
