use Rattle.std.proofs.Common.{[], codes, refl, arith}
use Rattle.front_end.specs.Verdicts.{no_such_file}
use Rattle.node_starts.specs.SourceNames.{Code}
use Rattle.jiffields.specs.Due.{absent, asks, no_words}
use Rattle.jiffields.proofs.FieldTexts.{none_shown}
use Rattle.jiffields.proofs.OneVerdict.{ReportLaws, answer_once, due_once, fields_due}
use Rattle.jiffields.proofs.SixWords.{no_count}
use Rattle.jiffields.proofs.laws.field_report_laws.Goals as goal

laws : (c : goal.After-field_laws) → ReportLaws
laws c = record {
  sources = record {
    plans = c.source_laws.ensures.one_plan;
    hosts = c.source_laws.ensures.one_hosts;
    one_refusal = c.verify_laws.ensures.one_refusal;
    never_both = c.verify_laws.ensures.never_both;
  };
  determines = c.field_laws.ensures.determined;
}

pub returns-clause-one_verdict : goal.returns-clause-one_verdict
returns-clause-one_verdict c = due_once (laws c)

pub returns-clause-one_answer : goal.returns-clause-one_answer
returns-clause-one_answer c = answer_once (laws c)

pub returns-clause-fields : goal.returns-clause-fields
returns-clause-fields c = fields_due (laws c)

pub returns-clause-no_fields : goal.returns-clause-no_fields
returns-clause-no_fields c = λ code me rows all. none_shown me rows code.fields all

pub returns-clause-worked_line : goal.returns-clause-worked_line
returns-clause-worked_line c = refl

pub returns-clause-worked_no_words : goal.returns-clause-worked_no_words
returns-clause-worked_no_words c = λ held. no_words (no_count [] (λ same. omega arith) (λ same. omega arith))

pub returns-clause-worked_absent : goal.returns-clause-worked_absent
returns-clause-worked_absent c =
    asks
    (record {
      source = Code (codes "C");
      hosts = codes "H";
      host = codes "A";
      start = codes "S";
      journal = codes "J";
    })
    1 (no_such_file (codes "C")) refl (absent 0 (codes "C") (record { here = refl; absent = refl; before = tt }))
