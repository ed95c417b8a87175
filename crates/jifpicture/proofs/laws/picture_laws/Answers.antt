use Rattle.std.proofs.Common.{codes, refl, inl, inr, arith}
use Rattle.front_end.specs.PlacedCode.{code_of}
use Rattle.front_end.proofs.AbsentFiles.{told_held}
use Rattle.plan_ways.specs.Asks.{asked_ways}
use Rattle.plan_ways.specs.Whole as ways
use Rattle.jifpicture.specs.Due.{absent, no_form}
use Rattle.jifpicture.specs.Picture.{sheet_of}
use Rattle.jifpicture.proofs.Between.{all_between}
use Rattle.jifpicture.proofs.Numbers.{each_field, each_statement}
use Rattle.jifpicture.proofs.OneVerdict.{OneOfEach, answer_once, due_once}
use Rattle.jifpicture.proofs.Read.{ReadLaws, marked, read_placed}
use Rattle.jifpicture.proofs.Shown.{as_many_fields, as_many_hosts, field_shown, host_shown}
use Rattle.jifpicture.proofs.SomeVerdict.{SomeOfEach, due_some}
use Rattle.jifpicture.proofs.laws.picture_laws.Goals as goal

read_laws : (c : goal.After-run_picture_laws) → ReadLaws
read_laws c = record {
  named = c.named_laws.ensures.of_text;
  numbered = c.program_laws.ensures.statements;
  hosts = c.host_file_laws.ensures.sound;
}

pub returns-clause-hosts : goal.returns-clause-hosts
returns-clause-hosts c = host_shown

pub returns-clause-as_many_hosts : goal.returns-clause-as_many_hosts
returns-clause-as_many_hosts c = as_many_hosts

pub returns-clause-fields : goal.returns-clause-fields
returns-clause-fields c = λ placed number field here.
    let shown = field_shown placed number field here in
    let row = c.plan_laws.ensures.fields (sheet_of placed) number shown.0.0 shown.0.1 in (row, shown.0, shown.1)

pub returns-clause-as_many_fields : goal.returns-clause-as_many_fields
returns-clause-as_many_fields c = as_many_fields

pub returns-clause-texts : goal.returns-clause-texts
returns-clause-texts c = λ program hosts placed accepted.
    let read = read_placed (read_laws c) program hosts placed accepted in
    c.text_laws.ensures.by_tree placed.source.file.principals placed.source.tree read.declared read.named

pub returns-clause-as_many_statements : goal.returns-clause-as_many_statements
returns-clause-as_many_statements c = λ program hosts placed accepted.
    let read = read_placed (read_laws c) program hosts placed accepted in
    c.text_laws.ensures.as_many placed.source.file.principals placed.source.tree read.declared read.named

pub returns-clause-each_field : goal.returns-clause-each_field
returns-clause-each_field c = each_field

pub returns-clause-each_statement : goal.returns-clause-each_statement
returns-clause-each_statement c = each_statement

pub returns-clause-released : goal.returns-clause-released
returns-clause-released c = λ program hosts placed number text room place accepted here.
    let read = read_placed (read_laws c) program hosts placed accepted in
    marked placed number text room place (c.release_laws.ensures.by_number placed.source.tree read.numbered number) here

pub returns-clause-asks : goal.returns-clause-asks
returns-clause-asks c = λ placed.
    let code = code_of placed in
    let tree = placed.source.tree in (
      asked_ways (ways.sheet_of code placed.plan (ways.known_of code tree)) (ways.places_in code tree),
      c.way_laws.ensures.asks code placed.plan tree,
      c.way_laws.ensures.asked code placed.plan tree,
    )

pub returns-clause-between : goal.returns-clause-between
returns-clause-between c = λ placed.
    let code = code_of placed in
    let tree = placed.source.tree in
    all_between (ways.sheet_of code placed.plan (ways.known_of code tree)) (ways.places_in code tree)

one_of_each : (c : goal.After-run_picture_laws) → OneOfEach
one_of_each c = record { plans = c.source_laws.ensures.one_plan; runs = c.run_picture_laws.ensures.one }

some_of_each : (c : goal.After-run_picture_laws) → SomeOfEach
some_of_each c = record { plans = c.source_laws.ensures.some_plan; runs = c.run_picture_laws.ensures.some }

pub returns-clause-one_verdict : goal.returns-clause-one_verdict
returns-clause-one_verdict c = due_once (one_of_each c)

pub returns-clause-one_answer : goal.returns-clause-one_answer
returns-clause-one_answer c = answer_once (one_of_each c)

pub returns-clause-some_verdict : goal.returns-clause-some_verdict
returns-clause-some_verdict c = due_some (some_of_each c)

pub returns-clause-worked_no_words : goal.returns-clause-worked_no_words
returns-clause-worked_no_words c = λ held. no_form ((λ same. omega arith), (λ same. omega arith))

pub returns-clause-worked_four_words : goal.returns-clause-worked_four_words
returns-clause-worked_four_words c = λ held. no_form ((λ same. omega arith), (λ same. omega arith))

pub returns-clause-worked_absent : goal.returns-clause-worked_absent
returns-clause-worked_absent c =
    absent 0 (codes "P") (inl refl) (record { here = refl; absent = refl; before = tt })

pub returns-clause-worked_no_hosts : goal.returns-clause-worked_no_hosts
returns-clause-worked_no_hosts c = λ holds program first second.
    absent 1 (codes "H") (inr refl)
    (record { here = refl; absent = second; before = (told_held holds (codes "P") program first, tt) })
