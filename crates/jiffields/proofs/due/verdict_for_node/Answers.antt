use Rattle.std.proofs.Common.{inl, inr, map}
use Rattle.front_end.specs.Stages.{DueThen, given, stopped}
use Rattle.front_end.proofs.Stages.{due_handed_on, due_stops, ends_weaker, stops_weaker}
use Rattle.host_code.specs.Code.{CodeShape}
use Rattle.node_starts.specs.NodeSources.{node_start}
use Rattle.node_starts.specs.SourceNames.{name_of, source_name}
use Rattle.record_merge.specs.JournalLines.{said_line}
use Rattle.jiffields.specs.Due.{DueForNode}
use Rattle.jiffields.specs.Lines.{LinesRead}
use Rattle.jiffields.specs.Names.{NamesRead}
use Rattle.jiffields.specs.Runs.{DueForLines}
use Rattle.jiffields.specs.Words.{asked_shape}
use Rattle.jiffields.proofs.due.verdict_for_node.Goals as goal

pub names_read-requires : goal.names_read-requires
names_read-requires c = c.requires.1

pub returns-in_err-names_read : goal.returns-in_err-names_read
returns-in_err-names_read c = λ j loaded.
    let asked = asked_shape c.args.asked.now in
    let node = node_start c.args.node.now in
    due_handed_on (DueForNode asked j node) c.in_err-names_read.field-0.0 c.from_residual.result
    c.from_residual.ensures
    (due_stops (NamesRead (name_of (source_name c.args.asked.now.source)) node.source.code)
    (λ (code : CodeShape). DueThen (LinesRead asked.journal code j) (DueForLines asked.journal asked.host node))
    c.in_err-names_read.field-0.0 (rw c.name_of.ensures at c.in_err-names_read.ensures.due))

pub returns-in_err-lines : goal.returns-in_err-lines
returns-in_err-lines c = λ j loaded.
    let asked = asked_shape c.args.asked.now in
    let node = node_start c.args.node.now in
    due_handed_on (DueForNode asked j node) c.in_err-lines.field-0.0 c.from_residual-in_err-lines.result
    c.from_residual-in_err-lines.ensures
    (stops_weaker (λ verdict. LinesRead asked.journal node.source.code j (stopped verdict)) (DueForNode asked j node)
    c.in_err-lines.field-0.0
    (λ verdict was. inl (
      node.source.code,
      c.in_ok-names_read.ensures.due,
      inr was,
    ))
    (c.in_err-lines.ensures.read j loaded))

pub returns : goal.returns
returns c = λ j loaded.
    let asked = asked_shape c.args.asked.now in
    let node = node_start c.args.node.now in
    let said = map said_line c.in_ok-lines.lines.items in
    ends_weaker (DueForLines asked.journal asked.host node said) (DueForNode asked j node) c.verdict_for_lines.result
    (λ verdict due. inl (
      node.source.code,
      c.in_ok-names_read.ensures.due,
      inl (said, c.in_ok-lines.ensures.read j loaded, due),
    ))
    (rw c.deref.ensures.value at c.verdict_for_lines.ensures)
