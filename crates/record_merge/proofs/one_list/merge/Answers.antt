use Rattle.std.proofs.Common.{List, Vec, Global, subst}
use Rattle.std.proofs.lemmas.Result.{IfOk-weaker}
use Rattle.event_text.specs.declared.lines.Line.{Line}
use Rattle.net_world.specs.World.{world_at_start}
use Rattle.record_merge.specs.JournalLines.{all_of}
use Rattle.record_merge.specs.Meeting.{MeetsJournals}
use Rattle.record_merge.specs.Reading.{bytes_of}
use Rattle.record_merge.proofs.Merged.{merged_of}
use Rattle.record_merge.proofs.one_list.merge.Goals as goal

pub returns-clause-merged : goal.returns-clause-merged
returns-clause-merged c =
    let code = c.args.code.now in
    let world = world_at_start code c.args.hosts.now.hosts 0 c.args.start.now in
    let read = c.in_ok-lines.ensures.read in
    IfOk-weaker c.merge_lines.result _ _
    (λ events meets. merged_of code world (bytes_of c.args.journals.now) c.in_ok-lines.lines.items events.items
    (record { sound = read.0; said = read.1 })
    (subst (λ (lines : List (Vec Line Global)). MeetsJournals code world (all_of lines) events.items)
    c.deref.ensures.value
    meets))
    c.merge_lines.ensures.meets
