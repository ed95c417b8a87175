use Rattle.std.proofs.Common.{◌++◌, ◌∙◌, List, ℕ, get_or, map, take, ap, sym}
use Rattle.std.specs.Prelude.{pos}
use Rattle.launch.specs.declared.child_end.ChildEnd.{ChildEnd}
use Rattle.launch.specs.declared.child_end.ChildEnd.TheVariants.{Ended}
use Rattle.launch.specs.Report.{end_line, report}
use Rattle.launch.proofs.Reports.{report_more}
use Rattle.launch.proofs.report.report_text.Goals as goal

pub loop-place-preserved : goal.loop-place-preserved
loop-place-preserved c =
    let place = c.loop-place.place in
    let host = c.index-hosts-place.result in
    let end : ChildEnd = get_or c.args.ends.now place (Ended (pos 0)) in
    let before : List ℕ = report (map (λ host. host.name) (take place c.args.hosts.now)) (take place c.args.ends.now) in
    c.in_ok-push_line.ensures
    ∙ ap (λ (text : List ℕ). text ++ end_line c.name.result.now end) c.loop-place.invariant
    ∙ ap (λ (name : List ℕ). before ++ end_line name end) c.name.ensures
    ∙ sym (report_more (λ host. host.name) c.args.hosts.now c.args.ends.now place host (Ended (pos 0)) c.requires
    c.loop-place-test.true c.index-hosts-place.is)
