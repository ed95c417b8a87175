use Rattle.std.proofs.Common.{◌≡◌, map, take}
use Rattle.std.specs.Prelude.{string_bytes}
use Rattle.launch.specs.Report as reports
use Rattle.launch.proofs.report.report_text.Given as goal

-- the lines of the hosts so far
abbrev pub invariant-loop-place : goal.invariant-loop-place
invariant-loop-place l =
    string_bytes l.text ≡ reports.report (map (λ host. host.name) (take l.place l.hosts)) (take l.place l.ends)
