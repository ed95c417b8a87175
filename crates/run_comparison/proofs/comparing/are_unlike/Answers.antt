use Rattle.run_comparison.proofs.AlikeLists.{unlike_rows}
use Rattle.run_comparison.proofs.comparing.are_unlike.Goals as goal

pub returns-in-Some-Some : goal.returns-in-Some-Some
returns-in-Some-Some c =
    unlike_rows c.args.one c.args.other c.in-Some-Some.one c.in-Some-Some.other c.is_same_row.result c.in-Some-Some.is-0
    c.in-Some-Some.is-1 c.is_same_row.ensures
