use Rattle.std.proofs.Common.{◌≡◌, drop}
use Rattle.std.specs.List.{list_any}
use Rattle.plan_picture.specs.Legend.{is_true}
use Rattle.plan_picture.proofs.legend.some_release.Given as goal

abbrev pub invariant-loop-release : goal.invariant-loop-release
invariant-loop-release l = list_any is_true (drop l.release-index l.released) ≡ list_any is_true l.released
