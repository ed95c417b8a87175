use Rattle.std.proofs.Common.{◌≡◌, false, take}
use Rattle.std.specs.List.{list_any}
use Rattle.split_file.specs.Spelling.{any_ride}
use Rattle.split_file.proofs.writing.version_of.Given as goal

abbrev pub invariant-loop-host : goal.invariant-loop-host
invariant-loop-host l = list_any any_ride (take l.host l.code.parts) ≡ false
