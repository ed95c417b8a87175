use Rattle.std.proofs.Common.{◌≡◌, ℕ, take}
use Rattle.std.specs.Ordering.{nat_cmp}
use Rattle.std.specs.BTreeSet.{contains}
use Rattle.host_code.specs.Sound.{is_entrance}
use Rattle.split_file.proofs.instructions.entrances_of.Given as goal

abbrev pub invariant-loop-entry : goal.invariant-loop-entry
invariant-loop-entry l =
    (at : ℕ) → contains nat_cmp l.entrances at ≡ is_entrance (take l.entry-index l.entries) l.me at
