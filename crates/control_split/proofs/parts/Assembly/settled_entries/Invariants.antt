use Rattle.std.proofs.Common.{◌≡◌, ◌++◌, drop}
use Rattle.control_split.specs.Assembly.{settled_entries}
use Rattle.control_split.proofs.parts.Assembly.settled_entries.Given as goal

-- the entries so far with those that are left
abbrev pub invariant-loop-number : goal.invariant-loop-number
invariant-loop-number l =
    l.entries.items ++ settled_entries l.self l.number (drop l.number l.self.entries)
    ≡ settled_entries l.self 0 l.self.entries
