-- Which values the instructions of a split program release: for each instruction of a host the operands of the
-- `declassify` that it evaluates, from the left and inner before outer. What stands in an index that is read is
-- evaluated by that read, and by no other instruction.
use Rattle.std.specs.Prelude.{ℕ, List, [], map, length, slice_get, unwrap_or}
use Rattle.std.specs.List.{range_with_len}
use Rattle.js_base.specs.declared.ids.HostId.{HostId}
use Rattle.host_decl.specs.Hosts.{HostsShape}
use Rattle.host_code.specs.declared.code_expr.Node.{Node}
use Rattle.split_rules.specs.Emissions.{Emission}
use Rattle.split_rules.specs.Placed.{PlacedProgram}
use Rattle.split_rules.specs.SplitCode.{emitted_on}
use Rattle.split_rules.specs.Walk.{program_emissions}

-- by host and by instruction, the nodes of each operand
abbrev pub ReleasesShape : Type 0
ReleasesShape = List (List (List (List Node)))

-- what the instruction at a place of a host releases: nothing where there is none
abbrev pub operands_at : ReleasesShape → HostId → ℕ → List (List Node)
operands_at table host place = unwrap_or (slice_get (unwrap_or (slice_get table host.0) []) place) []

-- those that a host's instructions release, in their order
abbrev pub released_on : List Emission → HostId → List (List (List Node))
released_on emissions host = map (λ one. one.released) (emitted_on host emissions)

-- those of all hosts
abbrev pub releases_by : HostsShape → List Emission → ReleasesShape
releases_by hosts emissions =
    map (λ number. released_on emissions (record { 0 = number })) (range_with_len 0 (length hosts.hosts))

-- what the instructions of a split program release
abbrev pub releases_of : PlacedProgram → ReleasesShape
releases_of placed = releases_by placed.hosts (program_emissions placed)
