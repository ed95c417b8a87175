-- How many events may still come before the next step of the plain run, by the pace of the code.
use Rattle.std.specs.Prelude.{ℕ, ◌+◌, ◌*◌, ◌≤◌, List, length}
use Rattle.js_base.specs.declared.ids.HostId.{HostId}
use Rattle.host_code.specs.declared.message.Message.{Message}
use Rattle.host_code.specs.declared.message.Message.TheVariants as message
use Rattle.split_rules.specs.Pace.{PACE, IsPaced}
use Rattle.typed_steps.specs.Views.{Split, Link}

-- by those numbers the code is paced
abbrev pub Paced : Split → Type 0
Paced split = IsPaced split.code split.pace

-- an instruction makes three events at most: a turn, a request that is taken, and an answer that is taken
abbrev pub STEP : ℕ
STEP = 3 * PACE

-- where a thread runs
abbrev pub weight_at : Split → List Link → HostId → ℕ → ℕ
weight_at split chain host at = 3 * (split.pace host.0 at + length chain)

-- A request is still to be taken, and its answer. A set makes a step when it is taken, and a sync puts an entry on the
-- chain.
abbrev pub IsFueledRequest : Split → List Link → HostId → ℕ → ℕ → Message → Type 0
IsFueledRequest split chain host at fuel (message.Set request field place value) =
    weight_at split chain host at + 2 ≤ fuel + STEP
IsFueledRequest split chain host at fuel (message.Sync request frame entry token) =
    weight_at split chain host at + 5 ≤ fuel
IsFueledRequest split chain host at fuel other = weight_at split chain host at + 2 ≤ fuel
