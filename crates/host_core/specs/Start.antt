-- A host before the first event.
use Rattle.std.specs.Prelude.{ℕ, ◌+◌, ℤ, pos, false, ◌==◌, if◌then◌else◌, List, [], length, replicate}
use Rattle.std.specs.Prelude.{None}
use Rattle.js_base.specs.declared.ids.HostId.{HostId}
use Rattle.js_base.specs.declared.ids.FrameId.{FrameId}
use Rattle.js_base.specs.Counts.{last_count}
use Rattle.capability.specs.declared.token.Token.{Token}
use Rattle.capability.specs.declared.tags.TheConstants.{TAG_BYTES}
use Rattle.host_code.specs.Code.{CodeShape, halt, part_of, entry_at}
use Rattle.host_stores.specs.Stores.{own_rows}
use Rattle.host_core.specs.Host.{HostState, new_token, after_push, after_entering}

-- the frame of `main`
abbrev pub main_frame : FrameId
main_frame = record { site = record { 0 = 0 }; count = 0 }

-- the token that is kept with the entry that ends the program, which nobody was given
abbrev pub last_token : HostId → Token
last_token root =
    record { host = root; frame = main_frame; entry = halt; serial = last_count; tag = replicate TAG_BYTES 0 }

-- A host on which nothing was started: its fields have the values of the store, and all else is empty. Sites count from
-- 1, and so the first count of frames stands for no call.
abbrev pub idle_host : CodeShape → List (List ℤ) → List ℕ → HostId → HostState
idle_host code store key me =
    record {
      me = me;
      key = key;
      rows = own_rows me store 0 code.fields;
      variables = λ frame variable. pos 0;
      running = None;
      waiting = [];
      entries = [];
      serials = replicate (length code.entries) 0;
      frames = replicate (length code.sites + 1) 0;
      requests = replicate (length (part_of code me)) 0;
      ignored = 0;
      halted = false;
    }

-- the entry that ends the program is on the stack, and the thread at `main` holds its token
abbrev pub root_host : CodeShape → HostState → HostState
root_host code idle =
    after_entering (after_push idle halt main_frame (last_token idle.me)) (entry_at code code.main) main_frame
    (new_token idle halt main_frame)

abbrev pub host_at_start : CodeShape → List (List ℤ) → List ℕ → HostId → HostState
host_at_start code store key me =
    if me.0 == code.root.0 then root_host code (idle_host code store key me) else idle_host code store key me
