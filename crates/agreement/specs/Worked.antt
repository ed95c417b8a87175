-- A small code of which a loop may not be seen, and views of it.
use Rattle.std.specs.Prelude.{ℕ, ◌==◌, if◌then◌else◌, nat_lt, false, ℤ, pos, List, [], ◌∷◌, Option, Some, None, codes}
use Rattle.js_base.specs.declared.ids.VarId.{VarId}
use Rattle.label_lattice.specs.declared.label.Label.{Label}
use Rattle.ics_stack.specs.declared.stack.StackEntry.{StackEntry}
use Rattle.host_code.specs.declared.code_expr.Node.{Node}
use Rattle.host_code.specs.declared.code_expr.Node.TheVariants as node
use Rattle.host_code.specs.Thread.{ThreadShape}
use Rattle.host_core.specs.Start.{main_frame}
use Rattle.split_rules.specs.Positions.{body}
use Rattle.split_shades.specs.Shades.{Shade}
use Rattle.split_shades.specs.Worked.{outer, guarding, looping, scene_on}
use Rattle.token_laws.specs.TokenExamples.{small, host_id, entry_id, first_token, second_token}
use Rattle.seen_world.specs.Eyes.{Eyes}
use Rattle.agreement.specs.Turns.{variable_shown}
use Rattle.agreement.specs.Views.{LowView, HostView, with_host, host_with_thread, thread_out}

-- an instruction under these labels of itself and of its block
abbrev shade_under : Label → Label → Option ℕ → Shade
shade_under pc block guard = record {
  level = body (record { 0 = 0 });
  pc = pc;
  block = block;
  guard = guard;
  temps = [];
  calls = false;
  released = [];
}

-- At places 0 and 1 is the guard of a loop, at 2 what is inside, and at 3 what is behind it.
abbrev shade_of : ℕ → Shade
shade_of place =
    if nat_lt place 2
    then shade_under guarding outer (Some 0)
    else (if place == 2 then shade_under guarding guarding None else shade_under outer outer None)

-- The label of `main` may be seen, and that of the loop may not.
abbrev pub small_eyes : Eyes
small_eyes = record {
  scene = scene_on looping;
  code = small;
  shades = record { entries = []; at = λ host place. shade_of place; exits = λ host loop. 3 };
  bad = λ host. false;
  sees = λ label. label.trust == 3;
}

-- one entry is on each stack, which stands at the guard of the loop
abbrev top : StackEntry
top = record { token = first_token; entry = entry_id 1; frame = main_frame; kept = second_token }

abbrev host_with : List StackEntry → HostView
host_with entries = record {
  key = [];
  rows = λ field. [];
  variables = λ frame x. pos 0;
  running = [];
  waiting = [];
  entries = entries;
  serials = λ number. 0;
  frames = λ site. 0;
  requests = λ place. 0;
}

abbrev pub one_entry : LowView
one_entry = record { hosts = λ host. host_with (top ∷ []); flying = λ from to. []; sent = [] }

-- its thread goes on at a place
abbrev pub popped_at : ℕ → LowView
popped_at place =
    with_host one_entry (host_id 0) (host_with_thread (host_with []) (thread_out place main_frame second_token))

abbrev pub a_variable : VarId
a_variable = record { 0 = 0 }

abbrev pub other_variable : VarId
other_variable = record { 0 = 1 }

-- of two variables the first may not be seen, and the other may
abbrev pub riding_eyes : Eyes
riding_eyes = record small_eyes {
  code = record small {
    labels = guarding ∷ outer ∷ [];
    variables = record { name = codes "main.x"; label = 0 } ∷ record { name = codes "main.y"; label = 1 } ∷ [];
  };
}

-- ---- turns

-- a thread that runs on a host on which nothing else is seen
abbrev pub idle : LowView
idle = record { hosts = λ host. host_with []; flying = λ from to. []; sent = [] }

abbrev pub runs_at : ℕ → ThreadShape
runs_at place = thread_out place main_frame second_token

-- the variable has a value, and the thread is at a place
abbrev pub set_at : ℕ → ℤ → LowView
set_at place value =
    let shown = variable_shown (host_with []) main_frame a_variable value in
    with_host (with_host idle (host_id 0) shown) (host_id 0) (host_with_thread shown (runs_at place))

-- the thread is at a place
abbrev pub came_to : ℕ → LowView
came_to place =
    with_host (with_host idle (host_id 0) (host_with [])) (host_id 0) (host_with_thread (host_with []) (runs_at place))

abbrev pub seven : List Node
seven = node.Number (pos 7) ∷ []
