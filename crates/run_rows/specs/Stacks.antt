-- What an event does to the control stack of its host: it pushes an entry, takes the top one off, or leaves the stack.
use Rattle.std.specs.Prelude.{◌≡◌, ◌⊎◌, ℕ, ◌<◌, ◌==◌, if◌then◌else◌, List, [], ◌∷◌, map, length}
use Rattle.std.specs.Prelude.{Option, Some, None, IfSome, slice_get, unwrap_or}
use Rattle.js_base.specs.declared.ids.HostId.{HostId}
use Rattle.js_base.specs.declared.ids.EntryId.{EntryId}
use Rattle.ics_stack.specs.declared.stack.StackEntry.{StackEntry}
use Rattle.host_code.specs.declared.instruction.Instr.{Instr}
use Rattle.host_code.specs.declared.instruction.Op.{Op}
use Rattle.host_code.specs.declared.instruction.Op.TheVariants as op
use Rattle.host_code.specs.declared.message.Message.{Message}
use Rattle.host_code.specs.declared.message.Message.TheVariants as message
use Rattle.host_code.specs.Code.{CodeShape, halt, instruction_at}
use Rattle.host_core.specs.Host.{HostState}
use Rattle.event_text.specs.declared.event.BadMessage.{BadMessage}
use Rattle.event_text.specs.declared.event.BadMessage.TheVariants as bad
use Rattle.net_world.specs.World.{WorldShape, state_at}
use Rattle.run_rows.specs.declared.row.Change.{Change}
use Rattle.run_rows.specs.declared.row.Change.TheVariants as change
use Rattle.run_rows.specs.declared.row.What.{What}
use Rattle.run_rows.specs.declared.row.What.TheVariants as what

abbrev pub entries_in : Option HostState → List StackEntry
entries_in None = []
entries_in (Some host) = host.entries

-- an entry is pushed where there is one more on top, and taken off where the top one is missing
abbrev pub HasChanged : (before after : List StackEntry) → Change → Type 0
HasChanged before after change.Same = after ≡ before
HasChanged before after (change.Pushed entry) =
    (top : StackEntry) × (after ≡ top ∷ before) × (top.entry ≡ entry)
HasChanged before after (change.TakenOff entry) =
    (top : StackEntry) × (before ≡ top ∷ after) × (top.entry ≡ entry)

-- ---- what an event pushes, if it pushes something

abbrev pub op_pushes : Op → Option EntryId
op_pushes (op.Push entry) = Some entry
op_pushes _ = None

abbrev pub instruction_pushes : Option Instr → Option EntryId
instruction_pushes None = None
instruction_pushes (Some instruction) = op_pushes instruction.op

abbrev pub message_pushes : Message → Option EntryId
message_pushes (message.Sync request frame entry token) = Some entry
message_pushes _ = None

abbrev pub made_pushes : BadMessage → Option EntryId
made_pushes (bad.Sync request frame entry token) = Some entry
made_pushes _ = None

abbrev pub pushed_in : CodeShape → What → Option EntryId
pushed_in code (what.Turn host at) = instruction_pushes (instruction_at code host at)
pushed_in code (what.Take from to taken) = message_pushes taken
pushed_in code (what.Act from to made) = made_pushes made

-- the stack stays, has one more entry on top, which is what the event pushes, or has one less
abbrev pub IsStackStep : Option EntryId → (before after : List StackEntry) → Type 0
IsStackStep pushes before after =
    (after ≡ before)
    ⊎ (((top : StackEntry) × (after ≡ top ∷ before) × (pushes ≡ Some top.entry))
    ⊎ ((top : StackEntry) × (before ≡ top ∷ after)))

-- ---- stacks that are kept beside the hosts

abbrev pub entries_of : List StackEntry → List EntryId
entries_of entries = map (λ on_stack. on_stack.entry) entries

-- before the first event the entry that ends the program is on the root host's stack, and nothing else anywhere
abbrev pub first_stack : CodeShape → HostId → List EntryId
first_stack code host = if host.0 == code.root.0 then halt ∷ [] else []

abbrev pub HaveFirstStacks : CodeShape → WorldShape → Type 0
HaveFirstStacks code world =
    (host : HostId) → IfSome (state_at world host) (λ state. entries_of state.entries ≡ first_stack code host)

abbrev pub stack_at : List (List EntryId) → HostId → List EntryId
stack_at stacks host = unwrap_or (slice_get stacks host.0) []

-- they are those of the hosts
abbrev pub AreStacks : WorldShape → List (List EntryId) → Type 0
AreStacks world stacks =
    (host : HostId) → IfSome (state_at world host) (λ state.
    (host.0 < length stacks) × (entries_of state.entries ≡ stack_at stacks host))

-- this is what an event did to a stack that had so many entries, and has so many now
pub record IsStackChange (pushes : Option EntryId) (before after : ℕ) (old new : List EntryId) (did : Change) :
    Type 0 where
  pub pushed : before < after → (entry : EntryId) → pushes ≡ Some entry →
      (did ≡ change.Pushed entry) × (new ≡ entry ∷ old)
  pub taken : after < before → (entry : EntryId) (below : List EntryId) → old ≡ entry ∷ below →
      (did ≡ change.TakenOff entry) × (new ≡ below)
  pub same : before ≡ after → (did ≡ change.Same) × (new ≡ old)
