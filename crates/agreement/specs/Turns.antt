-- What is seen of a turn that may be seen, and that changes its host alone.
use Rattle.std.specs.Prelude.{◌≡◌, ◌⊎◌, ℕ, ◌+◌, ℤ, pos, Bool, true, false, not, ◌==◌, if◌then◌else◌, [], ◌∷◌}
use Rattle.std.specs.Prelude.{List, Option, Some, None, ⊤}
use Rattle.std.specs.Option.{IsSomeAnd}
use Rattle.std.specs.Ordering.{int_eq}
use Rattle.js_base.specs.declared.ids.HostId.{HostId}
use Rattle.js_base.specs.declared.ids.FieldId.{FieldId}
use Rattle.js_base.specs.declared.ids.FrameId.{FrameId}
use Rattle.js_base.specs.declared.ids.VarId.{VarId}
use Rattle.js_base.specs.declared.ids.EntryId.{EntryId}
use Rattle.js_base.specs.declared.ids.SiteId.{SiteId}
use Rattle.jif_tree.specs.Store.{row_of, element_at, with_element}
use Rattle.capability.specs.declared.token.Token.{Token}
use Rattle.capability.specs.Tag.{tag_of}
use Rattle.host_code.specs.declared.code.Entry.{Entry}
use Rattle.host_code.specs.declared.instruction.Instr.{Instr}
use Rattle.host_code.specs.declared.instruction.Op.{Op}
use Rattle.host_code.specs.declared.instruction.Op.TheVariants as op
use Rattle.host_code.specs.Riders.{Rider}
use Rattle.host_code.specs.Code.{CodeShape, instruction_at, field_at, variable_at, entry_at}
use Rattle.host_code.specs.Thread.{ThreadShape}
use Rattle.host_stores.specs.Stores.{with_variable}
use Rattle.host_core.specs.Host.{HostState, after_step, after_clearing, with_temporary, with_token}
use Rattle.host_core.specs.Host.{value_in_thread, next_request}
use Rattle.host_core.specs.Turn.{MayReturn}
use Rattle.net_world.specs.World.{WorldShape, state_at}
use Rattle.seen_world.specs.Eyes.{Eyes, is_deep}
use Rattle.agreement.specs.Comes.{Comes}
use Rattle.agreement.specs.Views.{LowView, HostView, gives, Completed, masked, sees_field, sees_variable, sees_read}
use Rattle.agreement.specs.Views.{with_host}

-- ---- which turns

-- An instruction of a host, run with this token, that changes the host alone and sends nothing. A call enters a method
-- on the host. A token is given back to the host itself. So is a result, or it may not go to the host of the token.
abbrev pub ChangesAlone : CodeShape → HostId → Option Token → Op → Type 0
ChangesAlone code me held (op.Read field index) = IsSomeAnd (field_at code field) (λ there. there.host ≡ me)
ChangesAlone code me held (op.Let x value) = ⊤
ChangesAlone code me held (op.Arg x value) = ⊤
ChangesAlone code me held (op.Put field index value) = IsSomeAnd (field_at code field) (λ there. there.host ≡ me)
ChangesAlone code me held (op.Frame site) = ⊤
ChangesAlone code me held (op.Push entry) = ⊤
ChangesAlone code me held (op.Call entry on) = on ≡ me
ChangesAlone code me held (op.Ret x value) =
    IsSomeAnd held (λ token. (token.host ≡ me) ⊎ (¬ MayReturn code (variable_at code x) token.host))
ChangesAlone code me held op.Back = IsSomeAnd held (λ token. token.host ≡ me)
ChangesAlone code me held (op.Branch guard target) = ⊤
ChangesAlone code me held other = ⊥

-- the running thread of a host, at such an instruction
pub record RunsAtInstruction (code : CodeShape) (world : WorldShape) (host : HostId) : Type 0 where
  pub state : HostState
  pub there : state_at world host ≡ Some state
  pub thread : ThreadShape
  pub running : state.running ≡ Some thread
  pub instruction : Instr
  pub is : instruction_at code host thread.at ≡ Some instruction
  pub alone : ChangesAlone code host thread.held instruction.op

-- ---- what it carries

-- an index and a value, each 0 where it may not be seen
pub record Carried : Type 0 where
  pub index : ℤ
  pub value : ℤ

abbrev pub carried_value : ℤ → Carried
carried_value value = record { index = pos 0; value = value }

-- What is set is seen where it is kept, and what is read where it is a temporary. A guard is seen where the block is
-- that it leads to.
abbrev pub carried_in : Eyes → HostState → ThreadShape → Op → Carried
carried_in eyes state thread (op.Read field index) =
    carried_value (masked (sees_read eyes state.me (next_request state thread.at))
    (element_at (row_of state.rows field.0) (value_in_thread state thread index)))
carried_in eyes state thread (op.Let x value) =
    carried_value (masked (sees_variable eyes x) (value_in_thread state thread value))
carried_in eyes state thread (op.Arg x value) =
    carried_value (masked (sees_variable eyes x) (value_in_thread state thread value))
carried_in eyes state thread (op.Put field index value) = record {
  index = masked (sees_field eyes field) (value_in_thread state thread index);
  value = masked (sees_field eyes field) (value_in_thread state thread value);
}
carried_in eyes state thread (op.Ret x value) =
    carried_value (masked (sees_variable eyes x) (value_in_thread state thread value))
carried_in eyes state thread (op.Branch guard target) =
    carried_value (masked (not (is_deep eyes state.me (thread.at + 1))) (value_in_thread state thread guard))
carried_in eyes state thread other = carried_value (pos 0)

-- ---- what is seen then

-- a host without the thread that runs
abbrev pub host_idle : HostView → HostView
host_idle view = record view { running = [] }

abbrev pub variable_shown : HostView → FrameId → VarId → ℤ → HostView
variable_shown view frame x value = record view { variables = with_variable view.variables frame x value }

-- variables of a frame become these values, in order; of a variable that comes twice the last one counts
abbrev pub with_riders : (FrameId → VarId → ℤ) → FrameId → List Rider → FrameId → VarId → ℤ
with_riders variables frame [] = variables
with_riders variables frame (rider ∷ riders) =
    with_riders (with_variable variables frame rider.0 rider.1) frame riders

-- a host has the values that ride to it
abbrev pub riders_shown : HostView → FrameId → List Rider → HostView
riders_shown view frame riders = record view { variables = with_riders view.variables frame riders }

abbrev pub element_shown : HostView → FieldId → ℤ → ℤ → HostView
element_shown view field index value = record view {
  rows = λ number. if number == field.0 then with_element (view.rows number) index value else view.rows number;
}

-- one more frame was made at a site
abbrev pub frame_shown : HostView → SiteId → HostView
frame_shown view site = record view {
  frames = λ number. if number == site.0 then view.frames number + 1 else view.frames number;
}

-- the thread goes on behind it, and has made that frame
abbrev pub framed : HostView → ThreadShape → SiteId → ThreadShape
framed view thread site =
    record (after_clearing thread) { new_frame = record { site = site; count = view.frames site.0 } }

-- the token of the next push of an entry in a frame
abbrev pub token_shown : HostId → HostView → EntryId → FrameId → Token
token_shown host view entry frame = record {
  host = host;
  frame = frame;
  entry = entry;
  serial = view.serials entry.0;
  tag = tag_of view.key host frame entry (view.serials entry.0);
}

-- an entry was pushed, with the token that is kept for its thread
abbrev pub entry_shown : HostId → HostView → EntryId → FrameId → Token → HostView
entry_shown host view entry frame kept = record view {
  entries = record { token = token_shown host view entry frame; entry = entry; frame = frame; kept = kept }
      ∷ view.entries;
  serials = λ number. if number == entry.0 then view.serials number + 1 else view.serials number;
}

-- where a branch leads
abbrev pub branched : ThreadShape → ℕ → ℤ → ThreadShape
branched thread target guard =
    if int_eq guard (pos 0) then record (after_clearing thread) { at = target } else after_clearing thread

-- the thread comes to its next place on a host of which this is seen
abbrev pub ComesBehind : Eyes → LowView → HostId → HostView → ThreadShape → Token → LowView → Type 0
ComesBehind eyes view host now later token after = Comes eyes (with_host view host now) host later token after

-- It comes to an entry of the host, in its new frame.
abbrev pub ComesInto : Eyes → LowView → HostId → ThreadShape → Token → Option Entry → LowView → Type 0
ComesInto eyes view host thread token None after = ⊥
ComesInto eyes view host thread token (Some there) after =
    ComesBehind eyes view host (host_idle (view.hosts host))
    (record (after_clearing thread) { at = there.at; frame = thread.new_frame }) token after

-- A result for the host itself is kept, and another that sends nothing is dropped.
abbrev pub ComesWithResult : Eyes → LowView → HostId → ThreadShape → Token → VarId → ℤ → Bool → LowView → Type 0
ComesWithResult eyes view host thread token x value true after =
    ComesBehind eyes view host (variable_shown (host_idle (view.hosts host)) token.frame x value)
    (after_clearing thread) token after
ComesWithResult eyes view host thread token x value false after =
    ComesBehind eyes view host (host_idle (view.hosts host)) (after_clearing thread) token after

abbrev pub SeenOperation : Eyes → LowView → HostId → ThreadShape → Token → Op → Carried → LowView → Type 0
SeenOperation eyes view host thread token (op.Read field index) carried after =
    ComesBehind eyes view host (host_idle (view.hosts host)) (with_temporary carried.value (after_step thread)) token
    after
SeenOperation eyes view host thread token (op.Let x value) carried after =
    ComesBehind eyes view host (variable_shown (host_idle (view.hosts host)) thread.frame x carried.value)
    (after_clearing thread) token after
SeenOperation eyes view host thread token (op.Arg x value) carried after =
    ComesBehind eyes view host (variable_shown (host_idle (view.hosts host)) thread.new_frame x carried.value)
    (after_clearing thread) token after
SeenOperation eyes view host thread token (op.Put field index value) carried after =
    ComesBehind eyes view host (element_shown (host_idle (view.hosts host)) field carried.index carried.value)
    (after_clearing thread) token after
SeenOperation eyes view host thread token (op.Frame site) carried after =
    ComesBehind eyes view host (frame_shown (host_idle (view.hosts host)) site) (framed (view.hosts host) thread site)
    token after
SeenOperation eyes view host thread token (op.Push entry) carried after =
    let made = token_shown host (view.hosts host) entry thread.frame in
    ComesBehind eyes view host (entry_shown host (host_idle (view.hosts host)) entry thread.frame token)
    (with_token (Some made) (after_clearing thread)) made after
SeenOperation eyes view host thread token (op.Call entry on) carried after =
    ComesInto eyes view host thread token (entry_at eyes.code entry) after
SeenOperation eyes view host thread token (op.Ret x value) carried after =
    ComesWithResult eyes view host thread token x carried.value (token.host.0 == host.0) after
SeenOperation eyes view host thread token op.Back carried after =
    Completed eyes (gives token) (with_host view host (host_idle (view.hosts host))) after
SeenOperation eyes view host thread token (op.Branch guard target) carried after =
    ComesBehind eyes view host (host_idle (view.hosts host)) (branched thread target carried.value) token after
SeenOperation eyes view host thread token other carried after = ⊥

-- The thread that is seen on a host runs its instruction, which carries this.
pub record SeenTurn (eyes : Eyes) (view : LowView) (host : HostId) (carried : Carried) (after : LowView) : Type 0 where
  pub thread : ThreadShape
  pub running : (view.hosts host).running ≡ thread ∷ []
  pub token : Token
  pub held : thread.held ≡ Some token
  pub instruction : Instr
  pub is : instruction_at eyes.code host thread.at ≡ Some instruction
  pub seen : SeenOperation eyes view host thread token instruction.op carried after
