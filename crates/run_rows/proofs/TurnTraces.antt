-- What a turn does to the count of what was ignored, and to the control stack.
use Rattle.std.proofs.Common.{◌≡◌, ◌⊎◌, ◌+◌, Bool, true, false, List, Option, Some, None, ap, sym, refl}
use Rattle.std.proofs.Common.{inl, inr, subst}
use Rattle.std.specs.Prelude.{◌↔◌, ◌==◌, IsTrue, IsSomeAnd, if◌then◌else◌}
use Rattle.std.proofs.lemmas.Bool.Decides.{eqb_tells}
use Rattle.js_base.specs.declared.ids.HostId.{HostId}
use Rattle.js_base.specs.declared.ids.FrameId.{FrameId}
use Rattle.js_base.specs.declared.ids.EntryId.{EntryId}
use Rattle.js_base.specs.declared.ids.VarId.{VarId}
use Rattle.js_base.specs.declared.ids.FieldId.{FieldId}
use Rattle.capability.specs.declared.token.Token.{Token}
use Rattle.host_code.specs.declared.code.Entry.{Entry}
use Rattle.host_code.specs.declared.code_expr.Node.{Node}
use Rattle.host_code.specs.declared.instruction.Instr.{Instr}
use Rattle.host_code.specs.declared.instruction.Op.{Op}
use Rattle.host_code.specs.declared.instruction.Op.TheVariants as op
use Rattle.host_code.specs.Thread.{ThreadShape}
use Rattle.host_code.specs.Code.{CodeShape, CodeFieldShape, field_at, entry_at, instruction_at}
use Rattle.host_core.specs.Host.{HostState, Outcome, with_running, after_pop, without_message, with_one_ignored}
use Rattle.host_core.specs.Turn.{PassesWith, IsTurn, IsTurnOf, IsRunning, after_operation, after_read, after_put}
use Rattle.host_core.specs.Turn.{after_own_push, after_ask, after_go, after_go_with, after_own_call, after_return}
use Rattle.host_core.specs.Turn.{after_back, after_branch, after_call}
use Rattle.run_rows.specs.Rows.{GivesWrong, TurnsWrong}
use Rattle.run_rows.specs.Stacks.{IsStackStep, op_pushes, instruction_pushes}
use Rattle.run_rows.proofs.TakenOff.{takes_off, ignores_none}

-- nothing more was ignored, and the stack is the same
abbrev Stays : HostState → Outcome → Type 0
Stays host outcome = (outcome.state.ignored ≡ host.ignored) × (outcome.state.entries ≡ host.entries)

either : (is : Bool) (host : HostState) (one other : Outcome) → Stays host one → Stays host other →
    Stays host (if is then one else other)
either true host one other first second = first
either false host one other first second = second

reads : (host : HostState) (thread : ThreadShape) (field : FieldId) (index : List Node)
    (found : Option CodeFieldShape) → Stays host (after_read host thread field index found)
reads host thread field index None = (refl, refl)
reads host thread field index (Some there) = either (there.host.0 == host.me.0) host _ _ (refl, refl) (refl, refl)

puts : (host : HostState) (thread : ThreadShape) (field : FieldId) (index value : List Node)
    (found : Option CodeFieldShape) → Stays host (after_put host thread field index value found)
puts host thread field index value None = (refl, refl)
puts host thread field index value (Some there) = either (there.host.0 == host.me.0) host _ _ (refl, refl) (refl, refl)

asks : (host : HostState) (thread : ThreadShape) (entry : EntryId) (on : HostId) (held : Option Token) →
    Stays host (after_ask host thread entry on held)
asks host thread entry on None = (refl, refl)
asks host thread entry on (Some held) = (refl, refl)

goes : (host : HostState) (thread : ThreadShape) (frame : FrameId) (entry : EntryId) (on : HostId)
    (held : Option Token) → Stays host (after_go host thread frame entry on held)
goes host thread frame entry on None = (refl, refl)
goes host thread frame entry on (Some held) = (refl, refl)

goes_with : (host : HostState) (thread : ThreadShape) (frame : FrameId) (entry : EntryId) (on : HostId)
    (riders : List VarId) (held : Option Token) → Stays host (after_go_with host thread frame entry on riders held)
goes_with host thread frame entry on riders None = (refl, refl)
goes_with host thread frame entry on riders (Some held) = (refl, refl)

calls : (host : HostState) (thread : ThreadShape) (there : Option Entry) → Stays host (after_own_call host thread there)
calls host thread None = (refl, refl)
calls host thread (Some there) = (refl, refl)

returns : (host : HostState) (thread : ThreadShape) (variable : VarId) (value : List Node) (held : Option Token)
    (passes : Bool) → Stays host (after_return host thread variable value held passes)
returns host thread variable value None passes = (refl, refl)
returns host thread variable value (Some held) passes =
    either (held.host.0 == host.me.0) host _ _ (refl, refl) (either passes host _ _ (refl, refl) (refl, refl))

-- ---- what an instruction leaves a trace of

-- one more was ignored, as a wrong token was given back, or no more, as none was
abbrev pub Ignores : HostState → Op → Option Token → Outcome → Type 0
Ignores host operation held outcome =
    (GivesWrong host operation held × (outcome.state.ignored ≡ host.ignored + 1))
    ⊎ (¬ GivesWrong host operation held × (outcome.state.ignored ≡ host.ignored))

abbrev Traces : HostState → Op → Option Token → Outcome → Type 0
Traces host operation held outcome =
    Ignores host operation held outcome × IsStackStep (op_pushes operation) host.entries outcome.state.entries

pushes : (host : HostState) (thread : ThreadShape) (entry : EntryId) (held : Option Token) →
    Traces host (op.Push entry) held (after_own_push host thread entry held)
pushes host thread entry None = (inr (λ wrong. wrong, refl), inl refl)
pushes host thread entry (Some held) = (inr (λ wrong. wrong, refl), inr (inl (_, refl, refl)))

backs_here : (code : CodeShape) (host : HostState) (held : Token) (passes : Bool) →
    (IsTrue passes ↔ PassesWith code host op.Back (Some held)) → held.host.0 ≡ host.me.0 →
    Traces host op.Back (Some held)
    (without_message (if passes then after_pop code (with_running host None) host.entries
    else with_one_ignored (with_running host None)))
backs_here code host held true checked here = (
  inr (λ wrong. wrong.1 (checked.0 refl here), ignores_none code (with_running host None) host.entries),
  takes_off None code (with_running host None) host.entries refl,
)
backs_here code host held false checked here =
    (inl ((here, λ top. cc (checked.1 (λ same. top))), refl), inl refl)

backs : (code : CodeShape) (host : HostState) (thread : ThreadShape) (held : Option Token) (passes : Bool) →
    (IsTrue passes ↔ PassesWith code host op.Back held) →
    Traces host op.Back held (after_back code host thread held passes)
backs code host thread None passes checked = (inr (λ wrong. wrong, refl), inl refl)
backs code host thread (Some held) passes checked = elim (eqb_tells held.host.0 host.me.0) [
  | inl same ↦ rw same.0 (backs_here code host held passes checked same.1)
  | inr apart ↦ rw apart.0 (inr (λ wrong. apart.1 wrong.0, refl), inl refl)
]

operates : (code : CodeShape) (host : HostState) (thread : ThreadShape) (operation : Op) (passes : Bool) →
    (IsTrue passes ↔ PassesWith code host operation thread.held) →
    Traces host operation thread.held (after_operation code host thread operation passes)
operates code host thread (op.Read field index) passes checked =
    let stays = reads host thread field index (field_at code field) in
    (inr (λ wrong. wrong, stays.0), inl stays.1)
operates code host thread (op.Let variable value) passes checked = (inr (λ wrong. wrong, refl), inl refl)
operates code host thread (op.Put field index value) passes checked =
    let stays = puts host thread field index value (field_at code field) in
    (inr (λ wrong. wrong, stays.0), inl stays.1)
operates code host thread (op.Send variable to) passes checked = (inr (λ wrong. wrong, refl), inl refl)
operates code host thread (op.Frame site) passes checked = (inr (λ wrong. wrong, refl), inl refl)
operates code host thread (op.Arg variable value) passes checked = (inr (λ wrong. wrong, refl), inl refl)
operates code host thread (op.Pass variable to) passes checked = (inr (λ wrong. wrong, refl), inl refl)
operates code host thread (op.Push entry) passes checked = pushes host thread entry thread.held
operates code host thread (op.Ask entry on) passes checked =
    let stays = asks host thread entry on thread.held in
    (inr (λ wrong. wrong, stays.0), inl stays.1)
operates code host thread (op.Go entry on) passes checked =
    let stays = goes host thread thread.frame entry on thread.held in
    (inr (λ wrong. wrong, stays.0), inl stays.1)
operates code host thread (op.Call entry on) passes checked =
    let stays : Stays host (after_call code host thread entry on) =
    either (on.0 == host.me.0) host _ _ (calls host thread (entry_at code entry))
    (goes host thread thread.new_frame entry on thread.held) in
    (inr (λ wrong. wrong, stays.0), inl stays.1)
operates code host thread (op.Ret variable value) passes checked =
    let stays = returns host thread variable value thread.held passes in
    (inr (λ wrong. wrong, stays.0), inl stays.1)
operates code host thread op.Back passes checked = backs code host thread thread.held passes checked
operates code host thread (op.Branch guard target) passes checked =
    let stays : Stays host (after_branch host thread guard target) = either _ host _ _ (refl, refl) (refl, refl) in
    (inr (λ wrong. wrong, stays.0), inl stays.1)
operates code host thread (op.GoWith entry on riders) passes checked =
    let stays = goes_with host thread thread.frame entry on riders thread.held in
    (inr (λ wrong. wrong, stays.0), inl stays.1)
operates code host thread (op.CallWith entry on riders) passes checked =
    let stays = goes_with host thread thread.new_frame entry on riders thread.held in
    (inr (λ wrong. wrong, stays.0), inl stays.1)

-- ---- the same of a turn

abbrev pub TurnIgnores : CodeShape → HostState → Outcome → Type 0
TurnIgnores code host outcome =
    (TurnsWrong code host × (outcome.state.ignored ≡ host.ignored + 1))
    ⊎ (¬ TurnsWrong code host × (outcome.state.ignored ≡ host.ignored))

abbrev WrongAt : HostState → ThreadShape → Option Instr → Type 0
WrongAt host thread found = IsSomeAnd found (λ instruction. GivesWrong host instruction.op thread.held)

abbrev Runs : HostState → ThreadShape → Option Instr → Outcome → Type 0
Runs host thread found outcome =
    ((WrongAt host thread found × (outcome.state.ignored ≡ host.ignored + 1))
    ⊎ (¬ WrongAt host thread found × (outcome.state.ignored ≡ host.ignored)))
    × IsStackStep (instruction_pushes found) host.entries outcome.state.entries

running : (code : CodeShape) (host : HostState) (thread : ThreadShape) (found : Option Instr) (outcome : Outcome) →
    IsRunning code (with_running host None) thread found outcome → Runs host thread found outcome
running code host thread None outcome leaves = (
  inr (λ wrong. wrong, ap (λ (out : Outcome). out.state.ignored) (sym leaves)),
  inl (ap (λ (out : Outcome). out.state.entries) (sym leaves)),
)
running code host thread (Some instruction) outcome (passes, checked, leaves) =
    subst (λ (out : Outcome). Traces host instruction.op thread.held out) leaves
    (operates code (with_running host None) thread instruction.op passes checked)

turned : (code : CodeShape) (host : HostState) (thread : Option ThreadShape) (outcome : Outcome) →
    IsTurnOf code host thread outcome →
    ((IsSomeAnd thread (λ one. WrongAt host one (instruction_at code host.me one.at))
    × (outcome.state.ignored ≡ host.ignored + 1))
    ⊎ (¬ IsSomeAnd thread (λ one. WrongAt host one (instruction_at code host.me one.at))
    × (outcome.state.ignored ≡ host.ignored)))
turned code host None outcome leaves =
    inr (λ wrong. wrong, ap (λ (out : Outcome). out.state.ignored) (sym leaves))
turned code host (Some thread) outcome turns =
    (running code host thread (instruction_at code host.me thread.at) outcome turns).0

pub turn_ignores : (code : CodeShape) (host : HostState) (outcome : Outcome) → IsTurn code host outcome →
    TurnIgnores code host outcome
turn_ignores code host outcome turns = turned code host host.running outcome turns

-- where this thread runs
pub turn_stacks : (code : CodeShape) (host : HostState) (thread : ThreadShape) (outcome : Outcome) →
    host.running ≡ Some thread → IsTurn code host outcome →
    IsStackStep (instruction_pushes (instruction_at code host.me thread.at)) host.entries outcome.state.entries
turn_stacks code host thread outcome runs turns =
    let own : IsTurnOf code host (Some thread) outcome =
    subst (λ (one : Option ThreadShape). IsTurnOf code host one outcome) runs turns in
    (running code host thread (instruction_at code host.me thread.at) outcome own).1
