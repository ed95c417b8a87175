-- What a step of one host makes of its stack: it stays, gets one entry more, or loses its top entry, to whoever
-- presents the token of that.
use Rattle.std.proofs.Common.{◌≡◌, ◌∙◌, ℕ, Bool, true, false, List, [], ◌∷◌, Option, Some, None, refl, sym, ap, subst}
use Rattle.std.specs.Ordering.{int_eq}
use Rattle.std.specs.Prelude.{pos, ◌≢◌, ◌==◌, if◌then◌else◌, IsTrue, IsSomeAnd, slice_index}
use Rattle.std.proofs.lemmas.Bool.{ne_eqb}
use Rattle.js_base.specs.declared.ids.HostId.{HostId}
use Rattle.js_base.specs.declared.ids.FieldId.{FieldId}
use Rattle.js_base.specs.declared.ids.EntryId.{EntryId}
use Rattle.js_base.specs.declared.ids.FrameId.{FrameId}
use Rattle.js_base.specs.declared.ids.VarId.{VarId}
use Rattle.capability.specs.declared.token.Token.{Token}
use Rattle.ics_stack.specs.declared.stack.StackEntry.{StackEntry}
use Rattle.ics_stack.specs.Stack.{top_token}
use Rattle.host_code.specs.declared.code.Entry.{Entry}
use Rattle.host_code.specs.declared.code_expr.Node.{Node}
use Rattle.host_code.specs.declared.instruction.Instr.{Instr}
use Rattle.host_code.specs.declared.instruction.Op.{Op}
use Rattle.host_code.specs.declared.instruction.Op.TheVariants as op
use Rattle.host_code.specs.declared.message.Message.{Message}
use Rattle.host_code.specs.declared.message.Message.TheVariants as message
use Rattle.host_code.specs.Thread.{ThreadShape}
use Rattle.host_code.specs.Code.{CodeShape, CodeFieldShape, halt, field_at, entry_at, instruction_at}
use Rattle.host_core.specs.Host.{HostState, Outcome, with_running, with_one_ignored, with_token, with_temporary}
use Rattle.host_core.specs.Host.{after_pop, after_entering, without_message, with_message, value_in_thread}
use Rattle.host_core.specs.Host.{after_clearing, with_variables_set}
use Rattle.host_core.specs.Taking.{IsTaking, PassesCheck, after_taking, after_answer}
use Rattle.host_core.specs.Turn.{with_thread, PassesWith, IsTurn, IsTurnOf}
use Rattle.host_core.specs.Turn.{IsRunning, after_operation, after_read, after_put}
use Rattle.host_core.specs.Turn.{after_own_push, after_ask, after_go, after_go_with, after_own_call, after_return}
use Rattle.host_core.specs.Turn.{after_back}
use Rattle.token_laws.proofs.Riding.{riding_is}
use Rattle.token_laws.proofs.Tests.{number_same}

-- What a step makes of a stack where these tokens were presented. A new entry has a token with the next serial of its
-- entry. No host halts but where the entry that ends the program was on top.
pub data Restacks (presented : Token → Type 0) (old new : HostState) : Type 0 where
  stays : new.entries ≡ old.entries → new.halted ≡ old.halted → Restacks presented old new
  pushes : (on_stack : StackEntry) → new.entries ≡ on_stack ∷ old.entries → new.halted ≡ old.halted →
      on_stack.token.serial ≡ slice_index old.serials on_stack.entry.0 → Restacks presented old new
  pops : (top : StackEntry) → old.entries ≡ top ∷ new.entries → presented top.token →
      (top.entry ≢ halt → new.halted ≡ old.halted) → Restacks presented old new

either : (P : Token → Type 0) (old : HostState) (b : Bool) (first second : Outcome) →
    (b ≡ true → Restacks P old first.state) → Restacks P old second.state →
    Restacks P old (if b then first else second).state
either P old true first second one other = one refl
either P old false first second one other = other

-- where fewer tokens are presented, of those that the top entry has
pub restacks_by : (P Q : Token → Type 0) (old new : HostState) →
    ((token : Token) → P token → top_token old.entries ≡ Some token → Q token) → Restacks P old new → Restacks Q old new
restacks_by P Q old new each (stays is same) = stays is same
restacks_by P Q old new each (pushes on_stack is same next) = pushes on_stack is same next
restacks_by P Q old new each (pops top is given same) = pops top is (each top.token given (ap top_token is)) same

-- ---- an entry that is taken off

-- where a thread starts or ends, neither the stack nor whether the host has halted changes
record IsSameStack (old new : HostState) : Type 0 where
  entries : new.entries ≡ old.entries
  halts : new.halted ≡ old.halted

entering_same : (host : HostState) (there : Option Entry) (frame : FrameId) (token : Token) →
    IsSameStack host (after_entering host there frame token)
entering_same host None frame token = record { entries = refl; halts = refl }
entering_same host (Some entry) frame token = record { entries = refl; halts = refl }

popped_entries : (host : HostState) (there : Option Entry) (frame : FrameId) (kept : Token) (halts : Bool) →
    (if halts then record host { running = None; halted = true }
    else after_entering host there frame kept).entries ≡ host.entries
popped_entries host there frame kept true = refl
popped_entries host there frame kept false = (entering_same host there frame kept).entries

popped_halted : (host : HostState) (there : Option Entry) (frame : FrameId) (kept : Token) (halts : Bool) →
    halts ≡ false → (if halts then record host { running = None; halted = true }
    else after_entering host there frame kept).halted ≡ host.halted
popped_halted host there frame kept true is = absurd (cc)
popped_halted host there frame kept false is = (entering_same host there frame kept).halts

pops_top : (code : CodeShape) (P : Token → Type 0) (host : HostState) (entries : List StackEntry) →
    host.entries ≡ entries → ((token : Token) → top_token entries ≡ Some token → P token) →
    Restacks P host (after_pop code host entries)
pops_top code P host [] are given = stays refl refl
pops_top code P host (top ∷ below) are given =
    let bare : HostState = record host { entries = below } in
    let left = popped_entries bare (entry_at code top.entry) top.frame top.kept (top.entry.0 == halt.0) in
    pops top (are ∙ ap (λ (list : List StackEntry). top ∷ list) (sym left)) (given top.token refl) (λ apart.
    popped_halted bare (entry_at code top.entry) top.frame top.kept (top.entry.0 == halt.0)
    (ne_eqb top.entry.0 halt.0 (λ same.
    let make : ℕ → EntryId = λ n. record { 0 = n } in
    apart (ap make same))))

-- ---- a turn

-- the token of the thread that runs
abbrev pub HeldIs : Option Token → Token → Type 0
HeldIs held token = held ≡ Some token

reads : (P : Token → Type 0) (host : HostState) (thread : ThreadShape) (field : FieldId) (index : List Node)
    (there : Option CodeFieldShape) → Restacks P host (after_read host thread field index there).state
reads P host thread field index None = stays refl refl
reads P host thread field index (Some there) =
    either P host (there.host.0 == host.me.0) _ _ (λ own. stays refl refl) (stays refl refl)

puts : (P : Token → Type 0) (host : HostState) (thread : ThreadShape) (field : FieldId) (index value : List Node)
    (there : Option CodeFieldShape) → Restacks P host (after_put host thread field index value there).state
puts P host thread field index value None = stays refl refl
puts P host thread field index value (Some there) =
    either P host (there.host.0 == host.me.0) _ _ (λ own. stays refl refl) (stays refl refl)

pushes_own : (P : Token → Type 0) (host : HostState) (thread : ThreadShape) (entry : EntryId) (held : Option Token) →
    Restacks P host (after_own_push host thread entry held).state
pushes_own P host thread entry None = stays refl refl
pushes_own P host thread entry (Some held) = pushes _ refl refl refl

asks : (P : Token → Type 0) (host : HostState) (thread : ThreadShape) (entry : EntryId) (on : HostId)
    (held : Option Token) → Restacks P host (after_ask host thread entry on held).state
asks P host thread entry on None = stays refl refl
asks P host thread entry on (Some held) = stays refl refl

goes : (P : Token → Type 0) (host : HostState) (thread : ThreadShape) (frame : FrameId) (entry : EntryId) (on : HostId)
    (held : Option Token) → Restacks P host (after_go host thread frame entry on held).state
goes P host thread frame entry on None = stays refl refl
goes P host thread frame entry on (Some held) = stays refl refl

goes_with : (P : Token → Type 0) (host : HostState) (thread : ThreadShape) (frame : FrameId) (entry : EntryId)
    (on : HostId) (riders : List VarId) (held : Option Token) →
    Restacks P host (after_go_with host thread frame entry on riders held).state
goes_with P host thread frame entry on riders None = stays refl refl
goes_with P host thread frame entry on riders (Some held) = stays refl refl

calls_own : (P : Token → Type 0) (host : HostState) (thread : ThreadShape) (there : Option Entry) →
    Restacks P host (after_own_call host thread there).state
calls_own P host thread None = stays refl refl
calls_own P host thread (Some there) = stays refl refl

gives_result : (P : Token → Type 0) (host : HostState) (thread : ThreadShape) (x : VarId) (value : List Node)
    (held : Option Token) (passes : Bool) → Restacks P host (after_return host thread x value held passes).state
gives_result P host thread x value None passes = stays refl refl
gives_result P host thread x value (Some held) passes =
    either P host (held.host.0 == host.me.0) _ _ (λ own. stays refl refl)
    (either P host passes _ _ (λ is. stays refl refl) (stays refl refl))

either_state : (P : Token → Type 0) (old : HostState) (b : Bool) (first second : HostState) →
    (b ≡ true → Restacks P old first) → Restacks P old second → Restacks P old (if b then first else second)
either_state P old true first second one other = one refl
either_state P old false first second one other = other

-- what else there is in the state before is nothing to the stack
from_bare : (P : Token → Type 0) (bare host new : HostState) → bare.entries ≡ host.entries →
    bare.halted ≡ host.halted → bare.serials ≡ host.serials → Restacks P bare new → Restacks P host new
from_bare P bare host new entries halts serials (stays is same) = stays (is ∙ entries) (same ∙ halts)
from_bare P bare host new entries halts serials (pushes on_stack is same next) =
    pushes on_stack (is ∙ ap (λ (list : List StackEntry). on_stack ∷ list) entries) (same ∙ halts)
    (next ∙ ap (λ (list : List ℕ). slice_index list on_stack.entry.0) serials)
from_bare P bare host new entries halts serials (pops top is given same) =
    pops top (sym entries ∙ is) given (λ apart. same apart ∙ halts)

gives_back : (code : CodeShape) (host : HostState) (thread : ThreadShape) (held : Option Token) (passes : Bool) →
    (IsTrue passes → PassesWith code host op.Back held) →
    Restacks (HeldIs held) host (after_back code host thread held passes).state
gives_back code host thread None passes check = stays refl refl
gives_back code host thread (Some held) passes check =
    let P : Token → Type 0 = HeldIs (Some held) in
    let bare = with_running host None in
    let popped : HostState = after_pop code bare host.entries in
    let ignored : HostState = with_one_ignored bare in
    either P host (held.host.0 == host.me.0) (without_message (if passes then popped else ignored))
    (with_message bare held.host (message.Lgoto held))
    (λ own. either_state P host passes popped ignored (λ is.
    from_bare P bare host popped refl refl refl
    (pops_top code P bare host.entries refl (λ token top.
    sym (check is (number_same held.host.0 host.me.0 own)) ∙ top))) (stays refl refl)) (stays refl refl)

-- only an instruction that gives the token back presents it
abbrev BackWith : Op → ThreadShape → Token → Type 0
BackWith it thread token = (it ≡ op.Back) × HeldIs thread.held token

operation : (code : CodeShape) (host : HostState) (thread : ThreadShape) (it : Op) (passes : Bool) →
    (IsTrue passes → PassesWith code host it thread.held) →
    Restacks (BackWith it thread) host (after_operation code host thread it passes).state
operation code host thread (op.Read field index) passes check = reads _ host thread field index (field_at code field)
operation code host thread (op.Let x value) passes check = stays refl refl
operation code host thread (op.Put field index value) passes check =
    puts _ host thread field index value (field_at code field)
operation code host thread (op.Send x to) passes check = stays refl refl
operation code host thread (op.Frame site) passes check = stays refl refl
operation code host thread (op.Arg x value) passes check = stays refl refl
operation code host thread (op.Pass x to) passes check = stays refl refl
operation code host thread (op.Push entry) passes check = pushes_own _ host thread entry thread.held
operation code host thread (op.Ask entry on) passes check = asks _ host thread entry on thread.held
operation code host thread (op.Go entry on) passes check = goes _ host thread thread.frame entry on thread.held
operation code host thread (op.Call entry on) passes check =
    either (BackWith (op.Call entry on) thread) host (on.0 == host.me.0) _ _
    (λ own. calls_own _ host thread (entry_at code entry)) (goes _ host thread thread.new_frame entry on thread.held)
operation code host thread (op.Ret x value) passes check = gives_result _ host thread x value thread.held passes
operation code host thread op.Back passes check =
    restacks_by (HeldIs thread.held) (BackWith op.Back thread) host
    (after_back code host thread thread.held passes).state (λ token held top. (refl, held))
    (gives_back code host thread thread.held passes check)
operation code host thread (op.Branch guard target) passes check =
    either (BackWith (op.Branch guard target) thread) host (int_eq (value_in_thread host thread guard) (pos 0))
    (with_thread host (record (after_clearing thread) { at = target })) (with_thread host (after_clearing thread))
    (λ is. stays refl refl) (stays refl refl)
operation code host thread (op.GoWith entry on riders) passes check =
    goes_with _ host thread thread.frame entry on riders thread.held
operation code host thread (op.CallWith entry on riders) passes check =
    goes_with _ host thread thread.new_frame entry on riders thread.held

-- the instruction of a thread gives this token back
abbrev pub GivesItBack : CodeShape → HostId → Token → ThreadShape → Type 0
GivesItBack code me token thread = (thread.held ≡ Some token) × (instruction : Instr)
    × (instruction_at code me thread.at ≡ Some instruction) × (instruction.op ≡ op.Back)

running_restacks : (code : CodeShape) (host : HostState) (thread : ThreadShape) (there : Option Instr)
    (outcome : Outcome) → instruction_at code host.me thread.at ≡ there →
    IsRunning code host thread there outcome →
    Restacks (λ token. GivesItBack code host.me token thread) host outcome.state
running_restacks code host thread None outcome is step =
    subst (λ (o : Outcome). Restacks (λ token. GivesItBack code host.me token thread) host o.state) step
    (stays refl refl)
running_restacks code host thread (Some instruction) outcome is step =
    subst (λ (o : Outcome). Restacks (λ token. GivesItBack code host.me token thread) host o.state) step.2
    (restacks_by (BackWith instruction.op thread) (λ token. GivesItBack code host.me token thread) host
    (after_operation code host thread instruction.op step.0).state
    (λ token back top. (back.1, instruction, is, back.0)) (operation code host thread instruction.op step.0 step.1.0))

-- the token of whatever runs
abbrev pub RunsWith : Option ThreadShape → Token → Type 0
RunsWith running token = IsSomeAnd running (λ thread. thread.held ≡ Some token)

-- so it is, where the instruction of that gives it back
abbrev pub RunsBack : CodeShape → HostId → Option ThreadShape → Token → Type 0
RunsBack code me running token = IsSomeAnd running (GivesItBack code me token)

pub held_back : (code : CodeShape) (me : HostId) (running : Option ThreadShape) (token : Token) →
    RunsBack code me running token → RunsWith running token
held_back code me None token back = back
held_back code me (Some thread) token back = back.0

turn_of : (code : CodeShape) (host : HostState) (running : Option ThreadShape) (outcome : Outcome) →
    IsTurnOf code host running outcome → Restacks (RunsBack code host.me running) host outcome.state
turn_of code host None outcome step =
    subst (λ (o : Outcome). Restacks (RunsBack code host.me None) host o.state) step (stays refl refl)
turn_of code host (Some thread) outcome step =
    let bare = with_running host None in
    from_bare (RunsBack code host.me (Some thread)) bare host outcome.state refl refl refl
    (running_restacks code bare thread (instruction_at code host.me thread.at) outcome refl step)

pub back_restacks : (code : CodeShape) (host : HostState) (outcome : Outcome) → IsTurn code host outcome →
    Restacks (RunsBack code host.me host.running) host outcome.state
back_restacks code host outcome step = turn_of code host host.running outcome step

pub turn_restacks : (code : CodeShape) (host : HostState) (outcome : Outcome) → IsTurn code host outcome →
    Restacks (RunsWith host.running) host outcome.state
turn_restacks code host outcome step =
    restacks_by (RunsBack code host.me host.running) (RunsWith host.running) host outcome.state
    (λ token back top. held_back code host.me host.running token back) (back_restacks code host outcome step)

-- ---- a message

-- the message gives a token back
abbrev pub GivesBack : Message → Token → Type 0
GivesBack m token = m ≡ message.Lgoto token

answered_same : (host : HostState) (place : Option ℕ) (answered : ThreadShape → ThreadShape) →
    IsSameStack host (after_answer host place answered)
answered_same host None answered = record { entries = refl; halts = refl }
answered_same host (Some place) answered = record { entries = refl; halts = refl }

stays_same : (P : Token → Type 0) (old new : HostState) → IsSameStack old new → Restacks P old new
stays_same P old new same = stays same.entries same.halts

takes : (code : CodeShape) (host : HostState) (from : HostId) (m : Message) (passes : Bool) →
    (IsTrue passes → PassesCheck code host from m) →
    Restacks (GivesBack m) host (after_taking code host from m passes).state
takes code host from m false check = stays refl refl
takes code host from (message.Get request field index) true check = stays refl refl
takes code host from (message.Set request field index value) true check = stays refl refl
takes code host from (message.Forward request frame x value) true check = stays refl refl
takes code host from (message.Sync request frame entry token) true check = pushes _ refl refl refl
takes code host from (message.Rgoto frame entry token) true check =
    stays_same _ host _ (entering_same host (entry_at code entry) frame token)
takes code host from (message.RgotoWith frame entry token riders) true check =
    let same = entering_same (with_variables_set host frame riders) (entry_at code entry) frame token in
    let rode = sym (riding_is host frame riders) in
    stays (same.entries ∙ ap (λ (h : HostState). h.entries) rode) (same.halts ∙ ap (λ (h : HostState). h.halted) rode)
takes code host from (message.Lgoto token) true check =
    pops_top code (GivesBack (message.Lgoto token)) host host.entries refl (λ other top.
    let same : Some token ≡ Some other = sym (check refl) ∙ top in
    let is : token ≡ other = cc in
    ap (λ (t : Token). message.Lgoto t) is)
takes code host from (message.Value request value) true check =
    stays_same _ host _ (answered_same host _ (with_temporary value))
takes code host from (message.Ack request) true check = stays_same _ host _ (answered_same host _ (λ thread. thread))
takes code host from (message.Token request token) true check =
    stays_same _ host _ (answered_same host _ (with_token (Some token)))

pub taking_restacks : (code : CodeShape) (host : HostState) (from : HostId) (m : Message) (outcome : Outcome) →
    IsTaking code host from m outcome → Restacks (GivesBack m) host outcome.state
taking_restacks code host from m outcome step =
    subst (λ (o : Outcome). Restacks (GivesBack m) host o.state) step.2 (takes code host from m step.0 step.1.0)
