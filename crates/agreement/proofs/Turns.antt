-- What a turn leaves of what goes on unseen, for each instruction that leaves the control stack as it is.
use Rattle.std.proofs.Common.{◌≡◌, ◌∙◌, ℕ, suc, ◌+◌, ◌<◌, Bool, true, false, List, [], length, Option, Some}
use Rattle.std.proofs.Common.{None, refl, ap, sym, subst}
use Rattle.std.specs.Prelude.{◌==◌, if◌then◌else◌, IfSome, slice_get, slice_index, slice_set}
use Rattle.std.proofs.lemmas.Bool.{false≢true}
use Rattle.js_base.specs.declared.ids.HostId.{HostId}
use Rattle.js_base.specs.declared.ids.FieldId.{FieldId}
use Rattle.js_base.specs.declared.ids.FrameId.{FrameId}
use Rattle.js_base.specs.declared.ids.VarId.{VarId}
use Rattle.js_base.specs.declared.ids.SiteId.{SiteId}
use Rattle.js_base.specs.declared.ids.EntryId.{EntryId}
use Rattle.label_lattice.specs.declared.label.Label.{Label}
use Rattle.capability.specs.declared.token.Token.{Token}
use Rattle.host_code.specs.declared.code_expr.Node.{Node}
use Rattle.host_code.specs.declared.instruction.Instr.{Instr}
use Rattle.host_code.specs.declared.instruction.Op.TheVariants as op
use Rattle.host_code.specs.Code.{CodeFieldShape, part_of, instruction_at}
use Rattle.host_code.specs.Thread.{ThreadShape}
use Rattle.host_code.specs.Thread.Awaited.{value_of_field, acknowledgement, token_of_entry}
use Rattle.host_code.specs.declared.message.Message.TheVariants as message
use Rattle.host_core.specs.Fits.{RunningFits, StateFits}
use Rattle.host_core.specs.Host.{HostState, Outcome, with_running, with_row_written, with_variable_set, after_clearing}
use Rattle.host_core.specs.Host.{after_step, with_temporary, with_token, next_request, value_in_thread}
use Rattle.host_core.specs.Turn.{after_read, after_put, after_let, after_send, after_frame, after_ask}
use Rattle.host_core.specs.Turn.{after_return, with_thread}
use Rattle.split_shades.specs.ShadedCode.{IsShadedOp}
use Rattle.split_shades.specs.Shades.{Ahead, MeetsShade}
use Rattle.split_shades.specs.Shading.{KeepsInShade, behind}
use Rattle.need_labels.specs.Needs.{label_of}
use Rattle.seen_world.specs.Eyes.{Eyes, is_open, is_deep}
use Rattle.seen_world.proofs.TurnsKept.{meets_next}
use Rattle.agreement.specs.Changes.{StaysSeen}
use Rattle.agreement.specs.Leads.{runs, HiddenEntry, hidden_waiting, Owes}
use Rattle.agreement.specs.Views.{LowView, at, OwedInView}
use Rattle.agreement.proofs.Ends.{Ends, Unseen, goes_on_unseen, waits_unseen}
use Rattle.agreement.proofs.Lists.{index_apart}
use Rattle.agreement.proofs.Places.{instruction_within, deep_of, deep_hidden, deep_as, block_hidden, begun_same}
use Rattle.agreement.proofs.Places.{deep_moved, begun_moved, variable_unseen, field_unseen, variable_stays, row_stays}

-- where what it leaves is a state of a host of the code
abbrev pub EndsIn : Eyes → HostState → ThreadShape → List HiddenEntry → LowView → LowView → ℕ → Outcome → Type 0
EndsIn eyes old thread links now shown label outcome =
    StateFits eyes.code outcome.state → Ends eyes old.me (runs old.me thread) links now shown label outcome

-- the thread runs this instruction
abbrev pub IsHere : Eyes → HostState → ThreadShape → Instr → Type 0
IsHere eyes old thread there = instruction_at eyes.code old.me thread.at ≡ Some there

pub either_ends : (P : Outcome → Type 0) (b : Bool) (one other : Outcome) → P one → P other →
    P (if b then one else other)
either_ends P true one other first second = first
either_ends P false one other first second = second

pub same_seen : (eyes : Eyes) (host : HostId) (old : HostState) (running : Option ThreadShape) →
    StaysSeen eyes host old (with_running old running)
same_seen eyes host old running = record {
  key = refl;
  rows = λ field seen. refl;
  variables = λ frame x seen. refl;
  waiting = refl;
  serials = λ number shown. refl;
  frames = λ site label is seen. refl;
  requests = λ place seen. refl;
}

-- ---- a thread that goes on on the host

-- its next instruction is there
pub next_there : (eyes : Eyes) (me : HostId) (new : HostState) (later : ThreadShape) → new.running ≡ Some later →
    new.me ≡ me → StateFits eyes.code new → later.at < length (part_of eyes.code me)
next_there eyes me new later is same fits =
    let running : RunningFits eyes.code new.me later =
    subst (λ one. IfSome one (RunningFits eyes.code new.me)) is fits.running in
    subst (λ (h : HostId). later.at < length (part_of eyes.code h)) same running.place

-- it stays where it is
pub stays_put : (eyes : Eyes) (old : HostState) (thread : ThreadShape) (links : List HiddenEntry) (token : Token)
    (owed : OwedInView)
    (now shown : LowView) (label : ℕ) → Unseen eyes old thread links token owed now shown →
    EndsIn eyes old thread links now shown label (with_thread (with_running old None) thread)
stays_put eyes old thread links token owed now shown label run fits =
    goes_on_unseen eyes old (with_running old (Some thread)) thread thread links token owed now shown label run refl
    refl
    run.hides.waiting (same_seen eyes old.me old (Some thread)) run.held run.hidden run.owes

-- it goes on at another place, in a block that may not be seen
pub deep_on : (eyes : Eyes) (old new : HostState) (thread later : ThreadShape) (links : List HiddenEntry)
    (token : Token)
    (owed : OwedInView) (now shown : LowView) (label : ℕ) → Unseen eyes old thread links token owed now shown →
    is_deep eyes old.me thread.at ≡ true → is_deep eyes old.me later.at ≡ true → later.held ≡ thread.held →
    new.running ≡ Some later → new.me ≡ old.me → new.entries ≡ old.entries →
    hidden_waiting eyes old.me new.waiting ≡ [] → StaysSeen eyes old.me old new →
    EndsIn eyes old thread links now shown label (record { state = new; sent = None })
deep_on eyes old new thread later links token owed now shown label run deep deep_next held is same entries none stays
    fits =
    goes_on_unseen eyes old new thread later links token owed now shown label run is entries none stays (held ∙
    run.held)
    (deep_hidden eyes run.are old.me later.at (next_there eyes old.me new later is same fits) deep_next)
    (deep_moved eyes links owed old.me old.me thread.at later.at thread.frame later.frame token deep deep_next run.owes)

-- the next place is in the same block
pub next_deep : (eyes : Eyes) (host : HostId) (place : ℕ) (next : Ahead) → is_deep eyes host place ≡ true →
    MeetsShade next (eyes.shades.at host (suc place)) → next.block ≡ (eyes.shades.at host place).block →
    is_deep eyes host (place + 1) ≡ true
next_deep eyes host place next deep meets block =
    deep_as eyes (eyes.shades.at host place).block host (place + 1)
    ((meets_next eyes host place next meets).block ∙ block) (block_hidden eyes host place deep)

-- it goes on at the next place, where the statement goes on that has begun
pub begun_on : (eyes : Eyes) (old : HostState) (thread later : ThreadShape) (links : List HiddenEntry) (token : Token)
    (owed : OwedInView) (now shown : LowView) (label : ℕ) (there : Instr) (next : Ahead) →
    Unseen eyes old thread links token owed now shown → IsHere eyes old thread there →
    MeetsShade next (eyes.shades.at old.me (suc thread.at)) → next.block ≡ (eyes.shades.at old.me thread.at).block →
    next.begun ≡ Some (record {
      pc = (eyes.shades.at old.me thread.at).pc;
      guard = (eyes.shades.at old.me thread.at).guard;
    }) →
    later.at ≡ thread.at + 1 → later.frame ≡ thread.frame → later.held ≡ thread.held →
    EndsIn eyes old thread links now shown label (with_thread (with_running old None) later)
begun_on eyes old thread later links token owed now shown label there next run is meets block begun at_next frame held
    fits =
    let here = eyes.shades.at old.me thread.at in
    let meet = meets_next eyes old.me thread.at next meets in
    let goes = begun_same next (eyes.shades.at old.me (thread.at + 1)) here.pc here.guard meet begun in
    let within = next_there eyes old.me (with_running old (Some later)) later refl refl fits in
    let other = instruction_within eyes old.me (thread.at + 1)
    (subst (λ n. n < length (part_of eyes.code old.me)) at_next within) in
    let owes : Owes eyes (at old.me (thread.at + 1) thread.frame token) links owed =
    begun_moved eyes run.are links owed old.me thread.at (thread.at + 1) thread.frame token there other.0 is other.1
    run.hidden (meet.block ∙ block) goes.0 goes.1 run.owes in
    goes_on_unseen eyes old (with_running old (Some later)) thread later links token owed now shown label run refl refl
    run.hides.waiting (same_seen eyes old.me old (Some later)) (held ∙ run.held)
    (ap (is_open eyes old.me) at_next ∙ ap eyes.sees goes.0 ∙ run.hidden)
    (subst (λ n. Owes eyes (at old.me n later.frame token) links owed) (sym at_next)
    (subst (λ f. Owes eyes (at old.me (thread.at + 1) f token) links owed) (sym frame) owes))

-- ---- fields

pub read_ends : (eyes : Eyes) (old : HostState) (thread : ThreadShape) (links : List HiddenEntry) (token : Token)
    (owed : OwedInView)
    (now shown : LowView) (label : ℕ) (there : Instr) (field : FieldId) (index : List Node) →
    Unseen eyes old thread links token owed now shown → IsHere eyes old thread there →
    IsShadedOp eyes.scene eyes.shades old.me thread.at (op.Read field index) → (found : Option CodeFieldShape) →
    EndsIn eyes old thread links now shown label (after_read (with_running old None) thread field index found)
read_ends eyes old thread links token owed now shown label there field index run is law None =
    stays_put eyes old thread links token owed now shown label run
read_ends eyes old thread links token owed now shown label there field index run is law (Some on) =
    either_ends (EndsIn eyes old thread links now shown label) (on.host.0 == old.me.0) _ _
    (begun_on eyes old thread (with_temporary _ (after_step thread)) links token owed now shown label there law.0 run is
    law.2 (ap (λ (it : Ahead). it.block) law.1.goes) (ap (λ (it : Ahead). it.begun) law.1.goes) refl refl refl)
    (λ fits. waits_unseen eyes old thread (after_step thread) links token owed now shown label value_of_field on.host
    (message.Get (next_request (with_running old None) thread.at) field
    (value_in_thread (with_running old None) thread index)) run refl refl run.held)

pub put_ends : (eyes : Eyes) (old : HostState) (thread : ThreadShape) (links : List HiddenEntry) (token : Token)
    (owed : OwedInView)
    (now shown : LowView) (label : ℕ) (there : Instr) (field : FieldId) (index value : List Node) →
    Unseen eyes old thread links token owed now shown → IsHere eyes old thread there →
    IsShadedOp eyes.scene eyes.shades old.me thread.at (op.Put field index value) → (found : Option CodeFieldShape) →
    EndsIn eyes old thread links now shown label (after_put (with_running old None) thread field index value found)
put_ends eyes old thread links token owed now shown label there field index value run is law None =
    stays_put eyes old thread links token owed now shown label run
put_ends eyes old thread links token owed now shown label there field index value run is law (Some on) =
    let bare = with_running old None in
    let place = value_in_thread bare thread index in
    let number = value_in_thread bare thread value in
    let here = eyes.shades.at old.me thread.at in
    let deep = deep_of eyes run.are old.me thread.at there is law.1.1 run.hidden in
    either_ends (EndsIn eyes old thread links now shown label) (on.host.0 == old.me.0) _ _
    (deep_on eyes old (with_running (with_row_written bare field place number) (Some (after_clearing thread))) thread
    (after_clearing thread) links token owed now shown label run deep
    (next_deep eyes old.me thread.at law.0 deep law.2 (ap (λ (it : Ahead). it.block) law.1.3)) refl refl refl refl
    run.hides.waiting (record {
      key = refl;
      rows = λ other seen. row_stays eyes old.rows field other place number
          (field_unseen eyes run.are field here.pc law.1.2.flows.program run.hidden) seen;
      variables = λ frame x seen. refl;
      waiting = refl;
      serials = λ number shown. refl;
      frames = λ site label is seen. refl;
      requests = λ place seen. refl;
    }))
    (λ fits. waits_unseen eyes old thread (after_clearing thread) links token owed now shown label acknowledgement
    on.host (message.Set (next_request bare thread.at) field place number) run refl refl run.held)

-- ---- variables

pub let_ends : (eyes : Eyes) (old : HostState) (thread : ThreadShape) (links : List HiddenEntry) (token : Token)
    (owed : OwedInView)
    (now shown : LowView) (label : ℕ) (there : Instr) (frame : FrameId) (x : VarId) (value : List Node) (calls : Bool)
    (next : Ahead) → Unseen eyes old thread links token owed now shown → IsHere eyes old thread there →
    (eyes.shades.at old.me thread.at).guard ≡ None →
    KeepsInShade eyes.scene (eyes.shades.at old.me thread.at) value (label_of eyes.scene.basis.labelled x) →
    next ≡ behind (eyes.shades.at old.me thread.at) calls → MeetsShade next (eyes.shades.at old.me (suc thread.at)) →
    EndsIn eyes old thread links now shown label (after_let (with_running old None) thread frame x value)
let_ends eyes old thread links token owed now shown label there frame x value calls next run is unguarded keeps goes
    meets =
    let bare = with_running old None in
    let number = value_in_thread bare thread value in
    let here = eyes.shades.at old.me thread.at in
    let deep = deep_of eyes run.are old.me thread.at there is unguarded run.hidden in
    deep_on eyes old (with_running (with_variable_set bare frame x number) (Some (after_clearing thread))) thread
    (after_clearing thread) links token owed now shown label run deep
    (next_deep eyes old.me thread.at next deep meets (ap (λ (it : Ahead). it.block) goes)) refl refl refl refl
    run.hides.waiting (record {
      key = refl;
      rows = λ field seen. refl;
      variables = λ other y seen. variable_stays eyes old.variables frame other x y number
          (variable_unseen eyes run.are x here.pc keeps.flows.program run.hidden) seen;
      waiting = refl;
      serials = λ number shown. refl;
      frames = λ site label is seen. refl;
      requests = λ place seen. refl;
    })

pub send_ends : (eyes : Eyes) (old : HostState) (thread : ThreadShape) (links : List HiddenEntry) (token : Token)
    (owed : OwedInView)
    (now shown : LowView) (label : ℕ) (frame : FrameId) (x : VarId) (to : HostId) →
    Unseen eyes old thread links token owed now shown →
    EndsIn eyes old thread links now shown label (after_send (with_running old None) thread frame x to)
send_ends eyes old thread links token owed now shown label frame x to run fits =
    waits_unseen eyes old thread (after_step thread) links token owed now shown label acknowledgement to
    (message.Forward (next_request (with_running old None) thread.at) frame x (old.variables frame x)) run refl refl
    run.held

-- ---- frames

frame_stays : (eyes : Eyes) (counts : List ℕ) (site other count : ℕ) (pc label : Label) →
    slice_get eyes.scene.sites site ≡ Some pc → eyes.sees pc ≡ false → slice_get eyes.scene.sites other ≡ Some label →
    eyes.sees label ≡ true → slice_index (slice_set counts site count) other ≡ slice_index counts other
frame_stays eyes counts site other count pc label is hidden there seen =
    index_apart counts site other count (λ same.
    let found : Some label ≡ Some pc = sym there ∙ ap (slice_get eyes.scene.sites) same ∙ is in
    let one : label ≡ pc = cc in
    false≢true (sym hidden ∙ ap eyes.sees (sym one) ∙ seen))

pub frame_ends : (eyes : Eyes) (old : HostState) (thread : ThreadShape) (links : List HiddenEntry) (token : Token)
    (owed : OwedInView) (now shown : LowView) (label : ℕ) (there : Instr) (site : SiteId) →
    Unseen eyes old thread links token owed now shown → IsHere eyes old thread there →
    IsShadedOp eyes.scene eyes.shades old.me thread.at (op.Frame site) →
    EndsIn eyes old thread links now shown label (after_frame (with_running old None) thread site)
frame_ends eyes old thread links token owed now shown label there site run is law =
    let here = eyes.shades.at old.me thread.at in
    let deep = deep_of eyes run.are old.me thread.at there is law.1.1 run.hidden in
    deep_on eyes old _ thread
    (record (after_step thread) { new_frame = record { site = site; count = slice_index old.frames site.0 } }) links
    token
    owed now shown label run deep
    (next_deep eyes old.me thread.at law.0 deep law.2 (ap (λ (it : Ahead). it.block) law.1.4)) refl refl refl refl
    run.hides.waiting (record {
      key = refl;
      rows = λ field seen. refl;
      variables = λ frame x seen. refl;
      waiting = refl;
      serials = λ number shown. refl;
      frames = λ other own there seen.
          frame_stays eyes old.frames site.0 other _ here.pc own law.1.3 run.hidden there seen;
      requests = λ place seen. refl;
    })

-- ---- results

pub return_ends : (eyes : Eyes) (old : HostState) (thread : ThreadShape) (links : List HiddenEntry) (token : Token)
    (owed : OwedInView) (now shown : LowView) (label : ℕ) (there : Instr) (x : VarId) (value : List Node)
    (passes : Bool) →
    Unseen eyes old thread links token owed now shown → IsHere eyes old thread there →
    IsShadedOp eyes.scene eyes.shades old.me thread.at (op.Ret x value) →
    EndsIn eyes old thread links now shown label (after_return (with_running old None) thread x value thread.held
    passes)
return_ends eyes old thread links token owed now shown label there x value passes run is law =
    let bare = with_running old None in
    let number = value_in_thread bare thread value in
    let later = after_clearing thread in
    let deep = deep_of eyes run.are old.me thread.at there is law.1.1 run.hidden in
    subst (λ held. EndsIn eyes old thread links now shown label (after_return bare thread x value held passes))
    (sym run.held)
    (either_ends (EndsIn eyes old thread links now shown label) (token.host.0 == old.me.0) _ _
    (let_ends eyes old thread links token owed now shown label there token.frame x value false law.0 run is law.1.1
    law.1.2 law.1.3 law.2)
    (either_ends (EndsIn eyes old thread links now shown label) passes _ _
    (λ fits. waits_unseen eyes old thread later links token owed now shown label acknowledgement token.host
    (message.Forward (next_request bare thread.at) token.frame x number) run refl refl run.held)
    (deep_on eyes old (with_running old (Some later)) thread later links token owed now shown label run deep
    (next_deep eyes old.me thread.at law.0 deep law.2 (ap (λ (it : Ahead). it.block) law.1.3)) refl refl refl refl
    run.hides.waiting (same_seen eyes old.me old (Some later)))))

-- ---- a push that is asked for

pub ask_ends : (eyes : Eyes) (old : HostState) (thread : ThreadShape) (links : List HiddenEntry) (token : Token)
    (owed : OwedInView)
    (now shown : LowView) (label : ℕ) (entry : EntryId) (on : HostId) →
    Unseen eyes old thread links token owed now shown →
    EndsIn eyes old thread links now shown label (after_ask (with_running old None) thread entry on thread.held)
ask_ends eyes old thread links token owed now shown label entry on run =
    subst (λ held. EndsIn eyes old thread links now shown label (after_ask (with_running old None) thread entry on
    held))
    (sym run.held)
    (λ fits. waits_unseen eyes old thread (with_token None (after_step thread)) links token owed now shown label
    token_of_entry on
    (message.Sync (next_request (with_running old None) thread.at) thread.frame entry token) run refl refl refl)
