-- What a turn of one host leaves and sends that could be the doing of misbehaving hosts: nothing that they may not
-- affect, and nothing that could not be their doing too.
use Rattle.std.proofs.Common.{◌≡◌, ◌≢◌, ◌∙◌, ℕ, zero, suc, ◌+◌, inl, inr, ℤ, Bool, true, false, List, [], ◌∷◌}
use Rattle.std.proofs.Common.{Option, Some, None, refl, sym, ap, subst, arith}
use Rattle.std.specs.Prelude.{◌⊎◌, ◌==◌, if◌then◌else◌, slice_get, unwrap_or, All, Any, IfSome, IsSomeAnd}
use Rattle.std.specs.Prelude.{IsTrue, ◌≤◌, length, slice_index, slice_set, ⊤}
use Rattle.std.specs.List.{AllByRecursion}
use Rattle.std.proofs.lemmas.Bool.Decides.{eqb_tells, leb_tells}
use Rattle.std.proofs.lemmas.Grind.{get_or-set_at}
use Rattle.std.proofs.lemmas.List.{get_or_past, get_or-set_other}
use Rattle.std.proofs.lemmas.List.Elements.{All-cons, All-push}
use Rattle.js_base.specs.declared.ids.HostId.{HostId}
use Rattle.js_base.specs.declared.ids.FieldId.{FieldId}
use Rattle.js_base.specs.declared.ids.EntryId.{EntryId}
use Rattle.js_base.specs.declared.ids.FrameId.{FrameId}
use Rattle.js_base.specs.declared.ids.VarId.{VarId}
use Rattle.js_base.specs.declared.ids.SiteId.{SiteId}
use Rattle.label_lattice.specs.declared.label.Label.{Label}
use Rattle.label_lattice.specs.Label.{IntegFlows, IsTrustedBy}
use Rattle.jif_tree.specs.Altered.{Exposure, IsAffected, FieldIsAffected, VariableIsAffected}
use Rattle.jif_tree.specs.Store.{row_of, store_after_write}
use Rattle.capability.specs.declared.token.Token.{Token}
use Rattle.ics_stack.specs.declared.stack.StackEntry.{StackEntry}
use Rattle.ics_stack.specs.Stack.{top_token}
use Rattle.host_code.specs.declared.code.Entry.{Entry}
use Rattle.host_code.specs.declared.code_expr.Node.{Node}
use Rattle.host_code.specs.declared.instruction.Instr.{Instr}
use Rattle.host_code.specs.declared.instruction.Op.{Op}
use Rattle.host_code.specs.declared.instruction.Op.TheVariants as op
use Rattle.host_code.specs.declared.message.Message.{Message}
use Rattle.host_code.specs.Riders.{Rider}
use Rattle.host_code.specs.Sound.{IsSoundCode, OperationFits, temporaries_at}
use Rattle.host_code.specs.Thread.{ThreadShape, WaitingShape, Awaited}
use Rattle.host_code.specs.Thread.Awaited.{value_of_field, acknowledgement, token_of_entry}
use Rattle.host_code.specs.Code.{CodeFieldShape, halt, field_at, entry_at}
use Rattle.host_code.specs.Code.{part_of, instruction_at}
use Rattle.host_stores.specs.Stores.{is_same_variable}
use Rattle.host_core.specs.Fits.{StateFits, StackEntryFits, IsEntryOf}
use Rattle.host_core.specs.Host.{HostState, Outcome, with_running, with_one_ignored}
use Rattle.host_core.specs.Host.{after_pop, after_entering, after_asking, value_in_thread, without_message, thread_at}
use Rattle.host_core.specs.Host.{with_row_written, with_variable_set, with_variables_set, after_clearing}
use Rattle.host_core.specs.Turn.{PassesWith, after_frame}
use Rattle.host_core.specs.Turn.{IsTurn, IsTurnOf, IsRunning, after_operation, after_read, after_put, after_own_push}
use Rattle.host_core.specs.Turn.{after_ask, after_go, after_go_with, riders_of, after_own_call, after_return}
use Rattle.host_core.specs.Turn.{after_back, with_thread}
use Rattle.host_core.proofs.Kept.{kept_at_rest}
use Rattle.net_world.proofs.Present.{get_other, same_id}
use Rattle.split_rules.specs.Opening.{IsOpenTo, IsOpenCode, OpensOp, MayChange, MayChangeField, HasNeed}
use Rattle.token_laws.proofs.Tests.{parts_same, number_same}
use Rattle.integrity.specs.Exposed.{IsAsBefore}
use Rattle.integrity.specs.Outside.{Threat, PlaceIsOpen, ThreadIsOpen, EntryIsOpen, MessageIsOpen}

-- ---- what is known

-- The code is sound, and at a place that is open it does nothing but what is open. What it lets a host change may be
-- affected where that host misbehaves.
pub record IsKnown (threat : Threat) : Type 0 where
  pub sound : IsSoundCode threat.code
  pub opens : IsOpenCode threat.planned threat.code threat.table
  pub fields : (label : Label) (field : FieldId) → MayChangeField threat.code label field →
      IsSomeAnd (slice_get threat.exposure.fields field.0) (IntegFlows label)
  pub variables : (label : Label) (x : VarId) → MayChange threat.code label x →
      IsSomeAnd (slice_get threat.exposure.variables x.0) (IntegFlows label)

pub any_each : (P Q : Label → Type 0) (bad : List Label) → ((label : Label) → P label → Q label) → Any P bad → Any Q bad
any_each P Q bad each any = (any.0, any.1, any.2, any.3, each any.1 any.4)

pub some_each : {X : Type 0} (P Q : X → Type 0) (o : Option X) → ((x : X) → P x → Q x) → IsSomeAnd o P → IsSomeAnd o Q
some_each P Q None each has = has
some_each P Q (Some x) each has = each x has

some_affected : (o : Option Label) (bad : List Label) → Any (λ host. IsSomeAnd o (IntegFlows host)) bad →
    IsSomeAnd o (IsAffected bad)
some_affected None bad any = any.4
some_affected (Some label) bad any = any

pub field_affected : (threat : Threat) → IsKnown threat → (field : FieldId) →
    Any (λ label. MayChangeField threat.code label field) threat.exposure.bad → FieldIsAffected threat.exposure field
field_affected threat known field any =
    let there = slice_get threat.exposure.fields field.0 in
    some_affected there threat.exposure.bad
    (any_each (λ label. MayChangeField threat.code label field) (λ label. IsSomeAnd there (IntegFlows label))
    threat.exposure.bad (λ label. known.fields label field) any)

pub variable_affected : (threat : Threat) → IsKnown threat → (x : VarId) →
    Any (λ label. MayChange threat.code label x) threat.exposure.bad → VariableIsAffected threat.exposure x
variable_affected threat known x any =
    let there = slice_get threat.exposure.variables x.0 in
    some_affected there threat.exposure.bad
    (any_each (λ label. MayChange threat.code label x) (λ label. IsSomeAnd there (IntegFlows label))
    threat.exposure.bad (λ label. known.variables label x) any)

-- each of several variables may be affected
variables_affected : (threat : Threat) → IsKnown threat → (variables : List VarId) →
    Any (λ label. AllByRecursion (MayChange threat.code label) variables) threat.exposure.bad →
    AllByRecursion (VariableIsAffected threat.exposure) variables
variables_affected threat known [] any = tt
variables_affected threat known (x ∷ others) any =
    let Changes : Label → Type 0 = λ label. AllByRecursion (MayChange threat.code label) (x ∷ others) in (
      variable_affected threat known x
          (any_each Changes (λ label. MayChange threat.code label x) threat.exposure.bad (λ label each. each.0) any),
      variables_affected threat known others
          (any_each Changes (λ label. AllByRecursion (MayChange threat.code label) others) threat.exposure.bad
          (λ label each. each.1) any),
    )

-- ---- what a step leaves and sends

-- What is asked of a thread that waits on a host, and of an entry on a stack. Open ones have it, and maybe others too.
pub record Kinds (threat : Threat) : Type 1 where
  pub waits : HostId → WaitingShape → Type 0
  pub keeps : StackEntry → Type 0
  pub open_waits : (me : HostId) (waiting : WaitingShape) → ThreadIsOpen threat me waiting.thread → waits me waiting
  pub open_keeps : (on_stack : StackEntry) → EntryIsOpen threat on_stack.entry → keeps on_stack

-- what runs is open
pub record HasOpen (threat : Threat) (kinds : Kinds threat) (state : HostState) : Type 0 where
  pub running : IfSome state.running (ThreadIsOpen threat state.me)
  pub waiting : All (kinds.waits state.me) state.waiting
  pub entries : All kinds.keeps state.entries

-- no site has fewer frames
abbrev pub FramesStay : HostState → HostState → Type 0
FramesStay old new = (site : ℕ) → slice_index old.frames site ≤ slice_index new.frames site

pub record LeavesOpen (threat : Threat) (kinds : Kinds threat) (old : HostState) (outcome : Outcome) : Type 0 where
  pub state : HasOpen threat kinds outcome.state
  pub stays : IsAsBefore threat.exposure old outcome.state
  pub frames : FramesStay old outcome.state
  pub sent : IfSome outcome.sent (λ letter. MessageIsOpen threat letter.1)

pub same_frames : (old new : HostState) → new.frames ≡ old.frames → FramesStay old new
same_frames old new same site =
    let is = ap (λ (counts : List ℕ). slice_index counts site) same in
    omega (arith, is)

pub as_before : (exposure : Exposure) (old new : HostState) → new.rows ≡ old.rows → new.variables ≡ old.variables →
    IsAsBefore exposure old new
as_before exposure old new rows variables = record {
  rows = λ field. inl (ap (λ (all : List (List ℤ)). row_of all field.0) rows);
  variables = λ frame x. inl (ap (λ (all : FrameId → VarId → ℤ). all frame x) variables);
}

-- what else there is in the state before is nothing to this
from_same : (threat : Threat) (kinds : Kinds threat) (old bare : HostState) (outcome : Outcome) → bare.rows ≡ old.rows →
    bare.variables ≡ old.variables → bare.frames ≡ old.frames → LeavesOpen threat kinds bare outcome →
    LeavesOpen threat kinds old outcome
from_same threat kinds old bare outcome rows variables frames part = record {
  state = part.state;
  stays = record {
    rows = λ field.
        subst (λ (all : List (List ℤ)). (row_of outcome.state.rows field.0 ≡ row_of all field.0)
        ⊎ FieldIsAffected threat.exposure field) rows (part.stays.rows field);
    variables = λ frame x.
        subst (λ (all : FrameId → VarId → ℤ). (outcome.state.variables frame x ≡ all frame x)
        ⊎ VariableIsAffected threat.exposure x) variables (part.stays.variables frame x);
  };
  frames = λ site.
      let is = ap (λ (counts : List ℕ). slice_index counts site) frames in
      let less = part.frames site in
      omega (arith, is, less);
  sent = part.sent;
}

pub stands : (threat : Threat) (kinds : Kinds threat) (old new : HostState) → new.rows ≡ old.rows →
    new.variables ≡ old.variables →
    new.frames ≡ old.frames → HasOpen threat kinds new → LeavesOpen threat kinds old (without_message new)
stands threat kinds old new rows variables frames was = record {
  state = was;
  stays = as_before threat.exposure old new rows variables;
  frames = same_frames old new frames;
  sent = tt;
}

either : (threat : Threat) (kinds : Kinds threat) (old : HostState) (b : Bool) (first second : Outcome) →
    (b ≡ true → LeavesOpen threat kinds old first) → LeavesOpen threat kinds old second →
    LeavesOpen threat kinds old (if b then first else second)
either threat kinds old true first second one other = one refl
either threat kinds old false first second one other = other

-- ---- the changes

runs : (threat : Threat) (kinds : Kinds threat) (host : HostState) (running : Option ThreadShape) →
    HasOpen threat kinds host →
    IfSome running (ThreadIsOpen threat host.me) → HasOpen threat kinds (with_running host running)
runs threat kinds host running was also = record { running = also; waiting = was.waiting; entries = was.entries }

goes_on : (threat : Threat) (kinds : Kinds threat) (host : HostState) (thread : ThreadShape) →
    HasOpen threat kinds host →
    ThreadIsOpen threat host.me thread → LeavesOpen threat kinds host (with_thread host thread)
goes_on threat kinds host thread was also =
    stands threat kinds host (with_running host (Some thread)) refl refl refl (runs threat kinds host
    (Some thread) was also)

waits : (threat : Threat) (kinds : Kinds threat) (host : HostState) (at : ℕ) (thread : ThreadShape)
    (awaited : Awaited) (to : HostId)
    (m : Message) → HasOpen threat kinds host → ThreadIsOpen threat host.me thread → MessageIsOpen threat m →
    LeavesOpen threat kinds host (record { state = after_asking host at thread awaited to; sent = Some (to, m) })
waits threat kinds host at thread awaited to m was also said = record {
  state = record {
    running = tt;
    waiting = All-push (kinds.waits host.me) host.waiting _ was.waiting (kinds.open_waits host.me _ also);
    entries = was.entries;
  };
  stays = as_before threat.exposure host (after_asking host at thread awaited to) refl refl;
  frames = same_frames host (after_asking host at thread awaited to) refl;
  sent = said;
}

written : (exposure : Exposure) (rows : List (List ℤ)) (to : FieldId) (index value : ℤ) (field : FieldId) →
    FieldIsAffected exposure to →
    (row_of (store_after_write rows to.0 index value) field.0 ≡ row_of rows field.0)
    ⊎ FieldIsAffected exposure field
written exposure rows to index value field affected = elim (eqb_tells field.0 to.0) [
  | inl same ↦
      inr (subst (λ (n : ℕ). IsSomeAnd (slice_get exposure.fields n) (IsAffected exposure.bad)) (sym same.1) affected)
  | inr apart ↦
      inl (ap (λ (o : Option (List ℤ)). unwrap_or o []) (get_other rows to.0 field.0 _ apart.1))
]

pub writes : (exposure : Exposure) (host : HostState) (field : FieldId) (index value : ℤ) →
    FieldIsAffected exposure field → IsAsBefore exposure host (with_row_written host field index value)
writes exposure host field index value affected = record {
  rows = λ other. written exposure host.rows field index value other affected;
  variables = λ frame x. inl refl;
}

set_if : (b : Bool) (value other : ℤ) (A : Type 0) → (b ≡ true → A) → ((if b then value else other) ≡ other) ⊎ A
set_if true value other A also = inr (also refl)
set_if false value other A also = inl refl

pub sets : (exposure : Exposure) (host : HostState) (frame : FrameId) (x : VarId) (value : ℤ) →
    VariableIsAffected exposure x → IsAsBefore exposure host (with_variable_set host frame x value)
sets exposure host frame x value affected = record {
  rows = λ field. inl refl;
  variables = λ other another.
      set_if (is_same_variable frame x other another) value (host.variables other another)
      (VariableIsAffected exposure another) (λ is.
      subst (λ (n : ℕ). IsSomeAnd (slice_get exposure.variables n) (IsAffected exposure.bad))
      (number_same x.0 another.0 (parts_same _ _ is).1) affected);
}

-- what is as it was after each of two changes, or may be affected
pub same_then : {X : Type 0} (first second third : X) (A : Type 0) → (second ≡ first) ⊎ A → (third ≡ second) ⊎ A →
    (third ≡ first) ⊎ A
same_then first second third A (inl is) (inl also) = inl (also ∙ is)
same_then first second third A (inl is) (inr may) = inr may
same_then first second third A (inr may) later = inr may

-- what is open behind a change of a variable that may be affected is open with that change
behind_set : (threat : Threat) (kinds : Kinds threat) (host : HostState) (frame : FrameId) (x : VarId) (value : ℤ)
    (outcome : Outcome) → VariableIsAffected threat.exposure x →
    LeavesOpen threat kinds (with_variable_set host frame x value) outcome → LeavesOpen threat kinds host outcome
behind_set threat kinds host frame x value outcome affected part =
    let changed = sets threat.exposure host frame x value affected in
    record {
      state = part.state;
      stays = record {
        rows = part.stays.rows;
        variables = λ other another.
            same_then _ _ _ _ (changed.variables other another) (part.stays.variables other another);
      };
      frames = part.frames;
      sent = part.sent;
    }

-- ---- entries

is_halt : (there : EntryId) → there.0 ≡ 0 → there ≡ halt
is_halt there is = let make : ℕ → EntryId = λ n. record { 0 = n } in ap make is

-- the place of an entry is open that a misbehaving host may enter at
entered : (threat : Threat) → IsKnown threat → (me : HostId) (there : EntryId) (number : ℕ) → there.0 ≡ number →
    EntryIsOpen threat there → (found : Option Entry) → slice_get threat.code.entries number ≡ found →
    IsSomeAnd found (λ entry. entry.host ≡ me) → IfSome found (λ entry. PlaceIsOpen threat me entry.at)
entered threat known me there zero is may found at on = absurd (may.0 (is_halt there is))
entered threat known me there (suc number) is may None at on = tt
entered threat known me there (suc number) is may (Some entry) at on =
    any_each (λ label. HasNeed threat.code label there)
    (λ label. IsOpenTo threat.planned label (threat.table.at me.0 entry.at)) threat.exposure.bad (λ label has.
    subst (λ (h : HostId). IsOpenTo threat.planned label (threat.table.at h.0 entry.at)) on
    (known.opens.entries label number entry at
    (subst (λ (o : Option Entry). IsSomeAnd o (λ e. IsTrustedBy label e.need))
    (ap (slice_get threat.code.entries) is ∙ at) has))) may.1

pub opened : (threat : Threat) → IsKnown threat → (me : HostId) (there : EntryId) → EntryIsOpen threat there →
    IsEntryOf threat.code me there → IfSome (entry_at threat.code there) (λ entry. PlaceIsOpen threat me entry.at)
opened threat known me there may on =
    entered threat known me there there.0 refl may (entry_at threat.code there) refl on

pub enters : (threat : Threat) (kinds : Kinds threat) (host : HostState) (found : Option Entry) (frame : FrameId)
    (token : Token) →
    HasOpen threat kinds host → IfSome found (λ entry. PlaceIsOpen threat host.me entry.at) →
    LeavesOpen threat kinds host (without_message (after_entering host found frame token))
enters threat kinds host None frame token was at =
    stands threat kinds host (with_running host None) refl refl refl (runs threat kinds host None was tt)
enters threat kinds host (Some entry) frame token was at =
    let thread = thread_at entry frame token in
    stands threat kinds host (with_running host (Some thread)) refl refl refl (runs threat kinds host
    (Some thread) was at)

-- it starts likewise where values ride for variables that may be affected
pub enters_with : (threat : Threat) (kinds : Kinds threat) (host : HostState) (found : Option Entry) (frame : FrameId)
    (token : Token) (riders : List Rider) →
    HasOpen threat kinds host → IfSome found (λ entry. PlaceIsOpen threat host.me entry.at) →
    AllByRecursion (λ rider. VariableIsAffected threat.exposure rider.0) riders →
    LeavesOpen threat kinds host
    (without_message (after_entering (with_variables_set host frame riders) found frame token))
enters_with threat kinds host found frame token [] was at may = enters threat kinds host found frame token was at
enters_with threat kinds host found frame token (rider ∷ riders) was at may =
    behind_set threat kinds host frame rider.0 rider.1 _ may.0
    (enters_with threat kinds (with_variable_set host frame rider.0 rider.1) found frame token riders
    (record { running = was.running; waiting = was.waiting; entries = was.entries }) at may.1)

popped : (threat : Threat) (kinds : Kinds threat) (host : HostState) (found : Option Entry) (frame : FrameId)
    (kept : Token) (halts : Bool) →
    HasOpen threat kinds host → IfSome found (λ entry. PlaceIsOpen threat host.me entry.at) →
    LeavesOpen threat kinds host (without_message (if halts then record host { running = None; halted = true }
    else after_entering host found frame kept))
popped threat kinds host found frame kept true was at =
    stands threat kinds host (record host { running = None; halted = true }) refl refl refl
    (record { running = tt; waiting = was.waiting; entries = was.entries })
popped threat kinds host found frame kept false was at = enters threat kinds host found frame kept was at

-- the entry on top of a stack is open
abbrev pub TopIsOpen : Threat → List StackEntry → Type 0
TopIsOpen threat [] = ⊤
TopIsOpen threat (top ∷ below) = EntryIsOpen threat top.entry

pub pops : (threat : Threat) (kinds : Kinds threat) → IsKnown threat → (host : HostState) (entries : List StackEntry) →
    HasOpen threat kinds host → All kinds.keeps entries → TopIsOpen threat entries →
    All (StackEntryFits threat.code host.me) entries →
    LeavesOpen threat kinds host (without_message (after_pop threat.code host entries))
pops threat kinds known host [] was all may fits = stands threat kinds host host refl refl refl was
pops threat kinds known host (top ∷ below) was all may fits =
    let bare : HostState = record host { entries = below } in
    let also : HasOpen threat kinds bare =
    record {
      running = was.running;
      waiting = was.waiting;
      entries = λ k d lt. all (suc k) d (omega arith);
    } in
    from_same threat kinds host bare _ refl refl refl
    (popped threat kinds bare (entry_at threat.code top.entry) top.frame top.kept (top.entry.0 == halt.0) also
    (opened threat known host.me top.entry may (fits 0 top (omega arith)).entry))

-- ---- the instructions

abbrev OpIsOpen : Threat → HostId → ℕ → Op → Type 0
OpIsOpen threat me place operation =
    Any (λ label. OpensOp threat.planned threat.code threat.table label me place operation) threat.exposure.bad

part : (threat : Threat) (me : HostId) (place : ℕ) (operation : Op) (Q : Label → Type 0) →
    ((label : Label) → OpensOp threat.planned threat.code threat.table label me place operation → Q label) →
    OpIsOpen threat me place operation → Any Q threat.exposure.bad
part threat me place operation Q each law =
    any_each (λ label. OpensOp threat.planned threat.code threat.table label me place operation) Q
    threat.exposure.bad each law

behind : (threat : Threat) (me : HostId) (place : ℕ) (operation : Op) →
    ((label : Label) → OpensOp threat.planned threat.code threat.table label me place operation →
    IsOpenTo threat.planned label (threat.table.at me.0 (suc place))) → OpIsOpen threat me place operation →
    PlaceIsOpen threat me (place + 1)
behind threat me place operation each law =
    let same : suc place ≡ place + 1 = omega arith in
    subst (PlaceIsOpen threat me) same
    (part threat me place operation (λ label. IsOpenTo threat.planned label (threat.table.at me.0
    (suc place))) each law)

reads : (threat : Threat) (kinds : Kinds threat) (host : HostState) (thread : ThreadShape) (field : FieldId)
    (index : List Node)
    (there : Option CodeFieldShape) → HasOpen threat kinds host → ThreadIsOpen threat host.me thread →
    PlaceIsOpen threat host.me (thread.at + 1) → LeavesOpen threat kinds host (after_read host thread field index there)
reads threat kinds host thread field index None was here next = goes_on threat kinds host thread was here
reads threat kinds host thread field index (Some there) was here next =
    either threat kinds host (there.host.0 == host.me.0) _ _ (λ own. goes_on threat kinds host _ was next)
    (waits threat kinds host thread.at _ value_of_field there.host _ was next tt)

writes_on : (threat : Threat) (kinds : Kinds threat) (host : HostState) (thread : ThreadShape) (field : FieldId)
    (index value : ℤ) →
    HasOpen threat kinds host → ThreadIsOpen threat host.me thread → FieldIsAffected threat.exposure field →
    LeavesOpen threat kinds host (with_thread (with_row_written host field index value) thread)
writes_on threat kinds host thread field index value was here may =
    let changed = writes threat.exposure host field index value may in
    record {
      state = record { running = here; waiting = was.waiting; entries = was.entries };
      stays = record { rows = changed.rows; variables = changed.variables };
      frames = λ site. omega arith;
      sent = tt;
    }

sets_on : (threat : Threat) (kinds : Kinds threat) (host : HostState) (thread : ThreadShape) (frame : FrameId)
    (x : VarId) (value : ℤ) →
    HasOpen threat kinds host → ThreadIsOpen threat host.me thread → VariableIsAffected threat.exposure x →
    LeavesOpen threat kinds host (with_thread (with_variable_set host frame x value) thread)
sets_on threat kinds host thread frame x value was here may =
    let changed = sets threat.exposure host frame x value may in
    record {
      state = record { running = here; waiting = was.waiting; entries = was.entries };
      stays = record { rows = changed.rows; variables = changed.variables };
      frames = λ site. omega arith;
      sent = tt;
    }

one_frame_more : (counts : List ℕ) (site place : ℕ) →
    slice_index counts place ≤ slice_index (slice_set counts site (slice_index counts site + 1)) place
one_frame_more counts site place = elim (eqb_tells place site) [
  | inl same ↦ elim (leb_tells (length counts) site) [
    | inl past ↦
        let none = get_or_past counts place 0 (omega (arith, past.1, same.1)) in
        omega (arith, none)
    | inr within ↦
        let is = get_or-set_at counts site place (slice_index counts site + 1) 0 same.1 within.1 in
        let was = ap (λ (at : ℕ). slice_index counts at) same.1 in
        omega (arith, is, was)
  ]
  | inr apart ↦
      let is = get_or-set_other counts site place (slice_index counts site + 1) 0 apart.1 in
      omega (arith, is)
]

makes_frame : (threat : Threat) (kinds : Kinds threat) (host : HostState) (thread : ThreadShape) (site : SiteId) →
    HasOpen threat kinds host → PlaceIsOpen threat host.me (thread.at + 1) →
    LeavesOpen threat kinds host (after_frame host thread site)
makes_frame threat kinds host thread site was next = record {
  state = record { running = next; waiting = was.waiting; entries = was.entries };
  stays = record { rows = λ field. inl refl; variables = λ frame x. inl refl };
  frames = λ place. one_frame_more host.frames site.0 place;
  sent = tt;
}

puts : (threat : Threat) (kinds : Kinds threat) (host : HostState) (thread : ThreadShape) (field : FieldId)
    (index value : List Node)
    (there : Option CodeFieldShape) → HasOpen threat kinds host → ThreadIsOpen threat host.me thread →
    PlaceIsOpen threat host.me (thread.at + 1) → FieldIsAffected threat.exposure field →
    LeavesOpen threat kinds host (after_put host thread field index value there)
puts threat kinds host thread field index value None was here next may = goes_on threat kinds host thread was here
puts threat kinds host thread field index value (Some there) was here next may =
    either threat kinds host (there.host.0 == host.me.0) _ _
    (λ own. writes_on threat kinds host (after_clearing thread) field (value_in_thread host thread index)
    (value_in_thread host thread value) was next may)
    (waits threat kinds host thread.at (after_clearing thread) acknowledgement there.host _ was next may)

pushes : (threat : Threat) (kinds : Kinds threat) (host : HostState) (thread : ThreadShape) (there : EntryId)
    (held : Option Token) →
    HasOpen threat kinds host → ThreadIsOpen threat host.me thread → PlaceIsOpen threat host.me (thread.at + 1) →
    EntryIsOpen threat there → LeavesOpen threat kinds host (after_own_push host thread there held)
pushes threat kinds host thread there None was here next may = goes_on threat kinds host thread was here
pushes threat kinds host thread there (Some held) was here next may =
    stands threat kinds host _ refl refl refl (record {
      running = next;
      waiting = was.waiting;
      entries = All-cons kinds.keeps _ _ (kinds.open_keeps _ may) was.entries;
    })

asks_for : (threat : Threat) (kinds : Kinds threat) (host : HostState) (thread : ThreadShape) (there : EntryId)
    (on : HostId)
    (held : Option Token) → HasOpen threat kinds host → ThreadIsOpen threat host.me thread →
    PlaceIsOpen threat host.me (thread.at + 1) → EntryIsOpen threat there →
    LeavesOpen threat kinds host (after_ask host thread there on held)
asks_for threat kinds host thread there on None was here next may = goes_on threat kinds host thread was here
asks_for threat kinds host thread there on (Some held) was here next may =
    waits threat kinds host thread.at _ token_of_entry on _ was next may

goes : (threat : Threat) (kinds : Kinds threat) (host : HostState) (thread : ThreadShape) (frame : FrameId)
    (there : EntryId) (on : HostId)
    (held : Option Token) → HasOpen threat kinds host → ThreadIsOpen threat host.me thread → EntryIsOpen threat there →
    LeavesOpen threat kinds host (after_go host thread frame there on held)
goes threat kinds host thread frame there on None was here may = goes_on threat kinds host thread was here
goes threat kinds host thread frame there on (Some held) was here may = record {
  state = runs threat kinds host None was tt;
  stays = as_before threat.exposure host (with_running host None) refl refl;
  frames = same_frames host (with_running host None) refl;
  sent = may;
}

-- these values ride, each for its variable
riders_affected : (exposure : Exposure) (host : HostState) (frame : FrameId) (variables : List VarId) →
    AllByRecursion (VariableIsAffected exposure) variables →
    AllByRecursion (λ rider. VariableIsAffected exposure rider.0) (riders_of host frame variables)
riders_affected exposure host frame [] may = tt
riders_affected exposure host frame (x ∷ others) may = (may.0, riders_affected exposure host frame others may.1)

goes_with : (threat : Threat) (kinds : Kinds threat) → IsKnown threat → (host : HostState) (thread : ThreadShape)
    (frame : FrameId) (there : EntryId) (on : HostId) (riders : List VarId)
    (held : Option Token) → HasOpen threat kinds host → ThreadIsOpen threat host.me thread → there ≢ halt →
    Any (λ label. HasNeed threat.code label there × AllByRecursion (MayChange threat.code label) riders)
    threat.exposure.bad → LeavesOpen threat kinds host (after_go_with host thread frame there on riders held)
goes_with threat kinds known host thread frame there on riders None was here not_halt law =
    goes_on threat kinds host thread was here
goes_with threat kinds known host thread frame there on riders (Some held) was here not_halt law =
    let Opens : Label → Type 0 =
    λ label. HasNeed threat.code label there × AllByRecursion (MayChange threat.code label) riders in
    let Changes : Label → Type 0 = λ label. AllByRecursion (MayChange threat.code label) riders in
    record {
      state = runs threat kinds host None was tt;
      stays = as_before threat.exposure host (with_running host None) refl refl;
      frames = same_frames host (with_running host None) refl;
      sent = (
        (
          not_halt,
          any_each Opens (λ label. HasNeed threat.code label there) threat.exposure.bad (λ label one. one.0) law,
        ),
        riders_affected threat.exposure host frame riders
            (variables_affected threat known riders
            (any_each Opens Changes threat.exposure.bad (λ label one. one.1) law)),
      );
    }

calls_own : (threat : Threat) (kinds : Kinds threat) (host : HostState) (thread : ThreadShape) (found : Option Entry) →
    HasOpen threat kinds host → ThreadIsOpen threat host.me thread →
    IfSome found (λ entry. PlaceIsOpen threat host.me entry.at) →
    LeavesOpen threat kinds host (after_own_call host thread found)
calls_own threat kinds host thread None was here at = goes_on threat kinds host thread was here
calls_own threat kinds host thread (Some entry) was here at = goes_on threat kinds host _ was at

gives_result : (threat : Threat) (kinds : Kinds threat) (host : HostState) (thread : ThreadShape) (x : VarId)
    (value : List Node)
    (held : Option Token) (passes : Bool) → HasOpen threat kinds host → ThreadIsOpen threat host.me thread →
    PlaceIsOpen threat host.me (thread.at + 1) → VariableIsAffected threat.exposure x →
    LeavesOpen threat kinds host (after_return host thread x value held passes)
gives_result threat kinds host thread x value None passes was here next may = goes_on threat kinds host thread was here
gives_result threat kinds host thread x value (Some held) passes was here next may =
    either threat kinds host (held.host.0 == host.me.0) _ _
    (λ own. sets_on threat kinds host (after_clearing thread) held.frame x
    (value_in_thread host thread value) was next may)
    (either threat kinds host passes _ _
    (λ is. waits threat kinds host thread.at _ acknowledgement held.host _ was next may)
    (goes_on threat kinds host _ was next))

-- the entry that a thread takes off the stack with its token is open
abbrev pub PopsOpen : Threat → HostState → Option Token → Type 0
PopsOpen threat host held = (token : Token) → held ≡ Some token → top_token host.entries ≡ Some token →
    TopIsOpen threat host.entries

-- so it is where the thread's instruction gives its token back
abbrev pub BacksOpen : Threat → HostState → ThreadShape → Type 0
BacksOpen threat host thread = (instruction : Instr) →
    instruction_at threat.code host.me thread.at ≡ Some instruction → instruction.op ≡ op.Back →
    PopsOpen threat host thread.held

pops_if : (threat : Threat) (kinds : Kinds threat) → IsKnown threat → (host : HostState) (passes : Bool) →
    HasOpen threat kinds host →
    All (StackEntryFits threat.code host.me) host.entries → (passes ≡ true → TopIsOpen threat host.entries) →
    LeavesOpen threat kinds host (without_message (if passes
    then after_pop threat.code (with_running host None) host.entries
    else with_one_ignored (with_running host None)))
pops_if threat kinds known host true was fits may =
    let bare = with_running host None in
    from_same threat kinds host bare _ refl refl refl
    (pops threat kinds known bare host.entries (runs threat kinds host None was tt) was.entries (may refl) fits)
pops_if threat kinds known host false was fits may =
    stands threat kinds host (with_one_ignored (with_running host None)) refl refl refl
    (record { running = tt; waiting = was.waiting; entries = was.entries })

gives_back : (threat : Threat) (kinds : Kinds threat) → IsKnown threat →
    (host : HostState) (thread : ThreadShape) (held : Option Token)
    (passes : Bool) → HasOpen threat kinds host → ThreadIsOpen threat host.me thread →
    All (StackEntryFits threat.code host.me) host.entries →
    (IsTrue passes → PassesWith threat.code host op.Back held) → PopsOpen threat host held →
    LeavesOpen threat kinds host (after_back threat.code host thread held passes)
gives_back threat kinds known host thread None passes was here fits check may =
    goes_on threat kinds host thread was here
gives_back threat kinds known host thread (Some held) passes was here fits check may =
    either threat kinds host (held.host.0 == host.me.0) _ _
    (λ own. pops_if threat kinds known host passes was fits
    (λ is. may held refl (check is (number_same held.host.0 host.me.0 own)))) (record {
      state = runs threat kinds host None was tt;
      stays = as_before threat.exposure host (with_running host None) refl refl;
      frames = same_frames host (with_running host None) refl;
      sent = tt;
    })

-- an entry of a call that stays on the host is the host's
entry_here : (threat : Threat) (me on : HostId) (there : EntryId) → IsEntryOf threat.code on there →
    (on.0 == me.0) ≡ true → IsEntryOf threat.code me there
entry_here threat me on there is own =
    some_each (λ (entry : Entry). entry.host ≡ on) (λ entry. entry.host ≡ me) (entry_at threat.code there)
    (λ entry at. at ∙ same_id on me (number_same on.0 me.0 own)) is

operation : (threat : Threat) (kinds : Kinds threat) → IsKnown threat →
    (host : HostState) (thread : ThreadShape) (operation : Op) (count : ℕ)
    (passes : Bool) → HasOpen threat kinds host → ThreadIsOpen threat host.me thread →
    All (StackEntryFits threat.code host.me) host.entries → OperationFits threat.code host.me count operation →
    (IsTrue passes → PassesWith threat.code host operation thread.held) →
    (operation ≡ op.Back → PopsOpen threat host thread.held) → OpIsOpen threat host.me thread.at operation →
    LeavesOpen threat kinds host (after_operation threat.code host thread operation passes)
operation threat kinds known host thread (op.Read field index) count passes was here fits names check may law =
    reads threat kinds host thread field index (field_at threat.code field) was here
    (behind threat host.me thread.at (op.Read field index) (λ label one. one) law)
operation threat kinds known host thread (op.Let x value) count passes was here fits names check may law =
    sets_on threat kinds host (after_clearing thread) thread.frame x (value_in_thread host thread value) was
    (behind threat host.me thread.at (op.Let x value) (λ label one. one.1) law)
    (variable_affected threat known x
    (part threat host.me thread.at (op.Let x value) (λ label. MayChange threat.code label x) (λ label one. one.0) law))
operation threat kinds known host thread (op.Put field index value) count passes was here fits names check may law =
    puts threat kinds host thread field index value (field_at threat.code field) was here
    (behind threat host.me thread.at (op.Put field index value) (λ label one. one.1) law)
    (field_affected threat known field
    (part threat host.me thread.at (op.Put field index value) (λ label. MayChangeField threat.code label field)
    (λ label one. one.0) law))
operation threat kinds known host thread (op.Send x to) count passes was here fits names check may law =
    waits threat kinds host thread.at _ acknowledgement to _ was
    (behind threat host.me thread.at (op.Send x to) (λ label one. one.1) law)
    (variable_affected threat known x
    (part threat host.me thread.at (op.Send x to) (λ label. MayChange threat.code label x) (λ label one. one.0) law))
operation threat kinds known host thread (op.Frame site) count passes was here fits names check may law =
    makes_frame threat kinds host thread site was (behind threat host.me thread.at (op.Frame site)
    (λ label one. one) law)
operation threat kinds known host thread (op.Arg x value) count passes was here fits names check may law =
    sets_on threat kinds host (after_clearing thread) thread.new_frame x (value_in_thread host thread value) was
    (behind threat host.me thread.at (op.Arg x value) (λ label one. one.1) law)
    (variable_affected threat known x
    (part threat host.me thread.at (op.Arg x value) (λ label. MayChange threat.code label x) (λ label one. one.0) law))
operation threat kinds known host thread (op.Pass x to) count passes was here fits names check may law =
    waits threat kinds host thread.at _ acknowledgement to _ was
    (behind threat host.me thread.at (op.Pass x to) (λ label one. one.1) law)
    (variable_affected threat known x
    (part threat host.me thread.at (op.Pass x to) (λ label. MayChange threat.code label x) (λ label one. one.0) law))
operation threat kinds known host thread (op.Push there) count passes was here fits names check may law =
    pushes threat kinds host thread there thread.held was here
    (behind threat host.me thread.at (op.Push there) (λ label one. one.1) law) (
      names.0,
      part threat host.me thread.at (op.Push there) (λ label. HasNeed threat.code label there) (λ label one. one.0) law,
    )
operation threat kinds known host thread (op.Ask there on) count passes was here fits names check may law =
    asks_for threat kinds host thread there on thread.held was here
    (behind threat host.me thread.at (op.Ask there on) (λ label one. one.1) law) (
      names.0.0,
      part threat host.me thread.at (op.Ask there on) (λ label. HasNeed threat.code label there)
          (λ label one. one.0) law,
    )
operation threat kinds known host thread (op.Go there on) count passes was here fits names check may law =
    goes threat kinds host thread thread.frame there on thread.held was here (names.0.0, law)
operation threat kinds known host thread (op.Call there on) count passes was here fits names check may law =
    either threat kinds host (on.0 == host.me.0) _ _
    (λ own. calls_own threat kinds host thread (entry_at threat.code there) was here
    (opened threat known host.me there (names.0.0, law) (entry_here threat host.me on there names.0.1 own)))
    (goes threat kinds host thread thread.new_frame there on thread.held was here (names.0.0, law))
operation threat kinds known host thread (op.Ret x value) count passes was here fits names check may law =
    gives_result threat kinds host thread x value thread.held passes was here
    (behind threat host.me thread.at (op.Ret x value) (λ label one. one.1) law)
    (variable_affected threat known x
    (part threat host.me thread.at (op.Ret x value) (λ label. MayChange threat.code label x) (λ label one. one.0) law))
operation threat kinds known host thread op.Back count passes was here fits names check may law =
    gives_back threat kinds known host thread thread.held passes was here fits check (may refl)
operation threat kinds known host thread (op.Branch guard target) count passes was here fits names check may law =
    either threat kinds host _ _ _ (λ is. goes_on threat kinds host _ was
    (part threat host.me thread.at (op.Branch guard target)
    (λ label. IsOpenTo threat.planned label (threat.table.at host.me.0 target)) (λ label one. one.1) law))
    (goes_on threat kinds host _ was (behind threat host.me thread.at (op.Branch guard target)
    (λ label one. one.0) law))
operation threat kinds known host thread (op.GoWith there on riders) count passes was here fits names check may law =
    goes_with threat kinds known host thread thread.frame there on riders thread.held was here names.0.0 law
operation threat kinds known host thread (op.CallWith there on riders) count passes was here fits names check may law =
    goes_with threat kinds known host thread thread.new_frame there on riders thread.held was here names.0.0 law

-- ---- a turn

running_open : (threat : Threat) (kinds : Kinds threat) → IsKnown threat →
    (host : HostState) (thread : ThreadShape) (there : Option Instr)
    (outcome : Outcome) → HasOpen threat kinds host → ThreadIsOpen threat host.me thread →
    StateFits threat.code host → BacksOpen threat host thread →
    instruction_at threat.code host.me thread.at ≡ there → IsRunning threat.code host thread there outcome →
    LeavesOpen threat kinds host outcome
running_open threat kinds known host thread None outcome was here fits may is step =
    subst (LeavesOpen threat kinds host) step (goes_on threat kinds host thread was here)
running_open threat kinds known host thread (Some instruction) outcome was here fits may is step =
    subst (LeavesOpen threat kinds host) step.2
    (operation threat kinds known host thread instruction.op
    (temporaries_at threat.code.entries host.me (part_of threat.code host.me) thread.at) step.0 was here fits.entries
    ((known.sound.parts host.me fits.me).instructions thread.at instruction is).operation step.1.0 (may instruction is)
    (any_each (λ label. IsOpenTo threat.planned label (threat.table.at host.me.0 thread.at))
    (λ label. OpensOp threat.planned threat.code threat.table label host.me thread.at instruction.op)
    threat.exposure.bad
    (λ label. known.opens.instructions label host.me thread.at instruction is) here))

turn_of : (threat : Threat) (kinds : Kinds threat) → IsKnown threat →
    (host : HostState) (running : Option ThreadShape) (outcome : Outcome) →
    HasOpen threat kinds host → IfSome running (ThreadIsOpen threat host.me) → StateFits threat.code host →
    IfSome running (BacksOpen threat host) → IsTurnOf threat.code host running outcome →
    LeavesOpen threat kinds host outcome
turn_of threat kinds known host None outcome was here fits may step =
    subst (LeavesOpen threat kinds host) step (stands threat kinds host host refl refl refl was)
turn_of threat kinds known host (Some thread) outcome was here fits may step =
    let bare = with_running host None in
    from_same threat kinds host bare outcome refl refl refl
    (running_open threat kinds known bare thread (instruction_at threat.code host.me thread.at) outcome
    (runs threat kinds host None was tt) here (kept_at_rest threat.code host fits) may refl step)

-- an open thread's turn
pub open_turn : (threat : Threat) (kinds : Kinds threat) → IsKnown threat → (host : HostState) (outcome : Outcome) →
    HasOpen threat kinds host → StateFits threat.code host →
    IfSome host.running (BacksOpen threat host) → IsTurn threat.code host outcome →
    LeavesOpen threat kinds host outcome
open_turn threat kinds known host outcome was fits may step =
    turn_of threat kinds known host host.running outcome was was.running fits may step
