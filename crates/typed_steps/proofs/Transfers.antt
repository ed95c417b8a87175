-- What pushes, transfers and branches make of what is still to be done, by the laws of their positions.
use Rattle.std.proofs.Common.{◌≡◌, ◌≢◌, ◌∙◌, ◌⊎◌, ℕ, zero, suc, ◌+◌, ◌<◌, inl, inr, Bool, true, false, List, []}
use Rattle.std.proofs.Common.{◌∷◌, ◌++◌, map, length, Some, refl, ap, sym, subst, append_assoc}
use Rattle.std.specs.Prelude.{ℤ, pos, slice_get, not, if◌then◌else◌}
use Rattle.std.specs.List.{AllByRecursion}
use Rattle.std.specs.Ordering.{int_eq}
use Rattle.js_base.specs.declared.ids.HostId.{HostId}
use Rattle.js_base.specs.declared.ids.FrameId.{FrameId}
use Rattle.js_base.specs.declared.ids.VarId.{VarId}
use Rattle.js_base.specs.declared.ids.EntryId.{EntryId}
use Rattle.jif_tree.specs.declared.program.Stmt.{Stmt}
use Rattle.jif_tree.specs.declared.program.StmtKind.{StmtKind}
use Rattle.jif_tree.specs.declared.program.StmtKind as kind
use Rattle.jif_tree.specs.SourceRun as source
use Rattle.jif_tree.specs.SourceRun.{Configuration, IsAtEnd, executed, operands}
use Rattle.jif_tree.specs.Trees.{Heading, done, branch, loop, statement_tree, row_tree, expr_tree, head_of}
use Rattle.capability.specs.declared.token.Token.{Token}
use Rattle.ics_stack.specs.Stack.{top_token}
use Rattle.host_code.specs.declared.code.Entry.{Entry}
use Rattle.host_code.specs.declared.code_expr.Node.{Node}
use Rattle.host_code.specs.declared.instruction.Op.TheVariants as op
use Rattle.host_code.specs.Code.{halt, entry_at}
use Rattle.host_code.specs.Thread.{ThreadShape}
use Rattle.host_code.specs.Riders.{Rider}
use Rattle.host_core.specs.Host.{HostState, with_token, after_step, after_clearing, thread_at}
use Rattle.host_core.specs.Turn.{riders_of}
use Rattle.host_core.specs.Values.{value_of_nodes}
use Rattle.split_rules.specs.Positions as positions
use Rattle.split_rules.specs.Positions.{Position, DueWork, Level, Forward, statement_due, is_on, calm, no_call}
use Rattle.split_rules.specs.Positions.{all_due}
use Rattle.split_rules.specs.Typing.{EntryIs, Cuts, Branches, Divides, Ends, IsCalm, RidesAll, need_due}
use Rattle.token_laws.proofs.Riding.{names_ride}
use Rattle.jif_tree.specs.Altered.{MayGive}
use Rattle.std.specs.List.{AllZip}
use Rattle.typed_steps.specs.Requests.{Does}
use Rattle.typed_steps.specs.Values.{MayHold, AreAlike}
use Rattle.typed_steps.proofs.Instructions.{no_temporaries, read_there}
use Rattle.typed_steps.specs.Readers.{IsFit}
use Rattle.typed_steps.specs.Variables.{AreSent, HasWhatIsOwed}
use Rattle.typed_steps.specs.Views.{Split, View, Link, entries_of, place_of, with_chain, with_out}
use Rattle.typed_steps.specs.Chains.{Duty, under, due_at, level_at, chain_due, FitsOver, IsChain}
use Rattle.typed_steps.specs.Threads.{alone, Owed, to_run, item_of, duty_of, IsReturn, MayFollow, AreReturned}
use Rattle.typed_steps.specs.Threads.{IsKnownWork}
use Rattle.typed_steps.specs.Threads.{IsLeft, IsCalling, IsAt, NoneKept}
use Rattle.typed_steps.proofs.Owing.{front_of, plainly_behind, none_kept, stands_plainly, BeginsPlainly}
use Rattle.typed_steps.proofs.Owing.{to_run_all, row_statements, items_before, duties_before, known_before}
use Rattle.typed_steps.proofs.Owing.{plainly_before, returned_before}
use Rattle.typed_steps.proofs.Instructions.{next_place, stepped, cleared, only_value, Agrees}
use Rattle.typed_steps.specs.Requests.{starting, GivesUp, RidesOut}

-- ---- entries

pub entrance_due : (split : Split) (number : ℕ) (position : Position) (need : ℕ) →
    EntryIs split.table.entries number position need → due_at (slice_get split.table.entries number) ≡ position.due
entrance_due split number position need is = ap due_at is

pub entrance_level : (split : Split) (number : ℕ) (position : Position) (need : ℕ) →
    EntryIs split.table.entries number position need →
    level_at (slice_get split.table.entries number) ≡ position.level
entrance_level split number position need is = ap level_at is

pub under_both : (call : ℕ) (one other : List DueWork) → under call (one ++ other) ≡ under call one ++ under call other
under_both call [] other = refl
under_both call (item ∷ one) other =
    ap (λ (list : List Duty). record { call = call; due = item } ∷ list) (under_both call one other)

-- where no call is being made
pub calm_calling : (split : Split) (c : Configuration) (view : View) (host : HostId) (thread : ThreadShape)
    (at : IsAt split c view host thread) → (place_of split host thread.at).calling ≡ no_call →
    (view.naming.count ≡ length c.calls) × (thread.frame ≡ view.naming.frame at.call) × (view.sender ≡ at.call)
calm_calling split c view host thread at none =
    subst (IsCalling split c view.naming view.values view.sender host thread.frame thread.new_frame at.call
    (place_of split host thread.at).due) none at.calling

-- an entry is pushed, on this host or on another
pub push_at : (split : Split) (c : Configuration) (view : View) (host : HostId) (thread : ThreadShape)
    (at : IsAt split c view host thread) → (entry : EntryId) →
    Cuts split.planned split.table.entries (place_of split host thread.at) entry.0
    (place_of split host (suc thread.at)) →
    (link : Link) → link.entry.entry ≡ entry → link.call ≡ at.call →
    IsAt split c (with_chain view (link ∷ view.chain)) host (with_token (Some link.entry.token) (after_step thread))
push_at split c view host thread at entry law link is number =
    let here = place_of split host thread.at in
    let next = place_of split host (thread.at + 1) in
    let call = at.call in
    let goes = next_place split host thread ∙ law.goes in
    let behind : due_at (slice_get split.table.entries link.entry.entry.0) ≡ law.behind =
    ap (λ (e : EntryId). due_at (slice_get split.table.entries e.0)) is ∙ entrance_due split entry.0 _ _ law.pushed in
    let rest = chain_due split view.chain in
    let due : under call here.due ++ rest
    ≡ under call next.due
    ++ (under link.call (due_at (slice_get split.table.entries link.entry.entry.0)) ++ rest) =
    ap (λ list. under call list ++ rest) law.due
    ∙ ap (λ list. list ++ rest) (under_both call (place_of split host (suc thread.at)).due law.behind)
    ∙ append_assoc (under call (place_of split host (suc thread.at)).due) (under call law.behind) rest
    ∙ ap (λ (p : Position). under call p.due ++ (under call law.behind ++ rest)) (sym (next_place split host thread))
    ∙ ap (λ list. under call next.due ++ (under call list ++ rest)) (sym behind)
    ∙ ap (λ n. under call next.due ++ (under n (due_at (slice_get split.table.entries link.entry.entry.0)) ++ rest))
    (sym number) in
    let P = MayHold split.exposure c.store (source.variable c.calls call) in
    let calling = calm_calling split c view host thread at law.idle.1 in
    record {
      call = call;
      made = at.made;
      held = refl;
      left = subst (IsLeft split c view.keeper) due at.left;
      fits = subst (λ (p : Position). FitsOver split view.naming p.level call (link ∷ view.chain)) (sym goes) tt;
      calling = subst (λ (p : Position). IsCalling split c view.naming view.values view.sender host thread.frame
          thread.new_frame call p.due p.calling) (sym goes) calling;
      forwards = ap (λ (p : Position). p.forwards) goes ∙ at.forwards;
      settled = at.settled;
      temporaries = subst (λ (p : Position). AllZip P p.reads thread.temporaries) (sym goes)
          (subst (λ reads. AllZip P reads thread.temporaries) law.idle.0 at.temporaries);
    }

-- what stands behind the entry that is pushed fits over the chain
pub pushed_fits : (split : Split) (c : Configuration) (view : View) (host : HostId) (thread : ThreadShape)
    (at : IsAt split c view host thread) → (entry : EntryId) →
    Cuts split.planned split.table.entries (place_of split host thread.at) entry.0
    (place_of split host (suc thread.at)) →
    FitsOver split view.naming (level_at (slice_get split.table.entries entry.0)) at.call view.chain
pushed_fits split c view host thread at entry law =
    subst (λ level. FitsOver split view.naming level at.call view.chain)
    (sym (entrance_level split entry.0 _ _ law.pushed)) at.fits

-- the place of an entry of the code has the position of the entry
pub record IsPlaced (split : Split) (number : ℕ) (there : Entry) : Type 0 where
  pub position : Position
  pub need : ℕ
  pub is : EntryIs split.table.entries number position need
  pub is_calm : IsCalm position
  pub stands : place_of split there.host there.at ≡ position

pub placed : (split : Split) (entry : EntryId) (there : Entry) → entry ≢ halt → entry_at split.code entry ≡ Some there →
    IsPlaced split entry.0 there
placed split entry there apart is = at_number entry.0 (λ same. apart (ap make same)) is
  where
    make : ℕ → EntryId
    make n = record { 0 = n }

    at_number : (number : ℕ) → (number ≡ 0 → ⊥) → slice_get split.code.entries number ≡ Some there →
        IsPlaced split number there
    at_number zero none found = absurd (none refl)
    at_number (suc number) none found =
        let typed = split.typed.entries number there found in
        record {
          position = typed.position;
          need = there.need;
          is = typed.is;
          is_calm = typed.is_calm;
          stands = typed.stands;
        }

-- a thread starts at an entry
pub starts_at : (split : Split) (c : Configuration) (view : View) (chain : List Link) (call : ℕ) (number : ℕ)
    (there : Entry) (frame : FrameId) (token : Token) → IsPlaced split number there → call < length c.calls →
    view.naming.count ≡ length c.calls → frame ≡ view.naming.frame call → Some token ≡ top_token (entries_of chain) →
    FitsOver split view.naming (level_at (slice_get split.table.entries number)) call chain →
    IsLeft split c view.keeper (under call (due_at (slice_get split.table.entries number)) ++ chain_due split chain) →
    IsAt split c (starting view chain call) there.host (thread_at there frame token)
starts_at split c view chain call number there frame token is made count frame_is held fits left =
    let calm_there : place_of split there.host there.at ≡ calm is.position.level is.position.due =
    is.stands ∙ is.is_calm in
    let due : due_at (slice_get split.table.entries number) ≡ (place_of split there.host there.at).due =
    entrance_due split number is.position is.need is.is ∙ sym (ap (λ (p : Position). p.due) is.stands) in
    let level : level_at (slice_get split.table.entries number) ≡ (place_of split there.host there.at).level =
    entrance_level split number is.position is.need is.is ∙ sym (ap (λ (p : Position). p.level) is.stands) in
    record {
      call = call;
      made = made;
      held = held;
      left = subst (λ list. IsLeft split c view.keeper (under call list ++ chain_due split chain)) due left;
      fits = subst (λ l. FitsOver split view.naming l call chain) level fits;
      calling = subst (λ (p : Position). IsCalling split c view.naming view.values call there.host frame frame call
          p.due
          p.calling) (sym calm_there) (count, frame_is, refl);
      forwards = ap (λ (p : Position). p.forwards) calm_there;
      settled = inl refl;
      temporaries = no_temporaries split c call (place_of split there.host there.at)
          (ap (λ (p : Position). p.reads) calm_there);
    }

-- The thread goes on at an entry, in a frame, once these variables have ridden there. They are all that is still to be
-- sent.
pub record HandsOver (split : Split) (c : Configuration) (view : View) (on : HostId) (entry : EntryId) (frame : FrameId)
    (token : Token) (riders : List VarId) : Type 0 where
  pub rides : RidesAll riders on view.out
  pub settled : (view.out ≡ []) ⊎ NoneKept c
  pub frame_is : frame ≡ view.naming.frame view.sender
  pub known : view.sender < view.naming.count
  pub at : (there : Entry) → entry_at split.code entry ≡ Some there →
      IsAt split c (with_out view []) there.host (thread_at there frame token)

-- in the frame of its call, or in that for a call
pub over_at : (split : Split) (c : Configuration) (view : View) (host : HostId) (thread : ThreadShape)
    (at : IsAt split c view host thread) → (on : HostId) (entry : EntryId) (frame : FrameId) (token : Token)
    (riders : List VarId) (need : ℕ) → entry ≢ halt → RidesAll riders on (place_of split host thread.at).forwards →
    EntryIs split.table.entries entry.0
    (calm (place_of split host thread.at).level (place_of split host thread.at).due) need →
    (view.naming.count ≡ length c.calls) × (frame ≡ view.naming.frame at.call) × (view.sender ≡ at.call) →
    thread.held ≡ Some token → HandsOver split c view on entry frame token riders
over_at split c view host thread at on entry frame token riders need apart rides pushed calling held =
    let here = place_of split host thread.at in
    record {
      rides = subst (RidesAll riders on) at.forwards rides;
      settled = at.settled;
      frame_is = calling.1 ∙ sym (ap view.naming.frame calling.2);
      known = subst (λ n. n < view.naming.count) (sym calling.2)
          (subst (λ n. at.call < n) (sym calling.0) at.made);
      at = λ there is.
          subst (λ k. IsAt split c (starting view view.chain k) there.host (thread_at there frame token))
          (sym calling.2)
          (starts_at split c view view.chain at.call entry.0 there frame token (placed split entry there apart is)
          at.made calling.0 calling.1 (sym held ∙ at.held)
          (subst (λ l. FitsOver split view.naming l at.call view.chain)
          (sym (entrance_level split entry.0 (calm here.level here.due) need pushed)) at.fits)
          (subst (λ list. IsLeft split c view.keeper (under at.call list ++ chain_due split view.chain))
          (sym (entrance_due split entry.0 (calm here.level here.due) need pushed)) at.left));
    }

-- where nothing is still to be sent nothing rides
pub none_rides : (on : HostId) (forwards : List Forward) → forwards ≡ [] → RidesAll [] on forwards
none_rides on forwards none = subst (RidesAll [] on) (sym none) (refl, tt)

-- and the other way round
pub none_left_out : (on : HostId) (forwards : List Forward) → RidesAll [] on forwards → forwards ≡ []
none_left_out on [] rides = refl
none_left_out on (forward ∷ forwards) rides = absurd (let none = rides.0 in cc)

pub go_at : (split : Split) (c : Configuration) (view : View) (host : HostId) (thread : ThreadShape) →
    IsAt split c view host thread → (entry : EntryId) (on : HostId) → entry ≢ halt →
    Ends split.planned split.table.entries (place_of split host thread.at) (op.Go entry on) → (token : Token) →
    thread.held ≡ Some token → HandsOver split c view on entry thread.frame token []
go_at split c view host thread at entry on apart law token held =
    let here = place_of split host thread.at in
    over_at split c view host thread at on entry thread.frame token [] (need_due split.planned here.due) apart
    (none_rides on here.forwards (ap (λ (p : Position). p.forwards) law.0))
    (subst (λ (p : Position). EntryIs split.table.entries entry.0 p (need_due split.planned here.due)) law.0 law.1)
    (calm_calling split c view host thread at (ap (λ (p : Position). p.calling) law.0)) held

-- the same with what rides
pub go_with_at : (split : Split) (c : Configuration) (view : View) (host : HostId) (thread : ThreadShape) →
    IsAt split c view host thread → (entry : EntryId) (on : HostId) (riders : List VarId) → entry ≢ halt →
    Ends split.planned split.table.entries (place_of split host thread.at) (op.GoWith entry on riders) →
    (token : Token) → thread.held ≡ Some token → HandsOver split c view on entry thread.frame token riders
go_with_at split c view host thread at entry on riders apart law token held =
    over_at split c view host thread at on entry thread.frame token riders _ apart law.1 law.2
    (calm_calling split c view host thread at law.0.1) held

-- what rides has the values that are to be sent
carried : (split : Split) (values : ℕ → ℤ) (variables : VarId → ℤ) (host : HostId) (out : List Forward) →
    AreSent split values variables host out →
    AllByRecursion (λ (rider : Rider). AreAlike split.exposure rider.0 rider.1 (values rider.0.0))
    (map (λ x. (x, variables x)) (map (λ (forward : Forward). forward.variable) out))
carried split values variables host [] sent = tt
carried split values variables host (forward ∷ out) sent =
    (sent.0.0, carried split values variables host out sent.1)

-- so the host of a state lets ride what is to ride
pub rides_out : (split : Split) (c : Configuration) (view : View) (host : HostId) (state : HostState) (on : HostId)
    (entry : EntryId) (frame : FrameId) (token : Token) (riders : List VarId) →
    HandsOver split c view on entry frame token riders → HasWhatIsOwed split view state host →
    RidesOut split c view on
    (record { frame = frame; entry = entry; token = token; riders = riders_of state frame riders })
rides_out split c view host state on entry frame token riders over sent = record {
  all = subst (λ names. RidesAll names on view.out) (sym (names_ride state frame riders)) over.rides;
  alike = subst (λ list. AllByRecursion
      (λ (rider : Rider). AreAlike split.exposure rider.0 rider.1 (view.values view.sender rider.0.0))
      (riders_of state frame list)) over.rides.0
      (carried split (view.values view.sender) (state.variables frame) host view.out
      (subst (λ f. AreSent split (view.values view.sender) (state.variables f) host view.out) (sym over.frame_is)
      sent));
  settled = over.settled;
  frame_is = over.frame_is;
  known = over.known;
}

-- ---- the way back

pub back_at : (split : Split) (c : Configuration) (view : View) (host : HostId) (thread : ThreadShape) →
    IsAt split c view host thread →
    Ends split.planned split.table.entries (place_of split host thread.at) op.Back → GivesUp split c view
back_at split c view host thread at law = record {
  none_out = sym at.forwards ∙ ap (λ (p : Position). p.forwards) law;
  count = (calm_calling split c view host thread at (ap (λ (p : Position). p.calling) law)).0;
  left = subst (λ due. IsLeft split c view.keeper (under at.call due ++ chain_due split view.chain))
      (ap (λ (p : Position). p.due) law) at.left;
}

-- the thread of an entry that was taken off goes on behind it
pub pop_at : (split : Split) (c : Configuration) (view : View) (top next : Link) (below : List Link) →
    IsChain split view.naming (top ∷ next ∷ below) → view.naming.count ≡ length c.calls →
    IsLeft split c view.keeper (chain_due split (top ∷ next ∷ below)) → (there : Entry) →
    entry_at split.code top.entry.entry ≡ Some there →
    IsAt split c (starting view (next ∷ below) top.call) there.host (thread_at there top.entry.frame top.entry.kept)
pop_at split c view top next below chain count left there is =
    starts_at split c view (next ∷ below) top.call top.entry.entry.0 there top.entry.frame top.entry.kept
    (placed split top.entry.entry there chain.0.0 is) (subst (λ n. top.call < n) count chain.1.known) count
    chain.1.frame (ap Some chain.2) chain.3 left

none_left : (c : Configuration) (left : List Owed) → c.pending ≡ map item_of left → [] ≡ map duty_of left →
    IsAtEnd c
none_left c [] pending due = pending
none_left c (owed ∷ left) pending due = absurd (cc)

-- nothing is left behind the last entry
pub end_at : (split : Split) (c : Configuration) (view : View) (last : Link) →
    IsChain split view.naming (last ∷ []) → IsLeft split c view.keeper (chain_due split (last ∷ [])) → IsAtEnd c
end_at split c view last chain left =
    let due : due_at (slice_get split.table.entries last.entry.entry.0) ≡ [] =
    ap (λ (e : EntryId). due_at (slice_get split.table.entries e.0)) chain.0
    ∙ entrance_due split 0 _ _ split.typed.halts in
    none_left c left.left left.pending (sym (ap (λ list. under last.call list ++ []) due) ∙ left.due)

-- ---- branches

-- a guard is decided, and the thread goes on behind it or where it branches
pub record Decides (split : Split) (c : Configuration) (view : View) (host : HostId) (thread : ThreadShape) (target : ℕ)
    (value : ℤ) : Type 0 where
  pub now : Configuration
  pub does : Does split c now
  pub none_out : view.out ≡ []
  pub store : now.store ≡ c.store
  pub calls : now.calls ≡ c.calls
  pub plainly : NoneKept now
  pub at : IsAt split now view host
      (if int_eq value (pos 0) then record (after_clearing thread) { at = target } else after_clearing thread)

-- what a guard makes of what is to be done
record Divided (split : Split) (c : Configuration) (call : ℕ) (statement : Stmt) (behind : List Owed) (what : StmtKind)
    (level : Level) (next target : Position) (rest : List Duty) (value : ℤ) : Type 0 where
  taken : List Owed
  skipped : List Owed
  taken_due : under call next.due ++ rest ≡ map duty_of taken
  skipped_due : under call target.due ++ rest ≡ map duty_of skipped
  taken_known : AllByRecursion (IsKnownWork split) taken
  skipped_known : AllByRecursion (IsKnownWork split) skipped
  taken_plainly : BeginsPlainly taken
  skipped_plainly : BeginsPlainly skipped
  taken_returned : AreReturned split taken
  skipped_returned : AreReturned split skipped
  next_is : next ≡ calm level next.due
  target_is : target ≡ calm level target.due
  all : AllZip (MayGive split.exposure c call) (operands what) (value ∷ [])
  steps : record c { pending = map item_of (if int_eq value (pos 0) then skipped else taken) }
      ≡ executed split.program c call (source.run call statement) what (value ∷ []) (map item_of behind)

-- the items of a branch
chosen : (b : Bool) (call : ℕ) (first second : List Stmt) (behind : List Owed) →
    (if not b then map (source.run call) first else map (source.run call) second) ++ map item_of behind
    ≡ map item_of (if b then to_run_all call second ++ behind else to_run_all call first ++ behind)
chosen true call first second behind = sym (items_before call second behind)
chosen false call first second behind = sym (items_before call first behind)

repeated : (b : Bool) (call : ℕ) (body : List Stmt) (statement : Stmt) (behind : List Owed) →
    (if not b then map (source.run call) body ++ source.run call statement ∷ map item_of behind
    else map item_of behind)
    ≡ map item_of (if b then behind else to_run_all call body ++ to_run call statement ∷ behind)
repeated true call body statement behind = refl
repeated false call body statement behind = sym (items_before call body (to_run call statement ∷ behind))

-- the statements of a block before others are what is due
before_is : (call : ℕ) (found : List DueWork) (list : List Stmt) (rest : List Duty) (behind : List Owed) →
    found ≡ map (λ one. positions.run (alone one)) list → rest ≡ map duty_of behind →
    under call found ++ rest ≡ map duty_of (to_run_all call list ++ behind)
before_is call found list rest behind is due =
    ap (λ l. under call l ++ rest) is
    ∙ ap (λ l. under call (map (λ one. positions.run (alone one)) list) ++ l) due
    ∙ sym (duties_before call list behind)

divided : (split : Split) (c : Configuration) (host : HostId) (call : ℕ) (thread : ThreadShape)
    (variables : VarId → ℤ) → Agrees split c host call variables → (here : Position) →
    AllZip (MayHold split.exposure c.store (source.variable c.calls call)) here.reads thread.temporaries →
    (statement : Stmt) (behind : List Owed) (what : StmtKind) (heading : Heading) (others : List DueWork)
    (rest : List Duty)
    (nodes : List Node) (next target : Position) →
    is_on split.planned host (statement_tree what heading done) ≡ true →
    IsFit split.code split.planned (statement_tree what heading done) →
    IsFit split.code split.planned (alone statement) →
    positions.run (statement_tree what heading done) ≡ positions.run (alone statement) →
    under call others ++ rest ≡ map duty_of behind → AllByRecursion (IsKnownWork split) behind → BeginsPlainly behind →
    AreReturned split behind → MayFollow split (to_run call statement) behind →
    Branches here (positions.run (statement_tree what heading done)) others nodes next target →
    Divided split c call statement behind what here.level next target rest
    (value_of_nodes variables thread.temporaries nodes)
divided split c host call thread variables agrees here holds statement behind (kind.If' guard m first n second) heading
    others rest nodes next target on_host fit own own_is due known plainly returned follows law =
    let block = branch heading (expr_tree guard) (row_tree first) (row_tree second) done in
    let read = read_there split c host call variables agrees block on_host (expr_tree guard) fit.0 in
    let given = value_of_nodes variables thread.temporaries nodes in
    let one = row_statements split.code split.planned first in
    let two = row_statements split.code split.planned second in
    let left : rest ≡ map duty_of behind = ap (λ list. under call list ++ rest) (sym law.1) ∙ due in
    let next_due : next.due ≡ all_due (row_tree first) = ap (λ (p : Position). p.due) law.2 in
    let target_due : target.due ≡ all_due (row_tree second) = ap (λ (p : Position). p.due) law.3 in
    record {
      taken = to_run_all call (source.statements_of first) ++ behind;
      skipped = to_run_all call (source.statements_of second) ++ behind;
      taken_due = before_is call next.due (source.statements_of first) rest behind (next_due ∙ one.due) left;
      skipped_due = before_is call target.due (source.statements_of second) rest behind (target_due ∙ two.due) left;
      taken_known = known_before split call (source.statements_of first) behind (one.fit fit.1) known;
      skipped_known = known_before split call (source.statements_of second) behind (two.fit fit.2) known;
      taken_plainly = plainly_before call (source.statements_of first) behind plainly;
      skipped_plainly = plainly_before call (source.statements_of second) behind plainly;
      taken_returned = returned_before split call (source.statements_of first) behind plainly returned;
      skipped_returned = returned_before split call (source.statements_of second) behind plainly returned;
      next_is = law.2 ∙ ap (calm here.level) (sym next_due);
      target_is = law.3 ∙ ap (calm here.level) (sym target_due);
      all = (only_value split c call variables thread.temporaries here guard nodes read holds law.0, tt);
      steps = ap (λ list. let after : Configuration = record c { pending = list } in after)
          (sym (chosen (int_eq given (pos 0)) call (source.statements_of first) (source.statements_of second) behind));
    }
divided split c host call thread variables agrees here holds statement behind (kind.While' guard m body) heading others
    rest nodes next target on_host fit own own_is due known plainly returned follows law =
    let block = loop heading (expr_tree guard) (row_tree body) done in
    let read = read_there split c host call variables agrees block on_host (expr_tree guard) fit.0 in
    let given = value_of_nodes variables thread.temporaries nodes in
    let one = row_statements split.code split.planned body in
    let list = source.statements_of body in
    let next_due : next.due ≡ all_due (row_tree body) ++ positions.run block ∷ others =
    ap (λ (p : Position). p.due) law.1 in
    let target_due : target.due ≡ others = ap (λ (p : Position). p.due) law.2 in
    let again : under call (positions.run block ∷ others) ++ rest ≡ map duty_of (to_run call statement ∷ behind) =
    ap (λ d. under call (d ∷ others) ++ rest) own_is
    ∙ ap (λ l. duty_of (to_run call statement) ∷ l) due in
    record {
      taken = to_run_all call list ++ to_run call statement ∷ behind;
      skipped = behind;
      taken_due = ap (λ l. under call l ++ rest) next_due
          ∙ ap (λ l. l ++ rest) (under_both call (all_due (row_tree body)) (positions.run block ∷ others))
          ∙ append_assoc (under call (all_due (row_tree body))) (under call (positions.run block ∷ others)) rest
          ∙ before_is call (all_due (row_tree body)) list (under call (positions.run block ∷ others) ++ rest)
          (to_run call statement ∷ behind) one.due again;
      skipped_due = ap (λ l. under call l ++ rest) target_due ∙ due;
      taken_known = known_before split call list (to_run call statement ∷ behind) (one.fit fit.1) (own, known);
      skipped_known = known;
      taken_plainly = plainly_before call list (to_run call statement ∷ behind) tt;
      skipped_plainly = plainly;
      taken_returned = returned_before split call list (to_run call statement ∷ behind) tt (follows, returned);
      skipped_returned = returned;
      next_is = law.1 ∙ ap (calm here.level) (sym next_due);
      target_is = law.2 ∙ ap (calm here.level) (sym target_due);
      all = (only_value split c call variables thread.temporaries here guard nodes read holds law.0, tt);
      steps = ap (λ items. let after : Configuration = record c { pending = items } in after)
          (sym (repeated (int_eq given (pos 0)) call list statement behind));
    }
divided split c host call thread variables agrees here holds statement behind _ heading others rest nodes next target
    on_host fit own own_is due known plainly returned follows law = absurd law

-- no result is given back by a guard
guards_only : (here : Position) (what : StmtKind) (heading : Heading) (others : List DueWork) (nodes : List Node)
    (next target : Position) → Branches here (positions.run (statement_tree what heading done)) others nodes next
    target →
    IsReturn what → ⊥
guards_only here (kind.Return value) heading others nodes next target law returns = law
guards_only here _ heading others nodes next target law returns = returns

-- the thread goes on at one place or the other
at_either : (split : Split) (after : Configuration) (view : View) (host : HostId) (thread : ThreadShape) (target : ℕ)
    (call : ℕ) (level : Level) (taken skipped : List Owed) (next aim : Position) (b : Bool) →
    call < length after.calls → thread.held ≡ top_token (entries_of view.chain) →
    FitsOver split view.naming level call view.chain →
    (view.naming.count ≡ length after.calls) × (thread.frame ≡ view.naming.frame call) × (view.sender ≡ call) →
    view.out ≡ [] → place_of split host (thread.at + 1) ≡ next → place_of split host target ≡ aim →
    next ≡ calm level next.due → aim ≡ calm level aim.due →
    under call next.due ++ chain_due split view.chain ≡ map duty_of taken →
    under call aim.due ++ chain_due split view.chain ≡ map duty_of skipped →
    AllByRecursion (IsKnownWork split) taken → AllByRecursion (IsKnownWork split) skipped → BeginsPlainly taken →
    BeginsPlainly skipped → AreReturned split taken → AreReturned split skipped →
    after.pending ≡ map item_of (if b then skipped else taken) →
    IsAt split after view host (if b then record (after_clearing thread) { at = target } else after_clearing thread)
at_either split after view host thread target call level taken skipped next aim true made held fits calling none is
    there
    calm_next calm_aim one two known also plainly plainly_too returned returned_too pending =
    cleared split after view host thread aim call made held (record {
      left = skipped;
      pending = pending;
      due = two;
      known = also;
      returned = returned_too;
      stands = stands_plainly split view.keeper skipped plainly_too;
    }) (subst (λ (p : Position). FitsOver split view.naming p.level call view.chain) (sym calm_aim) fits)
    (subst (λ (p : Position). IsCalling split after view.naming view.values view.sender host thread.frame
    thread.new_frame call p.due p.calling) (sym calm_aim) calling)
    (ap (λ (p : Position). p.forwards) calm_aim ∙ sym none) (inl none) (ap (λ (p : Position). p.reads) calm_aim) target
    there
at_either split after view host thread target call level taken skipped next aim false made held fits calling none is
    there
    calm_next calm_aim one two known also plainly plainly_too returned returned_too pending =
    cleared split after view host thread next call made held (record {
      left = taken;
      pending = pending;
      due = one;
      known = known;
      returned = returned;
      stands = stands_plainly split view.keeper taken plainly;
    }) (subst (λ (p : Position). FitsOver split view.naming p.level call view.chain) (sym calm_next) fits)
    (subst (λ (p : Position). IsCalling split after view.naming view.values view.sender host thread.frame
    thread.new_frame call p.due p.calling) (sym calm_next) calling)
    (ap (λ (p : Position). p.forwards) calm_next ∙ sym none) (inl none) (ap (λ (p : Position). p.reads) calm_next)
    (thread.at + 1) is

either_plainly : (b : Bool) (taken skipped : List Owed) → BeginsPlainly taken → BeginsPlainly skipped →
    BeginsPlainly (if b then skipped else taken)
either_plainly true taken skipped one other = other
either_plainly false taken skipped one other = one

pub branch_at : (split : Split) (c : Configuration) (view : View) (host : HostId) (thread : ThreadShape)
    (variables : VarId → ℤ) (at : IsAt split c view host thread) → Agrees split c host at.call variables →
    (guard : List Node) (target : ℕ) →
    Divides split.planned host (place_of split host thread.at) guard (place_of split host (suc thread.at))
    (place_of split host target) →
    Decides split c view host thread target (value_of_nodes variables thread.temporaries guard)
branch_at split c view host thread variables at agrees guard target law =
    let here = place_of split host thread.at in
    let call = at.call in
    let next = place_of split host (suc thread.at) in
    let aim = place_of split host target in
    let value = value_of_nodes variables thread.temporaries guard in
    let calling = calm_calling split c view host thread at law.3 in
    elim (front_of split c view.keeper call here.due (chain_due split view.chain) law.0 law.1 law.2.due at.left) [
      | inl runs ↦
          let heading : Heading = head_of runs.statement in
          let on_host = subst (λ first. is_on split.planned host (statement_due first) ≡ true) runs.is law.2.on_host in
          let branches = subst (λ first. Branches here first law.1 guard next aim) runs.is law.4 in
          let plainly = plainly_behind split (to_run call runs.statement) runs.behind runs.follows
          (guards_only here runs.statement.kind heading law.1 guard next aim branches) in
          let parts = divided split c host call thread variables agrees here at.temporaries runs.statement runs.behind
          runs.statement.kind heading law.1 (chain_due split view.chain) guard next aim on_host runs.fit runs.fit refl
          runs.due runs.known plainly runs.returned runs.follows branches in
          let after : Configuration = record c {
            pending = map item_of (if int_eq value (pos 0) then parts.skipped else parts.taken);
          } in
          let none = sym at.forwards ∙ law.2.forwards in
          record {
            now = after;
            does = stepped split c after call runs.statement (map item_of runs.behind) runs.statement.kind (value ∷ [])
                runs.pending refl parts.all parts.steps;
            none_out = none;
            store = refl;
            calls = refl;
            plainly = none_kept after _ refl (either_plainly (int_eq value (pos 0)) parts.taken parts.skipped
                parts.taken_plainly parts.skipped_plainly);
            at = at_either split after view host thread target call here.level parts.taken parts.skipped next aim
                (int_eq value (pos 0)) at.made at.held at.fits calling none (next_place split host thread) refl
                parts.next_is parts.target_is parts.taken_due parts.skipped_due parts.taken_known parts.skipped_known
                parts.taken_plainly parts.skipped_plainly parts.taken_returned parts.skipped_returned refl;
          }
      | inr keeps ↦ absurd (subst (λ first. Branches here first law.1 guard next aim) keeps.is law.4)
    ]
