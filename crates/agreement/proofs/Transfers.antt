-- What a turn leaves of what goes on unseen, for each instruction that pushes an entry, branches or hands control over.
use Rattle.std.proofs.Common.{◌≡◌, ◌≢◌, ◌∙◌, ℕ, suc, ◌+◌, ◌<◌, Bool, true, false, List, ◌∷◌, length, Option, Some}
use Rattle.std.proofs.Common.{None, refl, ap, sym, subst}
use Rattle.std.specs.Prelude.{◌==◌, if◌then◌else◌, not, IsSomeAnd, slice_get}
use Rattle.std.proofs.lemmas.Bool.{false≢true}
use Rattle.js_base.specs.declared.ids.HostId.{HostId}
use Rattle.js_base.specs.declared.ids.EntryId.{EntryId}
use Rattle.js_base.specs.declared.ids.VarId.{VarId}
use Rattle.capability.specs.declared.token.Token.{Token}
use Rattle.ics_stack.specs.declared.stack.StackEntry.{StackEntry}
use Rattle.host_code.specs.declared.code.Entry.{Entry}
use Rattle.host_code.specs.declared.instruction.Instr.{Instr}
use Rattle.host_code.specs.declared.instruction.Op.TheVariants as op
use Rattle.host_code.specs.declared.message.Message.TheVariants as message
use Rattle.host_code.specs.Code.{CodeShape, part_of, entry_at}
use Rattle.host_code.specs.Sound.{IsEntryOn, EntryFits}
use Rattle.host_code.specs.Thread.{ThreadShape}
use Rattle.host_core.specs.Host.{HostState, Outcome, with_running, after_push, new_token, after_step}
use Rattle.host_core.specs.Host.{with_token}
use Rattle.host_core.specs.Turn.{after_own_push, after_own_call, after_go, after_go_with, after_call, with_thread}
use Rattle.host_core.specs.Turn.{riders_of}
use Rattle.net_world.proofs.Present.{same_id}
use Rattle.split_shades.specs.ShadedCode.{IsShadedOp}
use Rattle.split_shades.specs.Shades.{EntryShade, Ahead, MeetsShade, ahead_of}
use Rattle.split_shades.specs.Shading.{NamesInShade, PushesAt, PushesInShade, GoesToInShade, CallsOn}
use Rattle.token_laws.proofs.HeldLaws.{all_at}
use Rattle.token_laws.proofs.Tests.{different, number_same}
use Rattle.seen_world.specs.Eyes.{Eyes, is_open, is_deep, is_hidden}
use Rattle.seen_world.proofs.TurnsKept.{meets_next, hidden_is}
use Rattle.agreement.specs.Leads.{runs, HiddenEntry, links_on, Owes}
use Rattle.agreement.specs.Views.{LowView, at, OwedInView}
use Rattle.agreement.specs.Views.{is_shown}
use Rattle.agreement.proofs.Ends.{Unseen, shows_then, nothing_seen, hands_unseen, unseen_runs}
use Rattle.agreement.proofs.Lists.{left_first, index_apart}
use Rattle.agreement.proofs.Places.{instruction_within, deep_of, deep_hidden, deep_as, block_hidden, flow_hidden}
use Rattle.agreement.proofs.Places.{begun_same, stands_at, deep_moved, begun_moved}
use Rattle.agreement.proofs.Steps.{runs_apart}
use Rattle.agreement.proofs.Turns.{EndsIn, IsHere, same_seen, next_there, deep_on, next_deep}
use Rattle.agreement.proofs.ViewLaws.{entry_hidden}

-- ---- entries

-- an entry of a host, which is not the one that ends the program
record Standing (code : CodeShape) (host : HostId) (entry : EntryId) : Type 0 where
  there : Entry
  is : entry_at code entry ≡ Some there
  host_is : there.host ≡ host
  apart : entry.0 ≢ 0

pub there_with : {X : Type 0} (P : X → Type 0) (found : Option X) → IsSomeAnd found P → (x : X) × (found ≡ Some x) × P x
there_with P None some = absurd some
there_with P (Some x) some = (x, refl, some)

standing : (code : CodeShape) (host : HostId) (entry : EntryId) → IsEntryOn code host entry → Standing code host entry
standing code host entry on =
    let found = there_with (λ (it : Entry). it.host ≡ host) (entry_at code entry) on.1 in
    record {
      there = found.0;
      is = found.1;
      host_is = found.2;
      apart = λ same. on.0 (let make : ℕ → EntryId = λ n. record { 0 = n } in ap make same);
    }

-- the place of an entry that an instruction names, in the block of a label
entry_meets : (eyes : Eyes) (old : HostState) (thread : ThreadShape) (links : List HiddenEntry) (token : Token)
    (owed : OwedInView)
    (now shown : LowView) (host : HostId) (entry : EntryId) (it : EntryShade) →
    Unseen eyes old thread links token owed now shown → (stand : Standing eyes.code host entry) →
    slice_get eyes.shades.entries entry.0 ≡ Some it → MeetsShade (ahead_of it) (eyes.shades.at host stand.there.at)
entry_meets eyes old thread links token owed now shown host entry it run stand is =
    subst (λ (h : HostId). MeetsShade (ahead_of it) (eyes.shades.at h stand.there.at)) stand.host_is
    (stands_at eyes run.are entry.0 stand.there it stand.apart stand.is is)

entry_within : (eyes : Eyes) (old : HostState) (thread : ThreadShape) (links : List HiddenEntry) (token : Token)
    (owed : OwedInView)
    (now shown : LowView) (host : HostId) (entry : EntryId) → Unseen eyes old thread links token owed now shown →
    (stand : Standing eyes.code host entry) → stand.there.at < length (part_of eyes.code host)
entry_within eyes old thread links token owed now shown host entry run stand =
    subst (λ (h : HostId). stand.there.at < length (part_of eyes.code h)) stand.host_is
    (all_at (EntryFits eyes.code) eyes.code.entries entry.0 stand.there run.sound.entries stand.is).at

-- ---- pushes

-- an entry that is pushed unseen, and where it goes on then
record Pushed (eyes : Eyes) (old : HostState) (thread : ThreadShape) (links : List HiddenEntry) (token : Token)
    (owed : OwedInView)
    (entry : EntryId) (there : Entry) : Type 0 where
  hidden : is_hidden eyes entry.0 ≡ true
  unseen : is_open eyes old.me there.at ≡ false
  owes : Owes eyes (at old.me there.at thread.frame token) links owed
  next : is_deep eyes old.me (thread.at + 1) ≡ true

pushed_plain : (eyes : Eyes) (old : HostState) (thread : ThreadShape) (links : List HiddenEntry) (token : Token)
    (owed : OwedInView)
    (now shown : LowView) (here_is : Instr) (entry : EntryId) (next : Ahead) →
    Unseen eyes old thread links token owed now shown → IsHere eyes old thread here_is →
    (stand : Standing eyes.code old.me entry) → MeetsShade next (eyes.shades.at old.me (suc thread.at)) →
    NamesInShade eyes.shades.entries (eyes.shades.at old.me thread.at) entry.0 →
    (eyes.shades.at old.me thread.at).guard ≡ None → next.block ≡ (eyes.shades.at old.me thread.at).block →
    Pushed eyes old thread links token owed entry stand.there
pushed_plain eyes old thread links token owed now shown here_is entry next run is stand meets names unguarded block =
    let here = eyes.shades.at old.me thread.at in
    let deep = deep_of eyes run.are old.me thread.at here_is is unguarded run.hidden in
    let place = entry_meets eyes old thread links token owed now shown old.me entry names.it run stand names.is in
    let deep_there : is_deep eyes old.me stand.there.at ≡ true =
    deep_as eyes here.block old.me stand.there.at (place.block ∙ names.block)
    (block_hidden eyes old.me thread.at deep) in
    record {
      hidden = hidden_is eyes here entry.0 names ∙ ap not run.hidden;
      unseen = deep_hidden eyes run.are old.me stand.there.at
          (entry_within eyes old thread links token owed now shown old.me entry run stand) deep_there;
      owes = deep_moved eyes links owed old.me old.me thread.at stand.there.at thread.frame thread.frame token deep
          deep_there run.owes;
      next = next_deep eyes old.me thread.at next deep meets block;
    }

pushed_head : (eyes : Eyes) (old : HostState) (thread : ThreadShape) (links : List HiddenEntry) (token : Token)
    (owed : OwedInView)
    (now shown : LowView) (here_is : Instr) (entry : EntryId) (next : Ahead) (loop : ℕ) →
    Unseen eyes old thread links token owed now shown → IsHere eyes old thread here_is →
    (stand : Standing eyes.code old.me entry) → MeetsShade next (eyes.shades.at old.me (suc thread.at)) →
    (eyes.shades.at old.me thread.at).guard ≡ Some loop →
    PushesAt (Some loop) eyes.shades.entries (eyes.shades.at old.me thread.at) entry.0 next →
    Pushed eyes old thread links token owed entry stand.there
pushed_head eyes old thread links token owed now shown here_is entry next loop run is stand meets guard pushes =
    let here = eyes.shades.at old.me thread.at in
    let names = pushes.0 in
    let place = entry_meets eyes old thread links token owed now shown old.me entry names.it run stand names.is in
    let goes = begun_same (ahead_of names.it) (eyes.shades.at old.me stand.there.at) here.pc (Some loop) place
    pushes.1 in
    let other = instruction_within eyes old.me stand.there.at
    (entry_within eyes old thread links token owed now shown old.me entry run stand) in
    record {
      hidden = hidden_is eyes here entry.0 names ∙ ap not run.hidden;
      unseen = ap eyes.sees goes.0 ∙ run.hidden;
      owes = begun_moved eyes run.are links owed old.me thread.at stand.there.at thread.frame token here_is other.0 is
          other.1 run.hidden (place.block ∙ names.block) goes.0 (goes.1 ∙ sym guard) run.owes;
      next = deep_as eyes here.pc old.me (thread.at + 1)
          ((meets_next eyes old.me thread.at next meets).block ∙ ap (λ (it : Ahead). it.block) pushes.2) run.hidden;
    }

pushed : (eyes : Eyes) (old : HostState) (thread : ThreadShape) (links : List HiddenEntry) (token : Token)
    (owed : OwedInView)
    (now shown : LowView) (here_is : Instr) (entry : EntryId) (next : Ahead) →
    Unseen eyes old thread links token owed now shown → IsHere eyes old thread here_is →
    (stand : Standing eyes.code old.me entry) → MeetsShade next (eyes.shades.at old.me (suc thread.at)) →
    (calls : Bool) →
    PushesInShade eyes.scene eyes.shades.entries old.me calls (eyes.shades.at old.me thread.at) entry.0 next →
    Pushed eyes old thread links token owed entry stand.there
pushed eyes old thread links token owed now shown here_is entry next run is stand meets true pushes =
    pushed_plain eyes old thread links token owed now shown here_is entry next run is stand meets pushes.names
    pushes.no_guard (ap (λ (it : Ahead). it.block) pushes.goes)
pushed eyes old thread links token owed now shown here_is entry next run is stand meets false pushes =
    by (eyes.shades.at old.me thread.at).guard refl pushes
  where
    by : (guard : Option ℕ) → (eyes.shades.at old.me thread.at).guard ≡ guard →
        PushesAt guard eyes.shades.entries (eyes.shades.at old.me thread.at) entry.0 next →
        Pushed eyes old thread links token owed entry stand.there
    by None none at_entry =
        pushed_plain eyes old thread links token owed now shown here_is entry next run is stand meets at_entry.0 none
        (ap (λ (it : Ahead). it.block) at_entry.1)
    by (Some loop) at_loop at_entry =
        pushed_head eyes old thread links token owed now shown here_is entry next loop run is stand meets at_loop
        at_entry

push_unseen : (eyes : Eyes) (old : HostState) (thread : ThreadShape) (links : List HiddenEntry) (token : Token)
    (owed : OwedInView)
    (now shown : LowView) (label : ℕ) (entry : EntryId) → Unseen eyes old thread links token owed now shown →
    (stand : Standing eyes.code old.me entry) → Pushed eyes old thread links token owed entry stand.there →
    EndsIn eyes old thread links now shown label (with_thread (after_push (with_running old None) entry thread.frame
    token)
    (with_token (Some (new_token (with_running old None) entry thread.frame)) (after_step thread)))
push_unseen eyes old thread links token owed now shown label entry run stand push fits =
    let bare = with_running old None in
    let fresh = new_token bare entry thread.frame in
    let later = with_token (Some fresh) (after_step thread) in
    let top : StackEntry = record { token = fresh; entry = entry; frame = thread.frame; kept = token } in
    let new = with_running (after_push bare entry thread.frame token) (Some later) in
    let hidden = deep_hidden eyes run.are old.me (thread.at + 1) (next_there eyes old.me new later refl refl fits)
    push.next in
    record {
      later = runs old.me later;
      sends = λ i j. refl;
      leaves = record {
        own = refl;
        chain = record { host = old.me; entry = top } ∷ links;
        hides = record {
          running = unseen_runs eyes old.me new.running later refl hidden;
          waiting = run.hides.waiting;
          entries = entry_hidden eyes old.me links old.entries top push.hidden run.hides.entries;
        };
        runs_apart = λ other apart. runs_apart old.me other later apart ∙ sym (runs_apart old.me other thread apart);
        waits_apart = λ other apart. refl;
        links_apart = λ other apart.
            ap (λ (b : Bool). if b then top ∷ links_on other links else links_on other links)
            (different other.0 old.me.0 apart);
        spot = at old.me (thread.at + 1) thread.frame fresh;
        held = (fresh, refl, refl);
        owed = owed;
        owes = (
          push.next,
          refl,
          (
            stand.there,
            record {
              is = stand.is;
              host = stand.host_is;
              token = refl;
              hidden = push.hidden;
              obeys = run.obeys;
              unseen = push.unseen;
            },
            push.owes,
          ),
        );
        well = run.owed_well;
        view = now;
        shows = shows_then eyes old new thread links token owed now shown run (record {
          key = refl;
          rows = λ field seen. refl;
          variables = λ frame x seen. refl;
          waiting = refl;
          serials = λ number shows. index_apart old.serials entry.0 number _
              (λ same. false≢true (sym shows ∙ ap (is_hidden eyes) same ∙ push.hidden));
          frames = λ site label is seen. refl;
          requests = λ place seen. refl;
        }) (nothing_seen eyes old.me new.running later refl hidden)
            (left_first (is_shown eyes) top old.entries (ap not push.hidden));
        others = λ other apart. refl;
        flying = refl;
        sent = refl;
        completed = run.completed;
      };
    }

pub push_ends : (eyes : Eyes) (old : HostState) (thread : ThreadShape) (links : List HiddenEntry) (token : Token)
    (owed : OwedInView)
    (now shown : LowView) (label : ℕ) (here_is : Instr) (entry : EntryId) →
    Unseen eyes old thread links token owed now shown → IsHere eyes old thread here_is →
    IsShadedOp eyes.scene eyes.shades old.me thread.at (op.Push entry) → IsEntryOn eyes.code old.me entry →
    EndsIn eyes old thread links now shown label (after_own_push (with_running old None) thread entry thread.held)
push_ends eyes old thread links token owed now shown label here_is entry run is law on =
    let stand = standing eyes.code old.me entry on in
    subst (λ held. EndsIn eyes old thread links now shown label (after_own_push (with_running old None) thread entry
    held))
    (sym run.held)
    (push_unseen eyes old thread links token owed now shown label entry run stand
    (pushed eyes old thread links token owed now shown here_is entry law.0 run is stand law.2
    (eyes.shades.at old.me thread.at).calls law.1.1))

-- ---- control goes to another place

pub either_by : (P : Outcome → Type 0) (b : Bool) (one other : Outcome) → (b ≡ true → P one) → (b ≡ false → P other) →
    P (if b then one else other)
either_by P true one other first second = first refl
either_by P false one other first second = second refl

-- where control goes to a place of the block, and what is owed there
goes_unseen : (eyes : Eyes) (old : HostState) (thread : ThreadShape) (links : List HiddenEntry) (token : Token)
    (owed : OwedInView)
    (now shown : LowView) (here_is : Instr) (entry : EntryId) (on : HostId) →
    Unseen eyes old thread links token owed now shown → IsHere eyes old thread here_is →
    GoesToInShade eyes.scene eyes.shades.entries (eyes.shades.at old.me thread.at) entry.0 on →
    (stand : Standing eyes.code on entry) →
    Owes eyes (at on stand.there.at thread.frame token) links owed
goes_unseen eyes old thread links token owed now shown here_is entry on run is goes stand =
    let here = eyes.shades.at old.me thread.at in
    let deep = deep_of eyes run.are old.me thread.at here_is is goes.2 run.hidden in
    let hands = goes.3 in
    let place = entry_meets eyes old thread links token owed now shown on entry hands.it run stand hands.is in
    let deep_there : is_deep eyes on stand.there.at ≡ true =
    deep_as eyes here.block on stand.there.at (place.block ∙ hands.block) (block_hidden eyes old.me thread.at deep) in
    deep_moved eyes links owed old.me on thread.at stand.there.at thread.frame thread.frame token deep deep_there
    run.owes

-- where a method is entered
calls_unseen : (eyes : Eyes) (old : HostState) (thread : ThreadShape) (links : List HiddenEntry) (token : Token)
    (owed : OwedInView)
    (now shown : LowView) (entry : EntryId) (on : HostId) → Unseen eyes old thread links token owed now shown →
    CallsOn eyes.scene eyes.shades.entries (eyes.shades.at old.me thread.at) entry.0 on →
    (stand : Standing eyes.code on entry) → is_deep eyes old.me thread.at ≡ true →
    is_deep eyes on stand.there.at ≡ true
calls_unseen eyes old thread links token owed now shown entry on run calls stand deep =
    let here = eyes.shades.at old.me thread.at in
    let enters = calls.3 in
    let place = entry_meets eyes old thread links token owed now shown on entry enters.it run stand enters.is in
    deep_as eyes enters.it.block on stand.there.at place.block
    (flow_hidden eyes run.are here.block enters.it.block enters.below (block_hidden eyes old.me thread.at deep))

pub go_ends : (eyes : Eyes) (old : HostState) (thread : ThreadShape) (links : List HiddenEntry) (token : Token)
    (owed : OwedInView)
    (now shown : LowView) (label : ℕ) (here_is : Instr) (entry : EntryId) (on : HostId) →
    Unseen eyes old thread links token owed now shown → IsHere eyes old thread here_is →
    IsShadedOp eyes.scene eyes.shades old.me thread.at (op.Go entry on) → IsEntryOn eyes.code on entry →
    EndsIn eyes old thread links now shown label (after_go (with_running old None) thread thread.frame entry on
    thread.held)
go_ends eyes old thread links token owed now shown label here_is entry on run is law on_host =
    let stand = standing eyes.code on entry on_host in
    subst (λ held. EndsIn eyes old thread links now shown label
    (after_go (with_running old None) thread thread.frame entry on held)) (sym run.held)
    (λ fits. hands_unseen eyes old thread links token owed now shown label on
    (message.Rgoto thread.frame entry token) (at on stand.there.at thread.frame token) run
    (stand.there, stand.is, stand.host_is, refl)
    (goes_unseen eyes old thread links token owed now shown here_is entry on run is law stand))

pub go_with_ends : (eyes : Eyes) (old : HostState) (thread : ThreadShape) (links : List HiddenEntry) (token : Token)
    (owed : OwedInView) (now shown : LowView) (label : ℕ) (here_is : Instr) (entry : EntryId) (on : HostId)
    (riders : List VarId) → Unseen eyes old thread links token owed now shown → IsHere eyes old thread here_is →
    IsShadedOp eyes.scene eyes.shades old.me thread.at (op.GoWith entry on riders) → IsEntryOn eyes.code on entry →
    EndsIn eyes old thread links now shown label
    (after_go_with (with_running old None) thread thread.frame entry on riders thread.held)
go_with_ends eyes old thread links token owed now shown label here_is entry on riders run is law on_host =
    let bare = with_running old None in
    let stand = standing eyes.code on entry on_host in
    subst (λ held. EndsIn eyes old thread links now shown label
    (after_go_with bare thread thread.frame entry on riders held)) (sym run.held)
    (λ fits. hands_unseen eyes old thread links token owed now shown label on
    (message.RgotoWith thread.frame entry token (riders_of bare thread.frame riders))
    (at on stand.there.at thread.frame token) run (stand.there, stand.is, stand.host_is, refl)
    (goes_unseen eyes old thread links token owed now shown here_is entry on run is law.0 stand))

pub call_ends : (eyes : Eyes) (old : HostState) (thread : ThreadShape) (links : List HiddenEntry) (token : Token)
    (owed : OwedInView)
    (now shown : LowView) (label : ℕ) (here_is : Instr) (entry : EntryId) (on : HostId) →
    Unseen eyes old thread links token owed now shown → IsHere eyes old thread here_is →
    IsShadedOp eyes.scene eyes.shades old.me thread.at (op.Call entry on) → IsEntryOn eyes.code on entry →
    EndsIn eyes old thread links now shown label (after_call eyes.code (with_running old None) thread entry on)
call_ends eyes old thread links token owed now shown label here_is entry on run is law on_host =
    let stand = standing eyes.code on entry on_host in
    let deep = deep_of eyes run.are old.me thread.at here_is is law.2 run.hidden in
    let deep_there = calls_unseen eyes old thread links token owed now shown entry on run law stand deep in
    either_by (EndsIn eyes old thread links now shown label) (on.0 == old.me.0) _ _
    (λ same.
    let later : ThreadShape = record thread { at = stand.there.at; frame = thread.new_frame } in
    let here_on : on ≡ old.me = same_id on old.me (number_same on.0 old.me.0 same) in
    subst (λ found. EndsIn eyes old thread links now shown label (after_own_call (with_running old None) thread found))
    (sym stand.is)
    (deep_on eyes old (with_running old (Some later)) thread later links token owed now shown label run deep
    (subst (λ (h : HostId). is_deep eyes h stand.there.at ≡ true) here_on deep_there) refl refl refl refl
    run.hides.waiting (same_seen eyes old.me old (Some later))))
    (λ apart.
    subst (λ held. EndsIn eyes old thread links now shown label
    (after_go (with_running old None) thread thread.new_frame entry on held)) (sym run.held)
    (λ fits. hands_unseen eyes old thread links token owed now shown label on
    (message.Rgoto thread.new_frame entry token) (at on stand.there.at thread.new_frame token) run
    (stand.there, stand.is, stand.host_is, refl)
    (deep_moved eyes links owed old.me on thread.at stand.there.at thread.frame thread.new_frame token deep deep_there
    run.owes)))

pub call_with_ends : (eyes : Eyes) (old : HostState) (thread : ThreadShape) (links : List HiddenEntry) (token : Token)
    (owed : OwedInView) (now shown : LowView) (label : ℕ) (here_is : Instr) (entry : EntryId) (on : HostId)
    (riders : List VarId) → Unseen eyes old thread links token owed now shown → IsHere eyes old thread here_is →
    IsShadedOp eyes.scene eyes.shades old.me thread.at (op.CallWith entry on riders) → IsEntryOn eyes.code on entry →
    EndsIn eyes old thread links now shown label
    (after_go_with (with_running old None) thread thread.new_frame entry on riders thread.held)
call_with_ends eyes old thread links token owed now shown label here_is entry on riders run is law on_host =
    let bare = with_running old None in
    let stand = standing eyes.code on entry on_host in
    let deep = deep_of eyes run.are old.me thread.at here_is is law.0.2 run.hidden in
    subst (λ held. EndsIn eyes old thread links now shown label
    (after_go_with bare thread thread.new_frame entry on riders held)) (sym run.held)
    (λ fits. hands_unseen eyes old thread links token owed now shown label on
    (message.RgotoWith thread.new_frame entry token (riders_of bare thread.new_frame riders))
    (at on stand.there.at thread.new_frame token) run (stand.there, stand.is, stand.host_is, refl)
    (deep_moved eyes links owed old.me on thread.at stand.there.at thread.frame thread.new_frame token deep
    (calls_unseen eyes old thread links token owed now shown entry on run law.0 stand deep) run.owes))
