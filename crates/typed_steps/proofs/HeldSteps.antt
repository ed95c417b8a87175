-- What all hosts have of a configuration after a step of one of them, and after the step of the plain run that it
-- makes.
use Rattle.std.proofs.Common.{◌≡◌, ◌≢◌, ◌∙◌, ℕ, suc, ◌+◌, ◌<◌, ◌≤◌, inl, inr, Bool, true, List, [], ◌∷◌, ◌++◌}
use Rattle.std.proofs.Common.{length, map, Some, ap, sym, subst, arith}
use Rattle.std.specs.Prelude.{ℤ, pos, ◌==◌, if◌then◌else◌, slice_get, slice_index, slice_set}
use Rattle.std.specs.List.{AllByRecursion}
use Rattle.std.proofs.lemmas.Bool.Decides.{eqb_tells}
use Rattle.std.proofs.lemmas.Bool.{cases_lt, ne_eqb}
use Rattle.std.proofs.lemmas.List.{get_or-set_same, get_or-set_other}
use Rattle.js_base.specs.declared.ids.HostId.{HostId}
use Rattle.js_base.specs.declared.ids.FieldId.{FieldId}
use Rattle.js_base.specs.declared.ids.FrameId.{FrameId}
use Rattle.js_base.specs.declared.ids.SiteId.{SiteId}
use Rattle.js_base.specs.declared.ids.VarId.{VarId}
use Rattle.jif_tree.specs.SourceRun as plain
use Rattle.jif_tree.specs.SourceRun.{Call, Configuration, calls_after}
use Rattle.jif_tree.specs.Store.{store_after_write}
use Rattle.jif_tree.specs.Trees.{BlockTree}
use Rattle.host_code.specs.Code.{CodeShape, site_at}
use Rattle.host_stores.specs.Stores.{with_variable}
use Rattle.host_code.specs.Riders.{Rider, names_of}
use Rattle.host_core.specs.Host.{HostState, with_variables_set}
use Rattle.msg_cost.specs.Terms.{reads_on}
use Rattle.net_world.specs.Flying.{Flying}
use Rattle.net_world.specs.World.{WorldShape, state_at}
use Rattle.split_rules.specs.Handing.{Arrival}
use Rattle.split_rules.specs.Positions.{Forward, forwards_of, without_forward}
use Rattle.net_world.proofs.Moved.{Moved, either, mover_state}
use Rattle.typed_steps.specs.Values.{AreAlike}
use Rattle.typed_steps.proofs.Alike.{alike_by, alike_on, alike_both}
use Rattle.typed_steps.proofs.Holding.{same_counts}
use Rattle.jif_tree.specs.Store.{row_of}
use Rattle.typed_steps.specs.Views.{Split, CallNaming, View, Link, values_set, with_out, with_chain}
use Rattle.typed_steps.specs.Threads.{NoneKept}
use Rattle.typed_steps.specs.Values.{AreRowsAlike}
use Rattle.typed_steps.specs.Variables.{AgreeOnVariables, IsUnused, AreFresh, HasResult, HostsHold}
use Rattle.typed_steps.specs.Requests.{FieldIsOn, RidesOut}
use Rattle.typed_steps.proofs.Rows.{fields_kept, fields_same, fields_written}
use Rattle.typed_steps.proofs.Calls.{long_set, value_set, named_set, get_front, get_last, long_last, value_front}
use Rattle.typed_steps.proofs.Calls.{value_last}
use Rattle.typed_steps.proofs.Holding.{agree_kept, agree_calm, agree_set, agree_forwarded, agree_given, fresh_kept}
use Rattle.typed_steps.proofs.Holding.{fresh_set, fresh_rode, own_cell, agree_rode, agree_told}
use Rattle.typed_steps.specs.Variables.{HaveFields}
use Rattle.typed_steps.specs.Turns.{HostsStillHold}
use Rattle.std.proofs.Common.{refl}

-- what is known of a world where a host has come to a state, whatever is in flight there
pub kept : (split : Split) (now : Configuration) (seen : View) (world : WorldShape) (host : HostId) (new : HostState) →
    ((after : WorldShape) → Moved world host new after.flying after → HostsHold split now seen after) →
    HostsStillHold split now seen world host new
kept split now seen world host new given after hosts = given after (record { hosts = hosts; flying = refl })

-- ---- nothing is set

result_kept : (split : Split) (c : Configuration) (view : View) (world after : WorldShape) (host : HostId)
    (old state : HostState) (flying : Flying) → HasResult split c view world → state_at world host ≡ Some old →
    Moved world host state flying after →
    ((frame : FrameId) (x : VarId) → AreAlike split.exposure x (state.variables frame x) (old.variables frame x)) →
    HasResult split c view after
result_kept split c view world after host old state flying result obeys moved variables call into kept behind there
    pending is =
    elim (either world after host old state flying obeys moved view.keeper there is) [
      | inl mover ↦
          alike_by split.exposure kept _ _ _ (ap (λ (s : HostState). s.variables (view.naming.frame call) kept)
          mover.is) (alike_both split.exposure kept _ _ _ (variables (view.naming.frame call) kept)
          (result call into kept behind old pending (ap (state_at world) mover.same ∙ obeys)))
      | inr apart ↦ result call into kept behind there pending apart.obeys
    ]

-- a step that leaves each field and each variable as it was, or that may be affected, and takes no frame back
pub holds_kept : (split : Split) (c : Configuration) (view : View) (world after : WorldShape) (host : HostId)
    (old state : HostState) (flying : Flying) → HostsHold split c view world → state_at world host ≡ Some old →
    Moved world host state flying after →
    ((number : ℕ) → AreRowsAlike split.exposure number (row_of state.rows number) (row_of old.rows number)) →
    ((frame : FrameId) (x : VarId) → AreAlike split.exposure x (state.variables frame x) (old.variables frame x)) →
    ((site : SiteId) → slice_index old.frames site.0 ≤ slice_index state.frames site.0) → HostsHold split c view after
holds_kept split c view world after host old state flying holds obeys moved rows variables grows = record {
  fields = fields_kept split world after host old state flying c.store holds.fields obeys moved rows;
  known = holds.known;
  apart = holds.apart;
  named = holds.named;
  fresh = fresh_kept split view.naming world after host old state flying holds.fresh obeys moved variables grows;
  valued = holds.valued;
  agree = agree_kept split view.naming view.values view.out view.sender world after host old state flying holds.agree
      obeys moved variables;
  result = result_kept split c view world after host old state flying holds.result obeys moved variables;
}

-- the variables stay
variables_same : (split : Split) (old state : HostState) → state.variables ≡ old.variables → (frame : FrameId)
    (x : VarId) → AreAlike split.exposure x (state.variables frame x) (old.variables frame x)
variables_same split old state same frame x = inl (ap (λ (v : FrameId → VarId → ℤ). v frame x) same)

-- a step that writes no field, sets no variable and makes no frame
pub holds_same : (split : Split) (c : Configuration) (view : View) (world after : WorldShape) (host : HostId)
    (old state : HostState) (flying : Flying) → HostsHold split c view world → state_at world host ≡ Some old →
    Moved world host state flying after → state.rows ≡ old.rows → state.variables ≡ old.variables →
    state.frames ≡ old.frames → HostsHold split c view after
holds_same split c view world after host old state flying holds obeys moved rows variables frames =
    holds_kept split c view world after host old state flying holds obeys moved
    (λ number. inl (ap (λ list. row_of list number) rows)) (variables_same split old state variables)
    (same_counts old state frames)

none_result : (split : Split) (c : Configuration) (view : View) (world : WorldShape) → NoneKept c →
    HasResult split c view world
none_result split c view world none call into kept behind there pending is = absurd (none call into kept behind pending)

-- a step of the plain run that changes nothing but what is to be done
pub holds_now : (split : Split) (c now : Configuration) (view : View) (world : WorldShape) →
    HostsHold split c view world →
    now.store ≡ c.store → now.calls ≡ c.calls → NoneKept now → HostsHold split now view world
holds_now split c now view world holds store calls none = record {
  fields = subst (HaveFields split world) (sym store) holds.fields;
  known = subst (λ list. length list ≤ view.naming.count) (sym calls) holds.known;
  apart = holds.apart;
  named = λ call made.
      let one = holds.named call (subst (λ list. call < length list) calls made) in
      record {
        made = one.made;
        is = ap (λ list. slice_get list call) calls ∙ one.is;
        caller = one.caller;
        method = one.method;
      };
  fresh = holds.fresh;
  valued = λ call x made.
      holds.valued call x (subst (λ list. call < length list) calls made)
      ∙ ap (λ list. plain.variable list call x) (sym calls);
  agree = holds.agree;
  result = none_result split now view world none;
}

-- where nothing is to be sent, another entry may come first
pub holds_calm : (split : Split) (c : Configuration) (view : View) (world : WorldShape) (chain : List Link)
    (sender : ℕ) → HostsHold split c view world → view.out ≡ [] →
    HostsHold split c (record view { chain = chain; out = []; sender = sender }) world
holds_calm split c view world chain sender holds none = record {
  fields = holds.fields;
  known = holds.known;
  apart = holds.apart;
  named = holds.named;
  fresh = holds.fresh;
  valued = holds.valued;
  agree = agree_calm split view.naming view.values view.out view.sender sender world holds.agree none;
  result = holds.result;
}

-- the chain says nothing of what hosts have
pub holds_chain : (split : Split) (c : Configuration) (view : View) (world : WorldShape) (chain : List Link) →
    HostsHold split c view world → HostsHold split c (with_chain view chain) world
holds_chain split c view world chain holds = record {
  fields = holds.fields;
  known = holds.known;
  apart = holds.apart;
  named = holds.named;
  fresh = holds.fresh;
  valued = holds.valued;
  agree = holds.agree;
  result = holds.result;
}

-- ---- a field is written

pub holds_written : (split : Split) (c now : Configuration) (view : View) (world after : WorldShape) (host : HostId)
    (old state : HostState) (flying : Flying) (field : FieldId) (index value : ℤ) → HostsHold split c view world →
    state_at world host ≡ Some old → Moved world host state flying after → FieldIsOn split.code field host →
    state.rows ≡ store_after_write old.rows field.0 index value → state.variables ≡ old.variables →
    state.frames ≡ old.frames → now.store ≡ store_after_write c.store field.0 index value → now.calls ≡ c.calls →
    NoneKept now → HostsHold split now view after
holds_written split c now view world after host old state flying field index value holds obeys moved on rows variables
    frames store calls none = record {
      fields = subst (HaveFields split after) (sym store)
          (fields_written split world after host old state flying c.store field index value holds.fields obeys
          moved on rows);
      known = subst (λ list. length list ≤ view.naming.count) (sym calls) holds.known;
      apart = holds.apart;
      named = λ call made.
          let one = holds.named call (subst (λ list. call < length list) calls made) in
          record {
            made = one.made;
            is = ap (λ list. slice_get list call) calls ∙ one.is;
            caller = one.caller;
            method = one.method;
          };
      fresh = fresh_kept split view.naming world after host old state flying holds.fresh obeys moved
          (variables_same split old state variables) (same_counts old state frames);
      valued = λ call x made.
          holds.valued call x (subst (λ list. call < length list) calls made)
          ∙ ap (λ list. plain.variable list call x) (sym calls);
      agree = agree_kept split view.naming view.values view.out view.sender world after host old state flying
          holds.agree obeys moved (variables_same split old state variables);
      result = none_result split now view after none;
    }

-- ---- variables

-- the values of calls that were made
values_kept : (values : ℕ → ℕ → ℤ) (calls : List Call) (call x : ℕ) (value : ℤ) → call < length calls →
    ((k y : ℕ) → k < length calls → values k y ≡ plain.variable calls k y) → (k y : ℕ) → k < length calls →
    values_set values call x value k y ≡ plain.variable (calls_after calls call x value) k y
values_kept values calls call x value made valued k y within =
    ap (λ v. if k == call then (if y == x then value else v) else v) (valued k y within)
    ∙ sym (value_set calls call x value made k y)

same_call : (split : Split) (c : Configuration) (view : View) (world : WorldShape) → HostsHold split c view world →
    (call : ℕ) → call < view.naming.count → (other : ℕ) → other < view.naming.count →
    view.naming.frame call ≡ view.naming.frame other → call ≡ other
same_call split c view world holds call known other within same = holds.apart call other known within same

-- who acts set a variable of a call that was made
pub holds_set : (split : Split) (c now : Configuration) (view : View) (world after : WorldShape) (host : HostId)
    (old state : HostState) (flying : Flying) (call : ℕ) (x : VarId) (value : ℤ) (source : BlockTree) →
    length world.hosts ≡ length split.code.hosts → HostsHold split c view world → view.out ≡ [] →
    state_at world host ≡ Some old → Moved world host state flying after → state.rows ≡ old.rows →
    state.variables ≡ with_variable old.variables (view.naming.frame call) x value → state.frames ≡ old.frames →
    call < length c.calls → now.store ≡ c.store → now.calls ≡ calls_after c.calls call x.0 value → NoneKept now →
    HostsHold split now (record view {
      out = view.out ++ forwards_of split.planned host source x;
      sender = call;
      values = values_set view.values call x.0 value;
    }) after
holds_set split c now view world after host old state flying call x value source long holds none obeys moved rows
    variables frames made store calls plainly =
    let known = holds.known in
    let within : call < view.naming.count = omega arith in
    let many : length now.calls ≡ length c.calls = ap length calls ∙ long_set c.calls call x.0 value made in
    record {
      fields = subst (HaveFields split after) (sym store)
          (fields_same split world after host old state flying c.store holds.fields obeys moved rows);
      known = subst (λ n. n ≤ view.naming.count) (sym many) holds.known;
      apart = holds.apart;
      named = λ k there.
          named_set c now view.naming call x.0 value made calls k (holds.named k (subst (λ n. k < n) many there));
      fresh = fresh_set split view.naming world after host old state flying call x value holds.fresh obeys moved
          within variables frames;
      valued = λ k y there.
          values_kept view.values c.calls call x.0 value made holds.valued k y (subst (λ n. k < n) many there)
          ∙ ap (λ list. plain.variable list k y) (sym calls);
      agree = agree_set split view.naming view.values view.out view.sender world after host old state flying call x
          value source long holds.agree (inl none) obeys moved (same_call split c view world holds call within)
          variables;
      result = λ k into kept behind there pending is. absurd (plainly k into kept behind pending);
    }

-- a host was sent a variable
pub holds_forwarded : (split : Split) (c : Configuration) (view : View) (world after : WorldShape)
    (host : HostId) (old state : HostState) (flying : Flying) (x : VarId) (value : ℤ) → HostsHold split c view world →
    state_at world host ≡ Some old → Moved world host state flying after → state.rows ≡ old.rows →
    state.variables ≡ with_variable old.variables (view.naming.frame view.sender) x value →
    state.frames ≡ old.frames → AreAlike split.exposure x value (view.values view.sender x.0) →
    view.sender < view.naming.count → NoneKept c →
    HostsHold split c (with_out view (without_forward x host view.out)) after
holds_forwarded split c view world after host old state flying x value holds obeys moved rows variables frames is within
    plainly = record {
      fields = fields_same split world after host old state flying c.store holds.fields obeys moved rows;
      known = holds.known;
      apart = holds.apart;
      named = holds.named;
      fresh = fresh_set split view.naming world after host old state flying view.sender x value holds.fresh obeys
          moved within variables frames;
      valued = holds.valued;
      agree = agree_forwarded split view.naming view.values view.out view.sender world after host old state flying x
          value holds.agree obeys moved (same_call split c view world holds view.sender within) variables is;
      result = λ k into kept behind there pending is. absurd (plainly k into kept behind pending);
    }

-- where no names ride nothing rides
no_riders : (riders : List Rider) → [] ≡ names_of riders → riders ≡ []
no_riders [] none = refl
no_riders (rider ∷ riders) none = absurd (cc)

-- a host took what was still to be sent, with the token
pub holds_rode : (split : Split) (c : Configuration) (view : View) (world after : WorldShape) (host : HostId)
    (old state : HostState) (flying : Flying) (arrival : Arrival) → HostsHold split c view world →
    RidesOut split c view host arrival → state_at world host ≡ Some old → Moved world host state flying after →
    state.rows ≡ old.rows →
    state.variables ≡ (with_variables_set old arrival.frame arrival.riders).variables → state.frames ≡ old.frames →
    HostsHold split c (with_out view []) after
holds_rode split c view world after host old state flying arrival holds rides obeys moved rows variables frames =
    let set : state.variables ≡ (with_variables_set old (view.naming.frame view.sender) arrival.riders).variables =
    variables ∙ ap (λ f. (with_variables_set old f arrival.riders).variables) rides.frame_is in
    record {
      fields = fields_same split world after host old state flying c.store holds.fields obeys moved rows;
      known = holds.known;
      apart = holds.apart;
      named = holds.named;
      fresh = fresh_rode split view.naming world after host old state flying view.sender arrival.riders holds.fresh
          obeys moved rides.known set frames;
      valued = holds.valued;
      agree = agree_rode split view.naming view.values view.out view.sender world after host old state flying
          arrival.riders holds.agree obeys moved (same_call split c view world holds view.sender rides.known) set
          rides.all rides.alike;
      result = elim rides.settled [
        | inl none ↦
            let riders : arrival.riders ≡ [] =
            no_riders arrival.riders
            (ap (λ (out : List Forward). map (λ forward. forward.variable) out) (sym none) ∙ rides.all.0) in
            result_kept split c view world after host old state flying holds.result obeys moved
            (variables_same split old state
            (variables ∙ ap (λ list. (with_variables_set old arrival.frame list).variables) riders))
        | inr plainly ↦ none_result split c (with_out view []) after plainly
      ];
    }

-- a host without a state was told what was still to be sent, with the token
pub holds_told : (split : Split) (c : Configuration) (view : View) (world : WorldShape) (to : HostId) →
    HostsHold split c view world → ((state : HostState) → state_at world to ≡ Some state → ⊥) →
    AllByRecursion (λ forward. forward.host ≡ to) view.out → HostsHold split c (with_out view []) world
holds_told split c view world to holds none all = record {
  fields = holds.fields;
  known = holds.known;
  apart = holds.apart;
  named = holds.named;
  fresh = holds.fresh;
  valued = holds.valued;
  agree = agree_told split view.naming view.values view.out view.sender world to holds.agree none all;
  result = holds.result;
}

-- ---- calls

-- a parameter was set in the frame for a call
pub holds_argued : (split : Split) (c : Configuration) (view : View) (world after : WorldShape) (host : HostId)
    (old state : HostState) (flying : Flying) (x : VarId) (value : ℤ) (source : BlockTree) →
    length world.hosts ≡ length split.code.hosts → HostsHold split c view world → view.sender ≡ length c.calls →
    state_at world host ≡ Some old → Moved world host state flying after → state.rows ≡ old.rows →
    length c.calls < view.naming.count →
    state.variables ≡ with_variable old.variables (view.naming.frame (length c.calls)) x value →
    state.frames ≡ old.frames → NoneKept c →
    HostsHold split c (record view {
      out = view.out ++ forwards_of split.planned host source x;
      sender = length c.calls;
      values = values_set view.values (length c.calls) x.0 value;
    }) after
holds_argued split c view world after host old state flying x value source long holds sender obeys moved rows within
    variables frames plainly =
    let call = length c.calls in
    record {
      fields = fields_same split world after host old state flying c.store holds.fields obeys moved rows;
      known = holds.known;
      apart = holds.apart;
      named = holds.named;
      fresh = fresh_set split view.naming world after host old state flying call x value holds.fresh obeys moved
          within variables frames;
      valued = λ k y there.
          ap (λ (b : Bool). if b then plain.with_value (view.values k) x.0 value y else view.values k y)
          (ne_eqb k call (λ same. omega (arith, same, there)))
          ∙ holds.valued k y there;
      agree = agree_set split view.naming view.values view.out view.sender world after host old state flying call x
          value source long holds.agree (inr sender) obeys moved (same_call split c view world holds call within)
          variables;
      result = λ k into kept behind there pending is. absurd (plainly k into kept behind pending);
    }

-- the frames of calls, with one more
abbrev pub with_frame : CallNaming → FrameId → ℕ → ℕ → CallNaming
with_frame naming frame caller method = record {
  count = suc naming.count;
  frame = λ k. if k == naming.count then frame else naming.frame k;
  caller = λ k. if k == naming.count then caller else naming.caller k;
  method = λ k. if k == naming.count then method else naming.method k;
}

pub old_number : {X : Type 0} (k count : ℕ) (new old : X) → k < count → (if k == count then new else old) ≡ old
old_number k count new old within =
    ap (λ (b : Bool). if b then new else old) (ne_eqb k count (λ same. omega (arith, same, within)))

pub new_number : {X : Type 0} (k count : ℕ) (new old : X) → k ≡ count → (if k == count then new else old) ≡ new
new_number k count new old same = elim (eqb_tells k count) [
  | inl is ↦ ap (λ (b : Bool). if b then new else old) is.0
  | inr apart ↦ absurd (apart.1 same)
]

same_site : (code : CodeShape) (site other : SiteId) (host another : HostId) → site_at code site ≡ Some host →
    site_at code other ≡ Some another → site.0 ≡ other.0 → host ≡ another
same_site code site other host another is also same =
    let make : ℕ → SiteId = λ n. record { 0 = n } in
    let both : Some host ≡ Some another = sym is ∙ ap (site_at code) (ap make same) ∙ also in
    cc

-- a frame was made for a call
pub holds_framed : (split : Split) (c : Configuration) (view : View) (world after : WorldShape) (host : HostId)
    (old state : HostState) (flying : Flying) (site : SiteId) (caller method : ℕ) → HostsHold split c view world →
    view.out ≡ [] → view.naming.count ≡ length c.calls → state_at world host ≡ Some old →
    Moved world host state flying after → state.rows ≡ old.rows → state.variables ≡ old.variables →
    site_at split.code site ≡ Some host → site.0 < length old.frames →
    state.frames ≡ slice_set old.frames site.0 (slice_index old.frames site.0 + 1) → NoneKept c →
    HostsHold split c (record view {
      out = [];
      sender = length c.calls;
      naming = with_frame view.naming (record { site = site; count = slice_index old.frames site.0 }) caller method;
      values = λ k x. if k == view.naming.count then pos 0 else view.values k x;
    }) after
holds_framed split c view world after host old state flying site caller method holds none count obeys moved rows
    variables on within frames plainly =
    let known = holds.known in
    record {
      fields = fields_same split world after host old state flying c.store holds.fields obeys moved rows;
      known = omega arith;
      apart = λ one other first second same. apart_there one other first second same;
      named = λ k there.
          let was = holds.named k there in
          let before : k < naming.count = omega arith in
          record {
            made = was.made;
            is = was.is;
            caller = was.caller ∙ sym (old_number k naming.count caller (naming.caller k) before);
            method = was.method ∙ sym (old_number k naming.count method (naming.method k) before);
          };
      fresh = fresh_there;
      valued = λ k x there.
          old_number k naming.count (pos 0) (view.values k x) (omega arith) ∙ holds.valued k x there;
      agree = agree_there;
      result = λ k into kept behind there pending is. absurd (plainly k into kept behind pending);
    }
  where
    naming : CallNaming
    naming = view.naming

    frame : FrameId
    frame = record { site = site; count = slice_index old.frames site.0 }

    now : CallNaming
    now = with_frame naming frame caller method

    unused : IsUnused split naming world frame
    unused = holds.fresh host old site (slice_index old.frames site.0) obeys on (omega arith)

    -- a number of a call, or the next
    apart_there : (one other : ℕ) → one < suc naming.count → other < suc naming.count →
        now.frame one ≡ now.frame other → one ≡ other
    apart_there one other first second same = elim (cases_lt one naming.count) [
      | inl early ↦ elim (cases_lt other naming.count) [
        | inl also ↦ holds.apart one other early also
            (sym (old_number one naming.count frame (naming.frame one) early) ∙ same
            ∙ old_number other naming.count frame (naming.frame other) also)
        | inr late ↦ absurd (unused.apart one early
            (sym (old_number one naming.count frame (naming.frame one) early) ∙ same
            ∙ new_number other naming.count frame (naming.frame other) (omega arith)))
      ]
      | inr late ↦ elim (cases_lt other naming.count) [
        | inl early ↦ absurd (unused.apart other early
            (sym (old_number other naming.count frame (naming.frame other) early) ∙ sym same
            ∙ new_number one naming.count frame (naming.frame one) (omega arith)))
        | inr also ↦ omega arith
      ]
    ]

    agree_there : AgreeOnVariables split now (λ k x. if k == naming.count then pos 0 else view.values k x) []
        (length c.calls) after
    agree_there call other there x within is reads = elim (cases_lt call naming.count) [
      | inl early ↦
          let before = agree_kept split naming view.values [] view.sender world after host old state flying
          (agree_calm split naming view.values view.out view.sender view.sender world holds.agree none) obeys moved
          (variables_same split old state variables) call other there x early is reads in
          elim before [
            | inl is_out ↦ absurd is_out.1
            | inr same ↦ inr (alike_by split.exposure x _ _ _ (ap (λ f. there.variables f x)
                (old_number call naming.count frame (naming.frame call) early))
                (alike_on split.exposure x _ _ _ same
                (sym (old_number call naming.count (pos 0) (view.values call x.0) early))))
          ]
      | inr late ↦
          let at : call ≡ naming.count = omega arith in
          let here : AreAlike split.exposure x (there.variables frame x) (pos 0) =
          elim (either world after host old state flying obeys moved other there is) [
            | inl mover ↦ alike_by split.exposure x _ _ _ (ap (λ (s : HostState). s.variables frame x) mover.is
                ∙ ap (λ (v : FrameId → VarId → ℤ). v frame x) variables) (unused.unset host old x obeys)
            | inr differs ↦ unused.unset other there x differs.obeys
          ] in
          inr (alike_by split.exposure x _ _ _
          (ap (λ f. there.variables f x) (new_number call naming.count frame (naming.frame call) at))
          (alike_on split.exposure x _ _ _ here
          (sym (new_number call naming.count (pos 0) (view.values call x.0) at))))
    ]

    -- the frames that are still to be made, seen from the world before
    before_it : (other : HostId) (there : HostState) (another : SiteId) (count : ℕ) →
        state_at after other ≡ Some there →
        site_at split.code another ≡ Some other → slice_index there.frames another.0 ≤ count →
        IsUnused split naming world (record { site = another; count = count })
    before_it other there another count is on_it least =
        elim (either world after host old state flying obeys moved other there is) [
          | inl mover ↦
              let here : site_at split.code another ≡ Some host = on_it ∙ ap Some mover.same in
              let now : slice_index (slice_set old.frames site.0 (slice_index old.frames site.0 + 1)) another.0
              ≤ count =
              subst (λ list. slice_index list another.0 ≤ count)
              (ap (λ (s : HostState). s.frames) mover.is ∙ frames) least in
              holds.fresh host old another count obeys here (lower another.0 count now)
          | inr differs ↦ holds.fresh other there another count differs.obeys on_it least
        ]
      where
        lower : (n count : ℕ) →
            slice_index (slice_set old.frames site.0 (slice_index old.frames site.0 + 1)) n ≤ count →
            slice_index old.frames n ≤ count
        lower n count least = elim (eqb_tells n site.0) [
          | inl same ↦
              let own : slice_index (slice_set old.frames site.0 (slice_index old.frames site.0 + 1)) n
              ≡ slice_index old.frames site.0 + 1 =
              ap (slice_index (slice_set old.frames site.0 (slice_index old.frames site.0 + 1))) same.1
              ∙ get_or-set_same old.frames site.0 (slice_index old.frames site.0 + 1) 0 within in
              let at : slice_index old.frames n ≡ slice_index old.frames site.0 = ap (slice_index old.frames) same.1 in
              omega (arith, own, at, least)
          | inr differs ↦
              let other : slice_index (slice_set old.frames site.0 (slice_index old.frames site.0 + 1)) n
              ≡ slice_index old.frames n =
              get_or-set_other old.frames site.0 n (slice_index old.frames site.0 + 1) 0 differs.1 in
              omega (arith, other, least)
        ]

    -- none of them is the frame that was made
    not_it : (other : HostId) (there : HostState) (another : SiteId) (count : ℕ) → state_at after other ≡ Some there →
        site_at split.code another ≡ Some other → slice_index there.frames another.0 ≤ count →
        frame ≢ record { site = another; count = count }
    not_it other there another count is on_it least same =
        let sites : site.0 ≡ another.0 = ap (λ (f : FrameId). f.site.0) same in
        let counts : slice_index old.frames site.0 ≡ count = ap (λ (f : FrameId). f.count) same in
        let one : host ≡ other = same_site split.code site another host other on on_it sites in
        let mine : Some there ≡ Some state =
        sym is ∙ ap (state_at after) (sym one) ∙ mover_state world after host old state flying obeys moved in
        let state_is : there ≡ state = cc in
        let own : slice_index there.frames another.0 ≡ slice_index old.frames site.0 + 1 =
        ap (λ (s : HostState). slice_index s.frames another.0) state_is
        ∙ ap (λ list. slice_index list another.0) frames
        ∙ ap (slice_index (slice_set old.frames site.0 (slice_index old.frames site.0 + 1))) (sym sites)
        ∙ get_or-set_same old.frames site.0 (slice_index old.frames site.0 + 1) 0 within in
        omega (arith, own, counts, least)

    fresh_there : AreFresh split now after
    fresh_there other there another count is on_it least =
        let was = before_it other there another count is on_it least in
        record {
          apart = λ call early. elim (cases_lt call naming.count) [
            | inl before ↦ λ same. was.apart call before
                (sym (old_number call naming.count frame (naming.frame call) before) ∙ same)
            | inr late ↦ λ same. not_it other there another count is on_it least
                (sym (new_number call naming.count frame (naming.frame call) (omega arith)) ∙ same)
          ];
          unset = λ h s x at. elim (either world after host old state flying obeys moved h s at) [
            | inl mover ↦ alike_by split.exposure x _ _ _
                (ap (λ (t : HostState). t.variables (record { site = another; count = count }) x) mover.is
                ∙ ap (λ (v : FrameId → VarId → ℤ). v (record { site = another; count = count }) x) variables)
                (was.unset host old x obeys)
            | inr differs ↦ was.unset h s x differs.obeys
          ];
        }

-- a call was made, in the frame for it
pub holds_called : (split : Split) (c now : Configuration) (view : View) (world : WorldShape) (made : Call) →
    HostsHold split c view world → view.naming.count ≡ suc (length c.calls) → now.store ≡ c.store →
    now.calls ≡ c.calls ++ made ∷ [] → made.caller ≡ view.naming.caller (length c.calls) →
    made.method ≡ view.naming.method (length c.calls) →
    ((x : ℕ) → view.values (length c.calls) x ≡ made.values x) → NoneKept now → HostsHold split now view world
holds_called split c now view world made holds count store calls caller method values plainly =
    let many : length now.calls ≡ suc (length c.calls) = ap length calls ∙ long_last c.calls made in
    record {
      fields = subst (HaveFields split world) (sym store) holds.fields;
      known = omega arith;
      apart = holds.apart;
      named = λ k there. elim (cases_lt k (length c.calls)) [
        | inl early ↦
            let was = holds.named k early in
            record {
              made = was.made;
              is = ap (λ list. slice_get list k) calls ∙ get_front c.calls (made ∷ []) k early ∙ was.is;
              caller = was.caller;
              method = was.method;
            }
        | inr late ↦
            let at : k ≡ length c.calls = omega arith in
            record {
              made = made;
              is = ap (λ list. slice_get list k) calls ∙ get_last c.calls made k at;
              caller = caller ∙ ap view.naming.caller (sym at);
              method = method ∙ ap view.naming.method (sym at);
            }
      ];
      fresh = holds.fresh;
      valued = λ k x there. elim (cases_lt k (length c.calls)) [
        | inl early ↦ holds.valued k x early ∙ sym (value_front c.calls made k x early)
            ∙ ap (λ list. plain.variable list k x) (sym calls)
        | inr late ↦
            let at : k ≡ length c.calls = omega arith in
            ap (λ n. view.values n x) at ∙ values x ∙ sym (value_last c.calls made x)
            ∙ ap (λ n. plain.variable (c.calls ++ made ∷ []) n x) (sym at)
            ∙ ap (λ list. plain.variable list k x) (sym calls)
      ];
      agree = holds.agree;
      result = none_result split now view world plainly;
    }

-- a result was left where its call stands
pub holds_given : (split : Split) (c now : Configuration) (view : View) (world after : WorldShape) (host : HostId)
    (old state : HostState) (flying : Flying) (call : ℕ) (x : VarId) (value : ℤ) (into : VarId)
    (behind : List plain.Item) → HostsHold split c view world → view.out ≡ [] → state_at world host ≡ Some old →
    Moved world host state flying after → state.rows ≡ old.rows →
    state.variables ≡ with_variable old.variables (view.naming.frame call) x value → state.frames ≡ old.frames →
    call < length c.calls → ((other : ℕ) → reads_on split.planned x other ≡ true → ⊥) → now.store ≡ c.store →
    now.calls ≡ calls_after c.calls call x.0 value → now.pending ≡ plain.keep call into x ∷ behind →
    HostsHold split now (record view { values = values_set view.values call x.0 value; keeper = host }) after
holds_given split c now view world after host old state flying call x value into behind holds none obeys moved rows
    variables frames made unread store calls pending =
    let known = holds.known in
    let within : call < view.naming.count = omega arith in
    let many : length now.calls ≡ length c.calls = ap length calls ∙ long_set c.calls call x.0 value made in
    let kept = values_kept view.values c.calls call x.0 value made holds.valued in
    record {
      fields = subst (HaveFields split after) (sym store)
          (fields_same split world after host old state flying c.store holds.fields obeys moved rows);
      known = subst (λ n. n ≤ view.naming.count) (sym many) holds.known;
      apart = holds.apart;
      named = λ k there.
          named_set c now view.naming call x.0 value made calls k (holds.named k (subst (λ n. k < n) many there));
      fresh = fresh_set split view.naming world after host old state flying call x value holds.fresh obeys moved
          within variables frames;
      valued = λ k y there.
          kept k y (subst (λ n. k < n) many there) ∙ ap (λ list. plain.variable list k y) (sym calls);
      agree = agree_given split view.naming view.values view.out view.sender world after host old state flying call x
          value holds.agree none obeys moved (same_call split c view world holds call within) variables unread;
      result = λ other kept_in result others there is at.
          let both : plain.keep other kept_in result ∷ others ≡ plain.keep call into x ∷ behind = sym is ∙ pending in
          let one : other ≡ call = cc in
          let var : result ≡ x = cc in
          let mine : Some there ≡ Some state =
          sym at ∙ mover_state world after host old state flying obeys moved in
          let state_is : there ≡ state = cc in
          inl (ap (λ (s : HostState). s.variables (view.naming.frame other) result) state_is
          ∙ ap (λ k. state.variables (view.naming.frame k) result) one
          ∙ ap (λ y. state.variables (view.naming.frame call) y) var
          ∙ ap (λ (v : FrameId → VarId → ℤ). v (view.naming.frame call) x) variables
          ∙ own_cell old.variables view.naming view.values call x value
          ∙ kept call x.0 made
          ∙ ap (λ list. plain.variable list call x.0) (sym calls)
          ∙ ap (λ k. plain.variable now.calls k x.0) (sym one)
          ∙ ap (λ (y : VarId). plain.variable now.calls other y.0) (sym var));
    }
