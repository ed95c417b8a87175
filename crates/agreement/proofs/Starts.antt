-- Each world shows some view, and the world before the first event leads to one.
use Rattle.std.proofs.Common.{◌≡◌, ◌≢◌, ◌∙◌, ℕ, zero, suc, ◌+◌, ℤ, Bool, true, false, List, [], ◌∷◌, arith}
use Rattle.std.proofs.Common.{Option, Some, None, inl, inr, refl, ap, sym, subst}
use Rattle.std.specs.Prelude.{◌==◌, ◌⊎◌, if◌then◌else◌, not, pos, IsSome, filter, slice_get, slice_index}
use Rattle.std.specs.Int.{bit_at}
use Rattle.std.proofs.lemmas.Bool.{false≢true}
use Rattle.std.proofs.lemmas.Bool.Decides.{eqb_tells}
use Rattle.js_base.specs.declared.ids.HostId.{HostId}
use Rattle.js_base.specs.declared.ids.FieldId.{FieldId}
use Rattle.jif_tree.specs.Store.{row_of}
use Rattle.ics_stack.specs.declared.stack.StackEntry.{StackEntry}
use Rattle.host_decl.specs.Hosts as declared_hosts
use Rattle.host_code.specs.declared.code.Entry.{Entry}
use Rattle.host_code.specs.Code.{CodeShape, CodeFieldShape, halt, field_at, entry_at}
use Rattle.host_code.specs.Sound.{IsSoundCode}
use Rattle.host_code.specs.Thread.{ThreadShape}
use Rattle.host_core.specs.Host.{HostState, with_running, after_push, after_entering, new_token, thread_at}
use Rattle.host_stores.specs.Stores.{own_rows}
use Rattle.host_core.specs.Start.{main_frame, last_token, idle_host, root_host, host_at_start}
use Rattle.net_world.specs.World.{WorldShape, given, state_at, hosts_before, world_at_start}
use Rattle.net_world.proofs.Present.{same_id}
use Rattle.token_laws.proofs.Tests.{itself, number_same, different}
use Rattle.seen_world.specs.Eyes.{Eyes, AreEyes, Watches, sees_at, is_open, is_deep, is_hidden}
use Rattle.seen_world.proofs.PointsAtStart.{present_obeys}
use Rattle.seen_world.proofs.SeenPlaces.{some_is}
use Rattle.agreement.specs.Alike.{AreStartsAlike}
use Rattle.agreement.specs.Leads.{UnseenHolder, nobody, runs, runs_on, waits_on, hidden_running, Hides}
use Rattle.agreement.specs.Leads.{IsOwedWell, Leads, Agree}
use Rattle.agreement.specs.Views.{LowView, HostView, ShowsHost, Shows, nowhere, at, OwedInView, nothing, goes_on, gives}
use Rattle.agreement.specs.Views.{owed_at}
use Rattle.agreement.specs.Views.{Completed, GivenBack, exit_of, running_view, waiting_view, flights_view, is_shown}
use Rattle.agreement.specs.Views.{sees_field, with_host, with_thread, host_popped}
use Rattle.agreement.proofs.Ends.{unseen_runs}
use Rattle.agreement.proofs.Lists.{kept_first}
use Rattle.agreement.proofs.Steps.{runs_apart}
use Rattle.agreement.proofs.Transfers.{there_with}

-- ---- views

-- what is seen of a host, and nothing of one that misbehaves
abbrev host_view_of : Eyes → HostId → Option HostState → HostView
host_view_of eyes host None = record {
  key = [];
  rows = λ field. [];
  variables = λ frame x. pos 0;
  running = [];
  waiting = [];
  entries = [];
  serials = λ number. 0;
  frames = λ site. 0;
  requests = λ place. 0;
}
host_view_of eyes host (Some state) = record {
  key = state.key;
  rows = row_of state.rows;
  variables = state.variables;
  running = running_view eyes host state.running;
  waiting = waiting_view eyes host state.waiting;
  entries = filter (is_shown eyes) state.entries;
  serials = slice_index state.serials;
  frames = slice_index state.frames;
  requests = slice_index state.requests;
}

abbrev view_of : Eyes → WorldShape → LowView
view_of eyes world = record {
  hosts = λ host. host_view_of eyes host (state_at world host);
  flying = λ from to. flights_view eyes from to (world.flying from to);
  sent = world.sent;
}

host_shows : (eyes : Eyes) (host : HostId) (state : HostState) → ShowsHost eyes host state (host_view_of eyes host
    (Some state))
host_shows eyes host state = record {
  key = refl;
  rows = λ field seen. refl;
  variables = λ frame x seen. refl;
  running = refl;
  waiting = refl;
  entries = refl;
  serials = λ number shown. refl;
  frames = λ site label is seen. refl;
  requests = λ place seen. refl;
}

shows_of : (eyes : Eyes) (world : WorldShape) → Shows eyes world (view_of eyes world)
shows_of eyes world = record {
  hosts = λ host state there.
      subst (λ found. ShowsHost eyes host state (host_view_of eyes host found)) (sym there) (host_shows eyes host
      state);
  flying = λ from to. refl;
  sent = refl;
}

pub some_view : (eyes : Eyes) (world : WorldShape) → (view : LowView) × Shows eyes world view
some_view eyes world = (view_of eyes world, shows_of eyes world)

-- ---- hosts before the first event

-- a host has a state in both, or in none
abbrev Paired : CodeShape → List (List ℤ) → List (List ℤ) → HostId → Option HostState → Option HostState → Type 0
Paired code one other me first second =
    ((first ≡ None) × (second ≡ None))
    ⊎ ((key : List ℕ) × (first ≡ Some (host_at_start code one key me))
    × (second ≡ Some (host_at_start code other key me)))

paired_row : (code : CodeShape) (one other : List (List ℤ)) (me : HostId) (key : List ℕ) (bad : Bool) →
    Paired code one other me (if bad then None else Some (host_at_start code one key me))
    (if bad then None else Some (host_at_start code other key me))
paired_row code one other me key true = inl (refl, refl)
paired_row code one other me key false = inr (key, refl, refl)

paired_at : (code : CodeShape) (one other : List (List ℤ)) (bad number : ℕ) (rows : List declared_hosts.HostShape)
    (i : ℕ) (me : HostId) → me.0 ≡ number + i →
    Paired code one other me (given (slice_get (hosts_before code one bad number rows) i))
    (given (slice_get (hosts_before code other bad number rows) i))
paired_at code one other bad number [] i me is = inl (refl, refl)
paired_at code one other bad number (row ∷ rows) zero me is =
    let make : ℕ → HostId = λ n. record { 0 = n } in
    let same : make number ≡ me = ap make (let n : number ≡ me.0 = omega arith in n) in
    subst (λ (h : HostId). Paired code one other h
    (if bit_at bad number == 1 then None else Some (host_at_start code one row.key (make number)))
    (if bit_at bad number == 1 then None else Some (host_at_start code other row.key (make number)))) same
    (paired_row code one other (make number) row.key (bit_at bad number == 1))
paired_at code one other bad number (row ∷ rows) (suc i) me is =
    paired_at code one other bad (number + 1) rows i me (omega arith)

started : (code : CodeShape) (store : List (List ℤ)) (bad : ℕ) (rows : List declared_hosts.HostShape) (me : HostId)
    (state : HostState) → state_at (world_at_start code rows bad store) me ≡ Some state →
    (key : List ℕ) × (host_at_start code store key me ≡ state)
started code store bad rows me state there = elim (paired_at code store store bad 0 rows me.0 me (omega arith)) [
  | inl none ↦
      let never : None ≡ Some state = sym none.0 ∙ there in
      absurd (cc)
  | inr some ↦ (some.0, some_is (sym some.1 ∙ there))
]

-- the root, with the entry that ends the program on its stack
abbrev top_of : CodeShape → List (List ℤ) → List ℕ → HostId → StackEntry
top_of code store key root = record {
  token = new_token (idle_host code store key root) halt main_frame;
  entry = halt;
  frame = main_frame;
  kept = last_token root;
}

abbrev main_thread : CodeShape → List (List ℤ) → List ℕ → HostId → Entry → ThreadShape
main_thread code store key root entry =
    thread_at entry main_frame (new_token (idle_host code store key root) halt main_frame)

abbrev root_state : CodeShape → List (List ℤ) → List ℕ → HostId → Entry → HostState
root_state code store key root entry =
    with_running (after_push (idle_host code store key root) halt main_frame (last_token root))
    (Some (main_thread code store key root entry))

root_is : (code : CodeShape) (store : List (List ℤ)) (key : List ℕ) (root : HostId) (entry : Entry) (state :
    HostState) →
    root.0 ≡ code.root.0 → entry_at code code.main ≡ Some entry → host_at_start code store key root ≡ state →
    root_state code store key root entry ≡ state
root_is code store key root entry state number there is =
    let idle = idle_host code store key root in
    let test : (root.0 == code.root.0) ≡ true = ap (λ (n : ℕ). n == code.root.0) number ∙ itself code.root.0 in
    sym (ap (λ (b : Bool). if b then root_host code idle else idle) test
    ∙ ap (λ found. after_entering (after_push idle halt main_frame (last_token root)) found main_frame
    (new_token idle halt main_frame)) there) ∙ is

idle_is : (code : CodeShape) (store : List (List ℤ)) (key : List ℕ) (host : HostId) (state : HostState) →
    host.0 ≢ code.root.0 → host_at_start code store key host ≡ state → idle_host code store key host ≡ state
idle_is code store key host state apart is =
    let idle = idle_host code store key host in
    sym (ap (λ (b : Bool). if b then root_host code idle else idle) (different host.0 code.root.0 apart)) ∙ is

-- ---- the first world

halt_shown : (eyes : Eyes) → AreEyes eyes → is_hidden eyes 0 ≡ false
halt_shown eyes are = rw are.shaded.halts refl

abbrev start_of : Eyes → List declared_hosts.HostShape → ℕ → List (List ℤ) → WorldShape
start_of eyes rows bad store = world_at_start eyes.code rows bad store

-- nothing goes on unseen on a host on which nothing was started
idle_hides : (eyes : Eyes) (holder : UnseenHolder) (host : HostId) (rows : List declared_hosts.HostShape) (bad : ℕ)
    (store : List (List ℤ)) (state : HostState) → state_at (start_of eyes rows bad store) host ≡ Some state →
    host.0 ≢ eyes.code.root.0 → runs_on holder host ≡ None → waits_on holder host ≡ [] →
    Hides eyes holder [] host state
idle_hides eyes holder host rows bad store state there apart none calm =
    let began = started eyes.code store bad rows host state there in
    subst (Hides eyes holder [] host) (idle_is eyes.code store began.0 host state apart began.1)
    (record { running = sym none; waiting = sym calm; entries = refl })

root_hides : (eyes : Eyes) (holder : UnseenHolder) (root : HostId) (store : List (List ℤ)) (key : List ℕ)
    (entry : Entry) →
    AreEyes eyes → hidden_running eyes root (Some (main_thread eyes.code store key root entry)) ≡ runs_on holder root →
    waits_on holder root ≡ [] → Hides eyes holder [] root (root_state eyes.code store key root entry)
root_hides eyes holder root store key entry are hidden calm = record {
  running = hidden;
  waiting = sym calm;
  entries = sym (kept_first (is_shown eyes) (top_of eyes.code store key root) [] (ap not (halt_shown eyes are)));
}

-- what is known of the root, where it obeys
record Root (eyes : Eyes) (rows : List declared_hosts.HostShape) (bad : ℕ) (store : List (List ℤ)) (key : List ℕ)
    (entry : Entry) : Type 0 where
  there : state_at (start_of eyes rows bad store) eyes.code.root
      ≡ Some (root_state eyes.code store key eyes.code.root entry)
  obeys : eyes.bad eyes.code.root ≡ false

-- each host, where what goes on unseen is at the root or nowhere
start_hides : (eyes : Eyes) (holder : UnseenHolder) (rows : List declared_hosts.HostShape) (bad : ℕ)
    (store : List (List ℤ)) (key : List ℕ) (entry : Entry) → AreEyes eyes → Root eyes rows bad store key entry →
    hidden_running eyes eyes.code.root (Some (main_thread eyes.code store key eyes.code.root entry))
    ≡ runs_on holder eyes.code.root →
    ((host : HostId) → host.0 ≢ eyes.code.root.0 → runs_on holder host ≡ None) →
    ((host : HostId) → waits_on holder host ≡ []) → (host : HostId) (state : HostState) →
    state_at (start_of eyes rows bad store) host ≡ Some state → Hides eyes holder [] host state
start_hides eyes holder rows bad store key entry are root hidden none calm host state there =
    elim (eqb_tells host.0 eyes.code.root.0) [
      | inl same ↦
          let one : host ≡ eyes.code.root = same_id host eyes.code.root same.1 in
          let found : Some state ≡ Some (root_state eyes.code store key eyes.code.root entry) =
          sym there ∙ ap (state_at (start_of eyes rows bad store)) one ∙ root.there in
          let is : state ≡ root_state eyes.code store key eyes.code.root entry = cc in
          subst (λ (h : HostId). Hides eyes holder [] h state) (sym one)
          (subst (Hides eyes holder [] eyes.code.root) (sym is)
          (root_hides eyes holder eyes.code.root store key entry are hidden (calm eyes.code.root)))
      | inr apart ↦
          idle_hides eyes holder host rows bad store state there apart.1 (none host apart.1) (calm host)
    ]

-- what is seen once the thread at `main` has come to its place, where this is seen without it
abbrev main_shown : Eyes → StackEntry → Entry → LowView → Bool → Bool → LowView
main_shown eyes top entry now true deep = now
main_shown eyes top entry now false true =
    with_host now eyes.code.root (host_popped eyes eyes.code.root top [] (now.hosts eyes.code.root))
main_shown eyes top entry now false false =
    with_thread now eyes.code.root (exit_of eyes eyes.code.root entry.at) main_frame top.token

-- the thread at `main` may be seen
open_leads : (eyes : Eyes) (rows : List declared_hosts.HostShape) (bad : ℕ) (store : List (List ℤ)) (key : List ℕ)
    (entry : Entry) (now : LowView) → AreEyes eyes → Root eyes rows bad store key entry →
    Shows eyes (start_of eyes rows bad store) now → is_open eyes eyes.code.root entry.at ≡ true →
    Leads eyes (start_of eyes rows bad store) now
open_leads eyes rows bad store key entry now are root shows seen =
    let thread = main_thread eyes.code store key eyes.code.root entry in
    record {
      owed = nothing;
      keeps = record {
        holder = nobody;
        links = [];
        present = tt;
        hides = start_hides eyes nobody rows bad store key entry are root
            (ap (λ (b : Bool). if b then None else Some thread) seen) (λ host apart. refl) (λ host. refl);
        flying = λ from to. refl;
        spot = nowhere;
        held = refl;
        owes = refl;
        well = tt;
      };
      now = now;
      shows = shows;
      completed = refl;
    }

-- it may not be seen
hidden_leads : (eyes : Eyes) (rows : List declared_hosts.HostShape) (bad : ℕ) (store : List (List ℤ)) (key : List ℕ)
    (entry : Entry) (owed : OwedInView) (now shown : LowView) → AreEyes eyes → Root eyes rows bad store key entry →
    Shows eyes (start_of eyes rows bad store) now → is_open eyes eyes.code.root entry.at ≡ false →
    owed_at eyes (at eyes.code.root entry.at main_frame (top_of eyes.code store key eyes.code.root).token) ≡ owed →
    IsOwedWell eyes owed → Completed eyes owed now shown → Leads eyes (start_of eyes rows bad store) shown
hidden_leads eyes rows bad store key entry owed now shown are root shows hidden owes well completed =
    let thread = main_thread eyes.code store key eyes.code.root entry in
    record {
      owed = owed;
      keeps = record {
        holder = runs eyes.code.root thread;
        links = [];
        present = subst IsSome (sym root.there) refl;
        hides = start_hides eyes (runs eyes.code.root thread) rows bad store key entry are root
            (unseen_runs eyes eyes.code.root (Some thread) thread refl hidden)
            (λ host apart. runs_apart eyes.code.root host thread apart) (λ host. refl);
        flying = λ from to. refl;
        spot = at eyes.code.root entry.at main_frame (top_of eyes.code store key eyes.code.root).token;
        held = ((top_of eyes.code store key eyes.code.root).token, refl, refl);
        owes = owes;
        well = well;
      };
      now = now;
      shows = shows;
      completed = completed;
    }

-- the token of the entry that ends the program is given back
ends_shown : (eyes : Eyes) (rows : List declared_hosts.HostShape) (bad : ℕ) (store : List (List ℤ)) (key : List ℕ)
    (entry : Entry) (now : LowView) → AreEyes eyes → Root eyes rows bad store key entry →
    Shows eyes (start_of eyes rows bad store) now →
    let top = top_of eyes.code store key eyes.code.root in
    Completed eyes (gives top.token) now (main_shown eyes top entry now false true)
ends_shown eyes rows bad store key entry now are root shows =
    let me = eyes.code.root in
    let top = top_of eyes.code store key me in
    let entries : (now.hosts me).entries ≡ top ∷ [] =
    sym (shows.hosts me (root_state eyes.code store key me entry) root.there).entries
    ∙ kept_first (is_shown eyes) top [] (ap not (halt_shown eyes are)) in
    subst (λ es. GivenBack eyes now top.token es (main_shown eyes top entry now false true)) (sym entries)
    (inl (refl, refl))

root_leads : (eyes : Eyes) (rows : List declared_hosts.HostShape) (bad : ℕ) (store : List (List ℤ)) (key : List ℕ)
    (entry : Entry) (now : LowView) (seen deep : Bool) → AreEyes eyes → Root eyes rows bad store key entry →
    Shows eyes (start_of eyes rows bad store) now → is_open eyes eyes.code.root entry.at ≡ seen →
    is_deep eyes eyes.code.root entry.at ≡ deep →
    Leads eyes (start_of eyes rows bad store)
    (main_shown eyes (top_of eyes.code store key eyes.code.root) entry now seen deep)
root_leads eyes rows bad store key entry now true deep are root shows is_seen is_it =
    open_leads eyes rows bad store key entry now are root shows is_seen
root_leads eyes rows bad store key entry now false true are root shows hidden is_it =
    let me = eyes.code.root in
    let top = top_of eyes.code store key me in
    hidden_leads eyes rows bad store key entry (gives top.token) now _ are root shows hidden
    (ap (λ (b : Bool). if b then gives top.token else goes_on me (exit_of eyes me entry.at) main_frame top.token) is_it)
    (root.obeys, halt_shown eyes are) (ends_shown eyes rows bad store key entry now are root shows)
root_leads eyes rows bad store key entry now false false are root shows hidden is_it =
    let me = eyes.code.root in
    let top = top_of eyes.code store key me in
    hidden_leads eyes rows bad store key entry (goes_on me (exit_of eyes me entry.at) main_frame top.token) now _ are
    root
    shows hidden
    (ap (λ (b : Bool). if b then gives top.token else goes_on me (exit_of eyes me entry.at) main_frame top.token) is_it)
    (λ is. false≢true (sym (halt_shown eyes are) ∙ is.1)) refl

-- the root misbehaves
rootless_leads : (eyes : Eyes) (rows : List declared_hosts.HostShape) (bad : ℕ) (store : List (List ℤ))
    (now : LowView) →
    Shows eyes (start_of eyes rows bad store) now → state_at (start_of eyes rows bad store) eyes.code.root ≡ None →
    Leads eyes (start_of eyes rows bad store) now
rootless_leads eyes rows bad store now shows none = record {
  owed = nothing;
  keeps = record {
    holder = nobody;
    links = [];
    present = tt;
    hides = λ host state there. idle_hides eyes nobody host rows bad store state there
        (nowhere_there host state there) refl refl;
    flying = λ from to. refl;
    spot = nowhere;
    held = refl;
    owes = refl;
    well = tt;
  };
  now = now;
  shows = shows;
  completed = refl;
}
  where
    nowhere_there : (host : HostId) (state : HostState) →
        state_at (start_of eyes rows bad store) host ≡ Some state → host.0 ≢ eyes.code.root.0
    nowhere_there host state there same =
        let one : host ≡ eyes.code.root = same_id host eyes.code.root same in
        let never : None ≡ Some state =
        sym none ∙ ap (state_at (start_of eyes rows bad store)) (sym one) ∙ there in
        absurd (cc)

-- ---- the first world, and two of them

main_there : (eyes : Eyes) → IsSoundCode eyes.code →
    (entry : Entry) × (entry_at eyes.code eyes.code.main ≡ Some entry) × (entry.host ≡ eyes.code.root)
main_there eyes sound =
    there_with (λ (it : Entry). it.host ≡ eyes.code.root) (entry_at eyes.code eyes.code.main) sound.main

made_root : (eyes : Eyes) (rows : List declared_hosts.HostShape) (bad : ℕ) (store : List (List ℤ)) (key : List ℕ)
    (entry : Entry) → Watches eyes (start_of eyes rows bad store) → entry_at eyes.code eyes.code.main ≡ Some entry →
    state_at (start_of eyes rows bad store) eyes.code.root
    ≡ Some (host_at_start eyes.code store key eyes.code.root) → Root eyes rows bad store key entry
made_root eyes rows bad store key entry watch main there =
    let root = eyes.code.root in
    let state = host_at_start eyes.code store key root in record {
      there = there ∙ ap Some (sym (root_is eyes.code store key root entry state refl main refl));
      obeys = sym (watch root)
          ∙ present_obeys (slice_get (hosts_before eyes.code store bad 0 rows) root.0) state there;
    }

-- what is seen of a world at the start, by what is seen without the thread at `main`
abbrev started_view : Eyes → List (List ℤ) → List ℕ → Entry → LowView → LowView
started_view eyes store key entry now =
    main_shown eyes (top_of eyes.code store key eyes.code.root) entry now (is_open eyes eyes.code.root entry.at)
    (is_deep eyes eyes.code.root entry.at)

started_leads : (eyes : Eyes) (rows : List declared_hosts.HostShape) (bad : ℕ) (store : List (List ℤ)) (key : List ℕ)
    (entry : Entry) (now : LowView) → AreEyes eyes → Watches eyes (start_of eyes rows bad store) →
    entry_at eyes.code eyes.code.main ≡ Some entry → Shows eyes (start_of eyes rows bad store) now →
    state_at (start_of eyes rows bad store) eyes.code.root
    ≡ Some (host_at_start eyes.code store key eyes.code.root) →
    Leads eyes (start_of eyes rows bad store) (started_view eyes store key entry now)
started_leads eyes rows bad store key entry now are watch main shows there =
    root_leads eyes rows bad store key entry now (is_open eyes eyes.code.root entry.at)
    (is_deep eyes eyes.code.root entry.at) are (made_root eyes rows bad store key entry watch main there) shows refl
    refl

pub start_leads : (eyes : Eyes) (rows : List declared_hosts.HostShape) (bad : ℕ) (store : List (List ℤ)) →
    AreEyes eyes → IsSoundCode eyes.code → Watches eyes (world_at_start eyes.code rows bad store) →
    (shown : LowView) × Leads eyes (world_at_start eyes.code rows bad store) shown
start_leads eyes rows bad store are sound watch =
    let world = start_of eyes rows bad store in
    let root = eyes.code.root in
    let main = main_there eyes sound in
    elim (paired_at eyes.code store store bad 0 rows root.0 root (omega arith)) [
      | inl none ↦ (
        view_of eyes world,
        rootless_leads eyes rows bad store (view_of eyes world) (shows_of eyes world) none.0,
      )
      | inr some ↦ (
        started_view eyes store some.0 main.0 (view_of eyes world),
        started_leads eyes rows bad store some.0 main.0 (view_of eyes world) are watch main.1 (shows_of eyes world)
            some.1,
      )
    ]

-- ---- rows

own_rows_at : (me : HostId) (one other : List (List ℤ)) (fields : List CodeFieldShape) (number i : ℕ) →
    ((there : CodeFieldShape) → slice_get fields i ≡ Some there → (there.host.0 == me.0) ≡ true →
    row_of one (number + i) ≡ row_of other (number + i)) →
    row_of (own_rows me other number fields) i ≡ row_of (own_rows me one number fields) i
own_rows_at me one other [] number i each = refl
own_rows_at me one other (field ∷ fields) number zero each = by (field.host.0 == me.0) refl
  where
    by : (b : Bool) → (field.host.0 == me.0) ≡ b →
        (if b then row_of other number else []) ≡ (if b then row_of one number else [])
    by true same =
        let at_number : number + 0 ≡ number = omega arith in
        sym (subst (λ (n : ℕ). row_of one n ≡ row_of other n) at_number (each field refl same))
    by false same = refl
own_rows_at me one other (field ∷ fields) number (suc i) each =
    own_rows_at me one other fields (number + 1) i (λ there is same.
    let later : number + suc i ≡ number + 1 + i = omega arith in
    subst (λ (n : ℕ). row_of one n ≡ row_of other n) later (each there is same))

field_there : (eyes : Eyes) (field : FieldId) → sees_field eyes field ≡ true → (there : CodeFieldShape) →
    field_at eyes.code field ≡ Some there → sees_at eyes there.label ≡ true
field_there eyes field seen there is =
    let same : sees_field eyes field ≡ sees_at eyes there.label = rw is refl in
    sym same ∙ seen

rows_alike : (eyes : Eyes) (me : HostId) (one other : List (List ℤ)) → eyes.bad me ≡ false →
    AreStartsAlike eyes one other → (field : FieldId) → sees_field eyes field ≡ true →
    row_of (own_rows me other 0 eyes.code.fields) field.0 ≡ row_of (own_rows me one 0 eyes.code.fields) field.0
rows_alike eyes me one other obeys alike field seen =
    own_rows_at me one other eyes.code.fields 0 field.0 (λ there is same.
    let on : there.host ≡ me = same_id there.host me (number_same there.host.0 me.0 same) in
    let later : field.0 ≡ 0 + field.0 = omega arith in
    subst (λ (n : ℕ). row_of one n ≡ row_of other n) later
    (alike field there is (field_there eyes field seen there is) (ap eyes.bad on ∙ obeys)))

-- a host that starts with another store shows the same
alike_by : (eyes : Eyes) (me : HostId) (one other : List (List ℤ)) (key : List ℕ) (root : Bool)
    (found : Option Entry) →
    ((field : FieldId) → sees_field eyes field ≡ true → row_of (own_rows me other 0 eyes.code.fields) field.0
    ≡ row_of (own_rows me one 0 eyes.code.fields) field.0) →
    let first = idle_host eyes.code one key me in
    let second = idle_host eyes.code other key me in
    ShowsHost eyes me
    (if root then after_entering (after_push second halt main_frame (last_token me)) found main_frame
    (new_token second halt main_frame) else second)
    (host_view_of eyes me (Some (if root then after_entering (after_push first halt main_frame (last_token me)) found
    main_frame (new_token first halt main_frame) else first)))
alike_by eyes me one other key true None rows = record {
  key = refl;
  rows = rows;
  variables = λ frame x seen. refl;
  running = refl;
  waiting = refl;
  entries = refl;
  serials = λ number shown. refl;
  frames = λ site label is seen. refl;
  requests = λ place seen. refl;
}
alike_by eyes me one other key true (Some entry) rows = record {
  key = refl;
  rows = rows;
  variables = λ frame x seen. refl;
  running = refl;
  waiting = refl;
  entries = refl;
  serials = λ number shown. refl;
  frames = λ site label is seen. refl;
  requests = λ place seen. refl;
}
alike_by eyes me one other key false found rows = record {
  key = refl;
  rows = rows;
  variables = λ frame x seen. refl;
  running = refl;
  waiting = refl;
  entries = refl;
  serials = λ number shown. refl;
  frames = λ site label is seen. refl;
  requests = λ place seen. refl;
}

shows_other : (eyes : Eyes) (rows : List declared_hosts.HostShape) (bad : ℕ) (one other : List (List ℤ)) →
    Watches eyes (start_of eyes rows bad other) → AreStartsAlike eyes one other →
    Shows eyes (start_of eyes rows bad other) (view_of eyes (start_of eyes rows bad one))
shows_other eyes rows bad one other watch alike = record {
  hosts = λ host state there. elim (paired_at eyes.code one other bad 0 rows host.0 host (omega arith)) [
    | inl none ↦
        let never : None ≡ Some state = sym none.1 ∙ there in
        absurd (cc)
    | inr some ↦
        let is : host_at_start eyes.code other some.0 host ≡ state = some_is (sym some.2 ∙ there) in
        let obeys : eyes.bad host ≡ false = sym (watch host)
        ∙ present_obeys (slice_get (hosts_before eyes.code other bad 0 rows) host.0) state there in
        subst (λ (s : HostState). ShowsHost eyes host s
        (host_view_of eyes host (state_at (start_of eyes rows bad one) host))) is
        (subst (λ found. ShowsHost eyes host (host_at_start eyes.code other some.0 host)
        (host_view_of eyes host found)) (sym some.1)
        (alike_by eyes host one other some.0 (host.0 == eyes.code.root.0) (entry_at eyes.code eyes.code.main)
        (rows_alike eyes host one other obeys alike)))
  ];
  flying = λ from to. refl;
  sent = refl;
}

pub starts_agree : (eyes : Eyes) (rows : List declared_hosts.HostShape) (bad : ℕ) (one other : List (List ℤ)) →
    AreEyes eyes → IsSoundCode eyes.code → Watches eyes (world_at_start eyes.code rows bad one) →
    Watches eyes (world_at_start eyes.code rows bad other) → AreStartsAlike eyes one other →
    Agree eyes (world_at_start eyes.code rows bad one) (world_at_start eyes.code rows bad other)
starts_agree eyes rows bad one other are sound watch watch_other alike =
    let now = view_of eyes (start_of eyes rows bad one) in
    let root = eyes.code.root in
    let main = main_there eyes sound in
    let first = shows_of eyes (start_of eyes rows bad one) in
    let second = shows_other eyes rows bad one other watch_other alike in
    elim (paired_at eyes.code one other bad 0 rows root.0 root (omega arith)) [
      | inl none ↦ record {
        shown = now;
        first = rootless_leads eyes rows bad one now first none.0;
        second = rootless_leads eyes rows bad other now second none.1;
      }
      | inr some ↦ record {
        shown = started_view eyes one some.0 main.0 now;
        first = started_leads eyes rows bad one some.0 main.0 now are watch main.1 first some.1;
        second = started_leads eyes rows bad other some.0 main.0 now are watch_other main.1 second some.2;
      }
    ]
