-- Where a thread comes to its place, the world leads to what is seen then.
use Rattle.std.proofs.Common.{◌≡◌, ◌≢◌, ◌∙◌, Bool, true, false, [], ◌∷◌, Some, None, inl, inr, refl, ap, sym}
use Rattle.std.proofs.Common.{subst}
use Rattle.std.specs.Prelude.{if◌then◌else◌, IsSome}
use Rattle.std.proofs.lemmas.Bool.{cases_Bool, false≢true}
use Rattle.std.proofs.lemmas.Bool.Decides.{eqb_tells}
use Rattle.js_base.specs.declared.ids.HostId.{HostId}
use Rattle.capability.specs.declared.token.Token.{Token}
use Rattle.host_code.specs.Thread.{ThreadShape}
use Rattle.host_core.specs.Host.{HostState}
use Rattle.net_world.specs.World.{WorldShape, state_at}
use Rattle.net_world.proofs.Present.{same_id}
use Rattle.seen_world.specs.Eyes.{Eyes, AreEyes, is_open, is_deep, is_hidden, sees_level}
use Rattle.seen_world.proofs.SeenPlaces.{block_under}
use Rattle.agreement.specs.Comes.{ComesIntoView, Comes, HasCome}
use Rattle.agreement.specs.Leads.{UnseenHolder, nobody, runs, runs_on, waits_on, hidden_running, Hides, IsOwedWell}
use Rattle.agreement.specs.Leads.{Leads}
use Rattle.agreement.specs.Views.{OwedInView, LowView, ShowsHost, nowhere, at, nothing, goes_on, gives, owed_at}
use Rattle.agreement.specs.Views.{exit_of}
use Rattle.agreement.specs.Views.{Completed, thread_view, with_host, host_with_thread, running_view}
use Rattle.agreement.proofs.Branches.{own_view, other_view}
use Rattle.agreement.proofs.Ends.{nothing_seen, unseen_runs}
use Rattle.agreement.proofs.Steps.{runs_apart}
use Rattle.agreement.proofs.ViewLaws.{completed_once, deep_owes}

-- a fact for the host of the thread, and one for the others
either_host : (P : HostId → HostState → Type 0) (world : WorldShape) (me : HostId) (state : HostState) →
    state_at world me ≡ Some state → P me state →
    ((host : HostId) (other : HostState) → state_at world host ≡ Some other → host.0 ≢ me.0 → P host other) →
    (host : HostId) (other : HostState) → state_at world host ≡ Some other → P host other
either_host P world me state there own others host other is = elim (eqb_tells host.0 me.0) [
  | inl same ↦
      let one : host ≡ me = same_id host me same.1 in
      let found : Some other ≡ Some state = sym is ∙ ap (state_at world) one ∙ there in
      let same_state : other ≡ state = cc in
      subst (λ (h : HostId). P h other) (sym one) (subst (P me) (sym same_state) own)
  | inr apart ↦ others host other is apart.1
]

-- what goes on unseen on each host is this thread, or nothing
come_hides : (eyes : Eyes) (world : WorldShape) (me : HostId) (state : HostState) (thread : ThreadShape)
    (token : Token) (view : LowView) (holder : UnseenHolder) → HasCome eyes world me state thread token view →
    hidden_running eyes me state.running ≡ runs_on holder me →
    ((host : HostId) → host.0 ≢ me.0 → runs_on holder host ≡ None) → ((host : HostId) → waits_on holder host ≡ []) →
    (host : HostId) (other : HostState) → state_at world host ≡ Some other → Hides eyes holder [] host other
come_hides eyes world me state thread token view holder come hidden none calm =
    either_host (Hides eyes holder []) world me state come.there (record {
      running = hidden;
      waiting = come.waiting me state come.there ∙ sym (calm me);
      entries = come.entries me state come.there;
    }) (λ host other there apart. record {
      running = come.rest host other there apart ∙ sym (none host apart);
      waiting = come.waiting host other there ∙ sym (calm host);
      entries = come.entries host other there;
    })

-- ---- it may be seen

open_comes : (eyes : Eyes) (world : WorldShape) (me : HostId) (state : HostState) (thread : ThreadShape)
    (token : Token) (view after : LowView) → HasCome eyes world me state thread token view →
    is_open eyes me thread.at ≡ true →
    after ≡ with_host view me (host_with_thread (view.hosts me) (thread_view eyes me thread.at thread)) →
    Leads eyes world after
open_comes eyes world me state thread token view after come seen is =
    let shown = host_with_thread (view.hosts me) (thread_view eyes me thread.at thread) in
    let now = with_host view me shown in
    let own : ShowsHost eyes me state shown = record {
      key = come.own.key;
      rows = come.own.rows;
      variables = come.own.variables;
      running = ap (running_view eyes me) come.running
          ∙ ap (λ (b : Bool). if b then thread_view eyes me thread.at thread ∷ [] else []) seen
          ∙ ap (λ threads. thread_view eyes me thread.at thread ∷ threads) come.own.running;
      waiting = come.own.waiting;
      entries = come.own.entries;
      serials = come.own.serials;
      frames = come.own.frames;
      requests = come.own.requests;
    } in
    record {
      owed = nothing;
      keeps = record {
        holder = nobody;
        links = [];
        present = tt;
        hides = come_hides eyes world me state thread token view nobody come
            (ap (hidden_running eyes me) come.running ∙ ap (λ (b : Bool). if b then None else Some thread) seen)
            (λ host apart. refl) (λ host. refl);
        flying = come.flying;
        spot = nowhere;
        held = refl;
        owes = refl;
        well = tt;
      };
      now = now;
      shows = record {
        hosts = either_host (λ host other. ShowsHost eyes host other (now.hosts host)) world me state come.there
            (subst (ShowsHost eyes me state) (sym (own_view view me shown)) own)
            (λ host other there apart. subst (ShowsHost eyes host other) (sym (other_view view me host shown apart))
            (come.others host other there apart));
        flying = come.seen_flying;
        sent = come.sent;
      };
      completed = is;
    }

-- ---- it may not be seen

-- whoever may see the entry whose token is held may see the block, so in a block that may not be seen the host of the
-- token obeys
come_well : (eyes : Eyes) (world : WorldShape) (me : HostId) (state : HostState) (thread : ThreadShape)
    (token : Token) (view : LowView) → AreEyes eyes → HasCome eyes world me state thread token view → (deep : Bool) →
    is_deep eyes me thread.at ≡ deep →
    IsOwedWell eyes (if deep then gives token else goes_on me (exit_of eyes me thread.at) thread.frame token)
come_well eyes world me state thread token view are come true deep =
    let level = (eyes.shades.at me thread.at).level in
    let obeys : eyes.bad token.host ≡ false = elim (cases_Bool (sees_level eyes level)) [
      | inl seen ↦
          absurd (false≢true (sym (block_under eyes me thread.at come.instruction are come.is seen) ∙ deep))
      | inr unseen ↦ (come.may.0 unseen).0
    ] in
    let plain : is_hidden eyes token.entry.0 ≡ false = elim (cases_Bool (is_hidden eyes token.entry.0)) [
      | inl hidden ↦ absurd (come.shown (obeys, hidden))
      | inr shown ↦ shown
    ] in
    (obeys, plain)
come_well eyes world me state thread token view are come false shallow = come.shown

hidden_comes : (eyes : Eyes) (world : WorldShape) (me : HostId) (state : HostState) (thread : ThreadShape)
    (token : Token) (view after : LowView) → AreEyes eyes → HasCome eyes world me state thread token view →
    is_open eyes me thread.at ≡ false →
    Completed eyes (owed_at eyes (at me thread.at thread.frame token)) view after → Leads eyes world after
hidden_comes eyes world me state thread token view after are come hidden completed =
    let own : ShowsHost eyes me state (view.hosts me) = record {
      key = come.own.key;
      rows = come.own.rows;
      variables = come.own.variables;
      running = nothing_seen eyes me state.running thread come.running hidden ∙ come.own.running;
      waiting = come.own.waiting;
      entries = come.own.entries;
      serials = come.own.serials;
      frames = come.own.frames;
      requests = come.own.requests;
    } in
    record {
      owed = owed_at eyes (at me thread.at thread.frame token);
      keeps = record {
        holder = runs me thread;
        links = [];
        present = subst IsSome (sym come.there) refl;
        hides = come_hides eyes world me state thread token view (runs me thread) come
            (unseen_runs eyes me state.running thread come.running hidden)
            (λ host apart. runs_apart me host thread apart) (λ host. refl);
        flying = come.flying;
        spot = at me thread.at thread.frame token;
        held = (token, come.held, refl);
        owes = refl;
        well = come_well eyes world me state thread token view are come (is_deep eyes me thread.at) refl;
      };
      now = view;
      shows = record {
        hosts = either_host (λ host other. ShowsHost eyes host other (view.hosts host)) world me state come.there own
            come.others;
        flying = come.seen_flying;
        sent = come.sent;
      };
      completed = completed;
    }

pub comes_leads : (eyes : Eyes) (world : WorldShape) (me : HostId) (state : HostState) (thread : ThreadShape)
    (token : Token) (view after : LowView) → AreEyes eyes → HasCome eyes world me state thread token view →
    Comes eyes view me thread token after → Leads eyes world after
comes_leads eyes world me state thread token view after are come comes = by (is_open eyes me thread.at) refl comes
  where
    by : (seen : Bool) → is_open eyes me thread.at ≡ seen → ComesIntoView eyes view me thread token seen after →
        Leads eyes world after
    by true seen is = open_comes eyes world me state thread token view after come seen is
    by false hidden is = hidden_comes eyes world me state thread token view after are come hidden is

-- ---- what is seen then

pub comes_once : (eyes : Eyes) (view : LowView) (host : HostId) (thread : ThreadShape) (token : Token)
    (first second : LowView) → Comes eyes view host thread token first → Comes eyes view host thread token second →
    first ≡ second
comes_once eyes view host thread token first second one two = by (is_open eyes host thread.at) one two
  where
    by : (seen : Bool) → ComesIntoView eyes view host thread token seen first →
        ComesIntoView eyes view host thread token seen second → first ≡ second
    by true comes also = comes ∙ sym also
    by false comes also =
        completed_once eyes (owed_at eyes (at host thread.at thread.frame token)) view first second comes also

-- in blocks that may not be seen what is seen then does not depend on the place
pub deep_comes : (eyes : Eyes) (view : LowView) (host other : HostId) (thread later : ThreadShape) (token : Token)
    (first second : LowView) → is_open eyes host thread.at ≡ false → is_open eyes other later.at ≡ false →
    is_deep eyes host thread.at ≡ true → is_deep eyes other later.at ≡ true →
    Comes eyes view host thread token first → Comes eyes view other later token second → first ≡ second
deep_comes eyes view host other thread later token first second hidden hidden_later deep deep_later one two =
    let comes : ComesIntoView eyes view host thread token false first =
    subst (λ (b : Bool). ComesIntoView eyes view host thread token b first) hidden one in
    let also : ComesIntoView eyes view other later token false second =
    subst (λ (b : Bool). ComesIntoView eyes view other later token b second) hidden_later two in
    completed_once eyes (owed_at eyes (at other later.at later.frame token)) view first second
    (subst (λ (o : OwedInView). Completed eyes o view first)
    (deep_owes eyes host other thread.at later.at thread.frame later.frame token deep deep_later) comes) also
