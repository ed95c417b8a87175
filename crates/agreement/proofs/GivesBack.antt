-- A token that is given back unseen: the thread of a hidden entry goes on unseen, or it all comes into the open.
use Rattle.std.proofs.Common.{◌≡◌, ◌≢◌, ◌∙◌, ℕ, Bool, true, false, List, [], ◌∷◌, ◌++◌, Option, Some, None, inl, inr}
use Rattle.std.proofs.Common.{refl}
use Rattle.std.proofs.Common.{ap, sym, subst}
use Rattle.std.specs.Prelude.{◌==◌, if◌then◌else◌, not, IsSomeAnd, All, filter, slice_get}
use Rattle.std.proofs.lemmas.Bool.{cases_Bool, false≢true}
use Rattle.js_base.specs.declared.ids.HostId.{HostId}
use Rattle.js_base.specs.declared.ids.EntryId.{EntryId}
use Rattle.capability.specs.declared.token.Token.{Token}
use Rattle.ics_stack.specs.declared.stack.StackEntry.{StackEntry}
use Rattle.ics_stack.specs.Stack.{top_token}
use Rattle.host_code.specs.declared.code.Entry.{Entry}
use Rattle.host_code.specs.Code.{halt, entry_at}
use Rattle.host_code.specs.Thread.{ThreadShape}
use Rattle.host_core.specs.Host.{HostState, with_one_ignored, with_running, thread_at, after_entering}
use Rattle.host_core.specs.Host.{after_pop}
use Rattle.net_world.proofs.Present.{same_id}
use Rattle.split_shades.specs.Shades.{MeetsShade, ahead_of}
use Rattle.token_laws.proofs.HeldLaws.{all_at}
use Rattle.token_laws.proofs.Tests.{itself, different, number_same}
use Rattle.seen_world.specs.Eyes.{Eyes, AreEyes, is_open, is_deep, is_hidden}
use Rattle.seen_world.specs.Points.{StandsWell}
use Rattle.seen_world.proofs.SeenPlaces.{some_is}
use Rattle.agreement.specs.Leads.{UnseenHolder, nobody, runs, runs_on, waits_on, HiddenEntry, links_on, hidden_running}
use Rattle.agreement.specs.Leads.{hidden_waiting, IsLink, Owes}
use Rattle.agreement.specs.Leads.{IsOwedWell}
use Rattle.agreement.specs.Views.{LowView, HostView, ShowsHost, nowhere, at, given_back, OwedInView, nothing, goes_on}
use Rattle.agreement.specs.Views.{gives}
use Rattle.agreement.specs.Views.{Completed, GivenBack, exit_of, is_shown, with_host, host_with_thread, thread_out}
use Rattle.agreement.specs.Views.{thread_popped, host_popped, running_view}
use Rattle.agreement.proofs.Branches.{shown_out, own_view, other_view}
use Rattle.agreement.proofs.Ends.{Ends, unseen_runs, nothing_seen}
use Rattle.agreement.proofs.Exits.{exit_open}
use Rattle.agreement.proofs.Lists.{not_left, all_kept, left_first}
use Rattle.agreement.proofs.Places.{stands_at}
use Rattle.agreement.proofs.Steps.{runs_apart}

-- A token is given back to a host on which nothing runs, and nothing else goes on unseen.
pub record Given (eyes : Eyes) (bare : HostState) (holder : UnseenHolder) (links : List HiddenEntry) (token : Token)
    (owed : OwedInView)
    (now shown : LowView) : Type 0 where
  pub are : AreEyes eyes
  pub rests : bare.running ≡ None
  pub stands : All (StandsWell eyes bare.me) bare.entries
  pub waiting : hidden_waiting eyes bare.me bare.waiting ≡ []
  pub entries : bare.entries ≡ links_on bare.me links ++ filter (is_shown eyes) bare.entries
  pub shows : ShowsHost eyes bare.me bare (now.hosts bare.me)
  pub runs_apart : (other : HostId) → other.0 ≢ bare.me.0 → runs_on holder other ≡ None
  pub waits_none : (other : HostId) → waits_on holder other ≡ []
  pub owes : Owes eyes (given_back token) links owed
  pub well : IsOwedWell eyes owed
  pub completed : Completed eyes owed now shown
  pub host : token.host ≡ bare.me

-- ---- nothing goes on unseen any more

out_leaves : (eyes : Eyes) (bare new : HostState) (holder : UnseenHolder) (token : Token) (owed : OwedInView)
    (now shown : LowView)
    (label : ℕ) (shown_here : HostView) → Given eyes bare holder [] token owed now shown →
    ((thread : ThreadShape) → new.running ≡ Some thread → is_open eyes bare.me thread.at ≡ true) →
    hidden_waiting eyes bare.me new.waiting ≡ [] → new.entries ≡ filter (is_shown eyes) new.entries →
    ShowsHost eyes bare.me new shown_here → shown ≡ with_host now bare.me shown_here →
    Ends eyes bare.me holder [] now shown label (record { state = new; sent = None })
out_leaves eyes bare new holder token owed now shown label shown_here given seen waiting entries shows completed =
    record {
      later = nobody;
      sends = λ i j. refl;
      leaves = record {
        own = tt;
        chain = [];
        hides = record { running = none new.running refl; waiting = waiting; entries = entries };
        runs_apart = λ other apart. sym (given.runs_apart other apart);
        waits_apart = λ other apart. sym (given.waits_none other);
        links_apart = λ other apart. refl;
        spot = nowhere;
        held = refl;
        owed = nothing;
        owes = refl;
        well = tt;
        view = with_host now bare.me shown_here;
        shows = subst (ShowsHost eyes bare.me new) (sym (own_view now bare.me shown_here)) shows;
        others = λ other apart. other_view now bare.me other shown_here apart;
        flying = refl;
        sent = refl;
        completed = completed;
      };
    }
  where
    none : (running : Option ThreadShape) → new.running ≡ running → hidden_running eyes bare.me running ≡ None
    none None is = refl
    none (Some thread) is = ap (λ (b : Bool). if b then None else Some thread) (seen thread is)

-- a host is seen as before
pub same_view : (now : LowView) (host : HostId) → with_host now host (now.hosts host) ≡ now
same_view now host = λ i. record now { hosts = λ other. each other (other.0 == host.0) refl i }
  where
    each : (other : HostId) (b : Bool) → (other.0 == host.0) ≡ b →
        (if other.0 == host.0 then now.hosts host else now.hosts other) ≡ now.hosts other
    each other true same =
        ap (λ (b : Bool). if b then now.hosts host else now.hosts other) same
        ∙ ap now.hosts (sym (same_id other host (number_same other.0 host.0 same)))
    each other false same = ap (λ (b : Bool). if b then now.hosts host else now.hosts other) same

-- what is changed of a host twice is as changed last
view_again : (now : LowView) (host : HostId) (first : HostView) (change : HostView → HostView) →
    with_host (with_host now host first) host (change ((with_host now host first).hosts host))
    ≡ with_host now host (change first)
view_again now host first change = λ i. record now { hosts = λ other. each other (other.0 == host.0) i }
  where
    each : (other : HostId) (b : Bool) →
        (if b then change ((with_host now host first).hosts host) else (if b then first else now.hosts other))
        ≡ (if b then change first else now.hosts other)
    each other true = ap change (own_view now host first)
    each other false = refl

-- ---- no hidden entry is on the host

-- the stack is seen whole
seen_whole : (eyes : Eyes) (bare : HostState) (holder : UnseenHolder) (token : Token) (owed : OwedInView)
    (now shown : LowView) →
    Given eyes bare holder [] token owed now shown → GivenBack eyes now token bare.entries shown
seen_whole eyes bare holder token owed now shown given =
    let all : (now.hosts token.host).entries ≡ bare.entries =
    ap (λ (h : HostId). (now.hosts h).entries) given.host ∙ sym given.shows.entries ∙ sym given.entries in
    subst (λ entries. GivenBack eyes now token entries shown) all
    (subst (λ o. Completed eyes o now shown) (sym given.owes) given.completed)

-- it was not that of the top entry, and nothing more is seen
given_other : (eyes : Eyes) (now shown : LowView) (token : Token) (entries : List StackEntry) →
    GivenBack eyes now token entries shown → top_token entries ≢ Some token → shown ≡ now
given_other eyes now shown token [] back other = back
given_other eyes now shown token (top ∷ below) (inl same) other = absurd (other (ap Some same.0))
given_other eyes now shown token (top ∷ below) (inr apart) other = apart.1

-- the top entry is taken off, and what is seen is that its thread goes on
given_top : (eyes : Eyes) (now shown : LowView) (token : Token) (host : HostId) (top : StackEntry)
    (below : List StackEntry) → GivenBack eyes now token (top ∷ below) shown → top_token (top ∷ below) ≡ Some token →
    token.host ≡ host → shown ≡ with_host now host (host_popped eyes host top below (now.hosts host))
given_top eyes now shown token host top below (inl same) is host_is =
    same.1 ∙ ap (λ (h : HostId). with_host now h (host_popped eyes h top below (now.hosts h))) host_is
given_top eyes now shown token host top below (inr apart) is host_is =
    let one : top.token ≡ token = cc in
    absurd (apart.0 one)

-- what is seen of the host without the top entry
shows_below : (eyes : Eyes) (host : HostId) (bare : HostState) (shown : HostView) (below : List StackEntry) →
    ShowsHost eyes host bare shown → bare.running ≡ None → below ≡ filter (is_shown eyes) below →
    ShowsHost eyes host (with_running (record bare { entries = below }) None) (record shown { entries = below })
shows_below eyes host bare shown below shows rests kept = record {
  key = shows.key;
  rows = shows.rows;
  variables = shows.variables;
  running = ap (running_view eyes host) (sym rests) ∙ shows.running;
  waiting = shows.waiting;
  entries = sym kept;
  serials = shows.serials;
  frames = shows.frames;
  requests = shows.requests;
}

shows_halted : (eyes : Eyes) (host : HostId) (state : HostState) (shown : HostView) →
    ShowsHost eyes host (with_running state None) shown →
    ShowsHost eyes host (record state { running = None; halted = true }) shown
shows_halted eyes host state shown shows = record {
  key = shows.key;
  rows = shows.rows;
  variables = shows.variables;
  running = shows.running;
  waiting = shows.waiting;
  entries = shows.entries;
  serials = shows.serials;
  frames = shows.frames;
  requests = shows.requests;
}

pub shows_ignored : (eyes : Eyes) (host : HostId) (state : HostState) (shown : HostView) →
    ShowsHost eyes host state shown →
    ShowsHost eyes host (with_one_ignored state) shown
shows_ignored eyes host state shown shows = record {
  key = shows.key;
  rows = shows.rows;
  variables = shows.variables;
  running = shows.running;
  waiting = shows.waiting;
  entries = shows.entries;
  serials = shows.serials;
  frames = shows.frames;
  requests = shows.requests;
}

popped_halt : (eyes : Eyes) (host : HostId) (top : StackEntry) (found : Option Entry) (shown : HostView) →
    (top.entry.0 == halt.0) ≡ true → thread_popped eyes host top found shown ≡ shown
popped_halt eyes host top None shown is = refl
popped_halt eyes host top (Some there) shown is =
    ap (λ (b : Bool). if b then shown
    else host_with_thread shown (thread_out (exit_of eyes host there.at) top.frame top.kept)) is

popped_on : (eyes : Eyes) (host : HostId) (top : StackEntry) (found : Option Entry) (there : Entry)
    (shown : HostView) → found ≡ Some there → (top.entry.0 == halt.0) ≡ false →
    thread_popped eyes host top found shown
    ≡ host_with_thread shown (thread_out (exit_of eyes host there.at) top.frame top.kept)
popped_on eyes host top found there shown is other =
    ap (λ f. thread_popped eyes host top f shown) is
    ∙ ap (λ (b : Bool). if b then shown
    else host_with_thread shown (thread_out (exit_of eyes host there.at) top.frame top.kept)) other

-- an entry that may be seen, of the stack whose token was given back
record Popped (eyes : Eyes) (bare : HostState) (now shown : LowView) (top : StackEntry) (below : List StackEntry) :
    Type 0 where
  stand : StandsWell eyes bare.me top
  hidden : is_hidden eyes top.entry.0 ≡ false
  kept : below ≡ filter (is_shown eyes) below
  is : shown ≡ with_host now bare.me (host_popped eyes bare.me top below (now.hosts bare.me))
  shows : ShowsHost eyes bare.me (with_running (record bare { entries = below }) None)
      (record (now.hosts bare.me) { entries = below })

popped : (eyes : Eyes) (bare : HostState) (holder : UnseenHolder) (token : Token) (owed : OwedInView)
    (now shown : LowView)
    (top : StackEntry) (below : List StackEntry) → Given eyes bare holder [] token owed now shown →
    bare.entries ≡ top ∷ below → top_token bare.entries ≡ Some token → Popped eyes bare now shown top below
popped eyes bare holder token owed now shown top below given are is_top =
    let all = all_kept (is_shown eyes) top below (sym are ∙ given.entries ∙ ap (filter (is_shown eyes)) are) in
    let back = subst (λ entries. GivenBack eyes now token entries shown) are
    (seen_whole eyes bare holder token owed now shown given) in
    record {
      stand = all_at (StandsWell eyes bare.me) bare.entries 0 top given.stands (ap (λ es. slice_get es 0) are);
      hidden = not_left (is_hidden eyes top.entry.0) all.0;
      kept = all.1;
      is = given_top eyes now shown token bare.me top below back (sym (ap top_token are) ∙ is_top) given.host;
      shows = shows_below eyes bare.me bare (now.hosts bare.me) below given.shows given.rests all.1;
    }

-- its thread goes on at the guard of a loop, which may not be seen
pops_guard : (eyes : Eyes) (bare : HostState) (holder : UnseenHolder) (token : Token) (owed : OwedInView)
    (now shown : LowView)
    (label : ℕ) (top : StackEntry) (below : List StackEntry) (there : Entry) →
    Given eyes bare holder [] token owed now shown → Popped eyes bare now shown top below →
    (top.entry.0 == halt.0) ≡ false → entry_at eyes.code top.entry ≡ Some there →
    is_open eyes bare.me there.at ≡ false → Ends eyes bare.me holder [] now shown label (record {
      state = with_running (record bare { entries = below }) (Some (thread_at there top.frame top.kept));
      sent = None;
    })
pops_guard eyes bare holder token owed now shown label top below there given pop other is hidden =
    let me = bare.me in
    let thread = thread_at there top.frame top.kept in
    let new = with_running (record bare { entries = below }) (Some thread) in
    let here : HostView = record (now.hosts me) { entries = below } in
    let out = thread_out (exit_of eyes me there.at) top.frame top.kept in
    let apart : top.entry ≢ halt =
    λ same. false≢true (sym other ∙ ap (λ (e : EntryId). e.0 == halt.0) same) in
    let number : top.entry.0 ≢ 0 =
    λ same. apart (let make : ℕ → EntryId = λ n. record { 0 = n } in ap make same) in
    let host_is : there.host ≡ me =
    subst (λ found. IsSomeAnd found (λ (one : Entry). one.host ≡ me)) is pop.stand.on_host in
    let meets : MeetsShade (ahead_of pop.stand.shade) (eyes.shades.at me there.at) =
    subst (λ (h : HostId). MeetsShade (ahead_of pop.stand.shade) (eyes.shades.at h there.at)) host_is
    (stands_at eyes given.are top.entry.0 there pop.stand.shade number is pop.stand.is) in
    let seen : eyes.sees pop.stand.shade.block ≡ true = pop.stand.block pop.hidden apart in
    let shallow : is_deep eyes me there.at ≡ false = ap not (ap eyes.sees meets.block ∙ seen) in
    record {
      later = runs me thread;
      sends = λ i j. refl;
      leaves = record {
        own = refl;
        chain = [];
        hides = record {
          running = unseen_runs eyes me new.running thread refl hidden;
          waiting = given.waiting;
          entries = pop.kept;
        };
        runs_apart = λ one one_apart. runs_apart me one thread one_apart ∙ sym (given.runs_apart one one_apart);
        waits_apart = λ one one_apart. sym (given.waits_none one);
        links_apart = λ one one_apart. refl;
        spot = at me there.at top.frame top.kept;
        held = (top.kept, refl, refl);
        owed = goes_on me (exit_of eyes me there.at) top.frame top.kept;
        owes = ap (λ (b : Bool). if b then gives top.kept
            else goes_on me (exit_of eyes me there.at) top.frame top.kept) shallow;
        well = pop.stand.open_kept seen;
        view = with_host now me here;
        shows = subst (ShowsHost eyes me new) (sym (own_view now me here)) (record {
          key = pop.shows.key;
          rows = pop.shows.rows;
          variables = pop.shows.variables;
          running = nothing_seen eyes me new.running thread refl hidden ∙ pop.shows.running;
          waiting = pop.shows.waiting;
          entries = pop.shows.entries;
          serials = pop.shows.serials;
          frames = pop.shows.frames;
          requests = pop.shows.requests;
        });
        others = λ one one_apart. other_view now me one here one_apart;
        flying = refl;
        sent = refl;
        completed = pop.is ∙ ap (with_host now me) (popped_on eyes me top (entry_at eyes.code top.entry) there here is
            other)
            ∙ sym (view_again now me here (λ (v : HostView). host_with_thread v out));
      };
    }

-- its thread comes into the open
pops_out : (eyes : Eyes) (bare : HostState) (holder : UnseenHolder) (token : Token) (owed : OwedInView)
    (now shown : LowView)
    (label : ℕ) (top : StackEntry) (below : List StackEntry) (there : Entry) →
    Given eyes bare holder [] token owed now shown → Popped eyes bare now shown top below →
    (top.entry.0 == halt.0) ≡ false → entry_at eyes.code top.entry ≡ Some there →
    is_open eyes bare.me there.at ≡ true → Ends eyes bare.me holder [] now shown label (record {
      state = with_running (record bare { entries = below }) (Some (thread_at there top.frame top.kept));
      sent = None;
    })
pops_out eyes bare holder token owed now shown label top below there given pop other is seen =
    let me = bare.me in
    let thread = thread_at there top.frame top.kept in
    let new = with_running (record bare { entries = below }) (Some thread) in
    let here : HostView = record (now.hosts me) { entries = below } in
    let out = thread_out there.at top.frame top.kept in
    out_leaves eyes bare new holder token owed now shown label (host_with_thread here out) given
    (λ one same. let is_one : thread ≡ one = cc in
    ap (λ (t : ThreadShape). is_open eyes me t.at) (sym is_one) ∙ seen) given.waiting pop.kept
    (shown_out eyes me new here there.at top.frame top.kept pop.shows refl seen)
    (pop.is ∙ ap (with_host now me) (popped_on eyes me top (entry_at eyes.code top.entry) there here is other
    ∙ ap (λ (n : ℕ). host_with_thread here (thread_out n top.frame top.kept)) (exit_open eyes me there.at seen)))

-- it ends, or nothing stands there
pops_none : (eyes : Eyes) (bare new : HostState) (holder : UnseenHolder) (token : Token) (owed : OwedInView)
    (now shown : LowView)
    (label : ℕ) (top : StackEntry) (below : List StackEntry) → Given eyes bare holder [] token owed now shown →
    Popped eyes bare now shown top below → new.running ≡ None → new.waiting ≡ bare.waiting → new.entries ≡ below →
    ShowsHost eyes bare.me new (record (now.hosts bare.me) { entries = below }) →
    host_popped eyes bare.me top below (now.hosts bare.me) ≡ record (now.hosts bare.me) { entries = below } →
    Ends eyes bare.me holder [] now shown label (record { state = new; sent = None })
pops_none eyes bare new holder token owed now shown label top below given pop rests waiting entries shows none =
    out_leaves eyes bare new holder token owed now shown label (record (now.hosts bare.me) { entries = below }) given
    (λ one same. let never : None ≡ Some one = sym rests ∙ same in absurd (cc))
    (ap (hidden_waiting eyes bare.me) waiting ∙ given.waiting)
    (entries ∙ pop.kept ∙ ap (filter (is_shown eyes)) (sym entries)) shows
    (pop.is ∙ ap (with_host now bare.me) none)

pops : (eyes : Eyes) (bare : HostState) (holder : UnseenHolder) (token : Token) (owed : OwedInView)
    (now shown : LowView) (label : ℕ)
    (top : StackEntry) (below : List StackEntry) (is_halt : Bool) (found : Option Entry) →
    Given eyes bare holder [] token owed now shown → Popped eyes bare now shown top below →
    (top.entry.0 == halt.0) ≡ is_halt → entry_at eyes.code top.entry ≡ found →
    Ends eyes bare.me holder [] now shown label (record {
      state = if is_halt
          then record bare { entries = below; running = None; halted = true }
          else after_entering (record bare { entries = below }) found top.frame top.kept;
      sent = None;
    })
pops eyes bare holder token owed now shown label top below true found given pop halts is =
    pops_none eyes bare (record bare { entries = below; running = None; halted = true }) holder token owed now shown
    label
    top below given pop refl refl refl
    (shows_halted eyes bare.me (record bare { entries = below }) (record (now.hosts bare.me) { entries = below })
    pop.shows)
    (popped_halt eyes bare.me top (entry_at eyes.code top.entry) (record (now.hosts bare.me) { entries = below }) halts)
pops eyes bare holder token owed now shown label top below false None given pop other is =
    pops_none eyes bare (with_running (record bare { entries = below }) None) holder token owed now shown label top
    below
    given pop refl refl refl pop.shows
    (ap (λ f. thread_popped eyes bare.me top f (record (now.hosts bare.me) { entries = below })) is)
pops eyes bare holder token owed now shown label top below false (Some there) given pop other is =
    elim (cases_Bool (is_open eyes bare.me there.at)) [
      | inl seen ↦
          pops_out eyes bare holder token owed now shown label top below there given pop other is seen
      | inr hidden ↦
          pops_guard eyes bare holder token owed now shown label top below there given pop other is hidden
    ]

-- ---- a hidden entry is on the host

-- the last entry of the chain is on top of the stack of its host
record Top (eyes : Eyes) (bare : HostState) (link : HiddenEntry) (links : List HiddenEntry) (token : Token)
    (there : Entry)
    (owed : OwedInView) : Type 0 where
  below : List StackEntry
  entries : bare.entries ≡ link.entry ∷ below
  rest : below ≡ links_on bare.me links ++ filter (is_shown eyes) below
  shown : filter (is_shown eyes) below ≡ filter (is_shown eyes) bare.entries
  token_is : token ≡ link.entry.token
  host : link.host ≡ bare.me
  is_link : IsLink eyes link there
  owes : Owes eyes (at bare.me there.at link.entry.frame link.entry.kept) links owed

top_of : (eyes : Eyes) (bare : HostState) (holder : UnseenHolder) (link : HiddenEntry) (links : List HiddenEntry)
    (token : Token)
    (owed : OwedInView) (now shown : LowView) → (given : Given eyes bare holder (link ∷ links) token owed now shown) →
    Top eyes bare link links token given.owes.2.0 owed
top_of eyes bare holder link links token owed now shown given =
    let me = bare.me in
    let it = given.owes.2.1 in
    let token_is : token ≡ link.entry.token = some_is given.owes.1 in
    let host : link.host ≡ me = sym it.token ∙ ap (λ (t : Token). t.host) (sym token_is) ∙ given.host in
    let test : (me.0 == link.host.0) ≡ true = ap (λ (h : HostId). me.0 == h.0) host ∙ itself me.0 in
    let seen = filter (is_shown eyes) bare.entries in
    let below = links_on me links ++ seen in
    let entries : bare.entries ≡ link.entry ∷ below =
    given.entries
    ∙ ap (λ (b : Bool). (if b then link.entry ∷ links_on me links else links_on me links) ++ seen) test in
    let less : seen ≡ filter (is_shown eyes) below =
    ap (filter (is_shown eyes)) entries ∙ left_first (is_shown eyes) link.entry below (ap not it.hidden) in
    record {
      below = below;
      entries = entries;
      rest = ap (λ others. links_on me links ++ others) less;
      shown = sym less;
      token_is = token_is;
      host = host;
      is_link = it;
      owes = subst (λ (h : HostId). Owes eyes (at h given.owes.2.0.at link.entry.frame link.entry.kept) links owed) host
          given.owes.2.2;
    }

no_halt : (eyes : Eyes) → AreEyes eyes → (entry : EntryId) → is_hidden eyes entry.0 ≡ true → (entry.0 == halt.0) ≡ false
no_halt eyes are entry hidden = elim (cases_Bool (entry.0 == halt.0)) [
  | inl same ↦
      let zero : entry.0 ≡ 0 = number_same entry.0 0 same in
      let shown : is_hidden eyes 0 ≡ false = rw are.shaded.halts refl in
      absurd (false≢true (sym shown ∙ ap (is_hidden eyes) (sym zero) ∙ hidden))
  | inr other ↦ other
]

-- the thread of the last entry of the chain goes on unseen
pops_hidden : (eyes : Eyes) (bare : HostState) (holder : UnseenHolder) (link : HiddenEntry) (links : List HiddenEntry)
    (token : Token)
    (owed : OwedInView) (now shown : LowView) (label : ℕ) (there : Entry) →
    Given eyes bare holder (link ∷ links) token owed now shown →
    (top : Top eyes bare link links token there owed) → Ends eyes bare.me holder (link ∷ links) now shown label
    (record {
      state = with_running (record bare { entries = top.below })
          (Some (thread_at there link.entry.frame link.entry.kept));
      sent = None;
    })
pops_hidden eyes bare holder link links token owed now shown label there given top =
    let me = bare.me in
    let thread = thread_at there link.entry.frame link.entry.kept in
    let new = with_running (record bare { entries = top.below }) (Some thread) in
    let hidden : is_open eyes me there.at ≡ false =
    subst (λ (h : HostId). is_open eyes h there.at ≡ false) top.host top.is_link.unseen in
    record {
      later = runs me thread;
      sends = λ i j. refl;
      leaves = record {
        own = refl;
        chain = links;
        hides = record {
          running = unseen_runs eyes me new.running thread refl hidden;
          waiting = given.waiting;
          entries = top.rest;
        };
        runs_apart = λ other apart. runs_apart me other thread apart ∙ sym (given.runs_apart other apart);
        waits_apart = λ other apart. sym (given.waits_none other);
        links_apart = λ other apart.
            ap (λ (b : Bool). if b then link.entry ∷ links_on other links else links_on other links)
            (sym (different other.0 link.host.0 (λ same. apart (same ∙ ap (λ (h : HostId). h.0) top.host))));
        spot = at me there.at link.entry.frame link.entry.kept;
        held = (link.entry.kept, refl, refl);
        owed = owed;
        owes = top.owes;
        well = given.well;
        view = now;
        shows = record {
          key = given.shows.key;
          rows = given.shows.rows;
          variables = given.shows.variables;
          running = nothing_seen eyes me new.running thread refl hidden ∙ ap (running_view eyes me) (sym given.rests)
              ∙ given.shows.running;
          waiting = given.shows.waiting;
          entries = top.shown ∙ given.shows.entries;
          serials = given.shows.serials;
          frames = given.shows.frames;
          requests = given.shows.requests;
        };
        others = λ other apart. refl;
        flying = refl;
        sent = refl;
        completed = given.completed;
      };
    }

-- ---- both

abbrev GivenEnds : Eyes → HostState → UnseenHolder → List HiddenEntry → LowView → LowView → ℕ → HostState → Type 0
GivenEnds eyes bare holder links now shown label state =
    Ends eyes bare.me holder links now shown label (record { state = state; sent = None })

seen_passes : (eyes : Eyes) (bare : HostState) (holder : UnseenHolder) (token : Token) (owed : OwedInView)
    (now shown : LowView)
    (label : ℕ) (entries : List StackEntry) → Given eyes bare holder [] token owed now shown →
    bare.entries ≡ entries → top_token bare.entries ≡ Some token →
    GivenEnds eyes bare holder [] now shown label (after_pop eyes.code bare entries)
seen_passes eyes bare holder token owed now shown label [] given are is_top =
    let never : None ≡ Some token = sym (ap top_token are) ∙ is_top in
    absurd (cc)
seen_passes eyes bare holder token owed now shown label (top ∷ below) given are is_top =
    pops eyes bare holder token owed now shown label top below (top.entry.0 == halt.0) (entry_at eyes.code top.entry)
    given
    (popped eyes bare holder token owed now shown top below given are is_top) refl refl

pub given_ends : (eyes : Eyes) (bare : HostState) (holder : UnseenHolder) (links : List HiddenEntry) (token : Token)
    (owed : OwedInView)
    (now shown : LowView) (label : ℕ) (passes : Bool) → Given eyes bare holder links token owed now shown →
    (passes ≡ true → top_token bare.entries ≡ Some token) → (top_token bare.entries ≡ Some token → passes ≡ true) →
    GivenEnds eyes bare holder links now shown label
    (if passes then after_pop eyes.code bare bare.entries else with_one_ignored bare)
given_ends eyes bare holder [] token owed now shown label true given is_top passes =
    seen_passes eyes bare holder token owed now shown label bare.entries given refl (is_top refl)
given_ends eyes bare holder [] token owed now shown label false given is_top passes =
    out_leaves eyes bare (with_one_ignored bare) holder token owed now shown label (now.hosts bare.me) given
    (λ one same. let never : None ≡ Some one = sym given.rests ∙ same in absurd (cc)) given.waiting given.entries
    (shows_ignored eyes bare.me bare (now.hosts bare.me) given.shows)
    (given_other eyes now shown token bare.entries (seen_whole eyes bare holder token owed now shown given)
    (λ is. false≢true (passes is)) ∙ sym (same_view now bare.me))
given_ends eyes bare holder (link ∷ links) token owed now shown label true given is_top passes =
    let top = top_of eyes bare holder link links token owed now shown given in
    let there = given.owes.2.0 in
    let b : HostState = record bare { entries = top.below } in
    let on : after_pop eyes.code bare bare.entries
    ≡ with_running b (Some (thread_at there link.entry.frame link.entry.kept)) =
    ap (after_pop eyes.code bare) top.entries
    ∙ ap (λ (h : Bool). if h then record b { running = None; halted = true }
    else after_entering b (entry_at eyes.code link.entry.entry) link.entry.frame link.entry.kept)
    (no_halt eyes given.are link.entry.entry top.is_link.hidden)
    ∙ ap (λ found. after_entering b found link.entry.frame link.entry.kept) top.is_link.is in
    subst (GivenEnds eyes bare holder (link ∷ links) now shown label) (sym on)
    (pops_hidden eyes bare holder link links token owed now shown label there given top)
given_ends eyes bare holder (link ∷ links) token owed now shown label false given is_top passes =
    let top = top_of eyes bare holder link links token owed now shown given in
    absurd (false≢true (passes (ap top_token top.entries ∙ ap Some (sym top.token_is))))
