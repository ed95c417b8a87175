-- The world before the first event stands for the start of the plain run.
use Rattle.std.proofs.Common.{◌≡◌, ◌≢◌, ◌∙◌, ℕ, zero, suc, ◌+◌, ◌<◌, inl, inr, Bool, false, List, [], ◌∷◌}
use Rattle.std.proofs.Common.{length, Option, Some, None, refl, ap, sym, subst, arith}
use Rattle.std.specs.Prelude.{ℤ, pos, ◌≤◌, ◌==◌, if◌then◌else◌, All, IsSomeAnd, slice_get}
use Rattle.std.proofs.lemmas.Bool.Decides.{eqb_tells}
use Rattle.std.proofs.lemmas.Bool.{eq-eqb, ne_eqb}
use Rattle.std.proofs.lemmas.List.{length-map}
use Rattle.std.proofs.lemmas.List.Elements.{All-get_or}
use Rattle.std.proofs.lemmas.Option.{slice_get_within, get_or_from_slice_get}
use Rattle.js_base.specs.declared.ids.HostId.{HostId}
use Rattle.js_base.specs.declared.ids.FrameId.{FrameId}
use Rattle.js_base.specs.declared.ids.VarId.{VarId}
use Rattle.js_base.proofs.Options.{some_same}
use Rattle.host_decl.specs.Hosts as declared_hosts
use Rattle.jif_tree.specs.SourceRun as source
use Rattle.jif_tree.specs.SourceRun.{configuration_at_start}
use Rattle.jif_tree.specs.Store.{row_of}
use Rattle.host_code.specs.declared.code.Entry.{Entry}
use Rattle.host_code.specs.Code.{CodeShape, CodeFieldShape, halt, entry_at}
use Rattle.host_code.specs.Sound.{EntryFits}
use Rattle.host_stores.specs.Stores.{own_rows}
use Rattle.host_core.specs.Host.{HostState, new_token, after_push, after_entering, with_running, thread_at}
use Rattle.host_core.specs.Start.{main_frame, last_token, idle_host, root_host, host_at_start}
use Rattle.net_world.specs.World.{AreHostsOf, named_host, world_at_start, state_at, given}
use Rattle.net_world.specs.World.{hosts_before}
use Rattle.split_rules.specs.Pace.{PACE}
use Rattle.net_world.proofs.Obeying.{no_bad, obey_at_start}
use Rattle.net_world.proofs.Present.{same_id}
use Rattle.typed_steps.specs.Views.{Split}
use Rattle.typed_steps.specs.Variables.{AreFresh, HostsHold}
use Rattle.typed_steps.specs.Weights.{Paced, STEP, weight_at}
use Rattle.typed_steps.proofs.Pops.{entry_pace}
use Rattle.typed_steps.proofs.MainStart.{calls_at_start, last_entry, last_link, naming_at_start, view_at_start}
use Rattle.typed_steps.proofs.MainStart.{main_plain}
use Rattle.typed_steps.proofs.MainStart.{main_apart, main_at}
use Rattle.simulation.proofs.Simulates.{AreStacks, runs, Falls}
use Rattle.simulation.proofs.Pops.{own_stack, other_stack}

all_there : {X : Type 0} (P : X → Type 0) (xs : List X) (i : ℕ) (x : X) → All P xs → slice_get xs i ≡ Some x → P x
all_there P xs i x all there =
    subst P (get_or_from_slice_get xs i x x there) (All-get_or P xs i x (slice_get_within xs i x there) all)

-- ---- hosts before the first event

-- a state before the first event is that of a host of the number
pub record IsStart (code : CodeShape) (store : List (List ℤ)) (host : HostId) (state : HostState) : Type 0 where
  pub key : List ℕ
  pub is : state ≡ host_at_start code store key host

start_from : (code : CodeShape) (store : List (List ℤ)) (n : ℕ) (rows : List declared_hosts.HostShape) (k : ℕ)
    (host : HostId) (state : HostState) → host.0 ≡ n + k →
    given (slice_get (hosts_before code store 0 n rows) k) ≡ Some state → IsStart code store host state
start_from code store n [] k host state at is = absurd (cc)
start_from code store n (row ∷ rows) zero host state at is =
    let number : HostId = record { 0 = n } in
    let own : Some (host_at_start code store row.key number) ≡ Some state = sym (no_bad code store n row) ∙ is in
    let same : number ≡ host = same_id number host (omega arith) in
    let state_is : state ≡ host_at_start code store row.key number = cc in
    record { key = row.key; is = state_is ∙ ap (host_at_start code store row.key) same }
start_from code store n (row ∷ rows) (suc k) host state at is =
    start_from code store (n + 1) rows k host state (omega arith) is

pub starts : (code : CodeShape) (store : List (List ℤ)) (rows : List declared_hosts.HostShape) (host : HostId)
    (state : HostState) → state_at (world_at_start code rows 0 store) host ≡ Some state →
    IsStart code store host state
starts code store rows host state is = start_from code store 0 rows host.0 host state (omega arith) is

there_within : (code : CodeShape) (store : List (List ℤ)) (n : ℕ) (rows : List declared_hosts.HostShape) (k : ℕ) →
    k < length rows → (state : HostState) × (given (slice_get (hosts_before code store 0 n rows) k) ≡ Some state)
there_within code store n [] k within = absurd (omega arith)
there_within code store n (row ∷ rows) zero within =
    (host_at_start code store row.key (record { 0 = n }), no_bad code store n row)
there_within code store n (row ∷ rows) (suc k) within =
    there_within code store (n + 1) rows k (omega arith)

-- ---- the state of a host before the first event

idle_there : (code : CodeShape) (store : List (List ℤ)) (key : List ℕ) (host : HostId) → host.0 ≢ code.root.0 →
    host_at_start code store key host ≡ idle_host code store key host
idle_there code store key host apart =
    ap (λ (b : Bool). if b then root_host code (idle_host code store key host) else idle_host code store key host)
    (ne_eqb host.0 code.root.0 apart)

-- the root runs at `main`
abbrev root_state : CodeShape → List (List ℤ) → List ℕ → HostId → Entry → HostState
root_state code store key host entry =
    let idle = idle_host code store key host in
    with_running (after_push idle halt main_frame (last_token idle.me))
    (Some (thread_at entry main_frame (new_token idle halt main_frame)))

root_is : (code : CodeShape) (store : List (List ℤ)) (key : List ℕ) (host : HostId) (entry : Entry) →
    host.0 ≡ code.root.0 → entry_at code code.main ≡ Some entry →
    host_at_start code store key host ≡ root_state code store key host entry
root_is code store key host entry same is =
    let idle = idle_host code store key host in
    ap (λ (b : Bool). if b then root_host code idle else idle) (eq-eqb host.0 code.root.0 same)
    ∙ ap (λ found. after_entering (after_push idle halt main_frame (last_token idle.me)) found main_frame
    (new_token idle halt main_frame)) is

-- what all hosts have before the first event
pub record IsFresh (code : CodeShape) (store : List (List ℤ)) (host : HostId) (state : HostState) : Type 0 where
  pub me : state.me ≡ host
  pub ignored : state.ignored ≡ 0
  pub rows : state.rows ≡ own_rows host store 0 code.fields
  pub halts : state.halted ≡ false
  pub waiting : state.waiting ≡ []
  pub variables : state.variables ≡ (λ frame variable. pos 0)
  pub rest : host.0 ≢ code.root.0 → state.running ≡ None
  pub entries : host.0 ≢ code.root.0 → state.entries ≡ []

fresh : (code : CodeShape) (store : List (List ℤ)) (host : HostId) (state : HostState) (entry : Entry) →
    entry_at code code.main ≡ Some entry → IsStart code store host state → IsFresh code store host state
fresh code store host state entry main start = elim (eqb_tells host.0 code.root.0) [
  | inl same ↦
      let is : state ≡ root_state code store start.key host entry =
      start.is ∙ root_is code store start.key host entry same.1 main in
      record {
        me = ap (λ (s : HostState). s.me) is;
        ignored = ap (λ (s : HostState). s.ignored) is;
        rows = ap (λ (s : HostState). s.rows) is;
        halts = ap (λ (s : HostState). s.halted) is;
        waiting = ap (λ (s : HostState). s.waiting) is;
        variables = ap (λ (s : HostState). s.variables) is;
        rest = λ apart. absurd (apart same.1);
        entries = λ apart. absurd (apart same.1);
      }
  | inr apart ↦
      let is : state ≡ idle_host code store start.key host =
      start.is ∙ idle_there code store start.key host apart.1 in
      record {
        me = ap (λ (s : HostState). s.me) is;
        ignored = ap (λ (s : HostState). s.ignored) is;
        rows = ap (λ (s : HostState). s.rows) is;
        halts = ap (λ (s : HostState). s.halted) is;
        waiting = ap (λ (s : HostState). s.waiting) is;
        variables = ap (λ (s : HostState). s.variables) is;
        rest = λ other. ap (λ (s : HostState). s.running) is;
        entries = λ other. ap (λ (s : HostState). s.entries) is;
      }
]

own_row_at : (host : HostId) (store : List (List ℤ)) (n : ℕ) (fields : List CodeFieldShape) (k : ℕ)
    (field : CodeFieldShape) → slice_get fields k ≡ Some field → field.host.0 ≡ host.0 →
    row_of (own_rows host store n fields) k ≡ row_of store (n + k)
own_row_at host store n [] k field there same = absurd (cc)
own_row_at host store n (first ∷ fields) zero field there same =
    let is : first ≡ field = cc in
    let here : first.host.0 ≡ host.0 = ap (λ (f : CodeFieldShape). f.host.0) is ∙ same in
    ap (λ (b : Bool). if b then row_of store n else []) (eq-eqb first.host.0 host.0 here)
    ∙ ap (row_of store) (omega arith)
own_row_at host store n (first ∷ fields) (suc k) field there same =
    own_row_at host store (n + 1) fields k field there same ∙ ap (row_of store) (omega arith)

-- each host is fresh
fresh_there : (split : Split) (store : List (List ℤ)) (rows : List declared_hosts.HostShape) (entry : Entry) →
    entry_at split.code split.code.main ≡ Some entry → (host : HostId) (state : HostState) →
    state_at (world_at_start split.code rows 0 store) host ≡ Some state → IsFresh split.code store host state
fresh_there split store rows entry main host state is =
    fresh split.code store host state entry main (starts split.code store rows host state is)

long_start : (code : CodeShape) (store : List (List ℤ)) (n : ℕ) (rows : List declared_hosts.HostShape) →
    length (hosts_before code store 0 n rows) ≡ length rows
long_start code store n [] = refl
long_start code store n (row ∷ rows) = ap suc (long_start code store (n + 1) rows)

stacks_at_start : (split : Split) (store : List (List ℤ)) (rows : List declared_hosts.HostShape) (entry : Entry) →
    entry_at split.code split.code.main ≡ Some entry → (key : List ℕ) →
    state_at (world_at_start split.code rows 0 store) split.code.root
    ≡ Some (root_state split.code store key split.code.root entry) →
    AreStacks (last_link split.code store key ∷ []) (world_at_start split.code rows 0 store)
stacks_at_start split store rows entry main key there host state is =
    let code = split.code in
    let world = world_at_start code rows 0 store in
    let last = last_link code store key in
    elim (eqb_tells host.0 code.root.0) [
      | inl same ↦
          let one : host ≡ code.root = same_id host code.root same.1 in
          let state_is : state ≡ root_state code store key code.root entry =
          some_same (state_at world code.root) state (root_state code store key code.root entry)
          (ap (state_at world) (sym one) ∙ is) there in
          ap (λ (s : HostState). s.entries) state_is ∙ sym (own_stack host last [] (sym one))
      | inr apart ↦
          (fresh_there split store rows entry main host state is).entries apart.1
          ∙ sym (other_stack code.root host last [] refl apart.1)
    ]

-- ---- what all hosts have

fresh_frames : (split : Split) (store : List (List ℤ)) (rows : List declared_hosts.HostShape) (entry : Entry) →
    entry_at split.code split.code.main ≡ Some entry →
    AreFresh split (naming_at_start split) (world_at_start split.code rows 0 store)
fresh_frames split store rows entry main host state site count at there least =
    record {
      apart = λ call within. main_apart split.code host site count there;
      unset = λ other s x is.
          inl (ap (λ (v : FrameId → VarId → ℤ). v (record { site = site; count = count }) x)
          (fresh_there split store rows entry main other s is).variables);
    }

holds_at_start : (split : Split) (store : List (List ℤ)) (rows : List declared_hosts.HostShape) (entry : Entry) →
    entry_at split.code split.code.main ≡ Some entry → (key : List ℕ) →
    HostsHold split (configuration_at_start split.program store) (view_at_start split store key)
    (world_at_start split.code rows 0 store)
holds_at_start split store rows entry main key =
    let fresh_at = fresh_there split store rows entry main in
    record {
      fields = λ number field s there at.
          inl (ap (λ (list : List (List ℤ)). row_of list number) (fresh_at field.host s at).rows
          ∙ own_row_at field.host store 0 split.code.fields number field there refl
          ∙ ap (row_of store) (omega arith));
      known = omega arith;
      apart = λ one other within too same. omega arith;
      named = λ call within.
          let first : call ≡ 0 = omega arith in
          record {
            made = record { caller = 0; method = split.program.main.0; values = λ x. pos 0 };
            is = ap (slice_get (calls_at_start split)) first;
            caller = refl;
            method = refl;
          };
      fresh = fresh_frames split store rows entry main;
      valued = λ call x within.
          let first : call ≡ 0 = omega arith in
          sym (ap (λ n. source.variable (calls_at_start split) n x) first);
      agree = λ call host s x within at reads.
          inr (inl (ap (λ (v : FrameId → VarId → ℤ). v main_frame x) (fresh_at host s at).variables));
      result = λ call into result behind s pending at. absurd (main_plain split store call into result behind pending);
    }

-- ---- the start as a whole

started : (split : Split) (store : List (List ℤ)) (rows : List declared_hosts.HostShape) →
    split.exposure.bad ≡ [] → AreHostsOf split.code rows →
    (found : Option Entry) → entry_at split.code split.code.main ≡ found →
    IsSomeAnd found (λ there. there.host ≡ split.code.root) →
    Falls split (configuration_at_start split.program store) (STEP + 4) (world_at_start split.code rows 0 store)
started split store rows none hosts None is on_root = absurd on_root
started split store rows none hosts (Some entry) is on_root =
    let code = split.code in
    let root = code.root in
    let world = world_at_start code rows 0 store in
    let many : length rows ≡ length code.hosts = sym (length-map rows named_host) ∙ ap length hosts in
    let entries_fit : EntryFits code entry = all_there (EntryFits code) code.entries code.main.0 entry
    split.sound.entries is in
    let within : root.0 < length code.hosts = subst (λ (h : HostId). h.0 < length code.hosts) on_root entries_fit.host
    in
    let there = there_within code store 0 rows root.0 (omega arith) in
    let start = starts code store rows root there.0 there.1 in
    let key = start.key in
    let state = root_state code store key root entry in
    let state_is : there.0 ≡ state = start.is ∙ root_is code store key root entry refl is in
    let root_there : state_at world root ≡ Some state = there.1 ∙ ap Some state_is in
    let fresh_at = fresh_there split store rows entry is in
    record {
      now = record {
        view = view_at_start split store key;
        holder = runs root;
        orderly = record {
          unaffected = none;
          count = long_start code store 0 rows ∙ many;
          none_bad = obey_at_start code rows store;
          numbers = λ host s at. (fresh_at host s at).me;
          ignored = λ host s at. (fresh_at host s at).ignored;
        };
        stacks = stacks_at_start split store rows entry is key root_there;
        idle = λ host s at apart. ((fresh_at host s at).rest apart, (fresh_at host s at).waiting);
        goes_on = λ host s at. (fresh_at host s at).halts;
        holds = holds_at_start split store rows entry is key;
        stands = (
          (refl, refl),
          record {
            state = state;
            there = root_there;
            thread = thread_at entry main_frame (last_entry code store key).token;
            running = refl;
            waiting = refl;
            sent = tt;
            flying = refl;
            at = main_at split store entry is on_root key;
          },
        );
        fuel = weight_at split (last_link code store key ∷ []) root entry.at;
        fueled = λ paced. omega arith;
      };
      less = λ paced. at_main paced;
    }
  where
    at_main : Paced split → weight_at split (last_link split.code store [] ∷ []) split.code.root entry.at < STEP + 4
    at_main paced =
        let number = split.planned.program.main.0 in
        let most : split.pace entry.host.0 entry.at ≤ PACE =
        entry_pace split paced split.code.main.0 entry is
        (λ none. let main = split.main_entry in omega arith) in
        let same : split.pace entry.host.0 entry.at ≡ split.pace split.code.root.0 entry.at =
        ap (λ (host : HostId). split.pace host.0 entry.at) on_root in
        omega arith

-- the world before the first event stands for the start of the plain run
pub falls_at_start : (split : Split) (store : List (List ℤ)) (rows : List declared_hosts.HostShape) →
    split.exposure.bad ≡ [] → AreHostsOf split.code rows →
    Falls split (configuration_at_start split.program store) (STEP + 4) (world_at_start split.code rows 0 store)
falls_at_start split store rows none hosts =
    started split store rows none hosts (entry_at split.code split.code.main) refl split.sound.main
