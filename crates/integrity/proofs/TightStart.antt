-- The world before the first event, where the root obeys: the entry that ends the program is on its stack, the thread
-- at `main` holds the token of that, and nothing else goes on.
use Rattle.std.proofs.Common.{◌≡◌, ◌≢◌, ◌∙◌, ◌⊎◌, ℕ, zero, suc, ◌+◌, ℤ}
use Rattle.std.proofs.Common.{inl, inr, Bool, true, false, List, [], ◌∷◌, Option, Some}
use Rattle.std.proofs.Common.{None, refl, sym, ap, subst, arith}
use Rattle.std.specs.Prelude.{◌==◌, if◌then◌else◌, slice_get, IfSome, IsSomeAnd, All}
use Rattle.std.specs.Int.{bit_at}
use Rattle.std.proofs.lemmas.Bool.{eq-eqb, ne_eqb}
use Rattle.std.proofs.lemmas.Bool.Decides.{eqb_tells}
use Rattle.std.proofs.lemmas.List.Elements.{All-nil, All-cons}
use Rattle.js_base.specs.declared.ids.HostId.{HostId}
use Rattle.ics_stack.specs.declared.stack.StackEntry.{StackEntry}
use Rattle.host_decl.specs.Hosts as declared_hosts
use Rattle.host_code.specs.declared.code.Entry.{Entry}
use Rattle.host_code.specs.Code.{CodeShape, halt, entry_at}
use Rattle.host_code.specs.Sound.{IsSoundCode}
use Rattle.host_code.specs.Thread.{ThreadShape, WaitingShape}
use Rattle.host_core.specs.Host.{HostState, after_push, after_entering, new_token, thread_at}
use Rattle.host_core.specs.Start.{idle_host, root_host, main_frame, last_token, host_at_start}
use Rattle.net_world.specs.World.{given, hosts_before, state_at, world_at_start}
use Rattle.net_world.proofs.Present.{same_id}
use Rattle.typed_steps.proofs.MainStart.{last_entry}
use Rattle.integrity.specs.Holding.{IsAmong, Holder, runs, OwnsWaiting, StateIsOutside, IsTight, StartsTight}
use Rattle.integrity.specs.Outside.{Threat, EntryIsOpen, ThreadIsOpen}
use Rattle.integrity.proofs.Among.{some_of}

-- ---- a host at the start

pub record IsStarted (code : CodeShape) (store : List (List ℤ)) (me : HostId) (state : HostState) : Type 0 where
  pub key : List ℕ
  pub is : state ≡ host_at_start code store key me

started_if : (code : CodeShape) (store : List (List ℤ)) (key : List ℕ) (me : HostId) (misbehaves : Bool)
    (state : HostState) →
    given (Some (if misbehaves then None else Some (host_at_start code store key me))) ≡ Some state →
    IsStarted code store me state
started_if code store key me true state is = absurd (cc)
started_if code store key me false state is =
    let same : host_at_start code store key me ≡ state = cc in
    record { key = key; is = sym same }

started_before : (code : CodeShape) (store : List (List ℤ)) (bad number : ℕ) (rows : List declared_hosts.HostShape)
    (place at : ℕ) (state : HostState) → at ≡ number + place →
    given (slice_get (hosts_before code store bad number rows) place) ≡ Some state →
    IsStarted code store (record { 0 = at }) state
started_before code store bad number [] place at state is there = absurd (cc)
started_before code store bad number (row ∷ rows) zero at state is there =
    let same : number ≡ at = omega arith in
    subst (λ (n : ℕ). IsStarted code store (record { 0 = n }) state) same
    (started_if code store row.key (record { 0 = number }) (bit_at bad number == 1) state there)
started_before code store bad number (row ∷ rows) (suc place) at state is there =
    started_before code store bad (number + 1) rows place at state (omega arith) there

pub started : (code : CodeShape) (rows : List declared_hosts.HostShape) (bad : ℕ) (store : List (List ℤ))
    (host : HostId)
    (state : HostState) → state_at (world_at_start code rows bad store) host ≡ Some state →
    IsStarted code store host state
started code rows bad store host state there =
    started_before code store bad 0 rows host.0 host.0 state (omega arith) there

-- ---- the root

-- the thread at `main`
abbrev pub first_thread : CodeShape → List (List ℤ) → List ℕ → Entry → ThreadShape
first_thread code store key there =
    thread_at there main_frame (new_token (idle_host code store key code.root) halt main_frame)

pub record IsRoot (code : CodeShape) (store : List (List ℤ)) (state : HostState) : Type 0 where
  pub key : List ℕ
  pub there : Entry
  pub found : entry_at code code.main ≡ Some there
  pub on_root : there.host ≡ code.root
  pub halts : state.halted ≡ false
  pub me : state.me ≡ code.root
  pub running : state.running ≡ Some (first_thread code store key there)
  pub waiting : state.waiting ≡ []
  pub entries : state.entries ≡ last_entry code store key ∷ []

entered : (code : CodeShape) (store : List (List ℤ)) (key : List ℕ) (found : Option Entry) →
    entry_at code code.main ≡ found → IsSomeAnd found (λ there. there.host ≡ code.root) → (state : HostState) →
    state ≡ after_entering (after_push (idle_host code store key code.root) halt main_frame
    (last_token code.root)) found
    main_frame (new_token (idle_host code store key code.root) halt main_frame) → IsRoot code store state
entered code store key None is on state same = absurd on
entered code store key (Some there) is on state same = record {
  key = key;
  there = there;
  found = is;
  on_root = on;
  halts = ap (λ (s : HostState). s.halted) same;
  me = ap (λ (s : HostState). s.me) same;
  running = ap (λ (s : HostState). s.running) same;
  waiting = ap (λ (s : HostState). s.waiting) same;
  entries = ap (λ (s : HostState). s.entries) same;
}

pub root_state : (code : CodeShape) (store : List (List ℤ)) → IsSoundCode code → (state : HostState) →
    IsStarted code store code.root state → IsRoot code store state
root_state code store sound state it =
    let idle = idle_host code store it.key code.root in
    entered code store it.key (entry_at code code.main) refl sound.main state
    (it.is ∙ ap (λ (b : Bool). if b then root_host code idle else idle) (eq-eqb code.root.0 code.root.0 refl))

root_outside : (threat : Threat) (store : List (List ℤ)) (state : HostState) →
    (it : IsRoot threat.code store state) →
    StateIsOutside threat (last_entry threat.code store it.key ∷ [])
    (runs threat.code.root (first_thread threat.code store it.key it.there)) state
root_outside threat store state it =
    let last = last_entry threat.code store it.key in
    let Keeps : StackEntry → Type 0 = λ on_stack. IsAmong (last ∷ []) on_stack ⊎ EntryIsOpen threat on_stack.entry in
    let here : IsAmong (last ∷ []) last = (0, refl) in
    let Waits : WaitingShape → Type 0 =
    λ waiting.
    OwnsWaiting (runs threat.code.root (first_thread threat.code store it.key it.there)) state.me waiting
    ⊎ ThreadIsOpen threat state.me waiting.thread in
    record {
      running = inl it.me;
      waiting = subst (All Waits) (sym it.waiting) (All-nil Waits);
      entries = subst (All Keeps) (sym it.entries) (All-cons Keeps last [] (inl here) (All-nil Keeps));
    }

-- ---- the others

idle_outside : (threat : Threat) (chain : List StackEntry) (holder : Holder) (store : List (List ℤ)) (key : List ℕ)
    (me : HostId) → StateIsOutside threat chain holder (idle_host threat.code store key me)
idle_outside threat chain holder store key me =
    record { running = inr tt; waiting = All-nil _; entries = All-nil _ }

other_outside : (threat : Threat) (chain : List StackEntry) (holder : Holder) (store : List (List ℤ)) (host : HostId)
    (state : HostState) → IsStarted threat.code store host state → host.0 ≢ threat.code.root.0 →
    StateIsOutside threat chain holder state
other_outside threat chain holder store host state it apart =
    let idle = idle_host threat.code store it.key host in
    subst (StateIsOutside threat chain holder)
    (sym (it.is ∙ ap (λ (b : Bool). if b then root_host threat.code idle else idle)
    (ne_eqb host.0 threat.code.root.0 apart))) (idle_outside threat chain holder store it.key host)

module _ (threat : Threat) (rows : List declared_hosts.HostShape) (bad : ℕ) (store : List (List ℤ))
    (state : HostState) (obeys : state_at (world_at_start threat.code rows bad store) threat.code.root ≡ Some state)
    (it : IsRoot threat.code store state) where
  outside_at : (host : HostId) (o : Option HostState) →
      state_at (world_at_start threat.code rows bad store) host ≡ o →
      IfSome o (StateIsOutside threat (last_entry threat.code store it.key ∷ [])
      (runs threat.code.root (first_thread threat.code store it.key it.there)))
  outside_at host None is = tt
  outside_at host (Some other) is = elim (eqb_tells host.0 threat.code.root.0) [
    | inl same ↦
        let one : host ≡ threat.code.root = same_id host threat.code.root same.1 in
        let both : Some state ≡ Some other =
        sym obeys ∙ ap (state_at (world_at_start threat.code rows bad store)) (sym one) ∙ is in
        let same_state : state ≡ other = cc in
        subst (StateIsOutside threat (last_entry threat.code store it.key ∷ [])
        (runs threat.code.root (first_thread threat.code store it.key it.there))) same_state
        (root_outside threat store state it)
    | inr apart ↦
        other_outside threat _ _ store host other (started threat.code rows bad store host other is) apart.1
  ]

  pub tight_root : IsTight threat (last_entry threat.code store it.key ∷ [])
      (runs threat.code.root (first_thread threat.code store it.key it.there))
      (world_at_start threat.code rows bad store)
  tight_root = record {
    linked = tt;
    standing = (
      record {
        there = some_of (state_at (world_at_start threat.code rows bad store) threat.code.root)
            (λ s. IsAmong s.entries (last_entry threat.code store it.key)) state obeys
            (0, ap (λ list. slice_get list 0) it.entries);
        unsent = λ sent. let lt = sent.1 in let never : ⊥ = omega arith in never;
      },
      tt,
    );
    there = some_of (state_at (world_at_start threat.code rows bad store) threat.code.root)
        (λ s. s.running ≡ Some (first_thread threat.code store it.key it.there)) state obeys it.running;
    has_top = refl;
    outside = record { states = λ host. outside_at host _ refl; flying = λ from to. All-nil _ };
  }

pub starts_tight : (threat : Threat) (rows : List declared_hosts.HostShape) (bad : ℕ) (store : List (List ℤ))
    (state : HostState) → IsSoundCode threat.code →
    state_at (world_at_start threat.code rows bad store) threat.code.root ≡ Some state →
    StartsTight threat (world_at_start threat.code rows bad store)
starts_tight threat rows bad store state sound obeys =
    let it =
    root_state threat.code store sound state (started threat.code rows bad store threat.code.root state obeys) in
    record {
      last = last_entry threat.code store it.key;
      ends = refl;
      thread = first_thread threat.code store it.key it.there;
      tight = tight_root threat rows bad store state obeys it;
    }
