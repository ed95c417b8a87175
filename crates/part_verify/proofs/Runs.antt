-- A thread of a host with a sound part keeps within the need of the entry at which it started.
use Rattle.std.proofs.Common.{◌≡◌, ◌≢◌, ◌∙◌, ℕ, ℤ, suc, length, All, List, [], ◌∷◌, Option, Some, None, ap, sym, subst}
use Rattle.std.proofs.Common.{inl, inr, refl}
use Rattle.std.specs.Prelude.{Bool, true, false, ◌==◌, if◌then◌else◌, IsSomeAnd, IfSome, IsSome}
use Rattle.std.proofs.lemmas.Bool.{cases_eq, false≢true}
use Rattle.js_base.specs.declared.ids.HostId.{HostId}
use Rattle.js_base.specs.declared.ids.EntryId.{EntryId}
use Rattle.capability.specs.declared.token.Token.{Token}
use Rattle.host_code.specs.declared.code.Entry.{Entry}
use Rattle.host_code.specs.declared.instruction.Instr.{Instr}
use Rattle.host_code.specs.Code.{CodeShape, halt, entry_at, instruction_at}
use Rattle.host_code.specs.Sound.{IsHost, IsSoundCode}
use Rattle.host_code.specs.Thread.{ThreadShape, WaitingShape}
use Rattle.host_core.specs.Host.{HostState, Outcome, with_running, after_push, after_entering, new_token}
use Rattle.host_core.specs.Start.{host_at_start, idle_host, root_host, main_frame, last_token}
use Rattle.host_core.specs.Turn.{IsTurn, IsTurnOf, IsRunning, IsOperation}
use Rattle.host_core.specs.Fits.{StateFits, RunningFits, StackEntryFits, TokenFits}
use Rattle.host_core.proofs.TurnKept.{same_host, turn_kept}
use Rattle.host_core.proofs.TakingKept.{taking_kept}
use Rattle.host_core.proofs.StartKept.{idle_fits, root_fits}
use Rattle.part_verify.specs.SoundPart.{AreNeedsKept, IsSoundPart, NamesWithin, ShowsWell}
use Rattle.part_verify.specs.Keeping.{KeepsWithin}
use Rattle.part_verify.specs.Marks.{Marks, HostEvent, IsHostStep, HostRun, marks_sent, mark_behind_place, marks_after}
use Rattle.part_verify.specs.Marks.{marks_after_turn, marks_after_message, marks_at_start}
use Rattle.part_verify.specs.Marks.HostEvent.{Comes, Runs}
use Rattle.part_verify.proofs.Covered.{IsCovered, IsMarked, AreMarked, covered_entered, covered_names}
use Rattle.part_verify.proofs.Keeps.{Says, operation_says}
use Rattle.part_verify.proofs.Needs.{same_number}
use Rattle.part_verify.proofs.Standing.{Stands, operation_leaves, taking_leaves}

module _ (code : CodeShape) (me : HostId) (sound : IsSoundCode code) (is_host : IsHost code me)
    (kept : AreNeedsKept code me) where
  -- ---- a step

  operation_on : (host : HostState) (thread : ThreadShape) (running : Option EntryId) (waiting : List EntryId)
      (one : Instr) (outcome : Outcome) → host.me ≡ me → IsMarked code me (Some thread) running →
      AreMarked code me waiting host.waiting → instruction_at code me thread.at ≡ Some one →
      All (StackEntryFits code me) host.entries → IsSomeAnd thread.held (TokenFits code) →
      IsOperation code (with_running host None) thread one.op outcome →
      Stands code me outcome.state (marks_sent (record { running = running; waiting = waiting }) outcome.state.running
      (mark_behind_place host.entries running (Some one)) outcome.sent)
  operation_on host thread None waiting one outcome same here all is fits holds step = absurd here
  operation_on host thread (Some mark) waiting one outcome same here all is fits holds step =
      subst (λ (o : Outcome). Stands code me o.state (marks_sent (record { running = Some mark; waiting = waiting })
      o.state.running (mark_behind_place host.entries (Some mark) (Some one)) o.sent)) step.2
      (operation_leaves code me (with_running host None) thread mark waiting same refl all here one kept is fits holds
      one.op step.0 _ refl ((sound.parts me is_host).instructions thread.at one is).operation)

  running_on : (host : HostState) (thread : ThreadShape) (running : Option EntryId) (waiting : List EntryId)
      (found : Option Instr) (outcome : Outcome) → host.me ≡ me → IsMarked code me (Some thread) running →
      AreMarked code me waiting host.waiting → instruction_at code me thread.at ≡ found →
      All (StackEntryFits code me) host.entries → IsSomeAnd thread.held (TokenFits code) →
      IsRunning code (with_running host None) thread found outcome →
      Stands code me outcome.state (marks_sent (record { running = running; waiting = waiting }) outcome.state.running
      (mark_behind_place host.entries running found) outcome.sent)
  running_on host thread running waiting None outcome same here all is fits holds step =
      subst (λ (o : Outcome). Stands code me o.state (marks_sent (record { running = running; waiting = waiting })
      o.state.running running o.sent)) step (same, here, all)
  running_on host thread running waiting (Some one) outcome same here all is fits holds step =
      operation_on host thread running waiting one outcome same here all is fits holds step

  turn_on : (host : HostState) (marks : Marks) (thread : Option ThreadShape) (outcome : Outcome) → host.me ≡ me →
      IsMarked code me thread marks.running → AreMarked code me marks.waiting host.waiting → host.running ≡ thread →
      All (StackEntryFits code me) host.entries → IfSome thread (RunningFits code me) →
      IsTurnOf code host thread outcome →
      Stands code me outcome.state (marks_after_turn code host thread outcome marks)
  turn_on host marks None outcome same here all is fits runs step =
      subst (λ (o : Outcome). Stands code me o.state marks) step
      (same, subst (λ (o : Option ThreadShape). IsMarked code me o marks.running) (sym is) tt, all)
  turn_on host marks (Some thread) outcome same here all is fits runs step =
      running_on host thread marks.running marks.waiting (instruction_at code host.me thread.at) outcome same here all
      (ap (λ (h : HostId). instruction_at code h thread.at) (sym same)) fits runs.held step

  -- the state fits the code, and its threads stand where their marks may lead
  abbrev Holds : HostState → Marks → Type 0
  Holds host marks = StateFits code host × Stands code me host marks

  step_holds : (event : HostEvent) (host : HostState) (marks : Marks) (outcome : Outcome) → Holds host marks →
      IsHostStep code event host outcome → Holds outcome.state (marks_after code event host outcome marks)
  step_holds (Comes from letter) host marks outcome holds step = (
    (taking_kept code host from letter outcome sound holds.0 step.1 step.2 step.3).0,
    subst (λ (o : Outcome). Stands code me o.state (marks_after_message host from letter o marks)) step.3.2
        (taking_leaves code me host marks from letter step.3.0 holds.1 step.0
        (subst (λ (h : HostId). All (StackEntryFits code h) host.entries) holds.1.0 holds.0.entries) step.3.1),
  )
  step_holds Runs host marks outcome holds step = (
    (turn_kept code host outcome sound holds.0 step.1).0,
    turn_on host marks host.running outcome holds.1.0 holds.1.1 holds.1.2 refl
        (subst (λ (h : HostId). All (StackEntryFits code h) host.entries) holds.1.0 holds.0.entries)
        (subst (λ (h : HostId). IfSome host.running (RunningFits code h)) holds.1.0 holds.0.running) step.1,
  )

  run_holds : (events : List HostEvent) (host later : HostState) (marks marked : Marks) → Holds host marks →
      HostRun code host marks events later marked → Holds later marked
  run_holds [] host later marks marked holds run =
      subst (λ (h : HostState). Holds h marked) run.0 (subst (λ (m : Marks). Holds host m) run.1 holds)
  run_holds (event ∷ events) host later marks marked holds run =
      run_holds events run.0.state later (marks_after code event host run.0 marks) marked
      (step_holds event host marks run.0 holds run.1) run.2

  -- ---- the start

  main_covered : (there : Entry) → entry_at code code.main ≡ Some there → there.host ≡ me →
      IsCovered code me code.main there.at
  main_covered there is here = elim (cases_eq code.main.0 0) [
    | inl zero_is ↦ inl (same_number code.main halt zero_is)
    | inr apart ↦ covered_entered code me code.main there (λ same. apart (ap (λ (e : EntryId). e.0) same)) is here
  ]

  main_stands : (host : HostState) (token : Token) (found : Option Entry) → entry_at code code.main ≡ found →
      host.me ≡ me → AreMarked code me [] host.waiting → me ≡ code.root →
      IsSomeAnd found (λ there. there.host ≡ code.root) →
      Stands code me (after_entering host found main_frame token) (record { running = Some code.main; waiting = [] })
  main_stands host token None is same all root on = absurd on
  main_stands host token (Some there) is same all root on = (same, main_covered there is (on ∙ sym root), all)

  start_holds : (store : List (List ℤ)) (key : List ℕ) (root : Bool) → (me.0 == code.root.0) ≡ root →
      Holds (if root then root_host code (idle_host code store key me) else idle_host code store key me)
      (if root
      then record { running = Some code.main; waiting = [] }
      else record { running = None; waiting = [] })
  start_holds store key true root =
      let idle = idle_host code store key me in (
        root_fits code idle sound (idle_fits code store key me is_host) (same_host me code.root root),
        main_stands (after_push idle halt main_frame (last_token me)) (new_token idle halt main_frame)
            (entry_at code code.main) refl refl tt (same_host me code.root root) sound.main,
      )
  start_holds store key false root = (idle_fits code store key me is_host, (refl, tt, tt))

  pub started_holds : (store : List (List ℤ)) (key : List ℕ) (events : List HostEvent) (host : HostState)
      (marks : Marks) → HostRun code (host_at_start code store key me) (marks_at_start code me) events host marks →
      Holds host marks
  started_holds store key events host marks run =
      run_holds events (host_at_start code store key me) host (marks_at_start code me) marks
      (start_holds store key (me.0 == code.root.0) refl) run

-- ---- what the thread does

mark_is : (code : CodeShape) (me : HostId) (running : Option ThreadShape) (mark : Option EntryId) (thread : ThreadShape)
    (there : EntryId) → running ≡ Some thread → mark ≡ Some there → IsMarked code me running mark →
    IsCovered code me there thread.at
mark_is code me running mark thread there is marked covered =
    let with_thread = subst (λ (o : Option ThreadShape). IsMarked code me o mark) is covered in
    subst (IsMarked code me (Some thread)) marked with_thread

has_mark : (code : CodeShape) (me : HostId) (running : Option ThreadShape) (mark : Option EntryId) →
    IsMarked code me running mark → IsSome running → IsSome mark
has_mark code me None mark covered runs = absurd (false≢true runs)
has_mark code me (Some thread) None covered runs = absurd covered
has_mark code me (Some thread) (Some mark) covered runs = refl

same_length : (code : CodeShape) (me : HostId) (marks : List EntryId) (waiting : List WaitingShape) →
    AreMarked code me marks waiting → length marks ≡ length waiting
same_length code me [] [] all = refl
same_length code me [] (one ∷ waiting) all = absurd all
same_length code me (mark ∷ marks) [] all = absurd all
same_length code me (mark ∷ marks) (one ∷ waiting) all = ap suc (same_length code me marks waiting all.1)

pub marked : (code : CodeShape) (me : HostId) (store : List (List ℤ)) (key : List ℕ) (events : List HostEvent)
    (host : HostState) (marks : Marks) → IsSoundCode code → IsHost code me → IsSoundPart code me →
    HostRun code (host_at_start code store key me) (marks_at_start code me) events host marks →
    (IsSome host.running → IsSome marks.running) × (length marks.waiting ≡ length host.waiting)
marked code me store key events host marks sound is_host part run =
    let stands : Stands code me host marks =
    (started_holds code me sound is_host part.needs store key events host marks run).1 in (
      has_mark code me host.running marks.running stands.1,
      same_length code me marks.waiting host.waiting stands.2,
    )

pub within : (code : CodeShape) (me : HostId) (store : List (List ℤ)) (key : List ℕ) (events : List HostEvent)
    (host : HostState) (marks : Marks) (there : EntryId) (entry : Entry) (thread : ThreadShape) (one : Instr)
    (outcome : Outcome) → IsSoundCode code → IsHost code me → IsSoundPart code me →
    HostRun code (host_at_start code store key me) (marks_at_start code me) events host marks →
    host.running ≡ Some thread → marks.running ≡ Some there → there ≢ halt → entry_at code there ≡ Some entry →
    instruction_at code me thread.at ≡ Some one → IsTurn code host outcome →
    KeepsWithin code entry.need one outcome.sent
within code me store key events host marks there entry thread one outcome sound is_host part run running mark not_halt
    is
    found turn =
    let stands : Stands code me host marks =
    (started_holds code me sound is_host part.needs store key events host marks run).1 in
    let names : NamesWithin code entry.need one.op =
    covered_names code me there entry thread.at one part.needs not_halt is found
    (mark_is code me host.running marks.running thread there running mark stands.1) in
    let shows : ShowsWell code host.me one.label one.op =
    subst (λ (h : HostId). ShowsWell code h one.label one.op) (sym stands.0) (part.shows thread.at one found) in
    let runs : IsTurnOf code host (Some thread) outcome =
    subst (λ (o : Option ThreadShape). IsTurnOf code host o outcome) running turn in
    let there_is : instruction_at code host.me thread.at ≡ Some one =
    ap (λ (h : HostId). instruction_at code h thread.at) stands.0 ∙ found in
    let does : IsOperation code (with_running host None) thread one.op outcome =
    subst (λ (o : Option Instr). IsRunning code (with_running host None) thread o outcome) there_is runs in
    let says : Says code entry.need one.label one.op outcome.sent =
    subst (λ (o : Outcome). Says code entry.need one.label one.op o.sent) does.2
    (operation_says code (with_running host None) thread entry.need one.label one.op does.0 names shows) in
    record { names = names; sends = says.0; shows = says.1 }
