-- Turns that may be seen and change their host alone, by their instructions. A read leaves one more temporary.
use Rattle.std.proofs.Common.{◌≡◌, ◌∙◌, ℕ, ◌+◌, Bool, true, false, List, [], ◌∷◌, ◌++◌, length, arith, Option}
use Rattle.std.proofs.Common.{Some, None, inl, inr, refl, ap, sym, subst}
use Rattle.std.specs.Prelude.{◌==◌, ◌↔◌, ◌⊎◌, ℤ, IsTrue, if◌then◌else◌}
use Rattle.std.proofs.lemmas.Bool.{cases_Bool, false≢true}
use Rattle.std.specs.Option.{IsSomeAnd}
use Rattle.js_base.specs.declared.ids.HostId.{HostId}
use Rattle.js_base.specs.declared.ids.FieldId.{FieldId}
use Rattle.js_base.specs.declared.ids.VarId.{VarId}
use Rattle.label_lattice.specs.declared.label.Label.{Label}
use Rattle.jif_tree.specs.Store.{row_of, element_at}
use Rattle.capability.specs.declared.token.Token.{Token}
use Rattle.host_code.specs.declared.code.Entry.{Entry}
use Rattle.host_code.specs.declared.code_expr.Node.{Node}
use Rattle.host_code.specs.declared.instruction.Instr.{Instr}
use Rattle.host_code.specs.declared.instruction.Op.{Op}
use Rattle.host_code.specs.declared.instruction.Op.TheVariants as op
use Rattle.host_code.specs.declared.message.Message.TheVariants as message
use Rattle.host_code.specs.Code.{CodeFieldShape, field_at, variable_at}
use Rattle.host_code.specs.Sound.{OperationFits}
use Rattle.host_code.specs.Thread.{ThreadShape}
use Rattle.host_core.specs.Fits.{StateFits}
use Rattle.host_core.specs.Host.{HostState, Outcome, with_running, after_step, with_temporary, value_in_thread}
use Rattle.host_core.specs.Host.{after_clearing, next_request, after_pop, with_one_ignored, without_message}
use Rattle.host_core.specs.Host.{with_message}
use Rattle.host_core.specs.Turn.{after_operation, after_read, after_let, after_forward, after_return, after_back}
use Rattle.host_core.specs.Turn.{MayReturn, with_thread, PassesWith}
use Rattle.split_shades.specs.ShadedCode.{IsShadedOp}
use Rattle.split_shades.specs.Shades.{Ahead}
use Rattle.split_shades.specs.Basis.{read_label}
use Rattle.token_laws.proofs.Tests.{itself}
use Rattle.seen_world.specs.Eyes.{Eyes, is_open, is_hidden}
use Rattle.seen_world.specs.Points.{IsHiddenToken}
use Rattle.seen_world.proofs.TurnsKept.{meets_next}
use Rattle.agreement.specs.Comes.{ComesIntoView, Comes}
use Rattle.agreement.specs.Leads.{UnseenHolder, nobody, flies_on}
use Rattle.agreement.specs.Turns.{ChangesAlone, carried_in, host_idle, ComesBehind, ComesWithResult, SeenOperation}
use Rattle.agreement.specs.Views.{sees_variable, ShowsHost, gives, Completed}
use Rattle.agreement.specs.Views.{LowView, masked, masked_all, last_seen, sees_read, thread_view, with_host}
use Rattle.agreement.specs.Views.{host_with_thread}
use Rattle.agreement.proofs.Branches.{own_view, other_view}
use Rattle.agreement.proofs.Ends.{Ends}
use Rattle.agreement.proofs.GivesBack.{Given, given_ends}
use Rattle.agreement.proofs.Steps.{Leaves}
use Rattle.agreement.proofs.SeenTurns.{Visible, Arrives, completed_some, comes_some, idle_shows, either_true}
use Rattle.agreement.proofs.SeenTurns.{let_turned}
use Rattle.agreement.proofs.SeenTurns.{put_turned, went_arrives, call_turned, frame_turned, push_turned, some_below}
use Rattle.agreement.proofs.SeenTurns.{branch_turned}

-- ---- one more temporary

masked_twice : (seen : Bool) (value : ℤ) → masked seen value ≡ masked seen (masked seen value)
masked_twice true value = refl
masked_twice false value = refl

-- it is masked by the last label
pub masked_more : (eyes : Eyes) (labels : List Label) (label : Label) (temps : List ℤ) (value : ℤ) →
    length temps ≡ length labels →
    masked_all eyes (labels ++ label ∷ []) (temps ++ value ∷ [])
    ≡ masked_all eyes (labels ++ label ∷ []) (masked_all eyes labels temps ++ masked (eyes.sees label) value ∷ [])
masked_more eyes [] label [] value many = ap (λ v. v ∷ []) (masked_twice (eyes.sees label) value)
masked_more eyes [] label (x ∷ temps) value many = absurd (omega (arith, many))
masked_more eyes (first ∷ labels) label [] value many = absurd (omega (arith, many))
masked_more eyes (first ∷ labels) label (x ∷ temps) value many =
    let less : length temps ≡ length labels = omega (arith, many) in
    ap (λ v. v ∷ masked_all eyes (labels ++ label ∷ []) (temps ++ value ∷ [])) (masked_twice (eyes.sees first) x)
    ∙ ap (λ vs. masked (eyes.sees first) (masked (eyes.sees first) x) ∷ vs)
    (masked_more eyes labels label temps value less)

pub last_label : (eyes : Eyes) (labels : List Label) (label : Label) →
    last_seen eyes (labels ++ label ∷ []) ≡ eyes.sees label
last_label eyes [] label = refl
last_label eyes (first ∷ []) label = refl
last_label eyes (first ∷ second ∷ labels) label = last_label eyes (second ∷ labels) label

-- whether what a read leaves may be seen
pub read_seen : (eyes : Eyes) (me : HostId) (place : ℕ) (field : FieldId) (index : List Node)
    (law : IsShadedOp eyes.scene eyes.shades me place (op.Read field index)) →
    last_seen eyes (eyes.shades.at me (place + 1)).temps
    ≡ eyes.sees (read_label eyes.scene.basis (eyes.shades.at me place).pc
    (record { field = field; index = law.1.index }))
read_seen eyes me place field index law =
    let here = eyes.shades.at me place in
    ap (last_seen eyes) ((meets_next eyes me place law.0 law.2).temps ∙ ap (λ (it : Ahead). it.temps) law.1.goes)
    ∙ last_label eyes here.temps
    (read_label eyes.scene.basis here.pc (record { field = field; index = law.1.index }))

-- a thread with other temporaries of which the same may be seen comes to the same
pub comes_masked : (eyes : Eyes) (now : LowView) (host : HostId) (thread : ThreadShape) (temps : List ℤ) (token : Token)
    (after : LowView) →
    masked_all eyes (eyes.shades.at host thread.at).temps thread.temporaries
    ≡ masked_all eyes (eyes.shades.at host thread.at).temps temps →
    Comes eyes now host (record thread { temporaries = temps }) token after → Comes eyes now host thread token after
comes_masked eyes now host thread temps token after same comes = by (is_open eyes host thread.at) comes
  where
    by : (seen : Bool) → ComesIntoView eyes now host (record thread { temporaries = temps }) token seen after →
        ComesIntoView eyes now host thread token seen after
    by true is =
        is ∙ ap (λ ts. with_host now host (host_with_thread (now.hosts host) (record thread { temporaries = ts })))
        (sym same)
    by false is = is

-- ---- a read

read_turned : (eyes : Eyes) (old : HostState) (thread : ThreadShape) (there : Instr) (token : Token) (now : LowView)
    (field : FieldId) (index : List Node) → Visible eyes old thread there token now →
    IsShadedOp eyes.scene eyes.shades old.me thread.at (op.Read field index) → (found : Option CodeFieldShape) →
    IsSomeAnd found (λ on. on.host ≡ old.me) →
    (after : LowView)
    × ComesBehind eyes now old.me (host_idle (now.hosts old.me))
    (with_temporary (masked (sees_read eyes old.me (next_request old thread.at))
    (element_at (row_of old.rows field.0) (value_in_thread old thread index)))
    (after_step (thread_view eyes old.me thread.at thread))) token after
    × Arrives eyes old now (after_read (with_running old None) thread field index found) after
read_turned eyes old thread there token now field index run law None own = absurd own
read_turned eyes old thread there token now field index run law (Some on) own =
    let here = eyes.shades.at old.me thread.at in
    let label : Label =
    read_label eyes.scene.basis here.pc (record { field = field; index = law.1.index }) in
    let value = element_at (row_of old.rows field.0) (value_in_thread old thread index) in
    let next : (eyes.shades.at old.me (thread.at + 1)).temps ≡ here.temps ++ label ∷ [] =
    (meets_next eyes old.me thread.at law.0 law.2).temps ∙ ap (λ (it : Ahead). it.temps) law.1.goes in
    let sees : sees_read eyes old.me (next_request old thread.at) ≡ eyes.sees label =
    read_seen eyes old.me thread.at field index law in
    let shown = masked (sees_read eyes old.me (next_request old thread.at)) value in
    let before = masked_all eyes here.temps thread.temporaries in
    let same : masked_all eyes (eyes.shades.at old.me (thread.at + 1)).temps (thread.temporaries ++ value ∷ [])
    ≡ masked_all eyes (eyes.shades.at old.me (thread.at + 1)).temps (before ++ shown ∷ []) =
    ap (λ labels. masked_all eyes labels (thread.temporaries ++ value ∷ [])) next
    ∙ masked_more eyes here.temps label thread.temporaries value run.well.temps
    ∙ ap (λ (b : Bool). masked_all eyes (here.temps ++ label ∷ []) (before ++ masked b value ∷ [])) (sym sees)
    ∙ sym (ap (λ labels. masked_all eyes labels (before ++ shown ∷ [])) next) in
    let later = with_temporary value (after_step thread) in
    let idle = host_idle (now.hosts old.me) in
    let seen_later = with_temporary shown (after_step (thread_view eyes old.me thread.at thread)) in
    let some = comes_some eyes (with_host now old.me idle) old.me seen_later token in
    let here_is : (on.host.0 == old.me.0) ≡ true = ap (λ (h : HostId). h.0 == old.me.0) own ∙ itself old.me.0 in
    let made : Outcome = with_thread (with_running old None) later in
    let done : Arrives eyes old now made some.0 = record {
      shown = idle;
      later = later;
      token = token;
      silent = refl;
      running = refl;
      me = refl;
      held = run.held;
      plain = run.shown;
      waiting = run.waits;
      entries = run.entries;
      own = idle_shows eyes old.me old (now.hosts old.me) run.shows;
      comes = comes_masked eyes (with_host now old.me idle) old.me later (before ++ shown ∷ []) token some.0 same
          some.1;
    } in (
      some.0,
      some.1,
      either_true (λ (o : Outcome). Arrives eyes old now o some.0) (on.host.0 == old.me.0) made _
          here_is done,
    )

-- ---- a result

return_turned : (eyes : Eyes) (old : HostState) (thread : ThreadShape) (there : Instr) (token : Token) (now : LowView)
    (x : VarId) (value : List Node) (passes : Bool) → Visible eyes old thread there token now →
    IsSomeAnd thread.held (λ held. (held.host ≡ old.me) ⊎ (¬ MayReturn eyes.code (variable_at eyes.code x) held.host))
    → (IsTrue passes ↔ PassesWith eyes.code (with_running old None) (op.Ret x value) thread.held) →
    (after : LowView)
    × ComesWithResult eyes now old.me thread token x
    (masked (sees_variable eyes x) (value_in_thread old thread value)) (token.host.0 == old.me.0) after
    × Arrives eyes old now (after_return (with_running old None) thread x value thread.held passes) after
return_turned eyes old thread there token now x value passes run own checks =
    let turned = by (token.host.0 == old.me.0) refl passes checked.0 in (
      turned.0,
      turned.1,
      subst (λ held. Arrives eyes old now (after_return bare thread x value held passes) turned.0) (sym run.held)
          turned.2,
    )
  where
    bare : HostState
    bare = with_running old None

    shown : ℤ
    shown = masked (sees_variable eyes x) (value_in_thread old thread value)

    alone : (token.host ≡ old.me) ⊎ (¬ MayReturn eyes.code (variable_at eyes.code x) token.host)
    alone =
        let P : Token → Type 0 =
        λ one. (one.host ≡ old.me) ⊎ (¬ MayReturn eyes.code (variable_at eyes.code x) one.host) in
        subst (λ held. IsSomeAnd held P) run.held own

    checked : IsTrue passes ↔ PassesWith eyes.code bare (op.Ret x value) (Some token)
    checked = subst (λ held. IsTrue passes ↔ PassesWith eyes.code bare (op.Ret x value) held) run.held checks

    by : (b : Bool) → (token.host.0 == old.me.0) ≡ b → (pass : Bool) →
        (IsTrue pass → PassesWith eyes.code bare (op.Ret x value) (Some token)) →
        (after : LowView)
        × ComesWithResult eyes now old.me thread token x shown b after
        × Arrives eyes old now (if b
        then after_let bare thread token.frame x value
        else (if pass
        then after_forward bare thread.at (after_clearing thread) token.frame x (value_in_thread bare thread value)
        token.host
        else with_thread bare (after_clearing thread))) after
    by true here pass passes_it = let_turned eyes old thread there token now token.frame x value run
    by false apart true passes_it = elim alone [
      | inl same ↦
          absurd (false≢true (sym apart ∙ ap (λ (h : HostId). h.0 == old.me.0) same ∙ itself old.me.0))
      | inr not_ ↦
          absurd (not_ (passes_it refl
          (λ same. false≢true (sym apart ∙ ap (λ n. n == old.me.0) same ∙ itself old.me.0))))
    ]
    by false apart false passes_it =
        let some = comes_some eyes (with_host now old.me (host_idle (now.hosts old.me))) old.me (after_clearing thread)
        token in
        (some.0, some.1, went_arrives eyes old thread there token now some.0 0 run false some.1)

-- ---- a token is given back to the host

-- Nothing is sent, and what goes on unseen then, or comes into the open, is known.
pub record Rests (eyes : Eyes) (old : HostState) (now : LowView) (outcome : Outcome) (after : LowView) : Type 0 where
  pub silent : outcome.sent ≡ None
  pub later : UnseenHolder
  pub flies : (i j : HostId) → flies_on later i j ≡ []
  pub leaves : Leaves eyes old.me nobody [] now after outcome.state later

plain_entry : (eyes : Eyes) (token : Token) → eyes.bad token.host ≡ false → ¬ IsHiddenToken eyes token →
    is_hidden eyes token.entry.0 ≡ false
plain_entry eyes token obeys shown = elim (cases_Bool (is_hidden eyes token.entry.0)) [
  | inl hidden ↦ absurd (shown (obeys, hidden))
  | inr plain ↦ plain
]

back_turned : (eyes : Eyes) (old : HostState) (thread : ThreadShape) (there : Instr) (token : Token) (now : LowView)
    (passes : Bool) → Visible eyes old thread there token now → IsSomeAnd thread.held (λ held. held.host ≡ old.me) →
    (IsTrue passes ↔ PassesWith eyes.code (with_running old None) op.Back thread.held) →
    (after : LowView)
    × Completed eyes (gives token) (with_host now old.me (host_idle (now.hosts old.me))) after
    × Rests eyes old now (after_back eyes.code (with_running old None) thread thread.held passes) after
back_turned eyes old thread there token now passes run own checks =
    let bare = with_running old None in
    let idle = host_idle (now.hosts old.me) in
    let idle_now = with_host now old.me idle in
    let some = completed_some eyes (gives token) idle_now in
    let host : token.host ≡ old.me = subst (λ held. IsSomeAnd held (λ one. one.host ≡ old.me)) run.held own in
    let number : token.host.0 ≡ old.me.0 = ap (λ (h : HostId). h.0) host in
    let here : (token.host.0 == old.me.0) ≡ true = ap (λ n. n == old.me.0) number ∙ itself old.me.0 in
    let checked : IsTrue passes ↔ PassesWith eyes.code bare op.Back (Some token) =
    subst (λ held. IsTrue passes ↔ PassesWith eyes.code bare op.Back held) run.held checks in
    let obeys : eyes.bad token.host ≡ false = ap eyes.bad host ∙ run.obeys in
    let given : Given eyes bare nobody [] token (gives token) idle_now some.0 = record {
      are = run.are;
      rests = refl;
      stands = run.keeps.entries;
      waiting = run.waits;
      entries = run.entries;
      shows = subst (ShowsHost eyes old.me bare) (sym (own_view now old.me idle))
          (idle_shows eyes old.me old (now.hosts old.me) run.shows);
      runs_apart = λ other apart. refl;
      waits_none = λ other. refl;
      owes = refl;
      well = (obeys, plain_entry eyes token obeys run.shown);
      completed = some.1;
      host = host;
    } in
    let popped : HostState = if passes then after_pop eyes.code bare bare.entries else with_one_ignored bare in
    let is : after_back eyes.code bare thread thread.held passes ≡ without_message popped =
    ap (λ held. after_back eyes.code bare thread held passes) run.held
    ∙ ap (λ (b : Bool). if b then without_message popped
    else with_message (with_running bare None) token.host (message.Lgoto token)) here in
    let ends : Ends eyes old.me nobody [] idle_now some.0 0 (without_message popped) =
    given_ends eyes bare nobody [] token (gives token) idle_now some.0 0 passes given (λ yes. checked.0 yes number)
    (λ top. checked.1 (λ n. top)) in (
      some.0,
      some.1,
      subst (λ (o : Outcome). Rests eyes old now o some.0) (sym is) (record {
        silent = refl;
        later = ends.later;
        flies = ends.sends;
        leaves = record {
          own = ends.leaves.own;
          chain = ends.leaves.chain;
          hides = ends.leaves.hides;
          runs_apart = ends.leaves.runs_apart;
          waits_apart = ends.leaves.waits_apart;
          links_apart = ends.leaves.links_apart;
          spot = ends.leaves.spot;
          held = ends.leaves.held;
          owed = ends.leaves.owed;
          owes = ends.leaves.owes;
          well = ends.leaves.well;
          view = ends.leaves.view;
          shows = ends.leaves.shows;
          others = λ other apart. ends.leaves.others other apart ∙ other_view now old.me other idle apart;
          flying = ends.leaves.flying;
          sent = ends.leaves.sent;
          completed = ends.leaves.completed;
        };
      }),
    )

-- ---- how a turn ends

-- what is seen after such an instruction, where its thread comes to its next place
abbrev Arrived : Eyes → HostState → ThreadShape → Token → LowView → Op → Outcome → Type 0
Arrived eyes old thread token now it outcome =
    (after : LowView)
    × SeenOperation eyes now old.me (thread_view eyes old.me thread.at thread) token it
    (carried_in eyes old thread it) after
    × Arrives eyes old now outcome after

-- or ends
abbrev pub Turned : Eyes → HostState → ThreadShape → Token → LowView → Op → Outcome → Type 0
Turned eyes old thread token now it outcome =
    (after : LowView)
    × SeenOperation eyes now old.me (thread_view eyes old.me thread.at thread) token it
    (carried_in eyes old thread it) after
    × (Arrives eyes old now outcome after ⊎ Rests eyes old now outcome after)

arrived : (eyes : Eyes) (old : HostState) (thread : ThreadShape) (token : Token) (now : LowView) (it : Op)
    (outcome : Outcome) → Arrived eyes old thread token now it outcome → Turned eyes old thread token now it outcome
arrived eyes old thread token now it outcome done = (done.0, done.1, inl done.2)

-- ---- each instruction

pub operation_turned : (eyes : Eyes) (old : HostState) (thread : ThreadShape) (there : Instr) (token : Token)
    (now : LowView) (count : ℕ) (it : Op) (passes : Bool) → Visible eyes old thread there token now →
    ChangesAlone eyes.code old.me thread.held it → IsShadedOp eyes.scene eyes.shades old.me thread.at it →
    OperationFits eyes.code old.me count it →
    (IsTrue passes ↔ PassesWith eyes.code (with_running old None) it thread.held) →
    StateFits eyes.code (after_operation eyes.code (with_running old None) thread it passes).state →
    Turned eyes old thread token now it (after_operation eyes.code (with_running old None) thread it passes)
operation_turned eyes old thread there token now count (op.Let x value) passes run alone law fit checks fits =
    arrived eyes old thread token now (op.Let x value) _
    (let_turned eyes old thread there token now thread.frame x value run)
operation_turned eyes old thread there token now count (op.Arg x value) passes run alone law fit checks fits =
    arrived eyes old thread token now (op.Arg x value) _
    (let_turned eyes old thread there token now thread.new_frame x value run)
operation_turned eyes old thread there token now count (op.Put field index value) passes run alone law fit checks fits =
    arrived eyes old thread token now (op.Put field index value) _
    (put_turned eyes old thread there token now field index value run (field_at eyes.code field) alone)
operation_turned eyes old thread there token now count (op.Branch guard target) passes run alone law fit checks fits =
    arrived eyes old thread token now (op.Branch guard target) _
    (branch_turned eyes old thread there token now guard target run law fit.1 fits)
operation_turned eyes old thread there token now count (op.Frame site) passes run alone law fit checks fits =
    arrived eyes old thread token now (op.Frame site) _
    (frame_turned eyes old thread there token now site run law fit)
operation_turned eyes old thread there token now count (op.Push entry) passes run alone law fit checks fits =
    arrived eyes old thread token now (op.Push entry) _
    (push_turned eyes old thread there token now entry run law
    (some_below (λ (there : Entry). there.host ≡ old.me) eyes.code.entries entry.0 fit.1))
operation_turned eyes old thread there token now count (op.Call entry on) passes run alone law fit checks fits =
    arrived eyes old thread token now (op.Call entry on) _
    (call_turned eyes old thread there token now entry on run law.0 alone fit.0)
operation_turned eyes old thread there token now count (op.Ret x value) passes run alone law fit checks fits =
    arrived eyes old thread token now (op.Ret x value) _
    (return_turned eyes old thread there token now x value passes run alone checks)
operation_turned eyes old thread there token now count (op.Read field index) passes run alone law fit checks fits =
    arrived eyes old thread token now (op.Read field index) _
    (read_turned eyes old thread there token now field index run law (field_at eyes.code field) alone)
operation_turned eyes old thread there token now count (op.Send x to) passes run alone law fit checks fits =
    absurd alone
operation_turned eyes old thread there token now count (op.Pass x to) passes run alone law fit checks fits =
    absurd alone
operation_turned eyes old thread there token now count (op.Ask entry on) passes run alone law fit checks fits =
    absurd alone
operation_turned eyes old thread there token now count (op.Go entry on) passes run alone law fit checks fits =
    absurd alone
operation_turned eyes old thread there token now count (op.GoWith entry on riders) passes run alone law fit checks
    fits = absurd alone
operation_turned eyes old thread there token now count (op.CallWith entry on riders) passes run alone law fit checks
    fits = absurd alone
operation_turned eyes old thread there token now count op.Back passes run alone law fit checks fits =
    let done = back_turned eyes old thread there token now passes run alone checks in
    (done.0, done.1, inr done.2)
