-- What a branch leaves of what goes on unseen: it goes on unseen, or comes into the open behind a loop.
use Rattle.std.proofs.Common.{◌≡◌, ◌≢◌, ◌∙◌, ℕ, suc, ◌+◌, int_eq, Bool, true, false, List, [], ◌∷◌, Option, Some, None}
use Rattle.std.proofs.Common.{inl, inr}
use Rattle.std.proofs.Common.{refl, ap, sym, subst}
use Rattle.std.specs.Prelude.{if◌then◌else◌, not, pos, IfSome}
use Rattle.std.proofs.lemmas.Bool.{cases_Bool, false≢true}
use Rattle.js_base.specs.declared.ids.HostId.{HostId}
use Rattle.js_base.specs.declared.ids.FrameId.{FrameId}
use Rattle.label_lattice.specs.declared.label.Label.{Label}
use Rattle.capability.specs.declared.token.Token.{Token}
use Rattle.host_code.specs.declared.code_expr.Node.{Node}
use Rattle.host_code.specs.declared.instruction.Instr.{Instr}
use Rattle.host_code.specs.declared.instruction.Op.TheVariants as op
use Rattle.host_code.specs.Thread.{ThreadShape}
use Rattle.host_core.specs.Host.{HostState, with_running, after_clearing, value_in_thread}
use Rattle.host_core.specs.Turn.{after_branch, with_thread}
use Rattle.split_shades.specs.ShadedCode.{IsShadedOp}
use Rattle.split_shades.specs.Shades.{Begun, Ahead, MeetsShade}
use Rattle.split_shades.specs.Shading.{DividesInShade}
use Rattle.token_laws.proofs.Tests.{itself, different}
use Rattle.seen_world.specs.Eyes.{Eyes, is_open, is_deep}
use Rattle.seen_world.proofs.SeenPlaces.{block_seen}
use Rattle.seen_world.proofs.TurnsKept.{meets_next}
use Rattle.agreement.specs.Leads.{nobody, runs, HiddenEntry, Owes}
use Rattle.agreement.specs.Views.{LowView, HostView, ShowsHost, nowhere, at, OwedInView, nothing, goes_on, gives}
use Rattle.agreement.specs.Views.{Completed}
use Rattle.agreement.specs.Views.{exit_of}
use Rattle.agreement.specs.Views.{masked_all, running_view, with_host, host_with_thread, thread_out}
use Rattle.agreement.specs.Views as view
use Rattle.agreement.proofs.Ends.{Ends, Unseen, shows_then, goes_on_unseen}
use Rattle.agreement.proofs.Exits.{exit_guard, exit_open}
use Rattle.agreement.proofs.Places.{instruction_within, deep_of, deep_as, flow_hidden, exit_moved}
use Rattle.agreement.proofs.Steps.{runs_apart}
use Rattle.agreement.proofs.Turns.{EndsIn, IsHere, either_ends, same_seen, next_there, deep_on, begun_on}

-- ---- a thread that comes into the open

none_masked : (eyes : Eyes) (labels : List Label) → masked_all eyes labels [] ≡ []
none_masked eyes [] = refl
none_masked eyes (label ∷ labels) = refl

-- what is seen of a host on which a thread comes to a place that may be seen, with no temporaries
pub shown_out : (eyes : Eyes) (host : HostId) (new : HostState) (shown : HostView) (place : ℕ) (frame : FrameId)
    (token : Token) → ShowsHost eyes host (with_running new None) shown →
    new.running ≡ Some (thread_out place frame token) → is_open eyes host place ≡ true →
    ShowsHost eyes host new (host_with_thread shown (thread_out place frame token))
shown_out eyes host new shown place frame token shows is seen = record {
  key = shows.key;
  rows = shows.rows;
  variables = shows.variables;
  running = ap (running_view eyes host) is ∙ out ∙ ap (λ others. thread_out place frame token ∷ others) shows.running;
  waiting = shows.waiting;
  entries = shows.entries;
  serials = shows.serials;
  frames = shows.frames;
  requests = shows.requests;
}
  where
    out : running_view eyes host (Some (thread_out place frame token)) ≡ thread_out place frame token ∷ []
    out =
        ap (λ (b : Bool). if b then view.thread_view eyes host place (thread_out place frame token) ∷ [] else []) seen
        ∙ ap (λ ts. record (thread_out place frame token) { temporaries = ts } ∷ [])
        (none_masked eyes (eyes.shades.at host place).temps)

pub own_view : (now : LowView) (host : HostId) (shown : HostView) → (with_host now host shown).hosts host ≡ shown
own_view now host shown = ap (λ (b : Bool). if b then shown else now.hosts host) (itself host.0)

pub other_view : (now : LowView) (host other : HostId) (shown : HostView) → other.0 ≢ host.0 →
    (with_host now host shown).hosts other ≡ now.hosts other
other_view now host other shown apart =
    ap (λ (b : Bool). if b then shown else now.hosts other) (different other.0 host.0 apart)

-- ---- the end of a loop

-- in a block that may be seen the chain is empty, and it is owed that it goes on at the place behind
owed_out : (eyes : Eyes) (links : List HiddenEntry) (owed : OwedInView) (host : HostId) (place : ℕ) (frame : FrameId)
    (token : Token) → is_deep eyes host place ≡ false → Owes eyes (at host place frame token) links owed →
    (links ≡ []) × (owed ≡ goes_on host (exit_of eyes host place) frame token)
owed_out eyes [] owed host place frame token shallow owes = (
  refl,
  sym owes ∙ ap (λ (b : Bool). if b then gives token else goes_on host (exit_of eyes host place) frame token) shallow,
)
owed_out eyes (link ∷ links) owed host place frame token shallow owes = absurd (false≢true (sym shallow ∙ owes.0))

comes_out : (eyes : Eyes) (old : HostState) (thread : ThreadShape) (links : List HiddenEntry) (token : Token)
    (owed : OwedInView)
    (now shown : LowView) (label target : ℕ) → Unseen eyes old thread links token owed now shown →
    (eyes.shades.at old.me thread.at).calls ≡ false → is_deep eyes old.me thread.at ≡ false →
    exit_of eyes old.me thread.at ≡ target → is_open eyes old.me target ≡ true →
    Ends eyes old.me (runs old.me thread) links now shown label
    (with_thread (with_running old None) (record (after_clearing thread) { at = target }))
comes_out eyes old thread links token owed now shown label target run calls shallow exit seen =
    let later : ThreadShape = record (after_clearing thread) { at = target } in
    let new = with_running old (Some later) in
    let is_out : later ≡ thread_out target thread.frame token =
    ap (λ f. record {
      at = target;
      frame = thread.frame;
      new_frame = f;
      temporaries = [];
      held = thread.held;
    }) (run.well.frames calls)
    ∙ ap (λ held. record {
      at = target;
      frame = thread.frame;
      new_frame = thread.frame;
      temporaries = [];
      held = held;
    }) run.held in
    let out = owed_out eyes links owed old.me thread.at thread.frame token shallow run.owes in
    let here = now.hosts old.me in
    let then_shown = host_with_thread here (thread_out target thread.frame token) in
    let completed : Completed eyes (goes_on old.me target thread.frame token) now shown =
    subst (λ n. Completed eyes (goes_on old.me n thread.frame token) now shown) exit
    (subst (λ o. Completed eyes o now shown) out.1 run.completed) in
    let bare = shows_then eyes old (with_running old None) thread links token owed now shown run
    (same_seen eyes old.me old None) refl refl in
    record {
      later = nobody;
      sends = λ i j. refl;
      leaves = record {
        own = tt;
        chain = links;
        hides = record {
          running = ap (λ (b : Bool). if b then None else Some later) seen;
          waiting = run.hides.waiting;
          entries = run.hides.entries;
        };
        runs_apart = λ other apart. sym (runs_apart old.me other thread apart);
        waits_apart = λ other apart. refl;
        links_apart = λ other apart. refl;
        spot = nowhere;
        held = refl;
        owed = nothing;
        owes = subst (λ chain. Owes eyes nowhere chain nothing) (sym out.0) refl;
        well = tt;
        view = with_host now old.me then_shown;
        shows = subst (ShowsHost eyes old.me new) (sym (own_view now old.me then_shown))
            (shown_out eyes old.me new here target thread.frame token bare (ap Some is_out) seen);
        others = λ other apart. other_view now old.me other then_shown apart;
        flying = refl;
        sent = refl;
        completed = completed;
      };
    }

-- ---- branches

-- both ways of a branch are in blocks that may not be seen
if_ends : (eyes : Eyes) (old : HostState) (thread : ThreadShape) (links : List HiddenEntry) (token : Token)
    (owed : OwedInView)
    (now shown : LowView) (label : ℕ) (there : Instr) (guard : List Node) (target : ℕ) (next other : Ahead) (zero_is :
    Bool) →
    Unseen eyes old thread links token owed now shown → IsHere eyes old thread there →
    (eyes.shades.at old.me thread.at).guard ≡ None →
    DividesInShade eyes.scene (eyes.shades.at old.me thread.at) guard None next other →
    MeetsShade next (eyes.shades.at old.me (suc thread.at)) → MeetsShade other (eyes.shades.at old.me target) →
    EndsIn eyes old thread links now shown label (if zero_is
    then with_thread (with_running old None) (record (after_clearing thread) { at = target })
    else with_thread (with_running old None) (after_clearing thread))
if_ends eyes old thread links token owed now shown label there guard target next other zero_is run is unguarded parts
    meets lands =
    let here = eyes.shades.at old.me thread.at in
    let later : ThreadShape = after_clearing thread in
    let away : ThreadShape = record later { at = target } in
    let deep = deep_of eyes run.are old.me thread.at there is unguarded run.hidden in
    let hidden : eyes.sees next.block ≡ false =
    flow_hidden eyes run.are here.pc next.block parts.0.flows.program run.hidden in
    let block : other.block ≡ next.block = ap (λ (it : Ahead). it.block) parts.2 in
    either_ends (EndsIn eyes old thread links now shown label) zero_is
    (with_thread (with_running old None) away) (with_thread (with_running old None) later)
    (deep_on eyes old (with_running old (Some away)) thread away links token owed now shown label run deep
    (deep_as eyes next.block old.me target (lands.block ∙ block) hidden) refl refl refl refl run.hides.waiting
    (same_seen eyes old.me old (Some away)))
    (deep_on eyes old (with_running old (Some later)) thread later links token owed now shown label run deep
    (deep_as eyes next.block old.me (thread.at + 1) (meets_next eyes old.me thread.at next meets).block hidden) refl
    refl
    refl refl run.hides.waiting (same_seen eyes old.me old (Some later)))

abbrev begun_with : Label → Option ℕ → Begun
begun_with pc guard = record { pc = pc; guard = guard }

-- a loop goes on, or it goes on behind the loop
loop_ends : (eyes : Eyes) (old : HostState) (thread : ThreadShape) (links : List HiddenEntry) (token : Token)
    (owed : OwedInView)
    (now shown : LowView) (label : ℕ) (there : Instr) (guard : List Node) (target : ℕ) (next other : Ahead) (loop : ℕ)
    (zero_is : Bool) → Unseen eyes old thread links token owed now shown → IsHere eyes old thread there →
    (eyes.shades.at old.me thread.at).calls ≡ false → (eyes.shades.at old.me thread.at).guard ≡ Some loop →
    DividesInShade eyes.scene (eyes.shades.at old.me thread.at) guard (Some loop) next other →
    MeetsShade next (eyes.shades.at old.me (suc thread.at)) → MeetsShade other (eyes.shades.at old.me target) →
    target ≡ eyes.shades.exits old.me loop →
    EndsIn eyes old thread links now shown label (if zero_is
    then with_thread (with_running old None) (record (after_clearing thread) { at = target })
    else with_thread (with_running old None) (after_clearing thread))
loop_ends eyes old thread links token owed now shown label there guard target next other loop zero_is run is calls
    at_loop
    parts meets lands exits =
    let here = eyes.shades.at old.me thread.at in
    let later : ThreadShape = after_clearing thread in
    let away : ThreadShape = record later { at = target } in
    let begun : next.begun ≡ Some (record { pc = here.pc; guard = here.guard }) =
    ap (λ (it : Ahead). it.begun) parts.1
    ∙ ap (λ (g : Option ℕ). Some (begun_with here.pc g)) (sym at_loop) in
    let same_exit : exit_of eyes old.me thread.at ≡ exit_of eyes old.me target =
    exit_guard eyes old.me thread.at loop there run.are is run.hidden at_loop
    ∙ ap (exit_of eyes old.me) (sym exits) in
    let block : (eyes.shades.at old.me target).block ≡ here.block =
    lands.block ∙ ap (λ (it : Ahead). it.block) parts.2 in
    either_ends (EndsIn eyes old thread links now shown label) zero_is
    (with_thread (with_running old None) away) (with_thread (with_running old None) later)
    (λ fits. elim (cases_Bool (is_open eyes old.me target)) [
      | inl seen ↦
          let on = instruction_within eyes old.me target
          (next_there eyes old.me (with_running old (Some away)) away refl refl fits) in
          comes_out eyes old thread links token owed now shown label target run calls
          (ap (λ (l : Label). not (eyes.sees l)) (sym block)
          ∙ block_seen eyes old.me target on.0 run.are on.1 seen)
          (same_exit ∙ exit_open eyes old.me target seen) seen
      | inr hidden ↦
          goes_on_unseen eyes old (with_running old (Some away)) thread away links token owed now shown label run refl
          refl run.hides.waiting (same_seen eyes old.me old (Some away)) run.held hidden
          (exit_moved eyes links owed old.me thread.at target thread.frame token block (sym same_exit) run.owes)
    ])
    (begun_on eyes old thread later links token owed now shown label there next run is meets
    (ap (λ (it : Ahead). it.block) parts.1) begun refl refl refl)

pub branch_ends : (eyes : Eyes) (old : HostState) (thread : ThreadShape) (links : List HiddenEntry) (token : Token)
    (owed : OwedInView) (now shown : LowView) (label : ℕ) (there : Instr) (guard : List Node) (target : ℕ) →
    Unseen eyes old thread links token owed now shown → IsHere eyes old thread there →
    IsShadedOp eyes.scene eyes.shades old.me thread.at (op.Branch guard target) →
    EndsIn eyes old thread links now shown label (after_branch (with_running old None) thread guard target)
branch_ends eyes old thread links token owed now shown label there guard target run is law =
    by (eyes.shades.at old.me thread.at).guard refl law.3 law.6
  where
    by : (loop : Option ℕ) → (eyes.shades.at old.me thread.at).guard ≡ loop →
        DividesInShade eyes.scene (eyes.shades.at old.me thread.at) guard loop law.0 law.1 →
        IfSome loop (λ own. target ≡ eyes.shades.exits old.me own) →
        EndsIn eyes old thread links now shown label (after_branch (with_running old None) thread guard target)
    by None none parts exits =
        if_ends eyes old thread links token owed now shown label there guard target law.0 law.1
        (int_eq (value_in_thread (with_running old None) thread guard) (pos 0)) run is none parts law.4 law.5
    by (Some loop) at_loop parts exits =
        loop_ends eyes old thread links token owed now shown label there guard target law.0 law.1 loop
        (int_eq (value_in_thread (with_running old None) thread guard) (pos 0)) run is law.2 at_loop parts law.4 law.5
        exits
