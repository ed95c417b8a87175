-- The world before the first event, where the root obeys, stands for the start of the program.
use Rattle.std.proofs.Common.{◌≡◌, ◌∙◌, ℕ, inl, inr, Bool, true, false, List}
use Rattle.std.proofs.Common.{Option, Some, None, refl, ap, sym, subst, arith}
use Rattle.std.specs.Prelude.{ℤ, pos, ◌==◌, if◌then◌else◌, IsTrue, IsSomeAnd, slice_get}
use Rattle.js_base.specs.declared.ids.HostId.{HostId}
use Rattle.js_base.specs.declared.ids.FrameId.{FrameId}
use Rattle.js_base.specs.declared.ids.VarId.{VarId}
use Rattle.host_decl.specs.Hosts as declared_hosts
use Rattle.jif_tree.specs.SourceRun as source
use Rattle.jif_tree.specs.SourceRun.{configuration_at_start}
use Rattle.capability.specs.declared.token.Token.{Token}
use Rattle.host_code.specs.declared.code.Entry.{Entry}
use Rattle.host_code.specs.Code.{CodeShape, entry_at}
use Rattle.host_code.specs.Thread.{ThreadShape}
use Rattle.host_core.specs.Host.{HostState, after_entering, after_push, new_token}
use Rattle.host_code.specs.Code.{halt}
use Rattle.host_core.specs.Start.{main_frame, last_token, idle_host, root_host}
use Rattle.net_world.specs.World.{world_at_start, state_at}
use Rattle.typed_steps.specs.Views.{Split, View}
use Rattle.typed_steps.specs.Variables.{AreFresh, HasWhatIsOwed, HostsHold}
use Rattle.typed_steps.proofs.MainStart.{calls_at_start, naming_at_start, view_at_start}
use Rattle.typed_steps.proofs.MainStart.{main_plain}
use Rattle.typed_steps.proofs.MainStart.{main_apart, main_at}
use Rattle.integrity.specs.Holding.{runs}
use Rattle.integrity.specs.Standing.{threat_in, StandsBy}
use Rattle.integrity.proofs.Among.{some_of}
use Rattle.integrity.proofs.Starts.{fields_at_start}
use Rattle.integrity.proofs.TightStart.{started, first_thread, root_state, tight_root}

-- ---- what all hosts have

entered_variables : (host : HostState) (found : Option Entry) (frame : FrameId) (token : Token) →
    (after_entering host found frame token).variables ≡ host.variables
entered_variables host None frame token = refl
entered_variables host (Some entry) frame token = refl

variables_if : (code : CodeShape) (store : List (List ℤ)) (key : List ℕ) (host : HostId) (root : Bool) →
    (if root then root_host code (idle_host code store key host) else idle_host code store key host).variables
    ≡ (λ frame x. pos 0)
variables_if code store key host true =
    let idle = idle_host code store key host in
    entered_variables (after_push idle halt main_frame (last_token host)) (entry_at code code.main) main_frame
    (new_token idle halt main_frame)
variables_if code store key host false = refl

-- no variable was set
unset_there : (code : CodeShape) (rows : List declared_hosts.HostShape) (bad : ℕ) (store : List (List ℤ))
    (host : HostId) (state : HostState) → state_at (world_at_start code rows bad store) host ≡ Some state →
    state.variables ≡ (λ frame x. pos 0)
unset_there code rows bad store host state there =
    let it = started code rows bad store host state there in
    ap (λ (s : HostState). s.variables) it.is ∙ variables_if code store it.key host (host.0 == code.root.0)

fresh_frames : (split : Split) (rows : List declared_hosts.HostShape) (bad : ℕ) (store : List (List ℤ)) →
    AreFresh split (naming_at_start split) (world_at_start split.code rows bad store)
fresh_frames split rows bad store host state site count at there least =
    record {
      apart = λ call within. main_apart split.code host site count there;
      unset = λ other s x is.
          inl (ap (λ (v : FrameId → VarId → ℤ). v (record { site = site; count = count }) x)
          (unset_there split.code rows bad store other s is));
    }

holds_at_start : (split : Split) (rows : List declared_hosts.HostShape) (bad : ℕ) (store : List (List ℤ))
    (key : List ℕ) → HostsHold split (configuration_at_start split.program store) (view_at_start split store key)
    (world_at_start split.code rows bad store)
holds_at_start split rows bad store key = record {
  fields = λ number field s there at. inl (fields_at_start split.code rows bad store number field s there at);
  known = omega arith;
  apart = λ one other within too same. omega arith;
  named = λ call within.
      let first : call ≡ 0 = omega arith in
      record {
        made = record { caller = 0; method = split.program.main.0; values = λ x. pos 0 };
        is = ap (slice_get (calls_at_start split)) first;
        caller = refl;
        method = refl;
      };
  fresh = fresh_frames split rows bad store;
  valued = λ call x within.
      let first : call ≡ 0 = omega arith in
      sym (ap (λ n. source.variable (calls_at_start split) n x) first);
  agree = λ call host s x within at reads.
      inr (inl (ap (λ (v : FrameId → VarId → ℤ). v main_frame x) (unset_there split.code rows bad store host s at)));
  result = λ call into result behind s pending at. absurd (main_plain split store call into result behind pending);
}

-- ---- the start as a whole

pub stands_at_start : (split : Split) (rows : List declared_hosts.HostShape) (bad : ℕ) (store : List (List ℤ))
    (state : HostState) → state_at (world_at_start split.code rows bad store) split.code.root ≡ Some state →
    (view : View) × (thread : ThreadShape)
    × StandsBy split (configuration_at_start split.program store) view (runs split.code.root thread)
    (world_at_start split.code rows bad store)
stands_at_start split rows bad store state obeys =
    let code = split.code in
    let root = code.root in
    let world = world_at_start code rows bad store in
    let it = root_state code store split.sound state (started code rows bad store root state obeys) in
    let thread = first_thread code store it.key it.there in (
      view_at_start split store it.key,
      thread,
      record {
        tight = tight_root (threat_in split) rows bad store state obeys it;
        holds = holds_at_start split rows bad store it.key;
        sends = some_of (state_at world root) (λ s. HasWhatIsOwed split
            (view_at_start split store it.key) s root) state obeys tt;
        does = ((refl, refl), main_at split store it.there it.found it.on_root it.key);
        halts = λ has.
            let at : IsTrue state.halted = subst (λ o. IsSomeAnd o (λ s. IsTrue s.halted)) obeys has in
            let never : true ≡ false = sym at ∙ it.halts in
            absurd (cc);
      },
    )
