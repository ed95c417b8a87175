-- What a step of one host changes: its state, and what is in flight, or what misbehaving hosts were sent.
use Rattle.std.proofs.Common.{◌≡◌, ◌≢◌, ◌∙◌, ℕ, ◌⊎◌, inl, inr, Bool, true, false, [], ◌∷◌}
use Rattle.std.proofs.Common.{◌++◌, Option, Some, None, refl, ap, sym}
use Rattle.std.specs.Prelude.{slice_get, slice_set, if◌then◌else◌}
use Rattle.std.proofs.lemmas.Bool.Decides.{eqb_tells}
use Rattle.js_base.specs.declared.ids.HostId.{HostId}
use Rattle.js_base.proofs.Options.{some_same}
use Rattle.host_code.specs.declared.message.Message.{Message}
use Rattle.host_core.specs.Host.{HostState, Outcome, Letter, without_message, with_message}
use Rattle.net_world.specs.Flying.{Flying, with_flights}
use Rattle.net_world.specs.World.{WorldShape, given, present, state_at, lacks, misbehaves, with_state}
use Rattle.net_world.specs.World.{after_sending, after_posting, after_telling, letter_of, after_step}
use Rattle.net_world.proofs.Present.{at_set, get_other, same_id}
use Rattle.net_world.proofs.StepLaws.{absent_set}

-- ---- hosts

pub record Moved (world : WorldShape) (host : HostId) (state : HostState) (flights : Flying) (after : WorldShape) :
    Type 0 where
  pub hosts : after.hosts ≡ slice_set world.hosts host.0 (Some state)
  pub flying : after.flying ≡ flights

there_of : {X : Type 0} (o : Option (Option X)) (x : X) → given o ≡ Some x → o ≡ Some (Some x)
there_of None x is = absurd (cc)
there_of (Some there) x is = ap Some is

pub mover_state : (world after : WorldShape) (host : HostId) (old state : HostState) (flying : Flying) →
    state_at world host ≡ Some old → Moved world host state flying after → state_at after host ≡ Some state
mover_state world after host old state flying obeys moved =
    ap (λ hosts. present hosts host) moved.hosts
    ∙ ap given (at_set world.hosts host.0 (Some state) (Some old) (there_of (slice_get world.hosts host.0) old obeys))

pub other_state : (world after : WorldShape) (host other : HostId) (state : HostState) (flying : Flying) →
    Moved world host state flying after → other.0 ≢ host.0 → state_at after other ≡ state_at world other
other_state world after host other state flying moved apart =
    ap (λ hosts. present hosts other) moved.hosts
    ∙ ap given (get_other world.hosts host.0 other.0 (Some state) apart)

-- whoever holds a state of some host after a step is that host or another
pub record Mover (host other : HostId) (state there : HostState) : Type 0 where
  pub same : other ≡ host
  pub is : there ≡ state

pub record Other (world : WorldShape) (host other : HostId) (there : HostState) : Type 0 where
  pub apart : other.0 ≢ host.0
  pub obeys : state_at world other ≡ Some there

pub either : (world after : WorldShape) (host : HostId) (old state : HostState) (flying : Flying) →
    state_at world host ≡ Some old → Moved world host state flying after → (other : HostId) (there : HostState) →
    state_at after other ≡ Some there → Mover host other state there ⊎ Other world host other there
either world after host old state flying obeys moved other there is = elim (eqb_tells other.0 host.0) [
  | inl same ↦
      let one : other ≡ host = same_id other host same.1 in
      inl (record {
        same = one;
        is = some_same (state_at after host) there state (ap (state_at after) (sym one) ∙ is)
            (mover_state world after host old state flying obeys moved);
      })
  | inr apart ↦ inr (record {
    apart = apart.1;
    obeys = sym (other_state world after host other state flying moved apart.1) ∙ is;
  })
]

-- the same hosts misbehave
pub bad_moved : (world after : WorldShape) (host : HostId) (old state : HostState) (flying : Flying) →
    state_at world host ≡ Some old → Moved world host state flying after → (other : HostId) →
    misbehaves after other ≡ misbehaves world other
bad_moved world after host old state flying obeys moved other =
    ap (λ hosts. lacks hosts other) moved.hosts ∙ absent_set world.hosts host.0 other.0 old state obeys

-- ---- what a step sends

none_sent : (label : Option ℕ) → letter_of label None ≡ None
none_sent None = refl
none_sent (Some label) = refl

silent_is : (world : WorldShape) (host : HostId) (outcome : Outcome) (state : HostState) (label : Option ℕ)
    (after : WorldShape) → without_message state ≡ outcome → after_step world host outcome label ≡ after →
    with_state world host state ≡ after
silent_is world host outcome state label after is leaves =
    sym (ap (after_sending (with_state world host state) host) (none_sent label))
    ∙ ap (λ (o : Outcome). after_step world host o label) is ∙ leaves

-- a step that sends nothing
pub moved_silent : (world : WorldShape) (host : HostId) (outcome : Outcome) (state : HostState) (label : Option ℕ)
    (after : WorldShape) → without_message state ≡ outcome → after_step world host outcome label ≡ after →
    Moved world host state world.flying after
moved_silent world host outcome state label after is leaves =
    let done = silent_is world host outcome state label after is leaves in
    record {
      hosts = ap (λ (w : WorldShape). w.hosts) (sym done);
      flying = ap (λ (w : WorldShape). w.flying) (sym done);
    }

pub silent_sent : (world : WorldShape) (host : HostId) (outcome : Outcome) (state : HostState) (label : Option ℕ)
    (after : WorldShape) → without_message state ≡ outcome → after_step world host outcome label ≡ after →
    after.sent ≡ world.sent
silent_sent world host outcome state label after is leaves =
    ap (λ (w : WorldShape). w.sent) (sym (silent_is world host outcome state label after is leaves))

pub sends_to : (world : WorldShape) (host : HostId) (outcome : Outcome) (state : HostState) (to : HostId)
    (message : Message) (labelled : Option ℕ) (label : ℕ) (bad : Bool) (after : WorldShape) →
    misbehaves (with_state world host state) to ≡ bad → labelled ≡ Some label →
    with_message state to message ≡ outcome → after_step world host outcome labelled ≡ after →
    (if bad then after_telling (with_state world host state) host (Some (to, message))
    else after_posting (with_state world host state) host (record { to = to; message = message; label = label }))
    ≡ after
sends_to world host outcome state to message labelled label bad after bad_is labels is leaves =
    let moved = with_state world host state in
    let letter : Letter = record { to = to; message = message; label = label } in
    sym (ap (λ (b : Bool). if b then after_telling moved host (Some (to, message))
    else after_posting moved host letter) bad_is)
    ∙ sym (ap (λ l. after_step world host (with_message state to message) l) labels)
    ∙ ap (λ (o : Outcome). after_step world host o labelled) is ∙ leaves

bad_with : (world : WorldShape) (host : HostId) (old state : HostState) (to : HostId) (bad : Bool) →
    state_at world host ≡ Some old → misbehaves world to ≡ bad → misbehaves (with_state world host state) to ≡ bad
bad_with world host old state to bad obeys is = absent_set world.hosts host.0 to.0 old state obeys ∙ is

-- a step that tells a misbehaving host
pub record Told (world : WorldShape) (host : HostId) (state : HostState) (to : HostId) (message : Message)
    (after : WorldShape) : Type 0 where
  pub moved : Moved world host state world.flying after
  pub sent : after.sent ≡ world.sent ++ (host, to, message) ∷ []

pub moved_told : (world : WorldShape) (host : HostId) (outcome : Outcome) (old state : HostState) (to : HostId)
    (message : Message) (labelled : Option ℕ) (label : ℕ) (after : WorldShape) → state_at world host ≡ Some old →
    misbehaves world to ≡ true → labelled ≡ Some label → with_message state to message ≡ outcome →
    after_step world host outcome labelled ≡ after → Told world host state to message after
moved_told world host outcome old state to message labelled label after obeys bad labels is leaves =
    let done =
    sends_to world host outcome state to message labelled label true after
    (bad_with world host old state to true obeys bad) labels is leaves in
    record {
      moved = record {
        hosts = ap (λ (w : WorldShape). w.hosts) (sym done);
        flying = ap (λ (w : WorldShape). w.flying) (sym done);
      };
      sent = ap (λ (w : WorldShape). w.sent) (sym done);
    }

-- a step that puts a message in flight to a host that obeys
pub record Posted (world : WorldShape) (host : HostId) (state : HostState) (to : HostId) (message : Message)
    (label : ℕ) (after : WorldShape) : Type 0 where
  pub moved : Moved world host state
      (with_flights world.flying host to (world.flying host to ++ record { message = message; label = label } ∷ []))
      after
  pub sent : after.sent ≡ world.sent

pub moved_posted : (world : WorldShape) (host : HostId) (outcome : Outcome) (old state : HostState) (to : HostId)
    (message : Message) (labelled : Option ℕ) (label : ℕ) (after : WorldShape) → state_at world host ≡ Some old →
    misbehaves world to ≡ false → labelled ≡ Some label → with_message state to message ≡ outcome →
    after_step world host outcome labelled ≡ after → Posted world host state to message label after
moved_posted world host outcome old state to message labelled label after obeys bad labels is leaves =
    let done =
    sends_to world host outcome state to message labelled label false after
    (bad_with world host old state to false obeys bad) labels is leaves in
    record {
      moved = record {
        hosts = ap (λ (w : WorldShape). w.hosts) (sym done);
        flying = ap (λ (w : WorldShape). w.flying) (sym done);
      };
      sent = ap (λ (w : WorldShape). w.sent) (sym done);
    }

-- ---- an act

telling_keeps : (world : WorldShape) (from : HostId) (sent : Option (HostId × Message)) →
    ((after_telling world from sent).hosts ≡ world.hosts) × ((after_telling world from sent).flying ≡ world.flying)
telling_keeps world from None = (refl, refl)
telling_keeps world from (Some sent) = (refl, refl)

-- the answer to an act is never in flight
pub moved_acted : (world : WorldShape) (host : HostId) (outcome : Outcome) (after : WorldShape) →
    after_telling (with_state world host outcome.state) host outcome.sent ≡ after →
    Moved world host outcome.state world.flying after
moved_acted world host outcome after leaves =
    let keeps = telling_keeps (with_state world host outcome.state) host outcome.sent in
    record {
      hosts = ap (λ (w : WorldShape). w.hosts) (sym leaves) ∙ keeps.0;
      flying = ap (λ (w : WorldShape). w.flying) (sym leaves) ∙ keeps.1;
    }
