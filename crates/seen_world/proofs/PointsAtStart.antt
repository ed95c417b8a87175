-- What holds of threads and entries holds before the first event, and what an event finds of its host.
use Rattle.std.proofs.Common.{◌≡◌, ◌∙◌, ℕ, zero, suc, ◌+◌, ℤ, Bool, true, false, List, [], ◌∷◌, length, arith}
use Rattle.std.proofs.Common.{Option, Some, None, refl, ap, sym, subst}
use Rattle.std.specs.Prelude.{◌==◌, if◌then◌else◌, slice_get, IfSome, IsSomeAnd, All}
use Rattle.std.specs.Int.{bit_at}
use Rattle.std.proofs.lemmas.Bool.{false≢true}
use Rattle.std.proofs.lemmas.Bool.Decides.{nat_tests}
use Rattle.std.proofs.lemmas.List.Elements.{All-nil}
use Rattle.js_base.specs.declared.ids.HostId.{HostId}
use Rattle.host_decl.specs.Hosts as declared_hosts
use Rattle.host_code.specs.declared.code.Entry.{Entry}
use Rattle.host_code.specs.Code.{CodeShape, halt, entry_at}
use Rattle.host_code.specs.Sound.{IsSoundCode}
use Rattle.host_core.specs.Host.{HostState, new_token, after_push, after_entering}
use Rattle.host_core.specs.Start.{host_at_start, idle_host, root_host, main_frame, last_token}
use Rattle.net_world.specs.Fits.{ShapeFits, IsStateOf}
use Rattle.net_world.specs.World.{WorldShape, state_at, given, hosts_before, is_absent, world_at_start}
use Rattle.split_shades.specs.Shading.{method_shade, halt_shade}
use Rattle.split_shades.specs.Shades.{MeetsShade, ahead_of}
use Rattle.seen_world.specs.Eyes.{Eyes, AreEyes, Watches, is_hidden}
use Rattle.seen_world.specs.Points.{RunsWell, WaitsWell, StandsWell, HostKeeps, HostsKeep}

-- ---- hosts

before_is : (code : CodeShape) (store : List (List ℤ)) (row : declared_hosts.HostShape) (me : HostId) (bad : Bool)
    (state : HostState) → (if bad then None else Some (host_at_start code store row.key me)) ≡ Some state →
    host_at_start code store row.key me ≡ state
before_is code store row me true state is = absurd (cc)
before_is code store row me false state is = cc

started_as : (code : CodeShape) (store : List (List ℤ)) (bad number : ℕ) (rows : List declared_hosts.HostShape) (i : ℕ)
    (me : HostId) (state : HostState) → me.0 ≡ number + i →
    given (slice_get (hosts_before code store bad number rows) i) ≡ Some state →
    (key : List ℕ) × (host_at_start code store key me ≡ state)
started_as code store bad number [] i me state at is = absurd (cc)
started_as code store bad number (row ∷ rows) zero me state at is =
    let make : ℕ → HostId = λ n. record { 0 = n } in
    let same : make number ≡ me = ap make (let n : number ≡ me.0 = omega arith in n) in (
      row.key,
      subst (λ (h : HostId). host_at_start code store row.key h ≡ state) same
          (before_is code store row (make number) (bit_at bad number == 1) state is),
    )
started_as code store bad number (row ∷ rows) (suc i) me state at is =
    started_as code store bad (number + 1) rows i me state (omega arith) is

-- a host with a state obeys
pub present_obeys : {X : Type 0} (o : Option (Option X)) (x : X) → given o ≡ Some x → is_absent o ≡ false
present_obeys None x is = absurd (cc)
present_obeys (Some None) x is = absurd (cc)
present_obeys (Some (Some y)) x is = refl

-- ---- the thread at `main`

halt_open : (eyes : Eyes) → AreEyes eyes → is_hidden eyes 0 ≡ false
halt_open eyes are = rw are.shaded.halts refl

main_runs : (eyes : Eyes) (store : List (List ℤ)) (key : List ℕ) (host : HostId) (entry : Entry) → AreEyes eyes →
    eyes.bad host ≡ false → entry.host ≡ host → entry_at eyes.code eyes.code.main ≡ Some entry →
    RunsWell eyes host (record {
      at = entry.at;
      frame = main_frame;
      new_frame = main_frame;
      temporaries = [];
      held = Some (new_token (idle_host eyes.code store key host) halt main_frame);
    })
main_runs eyes store key host entry are obeys on is =
    let main = are.begins in
    let program = eyes.scene.basis.labelled.program in
    let shade = method_shade program.main.0 main.0 in
    let there : slice_get eyes.code.entries (suc program.main.0) ≡ Some entry =
    ap (slice_get eyes.code.entries) (sym main.2) ∙ is in
    let meets : MeetsShade (ahead_of shade) (eyes.shades.at host entry.at) =
    subst (λ (h : HostId). MeetsShade (ahead_of shade) (eyes.shades.at h entry.at)) on
    (are.shaded.stands program.main.0 entry shade there (are.shaded.methods program.main.0 main.0 main.1)) in
    record {
      temps = ap length (sym meets.temps);
      frames = λ calls. refl;
      holds = (
        λ unseen. (obeys, rw meets.level tt),
        λ seen hidden. false≢true (sym (halt_open eyes are) ∙ hidden.1),
      );
    }

halt_stands : (eyes : Eyes) (store : List (List ℤ)) (key : List ℕ) (host : HostId) → AreEyes eyes →
    IsSomeAnd (entry_at eyes.code halt) (λ there. there.host ≡ host) →
    StandsWell eyes host (record {
      token = new_token (idle_host eyes.code store key host) halt main_frame;
      entry = halt;
      frame = main_frame;
      kept = last_token host;
    })
halt_stands eyes store key host are on = record {
  shade = halt_shade eyes.scene.basis.labelled.program;
  is = are.shaded.halts;
  token_host = refl;
  token_entry = refl;
  on_host = on;
  block = λ shown other. absurd (other refl);
  kept = λ other. absurd (other refl);
  open_kept = λ shown hidden. false≢true (sym (halt_open eyes are) ∙ hidden.1);
}

-- ---- each host

one_entry : {X : Type 0} (P : X → Type 0) (x : X) → P x → All P (x ∷ [])
one_entry P x holds zero d lt = holds
one_entry P x holds (suc k) d lt = absurd (omega arith)

root_keeps : (eyes : Eyes) (store : List (List ℤ)) (key : List ℕ) (host : HostId) (found : Option Entry) →
    AreEyes eyes → eyes.bad host ≡ false → entry_at eyes.code eyes.code.main ≡ found →
    IsSomeAnd found (λ there. there.host ≡ host) →
    IsSomeAnd (entry_at eyes.code halt) (λ there. there.host ≡ host) →
    let idle = idle_host eyes.code store key host in
    HostKeeps eyes host (after_entering (after_push idle halt main_frame (last_token host)) found main_frame
    (new_token idle halt main_frame))
root_keeps eyes store key host None are obeys is on halts = absurd on
root_keeps eyes store key host (Some entry) are obeys is on halts = record {
  running = main_runs eyes store key host entry are obeys on is;
  waiting = All-nil (WaitsWell eyes host);
  entries = one_entry (StandsWell eyes host) _ (halt_stands eyes store key host are halts);
}

host_keeps : (eyes : Eyes) (store : List (List ℤ)) (key : List ℕ) (host : HostId) (root : Bool) → AreEyes eyes →
    IsSoundCode eyes.code → eyes.bad host ≡ false → (host.0 == eyes.code.root.0) ≡ root →
    HostKeeps eyes host (if root then root_host eyes.code (idle_host eyes.code store key host)
    else idle_host eyes.code store key host)
host_keeps eyes store key host true are sound obeys at =
    let make : ℕ → HostId = λ n. record { 0 = n } in
    let number : eyes.code.root.0 ≡ host.0 = grind (arith, nat_tests) in
    let same : eyes.code.root ≡ host = ap make number in
    let main : IsSomeAnd (entry_at eyes.code eyes.code.main) (λ there. there.host ≡ host) =
    subst (λ (h : HostId). IsSomeAnd (entry_at eyes.code eyes.code.main) (λ there. there.host ≡ h)) same sound.main in
    root_keeps eyes store key host (entry_at eyes.code eyes.code.main) are obeys refl main
    (first_of (entry_at eyes.code halt) host same sound.halt_first)
  where
    first_of : (found : Option Entry) (host : HostId) → eyes.code.root ≡ host →
        IsSomeAnd found (λ there. (there.host ≡ eyes.code.root) × (there.at ≡ 0)) →
        IsSomeAnd found (λ there. there.host ≡ host)
    first_of None host same on = absurd on
    first_of (Some there) host same on = on.0 ∙ same
host_keeps eyes store key host false are sound obeys at =
    record { running = tt; waiting = All-nil (WaitsWell eyes host); entries = All-nil (StandsWell eyes host) }

pub starts_keep : (eyes : Eyes) (rows : List declared_hosts.HostShape) (bad : ℕ) (store : List (List ℤ)) →
    AreEyes eyes → IsSoundCode eyes.code → Watches eyes (world_at_start eyes.code rows bad store) →
    HostsKeep eyes (world_at_start eyes.code rows bad store)
starts_keep eyes rows bad store are sound watch host state is =
    let begun = started_as eyes.code store bad 0 rows host.0 host state (omega arith) is in
    let obeys : eyes.bad host ≡ false =
    sym (watch host) ∙ present_obeys (slice_get (hosts_before eyes.code store bad 0 rows) host.0) state is in
    subst (HostKeeps eyes host) begun.1
    (host_keeps eyes store begun.0 host (host.0 == eyes.code.root.0) are sound obeys refl)

-- ---- the host of an event

-- it obeys, and its state keeps what holds of hosts
pub record Own (eyes : Eyes) (world : WorldShape) (host : HostId) (state : HostState) : Type 0 where
  pub fit : IsStateOf eyes.code host state
  pub obeys : eyes.bad state.me ≡ false
  pub keeps : HostKeeps eyes state.me state

pub own_state : (eyes : Eyes) (world : WorldShape) (host : HostId) (state : HostState) → Watches eyes world →
    ShapeFits eyes.code world → HostsKeep eyes world → state_at world host ≡ Some state → Own eyes world host state
own_state eyes world host state watch fits keep there =
    let fit : IsStateOf eyes.code host state =
    subst (λ one. IfSome one (IsStateOf eyes.code host)) there (fits.states host) in
    let obeys : eyes.bad host ≡ false = sym (watch host) ∙ present_obeys (slice_get world.hosts host.0) state there in
    record {
      fit = fit;
      obeys = ap eyes.bad fit.me ∙ obeys;
      keeps = subst (λ (me : HostId). HostKeeps eyes me state) (sym fit.me) (keep host state there);
    }
