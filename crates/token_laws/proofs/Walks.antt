-- What each event keeps holds in every world that events lead to.
use Rattle.std.proofs.Common.{ap, ◌∙◌, refl, ◌≡◌, ℕ, suc, ℤ, List, [], ◌∷◌, get_or, sym, subst, arith}
use Rattle.std.specs.Prelude.{⊤, ◌++◌, ◌+◌, ◌<◌, ◌==◌, zero, Bool, true, false, Some, None, if◌then◌else◌, length}
use Rattle.std.specs.Prelude.{slice_get}
use Rattle.std.specs.Prelude.{All}
use Rattle.std.specs.Int.{bit_at}
use Rattle.std.proofs.lemmas.List.{length-map}
use Rattle.std.proofs.lemmas.List.Elements.{All-push}
use Rattle.js_base.specs.declared.ids.HostId.{HostId}
use Rattle.host_decl.specs.Hosts as declared_hosts
use Rattle.event_text.specs.declared.event.Event.{Event}
use Rattle.host_code.specs.Code.{CodeShape}
use Rattle.host_code.specs.Sound.{IsHost, IsSoundCode}
use Rattle.host_core.specs.Start.{host_at_start}
use Rattle.net_world.specs.Fits.{ShapeFits, HasOwnToken}
use Rattle.net_world.specs.World.{WorldShape, IsStep, IsRun, is_absent, misbehaves, named_host, hosts_before}
use Rattle.net_world.specs.World.{world_at_start}
use Rattle.net_world.proofs.Shapes.{shape_at_start, shape_step, own_kept}
use Rattle.net_world.proofs.StepLaws.{same_misbehave, joined}
use Rattle.token_laws.specs.Reached.{IsReached}

-- ---- along events

-- each event for which something holds keeps the property, in worlds that fit the code
abbrev pub IsKept : CodeShape → (Event → Type 0) → (WorldShape → Type 0) → Type 0
IsKept code Q P = (world after : WorldShape) (event : Event) → ShapeFits code world → HasOwnToken world event →
    Q event → IsStep code world event after → P world → P after

walk : (code : CodeShape) (Q : Event → Type 0) (P : WorldShape → Type 0) → IsSoundCode code → IsKept code Q P →
    (events : List Event) (world after : WorldShape) → ShapeFits code world → All (HasOwnToken world) events →
    All Q events → P world → IsRun code world events after → ShapeFits code after × P after
walk code Q P sound kept [] world after fits own each holds ran = subst (λ w. ShapeFits code w × P w) ran (fits, holds)
walk code Q P sound kept (event ∷ events) world after fits own each holds ran =
    let first = own 0 event (omega arith) in
    walk code Q P sound kept events ran.0 after (shape_step code world ran.0 event sound fits first ran.1)
    (λ k d lt. own_kept world ran.0 (get_or events k d)
    (λ host. same_misbehave code world ran.0 event host ran.1) (own (suc k) d (omega arith)))
    (λ k d lt. each (suc k) d (omega arith))
    (kept world ran.0 event fits first (each 0 event (omega arith)) ran.1 holds) ran.2

pub reached : (code : CodeShape) (rows : List declared_hosts.HostShape) (bad : ℕ) (store : List (List ℤ))
    (events : List Event) (world : WorldShape) (Q : Event → Type 0) (P : WorldShape → Type 0) →
    IsReached code rows bad store events world → All Q events → IsKept code Q P →
    P (world_at_start code rows bad store) → ShapeFits code world × P world
reached code rows bad store events world Q P reach each kept start =
    walk code Q P reach.sound kept events (world_at_start code rows bad store) world
    (shape_at_start code rows bad store reach.sound reach.hosts) reach.own each start reach.ran

-- ---- reached worlds

pub same_bad : (code : CodeShape) (rows : List declared_hosts.HostShape) (bad : ℕ) (store : List (List ℤ))
    (events : List Event) (world : WorldShape) → IsReached code rows bad store events world → (host : HostId) →
    misbehaves world host ≡ misbehaves (world_at_start code rows bad store) host
same_bad code rows bad store events world reach =
    let start = world_at_start code rows bad store in
    (reached code rows bad store events world (λ event. ⊤)
    (λ w. (host : HostId) → misbehaves w host ≡ misbehaves start host) reach (λ k d lt. tt)
    (λ w after event fits own q step same host. same_misbehave code w after event host step ∙ same host)
    (λ host. refl)).1

absent_if : (code : CodeShape) (store : List (List ℤ)) (me : HostId) (row : declared_hosts.HostShape) (b : Bool) →
    is_absent (Some (if b then None else Some (host_at_start code store row.key me))) ≡ b
absent_if code store me row true = refl
absent_if code store me row false = refl

bad_before : (code : CodeShape) (store : List (List ℤ)) (bad number : ℕ) (rows : List declared_hosts.HostShape)
    (place at : ℕ) → place < length rows → at ≡ number + place →
    is_absent (slice_get (hosts_before code store bad number rows) place) ≡ (bit_at bad at == 1)
bad_before code store bad number [] place at within is = absurd (omega arith)
bad_before code store bad number (row ∷ rows) zero at within is =
    let same : number ≡ at = omega arith in
    absent_if code store (record { 0 = number }) row (bit_at bad number == 1)
    ∙ ap (λ (n : ℕ). bit_at bad n == 1) same
bad_before code store bad number (row ∷ rows) (suc place) at within is =
    bad_before code store bad (number + 1) rows place at (omega arith) (omega arith)

pub bad_by_word : (code : CodeShape) (rows : List declared_hosts.HostShape) (bad : ℕ) (store : List (List ℤ))
    (events : List Event) (world : WorldShape) (host : HostId) → IsReached code rows bad store events world →
    IsHost code host → misbehaves world host ≡ (bit_at bad host.0 == 1)
bad_by_word code rows bad store events world host reach is_host =
    same_bad code rows bad store events world reach host
    ∙ bad_before code store bad 0 rows host.0 host.0
    (subst (λ (n : ℕ). host.0 < n) (sym (ap length reach.hosts) ∙ length-map rows named_host) is_host) (omega arith)

pub own_there : (code : CodeShape) (rows : List declared_hosts.HostShape) (bad : ℕ) (store : List (List ℤ))
    (events : List Event) (world : WorldShape) (event : Event) → IsReached code rows bad store events world →
    HasOwnToken (world_at_start code rows bad store) event → HasOwnToken world event
own_there code rows bad store events world event reach own =
    own_kept (world_at_start code rows bad store) world event (same_bad code rows bad store events world reach) own

pub one_more : (code : CodeShape) (rows : List declared_hosts.HostShape) (bad : ℕ) (store : List (List ℤ))
    (events : List Event) (world after : WorldShape) (event : Event) → IsReached code rows bad store events world →
    HasOwnToken (world_at_start code rows bad store) event → IsStep code world event after →
    IsReached code rows bad store (events ++ event ∷ []) after
one_more code rows bad store events world after event reach own step =
    let start = world_at_start code rows bad store in
    record {
      sound = reach.sound;
      hosts = reach.hosts;
      own = All-push (HasOwnToken start) events event reach.own own;
      ran = joined code start world after events (event ∷ []) reach.ran (after, step, refl);
    }

pub fits_there : (code : CodeShape) (rows : List declared_hosts.HostShape) (bad : ℕ) (store : List (List ℤ))
    (events : List Event) (world : WorldShape) → IsReached code rows bad store events world → ShapeFits code world
fits_there code rows bad store events world reach =
    (reached code rows bad store events world (λ event. ⊤) (λ w. ⊤) reach (λ k d lt. tt)
    (λ w after event fits own q step p. tt) tt).0
