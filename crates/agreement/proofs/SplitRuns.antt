-- Two runs of a program, split by a plan, that release the same as far as both go tell misbehaving hosts the same, and
-- so do two of one that releases nothing.
use Rattle.std.proofs.Common.{◌≡◌, ◌∙◌, ℕ, zero, suc, ◌+◌, Bool, true, false, List, [], ◌∷◌, ◌++◌, Some, None, refl}
use Rattle.std.proofs.Common.{inl, true≢false}
use Rattle.std.specs.Prelude.{ℤ, ◌==◌, if◌then◌else◌, All, slice_get}
use Rattle.std.specs.Int.{bit_at}
use Rattle.host_decl.specs.Hosts as declared_hosts
use Rattle.host_code.specs.Code.{CodeShape}
use Rattle.host_core.specs.Start.{host_at_start}
use Rattle.event_text.specs.declared.event.Event.{Event}
use Rattle.net_world.specs.Fits.{HasOwnToken}
use Rattle.net_world.specs.Released.{OneIsFront, AreReleased}
use Rattle.net_world.specs.Secret.{IsSeenRun, IsPrompt}
use Rattle.net_world.specs.Told.{SentMessage}
use Rattle.net_world.specs.World.{WorldShape, is_absent, misbehaves, hosts_before, world_at_start}
use Rattle.split_rules.specs.Placed.{PlacedProgram}
use Rattle.split_rules.specs.Allowed.{IsAllowed}
use Rattle.split_rules.specs.Held.{IsWellHeld}
use Rattle.split_rules.specs.Releases.{releases_of}
use Rattle.split_rules.specs.SplitCode.{split_code}
use Rattle.split_rules.specs.Splittable.{IsSplittable}
use Rattle.split_rules.proofs.AskingSplit.{split_is_granted}
use Rattle.split_rules.proofs.SoundSplit.{split_is_sound}
use Rattle.split_shades.specs.Flows.{AreResultsLabelled}
use Rattle.split_shades.specs.Sites.{ReleasesNothing, scene_of}
use Rattle.split_shades.proofs.KnownCode.{split_is_known}
use Rattle.split_shades.proofs.ShadedSplit.{split_is_tabled, split_is_untold}
use Rattle.seen_world.specs.Eyes.{Eyes, AreEyes, Watches}
use Rattle.seen_world.proofs.SeeingHosts.{has_eyes}
use Rattle.seen_world.proofs.SeenWorlds.{label_read}
use Rattle.agreement.specs.Alike.{AreStartsAlike, AreStoresAlike}
use Rattle.agreement.proofs.ReleasedRuns.{no_releases}
use Rattle.agreement.proofs.RunsAgree.{told_alike}

-- ---- who misbehaves at the start

-- the starting values play no part
pub same_absent : (code : CodeShape) (store start : List (List ℤ)) (bad number : ℕ)
    (rows : List declared_hosts.HostShape)
    (place : ℕ) →
    is_absent (slice_get (hosts_before code start bad number rows) place)
    ≡ is_absent (slice_get (hosts_before code store bad number rows) place)
same_absent code store start bad number [] place = refl
same_absent code store start bad number (row ∷ rows) zero = by (bit_at bad number == 1)
  where
    by : (b : Bool) →
        is_absent (Some (if b then None else Some (host_at_start code start row.key (record { 0 = number }))))
        ≡ is_absent (Some (if b then None else Some (host_at_start code store row.key (record { 0 = number }))))
    by true = refl
    by false = refl
same_absent code store start bad number (row ∷ rows) (suc place) =
    same_absent code store start bad (number + 1) rows place

-- ---- stores

stores_alike : (eyes : Eyes) (world : WorldShape) (store start : List (List ℤ)) → AreEyes eyes → Watches eyes world →
    AreStoresAlike eyes.code world store start → AreStartsAlike eyes store start
stores_alike eyes world store start are watch alike field there is seen obeys =
    alike field there is ((label_read eyes world there.label are watch).0 seen) (watch there.host ∙ obeys)

-- ---- programs

-- by their table of releases
pub split_released : (placed : PlacedProgram) (bad : ℕ) (store start : List (List ℤ))
    (events others seen more : List Event) (one other : WorldShape) (values others_values : List ℤ) →
    IsSplittable placed → IsAllowed placed → IsWellHeld placed →
    AreResultsLabelled placed.labelled.program →
    AreStoresAlike (split_code placed)
    (world_at_start (split_code placed) placed.hosts.hosts bad store) store start →
    AreReleased (split_code placed) (releases_of placed)
    (world_at_start (split_code placed) placed.hosts.hosts bad store) events values →
    AreReleased (split_code placed) (releases_of placed)
    (world_at_start (split_code placed) placed.hosts.hosts bad start) others others_values →
    OneIsFront values others_values →
    All (HasOwnToken (world_at_start (split_code placed) placed.hosts.hosts bad store)) seen →
    IsSeenRun (split_code placed)
    (world_at_start (split_code placed) placed.hosts.hosts bad store) events (seen ++ more) one →
    IsSeenRun (split_code placed)
    (world_at_start (split_code placed) placed.hosts.hosts bad start) others seen other →
    IsPrompt (split_code placed)
    (world_at_start (split_code placed) placed.hosts.hosts bad store) events →
    IsPrompt (split_code placed)
    (world_at_start (split_code placed) placed.hosts.hosts bad start) others →
    (rest : List SentMessage) × (one.sent ≡ other.sent ++ rest)
split_released placed bad store start events others seen more one other values others_values splittable allowed held
    results alike released released_other values_alike own ran ran_other prompt prompt_other =
    let code = split_code placed in
    let first = world_at_start code placed.hosts.hosts bad store in
    let tabled = split_is_tabled placed true splittable allowed held results (λ never. absurd (true≢false never)) in
    let have = has_eyes (scene_of placed true) code tabled.0 (misbehaves first) tabled.1
    (split_is_known placed splittable allowed held) (split_is_granted placed splittable allowed held)
    (splittable.numbered.main.0, splittable.numbered.main.1, refl) in
    let eyes : Eyes = record {
      scene = scene_of placed true;
      code = code;
      shades = tabled.0;
      bad = misbehaves first;
      sees = have.0;
    } in
    told_alike eyes placed.hosts.hosts bad store start events others seen more one other (releases_of placed) values
    others_values have.1 (split_is_sound placed splittable) refl tabled.2 (λ host. refl)
    (λ host. same_absent code store start bad 0 placed.hosts.hosts host.0)
    (stores_alike eyes first store start have.1 (λ host. refl) alike) released released_other values_alike own ran
    ran_other prompt prompt_other

-- a run of a program that releases nothing releases no value
pub split_releases_none : (placed : PlacedProgram) (world after : WorldShape) (events seen : List Event) →
    IsSplittable placed → IsAllowed placed → IsWellHeld placed →
    AreResultsLabelled placed.labelled.program → ReleasesNothing placed.labelled.program →
    IsSeenRun (split_code placed) world events seen after →
    AreReleased (split_code placed) (releases_of placed) world events []
split_releases_none placed world after events seen splittable allowed held results nothing ran =
    no_releases (split_code placed) (releases_of placed)
    (split_is_untold placed splittable allowed held results nothing) world events seen after ran

pub split_tells : (placed : PlacedProgram) (bad : ℕ) (store start : List (List ℤ))
    (events others seen more : List Event) (one other : WorldShape) →
    IsSplittable placed → IsAllowed placed → IsWellHeld placed →
    AreResultsLabelled placed.labelled.program → ReleasesNothing placed.labelled.program →
    AreStoresAlike (split_code placed)
    (world_at_start (split_code placed) placed.hosts.hosts bad store) store start →
    All (HasOwnToken (world_at_start (split_code placed) placed.hosts.hosts bad store)) seen →
    IsSeenRun (split_code placed)
    (world_at_start (split_code placed) placed.hosts.hosts bad store) events (seen ++ more) one →
    IsSeenRun (split_code placed)
    (world_at_start (split_code placed) placed.hosts.hosts bad start) others seen other →
    IsPrompt (split_code placed)
    (world_at_start (split_code placed) placed.hosts.hosts bad store) events →
    IsPrompt (split_code placed)
    (world_at_start (split_code placed) placed.hosts.hosts bad start) others →
    (rest : List SentMessage) × (one.sent ≡ other.sent ++ rest)
split_tells placed bad store start events others seen more one other splittable allowed held results
    nothing alike own ran ran_other prompt prompt_other =
    let code = split_code placed in
    let first = world_at_start code placed.hosts.hosts bad store in
    let second = world_at_start code placed.hosts.hosts bad start in
    split_released placed bad store start events others seen more one other [] [] splittable allowed held results alike
    (split_releases_none placed first one events (seen ++ more) splittable allowed held results nothing ran)
    (split_releases_none placed second other others seen splittable allowed held results nothing ran_other)
    (inl ([], refl)) own ran ran_other prompt prompt_other
