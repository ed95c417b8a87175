-- Which labels and events of a world may be seen, and that split code has a test of them.
use Rattle.std.proofs.Common.{◌≡◌, ◌∙◌, ℕ, Bool, true, false, Option, Some, None, inl, inr, refl, sym, subst}
use Rattle.std.specs.Prelude.{◌↔◌, IsTrue, IsSomeAnd, slice_get}
use Rattle.std.proofs.lemmas.Bool.{cases_Bool, false≢true}
use Rattle.js_base.specs.declared.ids.HostId.{HostId}
use Rattle.label_lattice.specs.declared.label.Label.{Label}
use Rattle.host_code.specs.declared.instruction.Instr.{Instr}
use Rattle.host_code.specs.Code.{instruction_at}
use Rattle.host_code.specs.Thread.{ThreadShape}
use Rattle.host_core.specs.Host.{HostState}
use Rattle.host_core.specs.Turn.{label_of_turn}
use Rattle.event_text.specs.declared.event.Event.TheVariants.{Take, Turn}
use Rattle.entry_check.specs.Checks.{MaySee, label_at, label_of_host}
use Rattle.net_world.specs.Flying.{Flight}
use Rattle.net_world.specs.Secret.{IsReadable, IsSecret}
use Rattle.net_world.specs.World.{WorldShape, state_at}
use Rattle.split_rules.specs.Placed.{PlacedProgram}
use Rattle.split_rules.specs.Allowed.{IsAllowed}
use Rattle.split_rules.specs.Held.{IsWellHeld}
use Rattle.split_rules.specs.SplitCode.{split_code}
use Rattle.split_rules.specs.Splittable.{IsSplittable}
use Rattle.split_rules.proofs.AskingSplit.{split_is_granted}
use Rattle.split_shades.specs.Flows.{AreResultsLabelled}
use Rattle.split_shades.specs.ShadedCode.{Shades}
use Rattle.split_shades.specs.Sites.{ReleasesNothing, scene_of}
use Rattle.split_shades.proofs.KnownCode.{split_is_known}
use Rattle.split_shades.proofs.ShadedSplit.{split_is_shaded}
use Rattle.seen_world.specs.Eyes.{Eyes, AreEyes, Watches, sees_at, is_open}
use Rattle.seen_world.proofs.SeeingHosts.{has_eyes}

pub split_has_eyes : (placed : PlacedProgram) (may_release : Bool) (bad : HostId → Bool) → IsSplittable placed →
    IsAllowed placed → IsWellHeld placed → AreResultsLabelled placed.labelled.program →
    (may_release ≡ false → ReleasesNothing placed.labelled.program) → (shades : Shades) × (sees : Label → Bool)
    × AreEyes (record {
      scene = scene_of placed may_release;
      code = split_code placed;
      shades = shades;
      bad = bad;
      sees = sees;
    })
split_has_eyes placed may_release bad splittable allowed held results releases =
    let shaded = split_is_shaded placed may_release splittable allowed held results releases in
    let eyes = has_eyes (scene_of placed may_release) (split_code placed)
    shaded.0 bad shaded.1 (split_is_known placed splittable allowed held)
    (split_is_granted placed splittable allowed held)
    (splittable.numbered.main.0, splittable.numbered.main.1, refl) in
    (shaded.0, eyes.0, eyes.1)

-- ---- labels

found_read : (eyes : Eyes) (world : WorldShape) (number : ℕ) (label : Option Label) → AreEyes eyes →
    Watches eyes world → label_at eyes.code number ≡ label → IsTrue (sees_at eyes number) →
    IsReadable eyes.code world number
found_read eyes world number None are watch is seen =
    let hidden : sees_at eyes number ≡ false = rw is refl in
    absurd (false≢true (sym hidden ∙ seen))
found_read eyes world number (Some label) are watch is seen =
    let same : sees_at eyes number ≡ eyes.sees label = rw is refl in
    let sees : eyes.sees label ≡ true = sym same ∙ seen in
    let some = are.exact label sees in
    let P : Option Label → Type 0 = λ found. MaySee found (label_of_host eyes.code some.0) in
    (some.0, (watch some.0 ∙ some.1, subst P (sym is) some.2))

read_found : (eyes : Eyes) (world : WorldShape) (number : ℕ) (label : Option Label) → AreEyes eyes →
    Watches eyes world → label_at eyes.code number ≡ label → IsReadable eyes.code world number →
    IsTrue (sees_at eyes number)
read_found eyes world number None are watch is read =
    let P : Option Label → Type 0 = λ found. MaySee found (label_of_host eyes.code read.0) in
    absurd (subst P is read.1.1)
read_found eyes world number (Some label) are watch is read =
    let P : Option Label → Type 0 = λ found. MaySee found (label_of_host eyes.code read.0) in
    let seen : eyes.sees label ≡ true =
    are.host read.0 label (sym (watch read.0) ∙ read.1.0) (subst P is read.1.1) in
    rw is seen

pub label_read : (eyes : Eyes) (world : WorldShape) (label : ℕ) → AreEyes eyes → Watches eyes world →
    (IsTrue (sees_at eyes label) ↔ IsReadable eyes.code world label)
label_read eyes world label are watch = (
  found_read eyes world label (label_at eyes.code label) are watch refl,
  read_found eyes world label (label_at eyes.code label) are watch refl,
)

unread : (eyes : Eyes) (world : WorldShape) (label : ℕ) → AreEyes eyes → Watches eyes world →
    ((sees_at eyes label ≡ false) ↔ (¬ IsReadable eyes.code world label))
unread eyes world label are watch = (
  λ hidden read. false≢true (sym hidden ∙ (label_read eyes world label are watch).1 read),
  λ none. elim (cases_Bool (sees_at eyes label)) [
    | inl seen ↦ absurd (none ((label_read eyes world label are watch).0 seen))
    | inr hidden ↦ hidden
  ],
)

-- ---- events

some_and : {X : Type 0} (P : X → Type 0) (o : Option X) (x : X) → o ≡ Some x → P x ↔ IsSomeAnd o P
some_and P o x is = (
  λ holds. subst (λ one. IsSomeAnd one P) (sym is) holds,
  λ holds. subst (λ one. IsSomeAnd one P) is holds,
)

pub take_secret : (eyes : Eyes) (world : WorldShape) (from to : HostId) (place : ℕ) (flight : Flight) →
    AreEyes eyes → Watches eyes world → slice_get (world.flying from to) place ≡ Some flight →
    ((sees_at eyes flight.label ≡ false) ↔ IsSecret eyes.code world (Take from to place))
take_secret eyes world from to place flight are watch is =
    let P : Flight → Type 0 = λ one. ¬ IsReadable eyes.code world one.label in
    let both = some_and P (slice_get (world.flying from to) place) flight is in
    let hidden = unread eyes world flight.label are watch in
    (λ unseen. both.0 (hidden.0 unseen), λ secret. hidden.1 (both.1 secret))

pub turn_secret : (eyes : Eyes) (world : WorldShape) (host : HostId) (state : HostState) (thread : ThreadShape)
    (there : Instr) → AreEyes eyes → Watches eyes world → state_at world host ≡ Some state → state.me ≡ host →
    state.running ≡ Some thread → instruction_at eyes.code host thread.at ≡ Some there →
    ((is_open eyes host thread.at ≡ false) ↔ IsSecret eyes.code world (Turn host))
turn_secret eyes world host state thread there are watch obeys me runs is =
    let label_is : label_of_turn eyes.code state ≡ Some there.label = rw (me, runs, is) refl in
    let same : sees_at eyes there.label ≡ is_open eyes host thread.at =
    rw (are.shaded.instructions host thread.at there is).label_is refl in
    let P : ℕ → Type 0 = λ label. ¬ IsReadable eyes.code world label in
    let Q : HostState → Type 0 = λ one. IsSomeAnd (label_of_turn eyes.code one) P in
    let both = some_and Q (state_at world host) state obeys in
    let own = some_and P (label_of_turn eyes.code state) there.label label_is in
    let hidden = unread eyes world there.label are watch in (
      λ unseen. both.0 (own.0 (hidden.0 (same ∙ unseen))),
      λ secret. sym same ∙ hidden.1 (own.1 (both.1 secret)),
    )
