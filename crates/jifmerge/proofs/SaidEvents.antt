-- What journals tell of a world in which at most one thing goes on: each event is said by the line that it is printed
-- as.
use Rattle.std.proofs.Common.{◌≡◌, ◌≢◌, ◌∙◌, ◌<◌, ◌≤◌, ◌^◌, ℕ, zero, suc, ℤ, List, [], ◌∷◌, length, map, refl, sym, ap}
use Rattle.std.proofs.Common.{subst}
use Rattle.std.proofs.Common.{Option, Some, None, get_or, slice_get, arith, codes, All}
use Rattle.std.specs.List.{IsDistinct, AllByRecursion}
use Rattle.std.specs.Option.{option_map}
use Rattle.std.specs.Str.{bytes_eq}
use Rattle.std.specs.Fmt.{decimal}
use Rattle.std.proofs.lemmas.List.Elements.{All-from_recursion}
use Rattle.std.proofs.lemmas.Option.{slice_get_within, get_or_from_slice_get}
use Rattle.js_base.specs.declared.ids.HostId.{HostId}
use Rattle.js_base.specs.Name.{IsName}
use Rattle.event_text.specs.declared.event.Event.{Event}
use Rattle.event_text.specs.declared.event.Event.TheVariants.{Take, Turn, Act}
use Rattle.event_text.specs.EventText.{IsSaid, event_text}
use Rattle.event_text.specs.Events.{event_of}
use Rattle.event_text.specs.Numbers.{number_of}
use Rattle.event_text.specs.Parts.{host_named}
use Rattle.event_text.specs.Words.{of_three}
use Rattle.event_text.proofs.NamesAgain.{place_again}
use Rattle.event_text.proofs.NumbersAgain.{number_again}
use Rattle.event_text.proofs.PrintedWords.{name_word, number_word, take_word, two_words_are, four_words_are}
use Rattle.host_code.specs.Code.{CodeShape, CodeHostShape}
use Rattle.host_code.specs.MessageText.{host_text}
use Rattle.host_code.specs.Sound.{IsHost, IsSoundCode}
use Rattle.host_core.specs.Host.{HostState}
use Rattle.net_world.specs.Choice.{Flies}
use Rattle.net_world.specs.Fits.{ShapeFits, HasOwnToken, FlightFits}
use Rattle.net_world.specs.Flying.{Flight}
use Rattle.net_world.specs.World.{WorldShape, IsStep, given, state_at}
use Rattle.record_merge.specs.Notes.{JournalNote, IsEventNoted, IsNotedRun}
use Rattle.record_merge.specs.Single.{Active, nothing, runs, flies, IsOnly, IsSingle}

-- ---- hosts

-- no two hosts of a code have one name
abbrev pub AreApart : CodeShape → Type 0
AreApart code = IsDistinct bytes_eq (map (λ host. host.name) code.hosts)

-- a host that is found by the name that it is printed as
record IsNamedHost (code : CodeShape) (host : HostId) : Type 0 where
  name : IsName (host_text code host)
  again : host_named code.hosts (host_text code host) ≡ Some host

found_host : (hosts : List CodeHostShape) (number : ℕ) → number < length hosts →
    (host : CodeHostShape) × (slice_get hosts number ≡ Some host)
found_host [] number within = absurd (omega (arith, within))
found_host (host ∷ hosts) zero within = (host, refl)
found_host (host ∷ hosts) (suc number) within = found_host hosts number (omega (arith, within))

host_there : (code : CodeShape) (host : HostId) → IsSoundCode code → AreApart code → IsHost code host →
    IsNamedHost code host
host_there code host sound apart within =
    let (row, there) = found_host code.hosts host.0 within in
    let named : IsName row.name = subst (λ (one : CodeHostShape). IsName one.name)
    (get_or_from_slice_get code.hosts host.0 row row there) (sound.host_names host.0 row within).0 in
    record {
      name = rw there named;
      again = rw there (ap (option_map (λ (n : ℕ). record { 0 = n }))
          (place_again (λ (one : CodeHostShape). one.name) code.hosts host.0 row apart there));
    }

-- ---- lines

turn_said : (code : CodeShape) (host : HostId) → IsNamedHost code host → IsSaid code 0 (Turn host)
turn_said code host named = (
  event_text code (Turn host),
  ap (event_of code 0) (two_words_are (codes "turn") (host_text code host) (name_word (codes "turn") refl)
      (name_word (host_text code host) named.name))
      ∙ ap (option_map Turn) named.again,
)

take_said : (code : CodeShape) (from to : HostId) (place : ℕ) → IsNamedHost code from → IsNamedHost code to →
    place < 2 ^ 64 → IsSaid code 0 (Take from to place)
take_said code from to place sender target small =
    let make : HostId → HostId → ℕ → Event = λ one other number. Take one other number in (
      event_text code (Take from to place),
      ap (event_of code 0)
          (four_words_are (codes "take") (host_text code from) (host_text code to) (decimal place) take_word
          (name_word (host_text code from) sender.name) (name_word (host_text code to) target.name)
          (number_word place small))
          ∙ ap (λ (found : Option HostId).
          of_three make found (host_named code.hosts (host_text code to)) (number_of (decimal place))) sender.again
          ∙ ap (λ (found : Option HostId). of_three make (Some from) found (number_of (decimal place))) target.again
          ∙ ap (of_three make (Some from) (Some to)) (number_again place small),
    )

-- ---- events

there_within : (world : WorldShape) (host : HostId) (state : HostState) → state_at world host ≡ Some state →
    host.0 < length world.hosts
there_within world host state is = by (slice_get world.hosts host.0) refl is
  where
    by : (found : Option (Option HostState)) → slice_get world.hosts host.0 ≡ found → given found ≡ Some state →
        host.0 < length world.hosts
    by None here is = absurd cc
    by (Some row) here is = slice_get_within world.hosts host.0 row here

-- what is in flight from a host to a host is the only message
some_flies : (world : WorldShape) (from to : HostId) (place : ℕ) (flight : Flight) →
    slice_get (world.flying from to) place ≡ Some flight → Flies world from to
some_flies world from to place flight there = λ none.
    let within = slice_get_within (world.flying from to) place flight there in
    let empty : length (world.flying from to) ≡ 0 = ap length none in
    absurd (omega (arith, within, empty))

few_fly : (world : WorldShape) (from to : HostId) (active : Active) → IsOnly world active → Flies world from to →
    length (world.flying from to) ≤ 1
few_fly world from to nothing only flying = absurd (only.1 from to flying)
few_fly world from to (runs host) only flying = absurd (only.1 from to flying)
few_fly world from to (flies sender target) only flying =
    let same = only.1.alone from to flying in
    let there : length (world.flying from to) ≡ 1 =
    ap (λ (host : HostId). length (world.flying host to)) same.0
    ∙ ap (λ (host : HostId). length (world.flying sender host)) same.1 ∙ only.1.there in
    omega (arith, there)

-- an event that happens is said
event_said : (code : CodeShape) (world after : WorldShape) (event : Event) (note : JournalNote) → IsSoundCode code →
    AreApart code → IsSingle world → ShapeFits code world → IsEventNoted code world event after note →
    IsSaid code 0 event
event_said code world after (Turn host) note sound apart single fits noted =
    let within = there_within world host noted.0.state noted.0.obeys in
    turn_said code host (host_there code host sound apart (omega (arith, within, fits.count)))
event_said code world after (Take from to place) note sound apart single fits noted =
    let step = noted.0 in
    let within = slice_get_within (world.flying from to) place step.flight step.there in
    let few = few_fly world from to single.active single.only
    (some_flies world from to place step.flight step.there) in
    let flight : FlightFits code from to (get_or (world.flying from to) place step.flight) =
    fits.mail.flying from to place step.flight within in
    take_said code from to place (host_there code from sound apart flight.sender)
    (host_there code to sound apart flight.target.0) (omega (arith, within, few))
event_said code world after (Act from to made) note sound apart single fits noted = absurd noted

pub step_of : (code : CodeShape) (world after : WorldShape) (event : Event) (note : JournalNote) →
    IsEventNoted code world event after note → IsStep code world event after × HasOwnToken world event
step_of code world after (Turn host) note noted = (noted.0, tt)
step_of code world after (Take from to place) note noted = (noted.0, tt)
step_of code world after (Act from to made) note noted = absurd noted

-- what is known of worlds in which at most one thing goes on, and of worlds of a code
pub record StepLaws : Type 0 where
  pub single : (code : CodeShape) (world after : WorldShape) (event : Event) →
      IsSingle world → IsStep code world event after → IsSingle after
  pub fits : (code : CodeShape) (world after : WorldShape) (event : Event) →
      IsSoundCode code → ShapeFits code world → HasOwnToken world event → IsStep code world event after →
      ShapeFits code after

run_said : StepLaws → (code : CodeShape) (world last : WorldShape) (events : List Event) (notes : List JournalNote) →
    IsSoundCode code → AreApart code → IsSingle world → ShapeFits code world →
    IsNotedRun code world events last notes → AllByRecursion (IsSaid code 0) events
run_said laws code world last [] notes sound apart single fits run = tt
run_said laws code world last (event ∷ events) notes sound apart single fits run =
    let next = run.0 in
    let step = step_of code world next event run.1 run.3 in (
      event_said code world next event run.1 sound apart single fits run.3,
      run_said laws code next last events run.2 sound apart (laws.single code world next event single step.0)
          (laws.fits code world next event sound fits step.1 step.0) run.4,
    )

-- events that happen are said
pub all_said : StepLaws → (code : CodeShape) (world last : WorldShape) (events : List Event)
    (notes : List JournalNote) →
    IsSoundCode code → AreApart code → IsSingle world → ShapeFits code world →
    IsNotedRun code world events last notes → All (IsSaid code 0) events
all_said laws code world last events notes sound apart single fits run =
    All-from_recursion (IsSaid code 0) events (run_said laws code world last events notes sound apart single fits run)
