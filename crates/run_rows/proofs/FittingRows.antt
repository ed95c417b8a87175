-- What an event was names what is there.
use Rattle.std.proofs.Common.{◌≡◌, ℕ, zero, suc, ◌<◌, List, [], ◌∷◌, length, Option, Some, None, subst, sym, refl}
use Rattle.std.proofs.Common.{arith}
use Rattle.std.specs.Prelude.{All, IfSome, IsSome, IsSomeAnd, slice_get}
use Rattle.js_base.specs.declared.ids.HostId.{HostId}
use Rattle.host_code.specs.Code.{CodeShape, part_of, instruction_at}
use Rattle.host_core.specs.Host.{HostState}
use Rattle.host_core.specs.Fits.{RunningFits}
use Rattle.host_code.specs.Thread.{ThreadShape}
use Rattle.event_text.specs.declared.event.Event.{Event}
use Rattle.event_text.specs.declared.event.Event.TheVariants.{Take, Turn, Act}
use Rattle.net_world.specs.Fits.{ShapeFits, FlightFits, IsStateOf}
use Rattle.net_world.specs.World.{WorldShape, state_at}
use Rattle.run_rows.specs.declared.row.What.{What}
use Rattle.run_rows.specs.Rows.{IsWhat, WhatFits}
use Rattle.run_rows.proofs.Postings.{all_there}

some_there : {X : Type 0} (found : Option X) (P : X → Type 0) → IsSomeAnd found P →
    (x : X) × (found ≡ Some x) × P x
some_there None P is = absurd is
some_there (Some x) P is = (x, refl, is)

is_there : {X : Type 0} (xs : List X) (i : ℕ) → i < length xs → IsSome (slice_get xs i)
is_there [] i lt = absurd (omega arith)
is_there (x ∷ xs) zero lt = refl
is_there (x ∷ xs) (suc i) lt = is_there xs i (omega arith)

pub what_fits : (code : CodeShape) (world : WorldShape) (event : Event) (found : What) → ShapeFits code world →
    IsWhat world event found → WhatFits code found
what_fits code world (Turn host) found fits is =
    let state = some_there (state_at world host) _ is in
    let thread = some_there state.0.running _ state.2 in
    let own : IsStateOf code host state.0 =
    subst (λ (o : Option HostState). IfSome o (IsStateOf code host)) state.1 (fits.states host) in
    let runs : RunningFits code state.0.me thread.0 =
    subst (λ (o : Option ThreadShape). IfSome o (RunningFits code state.0.me)) thread.1 own.fits.running in
    let there : IsSome (instruction_at code state.0.me thread.0.at) =
    is_there (part_of code state.0.me) thread.0.at runs.place in
    subst (WhatFits code) (sym thread.2)
    (subst (λ (h : HostId). IsSome (instruction_at code h thread.0.at)) own.me there)
what_fits code world (Take from to place) found fits is =
    let flight = some_there (slice_get (world.flying from to) place) _ is in
    let its : FlightFits code from to flight.0 =
    all_there (FlightFits code from to) (world.flying from to) place flight.0 (fits.mail.flying from to) flight.1 in
    subst (WhatFits code) (sym flight.2) its.message
what_fits code world (Act from to made) found fits is = subst (WhatFits code) (sym is) tt

pub single : {X : Type 0} (P : X → Type 0) (x : X) → P x → All P (x ∷ [])
single P x holds zero d lt = holds
single P x holds (suc k) d lt = absurd (omega (arith, lt))
