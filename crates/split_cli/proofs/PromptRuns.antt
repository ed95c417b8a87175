-- A run that was followed, with none of its events untimely, is a run of which events are seen, each in a quiet world.
use Rattle.std.proofs.Common.{◌≡◌, ℕ, List, [], ◌∷◌, Some, None, refl, sym, ap, subst, inl, inr}
use Rattle.std.specs.Prelude.{◌⊎◌, All}
use Rattle.std.proofs.lemmas.List.Elements.{All-nil, All-cons, All-head, All-tail}
use Rattle.event_text.specs.declared.event.Event.{Event}
use Rattle.host_code.specs.Code.{CodeShape}
use Rattle.net_world.specs.Secret.{IsSecret, IsQuiet, IsSeenRun, IsPrompt}
use Rattle.net_world.specs.World.{WorldShape, IsRun}
use Rattle.run_comparison.specs.Followed.{Followed, IsTraceKept, hidden, prompt, untimely, IsFollowed}
use Rattle.net_world.specs.Replay.{events_in}
use Rattle.script_stages.proofs.OneScript.{OneStep}

-- ---- what is seen

-- what is seen from one event on, by what is seen behind it
abbrev IsSeenFrom : CodeShape → (world next : WorldShape) → Event → List Event → List Event → WorldShape → Type 0
IsSeenFrom code world next event events seen after =
    (IsSecret code world event × IsSeenRun code next events seen after)
    ⊎ ((¬ IsSecret code world event)
    × ((others : List Event) × (seen ≡ event ∷ others) × IsSeenRun code next events others after))

seen_from : (code : CodeShape) (world next : WorldShape) (one : ℕ × Event) (said : List (ℕ × Event))
    (rest run : Followed) → IsTraceKept code world one rest run →
    IsSeenRun code next (events_in said) (events_in rest.seen) rest.last →
    IsSeenFrom code world next one.1 (events_in said) (events_in run.seen) run.last
seen_from code world next one said rest _ (hidden is) ran = inl (is, ran)
seen_from code world next one said rest _ (prompt not quiet) ran = inr (not, (events_in rest.seen, refl, ran))
seen_from code world next one said rest _ (untimely not loud) ran = inr (not, (events_in rest.seen, refl, ran))

pub followed_seen : (code : CodeShape) (world : WorldShape) (said : List (ℕ × Event)) (run : Followed) →
    IsFollowed code world said run → IsSeenRun code world (events_in said) (events_in run.seen) run.last
followed_seen code world [] run is =
    (ap (λ (r : Followed). events_in r.seen) is, ap (λ (r : Followed). r.last) (sym is))
followed_seen code world (one ∷ said) run (next, rest, step, follows, kept) =
    (next, step, seen_from code world next one said rest run kept (followed_seen code next said rest follows))

kept_last : (code : CodeShape) (world : WorldShape) (one : ℕ × Event) (rest run : Followed) →
    IsTraceKept code world one rest run → rest.last ≡ run.last
kept_last code world one rest _ (hidden is) = refl
kept_last code world one rest _ (prompt not quiet) = refl
kept_last code world one rest _ (untimely not loud) = refl

-- all events happen
pub followed_runs : (code : CodeShape) (world : WorldShape) (said : List (ℕ × Event)) (run : Followed) →
    IsFollowed code world said run → IsRun code world (events_in said) run.last
followed_runs code world [] run is = ap (λ (r : Followed). r.last) (sym is)
followed_runs code world (one ∷ said) run (next, rest, step, follows, kept) = (
  next,
  step,
  subst (λ (w : WorldShape). IsRun code next (events_in said) w) (kept_last code world one rest run kept)
      (followed_runs code next said rest follows),
)

-- what holds of all events holds of those that are seen
pub all_seen : (P : Event → Type 0) (code : CodeShape) (events seen : List Event) (world last : WorldShape) →
    IsSeenRun code world events seen last → All P events → All P seen
all_seen P code [] seen world last ran all = subst (All P) (sym ran.0) (All-nil P)
all_seen P code (event ∷ events) seen world last (next, step, inl hides) all =
    all_seen P code events seen next last hides.1 (All-tail P event events all)
all_seen P code (event ∷ events) seen world last (next, step, inr shows) all =
    subst (All P) (sym shows.1.1)
    (All-cons P event shows.1.0 (All-head P event events all)
    (all_seen P code events shows.1.0 next last shows.1.2 (All-tail P event events all)))

-- ---- whether it was quiet

record IsTimely (code : CodeShape) (world : WorldShape) (event : Event) (rest : Followed) : Type 0 where
  here : IsSecret code world event ⊎ IsQuiet code world
  behind : rest.late ≡ None

timely : (code : CodeShape) (world : WorldShape) (one : ℕ × Event) (rest run : Followed) →
    IsTraceKept code world one rest run → run.late ≡ None → IsTimely code world one.1 rest
timely code world one rest _ (hidden is) none = record { here = inl is; behind = none }
timely code world one rest _ (prompt not quiet) none = record { here = inr quiet; behind = none }
timely code world one rest _ (untimely not loud) none =
    absurd (let late : Some one.0 ≡ None = none in let no : ⊥ = cc in no)

pub followed_prompt : OneStep → (code : CodeShape) (world : WorldShape) (said : List (ℕ × Event)) (run : Followed) →
    IsFollowed code world said run → run.late ≡ None → IsPrompt code world (events_in said)
followed_prompt law code world [] run is none = tt
followed_prompt law code world (one ∷ said) run (next, rest, step, follows, kept) none =
    let was = timely code world one rest run kept none in (
      was.here,
      λ other goes. subst (λ (w : WorldShape). IsPrompt code w (events_in said))
          (law code world next other one.1 step goes)
          (followed_prompt law code next said rest follows was.behind),
    )
