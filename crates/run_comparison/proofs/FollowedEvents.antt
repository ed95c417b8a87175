-- Runs that are followed: one event more.
use Rattle.std.proofs.Common.{◌≡◌, ◌∙◌, ℕ, ◌<◌, ◌≤◌, ◌+◌, ℤ, List, [], ◌∷◌, ◌++◌, None, get_or, length, take, refl, sym}
use Rattle.std.proofs.Common.{ap, subst, map, Bool, true, false, Result, Ok, Err}
use Rattle.std.specs.Prelude.{◌↔◌, IsTrue, OnOk, if◌then◌else◌}
use Rattle.std.proofs.lemmas.Bool.{false≢true}
use Rattle.std.proofs.lemmas.List.{map_more, take_all, take_more}
use Rattle.event_text.specs.declared.event.Event.{Event}
use Rattle.host_code.specs.Code.{CodeShape}
use Rattle.net_world.specs.Released.{AreReleased, Releases}
use Rattle.net_world.specs.Secret.{IsSecret, IsQuiet}
use Rattle.net_world.specs.World.{WorldShape, IsStep, IsRun}
use Rattle.split_rules.specs.Releases.{ReleasesShape}
use Rattle.net_world.proofs.ReleasedValues.{released_last}
use Rattle.run_comparison.specs.Followed.{Followed, IsTraceKept, IsFollowed}
use Rattle.run_comparison.specs.Followed as kept
use Rattle.run_comparison.specs.declared.following.Seen.{Seen}
use Rattle.run_comparison.specs.FollowedRuns.{IsEventAdded, first_late, run_with}
use Rattle.run_comparison.specs.FollowedRuns as added
use Rattle.net_world.specs.Replay.{events_in}

abbrev with_last : Followed → WorldShape → Followed
with_last run world = record { seen = run.seen; late = run.late; last = world }

-- What is kept after one more event, seen from the first: the rest has one more, and the first stays as it is.
record IsLonger (code : CodeShape) (world after next : WorldShape) (first one : ℕ × Event) (rest longer : Followed) :
    Type 0 where
  pub more : Followed
  pub added : IsEventAdded code after one rest more
  pub kept : IsTraceKept code world first (with_last more next) (with_last longer next)

longer_behind : (code : CodeShape) (world after next : WorldShape) (first one : ℕ × Event)
    (rest run longer : Followed) →
    IsTraceKept code world first rest run → IsEventAdded code after one run longer →
    IsLonger code world after next first one rest longer
longer_behind code world after next first one rest _ _ (kept.hidden is) (added.hidden secret) =
    record { more = rest; added = added.hidden secret; kept = kept.hidden is }
longer_behind code world after next first one rest _ _ (kept.hidden is) (added.prompt not quiet) =
    record { more = _; added = added.prompt not quiet; kept = kept.hidden is }
longer_behind code world after next first one rest _ _ (kept.hidden is) (added.untimely not loud) =
    record { more = _; added = added.untimely not loud; kept = kept.hidden is }
longer_behind code world after next first one rest _ _ (kept.prompt seen calm) (added.hidden secret) =
    record { more = rest; added = added.hidden secret; kept = kept.prompt seen calm }
longer_behind code world after next first one rest _ _ (kept.prompt seen calm) (added.prompt not quiet) =
    record { more = _; added = added.prompt not quiet; kept = kept.prompt seen calm }
longer_behind code world after next first one rest _ _ (kept.prompt seen calm) (added.untimely not loud) =
    record { more = _; added = added.untimely not loud; kept = kept.prompt seen calm }
longer_behind code world after next first one rest _ _ (kept.untimely seen loud) (added.hidden secret) =
    record { more = rest; added = added.hidden secret; kept = kept.untimely seen loud }
longer_behind code world after next first one rest _ _ (kept.untimely seen loud) (added.prompt not quiet) =
    record { more = _; added = added.prompt not quiet; kept = kept.untimely seen loud }
longer_behind code world after next first one rest _ _ (kept.untimely seen loud) (added.untimely not noise) =
    record { more = _; added = added.untimely not noise; kept = kept.untimely seen loud }

last_of_kept : (code : CodeShape) (world : WorldShape) (first : ℕ × Event) (rest run : Followed) →
    IsTraceKept code world first rest run → rest.last ≡ run.last
last_of_kept code world first rest _ (kept.hidden is) = refl
last_of_kept code world first rest _ (kept.prompt not quiet) = refl
last_of_kept code world first rest _ (kept.untimely not loud) = refl

-- a run that is followed is a run
pub followed_ran : (code : CodeShape) (world : WorldShape) (said : List (ℕ × Event)) (run : Followed) →
    IsFollowed code world said run → IsRun code world (events_in said) run.last
followed_ran code world [] run is = ap (λ (r : Followed). r.last) (sym is)
followed_ran code world (event ∷ said) run (next, rest, step, follows, kept) = (
  next,
  step,
  subst (IsRun code next (events_in said)) (last_of_kept code world event rest run kept)
      (followed_ran code next said rest follows),
)

-- the first event of all
first_followed : (code : CodeShape) (world next : WorldShape) (one : ℕ × Event) (longer : Followed) →
    IsEventAdded code world one (record { seen = []; late = None; last = world }) longer →
    IsStep code world one.1 next →
    IsFollowed code world (one ∷ []) (with_last longer next)
first_followed code world next one _ (added.hidden secret) step =
    (next, record { seen = []; late = None; last = next }, step, refl, kept.hidden secret)
first_followed code world next one _ (added.prompt not quiet) step =
    (next, record { seen = []; late = None; last = next }, step, refl, kept.prompt not quiet)
first_followed code world next one _ (added.untimely not loud) step =
    (next, record { seen = []; late = None; last = next }, step, refl, kept.untimely not loud)

followed_one_more : (code : CodeShape) (world next : WorldShape) (said : List (ℕ × Event)) (one : ℕ × Event)
    (run longer : Followed) → IsFollowed code world said run → IsEventAdded code run.last one run longer →
    IsStep code run.last one.1 next → IsFollowed code world (said ++ one ∷ []) (with_last longer next)
followed_one_more code world next [] one run longer is more step =
    let P : Followed → Type 0 = λ r. IsEventAdded code r.last one r longer in
    let Q : Followed → Type 0 = λ r. IsStep code r.last one.1 next in
    first_followed code world next one longer (subst P is more) (subst Q is step)
followed_one_more code world next (first ∷ said) one run longer (after, rest, goes, follows, keeps) more step =
    let lasts = last_of_kept code world first rest run keeps in
    let one_more = longer_behind code world run.last next first one rest run longer keeps more in (
      after,
      with_last one_more.more next,
      goes,
      followed_one_more code after next said one rest one_more.more follows
          (subst (λ (w : WorldShape). IsEventAdded code w one rest one_more.more) (sym lasts) one_more.added)
          (subst (λ (w : WorldShape). IsStep code w one.1 next) (sym lasts) step),
      one_more.kept,
    )

pub followed_more : (code : CodeShape) (world middle next : WorldShape) (said : List (ℕ × Event)) (i : ℕ)
    (d : ℕ × Event)
    (run longer : Followed) → i < length said → IsFollowed code world (take i said) run → run.last ≡ middle →
    IsEventAdded code middle (get_or said i d) run longer → IsStep code middle (get_or said i d).1 next →
    IsFollowed code world (take (i + 1) said) (with_last longer next)
followed_more code world middle next said i d run longer within follows lasts more step =
    let one = get_or said i d in
    subst (λ (events : List (ℕ × Event)). IsFollowed code world events (with_last longer next))
    (sym (take_more said i d within))
    (followed_one_more code world next (take i said) one run longer follows
    (subst (λ (w : WorldShape). IsEventAdded code w one run longer) (sym lasts) more)
    (subst (λ (w : WorldShape). IsStep code w one.1 next) (sym lasts) step))

-- an event that may be seen, where it is known whether the world is quiet
pub seen_added : (code : CodeShape) (world : WorldShape) (one : ℕ × Event) (run longer : Followed) (quiet : Bool) →
    ¬ IsSecret code world one.1 → (IsTrue quiet ↔ IsQuiet code world) → longer.seen ≡ run.seen ++ one ∷ [] →
    longer.late ≡ (if quiet then run.late else first_late run.late one.0) → longer.last ≡ run.last →
    IsEventAdded code world one run longer
seen_added code world one run longer true not exact seen late last =
    let more : Followed = record { seen = run.seen ++ one ∷ []; late = run.late; last = run.last } in
    let same : more ≡ longer = λ i. record { seen = sym seen i; late = sym late i; last = sym last i } in
    subst (IsEventAdded code world one run) same (added.prompt not (exact.0 refl))
seen_added code world one run longer false not exact seen late last =
    let more : Followed =
    record { seen = run.seen ++ one ∷ []; late = first_late run.late one.0; last = run.last } in
    let same : more ≡ longer = λ i. record { seen = sym seen i; late = sym late i; last = sym last i } in
    subst (IsEventAdded code world one run) same
    (added.untimely not (λ quiet. let no : false ≡ true = exact.1 quiet in absurd (false≢true no)))

-- the same of what the program keeps, where it had memory for it
pub added_on_ok : {T E : Type 0} (code : CodeShape) (world : WorldShape) (one : ℕ × Event) (before after : Seen)
    (quiet : Bool) (result : Result T E) → ¬ IsSecret code world one.1 → (IsTrue quiet ↔ IsQuiet code world) →
    OnOk result (map (λ it. it.now) after.events.items ≡ map (λ it. it.now) before.events.items ++ one ∷ []) →
    OnOk result (after.late ≡ (if quiet then before.late else first_late before.late one.0)) →
    OnOk result ((last : WorldShape) → IsEventAdded code world one (run_with before last) (run_with after last))
added_on_ok code world one before after quiet (Ok value) not exact seen late =
    λ last. seen_added code world one (run_with before last) (run_with after last) quiet not exact seen late refl
added_on_ok code world one before after quiet (Err why) not exact seen late = tt

-- ---- what is released

-- one event more, of those that are told with their lines
pub released_more : (code : CodeShape) (table : ReleasesShape) (world middle : WorldShape) (said : List (ℕ × Event))
    (i : ℕ) (d : ℕ × Event) (values own longer : List ℤ) → i < length said →
    IsRun code world (events_in (take i said)) middle →
    AreReleased code table world (events_in (take i said)) values →
    Releases code table middle (get_or said i d).1 own → longer ≡ values ++ own →
    AreReleased code table world (events_in (take (i + 1) said)) longer
released_more code table world middle said i d values own longer within ran are is more =
    let event_of : (ℕ × Event) → Event = λ one. one.1 in
    subst (λ (events : List Event). AreReleased code table world events longer)
    (sym (map_more event_of said i d within))
    (subst (AreReleased code table world (events_in (take i said) ++ (get_or said i d).1 ∷ [])) (sym more)
    (released_last code table world middle (events_in (take i said)) (get_or said i d).1 values own ran are is))

-- all events
pub released_all : (code : CodeShape) (table : ReleasesShape) (world : WorldShape) (said : List (ℕ × Event)) (i : ℕ)
    (values : List ℤ) → length said ≤ i → AreReleased code table world (events_in (take i said)) values →
    AreReleased code table world (events_in said) values
released_all code table world said i values past are =
    subst (λ (all : List (ℕ × Event)). AreReleased code table world (events_in all) values) (take_all i said past) are
