-- The values that events release: of each event some list, and one alone; and those of a run, event by event.
use Rattle.std.proofs.Common.{◌≡◌, ◌∙◌, ℕ, ◌+◌, ◌<◌, ◌≤◌, ℤ, List, [], ◌∷◌, ◌++◌, map, take, length, get_or, inl, inr}
use Rattle.std.proofs.Common.{refl, sym, ap, subst, append_assoc, append-nil}
use Rattle.std.specs.Prelude.{◌⊎◌}
use Rattle.std.proofs.lemmas.List.{map_more, take_all}
use Rattle.event_text.specs.declared.event.Event.{Event}
use Rattle.event_text.specs.declared.event.Event.TheVariants.{Take, Turn, Act}
use Rattle.host_code.specs.Code.{CodeShape}
use Rattle.split_rules.specs.Releases.{ReleasesShape}
use Rattle.net_world.specs.Released.{Releases, AreReleased, released_at}
use Rattle.net_world.specs.Secret.{IsSecret}
use Rattle.net_world.specs.World.{WorldShape, IsStep, IsRun}
use Rattle.net_world.proofs.StepLaws.{one_step}

-- ---- values that are made one after the other

pub values_more : {X Y : Type 0} (f : X → Y) (xs : List X) (i : ℕ) (d : X) (ys longer : List Y) (y : Y) →
    i < length xs → ys ≡ map f (take i xs) → longer ≡ ys ++ y ∷ [] → y ≡ f (get_or xs i d) →
    longer ≡ map f (take (i + 1) xs)
values_more {X} {Y} f xs i d ys longer y within are more is =
    more ∙ ap (λ (zs : List Y). zs ++ y ∷ []) are ∙ ap (λ (z : Y). map f (take i xs) ++ z ∷ []) is
    ∙ sym (map_more f xs i d within)

pub all_values : {X Y : Type 0} (f : X → Y) (xs : List X) (i : ℕ) (ys : List Y) → length xs ≤ i →
    ys ≡ map f (take i xs) → ys ≡ map f xs
all_values {X} f xs i ys past are = are ∙ ap (λ (all : List X). map f all) (take_all i xs past)

-- ---- one event

-- an event that may not be seen releases nothing
pub secret_releases : (code : CodeShape) (table : ReleasesShape) (world : WorldShape) (event : Event) →
    IsSecret code world event → Releases code table world event []
secret_releases code table world (Take from to place) secret = refl
secret_releases code table world (Turn host) secret = inl (secret, refl)
secret_releases code table world (Act from to made) secret = refl

-- some values are released, where it is known whether the event may be seen
pub some_released : (code : CodeShape) (table : ReleasesShape) (world : WorldShape) (event : Event) →
    (IsSecret code world event ⊎ ¬ IsSecret code world event) → (own : List ℤ) × Releases code table world event own
some_released code table world (Take from to place) known = ([], refl)
some_released code table world (Turn host) (inl secret) = ([], inl (secret, refl))
some_released code table world (Turn host) (inr seen) = (released_at table world host, inr (seen, refl))
some_released code table world (Act from to made) known = ([], refl)

-- and no others
pub releases_once : (code : CodeShape) (table : ReleasesShape) (world : WorldShape) (event : Event) (one other : List ℤ) →
    Releases code table world event one → Releases code table world event other → one ≡ other
releases_once code table world (Take from to place) one other is also = is ∙ sym also
releases_once code table world (Turn host) one other (inl is) (inl also) = is.1 ∙ sym also.1
releases_once code table world (Turn host) one other (inl is) (inr also) = absurd (also.0 is.0)
releases_once code table world (Turn host) one other (inr is) (inl also) = absurd (is.0 also.0)
releases_once code table world (Turn host) one other (inr is) (inr also) = is.1 ∙ sym also.1
releases_once code table world (Act from to made) one other is also = is ∙ sym also

-- ---- runs

-- an event before others
pub released_first : (code : CodeShape) (table : ReleasesShape) (world next : WorldShape) (event : Event)
    (events : List Event) (own later : List ℤ) → IsStep code world event next → Releases code table world event own →
    AreReleased code table next events later → AreReleased code table world (event ∷ events) (own ++ later)
released_first code table world next event events own later step is are = (
  own,
  later,
  is,
  refl,
  λ other also.
      subst (λ (w : WorldShape). AreReleased code table w events later) (one_step code world next other event step also)
      are,
)

-- an event behind others
pub released_last : (code : CodeShape) (table : ReleasesShape) (world middle : WorldShape) (events : List Event)
    (event : Event) (values own : List ℤ) → IsRun code world events middle →
    AreReleased code table world events values → Releases code table middle event own →
    AreReleased code table world (events ++ event ∷ []) (values ++ own)
released_last code table world middle [] event values own ran are is = (
  own,
  [],
  subst (λ (w : WorldShape). Releases code table w event own) (sym ran) is,
  ap (λ (all : List ℤ). all ++ own) are ∙ sym (append-nil own),
  λ next step. refl,
)
released_last code table world middle (first ∷ events) event values own (next, step, ran)
    (front, later, is_front, whole, rest) is = (
      front,
      later ++ own,
      is_front,
      ap (λ (all : List ℤ). all ++ own) whole ∙ append_assoc front later own,
      λ other also.
          subst (λ (w : WorldShape). AreReleased code table w (events ++ event ∷ []) (later ++ own))
          (one_step code world next other first step also)
          (released_last code table next middle events event later own ran (rest next step) is),
    )

-- a run releases one list of values
pub released_once : (code : CodeShape) (table : ReleasesShape) (world last : WorldShape) (events : List Event)
    (one other : List ℤ) → IsRun code world events last → AreReleased code table world events one →
    AreReleased code table world events other → one ≡ other
released_once code table world last [] one other ran is also = is ∙ sym also
released_once code table world last (event ∷ events) one other (next, step, ran) (own, later, is, whole, rest)
    (own_too, later_too, also, whole_too, rest_too) =
    whole ∙ ap (λ (all : List ℤ). all ++ later) (releases_once code table world event own own_too is also)
    ∙ ap (λ (all : List ℤ). own_too ++ all)
    (released_once code table next last events later later_too ran (rest next step) (rest_too next step))
    ∙ sym whole_too
