-- Lists that are compared place by place, and rows of starting values field by field.
use Rattle.std.proofs.Common.{◌≡◌, ◌≢◌, ◌∙◌, ℕ, zero, suc, ◌+◌, ◌<◌, ◌≤◌, ℤ, List, [], ◌∷◌, ◌++◌, length, take, drop}
use Rattle.std.proofs.Common.{map}
use Rattle.std.proofs.Common.{Option, Some, slice_get, refl, sym, ap, subst, inl, inr, arith, Bor}
use Rattle.std.proofs.Common.{take-append-drop, min, get_or, add-one, Bool, true, false, not, int_eq}
use Rattle.std.specs.Option.{option_map}
use Rattle.std.specs.Prelude.{◌↔◌, IsTrue, option_copied}
use Rattle.std.proofs.lemmas.Bool.{cases_lt, false≢true, and_parts, and_from}
use Rattle.std.proofs.lemmas.Bool.Decides.{Decides-int_eq}
use lib.Pointwise.{pointwise}
use Rattle.std.proofs.lemmas.List.{take_all, get_or_default, length-map}
use Rattle.std.proofs.lemmas.Option.{slice_get-map, slice_get-get_or}
use Rattle.event_text.specs.declared.event.Event.{Event}
use Rattle.host_code.specs.Code.{CodeShape}
use Rattle.net_world.specs.World.{WorldShape}
use Rattle.net_world.specs.Released.{OneIsFront}
use Rattle.run_comparison.specs.Compare.{DifferAt, GoApart, StartsUnlike}
use Rattle.net_world.specs.Replay.{events_in}

-- ---- place by place

take_some : {X : Type 0} (xs : List X) (i : ℕ) (x : X) → slice_get xs i ≡ Some x → take (suc i) xs ≡ take i xs ++ x ∷ []
take_some [] i x there = absurd (let no : ⊥ = cc in no)
take_some (y ∷ xs) zero x there = let same : y ≡ x = cc in ap (λ it. it ∷ []) same
take_some (y ∷ xs) (suc i) x there = ap (λ rest. y ∷ rest) (take_some xs i x there)

-- one place more at which they are the same
pub same_more : {X : Type 0} (one other : List X) (i : ℕ) (x y : X) → slice_get one i ≡ Some x →
    slice_get other i ≡ Some y → x ≡ y → take i one ≡ take i other → take (suc i) one ≡ take (suc i) other
same_more {X} one other i x y first second same before =
    take_some one i x first ∙ ap (λ (xs : List X). xs ++ x ∷ []) before ∙ ap (λ (it : X). take i other ++ it ∷ []) same
    ∙ sym (take_some other i y second)

-- the end of one of them
pub are_alike : {X : Type 0} (one other : List X) (i : ℕ) → take i one ≡ take i other → length one ≤ i →
    OneIsFront one other
are_alike {X} one other i same all =
    inl (
      drop i other,
      sym (take-append-drop i other) ∙ ap (λ (xs : List X). xs ++ drop i other)
          (sym same ∙ take_all i one all),
    )

pub are_alike_too : {X : Type 0} (one other : List X) (i : ℕ) → take i one ≡ take i other → length other ≤ i →
    OneIsFront one other
are_alike_too {X} one other i same all =
    inr (
      drop i one,
      sym (take-append-drop i one) ∙ ap (λ (xs : List X). xs ++ drop i one)
          (same ∙ take_all i other all),
    )

pub alike_by_length : {X : Type 0} (one other : List X) (i : ℕ) → take i one ≡ take i other →
    ¬ ((i < length one) × (i < length other)) → OneIsFront one other
alike_by_length one other i same not = elim (cases_lt i (length one)) [
  | inr past ↦ are_alike one other i same past
  | inl inside ↦ elim (cases_lt i (length other)) [
    | inr past ↦ are_alike_too one other i same past
    | inl within ↦ absurd (not (inside, within))
  ]
]

-- a place that is before the shorter end is in both
pub within_both : (place end one other : ℕ) → end ≡ min one other → place < end → (place < one) × (place < other)
within_both place end one other is before = (omega (arith, is, before), omega (arith, is, before))

pub past_one : (place end one other : ℕ) → end ≡ min one other → end ≤ place → ¬ ((place < one) × (place < other))
past_one place end one other is past both = omega (arith, is, past, both.0, both.1)

pub differ_at : {X : Type 0} (one other : List X) (i : ℕ) (x y : X) → slice_get one i ≡ Some x →
    slice_get other i ≡ Some y → x ≢ y → take i one ≡ take i other → DifferAt one other i
differ_at one other i x y first second differ same = record {
  same = same;
  first = x;
  second = y;
  first_there = first;
  second_there = second;
  differ = differ;
}

-- ---- events, with their lines

abbrev pub said_of : List (Bor (ℕ × Event)) → List (ℕ × Event)
said_of seen = map (λ it. it.now) seen

abbrev pub events_of : List (Bor (ℕ × Event)) → List Event
events_of seen = events_in (said_of seen)

said_there : (seen : List (Bor (ℕ × Event))) (i : ℕ) (x : Bor (ℕ × Event)) → slice_get seen i ≡ Some x →
    slice_get (said_of seen) i ≡ Some x.now
said_there seen i x there =
    slice_get-map (λ (it : Bor (ℕ × Event)). it.now) seen i
    ∙ ap (option_map (λ (it : Bor (ℕ × Event)). it.now)) there

event_there : (seen : List (Bor (ℕ × Event))) (i : ℕ) (x : Bor (ℕ × Event)) → slice_get seen i ≡ Some x →
    slice_get (events_of seen) i ≡ Some x.now.1
event_there seen i x there =
    slice_get-map (λ (it : ℕ × Event). it.1) (said_of seen) i
    ∙ ap (option_map (λ (it : ℕ × Event). it.1)) (said_there seen i x there)

pub same_events_more : (one other : List (Bor (ℕ × Event))) (i : ℕ) (d e : Bor (ℕ × Event)) → i < length one →
    i < length other → (get_or one i d).now.1 ≡ (get_or other i e).now.1 →
    take i (events_of one) ≡ take i (events_of other) → take (i + 1) (events_of one) ≡ take (i + 1) (events_of other)
same_events_more one other i d e within inside same before =
    rw add-one (same_more (events_of one) (events_of other) i _ _
    (event_there one i (get_or one i d) (slice_get-get_or one i d within))
    (event_there other i (get_or other i e) (slice_get-get_or other i e inside)) same before)

pub go_apart : (one other : List (Bor (ℕ × Event))) (i : ℕ) (d e f : Bor (ℕ × Event)) → i < length one →
    i < length other → (get_or one i d).now.1 ≢ (get_or other i e).now.1 →
    take i (events_of one) ≡ take i (events_of other) → GoApart (said_of one) (said_of other) (get_or one i f).now.0
go_apart one other i d e f within inside differ same =
    let x = get_or one i d in
    let y = get_or other i e in
    let first = slice_get-get_or one i d within in
    let second = slice_get-get_or other i e inside in
    let also : get_or one i f ≡ x = get_or_default one i f d within in
    subst (λ (it : Bor (ℕ × Event)). GoApart (said_of one) (said_of other) it.now.0) (sym also)
    (record {
      place = i;
      event = x.now.1;
      apart = differ_at (events_of one) (events_of other) i x.now.1 y.now.1 (event_there one i x first)
          (event_there other i y second) differ same;
      there = said_there one i x first;
    })

-- the end of one of them, where lists of events are as long as those of references
pub past_events : (one other : List (Bor (ℕ × Event))) (place end : ℕ) → end ≡ min (length one) (length other) →
    end ≤ place → ¬ ((place < length (events_of one)) × (place < length (events_of other)))
past_events one other place end is past both =
    past_one place end (length one) (length other) is past
    (rw (length-map, length-map) at both.0, rw (length-map, length-map) at both.1)

-- ---- rows

pointwise_tells : (xs ys : List ℤ) → (pointwise int_eq xs ys ≡ true) ↔ (xs ≡ ys)
pointwise_tells [] [] = (λ is. refl, λ is. refl)
pointwise_tells [] (y ∷ ys) = (λ is. absurd (cc), λ is. absurd (cc))
pointwise_tells (x ∷ xs) [] = (λ is. absurd (cc), λ is. absurd (cc))
pointwise_tells (x ∷ xs) (y ∷ ys) =
    let rest = pointwise_tells xs ys in
    let first = Decides-int_eq x y in (
      λ is. let parts = and_parts (int_eq x y) (pointwise int_eq xs ys) is in
          let one : x ≡ y = first.0 parts.0 in let others : xs ≡ ys = rest.0 parts.1 in cc,
      λ is. let one : x ≡ y = cc in let others : xs ≡ ys = cc in
          and_from (int_eq x y) (pointwise int_eq xs ys) (first.1 one) (rest.1 others),
    )

-- rows that are compared element by element
pub same_elements : (one other xs ys : List ℤ) (same : Bool) → same ≡ pointwise int_eq xs ys → xs ≡ one → ys ≡ other →
    IsTrue same ↔ (one ≡ other)
same_elements one other xs ys same is first second =
    let tells = pointwise_tells xs ys in (
      λ holds. sym first ∙ tells.0 (sym is ∙ holds) ∙ second,
      λ holds. is ∙ tells.1 (first ∙ holds ∙ sym second),
    )

pub unlike_rows : (one other : Option (Bor (List ℤ))) (x y : Bor (List ℤ)) (same : Bool) → one ≡ Some x →
    other ≡ Some y → (IsTrue same ↔ (x.now ≡ y.now)) → IsTrue (not same) ↔ (option_copied one ≢ option_copied other)
unlike_rows one other x y same first second exact =
    let both : (option_copied one ≡ option_copied other) ↔ (x.now ≡ y.now) = (
      λ is. let rows : Some x.now ≡ Some y.now = cc in cc,
      λ is. cc,
    ) in
    by same exact both
  where
    by : (same : Bool) → (IsTrue same ↔ (x.now ≡ y.now)) →
        ((option_copied one ≡ option_copied other) ↔ (x.now ≡ y.now)) →
        IsTrue (not same) ↔ (option_copied one ≢ option_copied other)
    by true exact both = (λ is. absurd (cc), λ differ. absurd (differ (both.1 (exact.0 refl))))
    by false exact both = (λ _ is. false≢true (exact.1 (both.0 is)), λ _. refl)

-- ---- fields

-- no field of so many starts unlike
abbrev pub AlikeBelow : CodeShape → WorldShape → (one other : List (List ℤ)) → ℕ → Type 0
AlikeBelow code world one other n = (number : ℕ) → number < n → ¬ StartsUnlike code world one other number
