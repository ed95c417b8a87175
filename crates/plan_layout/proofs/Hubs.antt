-- The hub of each line is among those of its lane, and has a place of its own there.
use Rattle.std.proofs.Common.{◌≡◌, ◌<◌, ◌&&◌, ◌⊎◌, ℕ, zero, suc, Bool, true, false, nat_eq, inl, inr}
use Rattle.std.proofs.Common.{List, [], ◌∷◌, ◌++◌, Some, length, get_or, refl, sym, ap, ◌∙◌, arith}
use Rattle.std.specs.Prelude.{if◌then◌else◌, slice_get}
use Rattle.std.specs.List.{list_any}
use Rattle.std.proofs.lemmas.Bool.{eqb-true, eq-eqb}
use Rattle.std.proofs.lemmas.List.Sums.{passes_at_first}
use Rattle.plan_layout.specs.Lines.{is_in, lane_of, same_hub, same_truth}
use Rattle.plan_layout.specs.Strips.{hubs_from, hubs_of, track_in, track_of, with_hub}
use Rattle.plan_layout.specs.declared.lines.Hub.{Hub}
use Rattle.plan_layout.specs.declared.lines.Lane.{Lane}
use Rattle.plan_layout.specs.declared.lines.Line.{Line}

true_or_false : (b : Bool) → (b ≡ true) ⊎ (b ≡ false)
true_or_false true = inl refl
true_or_false false = inr refl

and_true : (first second : Bool) → (first && second) ≡ true → (first ≡ true) × (second ≡ true)
and_true true second both = (refl, both)
and_true false second both = absurd (grind (arith, both))

hub_itself : (hub : Hub) → same_hub hub hub ≡ true
hub_itself hub = rw (eq-eqb hub.row hub.row refl, eq-eqb hub.kind hub.kind refl) refl

pub hub_same : (hub other : Hub) → same_hub hub other ≡ true → hub ≡ other
hub_same hub other same =
    let both = and_true (nat_eq hub.row other.row) (nat_eq hub.kind other.kind) same in
    let rows = eqb-true hub.row other.row both.0 in
    let kinds = eqb-true hub.kind other.kind both.1 in
    ap (λ (row : ℕ). record { row = row; kind = hub.kind }) rows
    ∙ ap (λ (kind : ℕ). record { row = other.row; kind = kind }) kinds

any_append : (p : Hub → Bool) (hubs others : List Hub) → list_any p hubs ≡ true → list_any p (hubs ++ others) ≡ true
any_append p [] others any = absurd (grind (arith, any))
any_append p (hub ∷ hubs) others any = elim (true_or_false (p hub)) [
  | inl here ↦ rw here refl
  | inr not_here ↦ rw not_here (any_append p hubs others (rw not_here at any))
]

any_last : (p : Hub → Bool) (hubs : List Hub) (hub : Hub) → p hub ≡ true → list_any p (hubs ++ hub ∷ []) ≡ true
any_last p [] hub here = rw here refl
any_last p (other ∷ hubs) hub here = elim (true_or_false (p other)) [
  | inl there ↦ rw there refl
  | inr not_there ↦ rw not_there (any_last p hubs hub here)
]

-- what is there stays
keeps_with : (p : Hub → Bool) (hubs : List Hub) (hub : Hub) → list_any p hubs ≡ true →
    list_any p (with_hub hubs hub) ≡ true
keeps_with p hubs hub any = elim (true_or_false (list_any (same_hub hub) hubs)) [
  | inl among ↦ rw among any
  | inr new ↦ rw new (any_append p hubs (hub ∷ []) any)
]

keeps : (p : Hub → Bool) (lane : Lane) (hubs : List Hub) (lines : List Line) → list_any p hubs ≡ true →
    list_any p (hubs_from lane hubs lines) ≡ true
keeps p lane hubs [] any = any
keeps p lane hubs (line ∷ lines) any = elim (true_or_false (is_in lane line)) [
  | inl goes ↦ rw goes (keeps p lane (with_hub hubs line.hub) lines (keeps_with p hubs line.hub any))
  | inr elsewhere ↦ rw elsewhere (keeps p lane hubs lines any)
]

with_itself : (hubs : List Hub) (hub : Hub) → list_any (same_hub hub) (with_hub hubs hub) ≡ true
with_itself hubs hub = elim (true_or_false (list_any (same_hub hub) hubs)) [
  | inl among ↦ rw among among
  | inr new ↦ rw new (any_last (same_hub hub) hubs hub (hub_itself hub))
]

-- the hub of a line in the lane is there
among : (lane : Lane) (hubs : List Hub) (lines : List Line) (i : ℕ) (line : Line) → slice_get lines i ≡ Some line →
    is_in lane line ≡ true → list_any (same_hub line.hub) (hubs_from lane hubs lines) ≡ true
among lane hubs [] i line here goes = absurd (let no = here in cc)
among lane hubs (other ∷ lines) zero line here goes =
    let is : Some other ≡ Some line = here in
    let same : other ≡ line = cc in
    let there : is_in lane other ≡ true = ap (is_in lane) same ∙ goes in
    rw there
    (keeps (same_hub line.hub) lane (with_hub hubs other.hub) lines
    (ap (λ (one : Line). list_any (same_hub line.hub) (with_hub hubs one.hub)) same ∙ with_itself hubs line.hub))
among lane hubs (other ∷ lines) (suc i) line here goes =
    among lane (if is_in lane other then with_hub hubs other.hub else hubs) lines i line here goes

place_within : (hub : Hub) (hubs : List Hub) → list_any (same_hub hub) hubs ≡ true →
    track_in hubs hub < length hubs
place_within hub [] any = absurd (grind (arith, any))
place_within hub (other ∷ hubs) any = elim (true_or_false (same_hub hub other)) [
  | inl here ↦ rw here (omega arith)
  | inr not_here ↦ let more = place_within hub hubs (rw not_here at any) in rw not_here (omega (arith, more))
]

own_lane : (line : Line) → is_in (lane_of line) line ≡ true
own_lane line =
    let lane = lane_of line in
    rw (eq-eqb lane.strip lane.strip refl) (truth_itself lane.rightward)
  where
    truth_itself : (b : Bool) → same_truth b b ≡ true
    truth_itself true = refl
    truth_itself false = refl

pub track_within : (lines : List Line) (i : ℕ) (line : Line) → slice_get lines i ≡ Some line →
    track_of lines line < length (hubs_of (lane_of line) lines)
track_within lines i line here =
    place_within line.hub (hubs_of (lane_of line) lines) (among (lane_of line) [] lines i line here (own_lane line))

-- two hubs that are there have two places
pub one_place : (hub other : Hub) (hubs : List Hub) → track_in hubs hub < length hubs →
    track_in hubs hub ≡ track_in hubs other → hub ≡ other
one_place hub other hubs within same =
    let first = hub_same hub (get_or hubs (track_in hubs hub) hub)
    (passes_at_first (same_hub hub) hubs hub within) in
    let second = hub_same other (get_or hubs (track_in hubs other) hub)
    (passes_at_first (same_hub other) hubs hub (omega (arith, within, same))) in
    first ∙ ap (λ (place : ℕ). get_or hubs place hub) same ∙ sym second
