-- The bars say what the threads do.
use Rattle.std.proofs.Common.{◌≡◌, ◌≤◌, ◌<◌, ◌+◌, ◌⊎◌, ℕ, suc, zero, Bool, true, false, inl, inr, List, [], ◌∷◌, ◌++◌}
use Rattle.std.proofs.Common.{Some, None, length, refl, ap, sym, ◌∙◌, arith}
use Rattle.std.specs.Prelude.{Option, nat_le, nat_lt, ◌&&◌, ◌==◌, if◌then◌else◌}
use Rattle.std.proofs.lemmas.Bool.{and_parts, le-leb}
use Rattle.std.proofs.lemmas.Bool.Decides.{leb_tells}
use Rattle.std.proofs.lemmas.List.{append-nil}
use Rattle.run_chart.specs.Bars.{are_same, bar_of, bars_from, is_same, moment_of, moments_from, moments_of}
use Rattle.run_chart.specs.Rows.{height_of, line_in, place_at, places_from}
use Rattle.run_chart.specs.Sheets.{ChartRowShape}
use Rattle.run_chart.specs.Threads.{AreOrdered, bar_over, looks, threads_at}
use Rattle.run_chart.specs.declared.bars.ChartBar.{ChartBar}
use Rattle.run_chart.specs.declared.bars.ChartMoment.{ChartMoment}
use Rattle.run_chart.specs.declared.bars.ChartThreads.{ChartThreads}
use Rattle.run_chart.specs.declared.rows.ChartPlace.{ChartPlace}
use Rattle.run_chart.proofs.PlaceLaws.{event_inside}

true_or_false : (b : Bool) → (b ≡ true) ⊎ (b ≡ false)
true_or_false true = inl refl
true_or_false false = inr refl

-- ---- one bar

abbrev or_else : Option Bool → Option Bool → Option Bool
or_else None rest = rest
or_else (Some filled) rest = Some filled

or_none : (one : Option Bool) → or_else one None ≡ one
or_none None = refl
or_none (Some filled) = refl

-- a bar of threads that do this
abbrev own_bar : (from to : ℕ) → (runs waits : Bool) → List ChartBar
own_bar from to runs waits = bar_of from to (record { runs = runs; waits = waits })

seen_within : (from to y : ℕ) (runs waits : Bool) (bars : List ChartBar) → from ≤ y → y < to →
    bar_over y (own_bar from to runs waits ++ bars) ≡ or_else (looks runs waits) (bar_over y bars)
seen_within from to y true waits bars low high =
    let above : nat_le from y ≡ true = le-leb from y low in
    let below : nat_lt y to ≡ true = le-leb (suc y) to (omega (arith, high)) in
    rw (above, below) refl
seen_within from to y false true bars low high =
    let above : nat_le from y ≡ true = le-leb from y low in
    let below : nat_lt y to ≡ true = le-leb (suc y) to (omega (arith, high)) in
    rw (above, below) refl
seen_within from to y false false bars low high = refl

not_below : (y to : ℕ) → to ≤ y → nat_lt y to ≡ false
not_below y to past = elim (leb_tells (suc y) to) [
  | inl other ↦ absurd (let lt = other.1 in omega (arith, lt, past))
  | inr is ↦ is.0
]

not_above : (from y : ℕ) → y < from → nat_le from y ≡ false
not_above from y before = elim (leb_tells from y) [
  | inl other ↦ absurd (let le = other.1 in omega (arith, le, before))
  | inr is ↦ is.0
]

and_false : (b : Bool) → (b && false) ≡ false
and_false true = refl
and_false false = refl

-- a bar that ends before a height, or begins behind it, is not over it
missed_behind : (from to y : ℕ) (runs waits : Bool) (bars : List ChartBar) → to ≤ y →
    bar_over y (own_bar from to runs waits ++ bars) ≡ bar_over y bars
missed_behind from to y true waits bars past = rw (not_below y to past, and_false (nat_le from y)) refl
missed_behind from to y false true bars past = rw (not_below y to past, and_false (nat_le from y)) refl
missed_behind from to y false false bars past = refl

missed_before : (from to y : ℕ) (runs waits : Bool) (bars : List ChartBar) → y < from →
    bar_over y (own_bar from to runs waits ++ bars) ≡ bar_over y bars
missed_before from to y true waits bars before = rw (not_above from y before) refl
missed_before from to y false true bars before = rw (not_above from y before) refl
missed_before from to y false false bars before = refl

-- ---- all bars

from_sooner : (from line : ℕ) (moments : List ChartMoment) → from ≤ line → AreOrdered line moments →
    AreOrdered from moments
from_sooner from line [] le ordered = tt
from_sooner from line (moment ∷ moments) le ordered =
    let first = ordered.0 in (omega (arith, le, first), ordered.1)

none_before : (from end y : ℕ) (threads : ChartThreads) (moments : List ChartMoment) → y < from →
    AreOrdered from moments → bar_over y (bars_from from end threads moments) ≡ None
none_before from end y threads [] before ordered =
    ap (bar_over y) (sym (append-nil (bar_of from end threads)))
    ∙ missed_before from end y threads.runs threads.waits [] before
none_before from end y threads (moment ∷ moments) before ordered =
    let first = ordered.0 in
    elim (true_or_false (are_same threads moment.threads)) [
      | inl same ↦
          rw same
          (none_before from end y threads moments before (from_sooner from moment.line moments first ordered.1))
      | inr differ ↦
          rw differ
          (missed_before from moment.line y threads.runs threads.waits
          (bars_from moment.line end moment.threads moments)
          before
          ∙ none_before moment.line end y moment.threads moments (omega (arith, before, first)) ordered.1)
    ]

threads_before : (threads : ChartThreads) (from y : ℕ) (moments : List ChartMoment) → y < from →
    AreOrdered from moments → threads_at threads y moments ≡ threads
threads_before threads from y [] before ordered = refl
threads_before threads from y (moment ∷ moments) before ordered =
    let first = ordered.0 in
    ap (λ (above : Bool). threads_at (if above then moment.threads else threads) y moments)
    (not_above moment.line y (omega (arith, before, first)))
    ∙ threads_before threads from y moments before (from_sooner from moment.line moments first ordered.1)

same_bool : (one other : Bool) → is_same one other ≡ true → other ≡ one
same_bool true other is = is
same_bool false true is = sym is
same_bool false false is = refl

-- threads that do the same are the same
same_threads : (one other : ChartThreads) → are_same one other ≡ true → other ≡ one
same_threads one other is =
    let parts = and_parts (is_same one.runs other.runs) (is_same one.waits other.waits) is in
    let made : Bool → Bool → ChartThreads = λ runs waits. record { runs = runs; waits = waits } in
    ap (λ (runs : Bool). made runs other.waits) (same_bool one.runs other.runs parts.0)
    ∙ ap (λ (waits : Bool). made one.runs waits) (same_bool one.waits other.waits parts.1)

abbrev looks_of : ChartThreads → Option Bool
looks_of threads = looks threads.runs threads.waits

-- what the threads do behind one more event
abbrev after : ChartThreads → (y : ℕ) → ChartMoment → List ChartMoment → Bool → ChartThreads
after threads y moment moments above = threads_at (if above then moment.threads else threads) y moments

pub bars_tell : (from end y : ℕ) (threads : ChartThreads) (moments : List ChartMoment) → AreOrdered from moments →
    from ≤ y → y < end →
    bar_over y (bars_from from end threads moments) ≡ looks_of (threads_at threads y moments)
bars_tell from end y threads [] ordered low high =
    ap (bar_over y) (sym (append-nil (bar_of from end threads)))
    ∙ seen_within from end y threads.runs threads.waits [] low high
    ∙ or_none (looks_of threads)
bars_tell from end y threads (moment ∷ moments) ordered low high =
    let first = ordered.0 in
    let all = bars_from from end threads (moment ∷ moments) in
    let last = threads_at threads y (moment ∷ moments) in
    let rest = bars_from moment.line end moment.threads moments in
    elim (true_or_false (are_same threads moment.threads)) [
      | inl same ↦
          let left : bar_over y all ≡ looks_of (threads_at threads y moments) =
          rw same
          (bars_tell from end y threads moments (from_sooner from moment.line moments first ordered.1) low high) in
          elim (leb_tells moment.line y) [
            | inl at ↦
                let right : last ≡ threads_at threads y moments =
                ap (after threads y moment moments) at.0
                ∙ ap (λ (t : ChartThreads). threads_at t y moments) (same_threads threads moment.threads same) in
                left ∙ ap looks_of (sym right)
            | inr behind ↦
                let right : last ≡ threads_at threads y moments = ap (after threads y moment moments) behind.0 in
                left ∙ ap looks_of (sym right)
          ]
      | inr differ ↦
          elim (leb_tells moment.line y) [
            | inl at ↦
                let right : last ≡ threads_at moment.threads y moments = ap (after threads y moment moments) at.0 in
                let left : bar_over y all ≡ looks_of (threads_at moment.threads y moments) =
                rw differ
                (missed_behind from moment.line y threads.runs threads.waits rest at.1
                ∙ bars_tell moment.line end y moment.threads moments ordered.1 at.1 high) in
                left ∙ ap looks_of (sym right)
            | inr behind ↦
                let right : last ≡ threads =
                ap (after threads y moment moments) behind.0
                ∙ threads_before threads moment.line y moments behind.1 ordered.1 in
                let left : bar_over y all ≡ looks_of threads =
                rw differ
                (seen_within from moment.line y threads.runs threads.waits rest low behind.1
                ∙ ap (or_else (looks_of threads))
                (none_before moment.line end y moment.threads moments behind.1 ordered.1)
                ∙ or_none (looks_of threads)) in
                left ∙ ap looks_of (sym right)
          ]
    ]

-- ---- the events of a host are in order

line_low : (start k : ℕ) (rows : List ChartRowShape) → k < length rows →
    start ≤ (place_at (places_from start rows) k).line
line_low start k [] lt = absurd (omega (arith, lt))
line_low start zero (row ∷ rows) lt = omega arith
line_low start (suc k) (row ∷ rows) lt =
    let more = line_low (start + height_of row) k rows (omega (arith, lt)) in omega (arith, more)

line_in_height : (row : ChartRowShape) → line_in row.event ≤ height_of row
line_in_height row =
    let own = event_inside row.event in
    let below = own.below in
    omega (arith, below)

lines_follow : (start i j : ℕ) (rows : List ChartRowShape) → i ≤ j → j < length rows →
    (place_at (places_from start rows) i).line ≤ (place_at (places_from start rows) j).line
lines_follow start i j [] le lt = absurd (omega (arith, lt))
lines_follow start zero zero (row ∷ rows) le lt = omega arith
lines_follow start zero (suc j) (row ∷ rows) le lt =
    let more = line_low (start + height_of row) j rows (omega (arith, lt)) in
    let own = line_in_height row in
    omega (arith, more, own)
lines_follow start (suc i) zero (row ∷ rows) le lt = absurd (omega (arith, le))
lines_follow start (suc i) (suc j) (row ∷ rows) le lt =
    lines_follow (start + height_of row) i j rows (omega (arith, le)) (omega (arith, lt))

moments_ordered : (number low n : ℕ) (places : List ChartPlace) (rows : List ChartRowShape) →
    ((k : ℕ) → n ≤ k → k < n + length rows → low ≤ (place_at places k).line) →
    ((i j : ℕ) → i ≤ j → j < n + length rows → (place_at places i).line ≤ (place_at places j).line) →
    AreOrdered low (moments_of number (moments_from places n rows))
moments_ordered number low n places [] above follow = tt
moments_ordered number low n places (row ∷ rows) above follow =
    let moment = moment_of (place_at places n).line row in
    elim (true_or_false (moment.host.0 == number)) [
      | inl own ↦
          rw own (
            above n (omega arith) (omega arith),
            moments_ordered number (place_at places n).line (n + 1) places rows
                (λ k le lt. follow n k (omega (arith, le)) (omega (arith, lt)))
                (λ i j le lt. follow i j le (omega (arith, lt))),
          )
      | inr other ↦
          rw other
          (moments_ordered number low (n + 1) places rows
          (λ k le lt. above k (omega (arith, le)) (omega (arith, lt)))
          (λ i j le lt. follow i j le (omega (arith, lt))))
    ]

pub in_order : (number low start : ℕ) (rows : List ChartRowShape) → low ≤ start →
    AreOrdered low (moments_of number (moments_from (places_from start rows) 0 rows))
in_order number low start rows le =
    moments_ordered number low 0 (places_from start rows) rows
    (λ k from lt. let inside = line_low start k rows (omega (arith, lt)) in omega (arith, inside, le))
    (λ i j before lt. lines_follow start i j rows before (omega (arith, lt)))
