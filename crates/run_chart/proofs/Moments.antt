-- Moments that are sorted by their hosts.
use Rattle.std.proofs.Common.{◌≡◌, ◌≢◌, ℕ, ◌+◌, ◌<◌, Bool, true, false, ◌⊎◌, inl, inr, List, [], ◌∷◌, ◌++◌, length}
use Rattle.std.proofs.Common.{get_or, ap, sym, ◌∙◌, refl, arith, append_assoc, replicate, drop, map}
use Rattle.std.specs.Prelude.{slice_set, ◌==◌}
use Rattle.std.proofs.lemmas.Bool.{eqb-true, eq-eqb}
use Rattle.std.proofs.lemmas.Grind.{get_or-set_at}
use Rattle.std.proofs.lemmas.List.{append-nil, get_or-replicate, get_or-set_other, length-replicate, length-set}
use Rattle.std.proofs.lemmas.Option.{unwrap_or-slice_get}
use Rattle.run_chart.specs.Bars.{all_moments, moment_of, moments_at, moments_from, moments_of, with_moment}
use Rattle.run_chart.specs.Bars.{with_moments}
use Rattle.run_chart.specs.Rows.{place_at}
use Rattle.run_chart.specs.Sheets.{chart_row_shape}
use Rattle.run_chart.specs.declared.bars.ChartMoment.{ChartMoment}
use Rattle.run_chart.specs.declared.rows.ChartPlace.{ChartPlace}
use Rattle.run_chart.specs.declared.sheet.ChartRow.{ChartRow}
use Rattle.run_chart.proofs.Walks.{left_cut}

true_or_false : (b : Bool) → (b ≡ true) ⊎ (b ≡ false)
true_or_false true = inl refl
true_or_false false = inr refl

one_more : (sorted : List (List ChartMoment)) (moment : ChartMoment) (moments : List ChartMoment) (s : ℕ) →
    s < length sorted →
    moments_at (with_moment sorted moment) s ++ moments_of s moments
    ≡ moments_at sorted s ++ moments_of s (moment ∷ moments)
one_more sorted moment moments s lt =
    let value = moments_at sorted moment.host.0 ++ moment ∷ [] in
    let read = unwrap_or-slice_get (slice_set sorted moment.host.0 value) s [] in
    elim (true_or_false (moment.host.0 == s)) [
      | inl here ↦
          let same : moment.host.0 ≡ s = eqb-true moment.host.0 s here in
          let put : get_or (slice_set sorted moment.host.0 value) s [] ≡ value =
          get_or-set_at sorted moment.host.0 s value [] (sym same) (omega (arith, lt, same)) in
          let is : moments_at (with_moment sorted moment) s ≡ moments_at sorted s ++ moment ∷ [] =
          read ∙ put ∙ ap (λ (n : ℕ). moments_at sorted n ++ moment ∷ []) same in
          rw here
          (ap (λ (front : List ChartMoment). front ++ moments_of s moments) is
          ∙ append_assoc (moments_at sorted s) (moment ∷ []) (moments_of s moments))
      | inr elsewhere ↦
          let apart : s ≢ moment.host.0 = λ same. let no = eq-eqb moment.host.0 s (sym same) in cc in
          let kept : get_or (slice_set sorted moment.host.0 value) s [] ≡ get_or sorted s [] =
          get_or-set_other sorted moment.host.0 s value [] apart in
          let is : moments_at (with_moment sorted moment) s ≡ moments_at sorted s =
          read ∙ kept ∙ sym (unwrap_or-slice_get sorted s []) in
          rw elsewhere (ap (λ (front : List ChartMoment). front ++ moments_of s moments) is)
    ]

all_sorted : (sorted : List (List ChartMoment)) (moments : List ChartMoment) (s : ℕ) → s < length sorted →
    moments_at (with_moments sorted moments) s ≡ moments_at sorted s ++ moments_of s moments
all_sorted sorted [] s lt = sym (append-nil (moments_at sorted s))
all_sorted sorted (moment ∷ moments) s lt =
    let inside : s < length (with_moment sorted moment) =
    omega (arith, lt, length-set sorted moment.host.0 (moments_at sorted moment.host.0 ++ moment ∷ [])) in
    all_sorted (with_moment sorted moment) moments s inside ∙ one_more sorted moment moments s lt

-- those of each host are found at its number
pub sorted_at : (count : ℕ) (moments : List ChartMoment) (s : ℕ) → s < count →
    moments_at (all_moments count moments) s ≡ moments_of s moments
sorted_at count moments s lt =
    all_sorted (replicate count []) moments s (omega (arith, lt, length-replicate {A = List ChartMoment} count []))
    ∙ ap (λ (front : List ChartMoment). front ++ moments_of s moments)
    (unwrap_or-slice_get (replicate count []) s [] ∙ get_or-replicate count s [] [] lt)

-- the moment of one more row was sorted in
pub moment_more : (places : List ChartPlace) (rows : List ChartRow) (i : ℕ) (d x : ChartRow)
    (whole before after : List (List ChartMoment)) → i < length rows → x ≡ get_or rows i d →
    with_moments before (moments_from places i (map chart_row_shape (drop i rows))) ≡ whole →
    after ≡ with_moment before (moment_of (place_at places i).line (chart_row_shape x)) →
    with_moments after (moments_from places (i + 1) (map chart_row_shape (drop (i + 1) rows))) ≡ whole
moment_more places rows i d x whole before after lt is was added =
    let rest = moments_from places (i + 1) (map chart_row_shape (drop (i + 1) rows)) in
    ap (λ (all : List (List ChartMoment)). with_moments all rest) added
    ∙ sym (ap (λ (left : List ChartRow). with_moments before (moments_from places i (map chart_row_shape left)))
    (left_cut rows i d x lt is))
    ∙ was
