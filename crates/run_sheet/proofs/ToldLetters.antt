-- The numbers that rows tell are those of all that misbehaving hosts were sent, in order.
use Rattle.std.proofs.Common.{◌≡◌, ℕ, zero, suc, ◌+◌, List, [], ◌∷◌, ◌++◌, length, ap, refl, subst, ◌∙◌, arith}
use Rattle.std.proofs.Common.{Option, Some, None, slice_get, length-append}
use Rattle.std.specs.Option.{option_map}
use Rattle.std.specs.List.{cons_option, filter_map, range_with_len}
use Rattle.std.proofs.lemmas.List.{append_assoc}
use Rattle.host_code.specs.Code.{CodeShape}
use Rattle.net_world.specs.Told.{SentMessage}
use Rattle.run_chart.specs.Sheets.{ChartToldShape}
use Rattle.run_rows.specs.declared.row.Row.{Row}
use Rattle.run_sheet.specs.ChartLaws.{letters_told}
use Rattle.run_sheet.specs.ChartRows.{TrackShape, chart_rows, tracks_behind}
use Rattle.run_sheet.specs.RunEvents.{told_by, told_letter}
use Rattle.run_sheet.specs.RunSources.{RunSourceShape}

abbrev told_at : CodeShape → List SentMessage → ℕ → Option ChartToldShape
told_at code sent number = option_map (told_letter code number) (slice_get sent number)

told_first : (code : CodeShape) (sent : List SentMessage) (told : Option ℕ) (left : List ℕ) →
    cons_option (told_by code sent told) (filter_map (told_at code sent) left)
    ≡ filter_map (told_at code sent) (cons_option told left)
told_first code sent None left = refl
told_first code sent (Some number) left = refl

pub told_in_rows : (source : RunSourceShape) (lanes : List ℕ) (tracks : List TrackShape) (rows : List Row) →
    filter_map (λ row. row.told) (chart_rows source lanes tracks rows)
    ≡ filter_map (told_at source.code source.world.sent) (filter_map (λ row. row.told) rows)
told_in_rows source lanes tracks [] = refl
told_in_rows source lanes tracks (row ∷ rows) =
    ap (cons_option (told_by source.code source.world.sent row.told))
    (told_in_rows source lanes (tracks_behind source.code tracks row) rows)
    ∙ told_first source.code source.world.sent row.told (filter_map (λ (one : Row). one.told) rows)

at_middle : {X : Type 0} (front back : List X) (x : X) (n : ℕ) → n ≡ length front →
    slice_get (front ++ x ∷ back) n ≡ Some x
at_middle [] back x zero is = refl
at_middle [] back x (suc n) is = absurd (omega (arith, is))
at_middle (y ∷ front) back x zero is = absurd (omega (arith, is))
at_middle (y ∷ front) back x (suc n) is = at_middle front back x n (omega (arith, is))

letters_behind : (code : CodeShape) (front back : List SentMessage) (n : ℕ) → n ≡ length front →
    filter_map (told_at code (front ++ back)) (range_with_len n (length back)) ≡ letters_told code n back
letters_behind code front [] n is = refl
letters_behind code front (x ∷ back) n is =
    let here : told_at code (front ++ x ∷ back) n ≡ Some (told_letter code n x) =
    ap (option_map (told_letter code n)) (at_middle front back x n is) in
    let count : n + 1 ≡ length (front ++ x ∷ []) = omega (arith, is, length-append front (x ∷ [])) in
    let rest : filter_map (told_at code (front ++ x ∷ back)) (range_with_len (n + 1) (length back))
    ≡ letters_told code (n + 1) back =
    subst (λ (sent : List SentMessage). filter_map (told_at code sent) (range_with_len (n + 1) (length back))
    ≡ letters_told code (n + 1) back) (append_assoc front (x ∷ []) back)
    (letters_behind code (front ++ x ∷ []) back (n + 1) count) in
    ap (λ (o : Option ChartToldShape). cons_option o
    (filter_map (told_at code (front ++ x ∷ back)) (range_with_len (n + 1) (length back)))) here
    ∙ ap (λ (all : List ChartToldShape). told_letter code n x ∷ all) rest

pub all_told : (source : RunSourceShape) (lanes : List ℕ) (tracks : List TrackShape) (rows : List Row) →
    filter_map (λ row. row.told) rows ≡ range_with_len 0 (length source.world.sent) →
    filter_map (λ row. row.told) (chart_rows source lanes tracks rows)
    ≡ letters_told source.code 0 source.world.sent
all_told source lanes tracks rows numbers =
    told_in_rows source lanes tracks rows
    ∙ ap (filter_map (told_at source.code source.world.sent)) numbers
    ∙ letters_behind source.code [] source.world.sent 0 refl
