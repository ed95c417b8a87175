-- The head of one more host.
use Rattle.std.proofs.Common.{◌≡◌, ℕ, ◌+◌, ◌<◌, Bool, List, [], ◌∷◌, ◌++◌, length, get_or, drop, map, ap, sym, ◌∙◌}
use Rattle.std.specs.String.{string_bytes}
use Rattle.run_chart.specs.Columns.{is_wide, stand_of, stands_from}
use Rattle.run_chart.specs.Sheets.{ChartSheetShape, chart_host_shape}
use Rattle.run_chart.specs.declared.columns.ChartStand.{ChartStand}
use Rattle.run_chart.specs.declared.sheet.ChartHost.{ChartHost}
use Rattle.run_chart.proofs.Walks.{left_cut, written}

pub stand_more : (sheet : ChartSheetShape) (hosts : List ChartHost) (i left next : ℕ) (d x : ChartHost) (wide : Bool)
    (stand : ChartStand) (whole before after : List ChartStand) → i < length hosts → x ≡ get_or hosts i d →
    wide ≡ is_wide sheet i (chart_host_shape x) → stand ≡ stand_of left (string_bytes x.label) wide →
    after ≡ before ++ stand ∷ [] → next ≡ left + stand.width + 32 →
    before ++ stands_from sheet i left (map chart_host_shape (drop i hosts)) ≡ whole →
    after ++ stands_from sheet (i + 1) next (map chart_host_shape (drop (i + 1) hosts)) ≡ whole
stand_more sheet hosts i left next d x wide stand whole before after lt is wide_is stand_is pushed next_is was =
    let rest = map chart_host_shape (drop (i + 1) hosts) in
    let own : stand ≡ stand_of left (string_bytes x.label) (is_wide sheet i (chart_host_shape x)) =
    stand_is ∙ ap (λ (w : Bool). stand_of left (string_bytes x.label) w) wide_is in
    let opened : stands_from sheet i left (map chart_host_shape (drop i hosts))
    ≡ stand ∷ stands_from sheet (i + 1) next rest =
    ap (λ (all : List ChartHost). stands_from sheet i left (map chart_host_shape all)) (left_cut hosts i d x lt is)
    ∙ ap (λ (s : ChartStand). s ∷ stands_from sheet (i + 1) (left + s.width + 32) rest) (sym own)
    ∙ ap (λ (n : ℕ). stand ∷ stands_from sheet (i + 1) n rest) (sym next_is) in
    written whole before (stand ∷ []) (stands_from sheet (i + 1) next rest) after
    (ap (λ (all : List ChartStand). before ++ all) (sym opened) ∙ was) pushed
