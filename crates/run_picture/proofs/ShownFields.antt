-- Where the chart shows a field.
use Rattle.std.proofs.Common.{◌≡◌, ◌∙◌, ℕ, zero, suc, ◌+◌, ◌<◌, Bool, true, false, List, [], ◌∷◌, ◌++◌, length, map}
use Rattle.std.proofs.Common.{Some, refl, ap, sym, subst, arith}
use Rattle.std.specs.Prelude.{◌==◌, if◌then◌else◌, slice_get}
use Rattle.std.specs.List.{Contains, range_with_len}
use Rattle.std.specs.Option.{option_map}
use Rattle.std.proofs.Common.{eq-eqb}
use Rattle.std.proofs.lemmas.List.Elements.{Contains-append_left, Contains-append_right}
use Rattle.std.proofs.lemmas.Option.{slice_get-map}
use Rattle.host_code.specs.Code.{CodeFieldShape, CodeShape}
use Rattle.js_base.specs.declared.ids.HostId.{HostId}
use Rattle.js_base.proofs.Options.{some_same}
use Rattle.net_world.specs.World.{WorldShape}
use Rattle.run_chart.specs.Sheets.{ChartFieldShape}
use Rattle.run_sheet.specs.ChartColumns.{chart_column, chart_columns}
use Rattle.run_sheet.specs.FieldMarks.{chart_field, chart_fields}
use Rattle.run_sheet.specs.RunSources.{RunSourceShape}

-- ---- hosts

abbrev as_host : ℕ → HostId
as_host number = record { 0 = number }

host_numbered : (number count place : ℕ) → place < count →
    slice_get (map as_host (range_with_len number count)) place ≡ Some (as_host (number + place))
host_numbered number zero place within = absurd (omega (arith, within))
host_numbered number (suc count) zero within =
    ap (λ (n : ℕ). Some (as_host n)) (let same : number ≡ number + 0 = omega arith in same)
host_numbered number (suc count) (suc place) within =
    host_numbered (number + 1) count place (omega (arith, within))
    ∙ ap (λ (n : ℕ). Some (as_host n)) (let same : number + 1 + place ≡ number + suc place = omega arith in same)

pub column_there : (source : RunSourceShape) (bad : List HostId) (host : HostId) →
    host.0 < length source.code.hosts →
    slice_get (chart_columns source bad) host.0 ≡ Some (chart_column source bad host)
column_there source bad host within =
    slice_get-map (chart_column source bad) (map as_host (range_with_len 0 (length source.code.hosts))) host.0
    ∙ ap (option_map (chart_column source bad))
    (host_numbered 0 (length source.code.hosts) host.0 within
    ∙ ap (λ (n : ℕ). Some (as_host n)) (let same : 0 + host.0 ≡ host.0 = omega arith in same))

-- ---- fields

alone : (test : Bool) (one : ChartFieldShape) → test ≡ true → Contains (if test then one ∷ [] else []) one
alone true one is = (0, omega arith, refl)
alone false one is = absurd (let no = is in cc)

pub field_there : (code : CodeShape) (world : WorldShape) (bad : List HostId) (host : HostId) (number : ℕ)
    (fields : List CodeFieldShape) (place at : ℕ) (field : CodeFieldShape) → at ≡ number + place →
    slice_get fields place ≡ Some field → field.host.0 ≡ host.0 →
    Contains (chart_fields code world bad host number fields) (chart_field code world bad at field)
field_there code world bad host number [] place at field is there on = absurd (cc)
field_there code world bad host number (first ∷ fields) zero at field is there on =
    let same : first ≡ field = some_same _ first field refl there in
    let here : at ≡ number = omega (arith, is) in
    let shown = chart_field code world bad number first in
    let moved : shown ≡ chart_field code world bad at field =
    ap (λ (f : CodeFieldShape). chart_field code world bad number f) same
    ∙ ap (λ (n : ℕ). chart_field code world bad n field) (sym here) in
    let test : (first.host.0 == host.0) ≡ true =
    eq-eqb first.host.0 host.0 (ap (λ (f : CodeFieldShape). f.host.0) same ∙ on) in
    let front = if first.host.0 == host.0 then shown ∷ [] else [] in
    let behind = chart_fields code world bad host (number + 1) fields in
    subst (Contains (front ++ behind)) moved
    (Contains-append_left front behind shown (alone (first.host.0 == host.0) shown test))
field_there code world bad host number (first ∷ fields) (suc place) at field is there on =
    Contains-append_right
    (if first.host.0 == host.0 then chart_field code world bad number first ∷ [] else [])
    (chart_fields code world bad host (number + 1) fields) (chart_field code world bad at field)
    (field_there code world bad host (number + 1) fields place at field (omega (arith, is)) there on)
