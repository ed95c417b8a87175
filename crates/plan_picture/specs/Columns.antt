-- How wide the column of each host is.
use Rattle.std.specs.Prelude.{ℕ, ◌==◌, Bool, true, false, ◌||◌, if◌then◌else◌, List, [], ◌∷◌, length, map, max}
use Rattle.std.specs.List.{range_with_len}
use Rattle.js_base.specs.declared.ids.HostId.{HostId}
use Rattle.plan_picture.specs.Sheets.{SheetShape}
use Rattle.plan_picture.specs.Texts.{host_label, host_letters, small_need, wide_need}
use Rattle.plan_picture.specs.declared.rows.Row.{Row}

-- whether some row is in the column of a host
abbrev pub has_part : HostId → List Row → Bool
has_part host [] = false
has_part host (row ∷ rows) = row.host.0 == host.0 || has_part host rows

-- the widest of the boxes in the column of a host, or more
abbrev pub widest : HostId → (least : ℕ) → List Row → ℕ
widest host least [] = least
widest host least (row ∷ rows) = widest host (if row.host.0 == host.0 then max least row.width else least) rows

-- the head of a host with a part has its label too; others are narrow
abbrev pub head_width : SheetShape → HostId → (part : Bool) → ℕ
head_width sheet host true =
    max (max (wide_need (length (host_letters sheet host))) (small_need (length (host_label sheet host)))) 120
head_width sheet host false = max (wide_need (length (host_letters sheet host))) 56

abbrev pub width_of : SheetShape → List Row → HostId → ℕ
width_of sheet rows host = widest host (head_width sheet host (has_part host rows)) rows

-- the widths of the columns of all hosts
abbrev pub widths_of : SheetShape → List Row → List ℕ
widths_of sheet rows =
    map (λ number. width_of sheet rows (record { 0 = number })) (range_with_len 0 (length sheet.code.hosts))
