-- The heads of a chart's columns, and the lifelines below them.
use Rattle.std.specs.Prelude.{ℕ, ◌+◌, ◌-◌, Bool, true, false, List, [], ◌∷◌, ◌++◌, codes}
use Rattle.std.specs.Fmt.{decimal}
use Rattle.drawing_text.specs.Widths.{small_room, wide_room}
use Rattle.run_chart.specs.Columns.{column_at}
use Rattle.run_chart.specs.Sheets.{ChartHostShape}
use Rattle.run_chart.specs.Texts.{cut_text, whole_text}
use Rattle.run_chart.specs.declared.columns.ChartColumn.{ChartColumn}

-- ---- heads

abbrev pub class_of_head : (misbehaves : Bool) → List ℕ
class_of_head true = codes "host bad"
class_of_head false = codes "host"

abbrev pub head_open : (class : List ℕ) → (x y width : ℕ) → List ℕ
head_open class x y width =
    codes "<svg class='" ++ (class ++ (codes "' x='" ++ (decimal x ++ (codes "' y='" ++ (decimal y
    ++ (codes "' width='" ++ (decimal width ++ codes "' height='44'><title>host ")))))))

abbrev pub head_title : (name label : List ℕ) → List ℕ
head_title name label = whole_text name ++ (codes " " ++ whole_text label)

abbrev pub head_frame : (width : ℕ) → List ℕ
head_frame width =
    codes "</title><rect x='.5' y='.5' width='" ++ (decimal (width - 1) ++ codes "' height='43' rx='4'/>")

-- a name has less room where it stands beside `misbehaves`
abbrev pub name_room : (misbehaves : Bool) → (width : ℕ) → ℕ
name_room true width = wide_room (width - 16) - 12
name_room false width = wide_room (width - 16)

abbrev pub name_text : (name : List ℕ) → (room : ℕ) → List ℕ
name_text name room = codes "<text class='b' x='8' y='18'>" ++ (cut_text name room ++ codes "</text>")

abbrev pub misbehaves_text : (misbehaves : Bool) → (width : ℕ) → List ℕ
misbehaves_text false width = []
misbehaves_text true width =
    codes "<text class='s p' x='" ++ (decimal (width - 8) ++ codes "' y='18' text-anchor='end'>misbehaves</text>")

-- a narrow head has no label
abbrev pub label_where : (wide : Bool) → (label : List ℕ) → (width : ℕ) → List ℕ
label_where false label width = []
label_where true label width =
    codes "<text class='s d' x='8' y='35'>" ++ (cut_text label (small_room (width - 16)) ++ codes "</text>")

abbrev pub head_inside : ChartColumn → ChartHostShape → List ℕ
head_inside column host =
    name_text host.name (name_room host.misbehaves column.width)
    ++ (misbehaves_text host.misbehaves column.width
    ++ (label_where column.wide host.label column.width ++ codes "</svg>\n"))

abbrev pub head_text : (y : ℕ) → ChartColumn → ChartHostShape → List ℕ
head_text y column host =
    head_open (class_of_head host.misbehaves) column.left y column.width ++ (head_title host.name host.label
    ++ (head_frame column.width ++ head_inside column host))

-- the heads of these hosts on their columns; the first host has this number
abbrev pub heads_text : (y : ℕ) → List ChartColumn → (number : ℕ) → List ChartHostShape → List ℕ
heads_text y columns number [] = []
heads_text y columns number (host ∷ hosts) =
    head_text y (column_at columns number) host ++ heads_text y columns (number + 1) hosts

-- ---- lifelines

abbrev pub class_of_life : (misbehaves : Bool) → List ℕ
class_of_life true = codes "life bad"
class_of_life false = codes "life"

abbrev pub life_text : (class : List ℕ) → (x from to : ℕ) → List ℕ
life_text class x from to =
    codes "<path class='" ++ (class ++ (codes "' d='M" ++ (decimal x ++ (codes " " ++ (decimal from ++ (codes "V"
    ++ (decimal to ++ codes "'/>\n")))))))

-- a narrow column has none
abbrev pub life_where : (wide : Bool) → (class : List ℕ) → (x from to : ℕ) → List ℕ
life_where false class x from to = []
life_where true class x from to = life_text class x from to

abbrev pub life_of : (from to : ℕ) → ChartColumn → (misbehaves : Bool) → List ℕ
life_of from to column misbehaves = life_where column.wide (class_of_life misbehaves) column.middle from to

-- those of these hosts, of which the first has this number
abbrev pub lives_text : (from to : ℕ) → List ChartColumn → (number : ℕ) → List ChartHostShape → List ℕ
lives_text from to columns number [] = []
lives_text from to columns number (host ∷ hosts) =
    life_of from to (column_at columns number) host.misbehaves ++ lives_text from to columns (number + 1) hosts
