-- The texts in boxes, and how wide they are. All lengths are in pixels.
use Rattle.std.specs.Prelude.{ℕ, ◌+◌, ◌-◌, ◌*◌, Bool, true, false, if◌then◌else◌, List, [], ◌++◌, codes, length, pos}
use Rattle.std.specs.Prelude.{Option, Some, None, fold, max, min, slice_get}
use Rattle.std.specs.Fmt.{decimal, signed_decimal}
use Rattle.std.specs.Ordering.{int_eq}
use Rattle.std.specs.Str.{chars, encode_utf8_all}
use Rattle.drawing_text.specs.Letters.{cut, escaped}
use Rattle.drawing_text.specs.Widths.{small_room, small_width, wide_room, wide_width}
use Rattle.host_code.specs.Code.{CodeFieldShape, CodeHostShape, field_at}
use Rattle.js_base.specs.declared.ids.FieldId.{FieldId}
use Rattle.js_base.specs.declared.ids.HostId.{HostId}
use Rattle.label_lattice.specs.Printed.{printed_label}
use Rattle.label_lattice.specs.declared.label.Label.{Label}
use Rattle.statement_texts.specs.Short.{short}
use Rattle.statement_texts.specs.Texts.{StatementTextShape}
use Rattle.plan_picture.specs.Sheets.{SheetShape}

-- ---- widths

-- how wide a box has to be for so many letters of 12 and of 10.5 pixels; longer texts are cut
abbrev pub wide_need : ℕ → ℕ
wide_need letters = 16 + wide_width (min letters 46)

abbrev pub small_need : ℕ → ℕ
small_need letters = 16 + small_width (min letters 46)

-- how many letters have room in a box of a width, two at least
abbrev pub wide_letters : ℕ → ℕ
wide_letters width = max (wide_room (width - 16)) 2

abbrev pub small_letters : ℕ → ℕ
small_letters width = max (small_room (width - 16)) 2

-- ---- names and labels

abbrev pub name_letters : Option CodeHostShape → List ℕ
name_letters None = []
name_letters (Some host) = chars host.name

abbrev pub host_letters : SheetShape → HostId → List ℕ
host_letters sheet host = name_letters (slice_get sheet.code.hosts host.0)

abbrev pub label_letters : SheetShape → Label → List ℕ
label_letters sheet label = chars (printed_label sheet.principals label)

abbrev pub own_label : SheetShape → Option CodeHostShape → List ℕ
own_label sheet None = []
own_label sheet (Some host) = label_letters sheet host.label

abbrev pub host_label : SheetShape → HostId → List ℕ
host_label sheet host = own_label sheet (slice_get sheet.code.hosts host.0)

abbrev pub label_there : SheetShape → Option Label → List ℕ
label_there sheet None = []
label_there sheet (Some label) = label_letters sheet label

abbrev pub label_of : SheetShape → Option CodeFieldShape → List ℕ
label_of sheet None = []
label_of sheet (Some field) = label_there sheet (slice_get sheet.code.labels field.label)

abbrev pub field_label : SheetShape → FieldId → List ℕ
field_label sheet field = label_of sheet (field_at sheet.code field)

-- a field as it is declared: `NAME`, `NAME[SIZE]`, or `NAME = FIRST` where it does not start with 0
abbrev pub plain : CodeFieldShape → (zero : Bool) → List ℕ
plain field true = field.name
plain field false = field.name ++ (codes " = " ++ signed_decimal field.first)

abbrev pub declared : CodeFieldShape → List ℕ
declared field =
    if field.array then field.name ++ (codes "[" ++ (decimal field.size ++ codes "]"))
    else plain field (int_eq field.first (pos 0))

abbrev pub declared_letters : Option CodeFieldShape → List ℕ
declared_letters None = []
declared_letters (Some field) = chars (declared field)

abbrev pub field_letters : SheetShape → FieldId → List ℕ
field_letters sheet field = declared_letters (field_at sheet.code field)

-- ---- statements

abbrev pub statement_letters : StatementTextShape → List ℕ
statement_letters statement = short statement.otherwise (chars statement.text)

-- 14 for each block that a statement is in beyond the body of its method, up to eight
abbrev pub indent : StatementTextShape → ℕ
indent statement = 14 * min (statement.blocks - 1) 8

-- what is left free for the numbers of lines: 7 for each digit of the greatest
abbrev pub line_room : List ℕ → ℕ
line_room lines = 8 + 7 * min (length (decimal (fold max 0 lines))) 20

-- a text, of which so many letters have room
abbrev pub cut_text : List ℕ → (room : ℕ) → List ℕ
cut_text letters room = encode_utf8_all (escaped (cut room letters))
