-- The boxes of a picture: one in each row, and for each host one in the row of the heads.
use Rattle.std.specs.Prelude.{ℕ, ◌+◌, ◌-◌, ◌==◌, Bool, true, false, if◌then◌else◌, List, [], ◌∷◌, ◌++◌, codes, length}
use Rattle.std.specs.Prelude.{flat_map, Option, Some, None, slice_get, slice_index, unwrap_or}
use Rattle.std.specs.Fmt.{decimal}
use Rattle.std.specs.List.{range_with_len}
use Rattle.std.specs.Str.{chars, encode_utf8_all}
use Rattle.drawing_text.specs.Letters.{escaped}
use Rattle.host_code.specs.MessageText.{host_text}
use Rattle.js_base.specs.declared.ids.FieldId.{FieldId}
use Rattle.js_base.specs.declared.ids.HostId.{HostId}
use Rattle.js_base.specs.declared.ids.StmtId.{StmtId}
use Rattle.plan_layout.specs.Columns as layout
use Rattle.plan_ways.specs.declared.relays.Relay.{Relay}
use Rattle.plan_ways.specs.declared.relays.RelayRole.{RelayRole}
use Rattle.plan_ways.specs.declared.relays.RelayRole.TheVariants as role
use Rattle.statement_texts.specs.Texts.{StatementTextShape}
use Rattle.plan_picture.specs.Columns.{has_part}
use Rattle.plan_picture.specs.Paths.{Grid}
use Rattle.plan_picture.specs.Sheets.{SheetShape}
use Rattle.plan_picture.specs.Texts.{cut_text, field_label, field_letters, host_label, host_letters, indent}
use Rattle.plan_picture.specs.Texts.{small_letters, statement_letters, wide_letters}
use Rattle.plan_picture.specs.declared.boxes.Place.{Place}
use Rattle.plan_picture.specs.declared.rows.Row.{Row}
use Rattle.plan_picture.specs.declared.rows.Standing.{Standing}
use Rattle.plan_picture.specs.declared.rows.Standing.TheVariants as standing

-- ---- what boxes are made of

-- a box of a class begins with what is shown beside the pointer
abbrev pub open_text : List ℕ → Place → List ℕ
open_text class place =
    codes "<svg class='" ++ (class ++ (codes "' x='" ++ (decimal place.x ++ (codes "' y='" ++ (decimal place.y
    ++ (codes "' width='" ++ (decimal place.width ++ (codes "' height='" ++ (decimal place.height
    ++ codes "'><title>")))))))))

-- its edge, with corners of this radius
abbrev pub frame_text : Place → (radius : ℕ) → List ℕ
frame_text place radius =
    codes "</title><rect x='.5' y='.5' width='" ++ (decimal (place.width - 1) ++ (codes "' height='"
    ++ (decimal (place.height - 1) ++ (codes "' rx='" ++ (decimal radius ++ codes "'/>")))))

-- a text of a style in it, of which so many letters have room
abbrev pub label_open : List ℕ → (x y : ℕ) → List ℕ
label_open style x y =
    codes "<text class='" ++ (style ++ (codes "' x='" ++ (decimal x ++ (codes "' y='" ++ (decimal y ++ codes "'>")))))

abbrev pub label_text : List ℕ → (x y : ℕ) → List ℕ → (room : ℕ) → List ℕ
label_text style x y letters room = label_open style x y ++ (cut_text letters room ++ codes "</text>")

abbrev pub whole_text : List ℕ → List ℕ
whole_text letters = encode_utf8_all (escaped letters)

-- a word, a name and a label
abbrev pub named_text : (word name label : List ℕ) → List ℕ
named_text word name label = word ++ (whole_text name ++ (codes " " ++ whole_text label))

abbrev pub close_text : List ℕ
close_text = codes "</svg>\n"

-- ---- heads of hosts

-- the label of a host that has a part
abbrev pub part_text : (part : Bool) → (label : List ℕ) → (width : ℕ) → List ℕ
part_text false label width = []
part_text true label width = label_text (codes "s d") 8 35 label (small_letters width)

abbrev pub head_inside : (name label : List ℕ) → (part : Bool) → (width : ℕ) → List ℕ
head_inside name label part width =
    label_text (codes "b") 8 18 name (wide_letters width) ++ part_text part label width

abbrev pub head_text : (name label : List ℕ) → (part : Bool) → Place → List ℕ
head_text name label part place =
    open_text (codes "host") place ++ (named_text (codes "host ") name label ++ (frame_text place 4
    ++ (head_inside name label part place.width ++ close_text)))

-- where a box of a host is, in the row of a number and of this height
abbrev pub place_of : Grid → HostId → (row height : ℕ) → Place
place_of grid host row height = record {
  x = layout.left_of grid.columns host;
  y = slice_index grid.places.starts row;
  width = layout.width_of grid.columns host;
  height = height;
}

abbrev pub head_of : SheetShape → Grid → List Row → ℕ → List ℕ
head_of sheet grid rows number =
    head_text (host_letters sheet (record { 0 = number })) (host_label sheet (record { 0 = number }))
    (has_part (record { 0 = number }) rows) (place_of grid (record { 0 = number }) 0 44)

abbrev pub heads_text : SheetShape → Grid → List Row → List ℕ
heads_text sheet grid rows = flat_map (head_of sheet grid rows) (range_with_len 0 (length sheet.code.hosts))

-- ---- fields

abbrev pub field_inside : (name label : List ℕ) → (width : ℕ) → List ℕ
field_inside name label width =
    label_text (codes "b") 8 17 name (wide_letters width)
    ++ label_text (codes "s d") 8 32 label (small_letters width)

abbrev pub field_text : (name label : List ℕ) → Place → List ℕ
field_text name label place =
    open_text (codes "field") place ++ (named_text (codes "field ") name label ++ (frame_text place 4
    ++ (field_inside name label place.width ++ close_text)))

abbrev pub field_of : SheetShape → FieldId → Place → List ℕ
field_of sheet field place = field_text (field_letters sheet field) (field_label sheet field) place

-- ---- statements

abbrev pub statement_title : (number line : ℕ) → List ℕ
statement_title number line =
    codes "statement " ++ (decimal number ++ (codes " line " ++ (decimal line ++ codes ": ")))

abbrev pub mark_text : (released : Bool) → List ℕ
mark_text false = []
mark_text true = codes "<rect class='mark' x='1' y='1' width='5' height='32'/>"

-- the number of a line, which ends here
abbrev pub line_text : (x line : ℕ) → List ℕ
line_text x line =
    codes "<text class='s d' x='" ++ (decimal x ++ (codes "' y='21' text-anchor='end'>" ++ (decimal line
    ++ codes "</text>")))

-- the head of a method is bold
abbrev pub style_of : StatementTextShape → List ℕ
style_of text = if text.blocks == 0 then codes "b" else codes "c"

abbrev pub short_label : StatementTextShape → (room width : ℕ) → List ℕ
short_label text room width =
    label_text (style_of text) (8 + (room + indent text)) 21 (statement_letters text)
    (wide_letters (width - (room + indent text)))

abbrev pub titled_text : StatementTextShape → (number line : ℕ) → List ℕ
titled_text text number line = statement_title number line ++ whole_text (chars text.text)

abbrev pub statement_inside : StatementTextShape → (line : ℕ) → (released : Bool) → (room width : ℕ) → List ℕ
statement_inside text line released room width =
    mark_text released ++ (line_text (room + 2) line ++ short_label text room width)

-- a statement of a number on a line, where so much is left free for the numbers of lines
abbrev pub statement_text :
    StatementTextShape → (number line : ℕ) → (released : Bool) → (room : ℕ) → Place → List ℕ
statement_text text number line released room place =
    open_text (codes "statement") place ++ (titled_text text number line ++ (frame_text place 4
    ++ (statement_inside text line released room place.width ++ close_text)))

-- nothing where there is no such statement
abbrev pub statement_there :
    Option StatementTextShape → (number line : ℕ) → (released : Bool) → (room : ℕ) → Place → List ℕ
statement_there None number line released room place = []
statement_there (Some text) number line released room place = statement_text text number line released room place

abbrev pub statement_of : SheetShape → StmtId → (room : ℕ) → Place → List ℕ
statement_of sheet statement room place =
    statement_there (slice_get sheet.texts statement.0) statement.0 (slice_index sheet.lines statement.0)
    (unwrap_or (slice_get sheet.released statement.0) false) room place

-- ---- relays

abbrev pub role_text : RelayRole → List ℕ
role_text role.End = codes "end"
role_text role.GivesBack = codes "gives back"
role_text role.HandsOn = codes "hands on"

abbrev pub relay_title : (entry : ℕ) → (host : List ℕ) → List ℕ
relay_title entry host = codes "entry e" ++ (decimal entry ++ (codes " of " ++ host))

abbrev pub relay_inside : List ℕ → List ℕ
relay_inside does = codes "<text class='s d p' x='12' y='15'>" ++ (does ++ codes "</text>")

abbrev pub relay_text : Relay → (host : List ℕ) → Place → List ℕ
relay_text relay host place =
    open_text (codes "relay") place ++ (relay_title relay.entry.0 host ++ (frame_text place 10
    ++ (relay_inside (role_text relay.role) ++ close_text)))

-- ---- rows

abbrev pub box_text : SheetShape → Grid → (room number : ℕ) → HostId → Standing → List ℕ
box_text sheet grid room number host (standing.OfField field) =
    field_of sheet field (place_of grid host number 40)
box_text sheet grid room number host (standing.OfStatement statement) =
    statement_of sheet statement room (place_of grid host number 34)
box_text sheet grid room number host (standing.OfRelay relay) =
    relay_text relay (host_text sheet.code relay.host) (place_of grid host number 22)

-- the boxes of these rows, of which the first has this number
abbrev pub boxes_text : SheetShape → Grid → (room number : ℕ) → List Row → List ℕ
boxes_text sheet grid room number [] = []
boxes_text sheet grid room number (row ∷ rows) =
    box_text sheet grid room number row.host row.standing ++ boxes_text sheet grid room (number + 1) rows
