-- The lines that set starting values, over the fields of a code or of a program.
use Rattle.std.specs.Prelude.{◌≡◌, ℕ, ℤ, pos, Bool, not, nat_lt, if◌then◌else◌, List, [], ◌∷◌}
use Rattle.std.specs.Prelude.{map, length}
use Rattle.std.specs.Prelude.{replicate}
use Rattle.std.specs.Prelude.{Option, Some, None, slice_get, position, is_some, codes}
use Rattle.std.specs.Option.{option_and_then}
use Rattle.std.specs.Str.{bytes_eq}
use Rattle.jif_tree.specs.Store.{store_after_write}
use Rattle.host_code.specs.Code.{CodeFieldShape}
use Rattle.event_text.specs.declared.settings.Setting.{Setting}
use Rattle.event_text.specs.Lines.{LineShape}
use Rattle.event_text.specs.Numbers.{number_of, signed_of}

-- what scripts know of a field: its name, how many elements it has, whether it is an array, and what each element
-- starts with
pub record FieldForm : Type 0 where
  pub name : List ℕ
  pub size : ℕ
  pub array : Bool
  pub first : ℤ

-- what they know of a field of a code
abbrev pub form_of : CodeFieldShape → FieldForm
form_of field = record { name = field.name; size = field.size; array = field.array; first = field.first }

-- the place of the first field of the name
abbrev pub field_named : List FieldForm → List ℕ → Option ℕ
field_named fields word = position (λ field. bytes_eq word field.name) fields

-- the element of a field becomes a value
abbrev pub setting_at : ℕ → ℕ → ℤ → Setting
setting_at place index value = record { field = record { 0 = place }; index = index; value = value }

-- a setting of a field, where it is no array
abbrev pub of_plain : ℕ → ℤ → FieldForm → Option Setting
of_plain place value field = if not field.array then Some (setting_at place 0 value) else None

-- a setting of an element, where the field is an array and has the element
abbrev pub of_element : ℕ → ℕ → ℤ → FieldForm → Option Setting
of_element place index value field =
    if field.array
    then (if nat_lt index field.size then Some (setting_at place index value) else None)
    else None

abbrev pub plain_setting : List FieldForm → Option ℕ → Option ℤ → Option Setting
plain_setting fields (Some place) (Some value) = option_and_then (of_plain place value) (slice_get fields place)
plain_setting fields (Some place) None = None
plain_setting fields None value = None

abbrev pub element_setting : List FieldForm → Option ℕ → Option ℕ → Option ℤ → Option Setting
element_setting fields (Some place) (Some index) (Some value) =
    option_and_then (of_element place index value) (slice_get fields place)
element_setting fields (Some place) (Some index) None = None
element_setting fields (Some place) None value = None
element_setting fields None index value = None

-- the setting that the words say: `set FIELD VALUE` or `set ARRAY INDEX VALUE`
abbrev pub setting_of : List FieldForm → List (List ℕ) → Option Setting
setting_of fields (verb ∷ name ∷ value ∷ []) =
    if bytes_eq verb (codes "set") then plain_setting fields (field_named fields name) (signed_of value) else None
setting_of fields (verb ∷ name ∷ index ∷ value ∷ []) =
    if bytes_eq verb (codes "set")
    then element_setting fields (field_named fields name) (number_of index) (signed_of value)
    else None
setting_of fields other = None

-- ---- the settings that lines begin with

abbrev pub and_settings : Option Setting → List Setting → List Setting
and_settings None others = []
and_settings (Some setting) others = setting ∷ others

-- the settings of the lines, up to the first line that says none
abbrev pub settings_in_front : List FieldForm → List LineShape → List Setting
settings_in_front fields [] = []
settings_in_front fields (line ∷ others) =
    and_settings (setting_of fields line.words) (settings_in_front fields others)

-- the lines from the first on that says no setting
abbrev pub past_settings : List FieldForm → List LineShape → List LineShape
past_settings fields [] = []
past_settings fields (line ∷ others) =
    if is_some (setting_of fields line.words) then past_settings fields others else line ∷ others

-- ---- what they leave

-- what the elements of the fields start with where no line sets them
abbrev pub starting_rows : List FieldForm → List (List ℤ)
starting_rows fields = map (λ field. replicate field.size field.first) fields

abbrev pub after_setting : List (List ℤ) → Setting → List (List ℤ)
after_setting rows setting = store_after_write rows setting.field.0 (pos setting.index) setting.value

-- each element has the value of the last setting of it
abbrev pub after_settings : List (List ℤ) → List Setting → List (List ℤ)
after_settings rows [] = rows
after_settings rows (setting ∷ others) = after_settings (after_setting rows setting) others

-- a row for each field, with as many elements as the field has
abbrev pub HasRows : List FieldForm → List (List ℤ) → Type 0
HasRows fields rows = map length rows ≡ map (λ field. field.size) fields
