-- How a script is printed: which hosts misbehave, the elements that start with another value than their field's, and
-- events.
use Rattle.std.specs.Prelude.{◌≡◌, ℕ, ◌+◌, ◌<◌, ◌==◌, ℤ, if◌then◌else◌, List, [], ◌∷◌, ◌++◌, map, length, All, codes}
use Rattle.std.specs.Prelude.{FitsSigned}
use Rattle.std.specs.Fmt.{decimal, signed_decimal}
use Rattle.std.specs.Int.{bit_at, w64}
use Rattle.std.specs.List.{flat_map, IsDistinct}
use Rattle.std.specs.Ordering.{int_eq}
use Rattle.std.specs.Str.{bytes_eq}
use Rattle.host_code.specs.Code.{CodeShape, CodeHostShape}
use Rattle.event_text.specs.declared.event.Event.{Event}
use Rattle.event_text.specs.EventText.{IsSaid, event_text}
use Rattle.event_text.specs.Settings.{FieldForm, form_of, HasRows}

-- ---- lines, without what ends them

-- a line for each host whose bit is set in a word, where the first host has this number
abbrev pub bad_lines : ℕ → ℕ → List CodeHostShape → List (List ℕ)
bad_lines word number [] = []
bad_lines word number (host ∷ hosts) =
    if bit_at word number == 1
    then (codes "bad " ++ host.name) ∷ bad_lines word (number + 1) hosts
    else bad_lines word (number + 1) hosts

-- `set FIELD VALUE` or `set ARRAY INDEX VALUE`
abbrev pub setting_text : FieldForm → ℕ → ℤ → List ℕ
setting_text field index value =
    if field.array
    then codes "set " ++ field.name ++ codes " " ++ decimal index ++ codes " " ++ signed_decimal value
    else codes "set " ++ field.name ++ codes " " ++ signed_decimal value

-- a line for each element that is not what the elements of the field start with, where the first has this index
abbrev pub row_lines : FieldForm → ℕ → List ℤ → List (List ℕ)
row_lines field index [] = []
row_lines field index (value ∷ values) =
    if int_eq value field.first
    then row_lines field (index + 1) values
    else setting_text field index value ∷ row_lines field (index + 1) values

abbrev pub setting_lines : List FieldForm → List (List ℤ) → List (List ℕ)
setting_lines [] rows = []
setting_lines (field ∷ fields) [] = []
setting_lines (field ∷ fields) (row ∷ rows) = row_lines field 0 row ++ setting_lines fields rows

-- the lines before the first event
abbrev pub front_lines : CodeShape → ℕ → List (List ℤ) → List (List ℕ)
front_lines code bad rows = bad_lines bad 0 code.hosts ++ setting_lines (map form_of code.fields) rows

-- ---- the script

-- a line feed ends each line
abbrev pub text_of_lines : List (List ℕ) → List ℕ
text_of_lines lines = flat_map (λ line. line ++ 10 ∷ []) lines

-- bit h of the word says that host h misbehaves
abbrev pub script_text : CodeShape → ℕ → List (List ℤ) → List Event → List ℕ
script_text code bad rows events =
    text_of_lines (front_lines code bad rows ++ map (event_text code) events)

-- events, each with the number of its line, where the first has this one
abbrev pub on_lines : ℕ → List Event → List (ℕ × Event)
on_lines number [] = []
on_lines number (event ∷ events) = (number, event) ∷ on_lines (number + 1) events

-- What a script of the code can say: no two hosts and no two fields have one name, hosts of the code misbehave, the
-- rows are of the fields' sizes and hold values of 64 bits, and where these hosts misbehave, some line says each event.
pub record IsPrintable (code : CodeShape) (bad : ℕ) (rows : List (List ℤ)) (events : List Event) : Type 0 where
  pub hosts : IsDistinct bytes_eq (map (λ host. host.name) code.hosts)
  pub fields : IsDistinct bytes_eq (map (λ field. field.name) code.fields)
  pub among : (number : ℕ) → bit_at bad number ≡ 1 → number < length code.hosts
  pub sizes : HasRows (map form_of code.fields) rows
  pub values : All (All (FitsSigned w64)) rows
  pub said : All (IsSaid code bad) events
