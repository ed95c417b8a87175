-- What a name may stand for, and what the names of the whole program stand for.
use Rattle.std.specs.Prelude.{ℕ, suc, Bool, true, false, not, ◌&&◌, ◌==◌, if◌then◌else◌, List, []}
use Rattle.std.specs.Prelude.{◌∷◌, ◌++◌, length, Option, Some, None, codes}
use Rattle.std.specs.Option.{option_map}
use Rattle.std.specs.Bool.{nat_lt}
use Rattle.std.specs.Str.{bytes_eq}
use Rattle.js_base.specs.declared.ids.MethodId.{MethodId}
use Rattle.jif_grammar.specs.DraftShapes.{NameShape, LabelShape, FieldShape, MethodShape, DraftShape}
use Rattle.jif_resolve.specs.declared.meaning.Meaning.{Meaning}
use Rattle.jif_resolve.specs.declared.meaning.Meaning.TheVariants as sense

-- a name that is known in the whole program
pub record Global : Type 0 where
  pub name : NameShape
  pub meaning : Meaning

abbrev pub has_result : Option LabelShape → Bool
has_result None = false
has_result (Some label) = true

abbrev pub field_meaning : ℕ → FieldShape → Meaning
field_meaning number field =
    if field.array then sense.Array (record { 0 = number }) else sense.Plain (record { 0 = number })

abbrev pub method_meaning : ℕ → MethodShape → Meaning
method_meaning number method = sense.Method (record { 0 = number }) (length method.params) (has_result method.result)

-- the names of fields, of which the first has this number
abbrev pub fields_from : ℕ → List FieldShape → List Global
fields_from number [] = []
fields_from number (field ∷ fields) =
    record { name = field.name; meaning = field_meaning number field } ∷ fields_from (suc number) fields

-- the names of methods, of which the first has this number
abbrev pub methods_from : ℕ → List MethodShape → List Global
methods_from number [] = []
methods_from number (method ∷ methods) =
    record { name = method.name; meaning = method_meaning number method } ∷ methods_from (suc number) methods

-- fields, arrays and methods share one name space
abbrev pub globals_of : DraftShape → List Global
globals_of draft = fields_from 0 draft.fields ++ methods_from 0 draft.methods

-- the one of two that stands first in the text
abbrev pub earlier_of : Global → Option Global → Global
earlier_of global None = global
earlier_of global (Some other) = if nat_lt other.name.at global.name.at then other else global

-- of those with this name the one that stands first in the text
abbrev pub first_named : List ℕ → List Global → Option Global
first_named name [] = None
first_named name (global ∷ globals) =
    if bytes_eq name global.name.text then Some (earlier_of global (first_named name globals))
    else first_named name globals

-- what a name stands for in the whole program
abbrev pub global_meaning : List Global → List ℕ → Option Meaning
global_meaning globals name = option_map (λ global. global.meaning) (first_named name globals)

-- `void main` without parameters
abbrev pub is_main : MethodShape → Bool
is_main method =
    bytes_eq method.name.text (codes "main") && (length method.params == 0 && not (has_result method.result))

abbrev pub main_from : ℕ → List MethodShape → Option MethodId
main_from number [] = None
main_from number (method ∷ methods) =
    if is_main method then Some (record { 0 = number }) else main_from (suc number) methods

abbrev pub main_of : DraftShape → Option MethodId
main_of draft = main_from 0 draft.methods
