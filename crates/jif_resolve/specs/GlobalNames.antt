-- How the names of the whole program are kept: all in order, and for each the declaration that stands first.
use Rattle.std.specs.Prelude.{◌≡◌, ℕ, Bool, true, List, [], ◌∷◌, ◌++◌, Option, Some, None}
use Rattle.std.specs.declared.alloc.Global.{Global as Heap}
use Rattle.std.specs.Option.{option_map}
use Rattle.std.specs.Bool.{nat_lt}
use Rattle.std.specs.Str.{bytes_eq}
use Rattle.std.specs.Map.{lookup}
use Rattle.std.specs.declared.string.String.{String}
use Rattle.std.specs.String.{string_bytes}
use Rattle.jif_resolve.specs.declared.globals.DeclaredName.{DeclaredName}
use Rattle.jif_resolve.specs.declared.globals.FirstName.{FirstName}
use Rattle.jif_grammar.specs.DraftShapes.{name_shape}
use Rattle.jif_resolve.specs.Meanings.{Global, first_named}

abbrev pub global_shape : DeclaredName → Global
global_shape declared = record { name = name_shape declared.name; meaning = declared.meaning }

abbrev pub first_name : Global → FirstName
first_name global = record { at = global.name.at; meaning = global.meaning }

abbrev pub FirstNames : Type 0
FirstNames = List (String Heap × FirstName)

abbrev pub name_in : FirstNames → List ℕ → Option FirstName
name_in entries name = lookup (λ key. bytes_eq name (string_bytes key)) entries

-- each name is kept with the one of its declarations that stands first
abbrev pub HasFirst : FirstNames → List Global → Type 0
HasFirst entries globals =
    (name : List ℕ) → name_in entries name ≡ option_map first_name (first_named name globals)

-- whatever was declared before, one more declaration was added
abbrev pub IsAdded : FirstNames → FirstNames → Global → Type 0
IsAdded old new global = (before : List Global) → HasFirst old before → HasFirst new (before ++ global ∷ [])

-- whether a declaration at this token stands before the one that was found
abbrev pub is_sooner : ℕ → Option FirstName → Bool
is_sooner at None = true
is_sooner at (Some other) = nat_lt at other.at
