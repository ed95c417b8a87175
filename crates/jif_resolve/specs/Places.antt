-- What stands before a place in a method: the names that are taken, the locals that are known, and how far it is
-- counted.
use Rattle.std.specs.Prelude.{ℕ, ◌+◌, Bool, if◌then◌else◌, List, [], ◌∷◌, ◌++◌, map, length}
use Rattle.std.specs.Prelude.{Option, Some}
use Rattle.std.specs.Prelude.{None}
use Rattle.std.specs.List.{sum_by}
use Rattle.std.specs.Str.{bytes_eq}
use Rattle.js_base.specs.declared.ids.VarId.{VarId}
use Rattle.principals.specs.ActsFor.{Declared}
use Rattle.jif_grammar.specs.DraftShapes.{NameShape, BlockShape, ParamShape, MethodShape}
use Rattle.jif_resolve.specs.Counts.{locals_in, statements_in, calls_in}
use Rattle.jif_resolve.specs.Meanings.{Global, has_result, global_meaning}
use Rattle.jif_resolve.specs.declared.meaning.Meaning.{Meaning}
use Rattle.jif_resolve.specs.declared.meaning.Meaning.TheVariants as sense

-- what every place of a method has in common
pub record Setting : Type 0 where
  pub principals : Declared
  pub globals : List Global
  -- whether the method has a result
  pub gives : Bool

-- a name of a parameter or a local, and its variable
pub record Known : Type 0 where
  pub name : List ℕ
  pub variable : VarId

pub record Place : Type 0 where
  -- the number of the method's first variable
  pub first : ℕ
  -- the names of all parameters and locals before it, also of blocks that have ended
  pub earlier : List (List ℕ)
  -- the parameters and locals that are known there
  pub known : List Known
  -- the number of the next statement
  pub statement : ℕ
  -- the number of the next call site
  pub site : ℕ

-- ---- from a place to the next

-- the variable that is declared next
abbrev pub next_variable : Place → VarId
next_variable place = record { 0 = place.first + length place.earlier }

-- a variable is declared, and known from here on
abbrev pub after_variable : Place → NameShape → Place
after_variable place name = record place {
  earlier = place.earlier ++ name.text ∷ [];
  known = record { name = name.text; variable = next_variable place } ∷ place.known;
}

abbrev pub after_params : Place → List ParamShape → Place
after_params place [] = place
after_params place (param ∷ params) = after_params (after_variable place param.name) params

abbrev pub after_statement : Place → Place
after_statement place = record place { statement = place.statement + 1 }

abbrev pub after_call : Place → Place
after_call place = record place { statement = place.statement + 1; site = place.site + 1 }

-- the local is known from the statement after its declaration
abbrev pub after_declaration : Place → NameShape → Place
after_declaration place name = after_statement (after_variable place name)

-- behind a block its locals are no longer known, but their names stay taken
abbrev pub after_block : Place → BlockShape → Place
after_block place block = record place {
  earlier = place.earlier ++ map (λ local. local.name.text) (locals_in block);
  statement = place.statement + statements_in block;
  site = place.site + calls_in block;
}

-- ---- where a method begins

-- parameters, locals, and the result where there is one
abbrev pub variables_in : MethodShape → ℕ
variables_in method =
    length method.params + length (locals_in method.body) + (if has_result method.result then 1 else 0)

-- the head of a method counts as a statement
abbrev pub numbered_in : MethodShape → ℕ
numbered_in method = 1 + statements_in method.body

-- how much stands in these methods
abbrev pub counted : (MethodShape → ℕ) → List MethodShape → ℕ
counted amount methods = sum_by amount methods

-- the head of the method after these; call sites are counted from 1
abbrev pub head_after : List MethodShape → Place
head_after before = record {
  first = counted variables_in before;
  earlier = [];
  known = [];
  statement = counted numbered_in before;
  site = 1 + counted (λ method. calls_in method.body) before;
}

-- where the body of a method begins whose head stands at this place
abbrev pub body_place : Place → MethodShape → Place
body_place head method = after_statement (after_params head method.params)

-- ---- names

abbrev pub known_variable : List Known → List ℕ → Option VarId
known_variable [] name = None
known_variable (local ∷ known) name =
    if bytes_eq name local.name then Some local.variable else known_variable known name

abbrev pub local_or_global : Option VarId → Option Meaning → Option Meaning
local_or_global None global = global
local_or_global (Some variable) global = Some (sense.Variable variable)

-- what a name stands for at a place, where it stands for something
abbrev pub meaning_at : Setting → Place → List ℕ → Option Meaning
meaning_at setting place name =
    local_or_global (known_variable place.known name) (global_meaning setting.globals name)
