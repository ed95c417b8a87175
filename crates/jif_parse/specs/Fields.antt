-- Reading what follows the name of a field.
use Rattle.std.specs.Prelude.{◌≡◌, ◌<◌, ◌+◌, ℕ, ℤ, pos, Bool, List, [], ◌∷◌, length}
use Rattle.jif_lex.specs.declared.token.TokenKind.TheVariants.{Number}
use Rattle.jif_lex.specs.declared.token.Symbol.TheVariants.{RightBracket, Semicolon}
use Rattle.label_lattice.specs.Written.{kinds, symbol}
use Rattle.jif_grammar.specs.Phrases.{FieldEnd, set}
use Rattle.jif_grammar.specs.Grouping.{IsFieldEnd}
use Rattle.jif_grammar.specs.Spelling.{field_end_spelling, sign_of_number}
use Rattle.jif_grammar.specs.Due as due
use Rattle.jif_grammar.specs.Due.{exactly}
use Rattle.jif_grammar.specs.Nesting.{Nested, nested_at}
use Rattle.jif_grammar.specs.Drafts.{size_of, is_array, first_value}
use Rattle.jif_grammar.specs.Unmarked.{field_end_then, sign_then}
use Rattle.jif_parse.specs.declared.cursor.Cursor.{Cursor}
use Rattle.jif_parse.specs.declared.fields.FieldEnding.{FieldEnding}
use Rattle.jif_parse.specs.declared.parse_error.ParseError.{ParseError}
use Rattle.jif_parse.specs.declared.parse_error.ParseError.TheVariants as fault
use Rattle.jif_parse.specs.Reading.{Moves, Takes, Fails, Passes, IsNextKind}

-- up to the semicolon
pub record ReadsFieldEnd (old new : Cursor) (draft : FieldEnding) : Type 0 where
  pub ending : FieldEnd
  pub sound : IsFieldEnd ending
  pub written : kinds old.rest.now ≡ field_end_then ending (kinds new.rest.now)
  pub size_is : draft.size ≡ size_of ending
  pub array_is : draft.array ≡ is_array ending
  pub first_is : draft.first ≡ first_value ending
  pub moves : Moves old new (length (field_end_spelling ending))
  pub takes : Takes old new (nested_at 0 due.after_name ∷ []) []

abbrev pub FailsFieldEnd : Cursor → ParseError → Type 0
FailsFieldEnd old error = Fails old (nested_at 0 due.after_name ∷ []) error

abbrev pub size_due : List Nested
size_due =
    nested_at 0 due.a_size ∷ nested_at 0 (exactly due.right_bracket) ∷ nested_at 0 (exactly due.semicolon) ∷ []

pub record ReadsSize (old new : Cursor) (size : ℕ) : Type 0 where
  pub some : 0 < size
  pub written : kinds old.rest.now
      ≡ Number (pos size) ∷ symbol RightBracket ∷ symbol Semicolon ∷ kinds new.rest.now
  pub moves : Moves old new 3
  pub takes : Takes old new size_due []

abbrev pub FailsSize : Cursor → ParseError → Type 0
FailsSize old error = Fails old size_due error

-- a number with its sign
pub record ReadsFirst (old new : Cursor) (value : ℤ) : Type 0 where
  pub negative : Bool
  pub first : ℕ
  pub written : kinds old.rest.now ≡ sign_then negative
      (Number (pos first) ∷ symbol Semicolon ∷ kinds new.rest.now)
  pub value_is : value ≡ first_value (set negative first)
  pub moves : Moves old new (length (sign_of_number negative) + 2)
  pub takes : Takes old new (nested_at 0 due.first_value ∷ []) []

abbrev pub FailsFirst : Cursor → ParseError → Type 0
FailsFirst old error = Fails old (nested_at 0 due.first_value ∷ []) error

-- a number alone
pub record ReadsNumber (old new : Cursor) (value : ℤ) : Type 0 where
  pub number : ℕ
  pub value_is : value ≡ pos number
  pub written : kinds old.rest.now ≡ Number (pos number) ∷ kinds new.rest.now
  pub passes : Passes old new

abbrev pub FailsNumber : Cursor → ParseError → Type 0
FailsNumber old error =
    (error ≡ fault.Unexpected old.at) × ((number : ℕ) → ¬ IsNextKind old (Number (pos number)))
