-- What is told of a part of a program that no host may hold: where it is written, and what it is.
use Rattle.std.specs.Prelude.{ℕ, Bool, ◌==◌, if◌then◌else◌, List, [], ◌++◌, codes, slice_get, slice_index}
use Rattle.std.specs.Prelude.{Option, Some, None}
use Rattle.std.specs.List.{list_any}
use Rattle.js_base.specs.declared.ids.FieldId.{FieldId}
use Rattle.js_base.specs.declared.ids.StmtId.{StmtId}
use Rattle.jif_lex.specs.declared.token.Token.{Token}
use Rattle.jif_grammar.specs.DraftShapes.{DraftShape, FieldShape}
use Rattle.explain_texts.specs.DraftPlaces.{PlacesShape, draft_places}
use Rattle.explain_texts.specs.Heads.{told}
use Rattle.explain_texts.specs.Told.{ToldShape}
use Rattle.explain_texts.specs.TokenTexts.{token_place, token_text}

-- ---- fields

abbrev pub field_words : FieldShape → List ℕ
field_words field = if field.array then codes "array " ++ field.name.text else codes "field " ++ field.name.text

abbrev pub field_part : List Token → Option FieldShape → ToldShape
field_part tokens None = told None (codes "no host may hold a field") []
field_part tokens (Some field) =
    told (token_place tokens field.name.at) (codes "no host may hold " ++ field_words field) []

abbrev pub field_told : List Token → DraftShape → FieldId → ToldShape
field_told tokens draft field = field_part tokens (slice_get draft.fields field.0)

-- ---- statements and heads

-- A head is written at its method's name.
abbrev pub is_head : PlacesShape → ℕ → Bool
is_head places token = list_any (λ other. other == token) places.methods

abbrev pub statement_words : List Token → PlacesShape → ℕ → List ℕ
statement_words tokens places token =
    if is_head places token then codes "the head of " ++ token_text tokens token else codes "this statement"

abbrev pub statement_part : List Token → PlacesShape → ℕ → ToldShape
statement_part tokens places token =
    told (token_place tokens token) (codes "no host may hold " ++ statement_words tokens places token) []

abbrev pub statement_told : List Token → DraftShape → StmtId → ToldShape
statement_told tokens draft statement =
    statement_part tokens (draft_places draft) (slice_index (draft_places draft).statements statement.0)
