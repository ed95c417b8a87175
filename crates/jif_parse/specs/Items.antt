-- Reading fields and methods.
use Rattle.std.specs.Prelude.{◌≡◌, ◌⊎◌, ℕ, List, [], ◌∷◌, ◌++◌, length, Some, None}
use Rattle.jif_tree.specs.declared.draft.Draft.{Draft}
use Rattle.label_lattice.specs.Written.{kinds}
use Rattle.jif_grammar.specs.Phrases.{ItemPhrase, field, method, ProgramPhrase}
use Rattle.jif_grammar.specs.Grouping.{IsItem, IsProgram}
use Rattle.jif_grammar.specs.Marks.{Tally}
use Rattle.jif_grammar.specs.Nesting.{Nested}
use Rattle.jif_grammar.specs.Verdicts.{going, refusal_from}
use Rattle.jif_grammar.specs.Spelling.{item_spelling}
use Rattle.jif_grammar.specs.DraftShapes.{field_shape, method_shape, draft_shape}
use Rattle.jif_grammar.specs.Drafts.{field_at, method_at, fields_at, methods_at}
use Rattle.jif_grammar.specs.Unmarked.{item_then, program_then}
use Rattle.jif_grammar.specs.Programs.{Refusal}
use Rattle.jif_parse.specs.declared.cursor.Cursor.{Cursor}
use Rattle.jif_parse.specs.declared.items.ItemDraft.{ItemDraft}
use Rattle.jif_parse.specs.declared.items.ItemDraft.TheVariants as draft
use Rattle.jif_parse.specs.declared.parse_error.ParseError.{ParseError}
use Rattle.jif_parse.specs.declared.parse_error.ParseError.TheVariants as fault
use Rattle.jif_parse.specs.Counting.{IsTally}
use Rattle.jif_parse.specs.Reading.{Moves, IsErrorOf}
use Rattle.jif_parse.specs.Statements.{HasLines}

-- Where nothing was due, this is. Nothing is due later.
pub record TakesWhole (old new : Cursor) (left : List Nested) : Type 0 where
  pub same : (t : Tally) → IsTally old.counts t → (after : Tally) × IsTally new.counts after
      × (refusal_from (going [] t) old.at (kinds old.rest.now)
      ≡ refusal_from (going left after) new.at (kinds new.rest.now))

-- memory ran out, or the tokens are refused where nothing was due
pub record FailsWhole (old : Cursor) (error : ParseError) : Type 0 where
  pub why : (error ≡ fault.OutOfMemory) ⊎ ((refusal : Refusal) × IsErrorOf refusal error × ((t : Tally) →
      IsTally old.counts t → refusal_from (going [] t) old.at (kinds old.rest.now) ≡ Some refusal))

-- it is the draft of the field or method at this place
abbrev pub IsItemDraft : (ℕ → ℕ) → ℕ → ItemPhrase → ItemDraft → Type 0
IsItemDraft lines at (field phrase) (draft.Field made) = field_shape made ≡ field_at at phrase
IsItemDraft lines at (method phrase) (draft.Method made) = method_shape made ≡ method_at lines at phrase
IsItemDraft lines at phrase made = ⊥

pub record ReadsItem (old new : Cursor) (made : ItemDraft) : Type 0 where
  pub item : ItemPhrase
  pub sound : IsItem item
  pub written : kinds old.rest.now ≡ item_then item (kinds new.rest.now)
  pub draft_is : (lines : ℕ → ℕ) → HasLines lines old → IsItemDraft lines old.at item made
  pub moves : Moves old new (length (item_spelling item))
  pub takes : TakesWhole old new []

abbrev pub FailsItem : Cursor → ParseError → Type 0
FailsItem old error = FailsWhole old error

-- the draft has one more field or method
abbrev pub HasAdded : Draft → Draft → ItemDraft → Type 0
HasAdded old new (draft.Field made) =
    (new.fields.items ≡ old.fields.items ++ made ∷ []) × (new.methods.items ≡ old.methods.items)
HasAdded old new (draft.Method made) =
    (new.fields.items ≡ old.fields.items) × (new.methods.items ≡ old.methods.items ++ made ∷ [])

-- all that is left is a program
pub record ReadsItems (old : Cursor) (made : Draft) : Type 0 where
  pub program : ProgramPhrase
  pub sound : IsProgram program
  pub written : kinds old.rest.now ≡ program_then program []
  pub draft_is : (lines : ℕ → ℕ) → HasLines lines old →
      draft_shape made ≡ record { fields = fields_at old.at program; methods = methods_at lines old.at program }
  pub accepted : (t : Tally) → IsTally old.counts t → refusal_from (going [] t) old.at (kinds old.rest.now) ≡ None
