-- Reading the parts of a label, one by one.
use Rattle.std.specs.Prelude.{◌≡◌, ◌≤◌, ◌+◌, ℕ, Bool, true, false, List, [], ◌∷◌, map, length}
use Rattle.js_base.specs.declared.limits.TheConstants.{NESTING}
use Rattle.jif_lex.specs.declared.token.Symbol as symbols
use Rattle.jif_lex.specs.declared.token.Symbol.TheVariants.{RightBrace, Semicolon, Comma}
use Rattle.jif_tree.specs.declared.draft.NameDraft.{NameDraft}
use Rattle.jif_tree.specs.declared.draft.PolicyDraft.{PolicyDraft}
use Rattle.label_lattice.specs.Written.{kinds, symbol, policy, trust, part_tokens, names_tokens}
use Rattle.jif_grammar.specs.Due.{Due, a_part, readers, after_reader, members, after_member}
use Rattle.jif_grammar.specs.Nesting.{Nested, nested_at}
use Rattle.jif_grammar.specs.DraftShapes.{name_shape, policy_shape}
use Rattle.jif_grammar.specs.Drafts.{name_at, names_at}
use Rattle.jif_grammar.specs.Unmarked.{names_then, part_then}
use Rattle.jif_parse.specs.declared.cursor.Cursor.{Cursor}
use Rattle.jif_parse.specs.declared.parse_error.ParseError.{ParseError}
use Rattle.jif_parse.specs.Reading.{IsNextName, IsNextSymbol, Moves, Takes, Fails}

-- ---- names, or none

abbrev pub behind_readers : List (List ℕ) → Due
behind_readers [] = readers
behind_readers (name ∷ names) = after_reader

abbrev pub behind_members : List (List ℕ) → Due
behind_members [] = members
behind_members (name ∷ names) = after_member

-- what follows goes on with no more names
abbrev pub EndsNames : List (List ℕ) → Cursor → Type 0
EndsNames [] cursor = ¬ IsNextName cursor
EndsNames (name ∷ names) cursor = ¬ IsNextSymbol cursor Comma

pub record ReadsAnyNames (old new : Cursor) (drafts : List NameDraft) : Type 0 where
  pub names : List (List ℕ)
  pub written : kinds old.rest.now ≡ names_then names (kinds new.rest.now)
  pub drafts_are : map name_shape drafts ≡ names_at old.at names
  pub moves : Moves old new (length (names_tokens names))
  pub ends : EndsNames names new
  pub takes_readers : (depth : ℕ) → depth ≤ NESTING →
      Takes old new (nested_at depth readers ∷ []) (nested_at depth (behind_readers names) ∷ [])
  pub takes_members : (depth : ℕ) → depth ≤ NESTING →
      Takes old new (nested_at depth members ∷ []) (nested_at depth (behind_members names) ∷ [])

pub record FailsAnyNames (old : Cursor) (error : ParseError) : Type 0 where
  pub readers : (depth : ℕ) → depth ≤ NESTING → Fails old (nested_at depth readers ∷ []) error
  pub members : (depth : ℕ) → depth ≤ NESTING → Fails old (nested_at depth members ∷ []) error

-- ---- parts

-- what ends a policy: a semicolon where there are more parts
abbrev pub part_end : Bool → symbols.Symbol
part_end true = Semicolon
part_end false = RightBrace

abbrev pub parts_left : Bool → ℕ → List Nested
parts_left true depth = nested_at depth a_part ∷ []
parts_left false depth = []

abbrev pub FailsPart : Cursor → ParseError → Type 0
FailsPart old error = (depth : ℕ) → depth ≤ NESTING → Fails old (nested_at depth a_part ∷ []) error

-- a policy with what ends it
pub record ReadsPolicy (old new : Cursor) (draft : PolicyDraft) (more : Bool) : Type 0 where
  pub owner : List ℕ
  pub readers : List (List ℕ)
  pub written : kinds old.rest.now ≡ part_then (policy owner readers) (symbol (part_end more) ∷ kinds new.rest.now)
  pub draft_is : policy_shape draft ≡ record { owner = name_at old.at owner; readers = names_at (old.at + 2) readers }
  pub moves : Moves old new (length (part_tokens (policy owner readers)) + 1)
  pub takes : (depth : ℕ) → depth ≤ NESTING →
      Takes old new (nested_at depth a_part ∷ []) (parts_left more depth)

-- who trusts, with the brace behind them
pub record ReadsTrust (old new : Cursor) (drafts : List NameDraft) : Type 0 where
  pub members : List (List ℕ)
  pub written : kinds old.rest.now ≡ part_then (trust members) (symbol RightBrace ∷ kinds new.rest.now)
  pub drafts_are : map name_shape drafts ≡ names_at (old.at + 2) members
  pub moves : Moves old new (length (part_tokens (trust members)) + 1)
  pub takes : (depth : ℕ) → depth ≤ NESTING → Takes old new (nested_at depth a_part ∷ []) []
