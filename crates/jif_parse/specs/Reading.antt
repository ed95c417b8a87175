-- What a reader of phrases leaves: it takes what is due away, or tells what the tokens are refused for.
use Rattle.std.specs.Prelude.{◌≡◌, ◌≤◌, ◌+◌, ◌⊎◌, ℕ, List, ◌∷◌, ◌++◌, Some, length}
use Rattle.std.specs.Prelude.{drop}
use Rattle.js_base.specs.declared.limits.TheConstants.{NESTING}
use Rattle.jif_lex.specs.declared.token.Token.{Token}
use Rattle.jif_lex.specs.declared.token.TokenKind.{TokenKind}
use Rattle.jif_lex.specs.declared.token.TokenKind.TheVariants.{Name}
use Rattle.jif_lex.specs.declared.token.Symbol as symbols
use Rattle.label_lattice.specs.Written.{kinds, symbol}
use Rattle.jif_grammar.specs.Marks.{Beginning, Tally, after_beginning}
use Rattle.jif_grammar.specs.Programs.{Refusal, unexpected, too_deep, too_many}
use Rattle.jif_grammar.specs.Nesting.{Nested}
use Rattle.jif_grammar.specs.Verdicts.{going, refusal_from, Excess, excess, excess_at}
use Rattle.jif_parse.specs.declared.cursor.Cursor.{Cursor}
use Rattle.jif_parse.specs.declared.parse_error.ParseError.{ParseError}
use Rattle.jif_parse.specs.declared.parse_error.ParseError.TheVariants as fault
use Rattle.jif_parse.specs.Counting.{IsTally, HasCounted}

-- ---- single tokens

-- the tokens behind the next
abbrev pub behind : Cursor → List Token
behind cursor = drop 1 cursor.rest.now

abbrev pub IsNext : Cursor → Token → Type 0
IsNext cursor token = cursor.rest.now ≡ token ∷ behind cursor

abbrev pub IsNextKind : Cursor → TokenKind → Type 0
IsNextKind cursor kind = kinds cursor.rest.now ≡ kind ∷ kinds (behind cursor)

abbrev pub IsNextSymbol : Cursor → symbols.Symbol → Type 0
IsNextSymbol cursor written = IsNextKind cursor (symbol written)

-- some name is next
abbrev pub IsNextName : Cursor → Type 0
IsNextName cursor = (name : List ℕ) × IsNextKind cursor (Name name)

-- so many tokens further
pub record Moves (old new : Cursor) (count : ℕ) : Type 0 where
  pub rest : new.rest.now ≡ drop count old.rest.now
  pub at : new.at ≡ old.at + count

-- One token further, where one is left; and the counts as this says.
pub record Steps (old new : Cursor) : Type 0 where
  pub rest : new.rest.now ≡ behind old
  pub at : new.at + length new.rest.now ≡ old.at + length old.rest.now

-- behind the next token, with no more counted
pub record Passes (old new : Cursor) : Type 0 where
  pub steps : Steps old new
  pub counts : new.counts ≡ old.counts

-- behind the next token, at which something begins, within the limits
pub record Counted (old new : Cursor) (nesting : ℕ) (beginning : Beginning) : Type 0 where
  pub steps : Steps old new
  pub counted : HasCounted old.counts new.counts beginning
  pub nested : nesting ≤ NESTING

-- ---- what was due

-- What was due becomes what is left, and whatever is due later the tokens are refused for the same cause, or for none.
pub record Takes (old new : Cursor) (due left : List Nested) : Type 0 where
  pub same : (later : List Nested) (t : Tally) → IsTally old.counts t → (after : Tally) × IsTally new.counts after
      × (refusal_from (going (due ++ later) t) old.at (kinds old.rest.now)
      ≡ refusal_from (going (left ++ later) after) new.at (kinds new.rest.now))

-- Whatever is due later, the tokens are refused.
abbrev pub Refuses : Cursor → List Nested → Refusal → Type 0
Refuses old due refusal =
    (later : List Nested) (t : Tally) → IsTally old.counts t →
    refusal_from (going (due ++ later) t) old.at (kinds old.rest.now) ≡ Some refusal

-- the refusal that an error tells, and which no want of memory is
abbrev pub IsErrorOf : Refusal → ParseError → Type 0
IsErrorOf (unexpected n) error = error ≡ fault.Unexpected n
IsErrorOf (too_deep n) error = error ≡ fault.TooDeep n
IsErrorOf (too_many what n) error = error ≡ fault.TooMany what n

-- memory ran out, or the tokens are refused
pub record Fails (old : Cursor) (due : List Nested) (error : ParseError) : Type 0 where
  pub why :
      (error ≡ fault.OutOfMemory) ⊎ ((refusal : Refusal) × IsErrorOf refusal error × Refuses old due refusal)

-- a limit is passed at the next token, where this begins
abbrev pub IsOver : Cursor → ℕ → Beginning → ParseError → Type 0
IsOver old nesting beginning error =
    (passed : Excess) × IsErrorOf (excess_at passed old.at) error × ((t : Tally) → IsTally old.counts t →
    excess (record (after_beginning t beginning) { nesting = nesting }) ≡ Some passed)
