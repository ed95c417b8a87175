-- Which tokens are a program, and for what other tokens are refused.
use Rattle.std.specs.Prelude.{◌≡◌, ℕ, ◌+◌, ◌<◌, ◌≤◌, ◌⊎◌, List, ◌++◌, length, map, take}
use Rattle.std.specs.Prelude.{get_or}
use Rattle.jif_lex.specs.declared.token.Token.{Token}
use Rattle.jif_lex.specs.declared.token.TokenKind.{TokenKind}
use Rattle.label_lattice.specs.Written.{kinds}
use Rattle.jif_grammar.specs.declared.what.What.{What}
use Rattle.jif_grammar.specs.declared.what.What.TheVariants.{Fields, Methods, Parameters, Locals, Statements, Nodes}
use Rattle.jif_grammar.specs.declared.what.What.TheVariants.{Elements}
use Rattle.jif_grammar.specs.Phrases.{ProgramPhrase}
use Rattle.jif_grammar.specs.Marks.{Marked, Tally, tally, IsTooDeep, HasTooMany}
use Rattle.jif_grammar.specs.Spelling.{spelling}
use Rattle.jif_grammar.specs.Grouping.{IsProgram}
use Rattle.jif_grammar.specs.DraftShapes.{DraftShape}
use Rattle.jif_grammar.specs.Drafts.{draft_of}

-- the tokens without their marks
abbrev pub token_kinds : List Marked → List TokenKind
token_kinds tokens = map (λ token. token.kind) tokens

-- ---- programs

-- the tokens are these phrases, whatever their number
pub record Spells (tokens : List Token) (program : ProgramPhrase) : Type 0 where
  pub is_program : IsProgram program
  pub written : kinds tokens ≡ token_kinds (spelling program)

-- a program begins with these tokens
pub record GoesOn (tokens : List Token) (program : ProgramPhrase) : Type 0 where
  pub is_program : IsProgram program
  pub rest : List TokenKind
  pub written : kinds tokens ++ rest ≡ token_kinds (spelling program)

-- some program begins with these tokens
abbrev pub IsBeginning : List Token → Type 0
IsBeginning tokens = (program : ProgramPhrase) × GoesOn tokens program

-- what has begun in a program at its n-th token, that token included
abbrev pub tally_at : ProgramPhrase → ℕ → Tally
tally_at program n = tally (take (n + 1) (spelling program))

-- nothing passes its limit
pub record IsWithin (t : Tally) : Type 0 where
  pub nesting : ¬ IsTooDeep t
  pub counts : (what : What) → ¬ HasTooMany what t

-- the first n tokens of the program pass no limit
abbrev pub IsWithinUpTo : ProgramPhrase → ℕ → Type 0
IsWithinUpTo program n = (m : ℕ) → m < n → IsWithin (tally_at program m)

abbrev pub IsWithinLimits : ProgramPhrase → Type 0
IsWithinLimits program = IsWithinUpTo program (length (spelling program))

-- the tokens are a program of these phrases
pub record IsProgramText (tokens : List Token) (program : ProgramPhrase) : Type 0 where
  pub spells : Spells tokens program
  pub limits : IsWithinLimits program

-- the line of each token
abbrev pub line_at : List Token → ℕ → ℕ
line_at tokens n = get_or (map (λ token. token.line) tokens) n 0

-- the tokens are a program with this draft
pub record IsProgramOf (tokens : List Token) (draft : DraftShape) : Type 0 where
  pub program : ProgramPhrase
  pub text : IsProgramText tokens program
  pub draft_is : draft ≡ draft_of (line_at tokens) program

-- ---- refusals

-- at a token, or at the end
pub data Refusal : Type 0 where
  unexpected : ℕ → Refusal
  too_deep : ℕ → Refusal
  too_many : What → ℕ → Refusal

abbrev pub place : Refusal → ℕ
place (unexpected n) = n
place (too_deep n) = n
place (too_many what n) = n

-- which comes first at one token
abbrev pub rank_of_what : What → ℕ
rank_of_what Methods = 1
rank_of_what Statements = 2
rank_of_what Parameters = 3
rank_of_what Locals = 4
rank_of_what Nodes = 5
rank_of_what Fields = 6
rank_of_what Elements = 7

abbrev pub rank : Refusal → ℕ
rank (too_deep n) = 0
rank (too_many what n) = rank_of_what what
rank (unexpected n) = 8

abbrev pub ComesBefore : Refusal → Refusal → Type 0
ComesBefore first second =
    (place first < place second) ⊎ ((place first ≡ place second) × (rank first < rank second))

-- whatever program goes on from the first tokens has this at the last of them
pub record IsCertain (tokens : List Token) (n : ℕ) (P : Tally → Type 0) : Type 0 where
  pub there : n < length tokens
  pub begins : IsBeginning (take (n + 1) tokens)
  pub certain : (program : ProgramPhrase) → GoesOn (take (n + 1) tokens) program → P (tally_at program n)

-- the first tokens are a beginning, and with one more they are none; at the end they are no program
pub record IsUnexpected (tokens : List Token) (n : ℕ) : Type 0 where
  pub within : n ≤ length tokens
  pub begins : IsBeginning (take n tokens)
  pub no_further : n < length tokens → ¬ IsBeginning (take (n + 1) tokens)
  pub not_whole : (program : ProgramPhrase) → n ≡ length tokens → ¬ Spells tokens program

abbrev pub IsFault : List Token → Refusal → Type 0
IsFault tokens (unexpected n) = IsUnexpected tokens n
IsFault tokens (too_deep n) = IsCertain tokens n IsTooDeep
IsFault tokens (too_many what n) = IsCertain tokens n (HasTooMany what)

-- the tokens are refused for their first fault
pub record IsRefused (tokens : List Token) (refusal : Refusal) : Type 0 where
  pub fault : IsFault tokens refusal
  pub first : (other : Refusal) → IsFault tokens other → ¬ ComesBefore other refusal
