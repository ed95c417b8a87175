-- What tokens are refused for, found token by token.
use Rattle.std.specs.Prelude.{ℕ, ◌+◌, nat_lt, ◌||◌, if◌then◌else◌, List, [], ◌∷◌, Option, Some}
use Rattle.std.specs.Prelude.{None}
use Rattle.jif_lex.specs.declared.token.Token.{Token}
use Rattle.jif_lex.specs.declared.token.TokenKind.{TokenKind}
use Rattle.js_base.specs.declared.limits.TheConstants.{FIELDS, METHODS, PARAMETERS, VARIABLES, STATEMENTS}
use Rattle.js_base.specs.declared.limits.TheConstants.{EXPRESSION_NODES, ARRAY_SIZE, ELEMENTS, NESTING}
use Rattle.label_lattice.specs.Written.{kinds}
use Rattle.jif_grammar.specs.declared.what.What.{What}
use Rattle.jif_grammar.specs.declared.what.What.TheVariants.{Fields, Methods, Parameters, Locals, Statements, Nodes}
use Rattle.jif_grammar.specs.declared.what.What.TheVariants.{Elements}
use Rattle.jif_grammar.specs.Marks.{Marked, Tally, tally_at_start, after_token}
use Rattle.jif_grammar.specs.Programs.{Refusal, unexpected, too_deep, too_many}
use Rattle.jif_grammar.specs.Nesting.{Nested, nested_next}

-- a limit that is passed
pub data Excess : Type 0 where
  of_nesting : Excess
  of_count : What → Excess

abbrev pub excess_at : Excess → ℕ → Refusal
excess_at of_nesting n = too_deep n
excess_at (of_count what) n = too_many what n

-- the first limit that is passed, in the order in which they come at one token
abbrev pub excess : Tally → Option Excess
excess t =
    if nat_lt NESTING t.nesting then Some of_nesting
    else if nat_lt METHODS t.methods then Some (of_count Methods)
    else if nat_lt STATEMENTS t.statements then Some (of_count Statements)
    else if nat_lt PARAMETERS t.parameters then Some (of_count Parameters)
    else if nat_lt VARIABLES t.variables then Some (of_count Locals)
    else if nat_lt EXPRESSION_NODES t.nodes then Some (of_count Nodes)
    else if nat_lt FIELDS t.fields then Some (of_count Fields)
    else if nat_lt ARRAY_SIZE t.size || nat_lt ELEMENTS t.elements then Some (of_count Elements)
    else None

-- What is due after the first tokens, and what has begun; or what they are refused for.
pub data Walk : Type 0 where
  going : List Nested → Tally → Walk
  refused : Refusal → Walk

abbrev pub walk_within : Option Excess → List Nested → Tally → ℕ → Walk
walk_within (Some passed) due t n = refused (excess_at passed n)
walk_within None due t n = going due t

abbrev pub walk_behind : Option (Marked × List Nested) → Tally → ℕ → Walk
walk_behind None t n = refused (unexpected n)
walk_behind (Some (token, due)) t n = walk_within (excess (after_token t token)) due (after_token t token) n

-- with one more token, whose number is n
abbrev pub walk_on : List Nested → Tally → ℕ → TokenKind → Walk
walk_on due t n kind = walk_behind (nested_next due kind) t n

-- What the tokens are refused for that begin with token n; `None` where they end what is due, and whatever follows it
-- is whole, and all within the limits.
abbrev pub refusal_from : Walk → ℕ → List TokenKind → Option Refusal
refusal_from (refused refusal) n kinds = Some refusal
refusal_from (going due t) n (kind ∷ kinds) = refusal_from (walk_on due t n kind) (n + 1) kinds
refusal_from (going [] t) n [] = None
refusal_from (going (first ∷ later) t) n [] = Some (unexpected n)

-- what tokens are refused for, and `None` where they are a program
abbrev pub refusal_of : List Token → Option Refusal
refusal_of tokens = refusal_from (going [] tally_at_start) 0 (kinds tokens)
