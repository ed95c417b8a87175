-- What stands behind `=` is an expression where no name and parenthesis are next.
use Rattle.std.proofs.Common.{◌≡◌, ℕ, ◌+◌, List, [], ◌∷◌, Option, Some, None, refl, ap, pos, negsuc}
use Rattle.jif_lex.specs.declared.token.Token.{Token}
use Rattle.jif_lex.specs.declared.token.TokenKind.{TokenKind}
use Rattle.jif_lex.specs.declared.token.TokenKind.TheVariants as token
use Rattle.jif_lex.specs.declared.token.Symbol.TheVariants as symbols
use Rattle.label_lattice.specs.Written.{kinds, symbol}
use Rattle.jif_grammar.specs.Due as due
use Rattle.jif_grammar.specs.Due.{operand, at_semicolon, after_value_name, after_operand_name}
use Rattle.jif_grammar.specs.Marks.{Tally, mark, node, after_token}
use Rattle.jif_grammar.specs.Nesting.{Nested, nested_at}
use Rattle.jif_grammar.specs.Verdicts.{Excess, going, excess, refusal_from, walk_on, walk_within}
use Rattle.jif_parse.specs.declared.cursor.Cursor.{Cursor}
use Rattle.jif_parse.specs.Reading.{Takes}
use Rattle.jif_parse.specs.Statements.{IsCallNext}

same_behind_name : (depth : ℕ) (later : List Nested) (t : Tally) (n : ℕ) (kind : TokenKind) (rest : List TokenKind) →
    ¬ (kind ≡ symbol symbols.LeftParenthesis) →
    refusal_from (walk_on (nested_at depth after_value_name ∷ later) t n kind) (n + 1) rest
    ≡ refusal_from (walk_on (nested_at depth (after_operand_name at_semicolon) ∷ later) t n kind) (n + 1) rest
same_behind_name depth later t n (token.Name name) rest unlike = refl
same_behind_name depth later t n (token.Number number) rest unlike = refl
same_behind_name depth later t n (token.Word word) rest unlike = refl
same_behind_name depth later t n (token.Symbol symbols.LeftParenthesis) rest unlike = absurd (unlike refl)
same_behind_name depth later t n (token.Symbol _) rest unlike = refl

same_at_name : (depth : ℕ) (later : List Nested) (t : Tally) (n : ℕ) (tokens : List Token) →
    ((rest : List TokenKind) → ¬ (kinds tokens ≡ symbol symbols.LeftParenthesis ∷ rest)) →
    refusal_from (going (nested_at depth after_value_name ∷ later) t) n (kinds tokens)
    ≡ refusal_from (going (nested_at depth (after_operand_name at_semicolon) ∷ later) t) n (kinds tokens)
same_at_name depth later t n [] unlike = refl
same_at_name depth later t n (next ∷ tokens) unlike =
    same_behind_name depth later t n next.kind (kinds tokens)
    (λ is. unlike (kinds tokens) (ap (λ k. k ∷ kinds tokens) is))

same_within : (depth : ℕ) (later : List Nested) (t : Tally) (n : ℕ) (tokens : List Token) (passed : Option Excess) →
    ((rest : List TokenKind) → ¬ (kinds tokens ≡ symbol symbols.LeftParenthesis ∷ rest)) →
    refusal_from (walk_within passed (nested_at depth after_value_name ∷ later) t n) (n + 1) (kinds tokens)
    ≡ refusal_from (walk_within passed (nested_at depth (after_operand_name at_semicolon) ∷ later) t n) (n + 1)
    (kinds tokens)
same_within depth later t n tokens (Some passed) unlike = refl
same_within depth later t n tokens None unlike = same_at_name depth later t (n + 1) tokens unlike

same_from_kind : (depth : ℕ) (later : List Nested) (t : Tally) (n : ℕ) (kind : TokenKind) (tokens : List Token) →
    ((name : List ℕ) (rest : List TokenKind) →
    ¬ (kind ∷ kinds tokens ≡ token.Name name ∷ symbol symbols.LeftParenthesis ∷ rest)) →
    refusal_from (walk_on (nested_at depth due.value ∷ later) t n kind) (n + 1) (kinds tokens)
    ≡ refusal_from (walk_on (nested_at depth (operand at_semicolon) ∷ later) t n kind) (n + 1) (kinds tokens)
same_from_kind depth later t n (token.Name name) tokens unlike =
    let after = after_token t (mark node depth (token.Name name)) in
    same_within depth later after n tokens (excess after)
    (λ rest is. unlike name rest (ap (λ ks. token.Name name ∷ ks) is))
same_from_kind depth later t n (token.Number (pos number)) tokens unlike = refl
same_from_kind depth later t n (token.Number (negsuc number)) tokens unlike = refl
same_from_kind depth later t n (token.Word word) tokens unlike = refl
same_from_kind depth later t n (token.Symbol written) tokens unlike = refl

same_value : (depth : ℕ) (later : List Nested) (t : Tally) (n : ℕ) (tokens : List Token) →
    ((name : List ℕ) (rest : List TokenKind) →
    ¬ (kinds tokens ≡ token.Name name ∷ symbol symbols.LeftParenthesis ∷ rest)) →
    refusal_from (going (nested_at depth due.value ∷ later) t) n (kinds tokens)
    ≡ refusal_from (going (nested_at depth (operand at_semicolon) ∷ later) t) n (kinds tokens)
same_value depth later t n [] unlike = refl
same_value depth later t n (next ∷ tokens) unlike = same_from_kind depth later t n next.kind tokens unlike

pub value_as_operand : (old : Cursor) (depth : ℕ) → ((name : List ℕ) → ¬ IsCallNext old name) →
    Takes old old (nested_at depth due.value ∷ []) (nested_at depth (operand at_semicolon) ∷ [])
value_as_operand old depth unlike = record {
  same = λ later t is.
      (t, is, same_value depth later t old.at old.rest.now (λ name rest written. unlike name (rest, written)));
}
