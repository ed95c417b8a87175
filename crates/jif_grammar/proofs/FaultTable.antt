-- Where token lists stop being beginnings of programs, computed: each rule with its least and its optional parts, and
-- tokens that no rule has.
use Rattle.std.proofs.Common.{◌≡◌, ℕ, zero, suc, pos, List, [], ◌∷◌, codes, refl, Option, Some, None}
use Rattle.jif_lex.specs.declared.token.TokenKind.{TokenKind}
use Rattle.jif_lex.specs.declared.token.TokenKind.TheVariants.{Name, Number, Word}
use Rattle.jif_lex.specs.declared.token.Symbol.{Symbol}
use Rattle.jif_lex.specs.declared.token.Symbol.TheVariants as symbols
use Rattle.jif_lex.specs.declared.token.Word.TheVariants as words
use Rattle.label_lattice.specs.Written.{symbol}
use Rattle.jif_grammar.specs.Due.{Due, due_next}

abbrev at : Symbol → TokenKind
at written = symbol written

-- nothing is wrong, or so many tokens stand before the first with which no program goes on, or before the end that
-- comes too early
abbrev fault_at_end : ℕ → List Due → Option ℕ
fault_at_end n [] = None
fault_at_end n (first ∷ later) = Some n

abbrev fault_from : ℕ → Option (List Due) → List TokenKind → Option ℕ
fault_from zero None tokens = Some zero
fault_from (suc n) None tokens = Some n
fault_from n (Some first) [] = fault_at_end n first
fault_from n (Some first) (kind ∷ tokens) = fault_from (suc n) (due_next first kind) tokens

abbrev fault : List TokenKind → Option ℕ
fault tokens = fault_from zero (Some []) tokens

-- ---- programs

-- no token
empty_program : fault (
    []
    ) ≡ None
empty_program = refl

-- the least method: `void main{}() { }`
least_method : fault (
    Word words.Void ∷ Name (codes "main") ∷ at symbols.LeftBrace ∷ at symbols.RightBrace ∷
    at symbols.LeftParenthesis ∷ at symbols.RightParenthesis ∷ at symbols.LeftBrace ∷ at symbols.RightBrace ∷ []
    ) ≡ None
least_method = refl

-- each kind of field: `int{} a; int{b:} c[2]; int{?: b} d = -3; int{b: c, d; ?:} e = 4;`
every_field : fault (
    Word words.Int ∷ at symbols.LeftBrace ∷ at symbols.RightBrace ∷ Name (codes "a") ∷ at symbols.Semicolon ∷
    Word words.Int ∷ at symbols.LeftBrace ∷ Name (codes "b") ∷ at symbols.Colon ∷ at symbols.RightBrace ∷
    Name (codes "c") ∷ at symbols.LeftBracket ∷ Number (pos 2) ∷ at symbols.RightBracket ∷
    at symbols.Semicolon ∷ Word words.Int ∷ at symbols.LeftBrace ∷ at symbols.Question ∷ at symbols.Colon ∷
    Name (codes "b") ∷ at symbols.RightBrace ∷ Name (codes "d") ∷ at symbols.Assign ∷ at symbols.Minus ∷
    Number (pos 3) ∷ at symbols.Semicolon ∷ Word words.Int ∷ at symbols.LeftBrace ∷ Name (codes "b") ∷
    at symbols.Colon ∷ Name (codes "c") ∷ at symbols.Comma ∷ Name (codes "d") ∷ at symbols.Semicolon ∷
    at symbols.Question ∷ at symbols.Colon ∷ at symbols.RightBrace ∷ Name (codes "e") ∷ at symbols.Assign ∷
    Number (pos 4) ∷ at symbols.Semicolon ∷ []
    ) ≡ None
every_field = refl

-- each kind of statement, and a result
every_statement : fault (
    Word words.Int ∷ at symbols.LeftBrace ∷ at symbols.RightBrace ∷ Name (codes "m") ∷ at symbols.LeftBrace ∷
    at symbols.RightBrace ∷ at symbols.LeftParenthesis ∷ Word words.Int ∷ at symbols.LeftBrace ∷
    at symbols.RightBrace ∷ Name (codes "p") ∷ at symbols.Comma ∷ Word words.Int ∷ at symbols.LeftBrace ∷
    at symbols.RightBrace ∷ Name (codes "q") ∷ at symbols.RightParenthesis ∷ Word words.Where ∷
    Word words.Authority ∷ at symbols.LeftParenthesis ∷ Name (codes "b") ∷ at symbols.Comma ∷
    Name (codes "c") ∷ at symbols.RightParenthesis ∷ at symbols.LeftBrace ∷ Word words.Int ∷ Name (codes "x") ∷
    at symbols.Assign ∷ Name (codes "p") ∷ at symbols.Semicolon ∷ Word words.Int ∷ at symbols.LeftBrace ∷
    Name (codes "b") ∷ at symbols.Colon ∷ at symbols.RightBrace ∷ Name (codes "y") ∷ at symbols.Assign ∷
    Name (codes "q") ∷ at symbols.Semicolon ∷ Name (codes "x") ∷ at symbols.Assign ∷ Name (codes "y") ∷
    at symbols.Semicolon ∷ Name (codes "a") ∷ at symbols.LeftBracket ∷ Name (codes "x") ∷
    at symbols.RightBracket ∷ at symbols.Assign ∷ Number (pos 1) ∷ at symbols.Semicolon ∷ Name (codes "n") ∷
    at symbols.LeftParenthesis ∷ at symbols.RightParenthesis ∷ at symbols.Semicolon ∷ Name (codes "x") ∷
    at symbols.Assign ∷ Name (codes "m") ∷ at symbols.LeftParenthesis ∷ Number (pos 1) ∷ at symbols.Comma ∷
    Name (codes "y") ∷ at symbols.RightParenthesis ∷ at symbols.Semicolon ∷ Word words.If ∷
    at symbols.LeftParenthesis ∷ Name (codes "x") ∷ at symbols.RightParenthesis ∷ at symbols.LeftBrace ∷
    at symbols.RightBrace ∷ Word words.If ∷ at symbols.LeftParenthesis ∷ Name (codes "x") ∷
    at symbols.RightParenthesis ∷ at symbols.LeftBrace ∷ at symbols.RightBrace ∷ Word words.Else ∷
    at symbols.LeftBrace ∷ at symbols.RightBrace ∷ Word words.While ∷ at symbols.LeftParenthesis ∷
    Name (codes "x") ∷ at symbols.RightParenthesis ∷ at symbols.LeftBrace ∷ at symbols.RightBrace ∷
    Word words.Return ∷ Name (codes "x") ∷ at symbols.Semicolon ∷ at symbols.RightBrace ∷ []
    ) ≡ None
every_statement = refl

-- each kind of expression
every_expression : fault (
    Word words.Void ∷ Name (codes "main") ∷ at symbols.LeftBrace ∷ at symbols.RightBrace ∷
    at symbols.LeftParenthesis ∷ at symbols.RightParenthesis ∷ at symbols.LeftBrace ∷ Name (codes "x") ∷
    at symbols.Assign ∷ Number (pos 1) ∷ at symbols.Plus ∷ Name (codes "a") ∷ at symbols.LeftBracket ∷
    Name (codes "y") ∷ at symbols.RightBracket ∷ at symbols.Star ∷ at symbols.LeftParenthesis ∷
    Number (pos 2) ∷ at symbols.Minus ∷ at symbols.Not ∷ at symbols.Minus ∷ Name (codes "z") ∷
    at symbols.RightParenthesis ∷ at symbols.Equal ∷ Word words.Declassify ∷ at symbols.LeftParenthesis ∷
    Name (codes "u") ∷ at symbols.And ∷ Name (codes "v") ∷ at symbols.Comma ∷ at symbols.LeftBrace ∷
    Name (codes "b") ∷ at symbols.Colon ∷ at symbols.RightBrace ∷ at symbols.RightParenthesis ∷
    at symbols.Less ∷ Word words.Endorse ∷ at symbols.LeftParenthesis ∷ Name (codes "w") ∷ at symbols.Comma ∷
    at symbols.LeftBrace ∷ at symbols.Question ∷ at symbols.Colon ∷ Name (codes "b") ∷ at symbols.RightBrace ∷
    at symbols.RightParenthesis ∷ at symbols.Semicolon ∷ at symbols.RightBrace ∷ []
    ) ≡ None
every_expression = refl

-- ---- others

-- an `else` wants its block: `void main{}() { if (x) { } else if (y) { } }`
else_if : fault (
    Word words.Void ∷ Name (codes "main") ∷ at symbols.LeftBrace ∷ at symbols.RightBrace ∷
    at symbols.LeftParenthesis ∷ at symbols.RightParenthesis ∷ at symbols.LeftBrace ∷ Word words.If ∷
    at symbols.LeftParenthesis ∷ Name (codes "x") ∷ at symbols.RightParenthesis ∷ at symbols.LeftBrace ∷
    at symbols.RightBrace ∷ Word words.Else ∷ Word words.If ∷ at symbols.LeftParenthesis ∷ Name (codes "y") ∷
    at symbols.RightParenthesis ∷ at symbols.LeftBrace ∷ at symbols.RightBrace ∷ at symbols.RightBrace ∷ []
    ) ≡ Some 14
else_if = refl

-- no comma behind the last argument: `void main{}() { n(1,); }`
trailing_comma : fault (
    Word words.Void ∷ Name (codes "main") ∷ at symbols.LeftBrace ∷ at symbols.RightBrace ∷
    at symbols.LeftParenthesis ∷ at symbols.RightParenthesis ∷ at symbols.LeftBrace ∷ Name (codes "n") ∷
    at symbols.LeftParenthesis ∷ Number (pos 1) ∷ at symbols.Comma ∷ at symbols.RightParenthesis ∷
    at symbols.Semicolon ∷ at symbols.RightBrace ∷ []
    ) ≡ Some 11
trailing_comma = refl

-- no comma behind the last parameter: `void main{}(int{} p,) { }`
trailing_param : fault (
    Word words.Void ∷ Name (codes "main") ∷ at symbols.LeftBrace ∷ at symbols.RightBrace ∷
    at symbols.LeftParenthesis ∷ Word words.Int ∷ at symbols.LeftBrace ∷ at symbols.RightBrace ∷
    Name (codes "p") ∷ at symbols.Comma ∷ at symbols.RightParenthesis ∷ at symbols.LeftBrace ∷
    at symbols.RightBrace ∷ []
    ) ≡ Some 10
trailing_param = refl

-- no comma behind the last reader: `int{b: c,} a;`
trailing_reader : fault (
    Word words.Int ∷ at symbols.LeftBrace ∷ Name (codes "b") ∷ at symbols.Colon ∷ Name (codes "c") ∷
    at symbols.Comma ∷ at symbols.RightBrace ∷ Name (codes "a") ∷ at symbols.Semicolon ∷ []
    ) ≡ Some 6
trailing_reader = refl

-- no policy without an owner: `int{;} a;`
empty_policy : fault (
    Word words.Int ∷ at symbols.LeftBrace ∷ at symbols.Semicolon ∷ at symbols.RightBrace ∷ Name (codes "a") ∷
    at symbols.Semicolon ∷ []
    ) ≡ Some 2
empty_policy = refl

-- no semicolon behind the last part: `int{b:;} a;`
last_semicolon : fault (
    Word words.Int ∷ at symbols.LeftBrace ∷ Name (codes "b") ∷ at symbols.Colon ∷ at symbols.Semicolon ∷
    at symbols.RightBrace ∷ Name (codes "a") ∷ at symbols.Semicolon ∷ []
    ) ≡ Some 5
last_semicolon = refl

-- no policy behind those who trust: `int{?: b; c:} a;`
trust_first : fault (
    Word words.Int ∷ at symbols.LeftBrace ∷ at symbols.Question ∷ at symbols.Colon ∷ Name (codes "b") ∷
    at symbols.Semicolon ∷ Name (codes "c") ∷ at symbols.Colon ∷ at symbols.RightBrace ∷ Name (codes "a") ∷
    at symbols.Semicolon ∷ []
    ) ≡ Some 5
trust_first = refl

-- no size below 0: `int{} a[-1];`
negative_size : fault (
    Word words.Int ∷ at symbols.LeftBrace ∷ at symbols.RightBrace ∷ Name (codes "a") ∷ at symbols.LeftBracket ∷
    at symbols.Minus ∷ Number (pos 1) ∷ at symbols.RightBracket ∷ at symbols.Semicolon ∷ []
    ) ≡ Some 5
negative_size = refl

-- no size 0: `int{} a[0];`
no_element : fault (
    Word words.Int ∷ at symbols.LeftBrace ∷ at symbols.RightBrace ∷ Name (codes "a") ∷ at symbols.LeftBracket ∷
    Number (pos 0) ∷ at symbols.RightBracket ∷ at symbols.Semicolon ∷ []
    ) ≡ Some 5
no_element = refl

-- a field starts with a number: `int{} a = b;`
field_name : fault (
    Word words.Int ∷ at symbols.LeftBrace ∷ at symbols.RightBrace ∷ Name (codes "a") ∷ at symbols.Assign ∷
    Name (codes "b") ∷ at symbols.Semicolon ∷ []
    ) ≡ Some 5
field_name = refl

-- a `return` is the last statement: `void main{}() { return 1; x = 2; }`
early_return : fault (
    Word words.Void ∷ Name (codes "main") ∷ at symbols.LeftBrace ∷ at symbols.RightBrace ∷
    at symbols.LeftParenthesis ∷ at symbols.RightParenthesis ∷ at symbols.LeftBrace ∷ Word words.Return ∷
    Number (pos 1) ∷ at symbols.Semicolon ∷ Name (codes "x") ∷ at symbols.Assign ∷ Number (pos 2) ∷
    at symbols.Semicolon ∷ at symbols.RightBrace ∷ []
    ) ≡ Some 10
early_return = refl

-- no `return` in a nested block: `void main{}() { if (x) { return 1; } }`
nested_return : fault (
    Word words.Void ∷ Name (codes "main") ∷ at symbols.LeftBrace ∷ at symbols.RightBrace ∷
    at symbols.LeftParenthesis ∷ at symbols.RightParenthesis ∷ at symbols.LeftBrace ∷ Word words.If ∷
    at symbols.LeftParenthesis ∷ Name (codes "x") ∷ at symbols.RightParenthesis ∷ at symbols.LeftBrace ∷
    Word words.Return ∷ Number (pos 1) ∷ at symbols.Semicolon ∷ at symbols.RightBrace ∷ at symbols.RightBrace ∷
    []
    ) ≡ Some 12
nested_return = refl

-- a call is no operand: `void main{}() { x = 1 + m(); }`
call_in_sum : fault (
    Word words.Void ∷ Name (codes "main") ∷ at symbols.LeftBrace ∷ at symbols.RightBrace ∷
    at symbols.LeftParenthesis ∷ at symbols.RightParenthesis ∷ at symbols.LeftBrace ∷ Name (codes "x") ∷
    at symbols.Assign ∷ Number (pos 1) ∷ at symbols.Plus ∷ Name (codes "m") ∷ at symbols.LeftParenthesis ∷
    at symbols.RightParenthesis ∷ at symbols.Semicolon ∷ at symbols.RightBrace ∷ []
    ) ≡ Some 12
call_in_sum = refl

-- nothing goes on behind a call: `void main{}() { x = m() + 1; }`
sum_of_call : fault (
    Word words.Void ∷ Name (codes "main") ∷ at symbols.LeftBrace ∷ at symbols.RightBrace ∷
    at symbols.LeftParenthesis ∷ at symbols.RightParenthesis ∷ at symbols.LeftBrace ∷ Name (codes "x") ∷
    at symbols.Assign ∷ Name (codes "m") ∷ at symbols.LeftParenthesis ∷ at symbols.RightParenthesis ∷
    at symbols.Plus ∷ Number (pos 1) ∷ at symbols.Semicolon ∷ at symbols.RightBrace ∷ []
    ) ≡ Some 12
sum_of_call = refl

-- authority names a principal: `void main{}() where authority() { }`
no_principal : fault (
    Word words.Void ∷ Name (codes "main") ∷ at symbols.LeftBrace ∷ at symbols.RightBrace ∷
    at symbols.LeftParenthesis ∷ at symbols.RightParenthesis ∷ Word words.Where ∷ Word words.Authority ∷
    at symbols.LeftParenthesis ∷ at symbols.RightParenthesis ∷ at symbols.LeftBrace ∷ at symbols.RightBrace ∷ []
    ) ≡ Some 9
no_principal = refl

-- a local has a value: `void main{}() { int x; }`
no_value : fault (
    Word words.Void ∷ Name (codes "main") ∷ at symbols.LeftBrace ∷ at symbols.RightBrace ∷
    at symbols.LeftParenthesis ∷ at symbols.RightParenthesis ∷ at symbols.LeftBrace ∷ Word words.Int ∷
    Name (codes "x") ∷ at symbols.Semicolon ∷ at symbols.RightBrace ∷ []
    ) ≡ Some 9
no_value = refl

-- a keyword is no name: `void if{}() { }`
keyword_name : fault (
    Word words.Void ∷ Word words.If ∷ at symbols.LeftBrace ∷ at symbols.RightBrace ∷
    at symbols.LeftParenthesis ∷ at symbols.RightParenthesis ∷ at symbols.LeftBrace ∷ at symbols.RightBrace ∷ []
    ) ≡ Some 1
keyword_name = refl

-- a field has a label: `int a;`
unlabelled_field : fault (
    Word words.Int ∷ Name (codes "a") ∷ at symbols.Semicolon ∷ []
    ) ≡ Some 1
unlabelled_field = refl

-- a sign of a first value stands once: `int{} a = --1;`
double_sign : fault (
    Word words.Int ∷ at symbols.LeftBrace ∷ at symbols.RightBrace ∷ Name (codes "a") ∷ at symbols.Assign ∷
    at symbols.Minus ∷ at symbols.Minus ∷ Number (pos 1) ∷ at symbols.Semicolon ∷ []
    ) ≡ Some 6
double_sign = refl

-- a method that is cut off is due its brace: `void main{}() { x = 1;`
cut_off : fault (
    Word words.Void ∷ Name (codes "main") ∷ at symbols.LeftBrace ∷ at symbols.RightBrace ∷
    at symbols.LeftParenthesis ∷ at symbols.RightParenthesis ∷ at symbols.LeftBrace ∷ Name (codes "x") ∷
    at symbols.Assign ∷ Number (pos 1) ∷ at symbols.Semicolon ∷ []
    ) ≡ Some 11
cut_off = refl
