-- What is due next, after the first tokens of a program. A list of what is due stands for all ways to go on: each token
-- takes the first of the list away, and puts in its place what the token makes due. Where nothing is due the program
-- may end, or a field or a method begins.
use Rattle.std.specs.Prelude.{suc, ℤ, pos, List, [], ◌∷◌, ◌++◌, Option, Some, None}
use Rattle.jif_lex.specs.declared.token.TokenKind.{TokenKind}
use Rattle.jif_lex.specs.declared.token.TokenKind.TheVariants as token
use Rattle.jif_lex.specs.declared.token.Symbol.{Symbol}
use Rattle.jif_lex.specs.declared.token.Symbol.TheVariants as symbols
use Rattle.jif_lex.specs.declared.token.Word.{Word}
use Rattle.jif_lex.specs.declared.token.Word.TheVariants as words
use Rattle.js_base.specs.declared.binary_operator.BinOp.{BinOp}
use Rattle.jif_grammar.specs.Operators.{operator_of}

-- what ends an expression
pub data Closing : Type 0 where
  at_semicolon : Closing
  at_comma : Closing
  at_bracket : Closing
  at_parenthesis : Closing
  -- more arguments, or the parenthesis behind the last
  at_argument : Closing

-- where statements stand: in a nested block, or in the body of a method, which may end with a `return`
pub data Place : Type 0 where
  nested : Place
  body : Place

-- a symbol that is due by itself
pub data Fixed : Type 0 where
  left_parenthesis : Fixed
  right_parenthesis : Fixed
  left_brace : Fixed
  right_brace : Fixed
  right_bracket : Fixed
  semicolon : Fixed
  colon : Fixed
  assign : Fixed

abbrev pub fixed_symbol : Fixed → Symbol
fixed_symbol left_parenthesis = symbols.LeftParenthesis
fixed_symbol right_parenthesis = symbols.RightParenthesis
fixed_symbol left_brace = symbols.LeftBrace
fixed_symbol right_brace = symbols.RightBrace
fixed_symbol right_bracket = symbols.RightBracket
fixed_symbol semicolon = symbols.Semicolon
fixed_symbol colon = symbols.Colon
fixed_symbol assign = symbols.Assign

pub data Due : Type 0 where
  exactly : Fixed → Due
  -- the `int` of a parameter, and `authority`
  int_word : Due
  authority_word : Due
  a_name : Due
  a_number : Due
  -- a number above 0
  a_size : Due
  -- what follows the name of a field or of an `int` method
  after_name : Due
  -- the first value of a field
  first_value : Due
  label : Due
  -- the first part of a label, or its closing brace
  first_part : Due
  a_part : Due
  -- names up to what ends a policy, or up to what ends a label
  readers : Due
  after_reader : Due
  members : Due
  after_member : Due
  -- parameters up to the parenthesis
  params : Due
  after_param : Due
  -- up to the brace of a method's body
  authority : Due
  after_principal : Due
  statements : Place → Due
  -- an `else`, or more statements
  otherwise : Place → Due
  -- what follows the `int` of a local
  after_int : Due
  -- what follows a statement's first name
  after_first_name : Due
  -- what follows `=` in an assignment, and a name behind it
  value : Due
  after_value_name : Due
  -- arguments up to the parenthesis
  args : Due
  -- an operand, and what goes on after it up to what ends the expression
  operand : Closing → Due
  after_operand_name : Closing → Due
  links : Closing → Due

-- ---- what a token makes due, in place of what it takes away

abbrev pub after_fixed : Fixed → Symbol → Option (List Due)
after_fixed left_parenthesis symbols.LeftParenthesis = Some []
after_fixed right_parenthesis symbols.RightParenthesis = Some []
after_fixed left_brace symbols.LeftBrace = Some []
after_fixed right_brace symbols.RightBrace = Some []
after_fixed right_bracket symbols.RightBracket = Some []
after_fixed semicolon symbols.Semicolon = Some []
after_fixed colon symbols.Colon = Some []
after_fixed assign symbols.Assign = Some []
after_fixed fixed symbol = None

-- behind an operand: what ends the expression, or an operator
abbrev pub by_operator : Closing → Option BinOp → Option (List Due)
by_operator closing None = None
by_operator closing (Some operator) = Some (operand closing ∷ [])

abbrev pub after_operand : Closing → Symbol → Option (List Due)
after_operand at_semicolon symbols.Semicolon = Some []
after_operand at_comma symbols.Comma = Some []
after_operand at_bracket symbols.RightBracket = Some []
after_operand at_parenthesis symbols.RightParenthesis = Some []
after_operand at_argument symbols.RightParenthesis = Some []
after_operand at_argument symbols.Comma = Some (operand at_argument ∷ [])
after_operand closing symbol = by_operator closing (operator_of symbol)

abbrev pub after_operand_name_symbol : Closing → Symbol → Option (List Due)
after_operand_name_symbol closing symbols.LeftBracket = Some (operand at_bracket ∷ links closing ∷ [])
after_operand_name_symbol closing symbol = after_operand closing symbol

abbrev pub operand_symbol : Closing → Symbol → Option (List Due)
operand_symbol closing symbols.LeftParenthesis = Some (operand at_parenthesis ∷ links closing ∷ [])
operand_symbol closing symbols.Not = Some (operand closing ∷ [])
operand_symbol closing symbols.Minus = Some (operand closing ∷ [])
operand_symbol closing symbol = None

abbrev pub relabelled_operand : Closing → List Due
relabelled_operand closing =
    exactly left_parenthesis ∷ operand at_comma ∷ label ∷ exactly right_parenthesis
    ∷ links closing ∷ []

abbrev pub operand_word : Closing → Word → Option (List Due)
operand_word closing words.Declassify = Some (relabelled_operand closing)
operand_word closing words.Endorse = Some (relabelled_operand closing)
operand_word closing word = None

-- arguments, the parenthesis and the semicolon
abbrev pub call_rest : List Due
call_rest = args ∷ exactly semicolon ∷ []

-- what follows the begin label of a method
abbrev pub method_rest : List Due
method_rest = exactly left_parenthesis ∷ params ∷ authority ∷ statements body ∷ []

-- a guard and the brace behind it
abbrev pub guard : List Due
guard = exactly left_parenthesis ∷ operand at_parenthesis ∷ exactly left_brace ∷ []

-- a name, `=` and a value
abbrev pub local_rest : List Due
local_rest = exactly assign ∷ operand at_semicolon ∷ []

abbrev pub statement_word : Place → Word → Option (List Due)
statement_word place words.Int = Some (after_int ∷ statements place ∷ [])
statement_word place words.If = Some (guard ++ statements nested ∷ otherwise place ∷ [])
statement_word place words.While = Some (guard ++ statements nested ∷ statements place ∷ [])
statement_word body words.Return = Some (operand at_semicolon ∷ exactly right_brace ∷ [])
statement_word place word = None

abbrev pub statement_symbol : Place → Symbol → Option (List Due)
statement_symbol place symbols.RightBrace = Some []
statement_symbol place symbol = None

abbrev pub part_symbol : Symbol → Option (List Due)
part_symbol symbols.Question = Some (exactly colon ∷ members ∷ [])
part_symbol symbol = None

abbrev pub due_after_symbol : Due → Symbol → Option (List Due)
due_after_symbol (exactly fixed) symbol = after_fixed fixed symbol
due_after_symbol after_name symbols.Semicolon = Some []
due_after_symbol after_name symbols.LeftBracket =
    Some (a_size ∷ exactly right_bracket ∷ exactly semicolon ∷ [])
due_after_symbol after_name symbols.Assign = Some (first_value ∷ [])
due_after_symbol after_name symbols.LeftBrace = Some (first_part ∷ method_rest)
due_after_symbol first_value symbols.Minus = Some (a_number ∷ exactly semicolon ∷ [])
due_after_symbol label symbols.LeftBrace = Some (first_part ∷ [])
due_after_symbol first_part symbols.RightBrace = Some []
due_after_symbol first_part symbol = part_symbol symbol
due_after_symbol a_part symbol = part_symbol symbol
due_after_symbol readers symbols.Semicolon = Some (a_part ∷ [])
due_after_symbol readers symbols.RightBrace = Some []
due_after_symbol after_reader symbols.Comma = Some (a_name ∷ after_reader ∷ [])
due_after_symbol after_reader symbols.Semicolon = Some (a_part ∷ [])
due_after_symbol after_reader symbols.RightBrace = Some []
due_after_symbol members symbols.RightBrace = Some []
due_after_symbol after_member symbols.Comma = Some (a_name ∷ after_member ∷ [])
due_after_symbol after_member symbols.RightBrace = Some []
due_after_symbol params symbols.RightParenthesis = Some []
due_after_symbol after_param symbols.Comma = Some (int_word ∷ label ∷ a_name ∷ after_param ∷ [])
due_after_symbol after_param symbols.RightParenthesis = Some []
due_after_symbol authority symbols.LeftBrace = Some []
due_after_symbol after_principal symbols.Comma = Some (a_name ∷ after_principal ∷ [])
due_after_symbol after_principal symbols.RightParenthesis = Some (exactly left_brace ∷ [])
due_after_symbol (statements place) symbol = statement_symbol place symbol
due_after_symbol (otherwise place) symbol = statement_symbol place symbol
due_after_symbol after_int symbols.LeftBrace = Some (first_part ∷ a_name ∷ local_rest)
due_after_symbol after_first_name symbols.Assign = Some (value ∷ [])
due_after_symbol after_first_name symbols.LeftBracket = Some (operand at_bracket ∷ local_rest)
due_after_symbol after_first_name symbols.LeftParenthesis = Some call_rest
due_after_symbol value symbol = operand_symbol at_semicolon symbol
due_after_symbol after_value_name symbols.LeftParenthesis = Some call_rest
due_after_symbol after_value_name symbol = after_operand_name_symbol at_semicolon symbol
due_after_symbol args symbols.RightParenthesis = Some []
due_after_symbol args symbol = operand_symbol at_argument symbol
due_after_symbol (operand closing) symbol = operand_symbol closing symbol
due_after_symbol (after_operand_name closing) symbol = after_operand_name_symbol closing symbol
due_after_symbol (links closing) symbol = after_operand closing symbol
due_after_symbol due symbol = None

abbrev pub due_after_word : Due → Word → Option (List Due)
due_after_word int_word words.Int = Some []
due_after_word authority_word words.Authority = Some []
due_after_word params words.Int = Some (label ∷ a_name ∷ after_param ∷ [])
due_after_word authority words.Where =
    Some (authority_word ∷ exactly left_parenthesis ∷ a_name ∷ after_principal ∷ [])
due_after_word (statements place) word = statement_word place word
due_after_word (otherwise place) words.Else =
    Some (exactly left_brace ∷ statements nested ∷ statements place ∷ [])
due_after_word (otherwise place) word = statement_word place word
due_after_word value word = operand_word at_semicolon word
due_after_word args word = operand_word at_argument word
due_after_word (operand closing) word = operand_word closing word
due_after_word due word = None

abbrev pub due_after_name : Due → Option (List Due)
due_after_name a_name = Some []
due_after_name first_part = Some (exactly colon ∷ readers ∷ [])
due_after_name a_part = Some (exactly colon ∷ readers ∷ [])
due_after_name readers = Some (after_reader ∷ [])
due_after_name members = Some (after_member ∷ [])
due_after_name (statements place) = Some (after_first_name ∷ statements place ∷ [])
due_after_name (otherwise place) = Some (after_first_name ∷ statements place ∷ [])
due_after_name after_int = Some local_rest
due_after_name value = Some (after_value_name ∷ [])
due_after_name args = Some (after_operand_name at_argument ∷ [])
due_after_name (operand closing) = Some (after_operand_name closing ∷ [])
due_after_name due = None

abbrev pub due_after_number : Due → ℤ → Option (List Due)
due_after_number a_number (pos n) = Some []
due_after_number a_size (pos (suc n)) = Some []
due_after_number first_value (pos n) = Some (exactly semicolon ∷ [])
due_after_number value (pos n) = Some (links at_semicolon ∷ [])
due_after_number args (pos n) = Some (links at_argument ∷ [])
due_after_number (operand closing) (pos n) = Some (links closing ∷ [])
due_after_number due number = None

abbrev pub due_after_token : Due → TokenKind → Option (List Due)
due_after_token due (token.Name name) = due_after_name due
due_after_token due (token.Number number) = due_after_number due number
due_after_token due (token.Word word) = due_after_word due word
due_after_token due (token.Symbol symbol) = due_after_symbol due symbol

-- ---- what tokens make due

abbrev pub before_due : List Due → Option (List Due) → Option (List Due)
before_due later None = None
before_due later (Some sooner) = Some (sooner ++ later)

-- what a field or a method makes due by its first token
abbrev pub item_due : TokenKind → Option (List Due)
item_due (token.Word words.Int) = Some (label ∷ a_name ∷ after_name ∷ [])
item_due (token.Word words.Void) = Some (a_name ∷ label ∷ method_rest)
item_due kind = None

abbrev pub due_next : List Due → TokenKind → Option (List Due)
due_next [] kind = item_due kind
due_next (first ∷ later) kind = before_due later (due_after_token first kind)

abbrev pub after_all : Option (List Due) → List TokenKind → Option (List Due)
after_all None kinds = None
after_all (Some due) [] = Some due
after_all (Some due) (kind ∷ kinds) = after_all (due_next due kind) kinds

-- what is due after the first tokens of a program; `None` where no program begins with them
abbrev pub due_after : List TokenKind → Option (List Due)
due_after kinds = after_all (Some []) kinds
