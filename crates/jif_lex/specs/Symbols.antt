-- How the keywords and the symbols of the language are written.
use Rattle.std.specs.Prelude.{ℕ, List, codes}
use Rattle.jif_lex.specs.declared.token.Word.{Word}
use Rattle.jif_lex.specs.declared.token.Word.TheVariants.{Int, Void, If, Else, While, Return, Where, Authority}
use Rattle.jif_lex.specs.declared.token.Word.TheVariants.{Declassify, Endorse}
use Rattle.jif_lex.specs.declared.token.Symbol.{Symbol}
use Rattle.jif_lex.specs.declared.token.Symbol.TheVariants.{LeftBrace, RightBrace, LeftParenthesis, RightParenthesis}
use Rattle.jif_lex.specs.declared.token.Symbol.TheVariants.{LeftBracket, RightBracket, Semicolon, Colon, Comma}
use Rattle.jif_lex.specs.declared.token.Symbol.TheVariants.{Question, Assign, Equal, NotEqual, Less, LessOrEqual}
use Rattle.jif_lex.specs.declared.token.Symbol.TheVariants.{Greater, GreaterOrEqual, Plus, Minus, Star, Slash, Percent}
use Rattle.jif_lex.specs.declared.token.Symbol.TheVariants.{Not, And, Or}

abbrev pub word_text : Word → List ℕ
word_text Int = codes "int"
word_text Void = codes "void"
word_text If = codes "if"
word_text Else = codes "else"
word_text While = codes "while"
word_text Return = codes "return"
word_text Where = codes "where"
word_text Authority = codes "authority"
word_text Declassify = codes "declassify"
word_text Endorse = codes "endorse"

abbrev pub symbol_text : Symbol → List ℕ
symbol_text LeftBrace = codes "{"
symbol_text RightBrace = codes "}"
symbol_text LeftParenthesis = codes "("
symbol_text RightParenthesis = codes ")"
symbol_text LeftBracket = codes "["
symbol_text RightBracket = codes "]"
symbol_text Semicolon = codes ";"
symbol_text Colon = codes ":"
symbol_text Comma = codes ","
symbol_text Question = codes "?"
symbol_text Assign = codes "="
symbol_text Equal = codes "=="
symbol_text NotEqual = codes "!="
symbol_text Less = codes "<"
symbol_text LessOrEqual = codes "<="
symbol_text Greater = codes ">"
symbol_text GreaterOrEqual = codes ">="
symbol_text Plus = codes "+"
symbol_text Minus = codes "-"
symbol_text Star = codes "*"
symbol_text Slash = codes "/"
symbol_text Percent = codes "%"
symbol_text Not = codes "!"
symbol_text And = codes "&&"
symbol_text Or = codes "||"
