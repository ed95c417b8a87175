-- What is written for what is due goes on from its first token with what the token makes due.
use Rattle.std.proofs.Common.{◌≡◌, inl, inr, ℕ, pos, List, [], ◌∷◌, refl, ap}
use Rattle.std.proofs.Common.{sym, ◌∙◌, Some}
use Rattle.js_base.specs.declared.binary_operator.BinOp.{BinOp}
use Rattle.js_base.specs.declared.binary_operator.BinOp.TheVariants as operator
use Rattle.jif_lex.specs.declared.token.TokenKind.{TokenKind}
use Rattle.jif_lex.specs.declared.token.TokenKind.TheVariants.{Name, Number, Word}
use Rattle.jif_lex.specs.declared.token.Symbol.{Symbol}
use Rattle.jif_lex.specs.declared.token.Symbol.TheVariants as symbols
use Rattle.label_lattice.specs.Written.{Part, policy, trust, symbol, TrustIsLast}
use Rattle.jif_grammar.specs.Phrases.{Sign, complement, minus, Change, release, acceptance, LabelPhrase, ExprPhrase}
use Rattle.jif_grammar.specs.Phrases.{number}
use Rattle.jif_grammar.specs.Phrases.{variable, element, parenthesized, signed, binary, relabelled}
use Rattle.jif_grammar.specs.Operators.{operator_symbol, sign_symbol, change_word}
use Rattle.jif_grammar.specs.Grouping.{AreGrouped}
use Rattle.jif_grammar.specs.Due as due
use Rattle.jif_grammar.specs.Due.{Due, Closing, Place, Fixed, fixed_symbol, after_fixed, after_operand}
use Rattle.jif_grammar.specs.Due.{after_operand_name_symbol, relabelled_operand, call_rest, method_rest, guard}
use Rattle.jif_grammar.specs.Due.{local_rest, statement_word, due_after_symbol, due_after_word, due_after_name}
use Rattle.jif_grammar.specs.Due.{due_after_number, due_after_token}
use Rattle.jif_grammar.specs.Unmarked.{joined_then, name_then, names_then, part_then, label_then, expr_then}
use Rattle.jif_grammar.specs.Unmarked.{args_then}
use Rattle.jif_grammar.proofs.OneJoined.{Each}
use Rattle.jif_grammar.proofs.Groups.{Link, first_operand, links}
use Rattle.jif_grammar.proofs.OneExpr.{links_then, IsSoundOperand, in_order, at_first, at_links, sound_operands}
use Rattle.jif_grammar.proofs.Gather.{gather, gather_tokens, gather_grouped}
use Rattle.jif_grammar.proofs.Written.{joined_more, more_names, more_parts, more_args, Closes}
use Rattle.jif_grammar.proofs.Written.{WrittenLinks, WrittenExpr, WrittenIndex, WrittenAfterName}
use Rattle.jif_grammar.proofs.Written.{Written, AreWritten}

pub record Moves (first : Due) (kind : TokenKind) (tokens rest : List TokenKind) : Type 0 where
  pub new : List Due
  pub is : due_after_token first kind ≡ Some new
  pub written : AreWritten new tokens rest

pub moves : (first : Due) (kind at : TokenKind) (new : List Due) (tokens rest : List TokenKind) → kind ≡ at →
    due_after_token first at ≡ Some new → AreWritten new tokens rest → Moves first kind tokens rest
moves first kind at new tokens rest same is written = record {
  new = new;
  is = ap (due_after_token first) same ∙ is;
  written = written;
}

-- ---- single tokens

pub fixed_is : (fixed : Fixed) → after_fixed fixed (fixed_symbol fixed) ≡ Some []
fixed_is due.left_parenthesis = refl
fixed_is _ = refl

pub fixed_moves : (fixed : Fixed) (kind : TokenKind) (r rest : List TokenKind) →
    Written (due.exactly fixed) (kind ∷ r) rest → Moves (due.exactly fixed) kind r rest
fixed_moves fixed kind r rest w =
    moves (due.exactly fixed) kind (symbol (fixed_symbol fixed)) [] r rest (cc) (fixed_is fixed) (cc)

-- ---- labels

-- a part may begin
pub record BeginsPart (first : Due) : Type 0 where
  pub by_name : due_after_name first ≡ Some (due.exactly due.colon ∷ due.readers ∷ [])
  pub by_question : due_after_symbol first symbols.Question ≡ Some (due.exactly due.colon ∷ due.members ∷ [])

pub part_moves : (first : Due) → BeginsPart first → (part : Part) (parts : LabelPhrase) → TrustIsLast (part ∷ parts) →
    (kind : TokenKind) (r rest : List TokenKind) →
    kind ∷ r ≡ joined_then (symbol symbols.Semicolon) part_then (part ∷ parts) (symbol symbols.RightBrace ∷ rest) →
    Moves first kind r rest
part_moves first begins (policy owner readers) parts sound kind r rest w =
    let whole : kind ∷ r ≡ Name owner ∷ symbol symbols.Colon ∷ names_then readers (more_parts parts rest) =
    w ∙ joined_more (symbol symbols.Semicolon) part_then (policy owner readers) parts
    (symbol symbols.RightBrace ∷ rest) in
    moves first kind (Name owner) (due.exactly due.colon ∷ due.readers ∷ []) r rest (cc) begins.by_name (
      names_then readers (more_parts parts rest),
      (let e : r ≡ symbol symbols.Colon
          ∷ names_then readers (more_parts parts rest) = (cc) in e),
      (rest, (readers, parts, sound, refl), refl),
    )
part_moves first begins (trust members) parts sound kind r rest w =
    let whole : kind ∷ r ≡ symbol symbols.Question ∷ symbol symbols.Colon
    ∷ names_then members (more_parts parts rest) =
    w ∙ joined_more (symbol symbols.Semicolon) part_then (trust members) parts (symbol symbols.RightBrace ∷ rest) in
    let tail : r ≡ symbol symbols.Colon ∷ names_then members (more_parts parts rest) = (cc) in
    moves first kind (symbol symbols.Question) (due.exactly due.colon ∷ due.members ∷ []) r rest (cc)
    begins.by_question (
      names_then members (symbol symbols.RightBrace ∷ rest),
      tail ∙ ap (λ ps. symbol symbols.Colon ∷ names_then members (more_parts ps rest)) sound,
      (rest, (members, refl), refl),
    )

pub first_part_moves : (label : LabelPhrase) → TrustIsLast label → (kind : TokenKind) (r rest : List TokenKind) →
    kind ∷ r ≡ joined_then (symbol symbols.Semicolon) part_then label (symbol symbols.RightBrace ∷ rest) →
    Moves due.first_part kind r rest
first_part_moves [] sound kind r rest w =
    moves due.first_part kind (symbol symbols.RightBrace) [] r rest (cc) refl (let e : r ≡ rest = (cc) in e)
first_part_moves (part ∷ parts) sound kind r rest w =
    part_moves due.first_part (record { by_name = refl; by_question = refl }) part parts sound kind r rest w

-- the end of a policy
pub after_policy : (first : Due) → due_after_symbol first symbols.RightBrace ≡ Some [] →
    due_after_symbol first symbols.Semicolon ≡ Some (due.a_part ∷ []) → (parts : LabelPhrase) → TrustIsLast parts →
    (kind : TokenKind) (r rest : List TokenKind) → kind ∷ r ≡ more_parts parts rest → Moves first kind r rest
after_policy first by_brace by_semicolon [] sound kind r rest w =
    moves first kind (symbol symbols.RightBrace) [] r rest (cc) by_brace (let e : r ≡ rest = (cc) in e)
after_policy first by_brace by_semicolon (part ∷ parts) sound kind r rest w =
    moves first kind (symbol symbols.Semicolon) (due.a_part ∷ []) r rest (cc) by_semicolon
    (rest, (part, parts, sound, cc), refl)

pub readers_move : (names : List (List ℕ)) (parts : LabelPhrase) → TrustIsLast parts → (kind : TokenKind)
    (r rest : List TokenKind) → kind ∷ r ≡ names_then names (more_parts parts rest) → Moves due.readers kind r rest
readers_move [] parts sound kind r rest w = after_policy due.readers refl refl parts sound kind r rest w
readers_move (name ∷ names) parts sound kind r rest w =
    let whole : kind ∷ r ≡ Name name ∷ more_names names (more_parts parts rest) =
    w ∙ joined_more (symbol symbols.Comma) name_then name names (more_parts parts rest) in
    moves due.readers kind (Name name) (due.after_reader ∷ []) r rest (cc) refl (rest, (names, parts, sound, cc), refl)

-- a name behind a comma
pub name_behind : (name : List ℕ) (names : List (List ℕ)) (kind : TokenKind) (r rest : List TokenKind) →
    kind ∷ r ≡ more_names (name ∷ names) rest →
    (kind ≡ symbol symbols.Comma) × (r ≡ Name name ∷ more_names names rest)
name_behind name names kind r rest w =
    let tail : r ≡ names_then (name ∷ names) rest = (cc) in
    (cc, tail ∙ joined_more (symbol symbols.Comma) name_then name names rest)

pub after_reader_moves : (names : List (List ℕ)) (parts : LabelPhrase) → TrustIsLast parts → (kind : TokenKind)
    (r rest : List TokenKind) → kind ∷ r ≡ more_names names (more_parts parts rest) →
    Moves due.after_reader kind r rest
after_reader_moves [] parts sound kind r rest w = after_policy due.after_reader refl refl parts sound kind r rest w
after_reader_moves (name ∷ names) parts sound kind r rest w =
    let both = name_behind name names kind r (more_parts parts rest) w in
    moves due.after_reader kind (symbol symbols.Comma) (due.a_name ∷ due.after_reader ∷ []) r rest both.0 refl
    (more_names names (more_parts parts rest), (name, both.1), (rest, (names, parts, sound, refl), refl))

pub members_move : (names : List (List ℕ)) (kind : TokenKind) (r rest : List TokenKind) →
    kind ∷ r ≡ names_then names (symbol symbols.RightBrace ∷ rest) → Moves due.members kind r rest
members_move [] kind r rest w =
    moves due.members kind (symbol symbols.RightBrace) [] r rest (cc) refl (let e : r ≡ rest = (cc) in e)
members_move (name ∷ names) kind r rest w =
    let whole : kind ∷ r ≡ Name name ∷ more_names names (symbol symbols.RightBrace ∷ rest) =
    w ∙ joined_more (symbol symbols.Comma) name_then name names (symbol symbols.RightBrace ∷ rest) in
    moves due.members kind (Name name) (due.after_member ∷ []) r rest (cc) refl (rest, (names, cc), refl)

pub after_member_moves : (names : List (List ℕ)) (kind : TokenKind) (r rest : List TokenKind) →
    kind ∷ r ≡ more_names names (symbol symbols.RightBrace ∷ rest) → Moves due.after_member kind r rest
after_member_moves [] kind r rest w =
    moves due.after_member kind (symbol symbols.RightBrace) [] r rest (cc) refl (let e : r ≡ rest = (cc) in e)
after_member_moves (name ∷ names) kind r rest w =
    let both = name_behind name names kind r (symbol symbols.RightBrace ∷ rest) w in
    moves due.after_member kind (symbol symbols.Comma) (due.a_name ∷ due.after_member ∷ []) r rest both.0 refl
    (more_names names (symbol symbols.RightBrace ∷ rest), (name, both.1), (rest, (names, refl), refl))

-- ---- expressions

abbrev pub closing_symbol : Closing → Symbol
closing_symbol due.at_semicolon = symbols.Semicolon
closing_symbol due.at_comma = symbols.Comma
closing_symbol due.at_bracket = symbols.RightBracket
closing_symbol due.at_parenthesis = symbols.RightParenthesis
closing_symbol due.at_argument = symbols.RightParenthesis

-- an expression may end or go on behind an operand
pub record GoesBehind (first : Due) (closing : Closing) : Type 0 where
  pub operators : (o : BinOp) → due_after_symbol first (operator_symbol o) ≡ Some (due.operand closing ∷ [])
  pub closes : due_after_symbol first (closing_symbol closing) ≡ Some []
  pub comma : closing ≡ due.at_argument → due_after_symbol first symbols.Comma ≡ Some (due.operand due.at_argument ∷ [])

pub closes_moves : (first : Due) (closing : Closing) → GoesBehind first closing → (kind : TokenKind)
    (r x rest : List TokenKind) → Closes closing x rest → kind ∷ r ≡ x → Moves first kind r rest
closes_moves first due.at_semicolon goes kind r x rest closes w =
    moves first kind (symbol symbols.Semicolon) [] r rest (cc) goes.closes (let e : r ≡ rest = (cc) in e)
closes_moves first due.at_comma goes kind r x rest closes w =
    moves first kind (symbol symbols.Comma) [] r rest (cc) goes.closes (let e : r ≡ rest = (cc) in e)
closes_moves first due.at_bracket goes kind r x rest closes w =
    moves first kind (symbol symbols.RightBracket) [] r rest (cc) goes.closes (let e : r ≡ rest = (cc) in e)
closes_moves first due.at_parenthesis goes kind r x rest closes w =
    moves first kind (symbol symbols.RightParenthesis) [] r rest (cc) goes.closes (let e : r ≡ rest = (cc) in e)
closes_moves first due.at_argument goes kind r x rest closes w =
    arguments closes.0 closes.1 (w ∙ closes.2)
  where
    arguments : (args : List ExprPhrase) → AreGrouped args → kind ∷ r ≡ more_args args rest →
        Moves first kind r rest
    arguments [] sound is =
        moves first kind (symbol symbols.RightParenthesis) [] r rest (cc) goes.closes (let e : r ≡ rest = (cc) in e)
    arguments (arg ∷ args) sound is =
        let tail : r ≡ args_then (arg ∷ args) (symbol symbols.RightParenthesis ∷ rest) = (cc) in
        moves first kind (symbol symbols.Comma) (due.operand due.at_argument ∷ []) r rest (cc) (goes.comma refl) (
          rest,
          record {
            expr = arg;
            sound = sound.0;
            behind = more_args args rest;
            closes = (args, sound.1, refl);
            written = tail ∙ joined_more (symbol symbols.Comma) expr_then arg args
                (symbol symbols.RightParenthesis ∷ rest);
          },
          refl,
        )

pub links_move : (first : Due) (closing : Closing) → GoesBehind first closing → (kind : TokenKind)
    (r rest : List TokenKind) → WrittenLinks closing (kind ∷ r) rest → Moves first kind r rest
links_move first closing goes kind r rest w = by_links w.links w.sound w.written
  where
    by_links : (ls : List Link) → Each (λ l. IsSoundOperand l.operand) ls → kind ∷ r ≡ links_then ls w.behind →
        Moves first kind r rest
    by_links [] sound is = closes_moves first closing goes kind r w.behind rest w.closes is
    by_links (l ∷ ls) sound is =
        let tail : r ≡ expr_then l.operand (links_then ls w.behind) = (cc) in
        moves first kind (symbol (operator_symbol l.joins)) (due.operand closing ∷ []) r rest (cc)
        (goes.operators l.joins) (
          rest,
          record {
            expr = gather l.operand ls;
            sound = gather_grouped l.operand ls sound.0.1 sound.1;
            behind = w.behind;
            closes = w.closes;
            written = tail ∙ sym (gather_tokens l.operand ls w.behind);
          },
          refl,
        )

pub links_operator : (closing : Closing) (o : BinOp) →
    after_operand closing (operator_symbol o) ≡ Some (due.operand closing ∷ [])
links_operator due.at_semicolon operator.Or = refl
links_operator due.at_semicolon _ = refl
links_operator due.at_comma operator.Or = refl
links_operator due.at_comma _ = refl
links_operator due.at_bracket operator.Or = refl
links_operator due.at_bracket _ = refl
links_operator due.at_parenthesis operator.Or = refl
links_operator due.at_parenthesis _ = refl
links_operator due.at_argument operator.Or = refl
links_operator due.at_argument _ = refl

pub links_closes : (closing : Closing) → after_operand closing (closing_symbol closing) ≡ Some []
links_closes due.at_semicolon = refl
links_closes _ = refl

pub links_comma : (closing : Closing) → closing ≡ due.at_argument →
    after_operand closing symbols.Comma ≡ Some (due.operand due.at_argument ∷ [])
links_comma closing is = ap (λ c. after_operand c symbols.Comma) is

pub name_operator : (closing : Closing) (o : BinOp) →
    after_operand_name_symbol closing (operator_symbol o) ≡ Some (due.operand closing ∷ [])
name_operator closing operator.Or = links_operator closing operator.Or
name_operator closing operator.And = links_operator closing operator.And
name_operator closing operator.Equal = links_operator closing operator.Equal
name_operator closing operator.NotEqual = links_operator closing operator.NotEqual
name_operator closing operator.Less = links_operator closing operator.Less
name_operator closing operator.LessEqual = links_operator closing operator.LessEqual
name_operator closing operator.Greater = links_operator closing operator.Greater
name_operator closing operator.GreaterEqual = links_operator closing operator.GreaterEqual
name_operator closing operator.Add = links_operator closing operator.Add
name_operator closing operator.Subtract = links_operator closing operator.Subtract
name_operator closing operator.Multiply = links_operator closing operator.Multiply
name_operator closing operator.Divide = links_operator closing operator.Divide
name_operator closing operator.Remainder = links_operator closing operator.Remainder

pub name_closes : (closing : Closing) → after_operand_name_symbol closing (closing_symbol closing) ≡ Some []
name_closes due.at_semicolon = refl
name_closes _ = refl

pub behind_links : (closing : Closing) → GoesBehind (due.links closing) closing
behind_links closing = record {
  operators = links_operator closing;
  closes = links_closes closing;
  comma = links_comma closing;
}

pub behind_name : (closing : Closing) → GoesBehind (due.after_operand_name closing) closing
behind_name closing = record {
  operators = name_operator closing;
  closes = name_closes closing;
  comma = links_comma closing;
}

pub value_operator : (o : BinOp) →
    due_after_symbol due.after_value_name (operator_symbol o) ≡ Some (due.operand due.at_semicolon ∷ [])
value_operator operator.Or = refl
value_operator _ = refl

pub behind_value_name : GoesBehind due.after_value_name due.at_semicolon
behind_value_name = record { operators = value_operator; closes = refl; comma = λ is. absurd (cc) }

pub index_moves : (first : Due) (closing : Closing) →
    due_after_symbol first symbols.LeftBracket ≡ Some (due.operand due.at_bracket ∷ due.links closing ∷ []) →
    (kind : TokenKind) (r rest : List TokenKind) → WrittenIndex closing (kind ∷ r) rest → Moves first kind r rest
index_moves first closing is kind r rest w =
    let same = w.written in
    moves first kind (symbol symbols.LeftBracket) (due.operand due.at_bracket ∷ due.links closing ∷ []) r rest (cc) is (
      w.behind,
      record {
        expr = w.index;
        sound = w.sound;
        behind = symbol symbols.RightBracket ∷ w.behind;
        closes = refl;
        written = (cc);
      },
      (rest, w.links, refl),
    )

-- an operand may begin
pub record BeginsOperand (first : Due) (closing : Closing) : Type 0 where
  pub numbers : (n : ℕ) → due_after_number first (pos n) ≡ Some (due.links closing ∷ [])
  pub behind_name : Due
  pub names : due_after_name first ≡ Some (behind_name ∷ [])
  pub after : (tokens rest : List TokenKind) → WrittenAfterName closing tokens rest → Written behind_name tokens rest
  pub parenthesis : due_after_symbol first symbols.LeftParenthesis
      ≡ Some (due.operand due.at_parenthesis ∷ due.links closing ∷ [])
  pub signs : (sign : Sign) → due_after_symbol first (sign_symbol sign) ≡ Some (due.operand closing ∷ [])
  pub changes : (change : Change) → due_after_word first (change_word change) ≡ Some (relabelled_operand closing)

pub operand_moves : (first : Due) (closing : Closing) → BeginsOperand first closing → (x : ExprPhrase) →
    IsSoundOperand x → (kind : TokenKind) (r rest : List TokenKind) (ls : List Link) →
    Each (λ l. IsSoundOperand l.operand) ls → (behind : List TokenKind) → Closes closing behind rest →
    kind ∷ r ≡ expr_then x (links_then ls behind) → Moves first kind r rest
operand_moves first closing begins (number n) sound kind r rest ls links_sound behind closes w =
    moves first kind (Number (pos n)) (due.links closing ∷ []) r rest (cc) (begins.numbers n) (
      rest,
      record {
        links = ls;
        sound = links_sound;
        behind = behind;
        closes = closes;
        written = (cc);
      },
      refl,
    )
operand_moves first closing begins (variable name) sound kind r rest ls links_sound behind closes w =
    moves first kind (Name name) (begins.behind_name ∷ []) r rest (cc) begins.names (
      rest,
      begins.after r rest (inl
          (record { links = ls; sound = links_sound; behind = behind; closes = closes; written = (cc) })),
      refl,
    )
operand_moves first closing begins (element name index) sound kind r rest ls links_sound behind closes w =
    moves first kind (Name name) (begins.behind_name ∷ []) r rest (cc) begins.names (
      rest,
      begins.after r rest (inr
          (record {
            index = index;
            sound = sound.1;
            behind = links_then ls behind;
            links = record { links = ls; sound = links_sound; behind = behind; closes = closes; written = refl };
            written = (cc);
          })),
      refl,
    )
operand_moves first closing begins (parenthesized inner) sound kind r rest ls links_sound behind closes w =
    moves first kind (symbol symbols.LeftParenthesis) (due.operand due.at_parenthesis ∷ due.links closing ∷ []) r rest
    (cc) begins.parenthesis (
      links_then ls behind,
      record {
        expr = inner;
        sound = sound.1;
        behind = symbol symbols.RightParenthesis ∷ links_then ls behind;
        closes = refl;
        written = (cc);
      },
      (rest, record { links = ls; sound = links_sound; behind = behind; closes = closes; written = refl }, refl),
    )
operand_moves first closing begins (signed sign inner) sound kind r rest ls links_sound behind closes w =
    let tail : r ≡ expr_then inner (links_then ls behind) = (cc) in
    moves first kind (symbol (sign_symbol sign)) (due.operand closing ∷ []) r rest (cc) (begins.signs sign) (
      rest,
      record {
        expr = gather inner ls;
        sound = gather_grouped inner ls sound.1.1 links_sound;
        behind = behind;
        closes = closes;
        written = tail ∙ sym (gather_tokens inner ls behind);
      },
      refl,
    )
operand_moves first closing begins (relabelled change inner label) sound kind r rest ls links_sound behind closes w =
    let last = links_then ls behind in
    moves first kind (Word (change_word change)) (relabelled_operand closing) r rest (cc) (begins.changes change) (
      expr_then inner (symbol symbols.Comma ∷ label_then label (symbol symbols.RightParenthesis ∷ last)),
      (cc),
      (
        label_then label (symbol symbols.RightParenthesis ∷ last),
        record {
          expr = inner;
          sound = sound.1.0;
          behind = symbol symbols.Comma ∷ label_then label (symbol symbols.RightParenthesis ∷ last);
          closes = refl;
          written = refl;
        },
        (
          symbol symbols.RightParenthesis ∷ last,
          (label, sound.1.1, refl),
          (
            last,
            refl,
            (
              rest,
              record { links = ls; sound = links_sound; behind = behind; closes = closes; written = refl },
              refl,
            ),
          ),
        ),
      ),
    )
operand_moves first closing begins (binary o left right) sound kind r rest ls links_sound behind closes w =
    absurd sound.0

pub expr_moves : (first : Due) (closing : Closing) → BeginsOperand first closing → (kind : TokenKind)
    (r rest : List TokenKind) → WrittenExpr closing (kind ∷ r) rest → Moves first kind r rest
expr_moves first closing begins kind r rest w =
    let sound = sound_operands w.expr w.sound in
    operand_moves first closing begins (first_operand w.expr) (at_first IsSoundOperand w.expr sound) kind r rest
    (links w.expr) (at_links IsSoundOperand w.expr sound) w.behind w.closes (w.written ∙ in_order w.expr w.behind)

pub begins_operand : (closing : Closing) → BeginsOperand (due.operand closing) closing
begins_operand closing = record {
  numbers = λ n. refl;
  behind_name = due.after_operand_name closing;
  names = refl;
  after = λ tokens rest w. w;
  parenthesis = refl;
  signs = signs;
  changes = changes;
}
  where
    signs : (sign : Sign) →
        due_after_symbol (due.operand closing) (sign_symbol sign) ≡ Some (due.operand closing ∷ [])
    signs complement = refl
    signs minus = refl

    changes : (change : Change) →
        due_after_word (due.operand closing) (change_word change) ≡ Some (relabelled_operand closing)
    changes release = refl
    changes acceptance = refl

pub begins_argument : BeginsOperand due.args due.at_argument
begins_argument = record {
  numbers = λ n. refl;
  behind_name = due.after_operand_name due.at_argument;
  names = refl;
  after = λ tokens rest w. w;
  parenthesis = refl;
  signs = signs;
  changes = changes;
}
  where
    signs : (sign : Sign) → due_after_symbol due.args (sign_symbol sign) ≡ Some (due.operand due.at_argument ∷ [])
    signs complement = refl
    signs minus = refl

    changes : (change : Change) →
        due_after_word due.args (change_word change) ≡ Some (relabelled_operand due.at_argument)
    changes release = refl
    changes acceptance = refl

pub begins_value : BeginsOperand due.value due.at_semicolon
begins_value = record {
  numbers = λ n. refl;
  behind_name = due.after_value_name;
  names = refl;
  after = λ tokens rest w. inl w;
  parenthesis = refl;
  signs = signs;
  changes = changes;
}
  where
    signs : (sign : Sign) → due_after_symbol due.value (sign_symbol sign) ≡ Some (due.operand due.at_semicolon ∷ [])
    signs complement = refl
    signs minus = refl

    changes : (change : Change) →
        due_after_word due.value (change_word change) ≡ Some (relabelled_operand due.at_semicolon)
    changes release = refl
    changes acceptance = refl
