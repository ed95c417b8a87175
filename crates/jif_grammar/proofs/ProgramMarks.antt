-- What is due finds the marks of statements, methods, fields and whole programs as they are spelled.
use Rattle.std.proofs.Common.{inl, ℕ, zero, suc, true, false, List, [], ◌∷◌, refl, sym, subst, Option}
use Rattle.std.proofs.Common.{Some, None, arith}
use Rattle.jif_lex.specs.declared.token.TokenKind.TheVariants.{Name, Word}
use Rattle.jif_lex.specs.declared.token.Symbol.TheVariants as symbols
use Rattle.jif_lex.specs.declared.token.Word.TheVariants as words
use Rattle.label_lattice.specs.Written.{symbol, TrustIsLast}
use Rattle.jif_grammar.specs.Phrases.{complement, minus, release, acceptance, LabelPhrase, ExprPhrase, number}
use Rattle.jif_grammar.specs.Phrases.{variable, element, parenthesized, signed, binary, relabelled}
use Rattle.jif_grammar.specs.Phrases.{BlockPhrase, end, declaration, assignment, element_assignment, call, call_into}
use Rattle.jif_grammar.specs.Phrases.{branch, branch_else, loop, FieldEnd, unset, sized, set, ParamPhrase, MethodPhrase}
use Rattle.jif_grammar.specs.Phrases.{ItemPhrase, field, method, ProgramPhrase}
use Rattle.jif_grammar.specs.Operators.{operator_symbol}
use Rattle.jif_grammar.specs.Marks as marks
use Rattle.jif_grammar.specs.Marks.{Marked, mark, plain, nothing, node}
use Rattle.jif_grammar.specs.Grouping.{IsGrouped, AreGrouped, IsBlock, IsFieldEnd, AreParams, IsResult}
use Rattle.jif_grammar.specs.Grouping.{IsOptionalLabel, IsItem, IsProgram}
use Rattle.jif_grammar.specs.Spelling.{spelling}
use Rattle.jif_grammar.specs.Due as due
use Rattle.jif_grammar.specs.Due.{Place}
use Rattle.jif_grammar.specs.Nesting.{Nested, nested_at}
use Rattle.jif_grammar.proofs.Marked.{label_before, expr_before, args_before, value_before}
use Rattle.jif_grammar.proofs.Marked.{arguments_before, guard_before, block_before, field_end_before}
use Rattle.jif_grammar.proofs.Marked.{params_before, authority_before, result_before, tail_before, item_before}
use Rattle.jif_grammar.proofs.Marked.{head_before, program_before, program_marked}
use Rattle.jif_grammar.proofs.ExprMarks.{Goes, goes_more_names, goes_first_part, goes_label, operand_at, GoesBehind}
use Rattle.jif_grammar.proofs.ExprMarks.{goes_expr, value_name_operator, links_operator, name_operator}

abbrev semicolon : ℕ → Marked
semicolon depth = plain depth (symbol symbols.Semicolon)

abbrev right_parenthesis : ℕ → Marked
right_parenthesis depth = plain depth (symbol symbols.RightParenthesis)

-- ---- values and arguments

goes_value : (e : ExprPhrase) (depth : ℕ) (later : List Nested) (tokens : List Marked) → IsGrouped e →
    GoesBehind due.at_semicolon depth later tokens → Goes (nested_at depth due.after_value_name ∷ later) tokens →
    Goes (nested_at depth due.value ∷ later) (expr_before depth e tokens)
goes_value (variable name) depth later tokens grouped goes called =
    (nested_at depth due.after_value_name ∷ later, refl, called)
goes_value (element name index) depth later tokens grouped goes called =
    let behind = nested_at depth (due.links due.at_semicolon) ∷ later in (
      nested_at depth due.after_value_name ∷ later,
      refl,
      (
        operand_at due.at_bracket (suc depth) (suc depth) ∷ behind,
        refl,
        goes_expr index due.at_bracket (suc depth) (suc depth) behind
            (plain (suc depth) (symbol symbols.RightBracket) ∷ tokens) grouped (inl refl)
            ((behind, refl, goes.0), λ deeper. (behind, refl, goes.0)),
      ),
    )
goes_value (binary o left right) depth later tokens grouped goes called =
    let more = goes_expr right due.at_semicolon depth depth later tokens grouped.3 (inl refl) goes in
    let next = operand_at due.at_semicolon depth depth ∷ later in
    goes_value left depth later (mark node depth (symbol (operator_symbol o)) ∷ expr_before depth right tokens)
    grouped.2 (
      (next, links_operator due.at_semicolon depth later o, more),
      λ inner. (next, name_operator due.at_semicolon depth inner later o, more),
    ) (next, value_name_operator depth later o, more)
goes_value (number n) depth later tokens grouped goes called =
    goes_expr (number n) due.at_semicolon depth depth later tokens grouped (inl refl) goes
goes_value (parenthesized e) depth later tokens grouped goes called =
    goes_expr (parenthesized e) due.at_semicolon depth depth later tokens grouped (inl refl) goes
goes_value (signed complement e) depth later tokens grouped goes called =
    goes_expr (signed complement e) due.at_semicolon depth depth later tokens grouped (inl refl) goes
goes_value (signed minus e) depth later tokens grouped goes called =
    goes_expr (signed minus e) due.at_semicolon depth depth later tokens grouped (inl refl) goes
goes_value (relabelled release e label) depth later tokens grouped goes called =
    goes_expr (relabelled release e label) due.at_semicolon depth depth later tokens grouped (inl refl) goes
goes_value (relabelled acceptance e label) depth later tokens grouped goes called =
    goes_expr (relabelled acceptance e label) due.at_semicolon depth depth later tokens grouped (inl refl) goes

-- an expression up to its semicolon
goes_to_semicolon : (e : ExprPhrase) (depth : ℕ) (later : List Nested) (tokens : List Marked) → IsGrouped e →
    Goes later tokens → Goes (operand_at due.at_semicolon depth depth ∷ later) (value_before depth e tokens)
goes_to_semicolon e depth later tokens grouped goes =
    goes_expr e due.at_semicolon depth depth later (semicolon depth ∷ tokens) grouped (inl refl)
    ((later, refl, goes), λ inner. (later, refl, goes))

goes_set : (depth : ℕ) (later : List Nested) (tokens : List Marked) (e : ExprPhrase) → IsGrouped e →
    Goes later tokens → Goes (nested_at depth due.value ∷ later) (value_before depth e tokens)
goes_set depth later tokens e grouped goes =
    goes_value e depth later (semicolon depth ∷ tokens) grouped
    ((later, refl, goes), λ inner. (later, refl, goes)) (later, refl, goes)

as_args : (e : ExprPhrase) (depth : ℕ) (later : List Nested) (tokens : List Marked) →
    Goes (operand_at due.at_argument depth depth ∷ later) (expr_before depth e tokens) →
    Goes (nested_at depth due.args ∷ later) (expr_before depth e tokens)
as_args (binary o left right) depth later tokens goes =
    as_args left depth later (mark node depth (symbol (operator_symbol o)) ∷ expr_before depth right tokens) goes
as_args (signed complement e) depth later tokens goes = goes
as_args (signed minus e) depth later tokens goes = goes
as_args (relabelled release e label) depth later tokens goes = goes
as_args (relabelled acceptance e label) depth later tokens goes = goes
as_args _ depth later tokens goes = goes

goes_more_args : (depth : ℕ) (later : List Nested) (tokens : List Marked) (arg : ExprPhrase) (args : List ExprPhrase) →
    AreGrouped (arg ∷ args) → Goes later tokens →
    Goes (operand_at due.at_argument depth depth ∷ later)
    (args_before depth (arg ∷ args) (right_parenthesis depth ∷ tokens))
goes_more_args depth later tokens arg [] grouped goes =
    goes_expr arg due.at_argument depth depth later (right_parenthesis depth ∷ tokens) grouped.0 (inl refl)
    ((later, refl, goes), λ inner. (later, refl, goes))
goes_more_args depth later tokens arg (next ∷ args) grouped goes =
    let more = goes_more_args depth later tokens next args grouped.1 goes in
    let first = operand_at due.at_argument depth depth ∷ later in
    goes_expr arg due.at_argument depth depth later (plain depth (symbol symbols.Comma)
    ∷ args_before depth (next ∷ args) (right_parenthesis depth ∷ tokens)) grouped.0 (inl refl)
    ((first, refl, more), λ inner. (first, refl, more))

goes_args : (depth : ℕ) (later : List Nested) (tokens : List Marked) (args : List ExprPhrase) → AreGrouped args →
    Goes later tokens →
    Goes (nested_at depth due.args ∷ later) (args_before depth args (right_parenthesis depth ∷ tokens))
goes_args depth later tokens [] grouped goes = (later, refl, goes)
goes_args depth later tokens (arg ∷ []) grouped goes =
    as_args arg depth later (right_parenthesis depth ∷ tokens)
    (goes_more_args depth later tokens arg [] grouped goes)
goes_args depth later tokens (arg ∷ next ∷ args) grouped goes =
    as_args arg depth later (plain depth (symbol symbols.Comma)
    ∷ args_before depth (next ∷ args) (right_parenthesis depth ∷ tokens))
    (goes_more_args depth later tokens arg (next ∷ args) grouped goes)

-- arguments, the parenthesis and the semicolon
goes_call : (depth : ℕ) (later : List Nested) (tokens : List Marked) (args : List ExprPhrase) → AreGrouped args →
    Goes later tokens →
    Goes (nested_at depth due.args ∷ nested_at depth (due.exactly due.semicolon) ∷ later)
    (arguments_before depth args tokens)
goes_call depth later tokens args grouped goes =
    goes_args depth (nested_at depth (due.exactly due.semicolon) ∷ later) (semicolon depth ∷ tokens) args grouped
    (later, refl, goes)

-- ---- statements

abbrev statements_at : Place → ℕ → Nested
statements_at place depth = nested_at depth (due.statements place)

-- statements may end here, also behind a block that an `else` could follow
abbrev GoesAtEnd : Place → ℕ → List Nested → List Marked → Type 0
GoesAtEnd place depth later tokens =
    Goes (statements_at place depth ∷ later) tokens
    × Goes (nested_at depth (due.otherwise place) ∷ later) tokens

goes_guard : (depth : ℕ) (later : List Nested) (tokens : List Marked) (guard : ExprPhrase) → IsGrouped guard →
    Goes later tokens →
    Goes (nested_at depth (due.exactly due.left_parenthesis) ∷ operand_at due.at_parenthesis depth depth
    ∷ nested_at (suc depth) (due.exactly due.left_brace) ∷ later) (guard_before depth guard tokens)
goes_guard depth later tokens guard grouped goes =
    let brace = nested_at (suc depth) (due.exactly due.left_brace) ∷ later in (
      operand_at due.at_parenthesis depth depth ∷ brace,
      refl,
      goes_expr guard due.at_parenthesis depth depth brace (right_parenthesis depth
          ∷ plain (suc depth) (symbol symbols.LeftBrace) ∷ tokens) grouped (inl refl)
          ((brace, refl, (later, refl, goes)), λ inner. (brace, refl, (later, refl, goes))),
    )

as_otherwise : (place : Place) (depth : ℕ) (later : List Nested) (tokens : List Marked) (block : BlockPhrase) →
    Goes (nested_at depth (due.otherwise place) ∷ later) tokens →
    Goes (statements_at place depth ∷ later) (block_before depth block tokens) →
    Goes (nested_at depth (due.otherwise place) ∷ later) (block_before depth block tokens)
as_otherwise place depth later tokens end at_end goes = at_end
as_otherwise due.nested depth later tokens _ at_end goes = goes
as_otherwise due.body depth later tokens _ at_end goes = goes

-- the value and what follows it, behind the name of a local
abbrev local_at : ℕ → List Nested → List Nested
local_at depth later =
    nested_at depth (due.exactly due.assign) ∷ operand_at due.at_semicolon depth depth ∷ later

goes_local : (depth : ℕ) (later : List Nested) (tokens : List Marked) (value : ExprPhrase) → IsGrouped value →
    Goes later tokens →
    Goes (local_at depth later) (plain depth (symbol symbols.Assign) ∷ value_before depth value tokens)
goes_local depth later tokens value grouped goes =
    (operand_at due.at_semicolon depth depth ∷ later, refl, goes_to_semicolon value depth later tokens grouped goes)

pub goes_block : (place : Place) (depth : ℕ) (later : List Nested) (tokens : List Marked) (block : BlockPhrase) →
    IsBlock block → GoesAtEnd place depth later tokens →
    Goes (statements_at place depth ∷ later) (block_before depth block tokens)
goes_block place depth later tokens end sound ends = ends.0
goes_block place depth later tokens (declaration None name value rest) sound ends =
    let more = goes_block place depth later tokens rest sound.2 ends in
    let behind = statements_at place depth ∷ later in (
      nested_at depth due.after_int ∷ behind,
      refl,
      (
        local_at depth behind,
        refl,
        goes_local depth behind (block_before depth rest tokens) value sound.1 more,
      ),
    )
goes_block place depth later tokens (declaration (Some label) name value rest) sound ends =
    let more = goes_block place depth later tokens rest sound.2 ends in
    let behind = statements_at place depth ∷ later in
    let value_tokens = plain depth (symbol symbols.Assign)
    ∷ value_before depth value (block_before depth rest tokens) in (
      nested_at depth due.after_int ∷ behind,
      refl,
      (
        nested_at depth due.first_part ∷ nested_at depth due.a_name ∷ local_at depth behind,
        refl,
        goes_first_part depth (nested_at depth due.a_name ∷ local_at depth behind)
            (plain depth (Name name) ∷ value_tokens) label sound.0 (
              local_at depth behind,
              refl,
              goes_local depth behind (block_before depth rest tokens) value sound.1 more,
            ),
      ),
    )
goes_block place depth later tokens (assignment name value rest) sound ends =
    let more = goes_block place depth later tokens rest sound.1 ends in
    let behind = statements_at place depth ∷ later in (
      nested_at depth due.after_first_name ∷ behind,
      refl,
      (
        nested_at depth due.value ∷ behind,
        refl,
        goes_set depth behind (block_before depth rest tokens) value sound.0 more,
      ),
    )
goes_block place depth later tokens (element_assignment name index value rest) sound ends =
    let more = goes_block place depth later tokens rest sound.2 ends in
    let behind = statements_at place depth ∷ later in
    let set = goes_local depth behind (block_before depth rest tokens) value sound.1 more in (
      nested_at depth due.after_first_name ∷ behind,
      refl,
      (
        operand_at due.at_bracket depth depth ∷ local_at depth behind,
        refl,
        goes_expr index due.at_bracket depth depth (local_at depth behind)
            (plain depth (symbol symbols.RightBracket) ∷ plain depth (symbol symbols.Assign)
            ∷ value_before depth value (block_before depth rest tokens)) sound.0 (inl refl)
            ((local_at depth behind, refl, set), λ inner. (local_at depth behind, refl, set)),
      ),
    )
goes_block place depth later tokens (call name args rest) sound ends =
    let more = goes_block place depth later tokens rest sound.1 ends in
    let behind = statements_at place depth ∷ later in (
      nested_at depth due.after_first_name ∷ behind,
      refl,
      (
        nested_at depth due.args ∷ nested_at depth (due.exactly due.semicolon) ∷ behind,
        refl,
        goes_call depth behind (block_before depth rest tokens) args sound.0 more,
      ),
    )
goes_block place depth later tokens (call_into into name args rest) sound ends =
    let more = goes_block place depth later tokens rest sound.1 ends in
    let behind = statements_at place depth ∷ later in (
      nested_at depth due.after_first_name ∷ behind,
      refl,
      (
        nested_at depth due.value ∷ behind,
        refl,
        (
          nested_at depth due.after_value_name ∷ behind,
          refl,
          (
            nested_at depth due.args ∷ nested_at depth (due.exactly due.semicolon) ∷ behind,
            refl,
            goes_call depth behind (block_before depth rest tokens) args sound.0 more,
          ),
        ),
      ),
    )
goes_block place depth later tokens (branch guard first rest) sound ends =
    let more = goes_block place depth later tokens rest sound.2 ends in
    let behind = nested_at depth (due.otherwise place) ∷ later in
    let inside = statements_at due.nested (suc depth) ∷ behind in
    let close = plain (suc depth) (symbol symbols.RightBrace) ∷ block_before depth rest tokens in
    let at_end = as_otherwise place depth later tokens rest ends.1 more in (
      nested_at depth (due.exactly due.left_parenthesis) ∷ operand_at due.at_parenthesis depth depth
          ∷ nested_at (suc depth) (due.exactly due.left_brace) ∷ inside,
      refl,
      goes_guard depth inside (block_before (suc depth) first close) guard sound.0
          (goes_block due.nested (suc depth) behind close first sound.1
          ((behind, refl, at_end), (behind, refl, at_end))),
    )
goes_block place depth later tokens (branch_else guard first second rest) sound ends =
    let more = goes_block place depth later tokens rest sound.3 ends in
    let last = statements_at place depth ∷ later in
    let close_second = plain (suc depth) (symbol symbols.RightBrace) ∷ block_before depth rest tokens in
    let within = goes_block due.nested (suc depth) last close_second second sound.2
    ((last, refl, more), (last, refl, more)) in
    let behind = nested_at depth (due.otherwise place) ∷ later in
    let inside = statements_at due.nested (suc depth) ∷ behind in
    let close = plain (suc depth) (symbol symbols.RightBrace) ∷ plain depth (Word words.Else)
    ∷ plain (suc depth) (symbol symbols.LeftBrace) ∷ block_before (suc depth) second close_second in
    let at_end : Goes behind (plain depth (Word words.Else)
    ∷ plain (suc depth) (symbol symbols.LeftBrace) ∷ block_before (suc depth) second close_second) = (
      nested_at (suc depth) (due.exactly due.left_brace) ∷ statements_at due.nested (suc depth) ∷ last,
      refl,
      (statements_at due.nested (suc depth) ∷ last, refl, within),
    ) in (
      nested_at depth (due.exactly due.left_parenthesis) ∷ operand_at due.at_parenthesis depth depth
          ∷ nested_at (suc depth) (due.exactly due.left_brace) ∷ inside,
      refl,
      goes_guard depth inside (block_before (suc depth) first close) guard sound.0
          (goes_block due.nested (suc depth) behind close first sound.1
          ((behind, refl, at_end), (behind, refl, at_end))),
    )
goes_block place depth later tokens (loop guard body rest) sound ends =
    let more = goes_block place depth later tokens rest sound.2 ends in
    let behind = statements_at place depth ∷ later in
    let inside = statements_at due.nested (suc depth) ∷ behind in
    let close = plain (suc depth) (symbol symbols.RightBrace) ∷ block_before depth rest tokens in (
      nested_at depth (due.exactly due.left_parenthesis) ∷ operand_at due.at_parenthesis depth depth
          ∷ nested_at (suc depth) (due.exactly due.left_brace) ∷ inside,
      refl,
      goes_guard depth inside (block_before (suc depth) body close) guard sound.0
          (goes_block due.nested (suc depth) behind close body sound.1
          ((behind, refl, more), (behind, refl, more))),
    )

-- ---- methods

goes_param : (later : List Nested) (tokens : List Marked) (param : ParamPhrase) → TrustIsLast param.label →
    Goes later tokens →
    Goes (nested_at 0 due.label ∷ nested_at 0 due.a_name ∷ later)
    (label_before nothing 0 param.label (plain 0 (Name param.name) ∷ tokens))
goes_param later tokens param last goes =
    goes_label 0 (nested_at 0 due.a_name ∷ later) (plain 0 (Name param.name) ∷ tokens) param.label last
    (later, refl, goes)

abbrev param_due : List Nested → List Nested
param_due later = nested_at 0 due.label ∷ nested_at 0 due.a_name ∷ nested_at 0 due.after_param ∷ later

goes_more_params : (later : List Nested) (tokens : List Marked) (param : ParamPhrase) (params : List ParamPhrase) →
    AreParams (param ∷ params) → Goes later tokens →
    Goes (nested_at 0 due.int_word ∷ param_due later)
    (params_before (param ∷ params) (right_parenthesis 0 ∷ tokens))
goes_more_params later tokens param [] sound goes = (
  param_due later,
  refl,
  goes_param (nested_at 0 due.after_param ∷ later) (right_parenthesis 0 ∷ tokens) param sound.0 (later, refl, goes),
)
goes_more_params later tokens param (next ∷ params) sound goes = (
  param_due later,
  refl,
  goes_param (nested_at 0 due.after_param ∷ later) (plain 0 (symbol symbols.Comma)
      ∷ params_before (next ∷ params) (right_parenthesis 0 ∷ tokens)) param sound.0 (
        nested_at 0 due.int_word ∷ param_due later,
        refl,
        goes_more_params later tokens next params sound.1 goes,
      ),
)

goes_params : (later : List Nested) (tokens : List Marked) (params : List ParamPhrase) → AreParams params →
    Goes later tokens →
    Goes (nested_at 0 due.params ∷ later) (params_before params (right_parenthesis 0 ∷ tokens))
goes_params later tokens [] sound goes = (later, refl, goes)
goes_params later tokens (param ∷ []) sound goes = (
  param_due later,
  refl,
  goes_param (nested_at 0 due.after_param ∷ later) (right_parenthesis 0 ∷ tokens) param sound.0
      (later, refl, goes),
)
goes_params later tokens (param ∷ next ∷ params) sound goes = (
  param_due later,
  refl,
  goes_param (nested_at 0 due.after_param ∷ later) (plain 0 (symbol symbols.Comma)
      ∷ params_before (next ∷ params) (right_parenthesis 0 ∷ tokens)) param sound.0 (
        nested_at 0 due.int_word ∷ param_due later,
        refl,
        goes_more_params later tokens next params sound.1 goes,
      ),
)

goes_authority : (later : List Nested) (tokens : List Marked) (names : List (List ℕ)) → Goes later tokens →
    Goes (nested_at 0 due.authority ∷ later)
    (authority_before names (plain 0 (symbol symbols.LeftBrace) ∷ tokens))
goes_authority later tokens [] goes = (later, refl, goes)
goes_authority later tokens (name ∷ names) goes =
    let behind = nested_at 0 due.a_name ∷ nested_at 0 due.after_principal ∷ later in (
      nested_at 0 due.authority_word ∷ nested_at 0 (due.exactly due.left_parenthesis) ∷ behind,
      refl,
      (
        nested_at 0 (due.exactly due.left_parenthesis) ∷ behind,
        refl,
        (
          behind,
          refl,
          goes_more_names due.after_principal 0 later
              (right_parenthesis 0 ∷ plain 0 (symbol symbols.LeftBrace) ∷ tokens) name names refl (
                nested_at 0 (due.exactly due.left_brace) ∷ later,
                refl,
                (later, refl, goes),
              ),
        ),
      ),
    )

goes_result : (later : List Nested) (tokens : List Marked) (result : Option ExprPhrase) → IsResult result →
    Goes later tokens →
    GoesAtEnd due.body 0 later (result_before result (plain 0 (symbol symbols.RightBrace) ∷ tokens))
goes_result later tokens None sound goes = ((later, refl, goes), (later, refl, goes))
goes_result later tokens (Some value) sound goes =
    let close = nested_at 0 (due.exactly due.right_brace) ∷ later in
    let more = goes_to_semicolon value 0 close (plain 0 (symbol symbols.RightBrace) ∷ tokens) sound
    (later, refl, goes) in (
      (operand_at due.at_semicolon 0 0 ∷ close, refl, more),
      (operand_at due.at_semicolon 0 0 ∷ close, refl, more),
    )

-- what follows the begin label of a method
abbrev method_due : List Nested → List Nested
method_due later =
    nested_at 0 (due.exactly due.left_parenthesis) ∷ nested_at 0 due.params ∷ nested_at 0 due.authority
    ∷ statements_at due.body 0 ∷ later

goes_tail : (later : List Nested) (tokens : List Marked) (phrase : MethodPhrase) → IsItem (method phrase) →
    Goes later tokens → Goes (method_due later) (tail_before phrase tokens)
goes_tail later tokens phrase sound goes =
    let body_due = statements_at due.body 0 ∷ later in
    let body_tokens = block_before 0 phrase.body
    (result_before phrase.result (plain 0 (symbol symbols.RightBrace) ∷ tokens)) in (
      nested_at 0 due.params ∷ nested_at 0 due.authority ∷ body_due,
      refl,
      goes_params (nested_at 0 due.authority ∷ body_due)
          (authority_before phrase.authority (plain 0 (symbol symbols.LeftBrace) ∷ body_tokens)) phrase.params sound.2
          (goes_authority body_due body_tokens phrase.authority
          (goes_block due.body 0 later (result_before phrase.result (plain 0 (symbol symbols.RightBrace) ∷ tokens))
          phrase.body sound.3 (goes_result later tokens phrase.result sound.4 goes))),
    )

-- ---- fields

goes_field_end : (later : List Nested) (tokens : List Marked) (ending : FieldEnd) → IsFieldEnd ending →
    Goes later tokens → Goes (nested_at 0 due.after_name ∷ later) (field_end_before ending tokens)
goes_field_end later tokens unset sound goes = (later, refl, goes)
goes_field_end later tokens (sized zero) sound goes = absurd (omega (arith, sound))
goes_field_end later tokens (sized (suc n)) sound goes =
    let close = nested_at 0 (due.exactly due.semicolon) ∷ later in
    let bracket = nested_at 0 (due.exactly due.right_bracket) ∷ close in
    (nested_at 0 due.a_size ∷ bracket, refl, (bracket, refl, (close, refl, (later, refl, goes))))
goes_field_end later tokens (set false first) sound goes =
    let close = nested_at 0 (due.exactly due.semicolon) ∷ later in
    (nested_at 0 due.first_value ∷ later, refl, (close, refl, (later, refl, goes)))
goes_field_end later tokens (set true first) sound goes =
    let close = nested_at 0 (due.exactly due.semicolon) ∷ later in (
      nested_at 0 due.first_value ∷ later,
      refl,
      (nested_at 0 due.a_number ∷ close, refl, (close, refl, (later, refl, goes))),
    )

-- ---- programs

abbrev item_due : List Nested
item_due = nested_at 0 due.label ∷ nested_at 0 due.a_name ∷ nested_at 0 due.after_name ∷ []

goes_item : (tokens : List Marked) (item : ItemPhrase) → IsItem item → Goes [] tokens →
    Goes [] (item_before item tokens)
goes_item tokens (field phrase) sound goes = (
  item_due,
  refl,
  goes_label 0 (nested_at 0 due.a_name ∷ nested_at 0 due.after_name ∷ [])
      (plain 0 (Name phrase.name) ∷ field_end_before phrase.ending tokens) phrase.label sound.0 (
        nested_at 0 due.after_name ∷ [],
        refl,
        goes_field_end [] tokens phrase.ending sound.1 goes,
      ),
)
goes_item tokens (method phrase) sound goes = by_kind phrase.kind sound.0
  where
    by_kind : (kind : Option LabelPhrase) → IsOptionalLabel kind →
        Goes [] (head_before kind phrase.name phrase.begin (tail_before phrase tokens))
    by_kind None labelled = (
      nested_at 0 due.a_name ∷ nested_at 0 due.label ∷ method_due [],
      refl,
      (
        nested_at 0 due.label ∷ method_due [],
        refl,
        goes_label 0 (method_due []) (tail_before phrase tokens) phrase.begin sound.1
            (goes_tail [] tokens phrase sound goes),
      ),
    )
    by_kind (Some label) labelled = (
      item_due,
      refl,
      goes_label 0 (nested_at 0 due.a_name ∷ nested_at 0 due.after_name ∷ [])
          (plain 0 (Name phrase.name) ∷ label_before marks.method 0 phrase.begin (tail_before phrase tokens)) label
          labelled (
            nested_at 0 due.after_name ∷ [],
            refl,
            (
              nested_at 0 due.first_part ∷ method_due [],
              refl,
              goes_first_part 0 (method_due []) (tail_before phrase tokens) phrase.begin sound.1
                  (goes_tail [] tokens phrase sound goes),
            ),
          ),
    )

goes_items : (program : ProgramPhrase) → IsProgram program → Goes [] (program_before program [])
goes_items [] sound = tt
goes_items (item ∷ items) sound =
    goes_item (program_before items []) item sound.0 (goes_items items sound.1)

-- the tokens of a program are marked as what is due has them
pub goes_program : (program : ProgramPhrase) → IsProgram program → Goes [] (spelling program)
goes_program program sound =
    subst (λ ts. Goes [] ts) (sym (program_marked program)) (goes_items program sound)
