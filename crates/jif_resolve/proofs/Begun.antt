-- How much of a kind begins at the tokens of a phrase, and in its draft. Each token counts by what begins at it.
use Rattle.std.proofs.Common.{◌≡◌, ℕ, suc, ◌+◌, ◌*◌, List, [], ◌∷◌, ◌++◌, map, length, Option, Some, None, refl, arith}
use Rattle.std.proofs.Common.{ap, ◌∙◌}
use Rattle.std.proofs.lemmas.List.{length-append}
use Rattle.jif_lex.specs.declared.token.TokenKind.{TokenKind}
use Rattle.jif_lex.specs.declared.token.TokenKind.TheVariants.{Name}
use Rattle.jif_lex.specs.declared.token.Symbol.TheVariants.{RightBrace, RightParenthesis}
use Rattle.jif_lex.specs.declared.token.Symbol.TheVariants.{RightBracket, Comma}
use Rattle.label_lattice.specs.Written.{symbol, parts_tokens, names_tokens}
use Rattle.jif_grammar.specs.Phrases.{LabelPhrase, ExprPhrase, number, variable, element, parenthesized, signed, binary}
use Rattle.jif_grammar.specs.Phrases.{complement, minus, release, acceptance}
use Rattle.jif_grammar.specs.Phrases.{relabelled, BlockPhrase, end, declaration, assignment, element_assignment, call}
use Rattle.jif_grammar.specs.Phrases.{call_into, branch, branch_else, loop, ParamPhrase}
use Rattle.jif_grammar.specs.Operators.{operator_symbol}
use Rattle.jif_grammar.specs.Marks as marks
use Rattle.jif_grammar.specs.Marks.{Beginning, Marked, mark, plain, nothing, node, local, statement, parameter}
use Rattle.jif_grammar.specs.Spelling.{label_spelling, expr_spelling, args_spelling, optional_label_spelling}
use Rattle.jif_grammar.specs.Spelling.{block_spelling, param_spelling, params_spelling, authority_spelling}
use Rattle.jif_grammar.specs.DraftShapes.{BlockShape, end_shape, declaration_shape, assignment_shape}
use Rattle.jif_grammar.specs.DraftShapes.{element_assignment_shape, branch_shape, loop_shape, call_shape, return_shape}
use Rattle.jif_grammar.specs.Drafts.{expr_at, args_at, expr_width, block_at, params_at, block_width}
use Rattle.jif_resolve.specs.Counts.{locals_in, statements_in, nodes_in, nodes_in_all}

abbrev pub begun : (Beginning → ℕ) → List Marked → ℕ
begun amount [] = 0
begun amount (token ∷ tokens) = amount token.begins + begun amount tokens

pub begun_append : (amount : Beginning → ℕ) (front more : List Marked) →
    begun amount (front ++ more) ≡ begun amount front + begun amount more
begun_append amount [] more = omega arith
begun_append amount (token ∷ front) more = omega (arith, begun_append amount front more)

-- a token at which nothing begins stands between
pub begun_around : (amount : Beginning → ℕ) (front : List Marked) (depth : ℕ) (kind : TokenKind) (more : List Marked) →
    amount nothing ≡ 0 →
    begun amount (front ++ plain depth kind ∷ more) ≡ begun amount front + begun amount more
begun_around amount front depth kind more none =
    omega (arith, begun_append amount front (plain depth kind ∷ more), none)

-- ---- labels and names

pub begun_plain : (amount : Beginning → ℕ) (depth : ℕ) (kinds : List TokenKind) → amount nothing ≡ 0 →
    begun amount (map (plain depth) kinds) ≡ 0
begun_plain amount depth [] none = refl
begun_plain amount depth (kind ∷ kinds) none = omega (arith, none, begun_plain amount depth kinds none)

pub of_label : (amount : Beginning → ℕ) (begins : Beginning) (depth : ℕ) (label : LabelPhrase) → amount nothing ≡ 0 →
    begun amount (label_spelling begins depth label) ≡ amount begins
of_label amount begins depth label none =
    omega (arith, begun_plain amount depth (parts_tokens label ++ symbol RightBrace ∷ []) none)

pub of_optional_label : (amount : Beginning → ℕ) (depth : ℕ) (label : Option LabelPhrase) → amount nothing ≡ 0 →
    begun amount (optional_label_spelling depth label) ≡ 0
of_optional_label amount depth None none = refl
of_optional_label amount depth (Some label) none = omega (arith, none, of_label amount nothing depth label none)

pub of_authority : (amount : Beginning → ℕ) (names : List (List ℕ)) → amount nothing ≡ 0 →
    begun amount (authority_spelling names) ≡ 0
of_authority amount [] none = refl
of_authority amount (name ∷ names) none =
    omega (
      arith,
      none,
      begun_plain amount 0 (names_tokens (name ∷ names)) none,
      begun_around amount (map (plain 0) (names_tokens (name ∷ names))) 0 (symbol RightParenthesis) [] none,
    )

-- ---- expressions

pub of_expr : (amount : Beginning → ℕ) (depth at : ℕ) (e : ExprPhrase) → amount nothing ≡ 0 →
    begun amount (expr_spelling depth e) ≡ amount node * nodes_in (expr_at at e)
of_expr amount depth at (number n) none = omega arith
of_expr amount depth at (variable name) none = omega arith
of_expr amount depth at (element name index) none =
    omega (
      arith,
      none,
      of_expr amount (suc depth) (at + 2) index none,
      begun_around amount (expr_spelling (suc depth) index) (suc depth) (symbol RightBracket) [] none,
    )
of_expr amount depth at (parenthesized e) none =
    omega (
      arith,
      none,
      of_expr amount (suc depth) (at + 1) e none,
      begun_around amount (expr_spelling (suc depth) e) (suc depth) (symbol RightParenthesis) [] none,
    )
of_expr amount depth at (signed complement e) none =
    omega (arith, of_expr amount (suc depth) (at + 1) e none)
of_expr amount depth at (signed minus e) none =
    omega (arith, of_expr amount (suc depth) (at + 1) e none)
of_expr amount depth at (binary operator left right) none =
    let operator_mark = mark node depth (symbol (operator_symbol operator)) in
    omega (
      arith,
      of_expr amount depth at left none,
      of_expr amount depth (at + expr_width left + 1) right none,
      begun_append amount (expr_spelling depth left) (operator_mark ∷ expr_spelling depth right),
    )
of_expr amount depth at (relabelled release e label) none =
    simp begun_append (omega (
      arith,
      none,
      of_expr amount (suc depth) (at + 2) e none,
      of_label amount nothing (suc depth) label none,
    ))
of_expr amount depth at (relabelled acceptance e label) none =
    simp begun_append (omega (
      arith,
      none,
      of_expr amount (suc depth) (at + 2) e none,
      of_label amount nothing (suc depth) label none,
    ))

pub of_args : (amount : Beginning → ℕ) (depth at : ℕ) (args : List ExprPhrase) → amount nothing ≡ 0 →
    begun amount (args_spelling depth args) ≡ amount node * nodes_in_all (args_at at args)
of_args amount depth at [] none = omega arith
of_args amount depth at (arg ∷ []) none = omega (arith, of_expr amount depth at arg none)
of_args amount depth at (arg ∷ next ∷ args) none =
    omega (
      arith,
      of_expr amount depth at arg none,
      of_args amount depth (at + expr_width arg + 1) (next ∷ args) none,
      begun_around amount (expr_spelling depth arg) depth (symbol Comma) (args_spelling depth (next ∷ args)) none,
    )

-- ---- parameters

pub of_param : (amount : Beginning → ℕ) (param : ParamPhrase) → amount nothing ≡ 0 →
    begun amount (param_spelling param) ≡ amount parameter
of_param amount param none =
    omega (
      arith,
      of_label amount nothing 0 param.label none,
      none,
      begun_around amount (label_spelling nothing 0 param.label) 0 (Name param.name) [] none,
    )

pub of_params : (amount : Beginning → ℕ) (at : ℕ) (params : List ParamPhrase) → amount nothing ≡ 0 →
    begun amount (params_spelling params) ≡ amount parameter * length (params_at at params)
of_params amount at [] none = omega arith
of_params amount at (param ∷ []) none = omega (arith, of_param amount param none)
of_params amount at (param ∷ next ∷ params) none =
    omega (
      arith,
      of_param amount param none,
      of_params amount (at + length (param_spelling param) + 1) (next ∷ params) none,
      begun_around amount (param_spelling param) 0 (symbol Comma) (params_spelling (next ∷ params)) none,
    )

-- ---- statements

-- no expression counts
pub record CountsNoNodes (amount : Beginning → ℕ) : Type 0 where
  pub nothing_is : amount nothing ≡ 0
  pub node_is : amount node ≡ 0
  pub arguments_is : amount marks.arguments ≡ 0

-- what the statements of a block count, with those inside them
abbrev pub worth : (Beginning → ℕ) → BlockShape → ℕ
worth amount end_shape = 0
worth amount (declaration_shape start label name value rest) = amount local + worth amount rest
worth amount (assignment_shape start name value rest) = amount statement + worth amount rest
worth amount (element_assignment_shape start name index value rest) = amount statement + worth amount rest
worth amount (branch_shape start guard first second rest) =
    amount statement + worth amount first + worth amount second + worth amount rest
worth amount (loop_shape start guard body rest) = amount statement + worth amount body + worth amount rest
worth amount (call_shape start name args into rest) = amount statement + worth amount rest
worth amount (return_shape start value rest) = amount statement + worth amount rest

-- locals as they count, and all other statements as they do
pub worth_is : (amount : Beginning → ℕ) (block : BlockShape) →
    worth amount block + amount statement * length (locals_in block)
    ≡ amount local * length (locals_in block) + amount statement * statements_in block
worth_is amount end_shape = omega arith
worth_is amount (declaration_shape start label name value rest) = omega (arith, worth_is amount rest)
worth_is amount (assignment_shape start name value rest) = omega (arith, worth_is amount rest)
worth_is amount (element_assignment_shape start name index value rest) = omega (arith, worth_is amount rest)
worth_is amount (branch_shape start guard first second rest) =
    simp length-append (omega (arith, worth_is amount first, worth_is amount second, worth_is amount rest))
worth_is amount (loop_shape start guard body rest) =
    simp length-append (omega (arith, worth_is amount body, worth_is amount rest))
worth_is amount (call_shape start name args into rest) = omega (arith, worth_is amount rest)
worth_is amount (return_shape start value rest) = omega (arith, worth_is amount rest)

none_of : (n : ℕ) → 0 * n ≡ 0
none_of n = omega arith

pub expr_counts_nothing : (amount : Beginning → ℕ) (depth : ℕ) (e : ExprPhrase) → CountsNoNodes amount →
    begun amount (expr_spelling depth e) ≡ 0
expr_counts_nothing amount depth e none =
    of_expr amount depth 0 e none.nothing_is
    ∙ ap (λ n. n * nodes_in (expr_at 0 e)) none.node_is ∙ none_of (nodes_in (expr_at 0 e))

pub args_count_nothing : (amount : Beginning → ℕ) (depth : ℕ) (args : List ExprPhrase) → CountsNoNodes amount →
    begun amount (args_spelling depth args) ≡ 0
args_count_nothing amount depth args none =
    of_args amount depth 0 args none.nothing_is
    ∙ ap (λ n. n * nodes_in_all (args_at 0 args)) none.node_is ∙ none_of (nodes_in_all (args_at 0 args))

-- a block, before the statements behind it
pub of_block : (amount : Beginning → ℕ) (lines : ℕ → ℕ) (depth at : ℕ) (block : BlockPhrase) (behind : BlockShape) →
    CountsNoNodes amount →
    begun amount (block_spelling depth block) + worth amount behind ≡ worth amount (block_at lines at block behind)
of_block amount lines depth at end behind none = omega arith
of_block amount lines depth at (declaration label name value rest) behind none =
    let place = at + 1 + length (optional_label_spelling 0 label) + 3 + expr_width value in
    simp begun_append (omega (
      arith,
      none.nothing_is,
      of_optional_label amount depth label none.nothing_is,
      expr_counts_nothing amount depth value none,
      of_block amount lines depth place rest behind none,
    ))
of_block amount lines depth at (assignment name value rest) behind none =
    simp begun_append (omega (
      arith,
      none.nothing_is,
      expr_counts_nothing amount depth value none,
      of_block amount lines depth (at + 3 + expr_width value) rest behind none,
    ))
of_block amount lines depth at (element_assignment name index value rest) behind none =
    let place = at + 4 + expr_width index + 1 + expr_width value in
    simp begun_append (omega (
      arith,
      none.nothing_is,
      expr_counts_nothing amount depth index none,
      expr_counts_nothing amount depth value none,
      of_block amount lines depth place rest behind none,
    ))
of_block amount lines depth at (call name args rest) behind none =
    let place = at + 4 + length (args_spelling 0 args) in
    simp begun_append (omega (
      arith,
      none.nothing_is,
      args_count_nothing amount depth args none,
      of_block amount lines depth place rest behind none,
    ))
of_block amount lines depth at (call_into into name args rest) behind none =
    let place = at + 6 + length (args_spelling 0 args) in
    simp begun_append (omega (
      arith,
      none.nothing_is,
      none.node_is,
      none.arguments_is,
      args_count_nothing amount depth args none,
      of_block amount lines depth place rest behind none,
    ))
of_block amount lines depth at (branch guard first rest) behind none =
    let inside = at + 4 + expr_width guard in
    let place = inside + 1 + block_width first in
    simp begun_append (omega (
      arith,
      none.nothing_is,
      expr_counts_nothing amount depth guard none,
      of_block amount lines (suc depth) inside first end_shape none,
      of_block amount lines depth place rest behind none,
    ))
of_block amount lines depth at (branch_else guard first second rest) behind none =
    let inside = at + 4 + expr_width guard in
    let otherwise = inside + 3 + block_width first in
    let place = otherwise + 1 + block_width second in
    simp begun_append (omega (
      arith,
      none.nothing_is,
      expr_counts_nothing amount depth guard none,
      of_block amount lines (suc depth) inside first end_shape none,
      of_block amount lines (suc depth) otherwise second end_shape none,
      of_block amount lines depth place rest behind none,
    ))
of_block amount lines depth at (loop guard body rest) behind none =
    let inside = at + 4 + expr_width guard in
    let place = inside + 1 + block_width body in
    simp begun_append (omega (
      arith,
      none.nothing_is,
      expr_counts_nothing amount depth guard none,
      of_block amount lines (suc depth) inside body end_shape none,
      of_block amount lines depth place rest behind none,
    ))
