-- Statements are read in one way, before the brace or the `return` behind them.
use Rattle.std.proofs.Common.{◌≡◌, ◌≢◌, ◌⊎◌, inl, inr, ℕ, List, [], ◌∷◌, refl, ap, sym, ◌∙◌}
use Rattle.std.proofs.Common.{Some, None}
use Rattle.js_base.specs.declared.binary_operator.BinOp.{BinOp}
use Rattle.jif_lex.specs.declared.token.TokenKind.{TokenKind}
use Rattle.jif_lex.specs.declared.token.TokenKind.TheVariants.{Name, Word}
use Rattle.jif_lex.specs.declared.token.Symbol.TheVariants as symbols
use Rattle.jif_lex.specs.declared.token.Word.TheVariants as words
use Rattle.label_lattice.specs.Written.{symbol}
use Rattle.jif_grammar.specs.Phrases.{complement}
use Rattle.jif_grammar.specs.Phrases.{LabelPhrase, ExprPhrase, number, variable, element, parenthesized, signed, binary}
use Rattle.jif_grammar.specs.Phrases.{relabelled, BlockPhrase, end, declaration, assignment, element_assignment, call}
use Rattle.jif_grammar.specs.Phrases.{call_into, branch, branch_else, loop}
use Rattle.jif_grammar.specs.Operators.{operator_of, operator_symbol}
use Rattle.jif_grammar.specs.Grouping.{IsGrouped, AreGrouped, IsBlock}
use Rattle.jif_grammar.specs.Unmarked.{expr_then, args_then, label_then, block_then}
use Rattle.jif_grammar.proofs.OneJoined.{Each, IsOne, EndsJoined, one_joined, one_label}
use Rattle.jif_grammar.proofs.OneExpr.{Stops, one_expr, operator_back, stops_semicolon}
use Rattle.jif_grammar.proofs.OneExpr.{stops_comma, stops_bracket, stops_parenthesis}

-- ---- arguments

no_expr : (e : ExprPhrase) (t u : List TokenKind) → (symbol symbols.RightParenthesis ∷ u) ≢ expr_then e t
no_expr (number n) t u same = cc
no_expr (variable name) t u same = cc
no_expr (element name index) t u same = cc
no_expr (parenthesized inner) t u same = cc
no_expr (signed complement operand) t u same = cc
no_expr (signed _ operand) t u same = cc
no_expr (binary o left right) t u same = no_expr left (symbol (operator_symbol o) ∷ expr_then right t) u same
no_expr (relabelled change inner label) t u same = cc

ends_args : (t : List TokenKind) → EndsJoined (symbol symbols.Comma) expr_then (symbol symbols.RightParenthesis ∷ t)
ends_args t = (λ u same. cc, λ e u same. no_expr e u t same)

pub each_grouped : (args : List ExprPhrase) → AreGrouped args → Each IsGrouped args
each_grouped [] grouped = tt
each_grouped (arg ∷ args) grouped = (grouped.0, each_grouped args grouped.1)

each_one : (args : List ExprPhrase) → AreGrouped args → Each (IsOne expr_then IsGrouped Stops) args
each_one [] grouped = tt
each_one (arg ∷ args) grouped = (one_expr arg grouped.0, each_one args grouped.1)

pub one_args : (args others : List ExprPhrase) (r s : List TokenKind) → AreGrouped args → AreGrouped others →
    args_then args (symbol symbols.RightParenthesis ∷ r) ≡ args_then others (symbol symbols.RightParenthesis ∷ s) →
    (args ≡ others) × (r ≡ s)
one_args args others r s grouped also same =
    let both = one_joined (symbol symbols.Comma) expr_then IsGrouped Stops stops_comma
    (symbol symbols.RightParenthesis ∷ r) (symbol symbols.RightParenthesis ∷ s) (stops_parenthesis r)
    (stops_parenthesis s) (ends_args r) (ends_args s) args others (each_one args grouped) (each_grouped others also)
    same in
    let rests = both.1 in
    (both.0, cc)

-- ---- expressions within statements

pub one_value : (e f : ExprPhrase) (r s : List TokenKind) → IsGrouped e → IsGrouped f →
    expr_then e (symbol symbols.Semicolon ∷ r) ≡ expr_then f (symbol symbols.Semicolon ∷ s) → (e ≡ f) × (r ≡ s)
one_value e f r s grouped also same =
    let both = one_expr e grouped f also (symbol symbols.Semicolon ∷ r) (symbol symbols.Semicolon ∷ s)
    (stops_semicolon r) (stops_semicolon s) same in
    let rests = both.1 in
    (both.0, cc)

one_index : (e f : ExprPhrase) (r s : List TokenKind) → IsGrouped e → IsGrouped f →
    expr_then e (symbol symbols.RightBracket ∷ symbol symbols.Assign ∷ r)
    ≡ expr_then f (symbol symbols.RightBracket ∷ symbol symbols.Assign ∷ s) → (e ≡ f) × (r ≡ s)
one_index e f r s grouped also same =
    let both = one_expr e grouped f also (symbol symbols.RightBracket ∷ symbol symbols.Assign ∷ r)
    (symbol symbols.RightBracket ∷ symbol symbols.Assign ∷ s) (stops_bracket _) (stops_bracket _) same in
    let rests = both.1 in
    (both.0, cc)

one_guard : (e f : ExprPhrase) (r s : List TokenKind) → IsGrouped e → IsGrouped f →
    expr_then e (symbol symbols.RightParenthesis ∷ symbol symbols.LeftBrace ∷ r)
    ≡ expr_then f (symbol symbols.RightParenthesis ∷ symbol symbols.LeftBrace ∷ s) → (e ≡ f) × (r ≡ s)
one_guard e f r s grouped also same =
    let both = one_expr e grouped f also (symbol symbols.RightParenthesis ∷ symbol symbols.LeftBrace ∷ r)
    (symbol symbols.RightParenthesis ∷ symbol symbols.LeftBrace ∷ s) (stops_parenthesis _) (stops_parenthesis _)
    same in
    let rests = both.1 in
    (both.0, cc)

-- an expression is no call
no_parenthesis : (o : BinOp) (t u : List TokenKind) →
    (symbol (operator_symbol o) ∷ t) ≢ symbol symbols.LeftParenthesis ∷ u
no_parenthesis o t u same =
    let e : operator_symbol o ≡ symbols.LeftParenthesis = cc in
    let found : Some o ≡ None = sym (operator_back o) ∙ ap operator_of e in
    cc

never_call : (e : ExprPhrase) (r : List TokenKind) (name : List ℕ) (t : List TokenKind) →
    ((u : List TokenKind) → r ≢ symbol symbols.LeftParenthesis ∷ u) →
    expr_then e r ≢ Name name ∷ symbol symbols.LeftParenthesis ∷ t
never_call (number n) r name t lacks same = cc
never_call (variable other) r name t lacks same = lacks t cc
never_call (element other index) r name t lacks same = cc
never_call (parenthesized inner) r name t lacks same = cc
never_call (signed sign operand) r name t lacks same = cc
never_call (binary o left right) r name t lacks same =
    never_call left (symbol (operator_symbol o) ∷ expr_then right r) name t
    (λ u same_too. no_parenthesis o (expr_then right r) u same_too) same
never_call (relabelled change inner label) r name t lacks same = cc

no_call : (e : ExprPhrase) (r : List TokenKind) (name : List ℕ) (t : List TokenKind) →
    expr_then e (symbol symbols.Semicolon ∷ r) ≢ Name name ∷ symbol symbols.LeftParenthesis ∷ t
no_call e r name t same = never_call e (symbol symbols.Semicolon ∷ r) name t (λ u same_too. cc) same

-- ---- statements

-- behind the statements stands a brace or a `return`
abbrev pub EndsBlock : List TokenKind → Type 0
EndsBlock r =
    (t : List TokenKind) × ((r ≡ symbol symbols.RightBrace ∷ t) ⊎ (r ≡ Word words.Return ∷ t))

never_else : (b : BlockPhrase) (r t : List TokenKind) → EndsBlock r → block_then b r ≢ Word words.Else ∷ t
never_else end r t ends same = elim ends.1 [ inl h ↦ cc | inr h ↦ cc ]
never_else _ r t ends same = cc

-- Before what may stand behind statements, these are told from all others.
abbrev pub OneBlock : BlockPhrase → Type 0
OneBlock b =
    (c : BlockPhrase) → IsBlock c → (r s : List TokenKind) → EndsBlock r → EndsBlock s →
    block_then b r ≡ block_then c s → (b ≡ c) × (r ≡ s)

one_end : OneBlock end
one_end end also r s fr fs same = (refl, same)
one_end _ also r s fr fs same = absurd (elim fr.1 [ inl h ↦ cc | inr h ↦ cc ])

one_declaration : (name : List ℕ) (value : ExprPhrase) (rest : BlockPhrase) → IsGrouped value → OneBlock rest →
    OneBlock (declaration None name value rest)
one_declaration name value rest grouped one_rest end also r s fr fs same =
    absurd (elim fs.1 [ inl h ↦ cc | inr h ↦ cc ])
one_declaration name value rest grouped one_rest (declaration None other worth more) also r s fr fs same =
    let names : name ≡ other = cc in
    let behind : expr_then value (symbol symbols.Semicolon ∷ block_then rest r)
    ≡ expr_then worth (symbol symbols.Semicolon ∷ block_then more s) = cc in
    let values = one_value value worth (block_then rest r) (block_then more s) grouped also.1 behind in
    let blocks = one_rest more also.2 r s fr fs values.1 in
    let exprs : value ≡ worth = values.0 in
    let lefts : rest ≡ more = blocks.0 in
    (cc, blocks.1)
one_declaration name value rest grouped one_rest (declaration (Some label) other worth more) also r s fr fs same =
    absurd (cc)
one_declaration name value rest grouped one_rest _ also r s fr fs same = absurd (cc)

one_labelled : (label : LabelPhrase) (name : List ℕ) (value : ExprPhrase) (rest : BlockPhrase) → IsGrouped value →
    OneBlock rest → OneBlock (declaration (Some label) name value rest)
one_labelled label name value rest grouped one_rest end also r s fr fs same =
    absurd (elim fs.1 [ inl h ↦ cc | inr h ↦ cc ])
one_labelled label name value rest grouped one_rest (declaration None other worth more) also r s fr fs same =
    absurd (cc)
one_labelled label name value rest grouped one_rest (declaration (Some parts) other worth more) also r s fr fs
    same =
    let whole : label_then label (Name name ∷ symbol symbols.Assign
    ∷ expr_then value (symbol symbols.Semicolon ∷ block_then rest r))
    ≡ label_then parts (Name other ∷ symbol symbols.Assign
    ∷ expr_then worth (symbol symbols.Semicolon ∷ block_then more s)) = cc in
    let labels = one_label label parts (Name name ∷ symbol symbols.Assign
    ∷ expr_then value (symbol symbols.Semicolon ∷ block_then rest r)) (Name other ∷ symbol symbols.Assign
    ∷ expr_then worth (symbol symbols.Semicolon ∷ block_then more s)) whole in
    let after = labels.1 in
    let names : name ≡ other = cc in
    let behind : expr_then value (symbol symbols.Semicolon ∷ block_then rest r)
    ≡ expr_then worth (symbol symbols.Semicolon ∷ block_then more s) = cc in
    let values = one_value value worth (block_then rest r) (block_then more s) grouped also.1 behind in
    let blocks = one_rest more also.2 r s fr fs values.1 in
    let written : label ≡ parts = labels.0 in
    let exprs : value ≡ worth = values.0 in
    let lefts : rest ≡ more = blocks.0 in
    (cc, blocks.1)
one_labelled label name value rest grouped one_rest _ also r s fr fs same = absurd (cc)

one_assignment : (name : List ℕ) (value : ExprPhrase) (rest : BlockPhrase) → IsGrouped value → OneBlock rest →
    OneBlock (assignment name value rest)
one_assignment name value rest grouped one_rest end also r s fr fs same = absurd (elim fs.1 [ inl h ↦ cc | inr h ↦ cc ])
one_assignment name value rest grouped one_rest (assignment other worth more) also r s fr fs same =
    let names : name ≡ other = cc in
    let behind : expr_then value (symbol symbols.Semicolon ∷ block_then rest r)
    ≡ expr_then worth (symbol symbols.Semicolon ∷ block_then more s) = cc in
    let values = one_value value worth (block_then rest r) (block_then more s) grouped also.0 behind in
    let blocks = one_rest more also.1 r s fr fs values.1 in
    let exprs : value ≡ worth = values.0 in
    let lefts : rest ≡ more = blocks.0 in
    (cc, blocks.1)
one_assignment name value rest grouped one_rest (call_into other called args more) also r s fr fs same =
    absurd (no_call value (block_then rest r) called
    (args_then args (symbol symbols.RightParenthesis ∷ symbol symbols.Semicolon ∷ block_then more s)) cc)
one_assignment name value rest grouped one_rest _ also r s fr fs same = absurd (cc)

one_element_assignment : (name : List ℕ) (index value : ExprPhrase) (rest : BlockPhrase) → IsGrouped index →
    IsGrouped value →
    OneBlock rest → OneBlock (element_assignment name index value rest)
one_element_assignment name index value rest grouped_index grouped one_rest end also r s fr fs same =
    absurd (elim fs.1 [ inl h ↦ cc | inr h ↦ cc ])
one_element_assignment name index value rest grouped_index grouped one_rest
    (element_assignment other place worth more) also r s fr fs
    same =
    let names : name ≡ other = cc in
    let inside : expr_then index (symbol symbols.RightBracket ∷ symbol symbols.Assign
    ∷ expr_then value (symbol symbols.Semicolon ∷ block_then rest r))
    ≡ expr_then place (symbol symbols.RightBracket ∷ symbol symbols.Assign
    ∷ expr_then worth (symbol symbols.Semicolon ∷ block_then more s)) = cc in
    let indexes = one_index index place (expr_then value (symbol symbols.Semicolon ∷ block_then rest r))
    (expr_then worth (symbol symbols.Semicolon ∷ block_then more s)) grouped_index also.0 inside in
    let values = one_value value worth (block_then rest r) (block_then more s) grouped also.1 indexes.1 in
    let blocks = one_rest more also.2 r s fr fs values.1 in
    let places : index ≡ place = indexes.0 in
    let exprs : value ≡ worth = values.0 in
    let lefts : rest ≡ more = blocks.0 in
    (cc, blocks.1)
one_element_assignment name index value rest grouped_index grouped one_rest _ also r s fr fs same = absurd (cc)

one_call : (name : List ℕ) (args : List ExprPhrase) (rest : BlockPhrase) → AreGrouped args → OneBlock rest →
    OneBlock (call name args rest)
one_call name args rest grouped one_rest end also r s fr fs same = absurd (elim fs.1 [ inl h ↦ cc | inr h ↦ cc ])
one_call name args rest grouped one_rest (call other values more) also r s fr fs same =
    let names : name ≡ other = cc in
    let inside : args_then args (symbol symbols.RightParenthesis ∷ symbol symbols.Semicolon ∷ block_then rest r)
    ≡ args_then values (symbol symbols.RightParenthesis ∷ symbol symbols.Semicolon ∷ block_then more s) = cc in
    let both = one_args args values (symbol symbols.Semicolon ∷ block_then rest r)
    (symbol symbols.Semicolon ∷ block_then more s) grouped also.0 inside in
    let after = both.1 in
    let behind : block_then rest r ≡ block_then more s = cc in
    let blocks = one_rest more also.1 r s fr fs behind in
    let given : args ≡ values = both.0 in
    let lefts : rest ≡ more = blocks.0 in
    (cc, blocks.1)
one_call name args rest grouped one_rest _ also r s fr fs same = absurd (cc)

one_call_into : (into name : List ℕ) (args : List ExprPhrase) (rest : BlockPhrase) → AreGrouped args → OneBlock rest →
    OneBlock (call_into into name args rest)
one_call_into into name args rest grouped one_rest end also r s fr fs same =
    absurd (elim fs.1 [ inl h ↦ cc | inr h ↦ cc ])
one_call_into into name args rest grouped one_rest (assignment other value more) also r s fr fs same =
    absurd (no_call value (block_then more s) name
    (args_then args (symbol symbols.RightParenthesis ∷ symbol symbols.Semicolon ∷ block_then rest r)) cc)
one_call_into into name args rest grouped one_rest (call_into target other values more) also r s fr fs same =
    let targets : into ≡ target = cc in
    let names : name ≡ other = cc in
    let inside : args_then args (symbol symbols.RightParenthesis ∷ symbol symbols.Semicolon ∷ block_then rest r)
    ≡ args_then values (symbol symbols.RightParenthesis ∷ symbol symbols.Semicolon ∷ block_then more s) = cc in
    let both = one_args args values (symbol symbols.Semicolon ∷ block_then rest r)
    (symbol symbols.Semicolon ∷ block_then more s) grouped also.0 inside in
    let after = both.1 in
    let behind : block_then rest r ≡ block_then more s = cc in
    let blocks = one_rest more also.1 r s fr fs behind in
    let given : args ≡ values = both.0 in
    let lefts : rest ≡ more = blocks.0 in
    (cc, blocks.1)
one_call_into into name args rest grouped one_rest _ also r s fr fs same = absurd (cc)

one_branch : (guard : ExprPhrase) (first rest : BlockPhrase) → IsGrouped guard → OneBlock first → OneBlock rest →
    OneBlock (branch guard first rest)
one_branch guard first rest grouped one_first one_rest end also r s fr fs same =
    absurd (elim fs.1 [ inl h ↦ cc | inr h ↦ cc ])
one_branch guard first rest grouped one_first one_rest (branch test chosen more) also r s fr fs same =
    let inside : expr_then guard (symbol symbols.RightParenthesis ∷ symbol symbols.LeftBrace
    ∷ block_then first (symbol symbols.RightBrace ∷ block_then rest r))
    ≡ expr_then test (symbol symbols.RightParenthesis ∷ symbol symbols.LeftBrace
    ∷ block_then chosen (symbol symbols.RightBrace ∷ block_then more s)) = cc in
    let guards = one_guard guard test (block_then first (symbol symbols.RightBrace ∷ block_then rest r))
    (block_then chosen (symbol symbols.RightBrace ∷ block_then more s)) grouped also.0 inside in
    let nested = one_first chosen also.1 (symbol symbols.RightBrace ∷ block_then rest r)
    (symbol symbols.RightBrace ∷ block_then more s) (block_then rest r, inl refl) (block_then more s, inl refl)
    guards.1 in
    let after = nested.1 in
    let behind : block_then rest r ≡ block_then more s = cc in
    let blocks = one_rest more also.2 r s fr fs behind in
    let tests : guard ≡ test = guards.0 in
    let firsts : first ≡ chosen = nested.0 in
    let lefts : rest ≡ more = blocks.0 in
    (cc, blocks.1)
one_branch guard first rest grouped one_first one_rest (branch_else test chosen otherwise more) also r s fr fs same =
    let behind_else = symbol symbols.LeftBrace ∷ block_then otherwise (symbol symbols.RightBrace ∷ block_then more s)
    in
    let inside : expr_then guard (symbol symbols.RightParenthesis ∷ symbol symbols.LeftBrace
    ∷ block_then first (symbol symbols.RightBrace ∷ block_then rest r))
    ≡ expr_then test (symbol symbols.RightParenthesis ∷ symbol symbols.LeftBrace
    ∷ block_then chosen (symbol symbols.RightBrace ∷ Word words.Else ∷ behind_else)) = cc in
    let guards = one_guard guard test (block_then first (symbol symbols.RightBrace ∷ block_then rest r))
    (block_then chosen (symbol symbols.RightBrace ∷ Word words.Else ∷ behind_else)) grouped also.0 inside in
    let nested = one_first chosen also.1 (symbol symbols.RightBrace ∷ block_then rest r)
    (symbol symbols.RightBrace ∷ Word words.Else ∷ behind_else) (block_then rest r, inl refl)
    (Word words.Else ∷ behind_else, inl refl) guards.1 in
    let after = nested.1 in
    let behind : block_then rest r ≡ Word words.Else ∷ behind_else = cc in
    absurd (never_else rest r behind_else fr behind)
one_branch guard first rest grouped one_first one_rest _ also r s fr fs same = absurd (cc)

one_branch_else : (guard : ExprPhrase) (first second rest : BlockPhrase) → IsGrouped guard → OneBlock first →
    OneBlock second →
    OneBlock rest → OneBlock (branch_else guard first second rest)
one_branch_else guard first second rest grouped one_first one_second one_rest end also r s fr fs same =
    absurd (elim fs.1 [ inl h ↦ cc | inr h ↦ cc ])
one_branch_else guard first second rest grouped one_first one_second one_rest (branch test chosen more) also r s fr
    fs same =
    let behind_else = symbol symbols.LeftBrace ∷ block_then second (symbol symbols.RightBrace ∷ block_then rest r) in
    let inside : expr_then guard (symbol symbols.RightParenthesis ∷ symbol symbols.LeftBrace
    ∷ block_then first (symbol symbols.RightBrace ∷ Word words.Else ∷ behind_else))
    ≡ expr_then test (symbol symbols.RightParenthesis ∷ symbol symbols.LeftBrace
    ∷ block_then chosen (symbol symbols.RightBrace ∷ block_then more s)) = cc in
    let guards = one_guard guard test (block_then first (symbol symbols.RightBrace ∷ Word words.Else ∷ behind_else))
    (block_then chosen (symbol symbols.RightBrace ∷ block_then more s)) grouped also.0 inside in
    let nested = one_first chosen also.1 (symbol symbols.RightBrace ∷ Word words.Else ∷ behind_else)
    (symbol symbols.RightBrace ∷ block_then more s) (Word words.Else ∷ behind_else, inl refl)
    (block_then more s, inl refl) guards.1 in
    let after = nested.1 in
    let behind : block_then more s ≡ Word words.Else ∷ behind_else = cc in
    absurd (never_else more s behind_else fs behind)
one_branch_else guard first second rest grouped one_first one_second one_rest
    (branch_else test chosen otherwise more) also r s fr fs same =
    let from_else = Word words.Else ∷ symbol symbols.LeftBrace
    ∷ block_then second (symbol symbols.RightBrace ∷ block_then rest r) in
    let from_other = Word words.Else ∷ symbol symbols.LeftBrace
    ∷ block_then otherwise (symbol symbols.RightBrace ∷ block_then more s) in
    let inside : expr_then guard (symbol symbols.RightParenthesis ∷ symbol symbols.LeftBrace
    ∷ block_then first (symbol symbols.RightBrace ∷ from_else))
    ≡ expr_then test (symbol symbols.RightParenthesis ∷ symbol symbols.LeftBrace
    ∷ block_then chosen (symbol symbols.RightBrace ∷ from_other)) = cc in
    let guards = one_guard guard test (block_then first (symbol symbols.RightBrace ∷ from_else))
    (block_then chosen (symbol symbols.RightBrace ∷ from_other)) grouped also.0 inside in
    let nested = one_first chosen also.1 (symbol symbols.RightBrace ∷ from_else)
    (symbol symbols.RightBrace ∷ from_other) (from_else, inl refl) (from_other, inl refl) guards.1 in
    let after = nested.1 in
    let within : block_then second (symbol symbols.RightBrace ∷ block_then rest r)
    ≡ block_then otherwise (symbol symbols.RightBrace ∷ block_then more s) = cc in
    let seconds = one_second otherwise also.2 (symbol symbols.RightBrace ∷ block_then rest r)
    (symbol symbols.RightBrace ∷ block_then more s) (block_then rest r, inl refl) (block_then more s, inl refl)
    within in
    let later = seconds.1 in
    let behind : block_then rest r ≡ block_then more s = cc in
    let blocks = one_rest more also.3 r s fr fs behind in
    let tests : guard ≡ test = guards.0 in
    let firsts : first ≡ chosen = nested.0 in
    let others : second ≡ otherwise = seconds.0 in
    let lefts : rest ≡ more = blocks.0 in
    (cc, blocks.1)
one_branch_else guard first second rest grouped one_first one_second one_rest _ also r s fr fs same = absurd (cc)

one_loop : (guard : ExprPhrase) (body rest : BlockPhrase) → IsGrouped guard → OneBlock body → OneBlock rest →
    OneBlock (loop guard body rest)
one_loop guard body rest grouped one_body one_rest end also r s fr fs same =
    absurd (elim fs.1 [ inl h ↦ cc | inr h ↦ cc ])
one_loop guard body rest grouped one_body one_rest (loop test repeated more) also r s fr fs same =
    let inside : expr_then guard (symbol symbols.RightParenthesis ∷ symbol symbols.LeftBrace
    ∷ block_then body (symbol symbols.RightBrace ∷ block_then rest r))
    ≡ expr_then test (symbol symbols.RightParenthesis ∷ symbol symbols.LeftBrace
    ∷ block_then repeated (symbol symbols.RightBrace ∷ block_then more s)) = cc in
    let guards = one_guard guard test (block_then body (symbol symbols.RightBrace ∷ block_then rest r))
    (block_then repeated (symbol symbols.RightBrace ∷ block_then more s)) grouped also.0 inside in
    let nested = one_body repeated also.1 (symbol symbols.RightBrace ∷ block_then rest r)
    (symbol symbols.RightBrace ∷ block_then more s) (block_then rest r, inl refl) (block_then more s, inl refl)
    guards.1 in
    let after = nested.1 in
    let behind : block_then rest r ≡ block_then more s = cc in
    let blocks = one_rest more also.2 r s fr fs behind in
    let tests : guard ≡ test = guards.0 in
    let bodies : body ≡ repeated = nested.0 in
    let lefts : rest ≡ more = blocks.0 in
    (cc, blocks.1)
one_loop guard body rest grouped one_body one_rest _ also r s fr fs same = absurd (cc)

pub one_block : (b : BlockPhrase) → IsBlock b → OneBlock b
one_block end sound = one_end
one_block (declaration None name value rest) sound =
    one_declaration name value rest sound.1 (one_block rest sound.2)
one_block (declaration (Some label) name value rest) sound =
    one_labelled label name value rest sound.1 (one_block rest sound.2)
one_block (assignment name value rest) sound = one_assignment name value rest sound.0 (one_block rest sound.1)
one_block (element_assignment name index value rest) sound =
    one_element_assignment name index value rest sound.0 sound.1 (one_block rest sound.2)
one_block (call name args rest) sound = one_call name args rest sound.0 (one_block rest sound.1)
one_block (call_into into name args rest) sound = one_call_into into name args rest sound.0 (one_block rest sound.1)
one_block (branch guard first rest) sound =
    one_branch guard first rest sound.0 (one_block first sound.1) (one_block rest sound.2)
one_block (branch_else guard first second rest) sound =
    one_branch_else guard first second rest sound.0 (one_block first sound.1) (one_block second sound.2)
    (one_block rest sound.3)
one_block (loop guard body rest) sound =
    one_loop guard body rest sound.0 (one_block body sound.1) (one_block rest sound.2)
