-- How long the lists of a program that was read can be: those of its variables, and those of authority.
use Rattle.std.proofs.Common.{◌≡◌, ℕ, suc, ◌+◌, ◌*◌, ◌≤◌, List, [], ◌∷◌, ◌++◌, All, map, length, ap, sym, subst, arith}
use Rattle.std.proofs.Common.{refl, Option, Some, None}
use Rattle.std.specs.List.{AllByRecursion}
use Rattle.std.proofs.lemmas.List.{length-append, length-map}
use Rattle.std.proofs.lemmas.List.Elements.{All-from_recursion, recursion_from_All}
use Rattle.std.proofs.lemmas.Slice.Zip.{AllZip-long}
use Rattle.js_base.specs.declared.limits.TheConstants.{PROGRAM_BYTES, VARIABLES, METHODS}
use Rattle.principals.specs.ActsFor.{Declared}
use Rattle.jif_lex.specs.declared.token.Token.{Token}
use Rattle.jif_grammar.specs.DraftShapes.{LabelShape, MethodShape, DraftShape}
use Rattle.jif_grammar.specs.Drafts.{names_at, method_at, methods_at, after_item}
use Rattle.jif_grammar.specs.Phrases.{field, method, ExprPhrase, MethodPhrase, ProgramPhrase}
use Rattle.jif_grammar.specs.Programs as grammar
use Rattle.jif_grammar.specs.Spelling.{item_spelling, spelling}
use Rattle.jif_grammar.specs.Unmarked.{authority_then, block_then, result_then, tail_then, item_then, program_then}
use Rattle.jif_grammar.proofs.Widths.{of_names_width, of_authority_width, of_block_width, of_params_width}
use Rattle.jif_grammar.proofs.Widths.{of_head_width, of_item_width, of_expr_width}
use Rattle.label_lattice.specs.Written.{symbol, names_tokens, AreKnown}
use Rattle.jif_lex.specs.declared.token.TokenKind.{TokenKind}
use Rattle.jif_lex.specs.declared.token.Symbol.TheVariants.{LeftBrace, RightBrace}
use Rattle.jif_lex.specs.declared.token.Symbol.TheVariants.{RightParenthesis, Semicolon}
use Rattle.js_base.specs.declared.ids.PrincipalId.{PrincipalId}
use Rattle.jif_tree.specs.Trees.{ProgramTree}
use Rattle.jif_resolve.specs.Labels.{texts}
use Rattle.jif_resolve.specs.Meanings.{globals_of}
use Rattle.jif_resolve.specs.AddedVariables.{param_variable, local_variable}
use Rattle.jif_resolve.specs.Counts.{locals_in}
use Rattle.jif_resolve.specs.Resolved.{IsVariableFor}
use Rattle.jif_resolve.specs.Sizes.{MethodKeepsLimits, KeepsLimits}
use Rattle.jif_resolve.specs.Variables.{result_variables, method_variables, variables_from}
use Rattle.js_base.specs.declared.ids.MethodId.{MethodId}
use Rattle.jif_resolve.specs.Verdicts.{IsProgramOf}
use Rattle.jif_resolve.proofs.EachMethod.{each_method}

-- ---- variables

one_result : (own : MethodId) (result : Option LabelShape) → length (result_variables own result) ≤ 1
one_result own None = omega arith
one_result own (Some label) = omega arith

few_of_method : (own : MethodId) (one : MethodShape) → MethodKeepsLimits one →
    length (method_variables own one) ≤ VARIABLES + 1
few_of_method own one keeps =
    let params = map (param_variable own) one.params in
    let locals = map (local_variable own) (locals_in one.body) in
    let both = length-append (params ++ locals) (result_variables own one.result) in
    let front = length-append params locals in
    let first = length-map one.params (param_variable own) in
    let second = length-map (locals_in one.body) (local_variable own) in
    let last = one_result own one.result in
    let few = keeps.variables in
    omega (arith, both, front, first, second, last, few)

few_variables : (number : ℕ) (methods : List MethodShape) → AllByRecursion MethodKeepsLimits methods →
    length (variables_from number methods) ≤ length methods * (VARIABLES + 1)
few_variables number [] keeps = omega arith
few_variables number (one ∷ methods) keeps =
    let both = length-append (method_variables (record { 0 = number }) one) (variables_from (suc number) methods) in
    let here = few_of_method (record { 0 = number }) one keeps.0 in
    let there = few_variables (suc number) methods keeps.1 in
    omega (arith, both, here, there)

pub short_variables : (principals : Declared) (draft : DraftShape) (tree : ProgramTree) → KeepsLimits draft →
    IsProgramOf principals draft tree → length tree.vars ≤ METHODS * (VARIABLES + 1)
short_variables principals draft tree keeps is =
    let same = AllZip-long (IsVariableFor principals) (variables_from 0 draft.methods) tree.vars is.is_tree.vars in
    let few = few_variables 0 draft.methods (recursion_from_All MethodKeepsLimits draft.methods keeps.each) in
    let methods = keeps.methods in
    omega (arith, same, few, methods)

-- ---- authority

names_long : (names : List (List ℕ)) → length names ≤ length (names_tokens names)
names_long [] = omega arith
names_long (name ∷ []) = omega arith
names_long (name ∷ next ∷ names) = let others = names_long (next ∷ names) in omega arith

authority_long : (names : List (List ℕ)) → length names ≤ length (authority_then names [])
authority_long [] = omega arith
authority_long (name ∷ names) =
    let long = names_long (name ∷ names) in
    let width = of_names_width (name ∷ names) (symbol RightParenthesis ∷ []) in
    omega (arith, long, width)

result_long : (result : Option ExprPhrase) (rest : List TokenKind) → length rest ≤ length (result_then result rest)
result_long None rest = omega arith
result_long (Some value) rest =
    let long = of_expr_width value (symbol Semicolon ∷ rest) in omega (arith, long)

-- a method names no more principals than it has tokens
method_long : (phrase : MethodPhrase) (rest : List TokenKind) →
    length phrase.authority + length rest ≤ length (item_then (method phrase) rest)
method_long phrase rest =
    let body = block_then phrase.body (result_then phrase.result (symbol RightBrace ∷ rest)) in
    let behind = authority_then phrase.authority (symbol LeftBrace ∷ body) in
    let long = authority_long phrase.authority in
    let alone = of_authority_width phrase.authority [] in
    let authority = of_authority_width phrase.authority (symbol LeftBrace ∷ body) in
    let block = of_block_width phrase.body (result_then phrase.result (symbol RightBrace ∷ rest)) in
    let result = result_long phrase.result (symbol RightBrace ∷ rest) in
    let params = of_params_width phrase.params (symbol RightParenthesis ∷ behind) in
    let head = of_head_width phrase.kind phrase.name phrase.begin (tail_then phrase rest) in
    omega (arith, long, alone, authority, block, result, params, head)

names_at_long : (at : ℕ) (names : List (List ℕ)) → length (names_at at names) ≡ length names
names_at_long at [] = refl
names_at_long at (name ∷ names) = ap suc (names_at_long (at + 2) names)

-- no method names more principals than this
abbrev NamesFew : ℕ → MethodShape → Type 0
NamesFew most one = length one.authority ≤ most

method_names : (lines : ℕ → ℕ) (at : ℕ) (phrase : MethodPhrase) →
    length (method_at lines at phrase).authority ≡ length phrase.authority
method_names lines at phrase = names_at_long _ phrase.authority

program_long : (program : ProgramPhrase) → length (program_then program []) ≡ length (spelling program)
program_long [] = refl
program_long (item ∷ items) =
    let one = of_item_width item (program_then items []) in
    let others = program_long items in
    let both = length-append (item_spelling item) (spelling items) in
    omega (arith, one, others, both)

few_named : (lines : ℕ → ℕ) (at most : ℕ) (program : ProgramPhrase) → length (program_then program []) ≤ most →
    AllByRecursion (NamesFew most) (methods_at lines at program)
few_named lines at most [] fits = tt
few_named lines at most (field phrase ∷ items) fits =
    let long = of_item_width (field phrase) (program_then items []) in
    few_named lines (after_item at (field phrase)) most items (omega (arith, long, fits))
few_named lines at most (method phrase ∷ items) fits =
    let long = method_long phrase (program_then items []) in
    let same = method_names lines at phrase in (
      omega (arith, long, same, fits),
      few_named lines (after_item at (method phrase)) most items (omega (arith, long, fits)),
    )

known_long : (principals : Declared) (names : List (List ℕ)) (known : List PrincipalId) →
    AreKnown principals names known → length known ≡ length names
known_long principals [] [] are = refl
known_long principals [] (member ∷ members) are = absurd are
known_long principals (name ∷ names) [] are = absurd are
known_long principals (name ∷ names) (member ∷ members) are =
    ap suc (known_long principals names members are.1)

pub short_authorities : (list : List Token) (principals : Declared) (draft : DraftShape) (tree : ProgramTree) →
    length list ≤ PROGRAM_BYTES → grammar.IsProgramOf list draft → IsProgramOf principals draft tree →
    All (λ method. length method.authority ≤ PROGRAM_BYTES) tree.methods
short_authorities list principals draft tree few parsed is =
    let program = parsed.program in
    let lines = grammar.line_at list in
    let kinds_long = length-map list (λ token. token.kind) in
    let marked_long = length-map (spelling program) (λ token. token.kind) in
    let same = ap length parsed.text.spells.written in
    let long = program_long program in
    let fits : length (program_then program []) ≤ PROGRAM_BYTES =
    omega (arith, few, kinds_long, marked_long, same, long) in
    let named : All (NamesFew PROGRAM_BYTES) draft.methods =
    subst (λ (d : DraftShape). All (NamesFew PROGRAM_BYTES) d.methods) (sym parsed.draft_is)
    (All-from_recursion (NamesFew PROGRAM_BYTES) (methods_at lines 0 program)
    (few_named lines 0 PROGRAM_BYTES program fits)) in
    each_method (NamesFew PROGRAM_BYTES) (λ one. length one.authority ≤ PROGRAM_BYTES) principals (globals_of draft)
    (λ head one made is_for few_names.
    omega (
      arith,
      few_names,
      known_long principals (texts one.authority) made.authority is_for.authority,
      length-map one.authority (λ name. name.text),
    ))
    [] draft.methods tree.methods is.is_tree.methods named
