-- Statements and call sites are numbered in the order of the text.
use Rattle.std.proofs.Common.{◌≡◌, ℕ, ◌+◌, List, [], ◌∷◌, ◌++◌, Option, Some, None, refl, ap, sym, ◌∙◌, arith}
use Rattle.std.specs.List.{flat_map, range_with_len}
use Rattle.std.proofs.lemmas.List.Sums.{sum_by-append}
use Rattle.principals.specs.ActsFor.{Declared}
use Rattle.jif_tree.specs.Trees.{ExprTree, Heading, BlockTree, set_local, set_field}
use Rattle.jif_tree.specs.Trees.{MethodTree, ProgramTree}
use Rattle.jif_grammar.specs.DraftShapes.{BlockShape, end_shape}
use Rattle.jif_grammar.specs.DraftShapes.{declaration_shape, assignment_shape, element_assignment_shape}
use Rattle.jif_grammar.specs.DraftShapes.{branch_shape, loop_shape, call_shape, return_shape}
use Rattle.jif_grammar.specs.DraftShapes.{ParamShape, MethodShape, DraftShape}
use Rattle.jif_resolve.specs.Counts.{statements_in, calls_in}
use Rattle.jif_resolve.specs.Meanings.{Global, globals_of}
use Rattle.jif_resolve.specs.Places.{Setting, Place, after_statement, after_call, after_declaration}
use Rattle.jif_resolve.specs.Places.{after_block, head_after, body_place, meaning_at, counted, numbered_in}
use Rattle.jif_resolve.specs.Places.{after_params}
use Rattle.jif_resolve.specs.Places.{after_variable}
use Rattle.jif_resolve.specs.Faults.{setting_of}
use Rattle.jif_resolve.specs.Resolved.{assignment_tree, IsBlockFor, IsMethodFor, AreMethodsFor}
use Rattle.jif_resolve.specs.Resolved.{heading_of}
use Rattle.jif_tree.specs.Numbering.{block_statements, block_sites, statement_numbers, site_numbers, CountsFrom}
use Rattle.jif_resolve.specs.Verdicts.{IsProgramOf}
use Rattle.jif_resolve.proofs.Ranges.{range_after_one, ranges_joined, range_counts}
use Rattle.jif_resolve.specs.declared.meaning.Meaning.{Meaning}
use Rattle.jif_resolve.specs.declared.meaning.Meaning.TheVariants as sense

-- ---- assignments

assigned_statements : (heading : Heading) (means : Option Meaning) (value : ExprTree) (rest tree : BlockTree) →
    assignment_tree heading means value rest ≡ Some tree → block_statements tree ≡ heading.id.0 ∷ block_statements rest
assigned_statements heading None value rest tree is = let clash : None ≡ Some tree = is in cc
assigned_statements heading (Some (sense.Variable variable)) value rest tree is =
    let same : set_local heading variable value rest ≡ tree = cc in
    ap block_statements (sym same)
assigned_statements heading (Some (sense.Plain field)) value rest tree is =
    let same : set_field heading field value rest ≡ tree = cc in
    ap block_statements (sym same)
assigned_statements heading (Some (sense.Array field)) value rest tree is = let clash : None ≡ Some tree = is in cc
assigned_statements heading (Some (sense.Method method params gives)) value rest tree is =
    let clash : None ≡ Some tree = is in cc

assigned_sites : (heading : Heading) (means : Option Meaning) (value : ExprTree) (rest tree : BlockTree) →
    assignment_tree heading means value rest ≡ Some tree → block_sites tree ≡ block_sites rest
assigned_sites heading None value rest tree is = let clash : None ≡ Some tree = is in cc
assigned_sites heading (Some (sense.Variable variable)) value rest tree is =
    let same : set_local heading variable value rest ≡ tree = cc in
    ap block_sites (sym same)
assigned_sites heading (Some (sense.Plain field)) value rest tree is =
    let same : set_field heading field value rest ≡ tree = cc in
    ap block_sites (sym same)
assigned_sites heading (Some (sense.Array field)) value rest tree is = let clash : None ≡ Some tree = is in cc
assigned_sites heading (Some (sense.Method method params gives)) value rest tree is =
    let clash : None ≡ Some tree = is in cc

-- ---- blocks

-- one number, and then those behind
one_more : (first n : ℕ) (numbers : List ℕ) → numbers ≡ range_with_len (first + 1) n →
    first ∷ numbers ≡ range_with_len first (1 + n)
one_more first n numbers is = ap (λ r. first ∷ r) is ∙ sym (range_after_one first n)

of_block_statements : (s : Setting) (p : Place) (b : BlockShape) (tree : BlockTree) → IsBlockFor s p b tree →
    block_statements tree ≡ range_with_len p.statement (statements_in b)
of_block_statements s p end_shape tree is = ap block_statements is
of_block_statements s p (declaration_shape start written name value rest) tree (x, r, same, one, behind) =
    ap block_statements same
    ∙ one_more p.statement (statements_in rest) (block_statements r)
    (of_block_statements s (after_declaration p name) rest r behind)
of_block_statements s p (assignment_shape start name value rest) tree (x, r, same, one, behind) =
    assigned_statements (heading_of p start) (meaning_at s p name.text) x r tree same
    ∙ one_more p.statement (statements_in rest) (block_statements r)
    (of_block_statements s (after_statement p) rest r behind)
of_block_statements s p (element_assignment_shape start name index value rest) tree
    (f, i, x, r, same, array, at, one, behind) =
    ap block_statements same
    ∙ one_more p.statement (statements_in rest) (block_statements r)
    (of_block_statements s (after_statement p) rest r behind)
of_block_statements s p (branch_shape start guard first second rest) tree
    (x, t, u, r, same, one, front, middle, behind) =
    let inside = after_statement p in
    let between = after_block inside first in
    let front_two = ranges_joined inside.statement (statements_in first) (statements_in second) (block_statements t)
    (block_statements u) (of_block_statements s inside first t front)
    (of_block_statements s between second u middle) in
    let start : inside.statement + statements_in first + statements_in second
    ≡ inside.statement + (statements_in first + statements_in second) = omega arith in
    let all = ranges_joined inside.statement (statements_in first + statements_in second) (statements_in rest)
    (block_statements t ++ block_statements u) (block_statements r) front_two
    (of_block_statements s (after_block between second) rest r behind
    ∙ ap (λ n. range_with_len n (statements_in rest)) start) in
    let count : 1 + (statements_in first + statements_in second + statements_in rest)
    ≡ 1 + statements_in first + statements_in second + statements_in rest = omega arith in
    ap block_statements same
    ∙ one_more p.statement (statements_in first + statements_in second + statements_in rest)
    (block_statements t ++ block_statements u ++ block_statements r) all
    ∙ ap (range_with_len p.statement) count
of_block_statements s p (loop_shape start guard body rest) tree (x, t, r, same, one, front, behind) =
    let inside = after_statement p in
    let all = ranges_joined inside.statement (statements_in body) (statements_in rest) (block_statements t)
    (block_statements r) (of_block_statements s inside body t front)
    (of_block_statements s (after_block inside body) rest r behind) in
    let count : 1 + (statements_in body + statements_in rest) ≡ 1 + statements_in body + statements_in rest =
    omega arith in
    ap block_statements same
    ∙ one_more p.statement (statements_in body + statements_in rest) (block_statements t ++ block_statements r) all
    ∙ ap (range_with_len p.statement) count
of_block_statements s p (call_shape start name args into rest) tree
    (f, xs, k, r, same, called, kept, one, behind) =
    ap block_statements same
    ∙ one_more p.statement (statements_in rest) (block_statements r)
    (of_block_statements s (after_call p) rest r behind)
of_block_statements s p (return_shape start value rest) tree (x, r, same, one, behind) =
    ap block_statements same
    ∙ one_more p.statement (statements_in rest) (block_statements r)
    (of_block_statements s (after_statement p) rest r behind)

of_block_sites : (s : Setting) (p : Place) (b : BlockShape) (tree : BlockTree) → IsBlockFor s p b tree →
    block_sites tree ≡ range_with_len p.site (calls_in b)
of_block_sites s p end_shape tree is = ap block_sites is
of_block_sites s p (declaration_shape start written name value rest) tree (x, r, same, one, behind) =
    ap block_sites same ∙ of_block_sites s (after_declaration p name) rest r behind
of_block_sites s p (assignment_shape start name value rest) tree (x, r, same, one, behind) =
    assigned_sites (heading_of p start) (meaning_at s p name.text) x r tree same
    ∙ of_block_sites s (after_statement p) rest r behind
of_block_sites s p (element_assignment_shape start name index value rest) tree
    (f, i, x, r, same, array, at, one, behind) =
    ap block_sites same ∙ of_block_sites s (after_statement p) rest r behind
of_block_sites s p (branch_shape start guard first second rest) tree
    (x, t, u, r, same, one, front, middle, behind) =
    let inside = after_statement p in
    let between = after_block inside first in
    let front_two = ranges_joined p.site (calls_in first) (calls_in second) (block_sites t) (block_sites u)
    (of_block_sites s inside first t front) (of_block_sites s between second u middle) in
    let start : p.site + calls_in first + calls_in second ≡ p.site + (calls_in first + calls_in second) =
    omega arith in
    ap block_sites same
    ∙ ranges_joined p.site (calls_in first + calls_in second) (calls_in rest) (block_sites t ++ block_sites u)
    (block_sites r) front_two
    (of_block_sites s (after_block between second) rest r behind ∙ ap (λ n. range_with_len n (calls_in rest)) start)
of_block_sites s p (loop_shape start guard body rest) tree (x, t, r, same, one, front, behind) =
    let inside = after_statement p in
    ap block_sites same
    ∙ ranges_joined p.site (calls_in body) (calls_in rest) (block_sites t)
    (block_sites r) (of_block_sites s inside body t front)
    (of_block_sites s (after_block inside body) rest r behind)
of_block_sites s p (call_shape start name args into rest) tree (f, xs, k, r, same, called, kept, one, behind) =
    ap block_sites same
    ∙ one_more p.site (calls_in rest) (block_sites r) (of_block_sites s (after_call p) rest r behind)
of_block_sites s p (return_shape start value rest) tree (x, r, same, one, behind) =
    ap block_sites same ∙ of_block_sites s (after_statement p) rest r behind

-- ---- methods

-- parameters are no statements and no calls
params_statement : (p : Place) (params : List ParamShape) → (after_params p params).statement ≡ p.statement
params_statement p [] = refl
params_statement p (param ∷ params) = params_statement (after_variable p param.name) params

params_site : (p : Place) (params : List ParamShape) → (after_params p params).site ≡ p.site
params_site p [] = refl
params_site p (param ∷ params) = params_site (after_variable p param.name) params

of_method_statements : (s : Setting) (head : Place) (method : MethodShape) (tree : MethodTree) →
    IsMethodFor s head method tree →
    tree.head.0 ∷ block_statements tree.body ≡ range_with_len head.statement (numbered_in method)
of_method_statements s head method tree is =
    let start : (body_place head method).statement ≡ head.statement + 1 =
    ap (λ n. n + 1) (params_statement head method.params) in
    ap (λ id. id.0 ∷ block_statements tree.body) is.head_is
    ∙ one_more head.statement (statements_in method.body) (block_statements tree.body)
    (of_block_statements s (body_place head method) method.body tree.body is.body
    ∙ ap (λ n. range_with_len n (statements_in method.body)) start)

of_method_sites : (s : Setting) (head : Place) (method : MethodShape) (tree : MethodTree) →
    IsMethodFor s head method tree → block_sites tree.body ≡ range_with_len head.site (calls_in method.body)
of_method_sites s head method tree is =
    of_block_sites s (body_place head method) method.body tree.body is.body
    ∙ ap (λ n. range_with_len n (calls_in method.body)) (params_site head method.params)

pub one_counted : (amount : MethodShape → ℕ) (before : List MethodShape) (method : MethodShape) →
    counted amount (before ++ method ∷ []) ≡ counted amount before + amount method
one_counted amount before method =
    let one : counted amount (method ∷ []) ≡ amount method = omega arith in
    sum_by-append amount before (method ∷ []) ∙ ap (λ n. counted amount before + n) one

counted_first : (amount : MethodShape → ℕ) (method : MethodShape) (methods : List MethodShape) →
    counted amount (method ∷ methods) ≡ amount method + counted amount methods
counted_first amount method methods =
    let one : counted amount (method ∷ []) ≡ amount method = omega arith in
    sum_by-append amount (method ∷ []) methods ∙ ap (λ n. n + counted amount methods) one

pub of_statements : (principals : Declared) (globals : List Global) (before methods : List MethodShape)
    (trees : List MethodTree) → AreMethodsFor principals globals before methods trees →
    flat_map (λ method. method.head.0 ∷ block_statements method.body) trees
    ≡ range_with_len (counted numbered_in before) (counted numbered_in methods)
of_statements principals globals before [] trees is =
    ap (flat_map (λ method. method.head.0 ∷ block_statements method.body)) is
of_statements principals globals before (method ∷ methods) trees (t, ts, same, one, behind) =
    let rest = of_statements principals globals (before ++ method ∷ []) methods ts behind
    ∙ ap (λ n. range_with_len n (counted numbered_in methods)) (one_counted numbered_in before method) in
    ap (flat_map (λ m. m.head.0 ∷ block_statements m.body)) same
    ∙ ranges_joined (counted numbered_in before) (numbered_in method) (counted numbered_in methods)
    (t.head.0 ∷ block_statements t.body) (flat_map (λ m. m.head.0 ∷ block_statements m.body) ts)
    (of_method_statements (setting_of principals globals method) (head_after before) method t one) rest
    ∙ ap (range_with_len (counted numbered_in before)) (sym (counted_first numbered_in method methods))

abbrev calls_of : MethodShape → ℕ
calls_of method = calls_in method.body

of_sites : (principals : Declared) (globals : List Global) (before methods : List MethodShape)
    (trees : List MethodTree) → AreMethodsFor principals globals before methods trees →
    flat_map (λ method. block_sites method.body) trees
    ≡ range_with_len (1 + counted calls_of before) (counted calls_of methods)
of_sites principals globals before [] trees is = ap (flat_map (λ method. block_sites method.body)) is
of_sites principals globals before (method ∷ methods) trees (t, ts, same, one, behind) =
    let start : 1 + (counted calls_of before + calls_of method) ≡ 1 + counted calls_of before + calls_of method =
    omega arith in
    let rest = of_sites principals globals (before ++ method ∷ []) methods ts behind
    ∙ ap (λ n. range_with_len (1 + n) (counted calls_of methods)) (one_counted calls_of before method)
    ∙ ap (λ n. range_with_len n (counted calls_of methods)) start in
    ap (flat_map (λ m. block_sites m.body)) same
    ∙ ranges_joined (1 + counted calls_of before) (calls_of method) (counted calls_of methods)
    (block_sites t.body) (flat_map (λ m. block_sites m.body) ts)
    (of_method_sites (setting_of principals globals method) (head_after before) method t one) rest
    ∙ ap (range_with_len (1 + counted calls_of before)) (sym (counted_first calls_of method methods))

pub statements_counted : (principals : Declared) (draft : DraftShape) (tree : ProgramTree) →
    IsProgramOf principals draft tree → CountsFrom 0 (statement_numbers tree)
statements_counted principals draft tree is =
    range_counts 0 (counted numbered_in draft.methods) (statement_numbers tree)
    (of_statements principals (globals_of draft) [] draft.methods tree.methods is.is_tree.methods)

pub sites_counted : (principals : Declared) (draft : DraftShape) (tree : ProgramTree) →
    IsProgramOf principals draft tree → CountsFrom 1 (site_numbers tree)
sites_counted principals draft tree is =
    range_counts 1 (counted calls_of draft.methods) (site_numbers tree)
    (of_sites principals (globals_of draft) [] draft.methods tree.methods is.is_tree.methods)
