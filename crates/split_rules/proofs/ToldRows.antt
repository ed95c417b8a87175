-- What is told of the instructions of hosts, one after another.
use Rattle.std.proofs.Common.{◌≡◌, ◌∙◌, ℕ, zero, suc, ◌+◌, ◌<◌, ◌≤◌, All, List, [], ◌∷◌, ◌++◌, map, drop, get_or}
use Rattle.std.proofs.Common.{length, refl, ap, sym, subst, arith, append_assoc, append-nil, sum}
use Rattle.std.proofs.lemmas.List.{map-append, drop_all}
use Rattle.std.proofs.lemmas.List.Elements.{All-head, All-tail, All-cons, All-nil}
use Rattle.std.proofs.lemmas.List.Concat.{flat_map-cons}
use Rattle.std.proofs.lemmas.List.Sums.{sum_by-cons}
use Rattle.std.specs.List.{flat_map, range_with_len}
use Rattle.js_base.specs.declared.ids.StmtId.{StmtId}
use Rattle.js_base.proofs.Lists.{next_of}
use Rattle.jif_tree.specs.declared.program.Expr.{Expr}
use Rattle.jif_tree.specs.Sizes.{expr_nodes, block_nodes}
use Rattle.jif_tree.specs.Trees.{BlockTree, done, set_local, set_field, set_element, branch, loop, call, give_back}
use Rattle.jif_tree.specs.Trees.{MethodTree, expr_tree}
use Rattle.host_code.specs.Code.{CodeShape, part_of}
use Rattle.host_code.specs.declared.code_expr.Node.{Node}
use Rattle.host_code.specs.declared.code_expr.TheConstants.{MOST_NODES}
use Rattle.host_code.specs.declared.instruction.Instr.{Instr}
use Rattle.split_rules.specs.Positions.{all_statements}
use Rattle.split_rules.specs.ReleaseRows.{statement_at, statement_nodes, row_of, left_behind, rows_told}
use Rattle.split_rules.proofs.AddedStatements.{all_in}

-- ---- one host

pub instructions_more : (statements : List BlockTree) (whole rows now : List (List (List Node)))
    (left next_left : List (List (List Node))) (row : List (List Node)) (part : List Instr) (place : ℕ)
    (one : Instr) → place < length part → one ≡ get_or part place one → now ≡ rows ++ row ∷ [] →
    row ≡ row_of statements left one → next_left ≡ left_behind statements left one →
    rows ++ rows_told statements left (drop place part) ≡ whole →
    now ++ rows_told statements next_left (drop (suc place) part) ≡ whole
instructions_more statements whole rows now left next_left row part place one within is now_is row_is left_is so_far =
    let rest = drop (suc place) part in
    let next = next_of part place one within is in
    ap (λ list. list ++ rows_told statements next_left rest) now_is
    ∙ append_assoc rows (row ∷ []) (rows_told statements next_left rest)
    ∙ ap (λ it. rows ++ (it ∷ rows_told statements next_left rest)) row_is
    ∙ ap (λ it. rows ++ (row_of statements left one ∷ rows_told statements it rest)) left_is
    ∙ ap (λ (list : List Instr). rows ++ rows_told statements left list) (sym next)
    ∙ so_far

pub instructions_all : (statements : List BlockTree) (whole rows left : List (List (List Node)))
    (part : List Instr) (place : ℕ) → length part ≤ place →
    rows ++ rows_told statements left (drop place part) ≡ whole → rows ≡ whole
instructions_all statements whole rows left part place all so_far =
    sym (append-nil rows)
    ∙ ap (λ (list : List Instr). rows ++ rows_told statements left list) (sym (drop_all place part all))
    ∙ so_far

-- ---- few nodes

abbrev pub IsFew : BlockTree → Type 0
IsFew statement = statement_nodes statement ≤ MOST_NODES

pub few_at : (statements : List BlockTree) (id : StmtId) → All IsFew statements → IsFew (statement_at statements id)
few_at statements id all = by statements id.0 all
  where
    by : (list : List BlockTree) (place : ℕ) → All IsFew list → IsFew (statement_at list (record { 0 = place }))
    by [] place few = omega arith
    by (statement ∷ others) zero few = All-head IsFew statement others few
    by (statement ∷ others) (suc place) few = by others place (All-tail IsFew statement others few)

nodes_are : (block : BlockTree) → map statement_nodes (all_statements block) ≡ block_nodes block
nodes_are done = refl
nodes_are (set_local heading x value rest) = ap (λ list. expr_nodes value ∷ list) (nodes_are rest)
nodes_are (set_field heading field value rest) = ap (λ list. expr_nodes value ∷ list) (nodes_are rest)
nodes_are (set_element heading field index value rest) =
    ap (λ list. (expr_nodes index + expr_nodes value) ∷ list) (nodes_are rest)
nodes_are (branch heading guard first second rest) =
    let nodes : List BlockTree → List ℕ = map statement_nodes in
    ap (λ list. statement_nodes (branch heading guard first second done) ∷ list)
    (map-append statement_nodes (all_statements first) (all_statements second ++ all_statements rest)
    ∙ ap (λ list. nodes (all_statements first) ++ list)
    (map-append statement_nodes (all_statements second) (all_statements rest))
    ∙ sym (append_assoc (nodes (all_statements first)) (nodes (all_statements second)) (nodes (all_statements rest)))
    ∙ ap (λ list. list ++ nodes (all_statements second) ++ nodes (all_statements rest)) (nodes_are first)
    ∙ ap (λ list. block_nodes first ++ list ++ nodes (all_statements rest)) (nodes_are second)
    ∙ ap (λ list. block_nodes first ++ block_nodes second ++ list) (nodes_are rest))
nodes_are (loop heading guard inner rest) =
    ap (λ list. statement_nodes (loop heading guard inner done) ∷ list)
    (map-append statement_nodes (all_statements inner) (all_statements rest)
    ∙ ap (λ list. list ++ map statement_nodes (all_statements rest)) (nodes_are inner)
    ∙ ap (λ list. block_nodes inner ++ list) (nodes_are rest))
nodes_are (call heading site method arguments into rest) =
    ap (λ list. sum (map expr_nodes arguments) ∷ list) (nodes_are rest)
nodes_are (give_back heading value rest) = ap (λ list. expr_nodes value ∷ list) (nodes_are rest)

abbrev IsFewNodes : ℕ → Type 0
IsFewNodes nodes = nodes ≤ MOST_NODES

few_left : (xs ys : List ℕ) → All IsFewNodes (xs ++ ys) → All IsFewNodes xs
few_left [] ys all = All-nil IsFewNodes
few_left (x ∷ xs) ys all =
    All-cons IsFewNodes x xs (All-head IsFewNodes x (xs ++ ys) all)
    (few_left xs ys (All-tail IsFewNodes x (xs ++ ys) all))

few_right : (xs ys : List ℕ) → All IsFewNodes (xs ++ ys) → All IsFewNodes ys
few_right [] ys all = all
few_right (x ∷ xs) ys all = few_right xs ys (All-tail IsFewNodes x (xs ++ ys) all)

few_before : (statements others : List BlockTree) → All IsFewNodes (map statement_nodes statements) →
    All IsFew others → All IsFew (statements ++ others)
few_before [] others few more = more
few_before (statement ∷ statements) others few more =
    let nodes = map statement_nodes statements in
    All-cons IsFew statement (statements ++ others) (All-head IsFewNodes (statement_nodes statement) nodes few)
    (few_before statements others (All-tail IsFewNodes (statement_nodes statement) nodes few) more)

pub all_few : (methods : List MethodTree) → All IsFewNodes (flat_map (λ method. block_nodes method.body) methods) →
    All IsFew (flat_map all_in methods)
all_few [] all = All-nil IsFew
all_few (method ∷ methods) all =
    let bodies : MethodTree → List ℕ = λ tree. block_nodes tree.body in
    let both = subst (All IsFewNodes) (flat_map-cons bodies method methods) all in
    let own = subst (All IsFewNodes) (sym (nodes_are method.body))
    (few_left (bodies method) (flat_map bodies methods) both) in
    subst (All IsFew) (sym (flat_map-cons all_in method methods))
    (All-cons IsFew done (all_statements method.body ++ flat_map all_in methods) (omega arith)
    (few_before (all_statements method.body) (flat_map all_in methods) own
    (all_few methods (few_right (bodies method) (flat_map bodies methods) both))))

-- ---- all hosts

range_more : {Y : Type 0} (f : ℕ → Y) (first count : ℕ) →
    map f (range_with_len first (suc count)) ≡ map f (range_with_len first count) ++ f (first + count) ∷ []
range_more f first zero = let same : first ≡ first + 0 = omega arith in ap (λ at. f at ∷ []) same
range_more f first (suc count) =
    let same : first + 1 + count ≡ first + suc count = omega arith in
    ap (λ list. f first ∷ list) (range_more f (first + 1) count
    ∙ ap (λ at. map f (range_with_len (first + 1) count) ++ f at ∷ []) same)

pub hosts_more : {Y : Type 0} (f : ℕ → Y) (now so_far : List Y) (one : Y) (place : ℕ) → now ≡ so_far ++ one ∷ [] →
    one ≡ f place → so_far ≡ map f (range_with_len 0 place) → now ≡ map f (range_with_len 0 (suc place))
hosts_more f now so_far one place now_is one_is so =
    let same : 0 + place ≡ place = omega arith in
    now_is ∙ ap (λ list. list ++ one ∷ []) so ∙ ap (λ it. map f (range_with_len 0 place) ++ it ∷ []) one_is
    ∙ sym (range_more f 0 place ∙ ap (λ at. map f (range_with_len 0 place) ++ f at ∷ []) same)

-- ---- arguments

each_few : (args : List Expr) → sum (map expr_nodes (map expr_tree args)) ≤ MOST_NODES →
    All (λ arg. expr_nodes (expr_tree arg) ≤ MOST_NODES) args
each_few [] few = All-nil (λ (arg : Expr). expr_nodes (expr_tree arg) ≤ MOST_NODES)
each_few (arg ∷ args) few =
    let both : expr_nodes (expr_tree arg) + sum (map expr_nodes (map expr_tree args)) ≤ MOST_NODES =
    rw (sum_by-cons (λ nodes. nodes) (expr_nodes (expr_tree arg)) (map expr_nodes (map expr_tree args))) at few in
    All-cons (λ (one : Expr). expr_nodes (expr_tree one) ≤ MOST_NODES) arg args (omega (arith, both))
    (each_few args (omega (arith, both)))

pub few_args : (tree : BlockTree) (args : List Expr) {heading : _} {site : _} {method : _} {into : _} →
    tree ≡ call heading site method (map expr_tree args) into done → statement_nodes tree ≤ MOST_NODES →
    All (λ arg. expr_nodes (expr_tree arg) ≤ MOST_NODES) args
few_args tree args is few = each_few args (subst IsFew is few)
