-- The statements of a block, one after another, with those in the blocks inside them.
use Rattle.std.proofs.Common.{◌≡◌, ◌∙◌, ℕ, suc, ◌<◌, ◌≤◌, List, [], ◌∷◌, ◌++◌, map, drop, get_or, length, ap, sym}
use Rattle.std.proofs.Common.{refl, append_assoc, append-nil}
use Rattle.std.proofs.Common.{Result, Ok, Err, OnOk, Option, Bor}
use Rattle.std.proofs.lemmas.List.{map-append, drop_all}
use Rattle.std.proofs.lemmas.List.Concat.{flat_map-cons}
use Rattle.std.specs.List.{flat_map}
use Rattle.js_base.proofs.Lists.{next_of}
use Rattle.jif_tree.specs.declared.program.Method.{Method}
use Rattle.jif_tree.specs.declared.program.Stmt.{Stmt}
use Rattle.jif_tree.specs.declared.program.StmtKind.{StmtKind}
use Rattle.jif_tree.specs.declared.program.StmtKind as kind
use Rattle.jif_tree.specs.Trees.{Heading, BlockTree, done, branch, loop, statement_tree, row_tree, block_tree}
use Rattle.jif_tree.specs.Trees.{MethodTree, method_tree}
use Rattle.split_rules.specs.Positions.{all_statements}
use Rattle.split_rules.specs.ReleaseRows.{shown}

three_parts : (first : BlockTree) (xs ys zs : List BlockTree) →
    first ∷ xs ++ (ys ++ zs) ≡ (first ∷ xs ++ (ys ++ [])) ++ zs
three_parts first xs ys zs =
    ap (λ list. first ∷ list) (sym (append_assoc xs ys zs)
    ∙ ap (λ list. (xs ++ list) ++ zs) (sym (append-nil ys)))

-- those of a statement come before those behind it
pub statements_apart : (what : StmtKind) (heading : Heading) (rest : BlockTree) →
    all_statements (statement_tree what heading rest)
    ≡ all_statements (statement_tree what heading done) ++ all_statements rest
statements_apart (kind.Let x value) heading rest = refl
statements_apart (kind.SetField field value) heading rest = refl
statements_apart (kind.SetElement field index value) heading rest = refl
statements_apart (kind.If' guard m first n second) heading rest =
    three_parts (statement_tree (kind.If' guard m first n second) heading done) (all_statements (row_tree first))
    (all_statements (row_tree second)) (all_statements rest)
statements_apart (kind.While' guard m body) heading rest =
    ap (λ list. statement_tree (kind.While' guard m body) heading done ∷ list ++ all_statements rest)
    (sym (append-nil (all_statements (row_tree body))))
statements_apart (kind.Call site method args into) heading rest = refl
statements_apart (kind.Return value) heading rest = refl

pub added_branch : (heading : Heading) {guard : _} (before pushed between after : List BlockTree)
    (first second tree : BlockTree) → tree ≡ branch heading guard first second done →
    pushed ≡ before ++ tree ∷ [] → between ≡ pushed ++ all_statements first → {A E : Type 0} (result : Result A E) →
    OnOk result (after ≡ between ++ all_statements second) →
    OnOk result (after ≡ before ++ all_statements tree)
added_branch heading {guard} before pushed between after first second tree tree_is one two (Ok value) three =
    let whole = branch heading guard first second done in
    three ∙ ap (λ list. list ++ all_statements second) two
    ∙ ap (λ list. (list ++ all_statements first) ++ all_statements second) one
    ∙ ap (λ list. list ++ all_statements second) (append_assoc before (tree ∷ []) (all_statements first))
    ∙ append_assoc before (tree ∷ all_statements first) (all_statements second)
    ∙ ap (λ list. before ++ (tree ∷ (all_statements first ++ list))) (sym (append-nil (all_statements second)))
    ∙ ap (λ one_tree. before ++ (one_tree ∷ (all_statements first ++ (all_statements second ++ [])))) tree_is
    ∙ ap (λ one_tree. before ++ all_statements one_tree) (sym tree_is)
added_branch heading before pushed between after first second tree tree_is one two (Err fault) three = three

pub added_loop : (heading : Heading) {guard : _} (before pushed after : List BlockTree) (body tree : BlockTree) →
    tree ≡ loop heading guard body done → pushed ≡ before ++ tree ∷ [] → {A E : Type 0} (result : Result A E) →
    OnOk result (after ≡ pushed ++ all_statements body) → OnOk result (after ≡ before ++ all_statements tree)
added_loop heading {guard} before pushed after body tree tree_is one (Ok value) two =
    two ∙ ap (λ list. list ++ all_statements body) one
    ∙ append_assoc before (tree ∷ []) (all_statements body)
    ∙ ap (λ list. before ++ (tree ∷ list)) (sym (append-nil (all_statements body)))
    ∙ ap (λ one_tree. before ++ (one_tree ∷ (all_statements body ++ []))) tree_is
    ∙ ap (λ one_tree. before ++ all_statements one_tree) (sym tree_is)
added_loop heading before pushed after body tree tree_is one (Err fault) two = two

-- one more of the code's statements
pub pushed_more : (before after : List (Option (Bor Stmt))) (one : Option (Bor Stmt)) → after ≡ before ++ one ∷ [] →
    map shown after ≡ map shown before ++ shown one ∷ []
pushed_more before after one is = ap (map shown) is ∙ map-append shown before (one ∷ [])

-- ---- methods

abbrev pub all_in : MethodTree → List BlockTree
all_in method = done ∷ all_statements method.body

pub methods_more : (before so_far pushed now : List BlockTree) (methods : List Method) (place : ℕ) (method : Method) →
    place < length methods → method ≡ get_or methods place method → pushed ≡ so_far ++ done ∷ [] →
    now ≡ pushed ++ all_statements (block_tree method.body.items) →
    so_far ++ flat_map all_in (map method_tree (drop place methods)) ≡ before →
    now ++ flat_map all_in (map method_tree (drop (suc place) methods)) ≡ before
methods_more before so_far pushed now methods place method within is pushed_is now_is whole =
    let rest = flat_map all_in (map method_tree (drop (suc place) methods)) in
    let own = all_statements (block_tree method.body.items) in
    let next = next_of methods place method within is in
    ap (λ list. list ++ rest) (now_is ∙ ap (λ list. list ++ own) pushed_is ∙ append_assoc so_far (done ∷ []) own)
    ∙ append_assoc so_far (done ∷ own) rest
    ∙ ap (λ list. so_far ++ list)
    (sym (flat_map-cons all_in (method_tree method) (map method_tree (drop (suc place) methods))))
    ∙ ap (λ (list : List Method). so_far ++ flat_map all_in (map method_tree list)) (sym next)
    ∙ whole

pub methods_all : (before so_far : List BlockTree) (methods : List Method) (place : ℕ) → length methods ≤ place →
    so_far ++ flat_map all_in (map method_tree (drop place methods)) ≡ before → so_far ≡ before
methods_all before so_far methods place all whole =
    sym (append-nil so_far)
    ∙ ap (λ (list : List Method). so_far ++ flat_map all_in (map method_tree list)) (sym (drop_all place methods all))
    ∙ whole
