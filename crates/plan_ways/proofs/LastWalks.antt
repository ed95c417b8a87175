-- What a walk of a program collects of its methods and statements.
use Rattle.std.proofs.Common.{◌≡◌, ℕ, suc, ◌+◌, ◌-◌, ◌<◌, ◌≤◌, List, [], ◌∷◌, ◌++◌, length, map, take, drop, get_or}
use Rattle.std.proofs.Common.{Vec, Global, ap, sym, ◌∙◌, refl, arith}
use Rattle.std.proofs.Math.ListN.{set}
use Rattle.std.proofs.lemmas.List.{append_assoc, append-nil, drop_all, length-append, set_at, take_all}
use Rattle.std.proofs.lemmas.Simd.{map-map}
use Rattle.js_base.specs.declared.ids.StmtId.{StmtId}
use Rattle.jif_tree.proofs.Rows.{if_tree, while_tree}
use Rattle.jif_tree.specs.Trees.{BlockTree, Heading, done, set_local, set_field, set_element, branch, loop, call}
use Rattle.jif_tree.specs.Trees.{give_back, MethodTree, block_tree, head_of, method_tree, row_tree, statement_tree}
use Rattle.jif_tree.specs.declared.program.Expr.{Expr}
use Rattle.jif_tree.specs.declared.program.Method.{Method}
use Rattle.jif_tree.specs.declared.program.Stmt.{Stmt}
use Rattle.jif_tree.specs.declared.program.StmtKind.{StmtKind}
use Rattle.jif_tree.specs.declared.program.StmtKind as kind
use Rattle.plan_ways.specs.Lasts.{block_lasts, inside_lasts, kind_lasts, method_lasts, size_of}
use Rattle.plan_ways.proofs.Walks.{left_cut}

pub all_heads : (heads : List StmtId) (items methods : List Method) (i : ℕ) → length items ≤ i → items ≡ methods →
    heads ≡ map (λ (method : Method). method.head) (take i items) →
    heads ≡ map (λ (method : MethodTree). method.head) (map method_tree methods)
all_heads heads items methods i all same was =
    was ∙ ap (map (λ (method : Method). method.head)) (take_all i items all ∙ same)
    ∙ sym (map-map (λ (method : MethodTree). method.head) method_tree methods)

-- there is one for each statement
pub length_lasts : (n : ℕ) (block : BlockTree) → length (block_lasts n block) ≡ size_of block
length_lasts n done = refl
length_lasts n (set_local heading x value rest) = ap suc (length_lasts (n + 1) rest)
length_lasts n (set_field heading field value rest) = ap suc (length_lasts (n + 1) rest)
length_lasts n (set_element heading field index value rest) = ap suc (length_lasts (n + 1) rest)
length_lasts n (branch heading guard first second rest) =
    let one = length_lasts (n + 1) first in
    let two = length_lasts (n + 1 + size_of first) second in
    let three = length_lasts (n + 1 + (size_of first + size_of second)) rest in
    simp length-append (omega arith)
length_lasts n (loop heading guard body rest) =
    let one = length_lasts (n + 1) body in
    let two = length_lasts (n + 1 + size_of body) rest in
    simp length-append (omega arith)
length_lasts n (call heading site method args into rest) = ap suc (length_lasts (n + 1) rest)
length_lasts n (give_back heading value rest) = ap suc (length_lasts (n + 1) rest)

no_block : (n k : ℕ) (rest : BlockTree) → k ≡ 0 →
    n ∷ block_lasts (n + 1) rest ≡ (n + k) ∷ block_lasts (n + 1 + k) rest
no_block n k rest is =
    let own : n ≡ n + k = omega (arith, is) in
    let next : n + 1 ≡ n + 1 + k = omega (arith, is) in
    ap (λ (m : ℕ). m ∷ block_lasts (n + 1) rest) own ∙ ap (λ (m : ℕ). (n + k) ∷ block_lasts m rest) next

-- of a statement and those after it: its own, those in its blocks, and those of the rest
first_lasts : (n k : ℕ) (what : StmtKind) (heading : Heading) (rest : BlockTree) →
    k ≡ length (kind_lasts (n + 1) what) →
    block_lasts n (statement_tree what heading rest)
    ≡ (n + k) ∷ (kind_lasts (n + 1) what ++ block_lasts (n + 1 + k) rest)
first_lasts n k (kind.Let x value) heading rest is = no_block n k rest is
first_lasts n k (kind.SetField field value) heading rest is = no_block n k rest is
first_lasts n k (kind.SetElement field index value) heading rest is = no_block n k rest is
first_lasts n k (kind.If' guard m first l second) heading rest is =
    let one = block_lasts (n + 1) (row_tree first) in
    let two = block_lasts (n + 1 + size_of (row_tree first)) (row_tree second) in
    let same : size_of (row_tree first) + size_of (row_tree second) ≡ k =
    omega (
      arith,
      is,
      length-append one two,
      length_lasts (n + 1) (row_tree first),
      length_lasts (n + 1 + size_of (row_tree first)) (row_tree second),
    ) in
    ap (λ (s : ℕ). (n + s) ∷ ((one ++ two) ++ block_lasts (n + 1 + s) rest)) same
first_lasts n k (kind.While' guard m body) heading rest is =
    let same : size_of (row_tree body) ≡ k = omega (arith, is, length_lasts (n + 1) (row_tree body)) in
    ap (λ (s : ℕ). (n + s) ∷ (block_lasts (n + 1) (row_tree body) ++ block_lasts (n + 1 + s) rest)) same
first_lasts n k (kind.Call site called args into) heading rest is = no_block n k rest is
first_lasts n k (kind.Return value) heading rest is = no_block n k rest is

-- what was pushed for a statement before those in it, and is written again behind them
written_again : (made pushed nested final inner : List ℕ) (own : ℕ) → own ≡ length made → pushed ≡ made ++ own ∷ [] →
    nested ≡ pushed ++ inner → final ≡ set nested own (length nested - 1) →
    final ≡ made ++ (length made + length inner) ∷ inner
written_again made pushed nested final inner own own_is pushed_is nested_is final_is =
    let whole : nested ≡ made ++ own ∷ inner =
    nested_is ∙ ap (λ (xs : List ℕ). xs ++ inner) pushed_is ∙ append_assoc made (own ∷ []) inner in
    let count : length nested ≡ length made + suc (length inner) =
    ap length whole ∙ length-append made (own ∷ inner) in
    let last : length nested - 1 ≡ length made + length inner = omega (arith, count) in
    final_is ∙ ap (λ (xs : List ℕ). set xs own (length nested - 1)) whole
    ∙ set_at made own inner (length nested - 1) own (sym own_is)
    ∙ ap (λ (m : ℕ). made ++ m ∷ inner) last

-- F gives what is left behind so many statements
joined_again : (F : ℕ → List ℕ) (made final inner left whole : List ℕ) →
    final ≡ made ++ (length made + length inner) ∷ inner →
    left ≡ (length made + length inner) ∷ (inner ++ F (length made + 1 + length inner)) →
    made ++ left ≡ whole → final ++ F (length final) ≡ whole
joined_again F made final inner left whole is left_is was =
    let own = length made + length inner in
    let count : length final ≡ length made + 1 + length inner =
    ap length is ∙ length-append made (own ∷ inner) ∙ omega arith in
    ap (λ (n : ℕ). final ++ F n) count
    ∙ ap (λ (xs : List ℕ). xs ++ F (length made + 1 + length inner)) is
    ∙ append_assoc made (own ∷ inner) (F (length made + 1 + length inner))
    ∙ ap (λ (xs : List ℕ). made ++ xs) (sym left_is)
    ∙ was

pushed_count : (made pushed : List ℕ) (own : ℕ) → pushed ≡ made ++ own ∷ [] → length pushed ≡ length made + 1
pushed_count made pushed own is = ap length is ∙ length-append made (own ∷ [])

pub statement_added : (block : List Stmt) (i own : ℕ) (d s : Stmt) (made pushed nested final whole : List ℕ) →
    i < length block → s ≡ get_or block i d → own ≡ length made → pushed ≡ made ++ own ∷ [] →
    nested ≡ pushed ++ kind_lasts (length pushed) s.kind → final ≡ set nested own (length nested - 1) →
    made ++ block_lasts (length made) (block_tree (drop i block)) ≡ whole →
    final ++ block_lasts (length final) (block_tree (drop (i + 1) block)) ≡ whole
statement_added block i own d s made pushed nested final whole lt is own_is pushed_is nested_is final_is was =
    let inner = kind_lasts (length made + 1) s.kind in
    let rest = block_tree (drop (i + 1) block) in
    let again = written_again made pushed nested final inner own own_is pushed_is
    (nested_is ∙ ap (λ (n : ℕ). pushed ++ kind_lasts n s.kind) (pushed_count made pushed own pushed_is)) final_is in
    joined_again (λ (n : ℕ). block_lasts n rest) made final inner
    (block_lasts (length made) (block_tree (drop i block))) whole again
    (ap (λ (ss : List Stmt). block_lasts (length made) (block_tree ss)) (left_cut block i d s lt is)
    ∙ first_lasts (length made) (length inner) s.kind (head_of s) rest refl)
    was

pub block_added : (block : List Stmt) (i : ℕ) (made whole : List ℕ) → length block ≤ i →
    made ++ block_lasts (length made) (block_tree (drop i block)) ≡ whole → made ≡ whole
block_added block i made whole all was =
    sym (append-nil made)
    ∙ ap (λ (ss : List Stmt). made ++ block_lasts (length made) (block_tree ss)) (sym (drop_all i block all))
    ∙ was

pub method_added : (methods : List Method) (i own : ℕ) (d m : Method) (body : List Stmt)
    (made pushed nested final whole : List ℕ) → i < length methods → m ≡ get_or methods i d → own ≡ length made →
    pushed ≡ made ++ own ∷ [] → body ≡ m.body.items →
    nested ≡ pushed ++ block_lasts (length pushed) (block_tree body) → final ≡ set nested own (length nested - 1) →
    made ++ method_lasts (length made) (map method_tree (drop i methods)) ≡ whole →
    final ++ method_lasts (length final) (map method_tree (drop (i + 1) methods)) ≡ whole
method_added methods i own d m body made pushed nested final whole lt is own_is pushed_is body_is nested_is final_is
    was =
    let tree = block_tree m.body.items in
    let inner = block_lasts (length made + 1) tree in
    let rest = map method_tree (drop (i + 1) methods) in
    let count : size_of tree ≡ length inner = sym (length_lasts (length made + 1) tree) in
    let again = written_again made pushed nested final inner own own_is pushed_is
    (nested_is ∙ ap (λ (n : ℕ). pushed ++ block_lasts n (block_tree body)) (pushed_count made pushed own pushed_is)
    ∙ ap (λ (ss : List Stmt). pushed ++ block_lasts (length made + 1) (block_tree ss)) body_is) final_is in
    joined_again (λ (n : ℕ). method_lasts n rest) made final inner
    (method_lasts (length made) (map method_tree (drop i methods))) whole again
    (ap (λ (ms : List Method). method_lasts (length made) (map method_tree ms)) (left_cut methods i d m lt is)
    ∙ ap (λ (s : ℕ). (length made + s) ∷ (inner ++ method_lasts (length made + 1 + s) rest)) count)
    was

pub methods_added : (items methods : List Method) (i : ℕ) (made : List ℕ) → length items ≤ i →
    items ≡ methods →
    made ++ method_lasts (length made) (map method_tree (drop i items)) ≡ method_lasts 0 (map method_tree items) →
    made ≡ method_lasts 0 (map method_tree methods)
methods_added items methods i made all same was =
    sym (append-nil made)
    ∙ ap (λ (ms : List Method). made ++ method_lasts (length made) (map method_tree ms)) (sym (drop_all i items all))
    ∙ was ∙ ap (λ (ms : List Method). method_lasts 0 (map method_tree ms)) same

pub if_added : (what : StmtKind) (guard : Expr) (first second : Vec Stmt Global) (one other : List Stmt)
    (before between after : List ℕ) → what ≡ kind.If guard first second → one ≡ first.items →
    other ≡ second.items → between ≡ before ++ block_lasts (length before) (block_tree one) →
    after ≡ between ++ block_lasts (length between) (block_tree other) →
    after ≡ before ++ kind_lasts (length before) what
if_added what guard first second one other before between after is one_is other_is one_made other_made =
    let firsts = block_lasts (length before) (block_tree one) in
    let count : length between ≡ length before + size_of (block_tree one) =
    ap length one_made ∙ length-append before firsts
    ∙ ap (λ (n : ℕ). length before + n) (length_lasts (length before) (block_tree one)) in
    other_made
    ∙ ap (λ (n : ℕ). between ++ block_lasts n (block_tree other)) count
    ∙ ap (λ (xs : List ℕ). xs ++ block_lasts (length before + size_of (block_tree one)) (block_tree other)) one_made
    ∙ append_assoc before firsts (block_lasts (length before + size_of (block_tree one)) (block_tree other))
    ∙ ap (λ (ss : List Stmt). before ++ (firsts
    ++ block_lasts (length before + size_of (block_tree one)) (block_tree ss))) other_is
    ∙ ap (λ (ss : List Stmt). before ++ (block_lasts (length before) (block_tree ss)
    ++ block_lasts (length before + size_of (block_tree ss)) (block_tree second.items))) one_is
    ∙ ap (λ (tree : BlockTree). before ++ inside_lasts (length before) tree)
    (sym (if_tree guard first second (record { id = record { 0 = 0 }; line = 0 }) done))
    ∙ ap (λ (w : StmtKind). before ++ kind_lasts (length before) w) (sym is)

pub while_added : (what : StmtKind) (guard : Expr) (body : Vec Stmt Global) (inner : List Stmt)
    (before after : List ℕ) → what ≡ kind.While guard body → inner ≡ body.items →
    after ≡ before ++ block_lasts (length before) (block_tree inner) →
    after ≡ before ++ kind_lasts (length before) what
while_added what guard body inner before after is inner_is made =
    made
    ∙ ap (λ (ss : List Stmt). before ++ block_lasts (length before) (block_tree ss)) inner_is
    ∙ ap (λ (tree : BlockTree). before ++ inside_lasts (length before) tree)
    (sym (while_tree guard body (record { id = record { 0 = 0 }; line = 0 }) done))
    ∙ ap (λ (w : StmtKind). before ++ kind_lasts (length before) w) (sym is)
