-- A program that passes the label check, with its needs and a plan by which each statement's host is trusted for the
-- statement, has hosts that are trusted for all that statements start.
use Rattle.std.proofs.Common.{◌≡◌, ◌∙◌, ℕ, zero, suc, ◌<◌, true, List, [], ◌∷◌, ◌++◌, map, length, refl, ap, sym}
use Rattle.std.proofs.Common.{subst, arith, true≢false}
use Rattle.std.specs.Prelude.{Option, Some, None, All, Any, slice_get, slice_index}
use Rattle.std.specs.Int.{bit_at}
use Rattle.std.specs.List.{AllByRecursion, AllZip, flat_map}
use Rattle.std.proofs.lemmas.Nat.Bits.{bit_at_or}
use Rattle.std.proofs.lemmas.List.Elements.{All-head, All-tail}
use Rattle.std.proofs.lemmas.Option.{get_or_from_slice_get}
use Rattle.std.specs.Option.{IsSomeAnd}
use Rattle.std.proofs.lemmas.List.Concat.{flat_map-append}
use Rattle.std.proofs.lemmas.List.{length-map}
use Rattle.js_base.specs.declared.ids.HostId.{HostId}
use Rattle.js_base.specs.declared.ids.StmtId.{StmtId}
use Rattle.js_base.specs.declared.ids.MethodId.{MethodId}
use Rattle.js_base.proofs.BitLemmas.{is_bit, bits_in_order}
use Rattle.principals.specs.ActsFor.{Declared}
use Rattle.label_lattice.specs.declared.label.TheConstants.{READERS}
use Rattle.label_lattice.specs.Label.{IsTrustedBy}
use Rattle.host_decl.specs.Hosts.{HostShape}
use Rattle.jif_tree.specs.Trees.{BlockTree, done, set_local, set_field, set_element, branch, loop, call, give_back}
use Rattle.jif_tree.specs.Trees.{MethodTree, ProgramTree}
use Rattle.jif_tree.specs.LabelRules.{MethodSetting, setting_of, VariableLabels, StatementLabels, block_labels, Meets}
use Rattle.jif_tree.specs.LabelRules.{Holds, Constraint, Obligation, obligations_of, labels_after, methods_labels}
use Rattle.jif_tree.specs.LabelRules.{labels_after_methods, program_labels, declared_labels, method_at, field_label}
use Rattle.jif_tree.specs.LabelRules.{begin_label, params_of}
use Rattle.jif_tree.specs.WellNumbered.{AreMethodsIn, is_some}
use Rattle.jif_tree.specs.Labelling.{AreLabelledMethods}
use Rattle.jif_tree.proofs.LabelsKept.{Stay, stay_same, stay_then, block_stays}
use Rattle.need_labels.specs.Labelled.{Labelled}
use Rattle.need_labels.specs.Needs.{Backing, for_label, Backs, StatementUse, all_backing, block_uses}
use Rattle.need_labels.specs.Needs.{method_uses, statement_uses, IsNeed, statement_use, label_of, labels_of}
use Rattle.need_labels.specs.Needs.{kept_result, for_releases}
use Rattle.need_labels.specs.Plan.{statement_host}
use Rattle.need_labels.proofs.Somewhere.{any_here, any_later, any_left, any_right}
use Rattle.need_labels.proofs.Ordered.{use_numbered}
use Rattle.msg_cost.specs.Moves.{PlannedShape, is_trusted_for}
use Rattle.msg_cost.proofs.Trusted.{test_decides}
use Rattle.split_rules.specs.Placed.{PlacedProgram, planned_from}
use Rattle.split_rules.specs.Positions.{statements_of, number_of, run, all_due, all_statements, IsStatementOfMethod}
use Rattle.split_rules.specs.Positions.{IsOf}
use Rattle.split_rules.specs.Allowed.{IsTrustedHost, IsAllowed}
use Rattle.split_rules.specs.Typable.{IsTrustedThere, IsTrustedInside, AreTrusted, IsTypableMethod, IsTypable}
use Rattle.split_rules.specs.Typing.{AreDueOn, Covers, body_of}
use Rattle.split_rules.specs.Walk.{need_of}
use Rattle.split_rules.proofs.BackedLabels.{all_first, all_second, AreMet, IsUnder, block_backed}
use Rattle.split_rules.proofs.LabelsKept.{AreFinal}
use Rattle.split_rules.proofs.WalkedCalls.{nothing_there}

-- ---- lists

pub by_recursion : {X : Type 0} (P : X → Type 0) (xs : List X) → All P xs → AllByRecursion P xs
by_recursion P [] all = tt
by_recursion P (x ∷ xs) all = (All-head P x xs all, by_recursion P xs (All-tail P x xs all))

pub each_there : {X : Type 0} (P : X → Type 0) (xs : List X) →
    ((place : ℕ) (x : X) → slice_get xs place ≡ Some x → P x) → AllByRecursion P xs
each_there P [] each = tt
each_there P (x ∷ xs) each = (each 0 x refl, each_there P xs (λ place y there. each (suc place) y there))

pub zipped_there : {X Y : Type 0} (P : X → Y → Type 0) (xs : List X) (ys : List Y) → AllZip P xs ys →
    (place : ℕ) (x : X) →
    slice_get xs place ≡ Some x → (y : Y) × (slice_get ys place ≡ Some y) × P x y
zipped_there P [] [] all place x there = absurd (nothing_there place x there)
zipped_there P [] (y ∷ ys) all place x there = absurd (nothing_there place x there)
zipped_there P (x ∷ xs) [] all place z there = absurd all
zipped_there P (x ∷ xs) (y ∷ ys) all zero z there =
    let same : x ≡ z = cc in
    let Q : _ → Type 0 = λ it. P it y in
    (y, refl, subst Q same all.0)
zipped_there P (x ∷ xs) (y ∷ ys) all (suc place) z there = zipped_there P xs ys all.1 place z there

-- ---- constraints

constraints_met : (principals : Declared) (statement : StmtId) (constraints : List Constraint) →
    AllByRecursion (Meets principals)
    (map (λ constraint. record { statement = statement; constraint = constraint }) constraints) →
    AllByRecursion (Holds principals) constraints
constraints_met principals statement [] met = tt
constraints_met principals statement (constraint ∷ constraints) met =
    (met.0, constraints_met principals statement constraints met.1)

pub met_from : (principals : Declared) (statements : List StatementLabels) →
    AllByRecursion (Meets principals) (obligations_of statements) → AreMet principals statements
met_from principals [] met = tt
met_from principals (one ∷ statements) met =
    let own : List Obligation = map (λ constraint. record { statement = one.statement; constraint = constraint })
    one.constraints in (
      constraints_met principals one.statement one.constraints
          (all_first (Meets principals) own (obligations_of statements) met),
      met_from principals statements (all_second (Meets principals) own (obligations_of statements) met),
    )

-- ---- trust

-- a host that is trusted for a statement is trusted for one that needs no more
pub trusted_less : (planned : PlannedShape) (host : HostId) (statement other : StmtId) →
    is_trusted_for planned host statement ≡ true →
    ((p : ℕ) → p < READERS → bit_at (slice_index planned.needs.need other.0) p ≡ 1 →
    bit_at (slice_index planned.needs.need statement.0) p ≡ 1) →
    is_trusted_for planned host other ≡ true
trusted_less planned host statement other trusted less = by (slice_get planned.hosts.hosts host.0) refl trusted
  where
    need : StmtId → ℕ
    need it = slice_index planned.needs.need it.0

    by : (found : Option HostShape) → slice_get planned.hosts.hosts host.0 ≡ found →
        is_trusted_for planned host statement ≡ true → is_trusted_for planned host other ≡ true
    by None is holds = absurd (true≢false (sym (rw is at holds)))
    by (Some row) is holds =
        let all = (test_decides row.label (need statement)).0 (rw is at holds) in
        rw is ((test_decides row.label (need other)).1 (λ p within set. all p within (less p within set)))

-- ---- what is known of each statement

-- its need is that of its backing, and its host is trusted for it
pub record IsNeeded (planned : PlannedShape) (principals : Declared) (one : StatementUse) : Type 0 where
  pub need : IsNeed principals one.backing (slice_index planned.needs.need one.id.0)
  pub trusted : IsTrustedThere planned one.id

at_host : (placed : PlacedProgram) (id : StmtId) (host : HostId) →
    slice_get placed.plan.statements id.0 ≡ Some host →
    IsTrustedHost placed.hosts (slice_index placed.needs.need id.0) host →
    IsTrustedThere (planned_from placed) id
at_host placed id host stands trusted = by (slice_get placed.hosts.hosts host.0) refl trusted
  where
    planned : PlannedShape
    planned = planned_from placed

    by : (found : Option HostShape) → slice_get placed.hosts.hosts host.0 ≡ found →
        IsSomeAnd found (λ row. IsTrustedBy row.label (slice_index placed.needs.need id.0)) → IsTrustedThere planned id
    by None is holds = absurd holds
    by (Some row) is holds = rw (stands, is) ((test_decides row.label (slice_index placed.needs.need id.0)).1 holds)

pub use_needed : (placed : PlacedProgram) →
    IsAllowed placed → (place : ℕ) (one : StatementUse) →
    slice_get (statement_uses placed.hosts.principals placed.labelled) place ≡ Some one →
    IsNeeded (planned_from placed) placed.hosts.principals one
use_needed placed allowed place one there =
    let planned = planned_from placed in
    let principals = placed.hosts.principals in
    let number : one.id.0 ≡ place = use_numbered principals placed.labelled place one allowed.statements there in
    let word = zipped_there (λ it word. IsNeed principals it.backing word) (statement_uses principals placed.labelled)
    placed.needs.need allowed.needs_of.need place one there in
    let host = zipped_there (IsTrustedHost placed.hosts) placed.needs.need placed.plan.statements allowed.trusted place
    word.0 word.1 in
    let need_is : slice_index placed.needs.need place ≡ word.0 =
    get_or_from_slice_get placed.needs.need place word.0 _ word.1 in
    let P : ℕ → Type 0 = λ at. IsNeed principals one.backing (slice_index placed.needs.need at) in
    let Q : ℕ → Type 0 = λ need. IsNeed principals one.backing need in
    record {
      need = subst P (sym number) (subst Q (sym need_is) word.2);
      trusted = at_host placed one.id host.0
          (ap (slice_get placed.plan.statements) number ∙ host.1)
          (let R : ℕ → Type 0 = λ need. IsTrustedHost placed.hosts need host.0 in
          let S : ℕ → Type 0 = λ at. IsTrustedHost placed.hosts (slice_index placed.needs.need at) host.0 in
          subst S (sym number) (subst R (sym need_is) host.2));
    }

-- ---- blocks

-- each statement of a block asks of its host what is asked for the block at most
abbrev pub AreBackedBy : PlannedShape → Declared → List Backing → List BlockTree → Type 0
AreBackedBy planned principals backing trees = AllByRecursion (λ tree. (p : ℕ) → p < READERS →
    bit_at (slice_index planned.needs.need (number_of tree).0) p ≡ 1 → Any (Backs principals p) backing) trees

backed_more : (planned : PlannedShape) (principals : Declared) (backing more : List Backing)
    (trees : List BlockTree) → AreBackedBy planned principals backing trees →
    ((p : ℕ) → p < READERS → Any (Backs principals p) backing → Any (Backs principals p) more) →
    AreBackedBy planned principals more trees
backed_more planned principals backing more [] backed wider = tt
backed_more planned principals backing more (tree ∷ trees) backed wider = (
  λ p within set. wider p within (backed.0 p within set),
  backed_more planned principals backing more trees backed.1 wider,
)

-- the first statement, and those behind it
one_backed : (planned : PlannedShape) (principals : Declared) (tree : BlockTree) (trees : List BlockTree)
    (first : StatementUse) (uses : List StatementUse) → first.id ≡ number_of tree →
    IsNeeded planned principals first → AreBackedBy planned principals (all_backing uses) trees →
    AreBackedBy planned principals (all_backing (first ∷ uses)) (tree ∷ trees)
one_backed planned principals tree trees first uses same needed others = (
  λ p within set.
      let P : StmtId → Type 0 = λ id. bit_at (slice_index planned.needs.need id.0) p ≡ 1 in
      any_left (Backs principals p) first.backing (all_backing uses)
      ((needed.need.members p within).0 (subst P (sym same) set)),
  backed_more planned principals (all_backing uses) (all_backing (first ∷ uses)) trees others
      (λ p within some. any_right (Backs principals p) first.backing (all_backing uses) some),
)

-- those behind what is inside
past_inside : (planned : PlannedShape) (principals : Declared) (inside uses : List StatementUse)
    (trees : List BlockTree) → AreBackedBy planned principals (all_backing uses) trees →
    AreBackedBy planned principals (all_backing (inside ++ uses)) trees
past_inside planned principals inside uses trees backed =
    backed_more planned principals (all_backing uses) (all_backing (inside ++ uses)) trees backed (λ p within some.
    let P : List Backing → Type 0 = λ list. Any (Backs principals p) list in
    subst P (sym (flat_map-append (λ it. it.backing) inside uses))
    (any_right (Backs principals p) (all_backing inside) (all_backing uses) some))

abbrev pub AreNeeded : PlannedShape → Declared → List StatementUse → Type 0
AreNeeded planned principals uses = AllByRecursion (IsNeeded planned principals) uses

pub own_backed : (planned : PlannedShape) (principals : Declared) (labelled : Labelled) (setting : MethodSetting)
    (block : BlockTree) → AreNeeded planned principals (block_uses labelled setting block) →
    AreBackedBy planned principals (all_backing (block_uses labelled setting block)) (statements_of block)
own_backed planned principals labelled setting done needed = tt
own_backed planned principals labelled setting (set_local heading x value rest) needed =
    one_backed planned principals (set_local heading x value done) (statements_of rest)
    (statement_use labelled setting heading.id (value ∷ []) [] (label_of labelled x ∷ []) [])
    (block_uses labelled setting rest) refl needed.0 (own_backed planned principals labelled setting rest needed.1)
own_backed planned principals labelled setting (set_field heading field value rest) needed =
    one_backed planned principals (set_field heading field value done) (statements_of rest)
    (statement_use labelled setting heading.id (value ∷ []) [] (field_label labelled.program field ∷ []) [])
    (block_uses labelled setting rest) refl needed.0 (own_backed planned principals labelled setting rest needed.1)
own_backed planned principals labelled setting (set_element heading field index value rest) needed =
    one_backed planned principals (set_element heading field index value done) (statements_of rest)
    (statement_use labelled setting heading.id (index ∷ value ∷ []) [] (field_label labelled.program field ∷ []) [])
    (block_uses labelled setting rest) refl needed.0 (own_backed planned principals labelled setting rest needed.1)
own_backed planned principals labelled setting (branch heading guard first second rest) needed =
    let inside = block_uses labelled setting first ++ block_uses labelled setting second in
    let others = block_uses labelled setting rest in
    one_backed planned principals (branch heading guard first second done) (statements_of rest)
    (statement_use labelled setting heading.id (guard ∷ []) [] [] (all_backing inside)) (inside ++ others) refl needed.0
    (past_inside planned principals inside others (statements_of rest)
    (own_backed planned principals labelled setting rest
    (all_second (IsNeeded planned principals) inside others needed.1)))
own_backed planned principals labelled setting (loop heading guard inner rest) needed =
    let inside = block_uses labelled setting inner in
    let others = block_uses labelled setting rest in
    one_backed planned principals (loop heading guard inner done) (statements_of rest)
    (statement_use labelled setting heading.id (guard ∷ []) [] [] (all_backing inside)) (inside ++ others) refl needed.0
    (past_inside planned principals inside others (statements_of rest)
    (own_backed planned principals labelled setting rest
    (all_second (IsNeeded planned principals) inside others needed.1)))
own_backed planned principals labelled setting (call heading site method arguments into rest) needed =
    let called = method_at labelled.program method in
    one_backed planned principals (call heading site method arguments into done) (statements_of rest)
    (statement_use labelled setting heading.id arguments (begin_label called ∷ kept_result labelled called into)
    (begin_label called ∷ map (label_of labelled) (params_of called) ++ labels_of labelled into) [])
    (block_uses labelled setting rest) refl needed.0 (own_backed planned principals labelled setting rest needed.1)
own_backed planned principals labelled setting (give_back heading value rest) needed =
    one_backed planned principals (give_back heading value done) (statements_of rest)
    (statement_use labelled setting heading.id (value ∷ []) [] (labels_of labelled setting.result) [])
    (block_uses labelled setting rest) refl needed.0 (own_backed planned principals labelled setting rest needed.1)

-- a host that is trusted for a statement is trusted for statements that ask for no more
due_where : (planned : PlannedShape) (principals : Declared) (host : HostId) (statement : StmtId)
    (backing own : List Backing) → IsNeed principals own (slice_index planned.needs.need statement.0) →
    is_trusted_for planned host statement ≡ true →
    ((p : ℕ) → p < READERS → Any (Backs principals p) backing → Any (Backs principals p) own) →
    (trees : List BlockTree) → AllByRecursion (IsOf planned.program) trees →
    AreBackedBy planned principals backing trees → AreDueOn planned host (map run trees)
due_where planned principals host statement backing own need trusted wider [] in_it backed = tt
due_where planned principals host statement backing own need trusted wider (tree ∷ trees) in_it backed = (
  (
    trusted_less planned host statement (number_of tree) trusted
        (λ p within set. (need.members p within).1 (wider p within (backed.0 p within set))),
    in_it.0,
  ),
  due_where planned principals host statement backing own need trusted wider trees in_it.1 backed.1,
)

-- ---- statements of the program

-- the statements of a block are among all that are in it
pub of_block : (P : BlockTree → Type 0) (block : BlockTree) → AllByRecursion P (all_statements block) →
    AllByRecursion P (statements_of block)
of_block P done all = tt
of_block P (set_local heading x value rest) all = (all.0, of_block P rest all.1)
of_block P (set_field heading field value rest) all = (all.0, of_block P rest all.1)
of_block P (set_element heading field index value rest) all = (all.0, of_block P rest all.1)
of_block P (branch heading guard first second rest) all = (
  all.0,
  of_block P rest (all_second P (all_statements second) (all_statements rest)
      (all_second P (all_statements first) (all_statements second ++ all_statements rest) all.1)),
)
of_block P (loop heading guard inner rest) all =
    (all.0, of_block P rest (all_second P (all_statements inner) (all_statements rest) all.1))
of_block P (call heading site method arguments into rest) all = (all.0, of_block P rest all.1)
of_block P (give_back heading value rest) all = (all.0, of_block P rest all.1)

any_more : (x : BlockTree) (others ys : List BlockTree) →
    AllByRecursion (λ y. Any (λ one. one ≡ y) others) ys → AllByRecursion (λ y. Any (λ one. one ≡ y) (x ∷ others)) ys
any_more x others [] all = tt
any_more x others (y ∷ ys) all = (any_later (λ one. one ≡ y) x others all.0, any_more x others ys all.1)

each_in : (xs : List BlockTree) → AllByRecursion (λ x. Any (λ one. one ≡ x) xs) xs
each_in [] = tt
each_in (x ∷ xs) = (any_here (λ one. one ≡ x) x xs refl, any_more x xs xs (each_in xs))

of_program : (program : ProgramTree) (number : MethodId) (method : MethodTree) → method_at program number ≡ Some
    method → (xs : List BlockTree) → AllByRecursion (λ x. Any (λ one. one ≡ x) (all_statements method.body)) xs →
    AllByRecursion (IsOf program) xs
of_program program number method is [] all = tt
of_program program number method is (x ∷ xs) all =
    let P : Option MethodTree → Type 0 = λ found. IsSomeAnd found (λ tree. Any (λ one. one ≡ x) (all_statements
    tree.body)) in
    ((number, subst P (sym is) all.0), of_program program number method is xs all.1)

of_method : (program : ProgramTree) (number : MethodId) (method : MethodTree) → method_at program number ≡ Some method →
    (xs : List BlockTree) → AllByRecursion (λ x. Any (λ one. one ≡ x) (all_statements method.body)) xs →
    AllByRecursion (IsStatementOfMethod program number) xs
of_method program number method is [] all = tt
of_method program number method is (x ∷ xs) all =
    let P : Option MethodTree → Type 0 = λ found. IsSomeAnd found (λ tree. Any (λ one. one ≡ x) (all_statements
    tree.body)) in
    (subst P (sym is) all.0, of_method program number method is xs all.1)

-- all that is in the body of a method is in the method
pub body_of_method : (program : ProgramTree) (number : MethodId) (method : MethodTree) →
    method_at program number ≡ Some method →
    AllByRecursion (IsStatementOfMethod program number) (all_statements method.body)
body_of_method program number method is =
    of_method program number method is (all_statements method.body) (each_in (all_statements method.body))

-- all that is in the body of a method is of the program
pub body_of_program : (program : ProgramTree) (number : MethodId) (method : MethodTree) →
    method_at program number ≡ Some method → AllByRecursion (IsOf program) (all_statements method.body)
body_of_program program number method is =
    of_program program number method is (all_statements method.body) (each_in (all_statements method.body))

-- ---- methods

-- what is asked for the body of a method is asked for by its begin label
abbrev pub AreBodiesBacked : PlannedShape → Declared → Labelled → Type 0
AreBodiesBacked planned principals labelled =
    (place : ℕ) (method : MethodTree) → slice_get labelled.program.methods place ≡ Some method →
    AreBackedBy planned principals (for_label method.begin ∷ []) (statements_of method.body)

-- the host of a call is trusted for the body of the method
called_due : (planned : PlannedShape) (principals : Declared) (labelled : Labelled) →
    labelled.program ≡ planned.program → AreBodiesBacked planned principals labelled → (host : HostId) (statement :
    StmtId) (called : MethodId) (others : List Backing) →
    IsNeed principals (for_label (begin_label (method_at labelled.program called)) ∷ others)
    (slice_index planned.needs.need statement.0) → is_trusted_for planned host statement ≡ true →
    AreDueOn planned host (all_due (body_of (method_at labelled.program called)))
called_due planned principals labelled same bodies host statement called others need trusted =
    by (method_at labelled.program called) refl need
  where
    by : (found : Option MethodTree) → method_at labelled.program called ≡ found →
        IsNeed principals (for_label (begin_label found) ∷ others) (slice_index planned.needs.need statement.0) →
        AreDueOn planned host (all_due (body_of (method_at labelled.program called)))
    by None is own = rw is tt
    by (Some method) is own =
        rw is (due_where planned principals host statement (for_label method.begin ∷ [])
        (for_label method.begin ∷ others) own trusted
        (λ p within some. any_left (Backs principals p) (for_label method.begin ∷ []) others some)
        (statements_of method.body)
        (of_block (IsOf planned.program) method.body (body_of_program planned.program called method
        (ap (λ (p : ProgramTree). method_at p called) (sym same) ∙ is))) (bodies called.0 method is))

-- ---- trust in what statements start

block_trusted : (planned : PlannedShape) (principals : Declared) (labelled : Labelled) (setting : MethodSetting) →
    labelled.program ≡ planned.program → AreBodiesBacked planned principals labelled → (block : BlockTree) →
    AllByRecursion (IsOf planned.program) (all_statements block) →
    AreNeeded planned principals (block_uses labelled setting block) → AreTrusted planned block
block_trusted planned principals labelled setting same bodies done in_it needed = tt
block_trusted planned principals labelled setting same bodies (set_local heading x value rest) in_it needed =
    (needed.0.trusted, block_trusted planned principals labelled setting same bodies rest in_it.1 needed.1)
block_trusted planned principals labelled setting same bodies (set_field heading field value rest) in_it needed =
    (needed.0.trusted, block_trusted planned principals labelled setting same bodies rest in_it.1 needed.1)
block_trusted planned principals labelled setting same bodies (set_element heading field index value rest) in_it
    needed =
    (needed.0.trusted, block_trusted planned principals labelled setting same bodies rest in_it.1 needed.1)
block_trusted planned principals labelled setting same bodies (branch heading guard first second rest) in_it needed =
    let Q = IsOf planned.program in
    let after_first = all_second Q (all_statements first) (all_statements second ++ all_statements rest) in_it.1 in
    let in_first = all_first Q (all_statements first) (all_statements second ++ all_statements rest) in_it.1 in
    let in_second = all_first Q (all_statements second) (all_statements rest) after_first in
    let in_rest = all_second Q (all_statements second) (all_statements rest) after_first in
    let one = block_uses labelled setting first in
    let two = block_uses labelled setting second in
    let inside = all_first (IsNeeded planned principals) (one ++ two) (block_uses labelled setting rest) needed.1 in
    let one_needed = all_first (IsNeeded planned principals) one two inside in
    let two_needed = all_second (IsNeeded planned principals) one two inside in
    let host = statement_host planned.plan heading.id in
    let own : List Backing = for_releases setting (guard ∷ []) in
    let split : (p : ℕ) → all_backing (one ++ two) ≡ all_backing one ++ all_backing two =
    λ p. flat_map-append (λ it. it.backing) one two in
    let P : ℕ → List Backing → Type 0 = λ p list. Any (Backs principals p) list in (
      needed.0.trusted,
      due_where planned principals host heading.id (all_backing one) (own ++ all_backing (one ++ two)) needed.0.need
          needed.0.trusted
          (λ p within some. any_right (Backs principals p) own (all_backing (one ++ two))
          (subst (P p) (sym (split p)) (any_left (Backs principals p) (all_backing one) (all_backing two) some)))
          (statements_of first) (of_block Q first in_first) (own_backed planned principals labelled setting first
          one_needed),
      due_where planned principals host heading.id (all_backing two) (own ++ all_backing (one ++ two)) needed.0.need
          needed.0.trusted
          (λ p within some. any_right (Backs principals p) own (all_backing (one ++ two))
          (subst (P p) (sym (split p)) (any_right (Backs principals p) (all_backing one) (all_backing two) some)))
          (statements_of second) (of_block Q second in_second) (own_backed planned principals labelled setting second
          two_needed),
      block_trusted planned principals labelled setting same bodies first in_first one_needed,
      block_trusted planned principals labelled setting same bodies second in_second two_needed,
      block_trusted planned principals labelled setting same bodies rest in_rest
          (all_second (IsNeeded planned principals) (one ++ two) (block_uses labelled setting rest) needed.1),
    )
block_trusted planned principals labelled setting same bodies (loop heading guard inner rest) in_it needed =
    let Q = IsOf planned.program in
    let in_inner = all_first Q (all_statements inner) (all_statements rest) in_it.1 in
    let in_rest = all_second Q (all_statements inner) (all_statements rest) in_it.1 in
    let one = block_uses labelled setting inner in
    let one_needed = all_first (IsNeeded planned principals) one (block_uses labelled setting rest) needed.1 in
    let own : List Backing = for_releases setting (guard ∷ []) in (
      needed.0.trusted,
      due_where planned principals (statement_host planned.plan heading.id) heading.id (all_backing one)
          (own ++ all_backing one) needed.0.need needed.0.trusted
          (λ p within some. any_right (Backs principals p) own (all_backing one) some)
          (statements_of inner) (of_block Q inner in_inner) (own_backed planned principals labelled setting inner
          one_needed),
      block_trusted planned principals labelled setting same bodies inner in_inner one_needed,
      block_trusted planned principals labelled setting same bodies rest in_rest
          (all_second (IsNeeded planned principals) one (block_uses labelled setting rest) needed.1),
    )
block_trusted planned principals labelled setting same bodies (call heading site method arguments into rest) in_it
    needed =
    let called = method_at labelled.program method in
    let P : ProgramTree → Type 0 = λ program.
    IsTrustedInside planned heading.id (body_of (method_at program method)) in (
      needed.0.trusted,
      subst P same (called_due planned principals labelled same bodies (statement_host planned.plan heading.id)
          heading.id method _ needed.0.need needed.0.trusted),
      block_trusted planned principals labelled setting same bodies rest in_it.1 needed.1,
    )
block_trusted planned principals labelled setting same bodies (give_back heading value rest) in_it needed =
    (needed.0.trusted, block_trusted planned principals labelled setting same bodies rest in_it.1 needed.1)

-- ---- methods

pub methods_stay : (principals : Declared) (program : ProgramTree) (labels : VariableLabels)
    (methods : List MethodTree) →
    Stay labels (labels_after_methods principals program labels methods)
methods_stay principals program labels [] = stay_same labels
methods_stay principals program labels (method ∷ methods) =
    let setting = setting_of principals program method in
    let after = labels_after setting method.begin labels method.body in
    stay_then labels after (labels_after_methods principals program after methods)
    (block_stays setting method.begin labels method.body) (methods_stay principals program after methods)

-- by its begin label, for the body of each method
bodies_backed : (labelled : Labelled) (planned : PlannedShape) (principals : Declared) (final : VariableLabels) →
    AreFinal labelled final → (number : ℕ) (methods : List MethodTree) (labels : VariableLabels) →
    length labels ≡ length labelled.program.vars →
    labels_after_methods principals labelled.program labels methods ≡ final →
    AreMethodsIn labelled.program number methods →
    AreLabelledMethods principals labelled.program labels methods →
    AreMet principals (methods_labels principals labelled.program labels methods) →
    AreNeeded planned principals (flat_map (method_uses principals labelled) methods) → (place : ℕ)
    (method : MethodTree) → slice_get methods place ≡ Some method →
    AreBackedBy planned principals (for_label method.begin ∷ []) (statements_of method.body)
bodies_backed labelled planned principals final are number [] labels many end there labelled_there met needed place
    method
    is = absurd (nothing_there place method is)
bodies_backed labelled planned principals final are number (first ∷ methods) labels many end there labelled_there met
    needed zero method is =
    let program = labelled.program in
    let setting = setting_of principals program first in
    let after = labels_after setting first.begin labels first.body in
    let own = labelled_there.0 in
    let uses = block_uses labelled setting first.body in
    let stay = subst (Stay after) end (methods_stay principals program after methods) in
    let own_met = all_first (λ (it : StatementLabels). AllByRecursion (Holds principals) it.constraints)
    (block_labels setting first.begin labels first.body)
    (methods_labels principals program after methods) met.1 in
    let own_needed = all_first (IsNeeded planned principals) uses
    (flat_map (method_uses principals labelled) methods) needed.1 in
    let under : IsUnder principals first.begin first.begin first.authority =
    record { over = own.begins; members = own.authority; down = λ p within trusts. trusts } in
    let backed = block_backed labelled principals (record { 0 = number }) (is_some first.result) setting refl refl
    first.begin first.begin under labels final are many first.body stay there.0.body own.labelled own_met in
    let same : first ≡ method = cc in
    let P : MethodTree → Type 0 = λ it. AreBackedBy planned principals (for_label it.begin ∷ [])
    (statements_of it.body) in
    subst P same (backed_more planned principals (all_backing uses) (for_label first.begin ∷ [])
    (statements_of first.body) (own_backed planned principals labelled setting first.body own_needed)
    (λ p within some. any_here (Backs principals p) (for_label first.begin) [] (backed p within some)))
bodies_backed labelled planned principals final are number (first ∷ methods) labels many end there labelled_there met
    needed (suc place) method is =
    let program = labelled.program in
    let setting = setting_of principals program first in
    let after = labels_after setting first.begin labels first.body in
    bodies_backed labelled planned principals final are (suc number) methods after
    ((block_stays setting first.begin labels first.body).many ∙ many) end there.1 labelled_there.1
    (all_second (λ (it : StatementLabels). AllByRecursion (Holds principals) it.constraints)
    (block_labels setting first.begin labels first.body) (methods_labels principals program after methods) met.1)
    (all_second (IsNeeded planned principals) (block_uses labelled setting first.body)
    (flat_map (method_uses principals labelled) methods) needed.1) place method is

-- whoever is trusted for a method's head is trusted for its body, and needs no less
head_covers : (planned : PlannedShape) (principals : Declared) (method : MethodTree) (trees : List BlockTree) →
    IsNeed principals (for_label method.begin ∷ []) (slice_index planned.needs.need method.head.0) →
    AreBackedBy planned principals (for_label method.begin ∷ []) trees →
    Covers planned (need_of planned (method.head ∷ [])) (map run trees)
head_covers planned principals method [] need backed = tt
head_covers planned principals method (tree ∷ trees) need backed = (
  λ p within.
      let word = slice_index planned.needs.need method.head.0 in
      let own = slice_index planned.needs.need (number_of tree).0 in
      let both = bit_at_or word 0 p in
      let less = bits_in_order (bit_at own p) (bit_at word p) (is_bit own p)
      (λ set. (need.members p within).1 (backed.0 p within set)) in
      omega arith,
  head_covers planned principals method trees need backed.1,
)

methods_typable : (labelled : Labelled) (planned : PlannedShape) (principals : Declared) →
    labelled.program ≡ planned.program → AreBodiesBacked planned principals labelled → (labels : VariableLabels)
    (methods : List MethodTree) → AreLabelledMethods principals labelled.program labels methods →
    AreNeeded planned principals (flat_map (method_uses principals labelled) methods) →
    ((place : ℕ) (method : MethodTree) → slice_get methods place ≡ Some method →
    AreBackedBy planned principals (for_label method.begin ∷ []) (statements_of method.body)) →
    ((place : ℕ) (method : MethodTree) → slice_get methods place ≡ Some method →
    AllByRecursion (IsOf planned.program) (all_statements method.body)) →
    AllByRecursion (IsTypableMethod planned) methods
methods_typable labelled planned principals same bodies labels [] labelled_there needed backed in_it = tt
methods_typable labelled planned principals same bodies labels (method ∷ methods) labelled_there needed backed in_it =
    let setting = setting_of principals labelled.program method in
    let uses = block_uses labelled setting method.body in
    let others = flat_map (method_uses principals labelled) methods in
    let own = backed 0 method refl in
    let head = needed.0 in (
      record {
        returns = labelled_there.0.returns;
        trusted = block_trusted planned principals labelled setting same bodies method.body (in_it 0 method refl)
            (all_first (IsNeeded planned principals) uses others needed.1);
        home = due_where planned principals (statement_host planned.plan method.head) method.head
            (for_label method.begin ∷ []) (for_label method.begin ∷ []) head.need head.trusted
            (λ p within some. some) (statements_of method.body)
            (of_block (IsOf planned.program) method.body (in_it 0 method refl)) own;
        covers = head_covers planned principals method (statements_of method.body) head.need own;
      },
      methods_typable labelled planned principals same bodies
          (labels_after setting method.begin labels method.body) methods labelled_there.1
          (all_second (IsNeeded planned principals) uses others needed.1)
          (λ place one there. backed (suc place) one there) (λ place one there. in_it (suc place) one there),
    )

-- ---- programs

pub allowed_needed : (placed : PlacedProgram) →
    IsAllowed placed →
    AreNeeded (planned_from placed) placed.hosts.principals (statement_uses placed.hosts.principals placed.labelled)
allowed_needed placed allowed =
    each_there (IsNeeded (planned_from placed) placed.hosts.principals)
    (statement_uses placed.hosts.principals placed.labelled) (use_needed placed allowed)

pub allowed_bodies : (placed : PlacedProgram) →
    IsAllowed placed →
    AreBodiesBacked (planned_from placed) placed.hosts.principals placed.labelled
allowed_bodies placed allowed =
    let principals = placed.hosts.principals in
    let program = placed.labelled.program in
    let declared = declared_labels program in
    let final = labels_after_methods principals program declared program.methods in
    let met = met_from principals (program_labels principals program)
    (by_recursion (Meets principals) (obligations_of (program_labels principals program)) allowed.well_labelled) in
    bodies_backed placed.labelled (planned_from placed) principals final allowed.var_labels 0 program.methods
    declared (length-map program.vars (λ variable. variable.label)) refl allowed.numbered.methods allowed.methods met
    (allowed_needed placed allowed)

pub allowed_typable : (placed : PlacedProgram) →
    IsAllowed placed → IsTypable (planned_from placed)
allowed_typable placed allowed =
    let planned = planned_from placed in
    let program = placed.labelled.program in
    let bodies = allowed_bodies placed allowed in
    record {
      methods = methods_typable placed.labelled planned placed.hosts.principals refl bodies (declared_labels program)
          program.methods
          allowed.methods (allowed_needed placed allowed) bodies
          (λ place method is. body_of_program program (record { 0 = place }) method is);
    }
