-- What the statements of a program need of the hosts that run them, what its reads tell, and who reads its variables,
-- as sets over the statements of the tree. The rules are this project's own, in the manner of the secure program
-- partitioning of Zdancewic, Zheng, Nystrom and Myers.
--
-- Needs are a relation. What a statement tells is a value, the join of a list of labels. Who has to trust its host is a
-- word that has exactly the principals of a set: in that set are those for whom an authority acts, and labels have no
-- value for these. Laws say that a program has one row of needs.
use Rattle.std.specs.Prelude.{◌≡◌, ◌↔◌, ℕ, ◌<◌, ◌^◌, Bool, true, false, ◌||◌, nat_eq}
use Rattle.std.specs.Prelude.{List, [], ◌∷◌, ◌++◌, map, filter, length, Option, Some, None, All, Any}
use Rattle.std.specs.Int.{bit_at}
use Rattle.std.specs.List.{AllZip, range_with_len, fold, flat_map, list_any}
use Rattle.js_base.specs.declared.bits.TheConstants.{WORD_BITS}
use Rattle.js_base.specs.declared.ids.FieldId.{FieldId}
use Rattle.js_base.specs.declared.ids.VarId.{VarId}
use Rattle.js_base.specs.declared.ids.StmtId.{StmtId}
use Rattle.js_base.specs.declared.ids.PrincipalId.{PrincipalId}
use Rattle.principals.specs.ActsFor.{Declared, ActsFor}
use Rattle.label_lattice.specs.declared.label.Label.{Label}
use Rattle.label_lattice.specs.declared.label.TheConstants.{READERS}
use Rattle.label_lattice.specs.Label.{Trusts}
use Rattle.label_lattice.specs.Lattice.{bottom_of, join_of}
use Rattle.jif_tree.specs.Trees.{ExprTree, number, local, scalar, element, inverted, negated, binary, declassified}
use Rattle.jif_tree.specs.Trees.{endorsed, BlockTree, done, set_local, set_field, set_element, branch, loop}
use Rattle.jif_tree.specs.Trees.{call, give_back, MethodTree, ProgramTree}
use Rattle.jif_tree.specs.LabelRules.{MethodSetting, setting_of, part_labels, expr_label, variable_label, field_label}
use Rattle.jif_tree.specs.LabelRules.{method_at, begin_label, params_of, result_of}
use Rattle.need_labels.specs.Labelled.{Labelled, pc_of, all_labels}

-- ---- what is in an expression

-- whether a value is released in it
abbrev pub releases : ExprTree → Bool
releases (number value) = false
releases (local x) = false
releases (scalar field) = false
releases (element field index) = releases index
releases (inverted operand) = releases operand
releases (negated operand) = releases operand
releases (binary operator left right) = releases left || releases right
releases (declassified operand label) = true
releases (endorsed operand label) = releases operand

-- the variables that it reads, from the left
abbrev pub variables_in : ExprTree → List VarId
variables_in (number value) = []
variables_in (local x) = x ∷ []
variables_in (scalar field) = []
variables_in (element field index) = variables_in index
variables_in (inverted operand) = variables_in operand
variables_in (negated operand) = variables_in operand
variables_in (binary operator left right) = variables_in left ++ variables_in right
variables_in (declassified operand label) = variables_in operand
variables_in (endorsed operand label) = variables_in operand

-- what a read tells the host that holds the field
pub record Telling : Type 0 where
  pub field : FieldId
  pub label : Label

-- What its reads tell, inner before outer and from the left. Whoever answers a read learns that the program came there,
-- and of an array which element is asked for.
abbrev pub tellings_in : MethodSetting → Labelled → Label → ExprTree → List Telling
tellings_in setting labelled pc (number value) = []
tellings_in setting labelled pc (local x) = []
tellings_in setting labelled pc (scalar field) = record { field = field; label = pc } ∷ []
tellings_in setting labelled pc (element field index) =
    tellings_in setting labelled pc index
    ++ record { field = field; label = pc }
    ∷ record { field = field; label = expr_label setting pc (all_labels labelled) index } ∷ []
tellings_in setting labelled pc (inverted operand) = tellings_in setting labelled pc operand
tellings_in setting labelled pc (negated operand) = tellings_in setting labelled pc operand
tellings_in setting labelled pc (binary operator left right) =
    tellings_in setting labelled pc left ++ tellings_in setting labelled pc right
tellings_in setting labelled pc (declassified operand label) = tellings_in setting labelled pc operand
tellings_in setting labelled pc (endorsed operand label) = tellings_in setting labelled pc operand

-- ---- statements

-- for whom the host of a statement has to be trusted
pub data Backing : Type 0 where
  -- by all who trust a label: what is changed has it
  for_label : Label → Backing
  -- by all whom these principals act for: a value is released by their authority
  for_release : List PrincipalId → Backing

abbrev pub Backs : Declared → ℕ → Backing → Type 0
Backs principals principal (for_label label) = Trusts label principal
Backs principals principal (for_release authority) = Any (λ member. ActsFor principals member.0 principal) authority

-- a statement, or the head of a method
pub record StatementUse : Type 0 where
  pub id : StmtId
  -- what its execution tells its host: its confidentiality may flow to the host's
  pub used : Label
  -- those who have to trust its host, each part for a cause
  pub backing : List Backing
  -- what the reads of its own expressions tell
  pub tellings : List Telling
  -- the variables that its own expressions read
  pub reads : List VarId

abbrev pub for_releases : MethodSetting → List ExprTree → List Backing
for_releases setting exprs = released (list_any releases exprs)
  where
    released : Bool → List Backing
    released true = for_release setting.authority ∷ []
    released false = []

-- A statement with these expressions of its own, that also tells some labels, changes what has some labels, and has
-- statements in it with this backing.
abbrev pub statement_use : Labelled → MethodSetting → StmtId → List ExprTree → List Label → List Label → List Backing →
    StatementUse
statement_use labelled setting id exprs told changed nested =
    let pc = pc_of labelled id in
    record {
      id = id;
      used = fold join_of pc (flat_map (part_labels setting pc (all_labels labelled)) exprs ++ told);
      backing = map for_label changed ++ for_releases setting exprs ++ nested;
      tellings = flat_map (tellings_in setting labelled pc) exprs;
      reads = flat_map variables_in exprs;
    }

abbrev pub label_of : Labelled → VarId → Label
label_of labelled x = variable_label (all_labels labelled) x

abbrev pub labels_of : Labelled → Option VarId → List Label
labels_of labelled None = []
labels_of labelled (Some x) = label_of labelled x ∷ []

-- the label of a method's result, where a call keeps it
abbrev pub kept_result : Labelled → Option MethodTree → Option VarId → List Label
kept_result labelled called None = []
kept_result labelled called (Some into) = labels_of labelled (result_of called)

abbrev pub all_backing : List StatementUse → List Backing
all_backing uses = flat_map (λ one. one.backing) uses

-- The statements of a block and of the blocks in it, in the order of the text. The host of a branch or a loop is
-- trusted for all statements in it, since it decides whether they run.
abbrev pub block_uses : Labelled → MethodSetting → BlockTree → List StatementUse
block_uses labelled setting done = []
block_uses labelled setting (set_local heading x value rest) =
    statement_use labelled setting heading.id (value ∷ []) [] (label_of labelled x ∷ []) []
    ∷ block_uses labelled setting rest
block_uses labelled setting (set_field heading field value rest) =
    statement_use labelled setting heading.id (value ∷ []) [] (field_label labelled.program field ∷ []) []
    ∷ block_uses labelled setting rest
block_uses labelled setting (set_element heading field index value rest) =
    statement_use labelled setting heading.id (index ∷ value ∷ []) [] (field_label labelled.program field ∷ []) []
    ∷ block_uses labelled setting rest
block_uses labelled setting (branch heading guard first second rest) =
    let inside = block_uses labelled setting first ++ block_uses labelled setting second in
    statement_use labelled setting heading.id (guard ∷ []) [] [] (all_backing inside)
    ∷ inside ++ block_uses labelled setting rest
block_uses labelled setting (loop heading guard body rest) =
    let inside = block_uses labelled setting body in
    statement_use labelled setting heading.id (guard ∷ []) [] [] (all_backing inside)
    ∷ inside ++ block_uses labelled setting rest
block_uses labelled setting (call heading site method arguments into rest) =
    let called = method_at labelled.program method in
    statement_use labelled setting heading.id arguments
    (begin_label called ∷ kept_result labelled called into)
    (begin_label called ∷ map (label_of labelled) (params_of called) ++ labels_of labelled into) []
    ∷ block_uses labelled setting rest
block_uses labelled setting (give_back heading value rest) =
    statement_use labelled setting heading.id (value ∷ []) [] (labels_of labelled setting.result) []
    ∷ block_uses labelled setting rest

-- a method's head, and then its statements; the head stands for the begin label
abbrev pub method_uses : Declared → Labelled → MethodTree → List StatementUse
method_uses principals labelled method =
    record {
      id = method.head;
      used = method.begin;
      backing = for_label method.begin ∷ [];
      tellings = [];
      reads = [];
    } ∷ block_uses labelled (setting_of principals labelled.program method) method.body

-- the statements of a program, by their numbers
abbrev pub statement_uses : Declared → Labelled → List StatementUse
statement_uses principals labelled = flat_map (method_uses principals labelled) labelled.program.methods

-- ---- needs

-- what is needed of hosts
pub record NeedsShape : Type 0 where
  -- by statement, what its execution tells
  pub used : List Label
  -- by statement, a word with a bit for each principal that has to trust its host
  pub need : List ℕ
  -- by field, what its reads tell
  pub loc : List Label
  -- by variable, the statements whose own expressions read it, in the order of the text
  pub readers : List (List StmtId)

-- a word with a bit for each principal that backs
pub record IsNeed (principals : Declared) (backing : List Backing) (need : ℕ) : Type 0 where
  pub word : need < 2 ^ WORD_BITS
  pub members : (principal : ℕ) → principal < READERS →
      ((bit_at need principal ≡ 1) ↔ Any (Backs principals principal) backing)

-- the join of all that is told to the holder of a field
abbrev pub told_of : Declared → List Telling → ℕ → Label
told_of principals tellings field =
    fold join_of (bottom_of principals) (map (λ telling. telling.label)
    (filter (λ telling. nat_eq telling.field.0 field) tellings))

-- the statements that read a variable, each once
abbrev pub readers_of : List StatementUse → ℕ → List StmtId
readers_of uses x = map (λ one. one.id) (filter (λ one. list_any (λ read. nat_eq read.0 x) one.reads) uses)

-- these are the needs of the program
pub record AreNeedsOf (principals : Declared) (labelled : Labelled) (needs : NeedsShape) : Type 0 where
  pub used : needs.used ≡ map (λ one. one.used) (statement_uses principals labelled)
  pub need : AllZip (λ one word. IsNeed principals one.backing word) (statement_uses principals labelled) needs.need
  pub loc : needs.loc ≡ map (told_of principals (flat_map (λ one. one.tellings) (statement_uses principals labelled)))
      (range_with_len 0 (length labelled.program.fields))
  pub readers : needs.readers ≡ map (readers_of (statement_uses principals labelled))
      (range_with_len 0 (length labelled.program.vars))

-- by whose authority a method releases and endorses is declared
abbrev pub AreAuthoritiesDeclared : Declared → ProgramTree → Type 0
AreAuthoritiesDeclared principals program =
    All (λ method. All (λ member. member.0 < length principals.names) method.authority) program.methods
