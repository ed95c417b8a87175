-- The reads of an expression leave what it reads.
use Rattle.std.proofs.Common.{◌≡◌, ◌∙◌, ℕ, ◌+◌, true, List, [], ◌∷◌, ◌++◌, length, refl, ap, sym, subst}
use Rattle.std.proofs.Common.{append_assoc, append-nil, length-append}
use Rattle.std.proofs.lemmas.List.{map-append}
use Rattle.std.specs.Prelude.{pos}
use Rattle.js_base.specs.declared.ids.HostId.{HostId}
use Rattle.js_base.specs.declared.ids.FieldId.{FieldId}
use Rattle.js_base.specs.declared.ids.StmtId.{StmtId}
use Rattle.label_lattice.specs.declared.label.Label.{Label}
use Rattle.jif_tree.specs.Trees.{ExprTree, number, local, scalar, element, inverted, negated, binary, declassified}
use Rattle.jif_tree.specs.Trees.{endorsed}
use Rattle.host_code.specs.declared.code_expr.Node.{Node}
use Rattle.host_code.specs.declared.instruction.Op.TheVariants as op
use Rattle.msg_cost.specs.Moves.{PlannedShape}
use Rattle.split_rules.specs.Emissions.{Emission}
use Rattle.split_rules.specs.Expressions.{ElementReading, reads_in, nodes_of, readings_of, first_element, released_by}
use Rattle.split_rules.specs.Walk.{read_emissions, expr_emissions, releasing}
use Rattle.split_rules.specs.Positions.{DueWork, statement_due, is_on, FieldRead, field_reads, reads_due}
use Rattle.split_rules.specs.Positions.{Position, with_reads, Entrance}
use Rattle.split_rules.specs.Typing.{IsTrustedAt, here, AreTyped}
use Rattle.split_rules.proofs.TypedStates.{known_at, typed_on}

pub reads_many : (expr : ExprTree) → length (field_reads expr) ≡ reads_in expr
reads_many (number value) = refl
reads_many (local x) = refl
reads_many (scalar field) = refl
reads_many (element field index) = rw (length-append, reads_many index) refl
reads_many (inverted operand) = reads_many operand
reads_many (negated operand) = reads_many operand
reads_many (binary operator left right) = rw (length-append, reads_many left, reads_many right) refl
reads_many (declassified operand label) = reads_many operand
reads_many (endorsed operand label) = reads_many operand

-- a statement on a host is due first, and the host is trusted for all that is due
pub record IsDueOn (planned : PlannedShape) (me : HostId) (base : Position) : Type 0 where
  pub trusted : IsTrustedAt planned me base
  pub first : DueWork
  pub others : List DueWork
  pub due : base.due ≡ first ∷ others
  pub on_host : is_on planned me (statement_due first) ≡ true

-- where an instruction stands, for what it is made
pub record Site : Type 0 where
  pub me : HostId
  pub label : Label
  pub id : StmtId

abbrev reads_at : Site → List ElementReading → List Emission
reads_at site readings = read_emissions site.me site.label site.id readings

-- the position of reads behind some reads
abbrev pub ReadsFrom : PlannedShape → Site → Position → List Entrance → List Position → List FieldRead →
    List Emission → List FieldRead → Type 0
ReadsFrom planned site base entries branches before emissions behind =
    AreTyped planned (known_at (here site.me (with_reads base before)) entries branches) emissions
    (known_at (here site.me (with_reads base behind)) entries branches)

-- one read, of the element that is due next
one_read : (planned : PlannedShape) (site : Site) (base : Position) → (on_due : IsDueOn planned site.me base) →
    (entries : List Entrance) (branches : List Position) (inner : List FieldRead) (field : FieldId) (index : ExprTree)
    (nodes : List Node) (released : List (List Node)) (before : List FieldRead) → inner ≡ before ++ field_reads index →
    nodes ≡ nodes_of (length before) index → (after : List FieldRead) →
    reads_due base.calling (statement_due on_due.first) ≡ inner ++ record { field = field; index = index } ∷ after →
    ReadsFrom planned site base entries branches inner
    (reads_at site (record { field = field; index = nodes; released = released } ∷ []))
    (inner ++ record { field = field; index = index } ∷ [])
one_read planned site base on_due entries branches inner field index nodes released before inner_is are after is =
    let behind = with_reads base (inner ++ record { field = field; index = index } ∷ []) in (
      known_at (here site.me behind) entries branches,
      (
        with_reads base inner,
        refl,
        on_due.trusted,
        (
          behind,
          record {
            first = on_due.first;
            others = on_due.others;
            due = on_due.due;
            on_host = on_due.on_host;
            index = index;
            behind = after;
            due_next = is;
            before = before;
            reads = inner_is;
            are = are;
            goes = refl;
          },
          refl,
        ),
      ),
      refl,
    )

-- the reads of an expression are the next that are due
pub expr_typed : (planned : PlannedShape) (site : Site) (base : Position) → (on_due : IsDueOn planned site.me base) →
    (entries : List Entrance) (branches : List Position) (before : List FieldRead) (expr : ExprTree)
    (after : List FieldRead) →
    reads_due base.calling (statement_due on_due.first) ≡ before ++ (field_reads expr ++ after) →
    ReadsFrom planned site base entries branches before
    (expr_emissions site.me site.label site.id (length before) expr) (before ++ field_reads expr)
expr_typed planned site base on_due entries branches before (number value) after is =
    ap (λ reads. known_at (here site.me (with_reads base reads)) entries branches) (sym (append-nil before))
expr_typed planned site base on_due entries branches before (local x) after is =
    ap (λ reads. known_at (here site.me (with_reads base reads)) entries branches) (sym (append-nil before))
expr_typed planned site base on_due entries branches before (scalar field) after is =
    one_read planned site base on_due entries branches before field (number (pos 0)) first_element [] before
    (sym (append-nil before)) refl after is
expr_typed planned site base on_due entries branches before (element field index) after is =
    let first = length before in
    let inner = before ++ field_reads index in
    let last : FieldRead = record { field = field; index = index } in
    let middle = known_at (here site.me (with_reads base inner)) entries branches in
    let read : ElementReading =
    record { field = field; index = nodes_of first index; released = released_by first index } in
    let P : List Emission → Type 0 = λ emissions. ReadsFrom planned site base entries branches before emissions
    (before ++ (field_reads index ++ last ∷ [])) in
    let Q : List FieldRead → Type 0 = λ reads. AreTyped planned middle (reads_at site (read ∷ []))
    (known_at (here site.me (with_reads base reads)) entries branches) in
    let inner_is = is ∙ ap (λ reads. before ++ reads) (append_assoc (field_reads index) (last ∷ []) after) in
    let step : Q (inner ++ last ∷ []) = one_read planned site base on_due entries branches inner field index
    (nodes_of first index) (released_by first index) before refl refl after
    (inner_is ∙ sym (append_assoc before (field_reads index) (last ∷ after))) in
    subst P (sym (map-append (λ reading. releasing site.me site.label site.id (op.Read reading.field reading.index)
    reading.released)
    (readings_of first index) (read ∷ [])))
    (typed_on planned (known_at (here site.me (with_reads base before)) entries branches)
    (expr_emissions site.me site.label site.id first index) (reads_at site (read ∷ [])) middle _
    (expr_typed planned site base on_due entries branches before index (last ∷ after) inner_is)
    (subst Q (append_assoc before (field_reads index) (last ∷ [])) step))
expr_typed planned site base on_due entries branches before (inverted operand) after is =
    expr_typed planned site base on_due entries branches before operand after is
expr_typed planned site base on_due entries branches before (negated operand) after is =
    expr_typed planned site base on_due entries branches before operand after is
expr_typed planned site base on_due entries branches before (binary operator left right) after is =
    let first = length before in
    let inner = before ++ field_reads left in
    let middle = known_at (here site.me (with_reads base inner)) entries branches in
    let P : List Emission → Type 0 = λ emissions. ReadsFrom planned site base entries branches before emissions
    (before ++ (field_reads left ++ field_reads right)) in
    let Q : List FieldRead → Type 0 = λ reads. AreTyped planned middle
    (expr_emissions site.me site.label site.id (first + reads_in left) right)
    (known_at (here site.me (with_reads base reads)) entries branches) in
    let R : ℕ → Type 0 = λ count. AreTyped planned middle (expr_emissions site.me site.label site.id count right)
    (known_at (here site.me (with_reads base (inner ++ field_reads right))) entries branches) in
    let many : length inner ≡ first + reads_in left = rw (length-append, reads_many left) refl in
    let left_is = is ∙ ap (λ reads. before ++ reads) (append_assoc (field_reads left) (field_reads right) after) in
    subst P (sym (map-append (λ reading. releasing site.me site.label site.id (op.Read reading.field reading.index)
    reading.released)
    (readings_of first left) (readings_of (first + reads_in left) right)))
    (typed_on planned (known_at (here site.me (with_reads base before)) entries branches)
    (expr_emissions site.me site.label site.id first left)
    (expr_emissions site.me site.label site.id (first + reads_in left) right) middle _
    (expr_typed planned site base on_due entries branches before left (field_reads right ++ after) left_is)
    (subst Q (append_assoc before (field_reads left) (field_reads right))
    (subst R many (expr_typed planned site base on_due entries branches inner right after
    (left_is ∙ sym (append_assoc before (field_reads left) (field_reads right ++ after)))))))
expr_typed planned site base on_due entries branches before (declassified operand label) after is =
    expr_typed planned site base on_due entries branches before operand after is
expr_typed planned site base on_due entries branches before (endorsed operand label) after is =
    expr_typed planned site base on_due entries branches before operand after is
