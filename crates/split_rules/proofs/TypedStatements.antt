-- What a statement does on its host takes it from what is due, and leaves all else that is due.
use Rattle.std.proofs.Common.{◌≡◌, ◌∙◌, ℕ, true, List, [], ◌∷◌, ◌++◌, refl, ap, sym, subst, append-nil}
use Rattle.std.specs.Prelude.{Option, Some}
use Rattle.js_base.specs.declared.ids.HostId.{HostId}
use Rattle.js_base.specs.declared.ids.FieldId.{FieldId}
use Rattle.js_base.specs.declared.ids.VarId.{VarId}
use Rattle.js_base.specs.declared.ids.MethodId.{MethodId}
use Rattle.jif_tree.specs.Trees.{ExprTree, Heading, BlockTree, done, set_local, set_field, set_element, give_back}
use Rattle.jif_tree.specs.LabelRules.{method_at, result_of}
use Rattle.host_code.specs.declared.instruction.Op.TheVariants as op
use Rattle.msg_cost.specs.Moves.{PlannedShape}
use Rattle.split_rules.specs.Emissions.{Emission}
use Rattle.split_rules.specs.Expressions.{reads_in, nodes_of, first_element, released_by}
use Rattle.split_rules.specs.Walk.{expr_emissions, send_emissions, releasing}
use Rattle.split_rules.specs.Positions.{IsStatementOfMethod, DueWork, run, statement_due, is_on, Level, body, FieldRead}
use Rattle.split_rules.specs.Positions.{field_reads}
use Rattle.split_rules.specs.Positions.{own_reads, Forward, Position, calm, with_reads, with_forwards, forwards_of}
use Rattle.split_rules.specs.Positions.{Entrance}
use Rattle.split_rules.specs.Typing.{AreDueOn, WalkKnown, here, Types, AreTyped}
use Rattle.split_rules.proofs.TypedStates.{known_at, typed_on}
use Rattle.split_rules.proofs.TypedValues.{reads_many, IsDueOn, Site, expr_typed}
use Rattle.split_rules.proofs.TypedForwards.{out_behind, send_typed}

abbrev pub calm_at : Site → Level → List DueWork → List Entrance → List Position → WalkKnown
calm_at site level due entries branches = known_at (here site.me (calm level due)) entries branches

-- the same where something is still out, which rides
abbrev pub riding_at : Site → Level → List DueWork → List Forward → List Entrance → List Position → WalkKnown
riding_at site level due out entries branches =
    known_at (here site.me (with_forwards (calm level due) out)) entries branches

-- a statement is due on its host, with others behind it
abbrev pub due_on : (planned : PlannedShape) (site : Site) (level : Level) (statement : BlockTree)
    (others : List DueWork) →
    is_on planned site.me statement ≡ true → AreDueOn planned site.me (run statement ∷ others) →
    IsDueOn planned site.me (calm level (run statement ∷ others))
due_on planned site level statement others on_host trusted =
    record { trusted = (trusted, tt); first = run statement; others = others; due = refl; on_host = on_host }

-- a statement reads its expression, and what it does then
abbrev pub behind_reads : Site → Level → List DueWork → List FieldRead → List Entrance → List Position → WalkKnown
behind_reads site level due reads entries branches =
    known_at (here site.me (with_reads (calm level due) reads)) entries branches

pub reads_then : (planned : PlannedShape) (site : Site) (level : Level) (due : List DueWork) →
    (on_due : IsDueOn planned site.me (calm level due)) → (entries : List Entrance) (branches : List Position)
    (value : ExprTree) →
    own_reads (statement_due on_due.first) ≡ field_reads value → (others : List Emission) (last : WalkKnown) →
    AreTyped planned (behind_reads site level due (field_reads value) entries branches) others last →
    AreTyped planned (calm_at site level due entries branches)
    (expr_emissions site.me site.label site.id 0 value ++ others) last
reads_then planned site level due on_due entries branches value is others last follows =
    typed_on planned (calm_at site level due entries branches) (expr_emissions site.me site.label site.id 0 value)
    others
    (behind_reads site level due (field_reads value) entries branches) last
    (expr_typed planned site (calm level due) on_due entries branches [] value []
    (is ∙ sym (append-nil (field_reads value)))) follows

-- one instruction behind which the host goes on
pub one_typed : (planned : PlannedShape) (known : WalkKnown) (x : Emission) (middle : WalkKnown) (xs : List Emission)
    (last : WalkKnown) → Types planned known x middle → AreTyped planned middle xs last →
    AreTyped planned known (x ∷ xs) last
one_typed planned known x middle xs last one others = (middle, one, others)

pub set_local_typed : (planned : PlannedShape) (site : Site) (level : Level) (heading : Heading) (x : VarId)
    (value : ExprTree) (carried : Option HostId) (others : List DueWork) →
    is_on planned site.me (set_local heading x value done) ≡ true →
    AreDueOn planned site.me (run (set_local heading x value done) ∷ others) →
    (entries : List Entrance) (branches : List Position) →
    AreTyped planned (calm_at site level (run (set_local heading x value done) ∷ others) entries branches)
    (expr_emissions site.me site.label site.id 0 value
    ++ releasing site.me site.label site.id (op.Let x (nodes_of 0 value)) (released_by 0 value)
    ∷ send_emissions planned site.me site.label site.id x carried)
    (riding_at site level others (out_behind planned site.me (set_local heading x value done) x carried) entries
    branches)
set_local_typed planned site level heading x value carried others on_host trusted entries branches =
    let statement = set_local heading x value done in
    let due = run statement ∷ others in
    let next = with_forwards (calm level others) (forwards_of planned site.me statement x) in
    reads_then planned site level due (due_on planned site level statement others on_host trusted) entries branches
    value
    refl _ _ (
      known_at (here site.me next) entries branches,
      (
        with_reads (calm level due) (field_reads value),
        refl,
        (trusted, tt),
        (
          next,
          (
            run statement,
            others,
            record { due = refl; on_host = on_host; forwards = refl },
            refl,
            (refl, record { reads = refl; are = refl }),
            refl,
          ),
          refl,
        ),
      ),
      send_typed planned site (calm level others) refl refl trusted.1 entries branches statement x
          (record { on_host = on_host; trusted = trusted.0.0; is_of = trusted.0.1; gives = refl }) carried,
    )

pub set_field_typed : (planned : PlannedShape) (site : Site) (level : Level) (heading : Heading) (field : FieldId)
    (value : ExprTree) (others : List DueWork) → is_on planned site.me (set_field heading field value done) ≡ true →
    AreDueOn planned site.me (run (set_field heading field value done) ∷ others) →
    (entries : List Entrance) (branches : List Position) →
    AreTyped planned (calm_at site level (run (set_field heading field value done) ∷ others) entries branches)
    (expr_emissions site.me site.label site.id 0 value
    ++ releasing site.me site.label site.id (op.Put field first_element (nodes_of 0 value)) (released_by 0 value) ∷ [])
    (calm_at site level others entries branches)
set_field_typed planned site level heading field value others on_host trusted entries branches =
    let statement = set_field heading field value done in
    let due = run statement ∷ others in
    reads_then planned site level due (due_on planned site level statement others on_host trusted) entries branches
    value
    refl _ _ (
      calm_at site level others entries branches,
      (
        with_reads (calm level due) (field_reads value),
        refl,
        (trusted, tt),
        (
          calm level others,
          (
            run statement,
            others,
            record { due = refl; on_host = on_host; forwards = refl },
            refl,
            (refl, refl, record { reads = refl; are = refl }),
            refl,
          ),
          refl,
        ),
      ),
      refl,
    )

pub set_element_typed : (planned : PlannedShape) (site : Site) (level : Level) (heading : Heading) (field : FieldId)
    (index value : ExprTree) (others : List DueWork) →
    is_on planned site.me (set_element heading field index value done) ≡ true →
    AreDueOn planned site.me (run (set_element heading field index value done) ∷ others) →
    (entries : List Entrance) (branches : List Position) →
    AreTyped planned (calm_at site level (run (set_element heading field index value done) ∷ others) entries branches)
    (expr_emissions site.me site.label site.id 0 index
    ++ expr_emissions site.me site.label site.id (reads_in index) value
    ++ releasing site.me site.label site.id (op.Put field (nodes_of 0 index) (nodes_of (reads_in index) value))
    (released_by 0 index ++ released_by (reads_in index) value) ∷ [])
    (calm_at site level others entries branches)
set_element_typed planned site level heading field index value others on_host trusted entries branches =
    let statement = set_element heading field index value done in
    let due = run statement ∷ others in
    let on_due = due_on planned site level statement others on_host trusted in
    let first = calm_at site level due entries branches in
    let middle = behind_reads site level due (field_reads index) entries branches in
    let one = expr_emissions site.me site.label site.id 0 index in
    let two = expr_emissions site.me site.label site.id (reads_in index) value in
    let all = with_reads (calm level due) (field_reads index ++ field_reads value) in
    let put = releasing site.me site.label site.id (op.Put field (nodes_of 0 index) (nodes_of (reads_in index) value))
    (released_by 0 index ++ released_by (reads_in index) value) in
    let P : ℕ → Type 0 = λ many. AreTyped planned middle (expr_emissions site.me site.label site.id many value)
    (known_at (here site.me all) entries branches) in
    typed_on planned first (one ++ two) (put ∷ []) (known_at (here site.me all) entries branches) _
    (typed_on planned first one two middle _ (expr_typed planned site (calm level due) on_due entries branches [] index
    (field_reads value) refl)
    (subst P (reads_many index)
    (expr_typed planned site (calm level due) on_due entries branches (field_reads index) value []
    (ap (λ reads. field_reads index ++ reads) (sym (append-nil (field_reads value))))))) (
      calm_at site level others entries branches,
      (
        all,
        refl,
        (trusted, tt),
        (
          calm level others,
          (
            run statement,
            others,
            record { due = refl; on_host = on_host; forwards = refl },
            refl,
            (refl, refl, refl, refl),
            refl,
          ),
          refl,
        ),
      ),
      refl,
    )

-- a result is given back, which ends what is due
pub give_back_typed : (planned : PlannedShape) (site : Site) (method : MethodId) (heading : Heading) (value : ExprTree)
    (result : VarId) → result_of (method_at planned.program method) ≡ Some result →
    IsStatementOfMethod planned.program method (give_back heading value done) →
    is_on planned site.me (give_back heading value done) ≡ true →
    AreDueOn planned site.me (run (give_back heading value done) ∷ []) →
    (entries : List Entrance) (branches : List Position) →
    AreTyped planned (calm_at site (body method) (run (give_back heading value done) ∷ []) entries branches)
    (expr_emissions site.me site.label site.id 0 value
    ++ releasing site.me site.label site.id (op.Ret result (nodes_of 0 value)) (released_by 0 value) ∷ [])
    (calm_at site (body method) [] entries branches)
give_back_typed planned site method heading value result is in_it on_host trusted entries branches =
    let statement = give_back heading value done in
    let due = run statement ∷ [] in
    reads_then planned site (body method) due (due_on planned site (body method) statement [] on_host trusted) entries
    branches
    value refl _ _ (
      calm_at site (body method) [] entries branches,
      (
        with_reads (calm (body method) due) (field_reads value),
        refl,
        (trusted, tt),
        (
          calm (body method) [],
          (
            run statement,
            method,
            record { due = refl; on_host = on_host; forwards = refl },
            refl,
            record { reads = refl; are = refl },
            refl,
            is,
            refl,
            in_it,
          ),
          refl,
        ),
      ),
      refl,
    )
