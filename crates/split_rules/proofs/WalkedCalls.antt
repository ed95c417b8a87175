-- What a walk gives for a statement on the host where it stands: it goes on there, and nothing more is owed behind it.
use Rattle.std.proofs.Common.{◌≡◌, ℕ, suc, zero, ◌+◌, ◌<◌, ◌≤◌, true, false}
use Rattle.std.proofs.Common.{List, [], ◌∷◌, ◌++◌, length, refl, sym, subst, arith}
use Rattle.std.proofs.lemmas.List.Elements.{All-nil, All-cons}
use Rattle.std.proofs.lemmas.Option.{slice_get_within}
use Rattle.std.specs.Prelude.{Option, Some, None, slice_get}
use Rattle.std.specs.List.{AllByRecursion}
use Rattle.js_base.specs.declared.ids.HostId.{HostId}
use Rattle.js_base.specs.declared.ids.FieldId.{FieldId}
use Rattle.js_base.specs.declared.ids.VarId.{VarId}
use Rattle.js_base.specs.declared.ids.MethodId.{MethodId}
use Rattle.js_base.specs.declared.ids.SiteId.{SiteId}
use Rattle.js_base.specs.declared.ids.StmtId.{StmtId}
use Rattle.label_lattice.specs.declared.label.Label.{Label}
use Rattle.jif_tree.specs.Trees.{ExprTree, MethodTree, ProgramTree}
use Rattle.jif_tree.specs.WellNumbered.{HasField, HasVariable, HasOptionalVariable, HasMethod, IsExprIn, IsMethodIn}
use Rattle.jif_tree.specs.WellNumbered.{is_some}
use Rattle.host_code.specs.declared.code_expr.Node.TheVariants as node
use Rattle.host_code.specs.declared.instruction.Op.TheVariants as op
use Rattle.host_code.specs.declared.riders.TheConstants.{MOST_RIDERS}
use Rattle.host_code.specs.Code.{host_of_site}
use Rattle.msg_cost.specs.Moves.{PlannedShape, home_of}
use Rattle.split_rules.specs.Emissions.{Emission, stands}
use Rattle.split_rules.specs.Expressions.{reads_in, nodes_of, first_element, released_by}
use Rattle.split_rules.specs.Flow.{Scope, at, Pending, State, NodeFitsScope, IsVariableInScope, FlowGoes}
use Rattle.split_rules.specs.Walk.{Walked, expr_emissions, send_emissions, pass_emissions, argument_emissions}
use Rattle.split_rules.specs.Walk.{kept_emissions, called_emissions, call_emissions, riding_params, result_emissions}
use Rattle.split_rules.specs.Walk.{entry_id, releasing}
use Rattle.split_rules.proofs.WalkedStates.{state_of, goes_on, Reaches}
use Rattle.split_rules.proofs.WalkedExpressions.{IsScopeOf, field_there, variable_there, nodes_fit, own_nodes_fit}
use Rattle.split_rules.proofs.WalkedExpressions.{first_fits, expr_goes, send_goes, pass_goes}
use Rattle.split_rules.proofs.WalkedMoves.{no_halt, entry_there, counts_at}
use Rattle.split_rules.proofs.WalkedRiders.{CanRideTo, params_fit, call_goes_with}

-- what a program has that is walked under a plan
pub record IsWalkable (scope : Scope) (program : ProgramTree) (planned : PlannedShape) : Type 0 where
  pub scoped : IsScopeOf scope program planned
  pub methods : (place : ℕ) (tree : MethodTree) → slice_get program.methods place ≡ Some tree →
      IsMethodIn program (record { 0 = place }) tree
  pub few : (place : ℕ) (tree : MethodTree) → slice_get program.methods place ≡ Some tree →
      length tree.params ≤ MOST_RIDERS

-- ---- the entries of methods

-- The entries so far have one for the end of the program, and one for each method.
pub record AreNamed (program : ProgramTree) (planned : PlannedShape) (named : List HostId) : Type 0 where
  pub some : 0 < length named
  pub methods : (place : ℕ) (tree : MethodTree) → slice_get program.methods place ≡ Some tree →
      slice_get named (suc place) ≡ Some (home_of planned tree)

pub nothing_there : {X : Type 0} (place : ℕ) (x : X) → slice_get [] place ≡ Some x → ⊥
nothing_there place x is = let within = slice_get_within [] place x is in omega arith

pub still_there : {X : Type 0} (xs ys : List X) (place : ℕ) (x : X) → slice_get xs place ≡ Some x →
    slice_get (xs ++ ys) place ≡ Some x
still_there [] ys place x is = absurd (nothing_there place x is)
still_there (first ∷ xs) ys zero x is = is
still_there (first ∷ xs) ys (suc place) x is = still_there xs ys place x is

longer : (named more : List HostId) → 0 < length named → 0 < length (named ++ more)
longer (host ∷ named) more some = omega arith
longer [] more some = absurd (omega arith)

pub named_more : (program : ProgramTree) (planned : PlannedShape) (named : List HostId) →
    AreNamed program planned named → (more : List HostId) → AreNamed program planned (named ++ more)
named_more program planned named there more = record {
  some = longer named more there.some;
  methods = λ place tree is. still_there named more (suc place) (home_of planned tree) (there.methods place tree is);
}

-- ---- assignments

abbrev pub GoesOnAt : Scope → HostId → List HostId → ℕ → List Pending → List Pending → List Emission → Type 0
GoesOnAt scope host named branches owed opened emissions =
    FlowGoes scope (state_of (at host 0) named branches owed opened) emissions
    (state_of (at host 0) named branches owed opened)

pub set_local_goes : (scope : Scope) (program : ProgramTree) (planned : PlannedShape) →
    IsScopeOf scope program planned → (method : MethodId) (x : VarId) (value : ExprTree) →
    HasVariable program method x → IsExprIn program method value → (host : HostId) (label : Label) (id : StmtId)
    (carried : Option HostId) (named : List HostId) (branches : ℕ) (owed opened : List Pending) →
    GoesOnAt scope host named branches owed opened (expr_emissions host label id 0 value
    ++ releasing host label id (op.Let x (nodes_of 0 value))
    (released_by 0 value) ∷ send_emissions planned host label id x carried)
set_local_goes scope program planned scoped method x value there value_there host label id carried named branches owed
    opened =
    let variable = variable_there scope program planned scoped method x there in
    goes_on scope (state_of (at host 0) named branches owed opened) (expr_emissions host label id 0 value)
    (releasing host label id (op.Let x (nodes_of 0 value))
    (released_by 0 value) ∷ send_emissions planned host label id x carried)
    (state_of (at host (0 + reads_in value)) named branches owed opened) _
    (expr_goes scope program planned scoped method value value_there host label id named branches owed opened 0) (
      (refl, (variable, own_nodes_fit scope program planned scoped method value value_there 0)),
      send_goes scope program planned scoped host label id x carried variable named branches owed opened 0,
    )

pub set_field_goes : (scope : Scope) (program : ProgramTree) (planned : PlannedShape) →
    IsScopeOf scope program planned → (method : MethodId) (field : FieldId) (value : ExprTree) →
    HasField program false field → IsExprIn program method value → (host : HostId) (label : Label) (id : StmtId)
    (named : List HostId) (branches : ℕ) (owed opened : List Pending) →
    GoesOnAt scope host named branches owed opened (expr_emissions host label id 0 value
    ++ releasing host label id (op.Put field first_element (nodes_of 0 value)) (released_by 0 value) ∷ [])
set_field_goes scope program planned scoped method field value there value_there host label id named branches owed
    opened =
    goes_on scope (state_of (at host 0) named branches owed opened) (expr_emissions host label id 0 value)
    (releasing host label id (op.Put field first_element (nodes_of 0 value)) (released_by 0 value) ∷ [])
    (state_of (at host (0 + reads_in value)) named branches owed opened) _
    (expr_goes scope program planned scoped method value value_there host label id named branches owed opened 0) (
      (
        refl,
        (
          field_there scope program planned scoped false field there,
          first_fits scope (0 + reads_in value),
          own_nodes_fit scope program planned scoped method value value_there 0,
        ),
      ),
      refl,
    )

pub set_element_goes : (scope : Scope) (program : ProgramTree) (planned : PlannedShape) →
    IsScopeOf scope program planned → (method : MethodId) (field : FieldId) (index value : ExprTree) →
    HasField program true field → IsExprIn program method index → IsExprIn program method value → (host : HostId)
    (label : Label) (id : StmtId) (named : List HostId) (branches : ℕ) (owed opened : List Pending) →
    GoesOnAt scope host named branches owed opened (expr_emissions host label id 0 index
    ++ expr_emissions host label id (reads_in index) value
    ++ releasing host label id (op.Put field (nodes_of 0 index) (nodes_of (reads_in index) value))
    (released_by 0 index ++ released_by (reads_in index) value) ∷ [])
set_element_goes scope program planned scoped method field index value there index_there value_there host label id
    named branches owed opened =
    let first = state_of (at host 0) named branches owed opened in
    let reads = expr_emissions host label id 0 index in
    let more = expr_emissions host label id (reads_in index) value in
    let P : ℕ → Type 0 = λ count. FlowGoes scope first reads (state_of (at host count) named branches owed opened) in
    let none : 0 + reads_in index ≡ reads_in index = omega arith in
    goes_on scope first (reads ++ more)
    (releasing host label id (op.Put field (nodes_of 0 index) (nodes_of (reads_in index) value))
    (released_by 0 index ++ released_by (reads_in index) value) ∷ [])
    (state_of (at host (reads_in index + reads_in value)) named branches owed opened) _
    (goes_on scope first reads more (state_of (at host (reads_in index)) named branches owed opened) _
    (subst P none
    (expr_goes scope program planned scoped method index index_there host label id named branches owed opened 0))
    (expr_goes scope program planned scoped method value value_there host label id named branches owed opened
    (reads_in index))) (
      (
        refl,
        (
          field_there scope program planned scoped true field there,
          nodes_fit scope program planned scoped method index index_there 0 (reads_in index + reads_in value)
              (omega arith),
          own_nodes_fit scope program planned scoped method value value_there (reads_in index),
        ),
      ),
      refl,
    )

-- ---- results

pub give_back_goes : (scope : Scope) (walked : Walked) →
    IsScopeOf scope walked.labelled.program walked.planned → (method : MethodId) (value : ExprTree) →
    IsExprIn walked.labelled.program method value →
    HasOptionalVariable walked.labelled.program method walked.setting.result →
    is_some walked.setting.result ≡ true → (host : HostId) (label : Label) (id : StmtId) (named : List HostId)
    (branches : ℕ) (owed opened : List Pending) →
    GoesOnAt scope host named branches owed opened (expr_emissions host label id 0 value
    ++ result_emissions walked host label id value)
give_back_goes scope walked scoped method value value_there there gives host label id named branches owed opened =
    by walked.setting.result refl there gives
  where
    program : ProgramTree
    program = walked.labelled.program

    by : (result : Option VarId) → walked.setting.result ≡ result →
        HasOptionalVariable walked.labelled.program method result → is_some result ≡ true →
        GoesOnAt scope host named branches owed opened (expr_emissions host label id 0 value
        ++ result_emissions walked host label id value)
    by None is variable some = absurd (not_so some)
      where
        not_so : false ≡ true → ⊥
        not_so same = cc
    by (Some result) is variable some =
        rw is (goes_on scope (state_of (at host 0) named branches owed opened) (expr_emissions host label id 0 value)
        (releasing host label id (op.Ret result (nodes_of 0 value)) (released_by 0 value) ∷ [])
        (state_of (at host (0 + reads_in value)) named branches owed opened) _
        (expr_goes scope program walked.planned scoped method value value_there host label id named branches owed
        opened 0) (
          (
            refl,
            (
              variable_there scope program walked.planned scoped method result variable,
              own_nodes_fit scope program walked.planned scoped method value value_there 0,
            ),
          ),
          refl,
        ))

-- ---- calls

variables_there : (scope : Scope) (program : ProgramTree) (planned : PlannedShape) → IsScopeOf scope program planned →
    (method : MethodId) (variables : List VarId) → AllByRecursion (HasVariable program method) variables →
    AllByRecursion (IsVariableInScope scope) variables
variables_there scope program planned scoped method [] all = tt
variables_there scope program planned scoped method (x ∷ variables) all = (
  variable_there scope program planned scoped method x all.0,
  variables_there scope program planned scoped method variables all.1,
)

arguments_go : (scope : Scope) (walked : Walked) → IsScopeOf scope walked.labelled.program walked.planned →
    (caller called : MethodId) (params : List VarId) (arguments : List ExprTree) →
    AllByRecursion (HasVariable walked.labelled.program called) params →
    AllByRecursion (IsExprIn walked.labelled.program caller) arguments → (host home : HostId) (label : Label)
    (id : StmtId) (named : List HostId) (branches : ℕ) (owed opened : List Pending) →
    GoesOnAt scope host named branches owed opened (argument_emissions walked host home label id params arguments)
arguments_go scope walked scoped caller called params [] variables values host home label id named branches owed
    opened =
    refl
arguments_go scope walked scoped caller called [] (argument ∷ others) variables values host home label id named branches
    owed opened = refl
arguments_go scope walked scoped caller called (param ∷ params) (argument ∷ others) variables values host home label id
    named branches owed opened =
    let program = walked.labelled.program in
    let planned = walked.planned in
    let here = state_of (at host 0) named branches owed opened in
    let reads = expr_emissions host label id 0 argument in
    let handed = releasing host label id (op.Arg param (nodes_of 0 argument)) (released_by 0 argument)
    ∷ pass_emissions planned host label id param (Some home) in
    let variable = variable_there scope program planned scoped called param variables.0 in
    goes_on scope here (reads ++ handed) (argument_emissions walked host home label id params others) here here
    (goes_on scope here reads handed (state_of (at host (0 + reads_in argument)) named branches owed opened) here
    (expr_goes scope program planned scoped caller argument values.0 host label id named branches owed opened 0) (
      (refl, (variable, own_nodes_fit scope program planned scoped caller argument values.0 0)),
      pass_goes scope program planned scoped host label id param (Some home) variable named branches owed opened 0,
    ))
    (arguments_go scope walked scoped caller called params others variables.1 values.1 host home label id named branches
    owed opened)

kept_goes : (scope : Scope) (walked : Walked) → IsScopeOf scope walked.labelled.program walked.planned →
    (caller called : MethodId) (result into : Option VarId) →
    HasOptionalVariable walked.labelled.program called result →
    HasOptionalVariable walked.labelled.program caller into → (host : HostId) (label : Label) (id : StmtId)
    (carried : Option HostId) (named : List HostId) (branches : ℕ) (owed opened : List Pending) →
    GoesOnAt scope host named branches owed opened (kept_emissions walked host label id result into carried)
kept_goes scope walked scoped caller called None None there into_there host label id carried named branches owed
    opened =
    refl
kept_goes scope walked scoped caller called None (Some into) there into_there host label id carried named branches owed
    opened =
    refl
kept_goes scope walked scoped caller called (Some result) None there into_there host label id carried named branches
    owed opened =
    refl
kept_goes scope walked scoped caller called (Some result) (Some into) there into_there host label id carried named
    branches owed opened =
    let program = walked.labelled.program in
    let planned = walked.planned in
    let variable = variable_there scope program planned scoped caller into into_there in (
      (
        refl,
        (
          variable,
          All-cons (NodeFitsScope scope 0) (node.Var result) []
              (variable_there scope program planned scoped called result there) (All-nil (NodeFitsScope scope 0)),
        ),
      ),
      send_goes scope program planned scoped host label id into carried variable named branches owed opened 0,
    )

pub call_goes : (scope : Scope) (walked : Walked) → IsWalkable scope walked.labelled.program walked.planned →
    (caller : MethodId) (site : SiteId) (called : MethodId) (arguments : List ExprTree) (into : Option VarId)
    (carried : Option HostId) (left : List StmtId) →
    HasMethod walked.labelled.program (length arguments) (is_some into) called →
    AllByRecursion (IsExprIn walked.labelled.program caller) arguments →
    HasOptionalVariable walked.labelled.program caller into → (host : HostId) (label : Label) (id : StmtId) →
    host.0 < scope.hosts → host_of_site scope.sites site.0 ≡ Some host → (named : List HostId) (branches : ℕ)
    (owed opened : List Pending) → AreNamed walked.labelled.program walked.planned named →
    Reaches scope (state_of (at host 0) named branches owed opened)
    (call_emissions walked (counts_at named branches) host label id site called arguments into carried left)
    (at host 0) owed opened
call_goes scope walked walkable caller site called arguments into carried left there values into_there host label id
    within
    site_there named branches owed opened are =
    subst P (sym there.1) (record {
      more = host ∷ [];
      branches = branches;
      goes = (
        within,
        (
          (refl, site_there),
          goes_on scope inside (argument_emissions walked host called_on label id tree.params arguments) _ inside _
              (arguments_go scope walked scoped caller called tree.params arguments method.params values host called_on
              label id (named ++ host ∷ []) branches (pending ∷ owed) opened) (
                (refl, entry_there named host [] (length named) refl are.some),
                call_goes_with scope host called_on label id (entry_id (suc called.0))
                    (riding_params walked.planned host called_on tree.params arguments) (named ++ host ∷ []) branches
                    (pending ∷ owed) opened rides (no_halt (suc called.0) (omega arith), home)
                    (scoped.statements tree.head) (stands host (length named)
                    ∷ kept_emissions walked host label id tree.result into carried)
                    (state_of (at host 0) (named ++ host ∷ []) branches owed opened) (
                      (refl, refl),
                      kept_goes scope walked scoped caller called tree.result into method.result into_there host label
                          id carried (named ++ host ∷ []) branches owed opened,
                    ),
              ),
        ),
      );
    })
  where
    scoped : IsScopeOf scope walked.labelled.program walked.planned
    scoped = walkable.scoped

    tree : MethodTree
    tree = there.0

    method : IsMethodIn walked.labelled.program called there.0
    method = walkable.methods called.0 there.0 there.1

    P : Option MethodTree → Type 0
    P it = Reaches scope (state_of (at host 0) named branches owed opened)
        (called_emissions walked (counts_at named branches) host label id site called it arguments into carried left)
        (at host 0) owed opened

    called_on : HostId
    called_on = home_of walked.planned there.0

    rides : CanRideTo scope host called_on (riding_params walked.planned host called_on tree.params arguments)
    rides = params_fit scope walked.planned host called_on tree.params arguments (scoped.statements tree.head)
        (variables_there scope walked.labelled.program walked.planned scoped called tree.params method.params)
        (walkable.few called.0 there.0 there.1)

    pending : Pending
    pending = record { host = host; number = length named }

    inside : State
    inside = state_of (at host 0) (named ++ host ∷ []) branches (pending ∷ owed) opened

    home : slice_get (named ++ host ∷ []) (suc called.0) ≡ Some (home_of walked.planned there.0)
    home = (named_more walked.labelled.program walked.planned named are (host ∷ [])).methods called.0 there.0 there.1
