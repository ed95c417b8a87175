-- What the instructions of a host make of what is still to be done, by the laws of their positions.
use Rattle.std.proofs.Common.{◌≡◌, ◌∙◌, ℕ, suc, ◌+◌, ◌<◌, ◌⊎◌, inl, inr, true, List, [], ◌∷◌, ◌++◌, map, length, Some}
use Rattle.std.proofs.Common.{refl, ap, sym, subst, arith, append-nil}
use Rattle.std.specs.Prelude.{ℤ, pos}
use Rattle.std.specs.List.{AllByRecursion}
use Rattle.js_base.specs.declared.ids.HostId.{HostId}
use Rattle.js_base.specs.declared.ids.FieldId.{FieldId}
use Rattle.js_base.specs.declared.ids.FrameId.{FrameId}
use Rattle.js_base.specs.declared.ids.VarId.{VarId}
use Rattle.jif_tree.specs.declared.program.Stmt.{Stmt}
use Rattle.jif_tree.specs.declared.program.StmtKind.{StmtKind}
use Rattle.jif_tree.specs.declared.program.StmtKind as kind
use Rattle.jif_tree.specs.declared.program.Expr.{Expr}
use Rattle.jif_tree.specs.LabelRules.{method_at, params_of}
use Rattle.jif_tree.specs.SourceRun as source
use Rattle.jif_tree.specs.SourceRun.{Configuration, executed, operands, calls_after}
use Rattle.jif_tree.specs.Store.{element_at, row_of, store_after_write}
use Rattle.jif_tree.specs.Trees as trees
use Rattle.jif_tree.specs.Trees.{ExprTree, number, local, scalar, element, inverted, negated, binary, declassified}
use Rattle.jif_tree.specs.Trees.{endorsed, Heading, BlockTree, done, set_local, set_field, set_element, branch, loop}
use Rattle.jif_tree.specs.Trees.{give_back, statement_tree, expr_tree, head_of}
use Rattle.ics_stack.specs.Stack.{top_token}
use Rattle.host_code.specs.declared.code_expr.Node.{Node}
use Rattle.host_code.specs.declared.code_expr.Node.TheVariants as node
use Rattle.host_code.specs.declared.instruction.Op.TheVariants as op
use Rattle.host_code.specs.Code.{CodeShape}
use Rattle.host_code.specs.Thread.{ThreadShape}
use Rattle.host_core.specs.Host.{with_temporary, after_step, after_clearing}
use Rattle.host_core.specs.Values.{value_of_nodes}
use Rattle.need_labels.specs.Needs.{variables_in}
use Rattle.need_labels.specs.Plan.{statement_host}
use Rattle.msg_cost.specs.Moves.{PlannedShape}
use Rattle.msg_cost.specs.Terms.{reads_on}
use Rattle.split_rules.specs.Expressions.{reads_in, nodes_of}
use Rattle.split_rules.specs.Positions as positions
use Rattle.split_rules.specs.Positions.{Position, DueWork, FieldRead, Argument, Calling, arguments_of, field_reads}
use Rattle.split_rules.specs.Positions.{own_reads, reads_due, number_of, statement_due, is_on, no_call, arguing}
use Rattle.split_rules.specs.Positions.{entering, with_reads, forwards_of, IsOut, without_forward}
use Rattle.split_rules.specs.Typing as typing
use Rattle.split_rules.specs.Typing.{Reads, Sets, Stores, IsValue, Follows}
use Rattle.split_rules.proofs.TypedValues.{reads_many}
use Rattle.net_world.proofs.Present.{same_id}
use Rattle.jif_tree.specs.Altered.{FieldIsAffected, VariableIsAffected, MayRead, MayGive, MayStep}
use Rattle.std.specs.List.{AllZip}
use Rattle.typed_steps.specs.Requests.{Does, SetsField}
use Rattle.typed_steps.specs.Values.{MayTree, MayHold}
use Rattle.typed_steps.proofs.Alike.{zip_last}
use Rattle.typed_steps.proofs.TreeValues.{MayBeRead, tree_may}
use Rattle.typed_steps.specs.Readers.{IsReadingHost, IsFit}
use Rattle.typed_steps.specs.Views.{Split, View, values_set, place_of, entries_of, with_out}
use Rattle.typed_steps.specs.Chains.{Duty, under, chain_due, FitsOver}
use Rattle.typed_steps.specs.Threads.{alone, IsLeft, item_of, to_run, IsReturn, IsCalling, IsAt, IsKeeping, NoneKept}
use Rattle.typed_steps.proofs.Owing.{front_of, plainly_behind, none_kept, stands_plainly}
use Rattle.typed_steps.proofs.TreeValues.{value_there}
use Rattle.typed_steps.proofs.Calls.{long_set}
use Rattle.typed_steps.proofs.Basics.{all_both, all_left, all_map, all_right, told_equal}

-- the next instruction
pub next_place : (split : Split) (host : HostId) (thread : ThreadShape) →
    place_of split host (thread.at + 1) ≡ place_of split host (suc thread.at)
next_place split host thread = ap (place_of split host) (omega arith)

-- ---- variables

-- a host that reads a variable has what may be read of it
abbrev pub Agrees : Split → Configuration → HostId → ℕ → (VarId → ℤ) → Type 0
Agrees split c host call variables = (x : VarId) → reads_on split.planned x host.0 ≡ true →
    MayRead (VariableIsAffected split.exposure x) (source.variable c.calls call x.0) (variables x)

pub read_there : (split : Split) (c : Configuration) (host : HostId) (call : ℕ) (variables : VarId → ℤ) →
    Agrees split c host call variables → (statement : BlockTree) → is_on split.planned host statement ≡ true →
    (e : ExprTree) → IsReadingHost split.planned (number_of statement) e →
    MayBeRead split.exposure (source.variable c.calls call) variables e
read_there split c host call variables agrees statement on_host e readers =
    let there = (statement_host split.planned.plan (number_of statement)).0 in
    let same : there ≡ host.0 = told_equal there host.0 on_host in
    all_map (λ x. reads_on split.planned x there ≡ true)
    (λ x. MayRead (VariableIsAffected split.exposure x) (source.variable c.calls call x.0) (variables x))
    (λ x reads. agrees x (subst (λ h. reads_on split.planned x h ≡ true) same reads)) (variables_in e) readers

-- what an index reads is read by its expression
reads_inside : (P : VarId → Type 0) (e : ExprTree) → AllByRecursion P (variables_in e) →
    AllByRecursion (λ read. AllByRecursion P (variables_in read.index)) (field_reads e)
reads_inside P (number value) all = tt
reads_inside P (local x) all = tt
reads_inside P (scalar field) all = (tt, tt)
reads_inside P (element field index) all =
    all_both (λ read. AllByRecursion P (variables_in read.index)) (field_reads index) _ (reads_inside P index all)
    (all, tt)
reads_inside P (inverted operand) all = reads_inside P operand all
reads_inside P (negated operand) all = reads_inside P operand all
reads_inside P (binary operator left right) all =
    all_both (λ read. AllByRecursion P (variables_in read.index)) (field_reads left) (field_reads right)
    (reads_inside P left (all_left P (variables_in left) (variables_in right) all))
    (reads_inside P right (all_right P (variables_in left) (variables_in right) all))
reads_inside P (declassified operand label) all = reads_inside P operand all
reads_inside P (endorsed operand label) all = reads_inside P operand all

index_readers : (code : CodeShape) (planned : PlannedShape) (statement : BlockTree) → IsFit code planned statement →
    AllByRecursion (λ read. IsReadingHost planned (number_of statement) read.index) (own_reads statement)
index_readers code planned done fit = tt
index_readers code planned (set_local heading x value rest) fit = reads_inside _ value fit.0
index_readers code planned (set_field heading field value rest) fit = reads_inside _ value fit.0
index_readers code planned (set_element heading field index value rest) fit =
    all_both _ (field_reads index) (field_reads value) (reads_inside _ index fit.0) (reads_inside _ value fit.1)
index_readers code planned (branch heading guard first second rest) fit = reads_inside _ guard fit.0
index_readers code planned (loop heading guard inner rest) fit = reads_inside _ guard fit.0
index_readers code planned (trees.call heading site method arguments into rest) fit = tt
index_readers code planned (give_back heading value rest) fit = reads_inside _ value fit.0

-- the arguments of parameters are those of the call
all_arguments : (P : ExprTree → Type 0) (params : List VarId) (values : List ExprTree) → AllByRecursion P values →
    AllByRecursion (λ (one : Argument). P one.value) (arguments_of params values)
all_arguments P params [] all = tt
all_arguments P [] (value ∷ values) all = tt
all_arguments P (param ∷ params) (value ∷ values) all = (all.0, all_arguments P params values all.1)

-- the statement of a call that is being made is fit
pub fit_call : (split : Split) (c : Configuration) (call : ℕ) (here : List DueWork) (rest : List Duty) (keeper : HostId)
    (statement : BlockTree) (others : List DueWork) → here ≡ positions.run statement ∷ others →
    IsLeft split c keeper (under call here ++ rest) → IsFit split.code split.planned statement
fit_call split c call here rest keeper statement others due left =
    elim (front_of split c keeper call here rest (positions.run statement) others due left) [
      | inl runs ↦
          subst (IsFit split.code split.planned) (sym (ap statement_due runs.is)) runs.fit
      | inr keeps ↦ absurd (let both = keeps.is in cc)
    ]

-- whoever reads what is to be read next reads its index
reads_known : (split : Split) (c : Configuration) (view : View) (host : HostId) (frame new_frame : FrameId) (call : ℕ)
    (here : List DueWork) (rest : List Duty) (calling : Calling) (first : DueWork) (others : List DueWork) → here
    ≡ first ∷ others →
    IsLeft split c view.keeper (under call here ++ rest) →
    IsCalling split c view.naming view.values view.sender host frame new_frame call here calling →
    AllByRecursion (λ read. IsReadingHost split.planned (number_of (statement_due first)) read.index)
    (reads_due calling (statement_due first))
reads_known split c view host frame new_frame call here rest no_call first others due left is =
    elim (front_of split c view.keeper call here rest first others due left) [
      | inl runs ↦
          subst (λ d. AllByRecursion (λ read. IsReadingHost split.planned (number_of (statement_due d)) read.index)
          (own_reads (statement_due d))) (sym runs.is)
          (index_readers split.code split.planned (alone runs.statement) runs.fit)
      | inr keeps ↦
          subst (λ d. AllByRecursion (λ read. IsReadingHost split.planned (number_of (statement_due d)) read.index)
          (own_reads (statement_due d))) (sym (keeps.is ∙ ap positions.keep keeps.keeping.is)) tt
    ]
reads_known split c view host frame new_frame call here rest (arguing statement set []) first others due left is = tt
reads_known split c view host frame new_frame call here rest (arguing statement set (next ∷ others_left)) first others
    due left is =
    let both : positions.run statement ∷ is.others ≡ first ∷ others = sym is.due_first ∙ due in
    let one : positions.run statement ≡ first = cc in
    let block = trees.call is.heading is.site is.method is.arguments is.into done in
    let fit : IsFit split.code split.planned block =
    subst (IsFit split.code split.planned) is.is
    (fit_call split c call here rest view.keeper statement is.others is.due_first left) in
    let readers = all_arguments (IsReadingHost split.planned is.heading.id) (params_of (method_at split.planned.program
    is.method)) is.arguments fit.0 in
    let parts = all_right (λ (a : Argument). IsReadingHost split.planned is.heading.id a.value) set (next ∷ others_left)
    (subst (AllByRecursion (λ (a : Argument). IsReadingHost split.planned is.heading.id a.value)) is.parts readers) in
    subst (λ d. AllByRecursion (λ read. IsReadingHost split.planned (number_of (statement_due d)) read.index)
    (field_reads next.value)) (ap positions.run (sym is.is) ∙ one)
    (reads_inside (λ x. reads_on split.planned x (statement_host split.planned.plan is.heading.id).0 ≡ true) next.value
    parts.0)
reads_known split c view host frame new_frame call here rest (entering statement) first others due left is = tt

-- the step of a statement whose operands give these values
pub stepped : (split : Split) (c now : Configuration) (call : ℕ) (statement : Stmt) (behind : List source.Item)
    (what : StmtKind) (values : List ℤ) → c.pending ≡ source.run call statement ∷ behind → statement.kind ≡ what →
    AllZip (MayGive split.exposure c call) (operands what) values →
    now ≡ executed split.program c call (source.run call statement) what values behind → Does split c now
stepped split c now call statement behind what values pending is all steps =
    subst (λ items. MayStep split.program split.exposure c items now) (sym pending) (
      values,
      subst (λ k. AllZip (MayGive split.exposure c call) (operands k) values) (sym is) all,
      steps ∙ ap (λ k. executed split.program c call (source.run call statement) k values behind) (sym is),
    )

-- ---- reads

pub read_at : (split : Split) (c : Configuration) (view : View) (host : HostId) (thread : ThreadShape)
    (variables : VarId → ℤ) (at : IsAt split c view host thread) → Agrees split c host at.call variables →
    (field : FieldId) (index : List Node) →
    Reads split.planned host (place_of split host thread.at) field index (place_of split host (suc thread.at)) →
    (value : ℤ) → MayRead (FieldIsAffected split.exposure field)
    (element_at (row_of c.store field.0) (value_of_nodes variables thread.temporaries index)) value →
    IsAt split c view host (with_temporary value (after_step thread))
read_at split c view host thread variables at agrees field index law value may =
    let here = place_of split host thread.at in
    let call = at.call in
    let values = source.variable c.calls call in
    let P = MayHold split.exposure c.store values in
    let own : FieldRead = record { field = field; index = law.index } in
    let known = reads_known split c view host thread.frame thread.new_frame call here.due (chain_due split view.chain)
    here.calling law.first law.others law.due at.left at.calling in
    let block = statement_due law.first in
    let readers = all_right (λ one. IsReadingHost split.planned (number_of block) one.index) here.reads
    (own ∷ law.behind)
    (subst (AllByRecursion (λ one. IsReadingHost split.planned (number_of block) one.index)) law.due_next known) in
    let read = read_there split c host call variables agrees block law.on_host law.index readers.0 in
    let goes : place_of split host (thread.at + 1) ≡ with_reads here (here.reads ++ own ∷ []) =
    next_place split host thread ∙ law.goes in
    let are : here.reads ≡ law.before ++ (field_reads law.index ++ []) =
    law.reads ∙ ap (λ list. law.before ++ list) (sym (append-nil (field_reads law.index))) in
    let place : MayTree split.exposure c.store values law.index (value_of_nodes variables thread.temporaries index) =
    subst (λ nodes. MayTree split.exposure c.store values law.index
    (value_of_nodes variables thread.temporaries nodes)) (sym law.are)
    (value_there split.exposure c.store values variables thread.temporaries here.reads law.before [] law.index
    (length law.before) read at.temporaries are refl) in
    record {
      call = call;
      made = at.made;
      held = at.held;
      left = subst (λ due. IsLeft split c view.keeper (under call due ++ chain_due split view.chain))
          (sym (ap (λ (p : Position). p.due) goes)) at.left;
      fits = subst (λ (p : Position). FitsOver split view.naming p.level call view.chain) (sym goes) at.fits;
      calling = subst (λ (p : Position). IsCalling split c view.naming view.values view.sender host thread.frame
          thread.new_frame call p.due p.calling) (sym goes) at.calling;
      forwards = ap (λ (p : Position). p.forwards) goes ∙ at.forwards;
      settled = at.settled;
      temporaries = subst (λ (p : Position). AllZip P p.reads (thread.temporaries ++ value ∷ [])) (sym goes)
          (zip_last P here.reads thread.temporaries own value at.temporaries
          (value_of_nodes variables thread.temporaries index, place, may));
    }

-- no temporaries where nothing was read
pub no_temporaries : (split : Split) (c : Configuration) (call : ℕ) (here : Position) → here.reads ≡ [] →
    AllZip (MayHold split.exposure c.store (source.variable c.calls call)) here.reads []
no_temporaries split c call here none =
    subst (λ reads. AllZip (MayHold split.exposure c.store (source.variable c.calls call)) reads []) (sym none) tt

-- the thread behind an instruction that drops its temporaries
pub cleared : (split : Split) (after : Configuration) (view : View) (host : HostId) (thread : ThreadShape)
    (next : Position) (call : ℕ) → call < length after.calls → thread.held ≡ top_token (entries_of view.chain) →
    IsLeft split after view.keeper (under call next.due ++ chain_due split view.chain) →
    FitsOver split view.naming next.level call view.chain →
    IsCalling split after view.naming view.values view.sender host thread.frame thread.new_frame call next.due
    next.calling →
    next.forwards ≡ view.out → (view.out ≡ []) ⊎ NoneKept after → next.reads ≡ [] → (at : ℕ) →
    place_of split host at ≡ next → IsAt split after view host (record thread { at = at; temporaries = [] })
cleared split after view host thread next call made held left fits calling forwards settled reads at is = record {
  call = call;
  made = made;
  held = held;
  left = subst (λ (p : Position). IsLeft split after view.keeper (under call p.due ++ chain_due split view.chain))
      (sym is) left;
  fits = subst (λ (p : Position). FitsOver split view.naming p.level call view.chain) (sym is) fits;
  calling = subst (λ (p : Position). IsCalling split after view.naming view.values view.sender host thread.frame
      thread.new_frame call p.due p.calling) (sym is) calling;
  forwards = ap (λ (p : Position). p.forwards) is ∙ forwards;
  settled = settled;
  temporaries = no_temporaries split after call (place_of split host at)
      (ap (λ (p : Position). p.reads) is ∙ reads);
}

-- what the nodes of an expression give, over temporaries among which is what it reads
given_value : (split : Split) (c : Configuration) (call : ℕ) (variables : VarId → ℤ) (temporaries : List ℤ)
    (reads before behind : List FieldRead) (first : ℕ) (value : Expr) (nodes : List Node) →
    MayBeRead split.exposure (source.variable c.calls call) variables (expr_tree value) →
    AllZip (MayHold split.exposure c.store (source.variable c.calls call)) reads temporaries →
    reads ≡ before ++ (field_reads (expr_tree value) ++ behind) → first ≡ length before →
    nodes ≡ nodes_of first (expr_tree value) →
    MayGive split.exposure c call value (value_of_nodes variables temporaries nodes)
given_value split c call variables temporaries reads before behind first value nodes read holds are at is =
    subst (λ list. MayGive split.exposure c call value (value_of_nodes variables temporaries list)) (sym is)
    (tree_may split.exposure c call value _ (value_there split.exposure c.store (source.variable c.calls call) variables
    temporaries reads before behind (expr_tree value) first read holds are at))

-- the same where nothing else was read
pub only_value : (split : Split) (c : Configuration) (call : ℕ) (variables : VarId → ℤ) (temporaries : List ℤ)
    (here : Position) (value : Expr) (nodes : List Node) →
    MayBeRead split.exposure (source.variable c.calls call) variables (expr_tree value) →
    AllZip (MayHold split.exposure c.store (source.variable c.calls call)) here.reads temporaries →
    IsValue here (expr_tree value) nodes →
    MayGive split.exposure c call value (value_of_nodes variables temporaries nodes)
only_value split c call variables temporaries here value nodes read holds is =
    given_value split c call variables temporaries here.reads [] [] 0 value nodes read holds
    (is.reads ∙ sym (append-nil (field_reads (expr_tree value)))) refl is.are

-- ---- assignments to locals

record AssignsLocal (split : Split) (c : Configuration) (call : ℕ) (variables : VarId → ℤ) (here : Position)
    (what : StmtKind) (x : VarId) (nodes : List Node) : Type 0 where
  value : Expr
  is : what ≡ kind.Let x value
  is_value : IsValue here (expr_tree value) nodes
  read : MayBeRead split.exposure (source.variable c.calls call) variables (expr_tree value)

assigns_local : (split : Split) (c : Configuration) (host : HostId) (call : ℕ) (variables : VarId → ℤ) →
    Agrees split c host call variables → (here : Position) (what : StmtKind) (heading : Heading) (x : VarId)
    (nodes : List Node) → is_on split.planned host (statement_tree what heading done) ≡ true →
    IsFit split.code split.planned (statement_tree what heading done) →
    Sets split.planned here (positions.run (statement_tree what heading done)) x nodes →
    AssignsLocal split c call variables here what x nodes
assigns_local split c host call variables agrees here (kind.Let y value) heading x nodes on_host fit sets = record {
  value = value;
  is = ap (λ z. kind.Let z value) sets.0;
  is_value = sets.1;
  read = read_there split c host call variables agrees (set_local heading y (expr_tree value) done) on_host
      (expr_tree value) fit.0;
}
assigns_local split c host call variables agrees here _ heading x nodes on_host fit sets = absurd sets

-- what the setting of a variable leaves to be seen
abbrev pub after_setting : Split → View → HostId → BlockTree → ℕ → VarId → ℤ → View
after_setting split view host from call x value = record view {
  out = view.out ++ forwards_of split.planned host from x;
  sender = call;
  values = values_set view.values call x.0 value;
}

-- a variable of the call is set, and the thread goes on
pub record SetsLocal (split : Split) (c : Configuration) (view : View) (host : HostId) (thread : ThreadShape)
    (x : VarId) (value : ℤ) : Type 0 where
  pub now : Configuration
  pub does : Does split c now
  pub none_out : view.out ≡ []
  pub store : now.store ≡ c.store
  pub call : ℕ
  pub made : call < length c.calls
  pub frame : thread.frame ≡ view.naming.frame call
  pub calls : now.calls ≡ calls_after c.calls call x.0 value
  pub plainly : NoneKept now
  pub from : BlockTree
  pub at : IsAt split now (after_setting split view host from call x value) host (after_clearing thread)

-- what a result is that is to be kept
record KeepsLocal (split : Split) (here : Position) (x : VarId) (nodes : List Node) (into result : VarId) : Type 0 where
  into_is : into ≡ x
  nodes_are : nodes ≡ node.Var result ∷ []

keeps_local : (split : Split) (here : Position) (x : VarId) (nodes : List Node) (statement : Stmt)
    (into result : VarId) → IsKeeping split statement into result →
    Sets split.planned here (positions.keep (alone statement)) x nodes → KeepsLocal split here x nodes into result
keeps_local split here x nodes statement into result keeping sets =
    let heading : Heading = head_of statement in
    let own : Sets split.planned here
    (positions.keep (trees.call heading keeping.site keeping.method keeping.arguments (Some into) done)) x nodes =
    subst (λ block. Sets split.planned here (positions.keep block) x nodes) keeping.is sets in
    let both : Some own.0 ≡ Some result = sym own.1 ∙ keeping.result_is in
    let same : own.0 ≡ result = cc in
    let target : Some into ≡ Some x = own.2 in
    record {
      into_is = cc;
      nodes_are = own.4 ∙ ap (λ y. node.Var y ∷ []) same;
    }

-- the host where a result stands is that of the statement
same_host : (split : Split) (one other : HostId) (statement : BlockTree) → is_on split.planned one statement ≡ true →
    is_on split.planned other statement ≡ true → one ≡ other
same_host split one other statement first second =
    let there = (statement_host split.planned.plan (number_of statement)).0 in
    same_id one other (sym (told_equal there one.0 first) ∙ told_equal there other.0 second)

pub let_at : (split : Split) (c : Configuration) (view : View) (host : HostId) (thread : ThreadShape)
    (variables : VarId → ℤ) (at : IsAt split c view host thread) → Agrees split c host at.call variables →
    ((into result : VarId) (behind : List source.Item) → view.keeper ≡ host →
    c.pending ≡ source.keep at.call into result ∷ behind →
    MayRead (VariableIsAffected split.exposure result) (source.variable c.calls at.call result.0) (variables result)) →
    (x : VarId) (nodes : List Node) →
    Follows split.planned split.table.entries host (place_of split host thread.at) (op.Let x nodes)
    (place_of split host (suc thread.at)) →
    SetsLocal split c view host thread x (value_of_nodes variables thread.temporaries nodes)
let_at split c view host thread variables at agrees kept x nodes law =
    let here = place_of split host thread.at in
    let call = at.call in
    let given = value_of_nodes variables thread.temporaries nodes in
    let calling = subst (IsCalling split c view.naming view.values view.sender host thread.frame thread.new_frame call
    here.due) law.3 at.calling in
    let calls = calls_after c.calls call x.0 given in
    let from = statement_due law.0 in
    let long : length calls ≡ length c.calls = long_set c.calls call x.0 given at.made in
    let sets = λ (now : Configuration) (does : Does split c now) (store : now.store ≡ c.store)
    (set : now.calls ≡ calls) (left : IsLeft split now view.keeper (under call law.1 ++ chain_due split view.chain))
    (plainly : NoneKept now).
    let many : length now.calls ≡ length c.calls = ap length set ∙ long in
    let none = sym at.forwards ∙ law.2.forwards in
    let it : SetsLocal split c view host thread x given = record {
      now = now;
      does = does;
      none_out = none;
      store = store;
      call = call;
      made = at.made;
      frame = calling.1;
      calls = set;
      plainly = plainly;
      from = from;
      at = cleared split now (after_setting split view host from call x given) host thread _ call
          (subst (λ n. call < n) (sym many) at.made) at.held left at.fits (calling.0 ∙ sym many, calling.1, refl)
          (ap (λ out. out ++ forwards_of split.planned host from x) (sym none)) (inr plainly) refl (thread.at + 1)
          (next_place split host thread ∙ law.5);
    } in it in
    elim (front_of split c view.keeper call here.due (chain_due split view.chain) law.0 law.1 law.2.due at.left) [
      | inl runs ↦
          let on_host = subst (λ first. is_on split.planned host (statement_due first) ≡ true) runs.is law.2.on_host in
          let assigns = assigns_local split c host call variables agrees here runs.statement.kind
          (head_of runs.statement) x nodes on_host runs.fit
          (subst (λ first. Sets split.planned here first x nodes) runs.is law.4) in
          let value = only_value split c call variables thread.temporaries here assigns.value nodes assigns.read
          at.temporaries assigns.is_value in
          let now : Configuration = record c { calls = calls; pending = map item_of runs.behind } in
          let plainly = plainly_behind split (to_run call runs.statement) runs.behind runs.follows
          (λ returns. subst IsReturn assigns.is returns) in
          sets now (stepped split c now call runs.statement (map item_of runs.behind) (kind.Let x assigns.value)
          (given ∷ []) runs.pending assigns.is (value, tt) refl) refl refl (record {
            left = runs.behind;
            pending = refl;
            due = runs.due;
            known = runs.known;
            returned = runs.returned;
            stands = stands_plainly split view.keeper runs.behind plainly;
          }) (none_kept now runs.behind refl plainly)
      | inr keeps ↦
          let on_host = subst (λ first. is_on split.planned host (statement_due first) ≡ true) keeps.is
          law.2.on_host in
          let local = keeps_local split here x nodes keeps.statement keeps.into keeps.result keeps.keeping
          (subst (λ first. Sets split.planned here first x nodes) keeps.is law.4) in
          let here_too = same_host split view.keeper host (alone keeps.statement) keeps.on_host on_host in
          let behind = map item_of keeps.behind in
          let value : given ≡ variables keeps.result = ap (value_of_nodes variables thread.temporaries) local.nodes_are
          in
          let read = subst (MayRead (VariableIsAffected split.exposure keeps.result)
          (source.variable c.calls call keeps.result.0)) (sym value)
          (kept keeps.into keeps.result behind here_too keeps.pending) in
          let now : Configuration = record c { calls = calls; pending = behind } in
          let leaves : now ≡ record c { calls = calls_after c.calls call keeps.into.0 given; pending = behind } =
          ap (λ (y : VarId).
          let after : Configuration = record c { calls = calls_after c.calls call y.0 given; pending = behind } in
          after) (sym local.into_is) in
          sets now (subst (λ items. MayStep split.program split.exposure c items now) (sym keeps.pending)
          (given, read, leaves)) refl refl (record {
            left = keeps.behind;
            pending = refl;
            due = keeps.due;
            known = keeps.known;
            returned = keeps.returned;
            stands = stands_plainly split view.keeper keeps.behind keeps.plainly;
          }) (none_kept now keeps.behind refl keeps.plainly)
    ]

-- ---- assignments to fields

-- what a statement makes of the store
record AssignsField (split : Split) (c : Configuration) (call : ℕ) (item : source.Item) (behind : List source.Item)
    (what : StmtKind) (field : FieldId) (place value : ℤ) : Type 0 where
  values : List ℤ
  all : AllZip (MayGive split.exposure c call) (operands what) values
  is : record c { store = store_after_write c.store field.0 place value; pending = behind }
      ≡ executed split.program c call item what values behind
  goes_on : IsReturn what → ⊥

assigns_field : (split : Split) (c : Configuration) (host : HostId) (call : ℕ) (thread : ThreadShape)
    (variables : VarId → ℤ) → Agrees split c host call variables → (here : Position) →
    AllZip (MayHold split.exposure c.store (source.variable c.calls call)) here.reads thread.temporaries →
    (item : source.Item) (behind : List source.Item) (what : StmtKind) (heading : Heading) (field : FieldId)
    (at nodes : List Node) → is_on split.planned host (statement_tree what heading done) ≡ true →
    IsFit split.code split.planned (statement_tree what heading done) →
    Stores here (positions.run (statement_tree what heading done)) field at nodes →
    AssignsField split c call item behind what field (value_of_nodes variables thread.temporaries at)
    (value_of_nodes variables thread.temporaries nodes)
assigns_field split c host call thread variables agrees here holds item behind (kind.SetField own value) heading field
    at nodes on_host fit stores =
    let read = read_there split c host call variables agrees (set_field heading own (expr_tree value) done) on_host
    (expr_tree value) fit.0 in
    let given = value_of_nodes variables thread.temporaries nodes in
    let P = λ (f : FieldId) (i : ℤ).
    let after : Configuration = record c { store = store_after_write c.store f.0 i given; pending = behind } in after in
    record {
      values = given ∷ [];
      all = (only_value split c call variables thread.temporaries here value nodes read holds stores.2, tt);
      is = ap (λ list. P field (value_of_nodes variables thread.temporaries list)) stores.1
          ∙ ap (λ f. P f (pos 0)) (sym stores.0);
      goes_on = λ returns. returns;
    }
assigns_field split c host call thread variables agrees here holds item behind (kind.SetElement own index value) heading
    field at nodes on_host fit stores =
    let tree = expr_tree value in
    let number = expr_tree index in
    let block = set_element heading own number tree done in
    let place = value_of_nodes variables thread.temporaries at in
    let given = value_of_nodes variables thread.temporaries nodes in
    let first = given_value split c call variables thread.temporaries here.reads [] (field_reads tree) 0 index at
    (read_there split c host call variables agrees block on_host number fit.0) holds stores.1 refl stores.2 in
    let second = given_value split c call variables thread.temporaries here.reads (field_reads number) []
    (reads_in number) value nodes (read_there split c host call variables agrees block on_host tree fit.1) holds
    (stores.1 ∙ ap (λ list. field_reads number ++ list) (sym (append-nil (field_reads tree))))
    (sym (reads_many number)) stores.3 in
    record {
      values = place ∷ given ∷ [];
      all = (first, (second, tt));
      is = ap (λ (f : FieldId).
          let after : Configuration = record c { store = store_after_write c.store f.0 place given; pending = behind }
          in
          after) (sym stores.0);
      goes_on = λ returns. returns;
    }
assigns_field split c host call thread variables agrees here holds item behind _ heading field at nodes on_host fit
    stores = absurd stores

pub put_at : (split : Split) (c : Configuration) (view : View) (host : HostId) (thread : ThreadShape)
    (variables : VarId → ℤ) (at : IsAt split c view host thread) → Agrees split c host at.call variables →
    (field : FieldId) (index nodes : List Node) →
    Follows split.planned split.table.entries host (place_of split host thread.at) (op.Put field index nodes)
    (place_of split host (suc thread.at)) →
    SetsField split c view host (after_clearing thread) field (value_of_nodes variables thread.temporaries index)
    (value_of_nodes variables thread.temporaries nodes)
put_at split c view host thread variables at agrees field index nodes law =
    let here = place_of split host thread.at in
    let call = at.call in
    let calling = subst (IsCalling split c view.naming view.values view.sender host thread.frame thread.new_frame call
    here.due) law.3 at.calling in
    elim (front_of split c view.keeper call here.due (chain_due split view.chain) law.0 law.1 law.2.due at.left) [
      | inl runs ↦
          let on_host = subst (λ first. is_on split.planned host (statement_due first) ≡ true) runs.is law.2.on_host in
          let stores = subst (λ first. Stores here first field index nodes) runs.is law.4 in
          let item = source.run call runs.statement in
          let behind = map item_of runs.behind in
          let assigns = assigns_field split c host call thread variables agrees here at.temporaries item behind
          runs.statement.kind (head_of runs.statement) field index nodes on_host
          runs.fit stores in
          let now : Configuration = record c {
            store = store_after_write c.store field.0 (value_of_nodes variables thread.temporaries index)
                (value_of_nodes variables thread.temporaries nodes);
            pending = behind;
          } in
          let plainly = plainly_behind split (to_run call runs.statement) runs.behind runs.follows assigns.goes_on in
          let none = sym at.forwards ∙ law.2.forwards in
          record {
            now = now;
            does = stepped split c now call runs.statement behind runs.statement.kind assigns.values runs.pending refl
                assigns.all assigns.is;
            store = refl;
            calls = refl;
            plainly = none_kept now runs.behind refl plainly;
            at = cleared split now view host thread _ call at.made at.held (record {
              left = runs.behind;
              pending = refl;
              due = runs.due;
              known = runs.known;
              returned = runs.returned;
              stands = stands_plainly split view.keeper runs.behind plainly;
            }) at.fits calling (sym none) (inl none) refl (thread.at + 1) (next_place split host thread ∙ law.5);
          }
      | inr keeps ↦ absurd (subst (λ first. Stores here first field index nodes) keeps.is law.4)
    ]

-- ---- forwards

pub record SendsNext (split : Split) (c : Configuration) (view : View) (host : HostId) (thread : ThreadShape)
    (x : VarId) (to : HostId) : Type 0 where
  pub is_out : IsOut view.out x to
  pub plainly : NoneKept c
  pub at : IsAt split c (with_out view (without_forward x to view.out)) host (after_step thread)

pub send_at : (split : Split) (c : Configuration) (view : View) (host : HostId) (thread : ThreadShape) →
    IsAt split c view host thread → (x : VarId) (to : HostId) →
    typing.Sends (place_of split host thread.at) x to (place_of split host (suc thread.at)) →
    SendsNext split c view host thread x to
send_at split c view host thread at x to law =
    let here = place_of split host thread.at in
    let call = at.call in
    let goes = next_place split host thread ∙ law.2 in
    let is_out = subst (λ out. IsOut out x to) at.forwards law.1 in
    let plainly : NoneKept c = elim at.settled [
      | inl none ↦ absurd (subst (λ out. IsOut out x to) none is_out)
      | inr some ↦ some
    ] in
    record {
      is_out = is_out;
      plainly = plainly;
      at = record {
        call = call;
        made = at.made;
        held = at.held;
        left = subst (λ due. IsLeft split c view.keeper (under call due ++ chain_due split view.chain))
            (sym (ap (λ (p : Position). p.due) goes)) at.left;
        fits = subst (λ (p : Position). FitsOver split view.naming p.level call view.chain) (sym goes) at.fits;
        calling = subst (λ (p : Position). IsCalling split c view.naming view.values view.sender host thread.frame
            thread.new_frame call p.due p.calling) (sym goes) at.calling;
        forwards = ap (λ (p : Position). p.forwards) goes ∙ ap (without_forward x to) at.forwards;
        settled = inr plainly;
        temporaries = subst (λ (p : Position). AllZip (MayHold split.exposure c.store (source.variable c.calls call))
            p.reads thread.temporaries) (sym goes) at.temporaries;
      };
    }
