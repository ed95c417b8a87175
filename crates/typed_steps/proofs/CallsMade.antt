-- The call that a statement makes: the entry behind it is pushed, and the method is entered.
use Rattle.std.proofs.Common.{◌+◌, ◌≡◌, ◌≢◌, ◌∙◌, ℕ, suc, ◌<◌, inl, inr, true, false, List, [], ◌∷◌, ◌++◌}
use Rattle.std.proofs.Common.{Vec, Global, map, length, Option, Some, None, refl, ap, sym, subst, arith, append_assoc}
use Rattle.std.specs.Prelude.{ℤ, slice_get, ◌==◌, if◌then◌else◌}
use Rattle.std.specs.List.{AllByRecursion}
use Rattle.std.specs.Option.{option_map}
use Rattle.std.proofs.lemmas.Option.{slice_get-map}
use Rattle.js_base.specs.declared.ids.HostId.{HostId}
use Rattle.js_base.specs.declared.ids.EntryId.{EntryId}
use Rattle.js_base.specs.declared.ids.MethodId.{MethodId}
use Rattle.js_base.specs.declared.ids.SiteId.{SiteId}
use Rattle.js_base.specs.declared.ids.VarId.{VarId}
use Rattle.jif_tree.specs.declared.program.Method.{Method}
use Rattle.jif_tree.specs.declared.program.Stmt.{Stmt}
use Rattle.jif_tree.specs.declared.program.StmtKind.{StmtKind}
use Rattle.jif_tree.specs.declared.program.StmtKind as kind
use Rattle.jif_tree.specs.declared.program.Expr.{Expr}
use Rattle.jif_tree.specs.LabelRules.{method_at, params_of, result_of}
use Rattle.jif_tree.specs.SourceRun as source
use Rattle.jif_tree.specs.SourceRun.{Call, Configuration, value_of, passed}
use Rattle.jif_tree.specs.Trees as trees
use Rattle.jif_tree.specs.Trees.{ExprTree, Heading, BlockTree, done, ProgramTree, statement_tree, expr_tree}
use Rattle.jif_tree.specs.Trees.{method_tree, block_tree, head_of}
use Rattle.jif_tree.specs.Results.{GivesBack}
use Rattle.jif_tree.specs.WellNumbered.{is_some}
use Rattle.capability.specs.declared.token.Token.{Token}
use Rattle.host_code.specs.declared.instruction.Op.TheVariants as op
use Rattle.host_code.specs.Code.{halt}
use Rattle.host_code.specs.Thread.{ThreadShape}
use Rattle.host_core.specs.Host.{after_step, with_token}
use Rattle.need_labels.specs.Plan.{statement_host}
use Rattle.msg_cost.specs.Moves.{PlannedShape}
use Rattle.split_rules.specs.Positions as positions
use Rattle.split_rules.specs.Positions.{IsStatementOfMethod, all_statements}
use Rattle.split_rules.proofs.AllowedTyping.{body_of_method}
use Rattle.jif_tree.specs.Trees.{row_tree}
use Rattle.typed_steps.proofs.Basics.{all_right}
use Rattle.split_rules.specs.Positions.{Position, DueWork, Argument, Calling, no_call, arguing, entering, arguments_of}
use Rattle.split_rules.specs.Positions.{statement_due, is_on, calm, kept_due}
use Rattle.split_rules.specs.Typing as typing
use Rattle.split_rules.specs.Typing.{PushesCall, Enters, EntersWith}
use Rattle.jif_tree.specs.Altered.{Exposure, MayGive}
use Rattle.std.specs.List.{AllZip}
use Rattle.split_rules.specs.Positions.{FieldRead}
use Rattle.typed_steps.specs.Requests.{Does}
use Rattle.typed_steps.specs.Values.{MayTree, MayHold}
use Rattle.typed_steps.proofs.TreeValues.{tree_may, plainly_may}
use Rattle.typed_steps.specs.Readers.{IsFit}
use Rattle.typed_steps.specs.Views.{Split, View, Link, place_of, with_chain}
use Rattle.typed_steps.specs.Chains.{under, due_at, level_at, chain_due, FitsOver}
use Rattle.typed_steps.specs.Threads.{alone, Owed, to_run, to_keep, item_of, duty_of, IsCalling, IsAt, NoneKept}
use Rattle.typed_steps.specs.Threads.{IsReturn, IsKnownWork, AreReturned}
use Rattle.typed_steps.proofs.Owing.{front_of, BeginsPlainly, EndsWithReturn, block_statements, to_run_all}
use Rattle.typed_steps.proofs.Owing.{plainly_behind, none_kept, stands_plainly, items_before, duties_before}
use Rattle.typed_steps.proofs.Owing.{known_before, plainly_before, returned_before, plainly_ending, returned_ending}
use Rattle.typed_steps.proofs.Instructions.{next_place, stepped, no_temporaries}
use Rattle.typed_steps.proofs.Transfers.{entrance_due, entrance_level, under_both, HandsOver, over_at, none_rides}
use Rattle.typed_steps.proofs.Calls.{long_last}
use Rattle.typed_steps.proofs.Basics.{told_equal}

-- ---- methods

-- the method of the program and that of its tree
called_is : (split : Split) (method : MethodId) →
    option_map method_tree (source.method_at split.program method.0) ≡ method_at split.planned.program method
called_is split method =
    sym (slice_get-map method_tree split.program.methods.items method.0)
    ∙ ap (λ (p : ProgramTree). slice_get p.methods method.0) split.is

-- a method as it is run and as it is seen
pub record IsCalled (split : Split) (method : MethodId) (found : Option Method) : Type 0 where
  pub params : source.params_of found ≡ params_of (method_at split.planned.program method)
  pub result : source.result_of found ≡ result_of (method_at split.planned.program method)
  pub due : positions.all_due (typing.body_of (method_at split.planned.program method))
      ≡ map (λ one. positions.run (alone one)) (source.body_of found)
  pub fit : AllByRecursion (λ one. IsFit split.code split.planned (alone one)) (source.body_of found)
  pub ends : (x : VarId) → source.result_of found ≡ Some x → EndsWithReturn split x (source.body_of found)

last_return : (what : StmtKind) (heading : Heading) → GivesBack (statement_tree what heading done) → IsReturn what
last_return (kind.Return value) heading gives = tt
last_return (kind.Let x value) heading gives = gives
last_return (kind.SetField field value) heading gives = gives
last_return (kind.SetElement field index value) heading gives = gives
last_return (kind.If' guard m first n second) heading gives = gives
last_return (kind.While' guard m body) heading gives = gives
last_return (kind.Call site method args into) heading gives = gives

behind_first : (what : StmtKind) (heading : Heading) (rest : BlockTree) → (rest ≡ done → ⊥) →
    GivesBack (statement_tree what heading rest) → GivesBack rest
behind_first (kind.Return value) heading rest apart gives = absurd (apart gives)
behind_first (kind.Let x value) heading rest apart gives = gives
behind_first (kind.SetField field value) heading rest apart gives = gives
behind_first (kind.SetElement field index value) heading rest apart gives = gives
behind_first (kind.If' guard m first n second) heading rest apart gives = gives
behind_first (kind.While' guard m body) heading rest apart gives = gives
behind_first (kind.Call site method args into) heading rest apart gives = gives

not_done : (what : StmtKind) (heading : Heading) (rest : BlockTree) → statement_tree what heading rest ≡ done → ⊥
not_done (kind.Let x value) heading rest same = cc
not_done (kind.SetField field value) heading rest same = cc
not_done (kind.SetElement field index value) heading rest same = cc
not_done (kind.If' guard m first n second) heading rest same = cc
not_done (kind.While' guard m body) heading rest same = cc
not_done (kind.Call site method args into) heading rest same = cc
not_done (kind.Return value) heading rest same = cc

-- what holds of all statements of a block holds of the first, and of all behind that
record AllApart (P : BlockTree → Type 0) (what : StmtKind) (heading : Heading) (rest : BlockTree) : Type 0 where
  own : P (statement_tree what heading done)
  behind : AllByRecursion P (all_statements rest)

all_apart : (P : BlockTree → Type 0) (what : StmtKind) (heading : Heading) (rest : BlockTree) →
    AllByRecursion P (all_statements (statement_tree what heading rest)) → AllApart P what heading rest
all_apart P (kind.If' guard m first n second) heading rest all = record {
  own = all.0;
  behind = all_right P (all_statements (row_tree second)) (all_statements rest)
      (all_right P (all_statements (row_tree first)) (all_statements (row_tree second) ++ all_statements rest) all.1);
}
all_apart P (kind.While' guard m body) heading rest all = record {
  own = all.0;
  behind = all_right P (all_statements (row_tree body)) (all_statements rest) all.1;
}
all_apart P (kind.Let x value) heading rest all = record { own = all.0; behind = all.1 }
all_apart P (kind.SetField field value) heading rest all = record { own = all.0; behind = all.1 }
all_apart P (kind.SetElement field index value) heading rest all = record { own = all.0; behind = all.1 }
all_apart P (kind.Call site method args into) heading rest all = record { own = all.0; behind = all.1 }
all_apart P (kind.Return value) heading rest all = record { own = all.0; behind = all.1 }

ends_native : (split : Split) (method : MethodId) (x : VarId) →
    result_of (method_at split.planned.program method) ≡ Some x → (statements : List Stmt) →
    AllByRecursion (IsStatementOfMethod split.planned.program method) (all_statements (block_tree statements)) →
    GivesBack (block_tree statements) → EndsWithReturn split x statements
ends_native split method x result [] all gives = gives
ends_native split method x result (statement ∷ []) all gives = (
  last_return statement.kind (head_of statement) gives,
  (
    method,
    (all_apart (IsStatementOfMethod split.planned.program method) statement.kind (head_of statement) done all).own,
    result,
  ),
)
ends_native split method x result (statement ∷ next ∷ others) all gives =
    ends_native split method x result (next ∷ others)
    (all_apart (IsStatementOfMethod split.planned.program method) statement.kind (head_of statement)
    (block_tree (next ∷ others))
    all).behind (behind_first statement.kind (head_of statement)
    (block_tree (next ∷ others))
    (not_done next.kind (head_of next) (block_tree others)) gives)

pub called : (split : Split) (method : MethodId) → IsCalled split method (source.method_at split.program method.0)
called split method = by (source.method_at split.program method.0) (called_is split method)
  where
    by : (found : Option Method) → option_map method_tree found ≡ method_at split.planned.program method →
        IsCalled split method found
    by None is = record {
      params = ap params_of is;
      result = ap result_of is;
      due = ap (λ o. positions.all_due (typing.body_of o)) (sym is);
      fit = tt;
      ends = λ x none. absurd (cc);
    }
    by (Some own) is =
        let tree = method_tree own in
        let there : slice_get split.planned.program.methods method.0 ≡ Some tree = sym is in
        let body = block_statements split.code split.planned own.body.items in
        record {
          params = ap params_of is;
          result = ap result_of is;
          due = ap (λ o. positions.all_due (typing.body_of o)) (sym is) ∙ body.due;
          fit = body.fit (split.bodies method.0 tree there);
          ends = λ x gives. ends_native split method x (sym (ap result_of is) ∙ gives) own.body.items
              (body_of_method split.planned.program method tree there)
              (split.given_back method.0 tree x there gives);
        }

-- Values that the arguments of a call may give. Those of its parameters are what was given for them.
record AreGiven (exposure : Exposure) (c : Configuration) (call : ℕ) (params : List VarId) (args : List Expr)
    (given : List ℤ) : Type 0 where
  values : List ℤ
  all : AllZip (MayGive exposure c call) args values
  same : (x : ℕ) → passed (map (λ one. one.param) (arguments_of params (map expr_tree args))) given x
      ≡ passed params values x

are_given : (exposure : Exposure) (c : Configuration) (call : ℕ) (params : List VarId) (args : List Expr)
    (given : List ℤ) →
    AllZip (λ (one : Argument). MayTree exposure c.store (source.variable c.calls call) one.value)
    (arguments_of params (map expr_tree args)) given → AreGiven exposure c call params args given
are_given exposure c call [] [] given all = record { values = []; all = tt; same = λ x. refl }
are_given exposure c call (param ∷ params) [] given all = record { values = []; all = tt; same = λ x. refl }
are_given exposure c call [] (arg ∷ args) given all = record {
  values = map (value_of c call) (arg ∷ args);
  all = plainly_may exposure c call (arg ∷ args);
  same = λ x. refl;
}
are_given exposure c call (param ∷ params) (arg ∷ args) [] all = absurd all
are_given exposure c call (param ∷ params) (arg ∷ args) (value ∷ given) all =
    let more = are_given exposure c call params args given all.1 in
    record {
      values = value ∷ more.values;
      all = (tree_may exposure c call arg value all.0, more.all);
      same = λ x. ap (λ v. if x == param.0 then value else v) (more.same x);
    }

-- a statement that is a call in its tree
record IsCallKind (what : StmtKind) (method : MethodId) (arguments : List ExprTree) (into : Option VarId) : Type 0 where
  site : SiteId
  args : Vec Expr Global
  is : what ≡ kind.Call site method args into
  arguments_are : arguments ≡ map expr_tree args.items

call_kind : (what : StmtKind) (heading other : Heading) (site : SiteId) (method : MethodId) (arguments : List ExprTree)
    (into : Option VarId) → statement_tree what heading done ≡ trees.call other site method arguments into done →
    IsCallKind what method arguments into
call_kind (kind.Call own called_method args kept) heading other site method arguments into is =
    let target : called_method ≡ method = cc in
    let keeps : kept ≡ into = cc in
    let values : map expr_tree args.items ≡ arguments = cc in
    record {
      site = own;
      args = args;
      is = ap (λ m. kind.Call own m args kept) target ∙ ap (kind.Call own method args) keeps;
      arguments_are = sym values;
    }
call_kind (kind.Let x value) heading other site method arguments into is = absurd (cc)
call_kind (kind.SetField field value) heading other site method arguments into is = absurd (cc)
call_kind (kind.SetElement field index value) heading other site method arguments into is = absurd (cc)
call_kind (kind.If' guard m first n second) heading other site method arguments into is = absurd (cc)
call_kind (kind.While' guard m body) heading other site method arguments into is = absurd (cc)
call_kind (kind.Return value) heading other site method arguments into is = absurd (cc)

-- a call keeps the result where there is one
kept_there : (planned : PlannedShape) (heading : Heading) (site : SiteId) (method : MethodId)
    (arguments : List ExprTree) (into : Option VarId) (x : VarId) →
    is_some into ≡ is_some (result_of (method_at planned.program method)) →
    result_of (method_at planned.program method) ≡ Some x →
    kept_due planned (trees.call heading site method arguments into done)
    ≡ positions.keep (trees.call heading site method arguments into done) ∷ []
kept_there planned heading site method arguments None x kept is =
    absurd (let so : false ≡ true = kept ∙ ap is_some is in cc)
kept_there planned heading site method arguments (Some into) x kept is = rw is refl

kept_none : (planned : PlannedShape) (heading : Heading) (site : SiteId) (method : MethodId)
    (arguments : List ExprTree) (into : Option VarId) → result_of (method_at planned.program method) ≡ None →
    kept_due planned (trees.call heading site method arguments into done) ≡ []
kept_none planned heading site method arguments into is = rw is refl

-- what is to be done behind the body that a call starts
record Behind (split : Split) (call n : ℕ) (into result : Option VarId) (body : List Stmt) (behind : List Owed)
    (due : List DueWork) : Type 0 where
  owed : List Owed
  items : source.kept call into result ++ map item_of behind ≡ map item_of owed
  duties : under call due ++ map duty_of behind ≡ map duty_of owed
  known : AllByRecursion (IsKnownWork split) owed
  plainly : BeginsPlainly (to_run_all n body ++ owed)
  returned : AreReturned split (to_run_all n body ++ owed)

behind_call : (split : Split) (call n : ℕ) (statement : Stmt) (site : SiteId) (method : MethodId)
    (args : Vec Expr Global)
    (into result : Option VarId) (body : List Stmt) (behind : List Owed) →
    statement.kind ≡ kind.Call site method args into → IsFit split.code split.planned (alone statement) →
    result ≡ result_of (method_at split.planned.program method) →
    ((x : VarId) → result ≡ Some x → EndsWithReturn split x body) → AllByRecursion (IsKnownWork split) behind →
    BeginsPlainly behind → AreReturned split behind →
    Behind split call n into result body behind (kept_due split.planned (alone statement))
behind_call split call n statement site method args into None body behind is fit result ends known plainly returned =
    let heading : Heading = head_of statement in
    let block = trees.call heading site method (map expr_tree args.items) into done in
    let none : kept_due split.planned (alone statement) ≡ [] =
    ap (λ k. kept_due split.planned (statement_tree k heading done)) is
    ∙ kept_none split.planned heading site method (map expr_tree args.items) into (sym result) in
    record {
      owed = behind;
      items = ap (λ list. list ++ map item_of behind) (nothing_kept call into);
      duties = ap (λ list. under call list ++ map duty_of behind) none;
      known = known;
      plainly = plainly_before n body behind plainly;
      returned = returned_before split n body behind plainly returned;
    }
  where
    nothing_kept : (call : ℕ) (into : Option VarId) → source.kept call into None ≡ []
    nothing_kept call None = refl
    nothing_kept call (Some x) = refl
behind_call split call n statement site method args None (Some x) body behind is fit result ends known plainly
    returned =
    let heading : Heading = head_of statement in
    let own : IsFit split.code split.planned (trees.call heading site method (map expr_tree args.items) None done) =
    subst (λ k. IsFit split.code split.planned (statement_tree k heading done)) is fit in
    absurd (let so : false ≡ true = own.1 ∙ ap is_some (sym result) in cc)
behind_call split call n statement site method args (Some into) (Some x) body behind is fit result ends known plainly
    returned =
    let heading : Heading = head_of statement in
    let block = trees.call heading site method (map expr_tree args.items) (Some into) done in
    let same : alone statement ≡ block = ap (λ k. statement_tree k heading done) is in
    let own : IsFit split.code split.planned block = subst (IsFit split.code split.planned) same fit in
    let due : kept_due split.planned (alone statement) ≡ positions.keep (alone statement) ∷ [] =
    ap (kept_due split.planned) same
    ∙ kept_there split.planned heading site method (map expr_tree args.items) (Some into) x own.1 (sym result)
    ∙ ap (λ b. positions.keep b ∷ []) (sym same) in
    record {
      owed = to_keep call statement into x ∷ behind;
      items = refl;
      duties = ap (λ list. under call list ++ map duty_of behind) due;
      known = (
        record {
          site = site;
          method = method;
          arguments = map expr_tree args.items;
          is = same;
          result_is = sym result;
          sees = λ host on_host.
              own.2 x (sym result) host
              (sym (told_equal (statement_host split.planned.plan statement.id).0 host.0
              (subst (λ b. is_on split.planned host b ≡ true) same on_host)));
        },
        known,
      );
      plainly = plainly_ending split x n body (to_keep call statement into x ∷ behind) (ends x refl);
      returned = returned_ending split n body call statement into x behind (ends x refl) plainly returned;
    }

-- what is to be done once the call is made
called_items : (split : Split) (c : Configuration) (call : ℕ) (method : MethodId) (values : List ℤ)
    (into : Option VarId) (behind : List Owed) (due : List DueWork)
    (parts : Behind split call (length c.calls) into (source.result_of (source.method_at split.program method.0))
    (source.body_of (source.method_at split.program method.0)) behind due) →
    (source.after_call split.program c call method.0 values into (map item_of behind)).pending
    ≡ map item_of (to_run_all (length c.calls) (source.body_of (source.method_at split.program method.0)) ++ parts.owed)
called_items split c call method values into behind due parts =
    let found = source.method_at split.program method.0 in
    let body = source.body_of found in
    append_assoc (map (source.run (length c.calls)) body) (source.kept call into (source.result_of found))
    (map item_of behind)
    ∙ ap (λ (list : List source.Item). map (source.run (length c.calls)) body ++ list) parts.items
    ∙ sym (items_before (length c.calls) body parts.owed)

-- a call is made, and what is behind it is pushed
pub record MakesCall (split : Split) (c : Configuration) (view : View) (host : HostId) (thread : ThreadShape)
    (entry : EntryId) : Type 0 where
  pub now : Configuration
  pub does : Does split c now
  pub store : now.store ≡ c.store
  pub caller : ℕ
  pub within : caller < view.naming.count
  pub frame : thread.frame ≡ view.naming.frame caller
  pub count : view.naming.count ≡ suc (length c.calls)
  pub made : Call
  pub calls : now.calls ≡ c.calls ++ made ∷ []
  pub caller_is : made.caller ≡ view.naming.caller (length c.calls)
  pub method_is : made.method ≡ view.naming.method (length c.calls)
  pub values : (x : ℕ) → view.values (length c.calls) x ≡ made.values x
  pub plainly : NoneKept now
  pub fits : FitsOver split view.naming (level_at (slice_get split.table.entries entry.0)) caller view.chain
  pub at : (link : Link) → link.entry.entry ≡ entry → link.call ≡ caller → link.entry.token.host ≡ host →
      IsAt split now (with_chain view (link ∷ view.chain)) host
      (with_token (Some link.entry.token) (after_step thread))

-- where nothing was read there are no temporaries
none_held : (P : FieldRead → ℤ → Type 0) (reads : List FieldRead) (temporaries : List ℤ) → reads ≡ [] →
    AllZip P reads temporaries → temporaries ≡ []
none_held P reads [] none all = refl
none_held P reads (value ∷ temporaries) none all =
    absurd (subst (λ list. AllZip P list (value ∷ temporaries)) none all)

pub call_made : (split : Split) (c : Configuration) (view : View) (host : HostId) (thread : ThreadShape) →
    IsAt split c view host thread → (entry : EntryId) (statement : BlockTree) (set left : List Argument) →
    (place_of split host thread.at).calling ≡ arguing statement set left →
    typing.Pushes split.planned split.table.entries (place_of split host thread.at) (arguing statement set left) entry.0
    (place_of split host (suc thread.at)) → MakesCall split c view host thread entry
call_made split c view host thread at entry statement set left is pushes =
    let here = place_of split host thread.at in
    let call = at.call in
    let n = length c.calls in
    let args = subst (IsCalling split c view.naming view.values view.sender host thread.frame thread.new_frame call
    here.due) is at.calling in
    let block = trees.call args.heading args.site args.method args.arguments args.into done in
    let law : PushesCall split.planned split.table.entries here block set args.method args.arguments entry.0
    (place_of split host (suc thread.at)) =
    subst (λ b. typing.Pushes split.planned split.table.entries here (arguing b set left) entry.0
    (place_of split host (suc thread.at))) args.is pushes in
    let found = source.method_at split.program args.method.0 in
    let method = called split args.method in
    elim (front_of split c view.keeper call here.due (chain_due split view.chain)
    (positions.run block) law.others law.due
    at.left) [
      | inl runs ↦
          let own = runs.statement in
          let heading : Heading = head_of own in
          let same : alone own ≡ block = sym (ap statement_due runs.is) in
          let what = call_kind own.kind heading args.heading args.site args.method args.arguments args.into same in
          let native = what.args.items in
          let plain = plainly_behind split (to_run call own) runs.behind runs.follows
          (λ returns. subst IsReturn what.is returns) in
          let behind = behind_call split call n own what.site args.method what.args args.into (source.result_of found)
          (source.body_of found) runs.behind what.is runs.fit method.result method.ends runs.known plain
          runs.returned in
          let params = params_of (method_at split.planned.program args.method) in
          let P = λ (one : Argument). MayTree split.exposure c.store (source.variable c.calls call) one.value in
          let all_set = law.all_set ∙ ap (arguments_of params) what.arguments_are in
          let given = are_given split.exposure c call params native args.given
          (subst (λ list. AllZip P list args.given) all_set args.gives) in
          let next = source.after_call split.program c call args.method.0 given.values args.into
          (map item_of runs.behind) in
          let made : Call = record {
            caller = call;
            method = args.method.0;
            values = passed (source.params_of found) given.values;
          } in
          let pending : next.pending ≡ map item_of (to_run_all n (source.body_of found) ++ behind.owed) =
          called_items split c call args.method given.values args.into runs.behind _ behind in
          let long : length next.calls ≡ suc n = long_last c.calls made in
          let rest = chain_due split view.chain in
          let goes = next_place split host thread ∙ law.goes in
          let fit : IsFit split.code split.planned block = subst (IsFit split.code split.planned) same runs.fit in
          let count = args.count in
          let plainly = none_kept next _ pending behind.plainly in
          let made_at = at.made in
          record {
            now = next;
            does = stepped split c next call own (map item_of runs.behind)
                (kind.Call what.site args.method what.args args.into) given.values runs.pending what.is given.all refl;
            store = refl;
            caller = call;
            within = omega arith;
            frame = args.frame_is;
            count = args.count;
            made = made;
            calls = refl;
            caller_is = sym args.caller;
            method_is = sym args.method_is;
            values = λ x.
                args.passed x
                ∙ ap (λ list. passed (map (λ (one : Argument). one.param) list) args.given x) all_set
                ∙ given.same x ∙ ap (λ list. passed list given.values x) (sym method.params);
            plainly = plainly;
            fits = subst (λ l. FitsOver split view.naming l call view.chain)
                (sym (entrance_level split entry.0 _ _ law.pushed)) at.fits;
            at = λ link entry_is number token.
                let there : due_at (slice_get split.table.entries link.entry.entry.0)
                ≡ kept_due split.planned block ++ law.others =
                ap (λ (e : EntryId). due_at (slice_get split.table.entries e.0)) entry_is
                ∙ entrance_due split entry.0 _ _ law.pushed in
                let behind_due : under link.call (due_at (slice_get split.table.entries link.entry.entry.0)) ++ rest
                ≡ map duty_of behind.owed =
                ap (λ list. under link.call list ++ rest) there
                ∙ ap (λ k. under k (kept_due split.planned block ++ law.others) ++ rest) number
                ∙ ap (λ list. list ++ rest) (under_both call (kept_due split.planned block) law.others)
                ∙ append_assoc (under call (kept_due split.planned block)) (under call law.others) rest
                ∙ ap (λ list. under call (kept_due split.planned block) ++ list) runs.due
                ∙ ap (λ b. under call (kept_due split.planned b) ++ map duty_of runs.behind) (sym same)
                ∙ behind.duties in
                record {
                  call = n;
                  made = subst (λ k. n < k) (sym long) (omega arith);
                  held = refl;
                  left = record {
                    left = to_run_all n (source.body_of found) ++ behind.owed;
                    pending = pending;
                    due = ap (λ (p : Position). under n p.due
                        ++ (under link.call (due_at (slice_get split.table.entries link.entry.entry.0)) ++ rest)) goes
                        ∙ ap (λ list. under n list
                        ++ (under link.call (due_at (slice_get split.table.entries link.entry.entry.0)) ++ rest))
                        method.due
                        ∙ ap (λ list. under n (map (λ one. positions.run (alone one)) (source.body_of found)) ++ list)
                        behind_due
                        ∙ sym (duties_before n (source.body_of found) behind.owed);
                    known = known_before split n (source.body_of found) behind.owed method.fit behind.known;
                    returned = behind.returned;
                    stands = stands_plainly split view.keeper _ behind.plainly;
                  };
                  fits = subst (λ (p : Position). FitsOver split view.naming p.level n (link ∷ view.chain)) (sym goes)
                      (λ x gives. record {
                        top = link;
                        below = view.chain;
                        is = refl;
                        heading = args.heading;
                        site = args.site;
                        arguments = args.arguments;
                        into = args.into;
                        others = law.others;
                        due = there ∙ ap (λ list. list ++ law.others)
                            (kept_there split.planned args.heading args.site args.method args.arguments args.into x
                            fit.1
                            gives);
                        caller = args.caller ∙ sym number;
                        method_is = args.method_is;
                        on_host = subst (λ h. is_on split.planned h block ≡ true) (sym token)
                            (subst (λ b. is_on split.planned host b ≡ true) args.is args.on_host);
                      });
                  calling = subst (λ (p : Position). IsCalling split next view.naming view.values view.sender host
                      thread.frame thread.new_frame n p.due p.calling) (sym goes)
                      (args.count ∙ sym long, args.new_frame_is, args.sender_is);
                  forwards = ap (λ (p : Position). p.forwards) goes ∙ at.forwards;
                  settled = inr plainly;
                  temporaries = subst (AllZip (MayHold split.exposure next.store (source.variable next.calls n))
                      (place_of split host (thread.at + 1)).reads) (sym (none_held (MayHold split.exposure c.store
                      (source.variable c.calls call)) here.reads thread.temporaries law.reads at.temporaries))
                      (no_temporaries split next n (place_of split host (thread.at + 1))
                      (ap (λ (p : Position). p.reads) goes));
                };
          }
      | inr keeps ↦ absurd (let both = keeps.is in cc)
    ]

-- ---- the way in

-- the called method is entered, here or elsewhere, once these variables have ridden there
pub record EntersMethod (split : Split) (c : Configuration) (view : View) (thread : ThreadShape) (on : HostId)
    (entry : EntryId) (token : Token) (riders : List VarId) : Type 0 where
  pub over : HandsOver split c view on entry thread.new_frame token riders
  pub bare : thread.temporaries ≡ []

entered : (split : Split) (c : Configuration) (view : View) (host : HostId) (thread : ThreadShape) →
    IsAt split c view host thread → (entry : EntryId) (on : HostId) (token : Token) (riders : List VarId)
    (calling : Calling) → entry ≢ halt → (place_of split host thread.at).calling ≡ calling →
    thread.held ≡ Some token →
    EntersWith split.planned split.table.entries (place_of split host thread.at) calling entry.0 riders on →
    EntersMethod split c view thread on entry token riders
entered split c view host thread at entry on token riders
    (entering (trees.call heading site method arguments into rest)) apart is held law =
    let here = place_of split host thread.at in
    record {
      over = over_at split c view host thread at on entry thread.new_frame token riders _ apart law.3 law.4
          (subst (IsCalling split c view.naming view.values view.sender host thread.frame thread.new_frame at.call
          here.due) is at.calling) held;
      bare = none_held (MayHold split.exposure c.store (source.variable c.calls at.call)) here.reads thread.temporaries
          law.2 at.temporaries;
    }
entered split c view host thread at entry on token riders calling apart is held law = absurd law

pub enter_with_at : (split : Split) (c : Configuration) (view : View) (host : HostId) (thread : ThreadShape) →
    IsAt split c view host thread → (entry : EntryId) (on : HostId) (riders : List VarId) (token : Token) →
    entry ≢ halt → thread.held ≡ Some token →
    typing.Ends split.planned split.table.entries (place_of split host thread.at) (op.CallWith entry on riders) →
    EntersMethod split c view thread on entry token riders
enter_with_at split c view host thread at entry on riders token apart held law =
    entered split c view host thread at entry on token riders (place_of split host thread.at).calling apart refl held
    law

-- where nothing rides
pub enters_bare : (split : Split) (here : Position) (calling : Calling) (number : ℕ) (on : HostId) →
    Enters split.planned split.table.entries here calling number →
    EntersWith split.planned split.table.entries here calling number [] on
enters_bare split here (entering (trees.call heading site method arguments into rest)) number on law =
    (law.0, law.1, law.2, none_rides on here.forwards law.3, law.4)
enters_bare split here calling number on law = absurd law

pub enter_at : (split : Split) (c : Configuration) (view : View) (host : HostId) (thread : ThreadShape) →
    IsAt split c view host thread → (entry : EntryId) (on : HostId) (token : Token) → entry ≢ halt →
    thread.held ≡ Some token →
    typing.Ends split.planned split.table.entries (place_of split host thread.at) (op.Call entry on) →
    EntersMethod split c view thread on entry token []
enter_at split c view host thread at entry on token apart held law =
    let here = place_of split host thread.at in
    enter_with_at split c view host thread at entry on [] token apart held
    (enters_bare split here here.calling entry.0 on law)
