-- A result that is given back to the call that made this one.
use Rattle.std.proofs.Common.{◌≡◌, ◌∙◌, ℕ, suc, ◌+◌, ◌<◌, inl, inr, true, List, [], ◌∷◌, ◌++◌, map, length, Option}
use Rattle.std.proofs.Common.{Some, None, refl, ap, sym, subst}
use Rattle.std.specs.Prelude.{ℤ, slice_get}
use Rattle.std.specs.List.{AllByRecursion}
use Rattle.js_base.specs.declared.ids.HostId.{HostId}
use Rattle.js_base.specs.declared.ids.MethodId.{MethodId}
use Rattle.js_base.specs.declared.ids.VarId.{VarId}
use Rattle.jif_tree.specs.declared.program.Program.{Program}
use Rattle.jif_tree.specs.declared.program.Stmt.{Stmt}
use Rattle.jif_tree.specs.declared.program.StmtKind.{StmtKind}
use Rattle.jif_tree.specs.declared.program.StmtKind as kind
use Rattle.jif_tree.specs.declared.program.Expr.{Expr}
use Rattle.jif_tree.specs.LabelRules.{method_at, result_of}
use Rattle.jif_tree.specs.SourceRun as source
use Rattle.jif_tree.specs.SourceRun.{Call, Configuration, calls_after, calls_after_return}
use Rattle.jif_tree.specs.Trees as trees
use Rattle.jif_tree.specs.Trees.{BlockTree, Heading, done, MethodTree, give_back, statement_tree, expr_tree, head_of}
use Rattle.capability.specs.declared.token.Token.{Token}
use Rattle.ics_stack.specs.Stack.{top_token}
use Rattle.host_code.specs.declared.code_expr.Node.{Node}
use Rattle.host_code.specs.declared.instruction.Op.TheVariants as op
use Rattle.host_code.specs.Code.{variable_at}
use Rattle.host_code.specs.Thread.{ThreadShape}
use Rattle.host_core.specs.Host.{after_clearing}
use Rattle.host_core.specs.Turn.{MayReturn}
use Rattle.host_core.specs.Values.{value_of_nodes}
use Rattle.msg_cost.specs.Terms.{reads_on}
use Rattle.split_rules.specs.Positions as positions
use Rattle.split_rules.specs.Positions.{Position, DueWork, is_on, statement_due}
use Rattle.split_rules.specs.Typing.{Follows, GivesBackDue, IsValue}
use Rattle.typed_steps.proofs.Instructions.{read_there}
use Rattle.typed_steps.specs.Readers.{IsFit}
use Rattle.typed_steps.specs.Views.{Split, CallNaming, View, Link, entries_of, place_of, values_set}
use Rattle.typed_steps.specs.Chains.{Duty, under, due_at, chain_due, FitsOver, IsResultAwaited, IsChain, IsLinked}
use Rattle.typed_steps.specs.Threads.{alone, Owed, to_run, to_keep, item_of, duty_of, IsKnownWork, IsKeeping}
use Rattle.typed_steps.specs.Threads.{ResultStandsOn}
use Rattle.typed_steps.specs.Threads.{IsAt}
use Rattle.typed_steps.specs.Variables.{IsCallNamed}
use Rattle.typed_steps.specs.Requests.{GivesResult}
use Rattle.typed_steps.proofs.Owing.{front_of}
use Rattle.typed_steps.proofs.Instructions.{next_place, only_value, Agrees, cleared, stepped}
use Rattle.typed_steps.proofs.Transfers.{calm_calling, entrance_due}
use Rattle.typed_steps.proofs.CallsMade.{called}
use Rattle.typed_steps.proofs.Calls.{long_set}

-- ---- the entry that the result is for

-- The first entry of a chain, behind which another stands.
record IsTop (split : Split) (naming : CallNaming) (top : Link) (token : Token) : Type 0 where
  token_is : token ≡ top.entry.token
  linked : IsLinked naming top

top_linked : (split : Split) (naming : CallNaming) (chain : List Link) (top : Link) (below : List Link) (token : Token)
    (statement : BlockTree) (others : List DueWork) → IsChain split naming chain → chain ≡ top ∷ below →
    top_token (entries_of chain) ≡ Some token →
    due_at (slice_get split.table.entries top.entry.entry.0) ≡ positions.keep statement ∷ others →
    IsTop split naming top token
top_linked split naming chain top [] token statement others is_chain is held due =
    let last = subst (IsChain split naming) is is_chain in
    let none : due_at (slice_get split.table.entries top.entry.entry.0) ≡ [] =
    ap (λ e. due_at (slice_get split.table.entries e.0)) last.0 ∙ entrance_due split 0 _ _ split.typed.halts in
    absurd (let both : [] ≡ positions.keep statement ∷ others = sym none ∙ due in cc)
top_linked split naming chain top (next ∷ below) token statement others is_chain is held due =
    let first = subst (IsChain split naming) is is_chain in
    let same : Some top.entry.token ≡ Some token = sym (ap (λ list. top_token (entries_of list)) is) ∙ held in
    record { token_is = cc; linked = first.1 }

-- a result is what is to be kept first
record KeptFirst (split : Split) (call : ℕ) (block : BlockTree) (behind : List Owed) : Type 0 where
  statement : Stmt
  into : VarId
  result : VarId
  others : List Owed
  is : behind ≡ to_keep call statement into result ∷ others
  same : alone statement ≡ block
  keeping : IsKeeping split statement into result

kept_first : (split : Split) (call : ℕ) (block : BlockTree) (rest : List Duty) (behind : List Owed) →
    record { call = call; due = positions.keep block } ∷ rest ≡ map duty_of behind →
    AllByRecursion (IsKnownWork split) behind → KeptFirst split call block behind
kept_first split call block rest [] due known = absurd (cc)
kept_first split call block rest (to_run number statement ∷ behind) due known =
    let own : Duty = record { call = call; due = positions.keep block } in
    let one : own ≡ duty_of (to_run number statement) = cc in
    let wrong : positions.keep block ≡ positions.run (alone statement) = ap (λ (d : Duty). d.due) one in
    absurd (cc)
kept_first split call block rest (to_keep number statement into result ∷ behind) due known =
    let own : Duty = record { call = call; due = positions.keep block } in
    let one : own ≡ duty_of (to_keep number statement into result) = cc in
    let number_is : number ≡ call = sym (ap (λ (d : Duty). d.call) one) in
    record {
      statement = statement;
      into = into;
      result = result;
      others = behind;
      is = ap (λ k. to_keep k statement into result ∷ behind) number_is;
      same = sym (ap (λ (d : Duty). statement_due d.due) one);
      keeping = known.0;
    }

-- ---- the step

record ReturnsValue (split : Split) (here : Position) (what : StmtKind) (heading : Heading) (nodes : List Node) :
    Type 0 where
  value : Expr
  is : what ≡ kind.Return value
  is_value : IsValue here (expr_tree value) nodes

returns_value : (split : Split) (here : Position) (what : StmtKind) (heading : Heading) (nodes : List Node) →
    GivesBackDue here (positions.run (statement_tree what heading done)) nodes →
    ReturnsValue split here what heading nodes
returns_value split here (kind.Return value) heading nodes law = record { value = value; is = refl; is_value = law }
returns_value split here _ heading nodes law = absurd law

-- what giving back leaves of the calls
returned_calls : (program : Program) (c : Configuration) (call : ℕ) (value : ℤ) (made : Call) →
    slice_get c.calls call ≡ Some made →
    calls_after_return program c call value
    ≡ source.after_result c made (source.result_of (source.method_at program made.method)) value
returned_calls program c call value made is = rw is refl

unread_there : (split : Split) (method : MethodId) (x : VarId) (found : Option MethodTree) →
    method_at split.planned.program method ≡ found → result_of found ≡ Some x → (other : ℕ) →
    reads_on split.planned x other ≡ true → ⊥
unread_there split method x None is gives other reads = absurd (cc)
unread_there split method x (Some tree) is gives other reads = split.unread method.0 tree x other is gives reads

pub return_at : (split : Split) (c : Configuration) (view : View) (host : HostId) (thread : ThreadShape)
    (variables : VarId → ℤ) (at : IsAt split c view host thread) → Agrees split c host at.call variables →
    IsChain split view.naming view.chain → IsCallNamed c view.naming at.call → (x : VarId) (nodes : List Node) →
    Follows split.planned split.table.entries host (place_of split host thread.at) (op.Ret x nodes)
    (place_of split host (suc thread.at)) → (token : Token) → thread.held ≡ Some token →
    GivesResult split c view host (after_clearing thread) token.frame x
    (value_of_nodes variables thread.temporaries nodes) token.host
return_at split c view host thread variables at agrees is_chain named x nodes law token held =
    let here = place_of split host thread.at in
    let call = at.call in
    let given = value_of_nodes variables thread.temporaries nodes in
    let method = law.1 in
    let calling = calm_calling split c view host thread at law.3 in
    let awaited : IsResultAwaited split view.naming method call view.chain =
    subst (λ l. FitsOver split view.naming l call view.chain) law.5 at.fits x law.6 in
    let block = trees.call awaited.heading awaited.site method awaited.arguments awaited.into done in
    let top = awaited.top in
    let is_top = top_linked split view.naming view.chain top awaited.below token block awaited.others is_chain
    awaited.is
    (sym at.held ∙ held) awaited.due in
    elim (front_of split c view.keeper call here.due (chain_due split view.chain) law.0 [] law.2.due at.left) [
      | inl runs ↦
          let own = runs.statement in
          let heading : Heading = head_of own in
          let on_host = subst (λ first. is_on split.planned host (statement_due first) ≡ true) runs.is law.2.on_host in
          let returns = returns_value split here own.kind heading nodes
          (subst (λ first. GivesBackDue here first nodes) runs.is law.4) in
          let block_is : alone own ≡ give_back heading (expr_tree returns.value) done =
          ap (λ k. statement_tree k heading done) returns.is in
          let fit = subst (IsFit split.code split.planned) block_is runs.fit in
          let read = read_there split c host call variables agrees (give_back heading (expr_tree returns.value) done)
          (subst (λ b. is_on split.planned host b ≡ true) block_is on_host) (expr_tree returns.value) fit.0 in
          let value = only_value split c call variables thread.temporaries here returns.value nodes read at.temporaries
          returns.is_value in
          let rest = chain_due split view.chain in
          let rest_is : rest ≡ record { call = top.call; due = positions.keep block }
          ∷ (under top.call awaited.others ++ chain_due split awaited.below) =
          ap (chain_due split) awaited.is
          ∙ ap (λ list. under top.call list ++ chain_due split awaited.below) awaited.due in
          let kept = kept_first split top.call block _ runs.behind (sym rest_is ∙ runs.due) runs.known in
          let native = (called split method).result ∙ law.6 in
          let method_is : named.made.method ≡ method.0 = named.method ∙ awaited.method_is in
          let caller_is : named.made.caller ≡ top.call = named.caller ∙ awaited.caller in
          let result_is : source.result_of (source.method_at split.program named.made.method) ≡ Some x =
          ap (λ m. source.result_of (source.method_at split.program m)) method_is ∙ native in
          let next : Configuration = record c {
            calls = calls_after_return split.program c call given;
            pending = map item_of runs.behind;
          } in
          let calls : next.calls ≡ calls_after c.calls top.call x.0 given =
          returned_calls split.program c call given named.made named.is
          ∙ ap (λ o. source.after_result c named.made o given) result_is
          ∙ ap (λ k. calls_after c.calls k x.0 given) caller_is in
          let within : top.call < length c.calls = subst (λ n. top.call < n) calling.0 is_top.linked.known in
          let long : length next.calls ≡ length c.calls =
          ap length calls ∙ long_set c.calls top.call x.0 given within in
          let keeping_is : trees.call (head_of kept.statement) kept.keeping.site
          kept.keeping.method kept.keeping.arguments (Some kept.into) done ≡ block =
          sym kept.keeping.is ∙ kept.same in
          let one_method : kept.keeping.method ≡ method = cc in
          let results : Some kept.result ≡ Some x =
          sym kept.keeping.result_is
          ∙ ap (λ m. result_of (method_at split.planned.program m)) one_method ∙ law.6 in
          let result_x : kept.result ≡ x = cc in
          let stands : is_on split.planned token.host (alone kept.statement) ≡ true =
          subst (λ b. is_on split.planned token.host b ≡ true) (sym kept.same)
          (subst (λ (t : Token). is_on split.planned t.host block ≡ true) (sym is_top.token_is) awaited.on_host) in
          let none = sym at.forwards ∙ law.2.forwards in
          record {
            now = next;
            does = stepped split c next call own (map item_of runs.behind) (kind.Return returns.value) (given ∷ [])
                runs.pending returns.is (value, tt) refl;
            none_out = none;
            store = refl;
            caller = top.call;
            made = within;
            frame_is = ap (λ (t : Token). t.frame) is_top.token_is ∙ is_top.linked.token ∙ is_top.linked.frame;
            calls = calls;
            unread = unread_there split method x (method_at split.planned.program method) refl law.6;
            into = kept.into;
            behind = map item_of kept.others;
            pending = ap (map item_of) kept.is
                ∙ ap (λ y. source.keep top.call kept.into y ∷ map item_of kept.others) result_x;
            sees = subst (λ y. MayReturn split.code (variable_at split.code y) token.host) result_x
                (kept.keeping.sees token.host stands);
            at = cleared split next (record view {
              values = values_set view.values top.call x.0 given;
              keeper =
                  token.host;
            })
                host thread _ call (subst (λ n. call < n) (sym long) at.made) at.held (record {
                  left = runs.behind;
                  pending = refl;
                  due = runs.due;
                  known = runs.known;
                  returned = runs.returned;
                  stands = subst (ResultStandsOn split token.host) (sym kept.is) stands;
                }) at.fits (calling.0 ∙ sym long, calling.1, calling.2) (sym none) (inl none) refl (thread.at + 1)
                (next_place split host thread ∙ law.7);
          }
      | inr keeps ↦ absurd (subst (λ first. GivesBackDue here first nodes) keeps.is law.4)
    ]
