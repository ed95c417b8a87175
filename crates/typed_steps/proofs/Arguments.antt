-- What the instructions for calls make of what is still to be done: a frame, its parameters, the call, and its result.
use Rattle.std.proofs.Common.{◌≡◌, ◌∙◌, ℕ, suc, ◌+◌, ◌<◌, inl, inr, Bool, true, List, [], ◌∷◌, ◌++◌}
use Rattle.std.proofs.Common.{map, length, Option, Some, None, refl, ap, sym, subst, arith, append_assoc, append-nil}
use Rattle.std.specs.Prelude.{ℤ, pos, ◌==◌, if◌then◌else◌}
use Rattle.std.specs.List.{AllByRecursion}
use Rattle.std.proofs.lemmas.Bool.Decides.{eqb_tells}
use Rattle.std.proofs.lemmas.Bool.{eq-eqb, ne_eqb}
use Rattle.js_base.specs.declared.ids.HostId.{HostId}
use Rattle.js_base.specs.declared.ids.FrameId.{FrameId}
use Rattle.js_base.specs.declared.ids.MethodId.{MethodId}
use Rattle.js_base.specs.declared.ids.SiteId.{SiteId}
use Rattle.js_base.specs.declared.ids.VarId.{VarId}
use Rattle.jif_tree.specs.declared.program.Stmt.{Stmt}
use Rattle.jif_tree.specs.declared.program.StmtKind.{StmtKind}
use Rattle.jif_tree.specs.declared.program.StmtKind as kind
use Rattle.jif_tree.specs.LabelRules.{method_at, params_of}
use Rattle.jif_tree.specs.SourceRun as source
use Rattle.jif_tree.specs.SourceRun.{Configuration, passed}
use Rattle.jif_tree.specs.Trees as trees
use Rattle.jif_tree.specs.Trees.{ExprTree, Heading, BlockTree, done, MethodTree, statement_tree, expr_tree}
use Rattle.jif_tree.specs.Trees.{head_of}
use Rattle.host_code.specs.declared.code_expr.Node.{Node}
use Rattle.host_code.specs.declared.instruction.Op.TheVariants as op
use Rattle.host_code.specs.Thread.{ThreadShape}
use Rattle.host_core.specs.Host.{after_step, after_clearing}
use Rattle.host_core.specs.Values.{value_of_nodes}
use Rattle.split_rules.specs.Positions as positions
use Rattle.split_rules.specs.Positions.{Position, DueWork, Level, Argument, Calling, no_call, arguing, entering}
use Rattle.split_rules.specs.Positions.{arguments_of, forwards_of}
use Rattle.split_rules.specs.Positions.{field_reads, statement_due, is_on}
use Rattle.split_rules.specs.Typing as typing
use Rattle.split_rules.specs.Typing.{Follows, Frames}
use Rattle.std.specs.List.{AllZip}
use Rattle.typed_steps.specs.Values.{MayTree, MayHold}
use Rattle.typed_steps.proofs.Alike.{zip_last}
use Rattle.typed_steps.proofs.Instructions.{read_there}
use Rattle.typed_steps.specs.Readers.{IsReadingHost, IsFit}
use Rattle.typed_steps.specs.Views.{Split, CallNaming, View, Link, place_of, AreRising}
use Rattle.typed_steps.specs.Chains.{Duty, under, chain_due, FitsOver, IsResultAwaited}
use Rattle.typed_steps.specs.Threads.{alone, IsLeft, IsCalling, IsAt, NoneKept}
use Rattle.typed_steps.proofs.Owing.{front_of}
use Rattle.typed_steps.proofs.Instructions.{next_place, fit_call, Agrees, cleared, after_setting}
use Rattle.typed_steps.proofs.Transfers.{calm_calling}
use Rattle.typed_steps.proofs.TreeValues.{value_there}
use Rattle.typed_steps.proofs.HeldSteps.{with_frame, old_number, new_number}
use Rattle.typed_steps.proofs.Basics.{all_right}

-- what runs next is not a result that is to be kept
pub run_plainly : (c : Configuration) (call : ℕ) (statement : Stmt) (items : List source.Item) →
    c.pending ≡ source.run call statement ∷ items → NoneKept c
run_plainly c call statement items pending other into result behind is =
    let both : source.run call statement ∷ items ≡ source.keep other into result ∷ behind = sym pending ∙ is in cc

-- ---- a frame

-- what is awaited stays so with one more frame
awaited_more : (split : Split) (naming : CallNaming) (frame : FrameId) (caller method : ℕ) (of : MethodId) (call : ℕ)
    (chain : List Link) → call < naming.count → IsResultAwaited split naming of call chain →
    IsResultAwaited split (with_frame naming frame caller method) of call chain
awaited_more split naming frame caller method of call chain within awaited = record {
  top = awaited.top;
  below = awaited.below;
  is = awaited.is;
  heading = awaited.heading;
  site = awaited.site;
  arguments = awaited.arguments;
  into = awaited.into;
  others = awaited.others;
  due = awaited.due;
  caller = old_number call naming.count caller (naming.caller call) within ∙ awaited.caller;
  method_is = old_number call naming.count method (naming.method call) within ∙ awaited.method_is;
  on_host = awaited.on_host;
}

pub fits_more : (split : Split) (naming : CallNaming) (frame : FrameId) (caller method : ℕ) (level : Level) (call : ℕ)
    (chain : List Link) → call < naming.count → FitsOver split naming level call chain →
    FitsOver split (with_frame naming frame caller method) level call chain
fits_more split naming frame caller method (positions.body of) call chain within fits =
    λ x is. awaited_more split naming frame caller method of call chain within (fits x is)
fits_more split naming frame caller method (positions.under number) call chain within fits = fits

-- what is seen once there is a frame for a call
abbrev pub framed : View → FrameId → ℕ → ℕ → ℕ → View
framed view frame count caller method = record view {
  out = [];
  sender = count;
  naming = with_frame view.naming frame caller method;
  values = λ k x. if k == view.naming.count then pos 0 else view.values k x;
}

pub record MakesFrame (split : Split) (c : Configuration) (view : View) (host : HostId) (thread : ThreadShape) :
    Type 0 where
  pub none_out : view.out ≡ []
  pub count : view.naming.count ≡ length c.calls
  pub plainly : NoneKept c
  pub caller : ℕ
  pub method : ℕ
  pub at : (frame : FrameId) → IsAt split c (framed view frame (length c.calls) caller method) host
      (record (after_step thread) { new_frame = frame })

-- a statement that makes a frame calls
record FramesCall (split : Split) (here : Position) (statement : BlockTree) (site : SiteId) (next : Position) :
    Type 0 where
  heading : Heading
  method : MethodId
  arguments : List ExprTree
  into : Option VarId
  is : statement ≡ trees.call heading site method arguments into done
  goes : next ≡ record {
    level = here.level;
    due = here.due;
    reads = [];
    calling = arguing statement [] (arguments_of (params_of (method_at split.planned.program method)) arguments);
    forwards = [];
  }

frames_call : (split : Split) (here : Position) (what : StmtKind) (heading : Heading) (site : SiteId)
    (next : Position) → Frames split.planned here (positions.run (statement_tree what heading done)) site next →
    FramesCall split here (statement_tree what heading done) site next
frames_call split here (kind.Call own method args into) heading site next law = record {
  heading = heading;
  method = method;
  arguments = map expr_tree args.items;
  into = into;
  is = ap (λ s. trees.call heading s method (map expr_tree args.items) into done) law.0;
  goes = law.1;
}
frames_call split here _ heading site next law = absurd law

pub frame_at : (split : Split) (c : Configuration) (view : View) (host : HostId) (thread : ThreadShape) →
    IsAt split c view host thread → (site : SiteId) →
    Follows split.planned split.table.entries host (place_of split host thread.at) (op.Frame site)
    (place_of split host (suc thread.at)) → MakesFrame split c view host thread
frame_at split c view host thread at site law =
    let here = place_of split host thread.at in
    let call = at.call in
    let count = length c.calls in
    let calling = calm_calling split c view host thread at (ap (λ (p : Position). p.calling) law.3) in
    elim (front_of split c view.keeper call here.due (chain_due split view.chain) law.0 law.1 law.2.due at.left) [
      | inl runs ↦
          let heading : Heading = head_of runs.statement in
          let block = alone runs.statement in
          let frames = frames_call split here runs.statement.kind heading site _
          (subst (λ first. Frames split.planned here first site (place_of split host (suc thread.at))) runs.is law.4) in
          let goes = next_place split host thread ∙ frames.goes in
          let within : call < view.naming.count = subst (λ n. call < n) (sym calling.0) at.made in
          let naming = view.naming in
          let P = MayHold split.exposure c.store (source.variable c.calls call) in
          record {
            none_out = sym at.forwards ∙ law.2.forwards;
            count = calling.0;
            plainly = run_plainly c call runs.statement _ runs.pending;
            caller = call;
            method = frames.method.0;
            at = λ frame. record {
              call = call;
              made = at.made;
              held = at.held;
              left = subst (λ due. IsLeft split c view.keeper (under call due ++ chain_due split view.chain))
                  (sym (ap (λ (p : Position). p.due) goes)) at.left;
              fits = subst (λ (p : Position). FitsOver split (with_frame naming frame call frames.method.0) p.level call
                  view.chain) (sym goes)
                  (fits_more split naming frame call frames.method.0 here.level call view.chain within at.fits);
              calling = subst (λ (p : Position). IsCalling split c (with_frame naming frame call frames.method.0)
                  (λ k x. if k == naming.count then pos 0 else view.values k x) count host thread.frame frame call p.due
                  p.calling) (sym goes) (record {
                    count = ap suc calling.0;
                    frame_is = calling.1 ∙ sym (old_number call naming.count frame (naming.frame call) within);
                    new_frame_is = sym (new_number count naming.count frame (naming.frame count) (sym calling.0));
                    sender_is = refl;
                    caller = new_number count naming.count call (naming.caller count) (sym calling.0);
                    others = law.1;
                    due_first = law.2.due ∙ ap (λ (d : DueWork). d ∷ law.1) runs.is;
                    on_host = subst (λ first. is_on split.planned host (statement_due first) ≡ true) runs.is
                        law.2.on_host;
                    heading = frames.heading;
                    site = site;
                    method = frames.method;
                    arguments = frames.arguments;
                    into = frames.into;
                    is = frames.is;
                    method_is = new_number count naming.count frames.method.0 (naming.method count) (sym calling.0);
                    parts = refl;
                    given = [];
                    gives = tt;
                    passed = λ x. new_number count naming.count (pos 0) (view.values count x) (sym calling.0);
                  });
              forwards = ap (λ (p : Position). p.forwards) goes;
              settled = inl refl;
              temporaries = subst (λ (p : Position). AllZip P p.reads thread.temporaries) (sym goes)
                  (subst (λ (p : Position). AllZip P p.reads thread.temporaries) law.3 at.temporaries);
            };
          }
      | inr keeps ↦
          absurd (subst (λ first. Frames split.planned here first site (place_of split host (suc thread.at))) keeps.is
          law.4)
    ]

-- ---- parameters

-- what is passed, with one parameter more
passed_last : (P : Argument → ℤ → Type 0) (set : List Argument) (given : List ℤ) (last : Argument) (value : ℤ) (y : ℕ) →
    AllZip P set given → AllByRecursion (λ (one : Argument). one.param.0 < last.param.0) set →
    passed (map (λ one. one.param) (set ++ last ∷ [])) (given ++ value ∷ []) y
    ≡ (if y == last.param.0 then value else passed (map (λ one. one.param) set) given y)
passed_last P [] [] last value y all below = refl
passed_last P [] (own ∷ given) last value y all below = absurd all
passed_last P (first ∷ set) [] last value y all below = absurd all
passed_last P (first ∷ set) (own ∷ given) last value y all below =
    let more = passed_last P set given last value y all.1 below.1 in
    let rest = passed (map (λ one. one.param) set) given y in
    elim (eqb_tells y last.param.0) [
      | inl same ↦
          ap (λ (b : Bool). if b then own
          else passed (map (λ one. one.param) (set ++ last ∷ [])) (given ++ value ∷ []) y)
          (ne_eqb y first.param.0 (λ at. omega (arith, at, same.1, below.0)))
          ∙ more
          ∙ ap (λ (b : Bool). if b then value else rest) same.0
          ∙ sym (ap (λ (b : Bool). if b then value
          else (if y == first.param.0 then own else rest)) same.0)
      | inr apart ↦
          ap (λ v. if y == first.param.0 then own else v)
          (more ∙ ap (λ (b : Bool). if b then value else rest) apart.0)
          ∙ sym (ap (λ (b : Bool). if b then value
          else (if y == first.param.0 then own else rest)) apart.0)
    ]

all_params : (P : VarId → Type 0) (params : List VarId) (values : List ExprTree) → AllByRecursion P params →
    AllByRecursion (λ (one : Argument). P one.param) (arguments_of params values)
all_params P params [] all = tt
all_params P [] (value ∷ values) all = tt
all_params P (param ∷ params) (value ∷ values) all = (all.0, all_params P params values all.1)

-- the parameters that are set are below the next
below_next : (params : List VarId) (values : List ExprTree) (set : List Argument) (next : Argument)
    (others : List Argument) → AreRising params → arguments_of params values ≡ set ++ next ∷ others →
    AllByRecursion (λ (one : Argument). one.param.0 < next.param.0) set
below_next params values [] next others rising is = tt
below_next params [] (first ∷ set) next others rising is = absurd (cc)
below_next [] (value ∷ values) (first ∷ set) next others rising is = absurd (cc)
below_next (param ∷ params) (value ∷ values) (first ∷ set) next others rising is =
    let own : Argument = record { param = param; value = value } in
    let one : own ≡ first = cc in
    let rest : arguments_of params values ≡ set ++ next ∷ others = cc in
    let all = all_right (λ (a : Argument). param.0 < a.param.0) set (next ∷ others)
    (subst (AllByRecursion (λ (a : Argument). param.0 < a.param.0)) rest
    (all_params (λ y. param.0 < y.0) params values rising.0)) in (
      subst (λ (a : Argument). a.param.0 < next.param.0) one all.0,
      below_next params values set next others rising.1 rest,
    )

rising_of : (split : Split) (method : MethodId) → AreRising (params_of (method_at split.planned.program method))
rising_of split method = by (method_at split.planned.program method) refl
  where
    by : (found : Option MethodTree) → method_at split.planned.program method ≡ found → AreRising (params_of found)
    by None is = tt
    by (Some tree) is = split.rising method.0 tree is

pub record Passes (split : Split) (c : Configuration) (view : View) (host : HostId) (thread : ThreadShape) (x : VarId)
    (value : ℤ) : Type 0 where
  pub sender : view.sender ≡ length c.calls
  pub within : length c.calls < view.naming.count
  pub new_frame : thread.new_frame ≡ view.naming.frame (length c.calls)
  pub plainly : NoneKept c
  pub from : BlockTree
  pub at : IsAt split c (after_setting split view host from (length c.calls) x value) host (after_clearing thread)

argued : (split : Split) (c : Configuration) (view : View) (host : HostId) (thread : ThreadShape)
    (variables : VarId → ℤ) (at : IsAt split c view host thread) → Agrees split c host at.call variables →
    (x : VarId) (nodes : List Node) (calling : Calling) → (place_of split host thread.at).calling ≡ calling →
    typing.Argues split.planned host (place_of split host thread.at) calling x nodes
    (place_of split host (suc thread.at)) →
    Passes split c view host thread x (value_of_nodes variables thread.temporaries nodes)
argued split c view host thread variables at agrees x nodes (arguing statement set left) is law =
    let here = place_of split host thread.at in
    let call = at.call in
    let count = length c.calls in
    let given = value_of_nodes variables thread.temporaries nodes in
    let args = subst (IsCalling split c view.naming view.values view.sender host thread.frame thread.new_frame call
    here.due) is at.calling in
    let own : Argument = record { param = x; value = law.value } in
    let block = trees.call args.heading args.site args.method args.arguments args.into done in
    let fit : IsFit split.code split.planned block =
    subst (IsFit split.code split.planned) args.is
    (fit_call split c call here.due (chain_due split view.chain) view.keeper statement args.others args.due_first
    at.left) in
    let parts = args.parts ∙ ap (λ list. set ++ list) law.is_next in
    let reader : IsReadingHost split.planned args.heading.id law.value =
    (all_right (λ (a : Argument). IsReadingHost split.planned args.heading.id a.value) set (own ∷ law.others)
    (subst (AllByRecursion (λ (a : Argument). IsReadingHost split.planned args.heading.id a.value)) parts
    (arguments_known (IsReadingHost split.planned args.heading.id)
    (params_of (method_at split.planned.program args.method)) args.arguments fit.0))).0 in
    let read = read_there split c host call variables agrees block
    (subst (λ b. is_on split.planned host b ≡ true) args.is law.on_host) law.value reader in
    let P = λ (one : Argument). MayTree split.exposure c.store (source.variable c.calls call) one.value in
    let may : MayTree split.exposure c.store (source.variable c.calls call) law.value given =
    subst (λ list. MayTree split.exposure c.store (source.variable c.calls call) law.value
    (value_of_nodes variables thread.temporaries list)) (sym law.is_value.are)
    (value_there split.exposure c.store (source.variable c.calls call) variables thread.temporaries here.reads [] []
    law.value 0 read at.temporaries (law.is_value.reads ∙ sym (append-nil (field_reads law.value))) refl) in
    let plainly = arguing_plainly split c view.keeper call here.due (chain_due split view.chain) statement args.others
    args.due_first at.left in
    let below = below_next (params_of (method_at split.planned.program args.method)) args.arguments set own law.others
    (rising_of split args.method) parts in
    record {
      sender = args.sender_is;
      within = subst (λ n. count < n) (sym args.count) (omega arith);
      new_frame = args.new_frame_is;
      plainly = plainly;
      from = statement;
      at = cleared split c (after_setting split view host statement count x given) host thread _ call at.made at.held
          at.left at.fits (record {
            count = args.count;
            frame_is = args.frame_is;
            new_frame_is = args.new_frame_is;
            sender_is = refl;
            caller = args.caller;
            others = args.others;
            due_first = args.due_first;
            on_host = args.on_host;
            heading = args.heading;
            site = args.site;
            method = args.method;
            arguments = args.arguments;
            into = args.into;
            is = args.is;
            method_is = args.method_is;
            parts = parts ∙ sym (append_assoc set (own ∷ []) law.others);
            given = args.given ++ given ∷ [];
            gives = zip_last P set args.given own given args.gives may;
            passed = λ y.
                ap (λ (b : Bool). if b then source.with_value (view.values count) x.0 given y else view.values count y)
                (eq-eqb count count refl)
                ∙ ap (λ v. if y == x.0 then given else v) (args.passed y)
                ∙ sym (passed_last P set args.given own given y args.gives below);
          }) (ap (λ out. out ++ forwards_of split.planned host statement x) at.forwards) (inr plainly) refl
          (thread.at + 1) (next_place split host thread ∙ law.goes);
    }
  where
    arguments_known : (P : ExprTree → Type 0) (params : List VarId) (values : List ExprTree) →
        AllByRecursion P values → AllByRecursion (λ (one : Argument). P one.value) (arguments_of params values)
    arguments_known P params [] all = tt
    arguments_known P [] (value ∷ values) all = tt
    arguments_known P (param ∷ params) (value ∷ values) all = (all.0, arguments_known P params values all.1)

    arguing_plainly : (split : Split) (c : Configuration) (keeper : HostId) (call : ℕ) (here : List DueWork)
        (rest : List Duty) (statement : BlockTree) (others : List DueWork) → here ≡ positions.run statement ∷ others →
        IsLeft split c keeper (under call here ++ rest) → NoneKept c
    arguing_plainly split c keeper call here rest statement others due left =
        elim (front_of split c keeper call here rest (positions.run statement) others due left) [
          | inl runs ↦ run_plainly c call runs.statement _ runs.pending
          | inr keeps ↦ absurd (let both = keeps.is in cc)
        ]
argued split c view host thread variables at agrees x nodes no_call is law = absurd law
argued split c view host thread variables at agrees x nodes (entering statement) is law = absurd law

pub arg_at : (split : Split) (c : Configuration) (view : View) (host : HostId) (thread : ThreadShape)
    (variables : VarId → ℤ) (at : IsAt split c view host thread) → Agrees split c host at.call variables →
    (x : VarId) (nodes : List Node) →
    Follows split.planned split.table.entries host (place_of split host thread.at) (op.Arg x nodes)
    (place_of split host (suc thread.at)) →
    Passes split c view host thread x (value_of_nodes variables thread.temporaries nodes)
arg_at split c view host thread variables at agrees x nodes law =
    argued split c view host thread variables at agrees x nodes (place_of split host thread.at).calling refl law
