-- A walk over the parameters of a method and over the methods of a draft.
use Rattle.std.proofs.Common.{◌≡◌, ℕ, suc, ◌+◌, ◌-◌, ◌*◌, ◌^◌, ◌<◌, ◌≤◌, Bool, true, false, if◌then◌else◌, List, []}
use Rattle.std.proofs.Common.{◌∷◌, ◌++◌, map, length, take, drop, get_or, All, Option, Some, None, refl, ap, sym, ◌∙◌}
use Rattle.std.proofs.Common.{subst, arith, slice_get}
use Rattle.std.specs.Option.{option_map, is_some}
use Rattle.std.specs.List.{flat_map}
use Rattle.std.proofs.lemmas.List.{length-append, length-map, take-map}
use Rattle.std.proofs.lemmas.List.Sums.{sum_by-append, sum_by-cons, sum_by-take-le}
use Rattle.std.proofs.lemmas.List.Elements.{All-head, All-tail}
use Rattle.std.proofs.lemmas.Option.{slice_get_within, get_or_from_slice_get}
use Rattle.js_base.specs.declared.limits.TheConstants.{METHODS, VARIABLES, STATEMENTS}
use Rattle.principals.specs.ActsFor.{Declared}
use Rattle.jif_tree.specs.declared.draft.Draft.{Draft}
use Rattle.jif_tree.specs.declared.draft.FieldDraft.{FieldDraft}
use Rattle.jif_tree.specs.declared.draft.LabelDraft.{LabelDraft}
use Rattle.jif_tree.specs.declared.draft.ParamDraft.{ParamDraft}
use Rattle.jif_tree.specs.declared.draft.MethodDraft.{MethodDraft}
use Rattle.jif_tree.specs.declared.draft.StmtKindDraft as kind
use Rattle.jif_tree.specs.declared.draft.StmtKindDraft.{StmtKindDraft}
use Rattle.jif_tree.specs.declared.draft.StmtDraft.{StmtDraft}
use Rattle.jif_grammar.specs.DraftShapes.{Start, BlockShape, end_shape, declaration_shape, assignment_shape}
use Rattle.jif_grammar.specs.DraftShapes.{element_assignment_shape, branch_shape, loop_shape, call_shape, return_shape}
use Rattle.jif_grammar.specs.DraftShapes.{ParamShape, MethodShape, DraftShape, param_shape, method_shape}
use Rattle.jif_grammar.specs.DraftShapes.{statement_shape, block_shape, label_shape, field_shape, draft_shape}
use Rattle.jif_resolve.specs.declared.fault.Fault.{Fault}
use Rattle.jif_resolve.specs.Counts.{locals_in, statements_in, calls_in}
use Rattle.jif_resolve.specs.Meanings.{Global, has_result, globals_of}
use Rattle.jif_resolve.specs.Places.{Setting, Place, after_variable, after_params, after_block}
use Rattle.jif_resolve.specs.Places.{variables_in, numbered_in, counted, head_after, body_place}
use Rattle.jif_resolve.specs.Faults.{label_faults, params_faults, ends_in_return}
use Rattle.jif_resolve.specs.Faults.{method_faults, methods_faults, global_faults, faults_of}
use Rattle.jif_resolve.specs.First.{with_faults}
use Rattle.jif_resolve.specs.KnownNames.{IsCounted, after_method}
use Rattle.jif_resolve.specs.Sizes.{KeepsLimits, MethodKeepsLimits}
use Rattle.jif_resolve.specs.Walks.{is_return}
use Rattle.jif_resolve.proofs.Cleanly.{shapes_more}
use Rattle.jif_resolve.proofs.Walks.{at_place}
use Rattle.jif_resolve.proofs.Sooner.{faults_joined}

-- ---- lists of drafts, from a place on

pub shapes_from : {X Y : Type 0} (shape : X → Y) (xs : List X) (i : ℕ) (x : X) → i < length xs → x ≡ get_or xs i x →
    map shape (drop i xs) ≡ shape x ∷ map shape (drop (i + 1) xs)
shapes_from shape xs i x less read = ap (map shape) (at_place xs i x less read)

-- ---- parameters

pub record ParamsSoFar (s : Setting) (start : Place) (first : Option Fault) (params : List ParamDraft) (i : ℕ)
    (p : Place) (found : Option Fault) : Type 0 where
  pub faults : with_faults found (params_faults s p (map param_shape (drop i params)))
      ≡ with_faults first (params_faults s start (map param_shape params))
  pub place : after_params p (map param_shape (drop i params)) ≡ after_params start (map param_shape params)

-- as many names more are taken as there are parameters, and nothing else is counted
pub params_taken : (p : Place) (params : List ParamShape) →
    ((after_params p params).first ≡ p.first)
    × (length (after_params p params).earlier ≡ length p.earlier + length params)
    × ((after_params p params).statement ≡ p.statement)
    × ((after_params p params).site ≡ p.site)
params_taken p [] = (refl, (let same : length p.earlier ≡ length p.earlier + 0 = omega arith in same), refl, refl)
params_taken p (param ∷ params) =
    let rest = params_taken (after_variable p param.name) params in
    let long = length-append p.earlier (param.name.text ∷ []) in
    let here = rest.1 in
    let all : length (after_params p (param ∷ params)).earlier ≡ length p.earlier + length (param ∷ params) =
    omega (arith, long, here) in
    (rest.0, all, rest.2, rest.3)

pub params_counted : (p : Place) (params : List ParamShape) → IsCounted (after_params p params) → IsCounted p
params_counted p params counted =
    let taken = params_taken p params in
    let a = taken.0 in
    let b = taken.1 in
    let c = taken.2 in
    let d = taken.3 in
    let x = counted.variables in
    let y = counted.statements in
    let z = counted.sites in
    record {
      variables = omega (arith, a, b, x);
      statements = omega (arith, c, y);
      sites = omega (arith, d, z);
    }

pub param_counted : {s : Setting} {start : Place} {first : Option Fault} {params : List ParamDraft} {i : ℕ}
    {p : Place} {found : Option Fault} (x : ParamDraft) → IsCounted (after_params start (map param_shape params)) →
    ParamsSoFar s start first params i p found → i < length params → x ≡ get_or params i x →
    IsCounted (after_variable p (param_shape x).name)
param_counted {s} {start} {first} {params} {i} {p} {found} x counted so_far less read =
    let rest = map param_shape (drop (i + 1) params) in
    let same : after_params start (map param_shape params) ≡ after_params (after_variable p (param_shape x).name) rest =
    sym so_far.place ∙ ap (after_params p) (shapes_from param_shape params i x less read) in
    params_counted (after_variable p (param_shape x).name) rest (subst IsCounted same counted)

-- ---- the last statement

-- whether some statement stands in a block
abbrev has_more : BlockShape → Bool
has_more end_shape = false
has_more (declaration_shape start label name value rest) = true
has_more (assignment_shape start name value rest) = true
has_more (element_assignment_shape start name index value rest) = true
has_more (branch_shape start guard first second rest) = true
has_more (loop_shape start guard body rest) = true
has_more (call_shape start name args into rest) = true
has_more (return_shape start value rest) = true

last_alone : (k : StmtKindDraft) (start : Start) → ends_in_return (statement_shape k start end_shape) ≡ is_return k
last_alone (kind.Declare label name value) start = refl
last_alone (kind.Assign name value) start = refl
last_alone (kind.AssignElement name index value) start = refl
last_alone (kind.If' guard m first n second) start = refl
last_alone (kind.While' guard m body) start = refl
last_alone (kind.Call name args into) start = refl
last_alone (kind.Return value) start = refl

-- a statement before others does not matter
return_before : (start : Start) (k : StmtKindDraft) (rest : BlockShape) → has_more rest ≡ true →
    ends_in_return (statement_shape k start rest) ≡ ends_in_return rest
return_before start (kind.Declare label name value) rest more = refl
return_before start (kind.Assign name value) rest more = refl
return_before start (kind.AssignElement name index value) rest more = refl
return_before start (kind.If' guard m first n second) rest more = refl
return_before start (kind.While' guard m body) rest more = refl
return_before start (kind.Call name args into) rest more = refl
return_before start (kind.Return value) end_shape more = absurd cc
return_before start (kind.Return value) (declaration_shape s label name v rest) more = refl
return_before start (kind.Return value) (assignment_shape s name v rest) more = refl
return_before start (kind.Return value) (element_assignment_shape s name index v rest) more = refl
return_before start (kind.Return value) (branch_shape s guard first second rest) more = refl
return_before start (kind.Return value) (loop_shape s guard body rest) more = refl
return_before start (kind.Return value) (call_shape s name args into rest) more = refl
return_before start (kind.Return value) (return_shape s v rest) more = refl

one_has_more : (k : StmtKindDraft) (start : Start) (rest : BlockShape) →
    has_more (statement_shape k start rest) ≡ true
one_has_more (kind.Declare label name value) start rest = refl
one_has_more (kind.Assign name value) start rest = refl
one_has_more (kind.AssignElement name index value) start rest = refl
one_has_more (kind.If' guard m first n second) start rest = refl
one_has_more (kind.While' guard m body) start rest = refl
one_has_more (kind.Call name args into) start rest = refl
one_has_more (kind.Return value) start rest = refl

last_is : (block : List StmtDraft) (x : StmtDraft) → 0 < length block →
    x ≡ get_or block (length block - 1) x → ends_in_return (block_shape block) ≡ is_return x.kind
last_is [] x some read = absurd (omega arith)
last_is (y ∷ []) x some read = last_alone y.kind _ ∙ ap (λ z. is_return z.kind) (sym read)
last_is (y ∷ z ∷ zs) x some read =
    let back : length (y ∷ z ∷ zs) - 1 ≡ suc (length (z ∷ zs) - 1) = omega arith in
    let inner : x ≡ get_or (z ∷ zs) (length (z ∷ zs) - 1) x = read ∙ ap (λ n. get_or (y ∷ z ∷ zs) n x) back in
    let more : 0 < length (z ∷ zs) = omega arith in
    return_before _ y.kind (block_shape (z ∷ zs)) (one_has_more z.kind _ (block_shape zs))
    ∙ last_is (z ∷ zs) x more inner

pub last_returns : (block : List StmtDraft) (x : StmtDraft) → slice_get block (length block - 1) ≡ Some x →
    ends_in_return (block_shape block) ≡ is_return x.kind
last_returns block x is =
    let within = slice_get_within block (length block - 1) x is in
    let some : 0 < length block = omega (arith, within) in
    last_is block x some (sym (get_or_from_slice_get block (length block - 1) x x is))

-- ---- heads of methods

pub gives_is : (result : Option LabelDraft) → is_some result ≡ has_result (option_map label_shape result)
gives_is None = refl
gives_is (Some label) = refl

abbrev begin_at : ℕ → ℕ → ℕ → Place
begin_at first statement site =
    record { first = first; earlier = []; known = []; statement = statement; site = site }

-- behind a method stands the head of the next one
pub next_head : (before : List MethodShape) (m : MethodShape) →
    after_method (has_result m.result) (after_block (body_place (head_after before) m) m.body)
    ≡ head_after (before ++ m ∷ [])
next_head before m =
    let head = head_after before in
    let taken = params_taken head m.params in
    let at_first = taken.0 in
    let at_earlier = taken.1 in
    let at_statement = taken.2 in
    let at_site = taken.3 in
    let calls : MethodShape → ℕ = λ method. calls_in method.body in
    let variables = sum_by-append variables_in before (m ∷ []) in
    let statements = sum_by-append numbered_in before (m ∷ []) in
    let sites = sum_by-append calls before (m ∷ []) in
    let names = map (λ local. local.name.text) (locals_in m.body) in
    let all = length-append (after_params head m.params).earlier names in
    let locals : length names ≡ length (locals_in m.body) = length-map (locals_in m.body) (λ local. local.name.text) in
    let result = if has_result m.result then 1 else 0 in
    let one : (after_params head m.params).first + length ((after_params head m.params).earlier ++ names) + result
    ≡ counted variables_in (before ++ m ∷ []) =
    omega (arith, at_first, at_earlier, variables, all, locals) in
    let two : (after_params head m.params).statement + 1 + statements_in m.body
    ≡ counted numbered_in (before ++ m ∷ []) =
    omega (arith, at_statement, statements) in
    let three : (after_params head m.params).site + calls_in m.body ≡ 1 + counted calls (before ++ m ∷ []) =
    omega (arith, at_site, sites) in
    heads_same one two three
  where
    heads_same : {a b c d e f : ℕ} → a ≡ b → c ≡ d → e ≡ f →
        begin_at a c e ≡ begin_at b d f
    heads_same {a} {b} {c} {d} {e} {f} one two three =
        ap (λ x. begin_at x c e) one ∙ ap (λ x. begin_at b x e) two ∙ ap (λ x. begin_at b d x) three

-- ---- sizes

calls_few : (b : BlockShape) → calls_in b ≤ statements_in b
calls_few end_shape = omega arith
calls_few (declaration_shape start label name value rest) = let r = calls_few rest in omega (arith, r)
calls_few (assignment_shape start name value rest) = let r = calls_few rest in omega (arith, r)
calls_few (element_assignment_shape start name index value rest) = let r = calls_few rest in omega (arith, r)
calls_few (branch_shape start guard first second rest) =
    let x = calls_few first in
    let y = calls_few second in
    let r = calls_few rest in
    omega (arith, x, y, r)
calls_few (loop_shape start guard body rest) =
    let x = calls_few body in
    let r = calls_few rest in
    omega (arith, x, r)
calls_few (call_shape start name args into rest) = let r = calls_few rest in omega (arith, r)
calls_few (return_shape start value rest) = let r = calls_few rest in omega (arith, r)

sites_few : (methods : List MethodShape) →
    counted (λ method. calls_in method.body) methods ≤ counted numbered_in methods
sites_few [] = omega arith
sites_few (m ∷ methods) =
    let one = calls_few m.body in
    let rest = sites_few methods in
    let calls : counted (λ method. calls_in method.body) (m ∷ methods)
    ≡ calls_in m.body + counted (λ method. calls_in method.body) methods =
    sum_by-cons (λ method. calls_in method.body) m methods in
    let all : counted numbered_in (m ∷ methods) ≡ numbered_in m + counted numbered_in methods =
    sum_by-cons numbered_in m methods in
    omega (arith, one, rest, calls, all)

result_few : (b : Bool) → (if b then 1 else 0) ≤ 1
result_few true = omega arith
result_few false = omega arith

variables_few : (methods : List MethodShape) → All MethodKeepsLimits methods →
    counted variables_in methods ≤ (VARIABLES + 1) * length methods
variables_few [] each = omega arith
variables_few (m ∷ methods) each =
    let one = (All-head MethodKeepsLimits m methods each).variables in
    let result = result_few (has_result m.result) in
    let rest = variables_few methods (All-tail MethodKeepsLimits m methods each) in
    let all : counted variables_in (m ∷ methods) ≡ variables_in m + counted variables_in methods =
    sum_by-cons variables_in m methods in
    omega (arith, one, result, rest, all)

-- what is counted up to the head of a method
pub record FewBefore (p : Place) : Type 0 where
  pub variables : p.first ≤ (VARIABLES + 1) * METHODS
  pub statements : p.statement ≤ STATEMENTS
  pub sites : p.site ≤ STATEMENTS + 1

pub few_before : (draft : DraftShape) → KeepsLimits draft → (k : ℕ) → FewBefore (head_after (take k draft.methods))
few_before draft kept k =
    let ms = draft.methods in
    let calls : MethodShape → ℕ = λ method. calls_in method.body in
    let long = kept.methods in
    let all = kept.statements in
    let variables = variables_few ms kept.each in
    let some_variables = sum_by-take-le variables_in ms k in
    let some_statements = sum_by-take-le numbered_in ms k in
    let some_sites = sum_by-take-le calls ms k in
    let sites = sites_few ms in
    record {
      variables = omega (arith, long, variables, some_variables);
      statements = omega (arith, all, some_statements);
      sites = omega (arith, all, some_sites, sites);
    }

-- ---- methods

pub record MethodsSoFar (principals : Declared) (globals : List Global) (first : Option Fault)
    (methods : List MethodDraft) (i : ℕ) (p : Place) (found : Option Fault) : Type 0 where
  pub faults : with_faults found
      (methods_faults principals globals (map method_shape (take i methods)) (map method_shape (drop i methods)))
      ≡ with_faults first (methods_faults principals globals [] (map method_shape methods))
  pub place : p ≡ head_after (map method_shape (take i methods))

next_place : {principals : Declared} {globals : List Global} {first : Option Fault} {methods : List MethodDraft}
    {i : ℕ} {p : Place} {found : Option Fault} (x : MethodDraft) →
    MethodsSoFar principals globals first methods i p found → i < length methods → x ≡ get_or methods i x →
    after_method (has_result (method_shape x).result)
    (after_block (body_place p (method_shape x)) (method_shape x).body)
    ≡ head_after (map method_shape (take (i + 1) methods))
next_place {principals} {globals} {first} {methods} {i} {p} {found} x so_far less read =
    let m = method_shape x in
    ap (λ q. after_method (has_result m.result) (after_block (body_place q m) m.body)) so_far.place
    ∙ next_head (map method_shape (take i methods)) m
    ∙ ap head_after (sym (shapes_more method_shape methods i x less read))

pub method_few : {principals : Declared} {globals : List Global} {first : Option Fault} {i : ℕ}
    {p : Place} {found : Option Fault} (draft : Draft) (methods : List MethodDraft) (x : MethodDraft) →
    KeepsLimits (draft_shape draft) → methods ≡ draft.methods.items →
    MethodsSoFar principals globals first methods i p found → i < length methods →
    x ≡ get_or methods i x →
    FewBefore (after_method (has_result (method_shape x).result)
    (after_block (body_place p (method_shape x)) (method_shape x).body))
method_few {principals} {globals} {first} {i} {p} {found} draft methods x kept are so_far less read =
    let few = subst (λ ms. FewBefore (head_after (take (i + 1) (map method_shape ms)))) (sym are)
    (few_before (draft_shape draft) kept (i + 1)) in
    let same : take (i + 1) (map method_shape methods) ≡ map method_shape (take (i + 1) methods) =
    take-map method_shape (i + 1) methods in
    let head = ap head_after same in
    subst FewBefore (sym (next_place x so_far less read)) (subst FewBefore head few)

pub method_counted : {principals : Declared} {globals : List Global} {first : Option Fault} {i : ℕ}
    {p : Place} {found : Option Fault} (draft : Draft) (methods : List MethodDraft) (x : MethodDraft) →
    KeepsLimits (draft_shape draft) → methods ≡ draft.methods.items →
    MethodsSoFar principals globals first methods i p found → i < length methods →
    x ≡ get_or methods i x →
    IsCounted (after_block (body_place p (method_shape x)) (method_shape x).body)
method_counted draft methods x kept are so_far less read =
    let few = method_few draft methods x kept are so_far less read in
    let a = few.variables in
    let b = few.statements in
    let c = few.sites in
    record { variables = omega (arith, a); statements = omega (arith, b); sites = omega (arith, c) }

pub next_fits : {principals : Declared} {globals : List Global} {first : Option Fault} {i : ℕ} {p : Place}
    {found : Option Fault} (draft : Draft) (methods : List MethodDraft) (x : MethodDraft) (behind : Place) →
    KeepsLimits (draft_shape draft) → methods ≡ draft.methods.items →
    MethodsSoFar principals globals first methods i p found → i < length methods →
    x ≡ get_or methods i x →
    behind ≡ after_block (body_place p (method_shape x)) (method_shape x).body →
    behind.first + length behind.earlier + 1 < 2 ^ 32
next_fits draft methods x behind kept are so_far less read passed =
    let few = method_few draft methods x kept are so_far less read in
    let a = few.variables in
    let same = ap (λ (q : Place). q.first + length q.earlier) passed in
    omega (arith, a, same)

pub methods_go_on : {principals : Declared} {globals : List Global} {first : Option Fault}
    {methods : List MethodDraft} {i : ℕ} {p : Place} {found : Option Fault} (x : MethodDraft) (gives : Bool)
    (behind next : Place) (sooner : Option Fault) →
    MethodsSoFar principals globals first methods i p found → i < length methods → x ≡ get_or methods i x →
    gives ≡ has_result (method_shape x).result →
    behind ≡ after_block (body_place p (method_shape x)) (method_shape x).body →
    next ≡ after_method gives behind →
    sooner ≡ with_faults found
    (method_faults (record { principals = principals; globals = globals; gives = gives }) p (method_shape x)) →
    MethodsSoFar principals globals first methods (i + 1) next sooner
methods_go_on {principals} {globals} {first} {methods} {i} {p} {found} x gives behind next sooner so_far less read
    given passed gone faults =
    let m = method_shape x in
    let before = map method_shape (take i methods) in
    let after = map method_shape (drop (i + 1) methods) in
    let own : Bool → Place → List Fault =
    λ b q. method_faults (record { principals = principals; globals = globals; gives = b }) q m in
    let rest : List MethodShape → List Fault = λ done. methods_faults principals globals done after in
    let here : own gives p ≡ own (has_result m.result) (head_after before) =
    ap (λ b. own b p) given ∙ ap (own (has_result m.result)) so_far.place in
    record {
      faults = ap (λ done. with_faults sooner (rest done)) (shapes_more method_shape methods i x less read)
          ∙ ap (λ f. with_faults f (rest (before ++ m ∷ []))) (faults ∙ ap (with_faults found) here)
          ∙ sym (faults_joined found (own (has_result m.result) (head_after before)) (rest (before ++ m ∷ [])))
          ∙ ap (λ ms. with_faults found (methods_faults principals globals before ms))
          (sym (shapes_from method_shape methods i x less read))
          ∙ so_far.faults;
      place = gone ∙ ap (after_method gives) passed
          ∙ ap (λ b. after_method b (after_block (body_place p m) m.body)) given
          ∙ next_place x so_far less read;
    }

-- ---- drafts

-- the faults of names, of fields and of methods are those of the draft
pub whole_draft : (principals : Declared) (draft : Draft) (globals : List Global) (repeated : Option Fault)
    (fields : List FieldDraft) (labelled : Option Fault) → globals ≡ globals_of (draft_shape draft) →
    repeated ≡ with_faults None (flat_map (λ global. global_faults globals global.name) globals) →
    fields ≡ draft.fields.items →
    labelled ≡ with_faults repeated (flat_map (λ field. label_faults principals field.label) (map field_shape fields)) →
    with_faults labelled (methods_faults principals globals [] (draft_shape draft).methods)
    ≡ with_faults None (faults_of principals (draft_shape draft))
whole_draft principals draft globals repeated fields labelled are in_names fields_are in_fields =
    let names : List Global → List Fault = λ gs. flat_map (λ global. global_faults gs global.name) gs in
    let labels : List FieldDraft → List Fault =
    λ fs. flat_map (λ field. label_faults principals field.label) (map field_shape fs) in
    let bodies : List Global → List Fault =
    λ gs. methods_faults principals gs [] (draft_shape draft).methods in
    let all = globals_of (draft_shape draft) in
    let items = draft.fields.items in
    ap (λ gs. with_faults labelled (bodies gs)) are
    ∙ ap (λ f. with_faults f (bodies all)) in_fields
    ∙ ap (λ fs. with_faults (with_faults repeated (labels fs)) (bodies all)) fields_are
    ∙ ap (λ f. with_faults (with_faults f (labels items)) (bodies all)) in_names
    ∙ ap (λ gs. with_faults (with_faults (with_faults None (names gs)) (labels items)) (bodies all)) are
    ∙ ap (λ f. with_faults f (bodies all)) (sym (faults_joined None (names all) (labels items)))
    ∙ sym (faults_joined None (names all ++ labels items) (bodies all))
