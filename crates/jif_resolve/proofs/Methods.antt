-- The methods of a program, made one by one.
use Rattle.std.proofs.Common.{◌≡◌, ℕ, ◌+◌, ◌^◌, ◌<◌, Bool, List, [], ◌∷◌, ◌++◌, map, length, take, drop}
use Rattle.std.proofs.Common.{get_or, refl, ap, sym, ◌∙◌, subst, arith}
use Rattle.std.proofs.lemmas.List.{append-nil, append_assoc, map-append, length-append, length-map}
use Rattle.js_base.specs.declared.ids.VarId.{VarId}
use Rattle.js_base.specs.declared.ids.StmtId.{StmtId}
use Rattle.js_base.proofs.Lists.{none_in_two}
use Rattle.principals.specs.ActsFor.{Declared}
use Rattle.jif_tree.specs.declared.draft.ParamDraft.{ParamDraft}
use Rattle.jif_tree.specs.declared.draft.MethodDraft.{MethodDraft}
use Rattle.jif_tree.specs.declared.draft.StmtDraft.{StmtDraft}
use Rattle.jif_tree.specs.declared.program.Method.{Method}
use Rattle.jif_tree.specs.declared.program.Stmt.{Stmt}
use Rattle.jif_tree.specs.Trees.{MethodTree, block_tree, method_tree}
use Rattle.jif_grammar.specs.DraftShapes.{NameShape, MethodShape, DraftShape, param_shape, block_shape, method_shape}
use Rattle.jif_resolve.specs.Counts.{locals_in}
use Rattle.jif_resolve.specs.Meanings.{Global, has_result}
use Rattle.jif_resolve.specs.Places.{Setting, Place, next_variable, after_variable, after_params, after_block}
use Rattle.jif_resolve.specs.Places.{head_after, body_place}
use Rattle.jif_resolve.specs.Faults.{setting_of, method_faults, methods_faults}
use Rattle.jif_resolve.specs.KnownNames.{IsCounted, after_method}
use Rattle.jif_resolve.specs.Sizes.{KeepsLimits}
use Rattle.jif_resolve.specs.Variables.{param_ids}
use Rattle.jif_resolve.specs.Resolved.{IsBlockFor, IsMethodFor, AreMethodsFor}
use Rattle.jif_resolve.proofs.MethodWalks.{FewBefore, shapes_from, params_taken, params_counted, next_head, few_before}

-- ---- parameters

-- the numbers so far, and those of the parameters that are left
pub record ParamIdsSoFar (start : Place) (params : List ParamDraft) (i : ℕ) (p : Place)
    (ids : List VarId) : Type 0 where
  pub place : after_params p (map param_shape (drop i params)) ≡ after_params start (map param_shape params)
  pub numbers : ids ++ param_ids (p.first + length p.earlier) (map param_shape (drop i params))
      ≡ param_ids (start.first + length start.earlier) (map param_shape params)

pub param_id_counted : {start : Place} {params : List ParamDraft} {i : ℕ} {p : Place} {ids : List VarId}
    (x : ParamDraft) → IsCounted (after_params start (map param_shape params)) → ParamIdsSoFar start params i p ids →
    i < length params → x ≡ get_or params i x → IsCounted (after_variable p (param_shape x).name)
param_id_counted {start} {params} {i} {p} {ids} x counted so_far less read =
    let rest = map param_shape (drop (i + 1) params) in
    let same : after_params start (map param_shape params) ≡ after_params (after_variable p (param_shape x).name) rest =
    sym so_far.place ∙ ap (after_params p) (shapes_from param_shape params i x less read) in
    params_counted (after_variable p (param_shape x).name) rest (subst IsCounted same counted)

pub has_room : (p : Place) (name : NameShape) → IsCounted (after_variable p name) →
    p.first + length p.earlier < 2 ^ 32
has_room p name counted =
    let long = length-append p.earlier (name.text ∷ []) in
    let all = counted.variables in
    omega (arith, long, all)

-- ---- a method

-- the result is the last variable
pub last_variable : (head : Place) (method : MethodShape) → head.earlier ≡ [] →
    next_variable (after_block (body_place head method) method.body)
    ≡ record { 0 = head.first + length method.params + length (locals_in method.body) }
last_variable head method fresh =
    let declared = after_params head method.params in
    let names = map (λ local. local.name.text) (locals_in method.body) in
    let taken = params_taken head method.params in
    let at_first = taken.0 in
    let at_earlier = taken.1 in
    let none : length head.earlier ≡ 0 = ap length fresh in
    let all = length-append declared.earlier names in
    let locals : length names ≡ length (locals_in method.body) =
    length-map (locals_in method.body) (λ local. local.name.text) in
    let count : declared.first + length (declared.earlier ++ names)
    ≡ head.first + length method.params + length (locals_in method.body) =
    omega (arith, at_first, at_earlier, none, all, locals) in
    ap (λ n. record { 0 = n }) count

abbrev pub numbered : ℕ → StmtId
numbered n = record { 0 = n }

pub statement_id : {m n : ℕ} → m ≡ n → numbered m ≡ numbered n
statement_id same = ap numbered same

-- behind the body, whose statements the code reads from a slice
pub behind_body : (head : Place) (method : MethodShape) (begin behind : Place) (body slice : List StmtDraft) →
    method.body ≡ block_shape body → begin ≡ body_place head method → slice ≡ body →
    behind ≡ after_block begin (block_shape slice) → behind ≡ after_block (body_place head method) method.body
behind_body head method begin behind body slice is begins same place =
    place ∙ ap (λ ys. after_block begin (block_shape ys)) same ∙ ap (after_block begin) (sym is)
    ∙ ap (λ q. after_block q method.body) begins

pub body_made : (s : Setting) (head : Place) (method : MethodShape) (begin : Place) (body slice : List StmtDraft)
    (made : List Stmt) → method.body ≡ block_shape body → begin ≡ body_place head method → slice ≡ body →
    IsBlockFor s begin (block_shape slice) (block_tree made) →
    IsBlockFor s (body_place head method) method.body (block_tree made)
body_made s head method begin body slice made is begins same block =
    subst (λ q. IsBlockFor s q method.body (block_tree made)) begins
    (subst (λ b. IsBlockFor s begin b (block_tree made)) (ap block_shape same ∙ sym is) block)

-- ---- methods that are taken out one by one

-- the methods so far, and those that are left: whatever is made of these, with it all is made
pub record MethodsMade (principals : Declared) (globals : List Global) (all front back : List MethodDraft) (p : Place)
    (methods : List Method) : Type 0 where
  pub whole : front ++ back ≡ all
  pub clean : methods_faults principals globals (map method_shape front) (map method_shape back) ≡ []
  pub place : p ≡ head_after (map method_shape front)
  pub made : (trees : List MethodTree) →
      AreMethodsFor principals globals (map method_shape front) (map method_shape back) trees →
      AreMethodsFor principals globals [] (map method_shape all) (map method_tree methods ++ trees)

pub methods_begin : (principals : Declared) (globals : List Global) (all back : List MethodDraft) (p : Place)
    (methods : List Method) → back ≡ all → p ≡ head_after [] → methods ≡ [] →
    methods_faults principals globals [] (map method_shape all) ≡ [] →
    MethodsMade principals globals all [] back p methods
methods_begin principals globals all back p methods same place none clean = record {
  whole = same;
  clean = ap (λ ys. methods_faults principals globals [] (map method_shape ys)) same ∙ clean;
  place = place;
  made = λ trees is.
      subst (λ ms. AreMethodsFor principals globals [] (map method_shape all) (map method_tree ms ++ trees))
      (sym none)
      (subst (λ ys. AreMethodsFor principals globals [] (map method_shape ys) trees) same is);
}

-- the next method has no fault, and none behind it has one
next_clean : {principals : Declared} {globals : List Global} {all front back : List MethodDraft} {p : Place}
    {methods : List Method} (x : MethodDraft) (rest : List MethodDraft) →
    MethodsMade principals globals all front back p methods → back ≡ x ∷ rest →
    (method_faults (setting_of principals globals (method_shape x)) (head_after (map method_shape front))
    (method_shape x)
    ≡ [])
    × (methods_faults principals globals (map method_shape front ++ method_shape x ∷ []) (map method_shape rest) ≡ [])
next_clean {principals} {globals} {all} {front} {back} {p} {methods} x rest so_far next =
    none_in_two
    (method_faults (setting_of principals globals (method_shape x)) (head_after (map method_shape front))
    (method_shape x))
    (methods_faults principals globals (map method_shape front ++ method_shape x ∷ []) (map method_shape rest))
    (ap (λ ys. methods_faults principals globals (map method_shape front) (map method_shape ys)) (sym next)
    ∙ so_far.clean)

pub method_clean : {principals : Declared} {globals : List Global} {all front back : List MethodDraft} {p : Place}
    {methods : List Method} (x : MethodDraft) (rest : List MethodDraft) (s : Setting) →
    MethodsMade principals globals all front back p methods → back ≡ x ∷ rest →
    s ≡ setting_of principals globals (method_shape x) → method_faults s p (method_shape x) ≡ []
method_clean {principals} {globals} {all} {front} {back} {p} {methods} x rest s so_far next setting =
    ap (λ t. method_faults t p (method_shape x)) setting
    ∙ ap (λ q. method_faults (setting_of principals globals (method_shape x)) q (method_shape x)) so_far.place
    ∙ (next_clean x rest so_far next).0

front_taken : {X : Type 0} (front back : List X) → take (length front) (front ++ back) ≡ front
front_taken [] back = refl
front_taken (x ∷ front) back = ap (λ xs. x ∷ xs) (front_taken front back)

pub few_next : {principals : Declared} {globals : List Global} {all front back : List MethodDraft} {p : Place}
    {methods : List Method} (x : MethodDraft) (rest : List MethodDraft) (draft : DraftShape) → KeepsLimits draft →
    draft.methods ≡ map method_shape all → MethodsMade principals globals all front back p methods →
    back ≡ x ∷ rest →
    FewBefore (after_method (has_result (method_shape x).result)
    (after_block (body_place p (method_shape x)) (method_shape x).body))
few_next {principals} {globals} {all} {front} {back} {p} {methods} x rest draft kept are so_far next =
    let m = method_shape x in
    let shapes = map method_shape front ++ m ∷ [] in
    let split : draft.methods ≡ shapes ++ map method_shape rest =
    are ∙ ap (map method_shape) (sym so_far.whole) ∙ map-append method_shape front back
    ∙ ap (λ ys. map method_shape front ++ map method_shape ys) next
    ∙ sym (append_assoc (map method_shape front) (m ∷ []) (map method_shape rest)) in
    let head : head_after (take (length shapes) draft.methods) ≡ head_after shapes =
    ap head_after (ap (take (length shapes)) split ∙ front_taken shapes (map method_shape rest)) in
    let place : after_method (has_result m.result) (after_block (body_place p m) m.body) ≡ head_after shapes =
    ap (λ q. after_method (has_result m.result) (after_block (body_place q m) m.body)) so_far.place
    ∙ next_head (map method_shape front) m in
    subst FewBefore (head ∙ sym place) (few_before draft kept (length shapes))

pub next_counted : {principals : Declared} {globals : List Global} {all front back : List MethodDraft} {p : Place}
    {methods : List Method} (x : MethodDraft) (rest : List MethodDraft) (draft : DraftShape) → KeepsLimits draft →
    draft.methods ≡ map method_shape all → MethodsMade principals globals all front back p methods →
    back ≡ x ∷ rest → IsCounted (after_block (body_place p (method_shape x)) (method_shape x).body)
next_counted x rest draft kept are so_far next =
    let few = few_next x rest draft kept are so_far next in
    let a = few.variables in
    let b = few.statements in
    let c = few.sites in
    record { variables = omega (arith, a); statements = omega (arith, b); sites = omega (arith, c) }

pub next_has_room : {principals : Declared} {globals : List Global} {all front back : List MethodDraft} {p : Place}
    {methods : List Method} (x : MethodDraft) (rest : List MethodDraft) (behind : Place) (draft : DraftShape) →
    KeepsLimits draft → draft.methods ≡ map method_shape all → MethodsMade principals globals all front back p methods →
    back ≡ x ∷ rest → behind ≡ after_block (body_place p (method_shape x)) (method_shape x).body →
    behind.first + length behind.earlier + 1 < 2 ^ 32
next_has_room x rest behind draft kept are so_far next passed =
    let few = few_next x rest draft kept are so_far next in
    let a = few.variables in
    let same = ap (λ (q : Place). q.first + length q.earlier) passed in
    omega (arith, a, same)

pub methods_more : {principals : Declared} {globals : List Global} {all front back : List MethodDraft} {p : Place}
    {methods : List Method} (x : MethodDraft) (rest : List MethodDraft) (s : Setting) (behind after : Place)
    (method : Method) → MethodsMade principals globals all front back p methods → back ≡ x ∷ rest →
    s ≡ setting_of principals globals (method_shape x) →
    behind ≡ after_block (body_place p (method_shape x)) (method_shape x).body → after ≡ after_method s.gives behind →
    IsMethodFor s p (method_shape x) (method_tree method) →
    MethodsMade principals globals all (front ++ x ∷ []) rest after (methods ++ method ∷ [])
methods_more {principals} {globals} {all} {front} {back} {p} {methods} x rest s behind after method so_far next setting
    passed gone is =
    let m = method_shape x in
    let before = map method_shape front in
    let shapes : map method_shape (front ++ x ∷ []) ≡ before ++ m ∷ [] = map-append method_shape front (x ∷ []) in
    let here : IsMethodFor (setting_of principals globals m) (head_after before) m (method_tree method) =
    subst (λ q. IsMethodFor (setting_of principals globals m) q m (method_tree method)) so_far.place
    (subst (λ t. IsMethodFor t p m (method_tree method)) setting is) in
    record {
      whole = append_assoc front (x ∷ []) rest ∙ ap (λ ys. front ++ ys) (sym next) ∙ so_far.whole;
      clean = ap (λ ys. methods_faults principals globals ys (map method_shape rest)) shapes
          ∙ (next_clean x rest so_far next).1;
      place = gone ∙ ap (λ (t : Setting). after_method t.gives behind) setting
          ∙ ap (after_method (has_result m.result)) passed
          ∙ ap (λ q. after_method (has_result m.result) (after_block (body_place q m) m.body)) so_far.place
          ∙ next_head before m ∙ ap head_after (sym shapes);
      made = λ trees others.
          let later : AreMethodsFor principals globals (before ++ m ∷ []) (map method_shape rest) trees =
          subst (λ ys. AreMethodsFor principals globals ys (map method_shape rest) trees) shapes others in
          let all_made = so_far.made (method_tree method ∷ trees)
          (subst (λ ys. AreMethodsFor principals globals before (map method_shape ys) (method_tree method ∷ trees))
          (sym next) (method_tree method, trees, refl, here, later)) in
          let trees_are : map method_tree (methods ++ method ∷ []) ++ trees
          ≡ map method_tree methods ++ method_tree method ∷ trees =
          ap (λ ts. ts ++ trees) (map-append method_tree methods (method ∷ []))
          ∙ append_assoc (map method_tree methods) (method_tree method ∷ []) trees in
          subst (AreMethodsFor principals globals [] (map method_shape all)) (sym trees_are) all_made;
    }

pub methods_all : {principals : Declared} {globals : List Global} {all front back : List MethodDraft} {p : Place}
    {methods : List Method} → MethodsMade principals globals all front back p methods → back ≡ [] →
    AreMethodsFor principals globals [] (map method_shape all) (map method_tree methods)
methods_all {principals} {globals} {all} {front} {back} {p} {methods} so_far none =
    subst (AreMethodsFor principals globals [] (map method_shape all)) (append-nil (map method_tree methods))
    (so_far.made [] (subst (λ ys. AreMethodsFor principals globals (map method_shape front) (map method_shape ys) [])
    (sym none) refl))

abbrev pub setting_with : Declared → List Global → Bool → Setting
setting_with principals globals gives = record { principals = principals; globals = globals; gives = gives }

pub gives_setting : (principals : Declared) (globals : List Global) (gives : Bool) (method : MethodShape) →
    gives ≡ has_result method.result → setting_with principals globals gives ≡ setting_of principals globals method
gives_setting principals globals gives method is = ap (setting_with principals globals) is
