-- Where the needs are those of the program, the host of each statement is one of those that read its variables.
use Rattle.std.proofs.Common.{zero, ◌≡◌, ◌≢◌, ◌∙◌, ℕ, suc, ◌<◌, ◌⊎◌, inl, inr, Bool, true, false, List, [], ◌∷◌}
use Rattle.std.proofs.Common.{◌++◌, map, length, Option, Some, None, refl, ap, sym, subst}
use Rattle.std.specs.Prelude.{◌||◌, cond, filter, nat_eq, slice_get, unwrap_or}
use Rattle.std.specs.List.{AllByRecursion, range_with_len, flat_map, list_any}
use Rattle.std.proofs.lemmas.Bool.{eq-eqb, ne_eqb}
use Rattle.std.proofs.lemmas.Option.{slice_get-map, slice_get_within}
use Rattle.std.specs.Option.{option_map}
use Rattle.js_base.specs.declared.ids.StmtId.{StmtId}
use Rattle.js_base.specs.declared.ids.VarId.{VarId}
use Rattle.js_base.specs.declared.ids.MethodId.{MethodId}
use Rattle.principals.specs.ActsFor.{Declared}
use Rattle.jif_tree.specs.LabelRules.{MethodSetting, setting_of, method_at, result_of}
use Rattle.jif_tree.specs.Results.{AreUnread, BlockReadsNoResult, IsNoResult, ReadsNoResult}
use Rattle.jif_tree.specs.Trees.{ExprTree, number, local, scalar, element, inverted, negated, binary, declassified}
use Rattle.jif_tree.specs.Trees.{endorsed, BlockTree, done, set_local, set_field, set_element, branch, loop}
use Rattle.jif_tree.specs.Trees.{call, give_back, MethodTree, ProgramTree}
use Rattle.jif_tree.specs.WellNumbered.{IsExprIn, IsBlockIn, AreMethodsIn, is_some}
use Rattle.host_code.specs.Code.{CodeShape}
use Rattle.need_labels.specs.Labelled.{Labelled}
use Rattle.need_labels.specs.Needs.{StatementUse, AreNeedsOf, variables_in, block_uses, method_uses}
use Rattle.need_labels.specs.Needs.{statement_uses, readers_of}
use Rattle.need_labels.specs.Plan.{statement_host}
use Rattle.msg_cost.specs.Moves.{PlannedShape}
use Rattle.msg_cost.specs.Terms.{reads_on}
use Rattle.split_rules.proofs.NumberedLists.{number_there}
use Rattle.typed_steps.specs.Readers.{SeeResults}
use Rattle.typed_steps.proofs.Basics.{all_both, all_left, all_right}
use Rattle.typed_steps.specs.Readers.{IsFit, IsReadingHost}

-- ---- uses among uses

abbrev pub IsIn : {X : Type 0} → X → List X → Type 0
IsIn x [] = ⊥
IsIn x (first ∷ xs) = (first ≡ x) ⊎ IsIn x xs

in_left : {X : Type 0} (x : X) (xs ys : List X) → IsIn x xs → IsIn x (xs ++ ys)
in_left x [] ys is_in = absurd is_in
in_left x (first ∷ xs) ys (inl same) = inl same
in_left x (first ∷ xs) ys (inr more) = inr (in_left x xs ys more)

in_right : {X : Type 0} (x : X) (xs ys : List X) → IsIn x ys → IsIn x (xs ++ ys)
in_right x [] ys is_in = is_in
in_right x (first ∷ xs) ys is_in = inr (in_right x xs ys is_in)

or_true : (b : Bool) → (b || true) ≡ true
or_true true = refl
or_true false = refl

any_in : {X : Type 0} (p : X → Bool) (x : X) (xs : List X) → IsIn x xs → p x ≡ true → list_any p xs ≡ true
any_in p x [] is_in passes = absurd is_in
any_in p x (first ∷ xs) (inl same) passes = rw (ap p same ∙ passes) refl
any_in p x (first ∷ xs) (inr more) passes = rw (any_in p x xs more passes) (or_true (p first))

behind_first : (first : StatementUse) (id : StmtId) (others : List StatementUse) (b : Bool) →
    IsIn id (map (λ other. other.id) others) → IsIn id (map (λ other. other.id) (cond b (first ∷ others) others))
behind_first first id others true is_in = inr is_in
behind_first first id others false is_in = is_in

-- a statement that reads a variable is among its readers
reads_in : (one : StatementUse) (x : VarId) (uses : List StatementUse) → IsIn one uses → IsIn x one.reads →
    IsIn one.id (readers_of uses x.0)
reads_in one x [] is_in reads = absurd is_in
reads_in one x (first ∷ uses) (inl same) reads =
    let own : list_any (λ read. nat_eq read.0 x.0) first.reads ≡ true =
    any_in (λ read. nat_eq read.0 x.0) x first.reads
    (subst (λ (other : StatementUse). IsIn x other.reads) (sym same) reads)
    (eq-eqb x.0 x.0 refl) in
    taken_first (list_any (λ read. nat_eq read.0 x.0) first.reads) own
  where
    rest : List StatementUse
    rest = filter (λ other. list_any (λ read. nat_eq read.0 x.0) other.reads) uses

    taken_first : (b : Bool) → b ≡ true → IsIn one.id (map (λ other. other.id) (cond b (first ∷ rest) rest))
    taken_first true is = inl (ap (λ (other : StatementUse). other.id) same)
    taken_first false is = absurd (cc)
reads_in one x (first ∷ uses) (inr more) reads =
    let others = filter (λ other. list_any (λ read. nat_eq read.0 x.0) other.reads) uses in
    behind_first first one.id others (list_any (λ read. nat_eq read.0 x.0) first.reads) (reads_in one x uses more reads)

-- ---- expressions

-- every variable that an expression reads is there
variables_there : (program : ProgramTree) (method : MethodId) (e : ExprTree) → IsExprIn program method e →
    AllByRecursion (λ x. x.0 < length program.vars) (variables_in e)
variables_there program method (number value) fits = tt
variables_there program method (local x) fits = (slice_get_within program.vars x.0 fits.0 fits.1, tt)
variables_there program method (scalar field) fits = tt
variables_there program method (element field index) fits = variables_there program method index fits.1
variables_there program method (inverted operand) fits = variables_there program method operand fits
variables_there program method (negated operand) fits = variables_there program method operand fits
variables_there program method (binary operator left right) fits =
    all_both (λ x. x.0 < length program.vars) (variables_in left) (variables_in right)
    (variables_there program method left fits.0) (variables_there program method right fits.1)
variables_there program method (declassified operand label) fits = variables_there program method operand fits
variables_there program method (endorsed operand label) fits = variables_there program method operand fits

-- the host of a statement reads what the statement reads
abbrev pub IsKnownUse : PlannedShape → StatementUse → Type 0
IsKnownUse planned one = (x : VarId) → IsIn x one.reads → x.0 < length planned.program.vars →
    reads_on planned x (statement_host planned.plan one.id).0 ≡ true

known_use : (principals : Declared) (labelled : Labelled) (planned : PlannedShape) →
    planned.program ≡ labelled.program → AreNeedsOf principals labelled planned.needs → (one : StatementUse) →
    IsIn one (statement_uses principals labelled) → IsKnownUse planned one
known_use principals labelled planned same are one is_in x reads within =
    let uses = statement_uses principals labelled in
    let host = (statement_host planned.plan one.id).0 in
    let many = length labelled.program.vars in
    let inside : x.0 < many = subst (λ (p : ProgramTree). x.0 < length p.vars) same within in
    let row : slice_get planned.needs.readers x.0 ≡ Some (readers_of uses x.0) =
    ap (λ list. slice_get list x.0) are.readers
    ∙ slice_get-map (readers_of uses) (range_with_len 0 many) x.0
    ∙ ap (option_map (readers_of uses)) (number_there many x.0 inside) in
    ap (λ found. list_any (λ statement. nat_eq (statement_host planned.plan statement).0 host) (unwrap_or found [])) row
    ∙ any_in (λ statement. nat_eq (statement_host planned.plan statement).0 host) one.id (readers_of uses x.0)
    (reads_in one x uses is_in reads) (eq-eqb host host refl)

-- the host of a statement reads the variables of an expression all of which the statement reads
is_reader : (planned : PlannedShape) (method : MethodId) (id : StmtId) (reads : List VarId) (e : ExprTree) →
    IsExprIn planned.program method e →
    ((x : VarId) → IsIn x reads → x.0 < length planned.program.vars →
    reads_on planned x (statement_host planned.plan id).0 ≡ true) →
    ((x : VarId) → IsIn x (variables_in e) → IsIn x reads) → IsReadingHost planned id e
is_reader planned method id reads e fits known among =
    each (variables_in e) (variables_there planned.program method e fits) among
  where
    each : (xs : List VarId) → AllByRecursion (λ x. x.0 < length planned.program.vars) xs →
        ((x : VarId) → IsIn x xs → IsIn x reads) →
        AllByRecursion (λ x. reads_on planned x (statement_host planned.plan id).0 ≡ true) xs
    each [] within inside = tt
    each (x ∷ xs) within inside =
        (known x (inside x (inl refl)) within.0, each xs within.1 (λ y is_in. inside y (inr is_in)))

-- ---- blocks

all_from : {X : Type 0} (P : X → Type 0) (xs : List X) → ((x : X) → IsIn x xs → P x) → AllByRecursion P xs
all_from P [] each = tt
all_from P (x ∷ xs) each = (each x (inl refl), all_from P xs (λ y is_in. each y (inr is_in)))

each_reader : (planned : PlannedShape) (method : MethodId) (id : StmtId) (values : List ExprTree) →
    AllByRecursion (IsExprIn planned.program method) values →
    ((x : VarId) → IsIn x (flat_map variables_in values) → x.0 < length planned.program.vars →
    reads_on planned x (statement_host planned.plan id).0 ≡ true) → AllByRecursion (IsReadingHost planned id) values
each_reader planned method id [] fit known = tt
each_reader planned method id (value ∷ values) fit known = (
  is_reader planned method id (flat_map variables_in (value ∷ values)) value fit.0 known
      (λ x is_in. in_left x (variables_in value) (flat_map variables_in values) is_in),
  each_reader planned method id values fit.1
      (λ x is_in within. known x (in_right x (variables_in value) (flat_map variables_in values) is_in) within),
)

same_result : (found : Option MethodTree) (tree : MethodTree) (gives : Bool) → found ≡ Some tree →
    is_some tree.result ≡ gives → gives ≡ is_some (result_of found)
same_result None tree gives is has = absurd (cc)
same_result (Some other) tree gives is has =
    let same : other ≡ tree = cc in
    sym has ∙ ap (λ (m : MethodTree). is_some m.result) (sym same)

block_fit : (labelled : Labelled) (code : CodeShape) (planned : PlannedShape) (setting : MethodSetting)
    (method : MethodId) (gives : Bool) (block : BlockTree) → IsBlockIn planned.program method gives block →
    SeeResults code planned block → AllByRecursion (IsKnownUse planned) (block_uses labelled setting block) →
    IsFit code planned block
block_fit labelled code planned setting method gives done fits sees known = tt
block_fit labelled code planned setting method gives (set_local heading x value rest) fits sees known = (
  is_reader planned method heading.id (variables_in value ++ []) value fits.1 known.0
      (λ y is_in. in_left y (variables_in value) [] is_in),
  block_fit labelled code planned setting method gives rest fits.2 sees known.1,
)
block_fit labelled code planned setting method gives (set_field heading field value rest) fits sees known = (
  is_reader planned method heading.id (variables_in value ++ []) value fits.1 known.0
      (λ y is_in. in_left y (variables_in value) [] is_in),
  block_fit labelled code planned setting method gives rest fits.2 sees known.1,
)
block_fit labelled code planned setting method gives (set_element heading field index value rest) fits sees known =
    let reads = variables_in index ++ (variables_in value ++ []) in (
      is_reader planned method heading.id reads index fits.1 known.0
          (λ y is_in. in_left y (variables_in index) (variables_in value ++ []) is_in),
      is_reader planned method heading.id reads value fits.2 known.0
          (λ y is_in. in_right y (variables_in index) (variables_in value ++ [])
          (in_left y (variables_in value) [] is_in)),
      block_fit labelled code planned setting method gives rest fits.3 sees known.1,
    )
block_fit labelled code planned setting method gives (branch heading guard first second rest) fits sees known =
    let P = IsKnownUse planned in
    let one = block_uses labelled setting first in
    let two = block_uses labelled setting second in
    let behind = block_uses labelled setting rest in
    let inside = all_left P (one ++ two) behind known.1 in (
      is_reader planned method heading.id (variables_in guard ++ []) guard fits.0 known.0
          (λ y is_in. in_left y (variables_in guard) [] is_in),
      block_fit labelled code planned setting method gives first fits.1 sees.0 (all_left P one two inside),
      block_fit labelled code planned setting method gives second fits.2 sees.1 (all_right P one two inside),
      block_fit labelled code planned setting method gives rest fits.3 sees.2
          (all_right P (one ++ two) behind known.1),
    )
block_fit labelled code planned setting method gives (loop heading guard body rest) fits sees known =
    let P = IsKnownUse planned in
    let inside = block_uses labelled setting body in
    let behind = block_uses labelled setting rest in (
      is_reader planned method heading.id (variables_in guard ++ []) guard fits.0 known.0
          (λ y is_in. in_left y (variables_in guard) [] is_in),
      block_fit labelled code planned setting method gives body fits.1 sees.0 (all_left P inside behind known.1),
      block_fit labelled code planned setting method gives rest fits.2 sees.1 (all_right P inside behind known.1),
    )
block_fit labelled code planned setting method gives (call heading site called arguments into rest) fits sees known = (
  each_reader planned method heading.id arguments fits.1 known.0,
  same_result (method_at planned.program called) fits.0.0 (is_some into) fits.0.1 fits.0.3,
  sees.0,
  block_fit labelled code planned setting method gives rest fits.3 sees.1 known.1,
)
block_fit labelled code planned setting method gives (give_back heading value rest) fits sees known = (
  is_reader planned method heading.id (variables_in value ++ []) value fits.1 known.0
      (λ y is_in. in_left y (variables_in value) [] is_in),
  block_fit labelled code planned setting method gives rest fits.2 sees known.1,
)

-- ---- programs

method_fit : (principals : Declared) (labelled : Labelled) (code : CodeShape) (planned : PlannedShape) (first : ℕ)
    (methods : List MethodTree) → AreMethodsIn planned.program first methods →
    AllByRecursion (IsKnownUse planned) (flat_map (method_uses principals labelled) methods) → (place : ℕ)
    (tree : MethodTree) → slice_get methods place ≡ Some tree → SeeResults code planned tree.body →
    IsFit code planned tree.body
method_fit principals labelled code planned first [] fits known place tree is sees = absurd (cc)
method_fit principals labelled code planned first (method ∷ methods) fits known zero tree is sees =
    let own = method_uses principals labelled method in
    let others = flat_map (method_uses principals labelled) methods in
    let same : method ≡ tree = cc in
    let here = subst (λ (m : MethodTree). SeeResults code planned m.body) (sym same) sees in
    subst (λ (m : MethodTree). IsFit code planned m.body) same
    (block_fit labelled code planned (setting_of principals labelled.program method) (record { 0 = first }) _
    method.body fits.0.body here (all_left (IsKnownUse planned) own others known).1)
method_fit principals labelled code planned first (method ∷ methods) fits known (suc place) tree is sees =
    let own = method_uses principals labelled method in
    let others = flat_map (method_uses principals labelled) methods in
    method_fit principals labelled code planned (suc first) methods fits.1
    (all_right (IsKnownUse planned) own others known) place tree is sees

-- the host of each statement of a method reads the variables of its expressions, and may see what it calls for
pub body_fit : (principals : Declared) (labelled : Labelled) (code : CodeShape) (planned : PlannedShape) →
    planned.program ≡ labelled.program → AreNeedsOf principals labelled planned.needs →
    AreMethodsIn planned.program 0 labelled.program.methods → (place : ℕ) (tree : MethodTree) →
    slice_get labelled.program.methods place ≡ Some tree → SeeResults code planned tree.body →
    IsFit code planned tree.body
body_fit principals labelled code planned same are fits =
    method_fit principals labelled code planned 0 labelled.program.methods fits
    (all_from (IsKnownUse planned) (statement_uses principals labelled)
    (known_use principals labelled planned same are))

-- ---- who reads a variable that no expression reads

-- no use reads the variable
abbrev LacksRead : VarId → StatementUse → Type 0
LacksRead x one = AllByRecursion (λ read. nat_eq read.0 x.0 ≡ false) one.reads

unread_expr : (program : ProgramTree) (x : VarId) (e : ExprTree) → ((y : VarId) → IsNoResult program y → y.0 ≢ x.0) →
    ReadsNoResult program e → AllByRecursion (λ read. nat_eq read.0 x.0 ≡ false) (variables_in e)
unread_expr program x (number value) apart none = tt
unread_expr program x (local y) apart none = (ne_eqb y.0 x.0 (apart y none), tt)
unread_expr program x (scalar field) apart none = tt
unread_expr program x (element field index) apart none = unread_expr program x index apart none
unread_expr program x (inverted operand) apart none = unread_expr program x operand apart none
unread_expr program x (negated operand) apart none = unread_expr program x operand apart none
unread_expr program x (binary operator left right) apart none =
    all_both (λ read. nat_eq read.0 x.0 ≡ false) (variables_in left) (variables_in right)
    (unread_expr program x left apart none.0) (unread_expr program x right apart none.1)
unread_expr program x (declassified operand label) apart none = unread_expr program x operand apart none
unread_expr program x (endorsed operand label) apart none = unread_expr program x operand apart none

module _ (labelled : Labelled) (setting : MethodSetting) (x : VarId)
    (apart : (y : VarId) → IsNoResult labelled.program y → y.0 ≢ x.0) where
  unread_list : (values : List ExprTree) → AllByRecursion (ReadsNoResult labelled.program) values →
      AllByRecursion (λ read. nat_eq read.0 x.0 ≡ false) (flat_map variables_in values)
  unread_list [] none = tt
  unread_list (value ∷ values) none =
      all_both (λ read. nat_eq read.0 x.0 ≡ false) (variables_in value) (flat_map variables_in values)
      (unread_expr labelled.program x value apart none.0) (unread_list values none.1)

  unread_block : (block : BlockTree) → BlockReadsNoResult labelled.program block →
      AllByRecursion (LacksRead x) (block_uses labelled setting block)
  unread_block done none = tt
  unread_block (set_local heading y value rest) none =
      (unread_list (value ∷ []) (none.0, tt), unread_block rest none.1)
  unread_block (set_field heading field value rest) none =
      (unread_list (value ∷ []) (none.0, tt), unread_block rest none.1)
  unread_block (set_element heading field index value rest) none =
      (unread_list (index ∷ value ∷ []) (none.0, (none.1, tt)), unread_block rest none.2)
  unread_block (branch heading guard first second rest) none =
      let one = block_uses labelled setting first in
      let two = block_uses labelled setting second in (
        unread_list (guard ∷ []) (none.0, tt),
        all_both (LacksRead x) (one ++ two) (block_uses labelled setting rest)
            (all_both (LacksRead x) one two (unread_block first none.1) (unread_block second none.2))
            (unread_block rest none.3),
      )
  unread_block (loop heading guard inner rest) none = (
    unread_list (guard ∷ []) (none.0, tt),
    all_both (LacksRead x) (block_uses labelled setting inner) (block_uses labelled setting rest)
        (unread_block inner none.1) (unread_block rest none.2),
  )
  unread_block (call heading site method arguments into rest) none =
      (unread_list arguments none.0, unread_block rest none.1)
  unread_block (give_back heading value rest) none =
      (unread_list (value ∷ []) (none.0, tt), unread_block rest none.1)

unread_methods : (principals : Declared) (labelled : Labelled) (x : VarId) →
    ((y : VarId) → IsNoResult labelled.program y → y.0 ≢ x.0) → (methods : List MethodTree) →
    ((place : ℕ) (method : MethodTree) → slice_get methods place ≡ Some method →
    BlockReadsNoResult labelled.program method.body) →
    AllByRecursion (LacksRead x) (flat_map (method_uses principals labelled) methods)
unread_methods principals labelled x apart [] none = tt
unread_methods principals labelled x apart (method ∷ methods) none =
    all_both (LacksRead x) (method_uses principals labelled method) (flat_map (method_uses principals labelled) methods)
    (tt, unread_block labelled (setting_of principals labelled.program method) x apart method.body (none 0 method refl))
    (unread_methods principals labelled x apart methods (λ place. none (suc place)))

none_of : (x : VarId) (reads : List VarId) → AllByRecursion (λ read. nat_eq read.0 x.0 ≡ false) reads →
    list_any (λ read. nat_eq read.0 x.0) reads ≡ false
none_of x [] none = refl
none_of x (first ∷ reads) none = rw (none.0, none_of x reads none.1) refl

none_reads : (x : VarId) (uses : List StatementUse) → AllByRecursion (LacksRead x) uses → readers_of uses x.0 ≡ []
none_reads x [] none = refl
none_reads x (first ∷ uses) none =
    let others = filter (λ other. list_any (λ read. nat_eq read.0 x.0) other.reads) uses in
    ap (λ (b : Bool). map (λ (other : StatementUse). other.id) (cond b (first ∷ others) others))
    (none_of x first.reads none.0) ∙ none_reads x uses none.1

-- nobody reads the result of a method
pub nobody_reads : (principals : Declared) (labelled : Labelled) (planned : PlannedShape) →
    AreNeedsOf principals labelled planned.needs → AreUnread labelled.program → (place : ℕ) (method : MethodTree)
    (x : VarId) → slice_get labelled.program.methods place ≡ Some method → method.result ≡ Some x →
    x.0 < length labelled.program.vars → (host : ℕ) → reads_on planned x host ≡ true → ⊥
nobody_reads principals labelled planned are unread place method x is result within host reads =
    let uses = statement_uses principals labelled in
    let many = length labelled.program.vars in
    let make : ℕ → VarId = λ n. record { 0 = n } in
    let none = none_reads x uses (unread_methods principals labelled x
    (λ y no_result same. no_result place method is (result ∙ ap (λ n. Some (make n)) (sym same)))
    labelled.program.methods unread) in
    let row : slice_get planned.needs.readers x.0 ≡ Some [] =
    ap (λ list. slice_get list x.0) are.readers
    ∙ slice_get-map (readers_of uses) (range_with_len 0 many) x.0
    ∙ ap (option_map (readers_of uses)) (number_there many x.0 within)
    ∙ ap Some none in
    let nobody : reads_on planned x host ≡ false =
    ap (λ found. list_any (λ statement. nat_eq (statement_host planned.plan statement).0 host) (unwrap_or found []))
    row in
    cc
