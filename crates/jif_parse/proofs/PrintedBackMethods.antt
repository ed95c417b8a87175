-- Printed methods are read as themselves.
use Rattle.std.proofs.Common.{◌≡◌, ℕ, suc, ◌+◌, ◌&&◌, Bool, true, false, not, nat_lt}
use Rattle.std.proofs.Common.{if◌then◌else◌, List, [], ◌∷◌, ◌++◌, map, length, Option, Some, None, refl, ap, sym, ◌∙◌}
use Rattle.std.proofs.Common.{subst, arith}
use Rattle.std.specs.Prelude.{⊤}
use Rattle.std.specs.List.{AllByRecursion}
use Rattle.std.proofs.lemmas.Bool.Decides.{nat_tests}
use Rattle.std.proofs.lemmas.List.{length-append, length-map}
use Rattle.js_base.specs.Name.{IsName}
use Rattle.js_base.specs.declared.ids.VarId.{VarId}
use Rattle.js_base.specs.declared.ids.MethodId.{MethodId}
use Rattle.js_base.specs.declared.ids.PrincipalId.{PrincipalId}
use Rattle.js_base.proofs.Lists.{none_in_three, none_in_six}
use Rattle.principals.specs.ActsFor.{Declared, IsDeclared}
use Rattle.label_lattice.specs.declared.label.Label.{Label}
use Rattle.label_lattice.specs.Written.{AreKnown}
use Rattle.label_lattice.specs.Printed.{printed_parts}
use Rattle.jif_tree.specs.Named.{IsNameInText}
use Rattle.jif_tree.specs.Trees.{MethodTree, ProgramTree}
use Rattle.jif_grammar.specs.Phrases as phrase
use Rattle.jif_grammar.specs.Phrases.{LabelPhrase, ExprPhrase, BlockPhrase, ParamPhrase, MethodPhrase, ProgramPhrase}
use Rattle.jif_grammar.specs.DraftShapes.{NameShape, LabelShape, ParamShape, MethodShape}
use Rattle.jif_grammar.specs.Spelling.{param_spelling, params_spelling, authority_spelling, head_spelling}
use Rattle.jif_grammar.specs.Drafts.{names_at, label_at, label_width, optional_label_at, block_width}
use Rattle.jif_grammar.specs.Drafts.{params_at, method_name_place, method_at}
use Rattle.jif_resolve.specs.Counts.{LocalShape, locals_in, statements_in, calls_in}
use Rattle.jif_resolve.specs.Labels.{texts, IsLabelFor}
use Rattle.jif_resolve.specs.Meanings.{Global, has_result}
use Rattle.jif_resolve.specs.Places.{Setting, Place, next_variable, after_variable, after_params, after_statement}
use Rattle.jif_resolve.specs.Places.{head_after, body_place, counted, variables_in}
use Rattle.jif_resolve.specs.Faults.{fault_where, principals_faults, label_faults, optional_label_faults, local_faults}
use Rattle.jif_resolve.specs.Faults.{params_faults, block_faults, ends_in_return, method_faults, setting_of}
use Rattle.jif_resolve.specs.Variables.{VariableShape, result_variables, method_variables, param_ids, result_id}
use Rattle.jif_resolve.specs.Resolved.{IsBlockFor, IsMethodFor}
use Rattle.jif_resolve.specs.Returns.{ReturnsLast}
use Rattle.jif_resolve.specs.declared.fault.FaultKind.TheVariants.{WrongType}
use Rattle.jif_parse.specs.PrintedNames.{Naming, name_of_variable, label_of_variable, name_or_none, variable_name}
use Rattle.jif_parse.specs.PrintedNames.{variable_label, principal_name}
use Rattle.jif_parse.specs.PrintedProgram.{seen_after_all, seen_behind, seen_after_result, seen_after_method}
use Rattle.jif_parse.specs.PrintedBack.{method_without_lines}
use Rattle.jif_parse.proofs.PrintedLists.{six_joined, none_where}
use Rattle.jif_parse.proofs.PrintedApart.{IsNamedLabel, IsNamedOptional, IsNamedParam, AreNames, IsNamedItem}
use Rattle.jif_parse.proofs.PrintedPhrases.{label_or_none, block_phrase, result_phrase, param_phrase}
use Rattle.jif_parse.proofs.PrintedPhrases.{kind_phrase, method_phrase}
use Rattle.jif_parse.proofs.PrintedSpelled.{HasLabel, HasLabelWhere, IsPrintable}
use Rattle.jif_parse.proofs.PrintedLabels.{Laws, label_back, names_back}
use Rattle.jif_parse.proofs.PrintedBackExprs.{SameGlobals, label_clean, label_named, principals_clean}
use Rattle.jif_parse.proofs.PrintedKnown.{IsVariableAt, LocalsAre, KnownAre, known_later, GlobalsAre}
use Rattle.jif_parse.proofs.PrintedAlike.{IsNamedBlockShape, Given, naming_of, new}
use Rattle.jif_parse.proofs.PrintedBackBlocks.{block_back}
use Rattle.jif_parse.proofs.PrintedAlike.{last_of, Alike, SameSome}
use Rattle.jif_parse.proofs.PrintedBackStatements.{local_clean, three_joined}

-- ---- variables in a row

-- the variables from this number on are these
abbrev pub VarsAre : Naming → ℕ → List VariableShape → Type 0
VarsAre naming n [] = ⊤
VarsAre naming n (v ∷ vs) = IsVariableAt naming n v.name v.label × VarsAre naming (suc n) vs

pub vars_front : (naming : Naming) (n : ℕ) (xs ys : List VariableShape) → VarsAre naming n (xs ++ ys) →
    VarsAre naming n xs
vars_front naming n [] ys are = tt
vars_front naming n (x ∷ xs) ys are = (are.0, vars_front naming (suc n) xs ys are.1)

pub vars_behind : (naming : Naming) (n : ℕ) (xs ys : List VariableShape) → VarsAre naming n (xs ++ ys) →
    VarsAre naming (n + length xs) ys
vars_behind naming n [] ys are = subst (λ k. VarsAre naming k ys) (omega arith) are
vars_behind naming n (x ∷ xs) ys are =
    subst (λ k. VarsAre naming k ys) (omega arith) (vars_behind naming (suc n) xs ys are.1)

pub vars_joined : (naming : Naming) (n : ℕ) (xs ys : List VariableShape) → VarsAre naming n xs →
    VarsAre naming (n + length xs) ys → VarsAre naming n (xs ++ ys)
vars_joined naming n [] ys one two = subst (λ k. VarsAre naming k ys) (omega arith) two
vars_joined naming n (x ∷ xs) ys one two =
    (one.0, vars_joined naming (suc n) xs ys one.1 (subst (λ k. VarsAre naming k ys) (omega arith) two))

abbrev pub param_variable : MethodId → ParamShape → VariableShape
param_variable own param = record { method = own; name = param.name.text; label = Some param.label }

abbrev pub local_variable : MethodId → LocalShape → VariableShape
local_variable own local = record { method = own; name = local.name.text; label = local.label }

locals_of : (naming : Naming) (own : MethodId) (n : ℕ) (locals : List LocalShape) →
    VarsAre naming n (map (local_variable own) locals) → LocalsAre naming n locals
locals_of naming own n [] are = tt
locals_of naming own n (local ∷ locals) are = (are.0, locals_of naming own (suc n) locals are.1)

of_locals : (naming : Naming) (own : MethodId) (n : ℕ) (locals : List LocalShape) → LocalsAre naming n locals →
    VarsAre naming n (map (local_variable own) locals)
of_locals naming own n [] are = tt
of_locals naming own n (local ∷ locals) are = (are.0, of_locals naming own (suc n) locals are.1)

-- ---- the result

abbrev result_where : Bool → ℕ → Option VarId
result_where gives n = if gives then Some (record { 0 = n }) else None

record ResultBack (naming : Naming) (own : MethodId) (n : ℕ) (gives : Bool) : Type 0 where
  labelled : HasLabelWhere naming (result_where gives n)
  fresh : (at : ℕ) →
      VarsAre naming n (result_variables own (optional_label_at at (kind_phrase naming (result_where gives n))))
  clean : (at : ℕ) →
      optional_label_faults naming.principals (optional_label_at at (kind_phrase naming (result_where gives n))) ≡ []
  same : (at : ℕ) → has_result (optional_label_at at (kind_phrase naming (result_where gives n))) ≡ gives
  named : IsNamedOptional (kind_phrase naming (result_where gives n))

result_back : Laws → (naming : Naming) → IsDeclared naming.principals → (own : MethodId) (n : ℕ)
    (result : Option LabelShape) → VarsAre naming n (result_variables own result) →
    ResultBack naming own n (has_result result)
result_back laws naming declared own n None are =
    record { labelled = tt; fresh = λ at. tt; clean = λ at. refl; same = λ at. refl; named = tt }
result_back laws naming declared own n (Some written) are =
    let one = are.0 in
    let label : Label = one.labelled.0 in
    let labelled : variable_label naming (record { 0 = n }) ≡ Some label =
    ap label_of_variable one.there ∙ one.labelled.1 in
    let principals = naming.principals in
    let over = one.labelled.2.over in
    let kind : Option Label → Option LabelPhrase = λ l. Some (label_or_none principals l) in
    record {
      labelled = (label, labelled);
      fresh = λ at. (
        record {
          tree = one.tree;
          there = one.there;
          named = one.named;
          labelled = (
            label,
            one.labelled.1,
            subst (λ l. IsLabelFor principals (label_at at (label_or_none principals l)) label) (sym labelled)
                (label_back laws principals label declared over at),
          );
        },
        tt,
      );
      clean = λ at. ap (λ l. label_faults principals (label_at at (label_or_none principals l))) labelled
          ∙ label_clean principals (label_at at (printed_parts principals label)) label
          (label_back laws principals label declared over at);
      same = λ at. refl;
      named = subst (λ l. IsNamedLabel (label_or_none principals l)) (sym labelled)
          (label_named principals label declared);
    }

-- ---- parameters

-- the parameters of both have the same names
abbrev SameTexts : List ParamShape → List ParamShape → Type 0
SameTexts [] [] = ⊤
SameTexts [] (y ∷ ys) = ⊥
SameTexts (x ∷ xs) [] = ⊥
SameTexts (x ∷ xs) (y ∷ ys) = (x.name.text ≡ y.name.text) × SameTexts xs ys

same_params : (p : Place) (xs ys : List ParamShape) → SameTexts xs ys → after_params p xs ≡ after_params p ys
same_params p [] [] same = refl
same_params p [] (y ∷ ys) same = absurd same
same_params p (x ∷ xs) [] same = absurd same
same_params p (x ∷ xs) (y ∷ ys) same =
    ap (λ t. after_params (after_variable p (record { text = t; at = 0 })) xs) same.0
    ∙ same_params (after_variable p y.name) xs ys same.1

same_length : (xs ys : List ParamShape) → SameTexts xs ys → length xs ≡ length ys
same_length [] [] same = refl
same_length [] (y ∷ ys) same = absurd same
same_length (x ∷ xs) [] same = absurd same
same_length (x ∷ xs) (y ∷ ys) same = ap suc (same_length xs ys same.1)

same_ids : (first : ℕ) (xs ys : List ParamShape) → SameTexts xs ys → param_ids first xs ≡ param_ids first ys
same_ids first [] [] same = refl
same_ids first [] (y ∷ ys) same = absurd same
same_ids first (x ∷ xs) [] same = absurd same
same_ids first (x ∷ xs) (y ∷ ys) same = ap (λ ids. record { 0 = first } ∷ ids) (same_ids (suc first) xs ys same.1)

abbrev pub AreNamedParams : List ParamShape → Type 0
AreNamedParams params = AllByRecursion (λ param. IsNameInText param.name.text) params

pub record ParamsBack (g : Given) (p : Place) (own : MethodId) (first : ℕ) (params : List ParamShape) : Type 0 where
  pub labelled : AllByRecursion (HasLabel (naming_of g)) (param_ids first params)
  pub fresh : (at : ℕ) →
      VarsAre (naming_of g) first
      (map (param_variable own) (params_at at (map (param_phrase (naming_of g)) (param_ids first params))))
  pub same : (at : ℕ) → SameTexts (params_at at (map (param_phrase (naming_of g)) (param_ids first params))) params
  pub clean : (at : ℕ) →
      params_faults (new g) p (params_at at (map (param_phrase (naming_of g)) (param_ids first params))) ≡ []
  pub named : AllByRecursion IsNamedParam (map (param_phrase (naming_of g)) (param_ids first params))
  pub known : KnownAre (naming_of g) (first + length params) (after_params p params).known
  pub reach : (after_params p params).first + length (after_params p params).earlier
      ≡ p.first + length p.earlier + length params
  pub seen : seen_after_all first (param_ids first params) ≡ first + length params

params_back : (g : Given) (p : Place) (own : MethodId) (first : ℕ) (params : List ParamShape) →
    first ≡ p.first + length p.earlier → KnownAre (naming_of g) first p.known → AreNamedParams params →
    VarsAre (naming_of g) first (map (param_variable own) params) → params_faults g.s p params ≡ [] →
    ParamsBack g p own first params
params_back g p own first [] reach known named are none =
    record {
      labelled = tt;
      fresh = λ at. tt;
      same = λ at. tt;
      clean = λ at. refl;
      named = tt;
      known = known_later (naming_of g) first (first + 0) p.known (omega arith) known;
      reach = omega arith;
      seen = omega arith;
    }
params_back g p own first (param ∷ params) reach known named are none =
    let naming : Naming = naming_of g in
    let principals = naming.principals in
    let one = are.0 in
    let x : VarId = record { 0 = first } in
    let label : Label = one.labelled.0 in
    let labelled : variable_label naming x ≡ Some label = ap label_of_variable one.there ∙ one.labelled.1 in
    let over = one.labelled.2.over in
    let named_so : variable_name naming x ≡ param.name.text = ap name_of_variable one.there ∙ one.named in
    let faults = none_in_three (label_faults g.s.principals param.label) (local_faults g.s p param.name)
    (params_faults g.s (after_variable p param.name) params) none in
    let long : length (p.earlier ++ param.name.text ∷ []) ≡ length p.earlier + length (param.name.text ∷ []) =
    length-append p.earlier (param.name.text ∷ []) in
    let first_is : next_variable p ≡ x =
    (let id : ℕ → VarId = λ n. record { 0 = n } in ap id (sym reach)) in
    let rest = params_back g (after_variable p param.name) own (suc first) params (omega (arith, reach, long))
    (subst (λ v. KnownAre naming (suc first) (record { name = param.name.text; variable = v } ∷ p.known)) (sym first_is)
    ((named_so, omega arith), known_later naming first (suc first) p.known (omega arith) known))
    named.1 are.1 faults.2 in
    let back : (at : ℕ) →
    IsLabelFor principals (label_at at (label_or_none principals (variable_label naming x))) label =
    λ at. subst (λ l. IsLabelFor principals (label_at at (label_or_none principals l)) label) (sym labelled)
    (label_back g.laws principals label g.declared over at) in
    let own_phrase : ParamPhrase = param_phrase naming x in
    let next : ℕ → ℕ = λ at. at + length (param_spelling own_phrase) + 1 in
    let name_place : ℕ → ℕ = λ at. at + 1 + label_width own_phrase.label in
    record {
      labelled = ((label, labelled), rest.labelled);
      fresh = λ at. (
        record {
          tree = one.tree;
          there = one.there;
          named = one.named ∙ sym named_so;
          labelled = (label, one.labelled.1, back (at + 1));
        },
        rest.fresh (next at),
      );
      same = λ at. (named_so, rest.same (next at));
      clean = λ at. three_joined _ _ _
          (label_clean principals (label_at (at + 1) own_phrase.label) label (back (at + 1)))
          (local_clean g p (name_place at) param.name (variable_name naming x) named_so faults.1)
          (subst (λ t. params_faults (new g) (after_variable p (record { text = t; at = name_place at }))
          (params_at (next at) (map (param_phrase naming) (param_ids (suc first) params))) ≡ []) (sym named_so)
          (rest.clean (next at)));
      named = (
        (
          subst (λ l. IsNamedLabel (label_or_none principals l)) (sym labelled)
              (label_named principals label g.declared),
          subst IsName (sym named_so) named.0.name,
        ),
        rest.named,
      );
      known = known_later naming (suc first + length params) (first + length (param ∷ params))
          (after_params (after_variable p param.name) params).known (omega arith) rest.known;
      reach = rest.reach ∙ omega (arith, long);
      seen = ap (λ b. seen_after_all (if b then first else suc first) (param_ids (suc first) params)) (not_below first)
          ∙ rest.seen ∙ omega arith;
    }
  where
    not_below : (k : ℕ) → nat_lt k k ≡ false
    not_below k = grind (arith, nat_tests)

-- ---- authority

authority_known : (naming : Naming) (names : List NameShape) (ids : List PrincipalId) →
    AreKnown naming.principals (texts names) ids → AreKnown naming.principals (map (principal_name naming) ids) ids
authority_known naming [] [] are = tt
authority_known naming [] (id ∷ ids) are = absurd are
authority_known naming (name ∷ names) [] are = absurd are
authority_known naming (name ∷ names) (id ∷ ids) are =
    (are.0 ∙ ap Some (sym (ap name_or_none are.0)), authority_known naming names ids are.1)

abbrev pub AreNamedShapes : List NameShape → Type 0
AreNamedShapes names = AllByRecursion (λ name. IsName name.text) names

authority_named : (naming : Naming) (names : List NameShape) (ids : List PrincipalId) → AreNamedShapes names →
    AreKnown naming.principals (texts names) ids → AreNames (map (principal_name naming) ids)
authority_named naming [] [] named are = tt
authority_named naming [] (id ∷ ids) named are = absurd are
authority_named naming (name ∷ names) [] named are = absurd are
authority_named naming (name ∷ names) (id ∷ ids) named are =
    (subst IsName (sym (ap name_or_none are.0)) named.0, authority_named naming names ids named.1 are.1)

authority_back : (naming : Naming) (names : List NameShape) (ids : List PrincipalId) →
    AreKnown naming.principals (texts names) ids → (at : ℕ) →
    AreKnown naming.principals (texts (names_at at (map (principal_name naming) ids))) ids
authority_back naming names ids are at =
    subst (λ ns. AreKnown naming.principals ns ids) (sym (names_back at (map (principal_name naming) ids)))
    (authority_known naming names ids are)

-- ---- methods

abbrev pub IsNamedMethod : MethodShape → Type 0
IsNamedMethod method =
    IsNameInText method.name.text × AreNamedParams method.params × AreNamedShapes method.authority
    × IsNamedBlockShape method.body

-- The fresh shape is that of the same method but for its lines, whose head stands at the same place.
pub record MethodFresh (principals : Declared) (others : List Global) (program : ProgramTree) (own : MethodId)
    (head : Place) (method : MethodShape) (tree : MethodTree) (fresh : MethodShape) : Type 0 where
  pub again : MethodTree
  pub is : IsMethodFor (setting_of principals others fresh) head fresh again
  pub same : method_without_lines again ≡ method_without_lines tree
  pub clean : method_faults (setting_of principals others fresh) head fresh ≡ []
  pub vars : VarsAre (record { principals = principals; program = program }) head.first (method_variables own fresh)
  pub name : fresh.name.text ≡ method.name.text
  pub params : length fresh.params ≡ length method.params
  pub gives : has_result fresh.result ≡ has_result method.result
  pub locals : length (locals_in fresh.body) ≡ length (locals_in method.body)
  pub statements : statements_in fresh.body ≡ statements_in method.body
  pub calls : calls_in fresh.body ≡ calls_in method.body

-- the phrases have the same parts
pub record MethodAlike (naming : Naming) (method : MethodShape) (own : MethodPhrase) : Type 0 where
  pub kind : SameSome method.result own.kind
  pub count : length method.params ≡ length own.params
  pub body : Alike naming method.body own.body own.result

pub record MethodMade (principals : Declared) (others : List Global) (program : ProgramTree) (own : MethodId)
    (head : Place) (method : MethodShape) (tree : MethodTree) : Type 0 where
  pub printable : IsPrintable (record { principals = principals; program = program }) tree
  pub named : IsNamedItem
      (phrase.method (method_phrase (record { principals = principals; program = program }) head.first tree))
  pub seen : seen_after_method head.first tree ≡ head.first + variables_in method
  pub alike : MethodAlike (record { principals = principals; program = program }) method
      (method_phrase (record { principals = principals; program = program }) head.first tree)
  pub back : (lines : ℕ → ℕ) (at : ℕ) →
      MethodFresh principals others program own head method tree
      (method_at lines at (method_phrase (record { principals = principals; program = program }) head.first tree))

some_kind : (naming : Naming) (n : ℕ) (result : Option LabelShape) →
    SameSome result (kind_phrase naming (result_where (has_result result) n))
some_kind naming n None = tt
some_kind naming n (Some label) = tt

ids_long : (first : ℕ) (params : List ParamShape) → length params ≡ length (param_ids first params)
ids_long first [] = refl
ids_long first (param ∷ params) = ap suc (ids_long (suc first) params)

seen_result : (gives : Bool) (n : ℕ) → seen_after_result n (result_where gives n) ≡ n + (if gives then 1 else 0)
seen_result false n = omega arith
seen_result true n = ap (λ b. if b then n else suc n) (none n) ∙ omega arith
  where
    none : (k : ℕ) → nat_lt k k ≡ false
    none k = grind (arith, nat_tests)

pub method_back : (laws : Laws) (principals : Declared) → IsDeclared principals → (globals others : List Global) →
    SameGlobals globals others → (program : ProgramTree) →
    GlobalsAre (record { principals = principals; program = program }) globals →
    (own : MethodId) (before : List MethodShape)
    (method : MethodShape) (tree : MethodTree) →
    IsMethodFor (setting_of principals globals method) (head_after before) method tree →
    method_faults (setting_of principals globals method) (head_after before) method ≡ [] →
    VarsAre (record { principals = principals; program = program }) (counted variables_in before)
    (method_variables own method) → IsNamedMethod method → ReturnsLast method.body →
    MethodMade principals others program own (head_after before) method tree
method_back laws principals declared globals others same_globals program globals_are own before method tree is none vars
    named
    returns =
    let s : Setting = setting_of principals globals method in
    let g : Given = record {
      laws = laws;
      s = s;
      declared = declared;
      others = others;
      same = same_globals;
      program = program;
      globals = globals_are;
    } in
    let naming : Naming = record { principals = principals; program = program } in
    let head : Place = head_after before in
    let first : ℕ = counted variables_in before in
    let locals : List LocalShape = locals_in method.body in
    let n : ℕ = first + length method.params in
    let gives : Bool = has_result method.result in
    let last : ℕ = n + length locals in
    let front : List VariableShape = map (param_variable own) method.params in
    let middle : List VariableShape = map (local_variable own) locals in
    let final : List VariableShape = result_variables own method.result in
    let two = vars_front naming first (front ++ middle) final vars in
    let long_front : length front ≡ length method.params = length-map method.params (param_variable own) in
    let long_middle : length middle ≡ length locals = length-map locals (local_variable own) in
    let long_two : length (front ++ middle) ≡ length front + length middle = length-append front middle in
    let faults = none_in_six (optional_label_faults principals method.result) (label_faults principals method.begin)
    (params_faults s head method.params) (principals_faults principals method.authority)
    (fault_where (gives && not (ends_in_return method.body)) WrongType method.name.at)
    (block_faults s (body_place head method) method.body) none in
    let pb = params_back g head own first method.params (omega arith) tt named.1
    (vars_front naming first front middle two) faults.2 in
    let rb = result_back laws naming declared own last method.result
    (subst (λ k. VarsAre naming k final) (omega (arith, long_front, long_middle, long_two))
    (vars_behind naming first (front ++ middle) final vars)) in
    let made = block_back g (body_place head method) n method.body tree.body (record {
      reach = sym (pb.reach ∙ omega arith);
      known = pb.known;
      locals = locals_of naming own n locals
          (subst (λ k. VarsAre naming k middle) (ap (λ k. first + k) long_front)
          (vars_behind naming first front middle two));
      named = named.3;
      returns = returns;
      clean = faults.5;
      is = is.body;
    }) in
    let made_with : List VarId → Option VarId → MethodTree =
    λ ids result. record tree { params = ids; result = result } in
    let own_tree : MethodTree = made_with (param_ids first method.params) (result_where gives last) in
    let tree_is : own_tree ≡ tree =
    ap (λ ids. made_with ids (result_where gives last)) (sym is.params)
    ∙ ap (λ r. made_with tree.params r) (sym is.result) in
    let phrase_with : ℕ → MethodPhrase = λ k. record {
      kind = kind_phrase naming (result_where gives last);
      name = tree.name;
      begin = printed_parts principals tree.begin;
      params = map (param_phrase naming) (param_ids first method.params);
      authority = map (principal_name naming) tree.authority;
      body = block_phrase naming k tree.body;
      result = result_phrase naming tree.body;
    } in
    let own_phrase : MethodPhrase = phrase_with n in
    let phrase_is : own_phrase ≡ method_phrase naming first own_tree = ap phrase_with (sym pb.seen) in
    let S : Bool → Setting = λ b. record { principals = principals; globals = others; gives = b } in
    let made_so : MethodMade principals others program own head method own_tree = record {
      printable = record {
        params = pb.labelled;
        result = rb.labelled;
        returns = last_of s (body_place head method) method.body tree.body returns is.body;
      };
      named = subst (λ ph. IsNamedItem (phrase.method ph)) phrase_is (
        rb.named,
        subst IsName (sym is.name) named.0.name,
        label_named principals tree.begin declared,
        pb.named,
        authority_named naming method.authority tree.authority named.2 is.authority,
        made.named,
        made.result,
      );
      seen = ap (λ k. seen_after_result (seen_behind k tree.body) (result_where gives last)) pb.seen
          ∙ ap (λ k. seen_after_result k (result_where gives last)) made.seen ∙ seen_result gives last ∙ omega arith;
      alike = subst (MethodAlike naming method) phrase_is (record {
        kind = some_kind naming last method.result;
        count = ids_long first method.params
            ∙ sym (length-map (param_ids first method.params) (param_phrase naming));
        body = made.alike;
      });
      back = λ lines at.
          subst (λ ph. MethodFresh principals others program own head method own_tree (method_at lines at ph))
          phrase_is
          (let name_place : ℕ = method_name_place at own_phrase.kind in
          let params_place : ℕ =
          at + length (head_spelling own_phrase.kind own_phrase.name own_phrase.begin) + 1 in
          let authority_place : ℕ = params_place + length (params_spelling own_phrase.params) + 1 in
          let block_place : ℕ = authority_place + length (authority_spelling own_phrase.authority) + 1 in
          let fresh : MethodShape = method_at lines at own_phrase in
          let fb = made.back lines block_place (block_place + block_width own_phrase.body) in
          let texts_same = pb.same params_place in
          let params_same : length fresh.params ≡ length method.params =
          same_length fresh.params method.params texts_same in
          let locals_same : length (locals_in fresh.body) ≡ length locals =
          sym (length-map (locals_in fresh.body) (λ local. local.name.text)) ∙ ap length fb.names
          ∙ length-map locals (λ local. local.name.text) in
          let gives_same : has_result fresh.result ≡ gives = rb.same (at + 1) in
          let place_same : body_place head fresh ≡ body_place head method =
          ap after_statement (same_params head fresh.params method.params texts_same) in
          let begin = label_back laws principals tree.begin declared is.begin.over (name_place + 1) in
          let authority_is = authority_back naming method.authority tree.authority is.authority (authority_place + 3) in
          let id : ℕ → VarId = λ k. record { 0 = k } in
          let result_same : result_where gives last ≡ result_id head fresh =
          ap (λ b. result_where b last) (sym gives_same)
          ∙ ap (λ k. result_where (has_result fresh.result) k)
          (ap (λ k. first + k + length locals) (sym params_same)
          ∙ ap (λ k. first + length fresh.params + k) (sym locals_same)) in
          let again : MethodTree = record own_tree { line = lines at; body = fb.again } in
          record {
            again = again;
            is = subst (λ b. IsMethodFor (S b) head fresh again) (sym gives_same) (record {
              name = refl;
              begin = begin;
              params = sym (same_ids first fresh.params method.params texts_same);
              result = result_same;
              authority = authority_is;
              head_is = is.head_is;
              line = refl;
              body = subst (λ q. IsBlockFor (new g) q fresh.body fb.again) (sym place_same) fb.is;
            });
            same = ap (λ b. (let one : MethodTree = record own_tree { line = 0; body = b } in one)) fb.same;
            clean = subst (λ b. method_faults (S b) head fresh ≡ []) (sym gives_same)
                (six_joined _ _ _ _ _ _ (rb.clean (at + 1))
                (label_clean principals fresh.begin tree.begin begin) (pb.clean params_place)
                (principals_clean principals fresh.authority tree.authority authority_is)
                (ap (λ e. fault_where (gives && not e) WrongType name_place) fb.ends
                ∙ ap (λ b. fault_where b WrongType name_place)
                (none_where (gives && not (ends_in_return method.body)) WrongType method.name.at faults.4))
                (subst (λ q. block_faults (new g) q fresh.body ≡ []) (sym place_same) fb.clean));
            vars = vars_joined naming first
                (map (param_variable own) fresh.params ++ map (local_variable own) (locals_in fresh.body))
                (result_variables own fresh.result)
                (vars_joined naming first (map (param_variable own) fresh.params)
                (map (local_variable own) (locals_in fresh.body)) (pb.fresh params_place)
                (subst (λ k. VarsAre naming k (map (local_variable own) (locals_in fresh.body)))
                (ap (λ k. first + k) (sym (length-map fresh.params (param_variable own) ∙ params_same)))
                (of_locals naming own n (locals_in fresh.body) fb.locals)))
                (subst (λ k. VarsAre naming k (result_variables own fresh.result))
                (omega (
                  arith,
                  length-map fresh.params (param_variable own),
                  params_same,
                  locals_same,
                  length-map (locals_in fresh.body) (local_variable own),
                  length-append (map (param_variable own) fresh.params)
                      (map (local_variable own) (locals_in fresh.body)),
                ))
                (rb.fresh (at + 1)));
            name = is.name;
            params = params_same;
            gives = gives_same;
            locals = locals_same;
            statements = fb.statements;
            calls = fb.calls;
          });
    } in
    subst (MethodMade principals others program own head method) tree_is made_so
