-- A draft has one program at most.
use Rattle.std.proofs.Common.{◌≡◌, ℕ, ℤ, Bool, List, [], ◌∷◌, ◌++◌, map, Option, Some, None, refl, ap, sym, ◌∙◌}
use Rattle.js_base.specs.declared.ids.PrincipalId.{PrincipalId}
use Rattle.js_base.specs.declared.ids.VarId.{VarId}
use Rattle.js_base.specs.declared.ids.MethodId.{MethodId}
use Rattle.js_base.specs.declared.ids.StmtId.{StmtId}
use Rattle.js_base.proofs.Lists.{one_zipped}
use Rattle.js_base.proofs.Repeats.{one_place}
use Rattle.principals.specs.ActsFor.{Declared, IsDeclared}
use Rattle.jif_lex.specs.declared.token.Token.{Token}
use Rattle.jif_lex.specs.declared.token.TokenKind.{TokenKind}
use Rattle.jif_lex.specs.declared.token.Symbol.TheVariants.{LeftBrace, RightBrace}
use Rattle.label_lattice.specs.declared.label.Label.{Label}
use Rattle.label_lattice.specs.Written.{symbol, parts_tokens, kinds, TrustIsLast, IsLabelOf, IsKnown}
use Rattle.label_lattice.proofs.OneLabel.{written_once}
use Rattle.jif_tree.specs.Trees.{ExprTree, inverted, negated}
use Rattle.jif_tree.specs.Trees.{BlockTree}
use Rattle.jif_tree.specs.Trees.{FieldTree, VarTree, MethodTree, ProgramTree}
use Rattle.jif_grammar.specs.DraftShapes.{NameShape, PolicyShape, LabelShape, ExprShape, number_shape, variable_shape}
use Rattle.jif_grammar.specs.DraftShapes.{element_shape, complement_shape, negation_shape, binary_shape}
use Rattle.jif_grammar.specs.DraftShapes.{release_shape, endorsement_shape, BlockShape, end_shape}
use Rattle.jif_grammar.specs.DraftShapes.{declaration_shape, assignment_shape, element_assignment_shape}
use Rattle.jif_grammar.specs.DraftShapes.{branch_shape, loop_shape, call_shape, return_shape, FieldShape}
use Rattle.jif_grammar.specs.DraftShapes.{MethodShape, DraftShape}
use Rattle.jif_resolve.specs.Meanings.{Global, globals_of}
use Rattle.jif_resolve.specs.Places.{Setting, Place, after_statement, after_call, after_declaration}
use Rattle.jif_resolve.specs.Places.{after_block, head_after, body_place, meaning_at}
use Rattle.jif_resolve.specs.Faults.{setting_of}
use Rattle.jif_resolve.specs.Variables.{VariableShape, variables_from}
use Rattle.jif_resolve.specs.Labels.{texts, policy_part, trust_parts, parts_of, IsLabelFor, IsOptionalLabelFor}
use Rattle.jif_resolve.specs.Resolved.{assignment_tree, IsExprFor, heading_of, IsBlockFor, IsFieldFor}
use Rattle.jif_resolve.specs.Resolved.{IsVariableFor, IsMethodFor, AreMethodsFor, IsTreeOf}
use Rattle.jif_resolve.specs.Verdicts.{IsProgramOf}

-- ---- labels

-- a token of a label, wherever it stands
abbrev token_of : TokenKind → Token
token_of kind = record { kind = kind; at = 0; line = 0 }

kinds_back : (written : List TokenKind) → kinds (map token_of written) ≡ written
kinds_back [] = refl
kinds_back (kind ∷ written) = ap (λ r. kind ∷ r) (kinds_back written)

trust_last : (policies : List PolicyShape) (trust : Option (List NameShape)) →
    TrustIsLast (map policy_part policies ++ trust_parts trust)
trust_last [] None = tt
trust_last [] (Some members) = refl
trust_last (policy ∷ policies) trust = trust_last policies trust

abbrev spelled : LabelShape → List Token
spelled written = map token_of (symbol LeftBrace ∷ parts_tokens (parts_of written) ++ symbol RightBrace ∷ [])

as_written : (principals : Declared) (written : LabelShape) (label : Label) → IsLabelFor principals written label →
    IsLabelOf principals (spelled written) label
as_written principals written label is = record {
  inside = parts_tokens (parts_of written);
  braces = kinds_back (symbol LeftBrace ∷ parts_tokens (parts_of written) ++ symbol RightBrace ∷ []);
  parts = record {
    parts = parts_of written;
    known = is.known;
    written = refl;
    trust_is_last = trust_last written.policies written.trust;
    are_known = is.are_known;
    means = is.means;
  };
}

pub one_label : (principals : Declared) → IsDeclared principals → (written : LabelShape) (first second : Label) →
    IsLabelFor principals written first → IsLabelFor principals written second → first ≡ second
one_label principals declared written first second one two =
    written_once principals (spelled written) first second declared one.over.is_label two.over.is_label
    (as_written principals written first one) (as_written principals written second two)

one_optional_label : (principals : Declared) → IsDeclared principals → (written : Option LabelShape)
    (first second : Option Label) → IsOptionalLabelFor principals written first →
    IsOptionalLabelFor principals written second → first ≡ second
one_optional_label principals declared None first second one two = one ∙ sym two
one_optional_label principals declared (Some written) first second (l, same, one) (m, also, two) =
    same ∙ ap Some (one_label principals declared written l m one two) ∙ sym also

one_principal : (principals : Declared) → IsDeclared principals → (name : List ℕ) (p q : PrincipalId) →
    IsKnown principals name p → IsKnown principals name q → p ≡ q
one_principal principals declared name p q first second =
    let id : ℕ → PrincipalId = λ n. record { 0 = n } in
    ap id (one_place principals.names name p.0 q.0 declared.names.distinct first second)

-- ---- expressions

one_expr : (s : Setting) → IsDeclared s.principals → (p : Place) (e : ExprShape) (first second : ExprTree) →
    IsExprFor s p e first → IsExprFor s p e second → first ≡ second
one_expr s declared p (number_shape value) first second one two = one ∙ sym two
one_expr s declared p (variable_shape name) first second one two =
    let both : Some first ≡ Some second = sym one ∙ two in
    cc
one_expr s declared p (element_shape name index) first second (f, x, same, array, one) (g, y, also, array_also, two) =
    let fields : Some f ≡ Some g = sym array ∙ array_also in
    let inner : x ≡ y = one_expr s declared p index x y one two in
    cc
one_expr s declared p (complement_shape operand) first second (x, same, one) (y, also, two) =
    same ∙ ap inverted (one_expr s declared p operand x y one two) ∙ sym also
one_expr s declared p (negation_shape operand) first second (x, same, one) (y, also, two) =
    same ∙ ap negated (one_expr s declared p operand x y one two) ∙ sym also
one_expr s declared p (binary_shape operator left right) first second (x, u, same, one, other) (y, v, also, two, last) =
    let lefts : x ≡ y = one_expr s declared p left x y one two in
    let rights : u ≡ v = one_expr s declared p right u v other last in
    cc
one_expr s declared p (release_shape operand written) first second (x, l, same, one, other) (y, m, also, two, last) =
    let inner : x ≡ y = one_expr s declared p operand x y one two in
    let labels : l ≡ m = one_label s.principals declared written l m other last in
    cc
one_expr s declared p (endorsement_shape operand written) first second (x, l, same, one, other)
    (y, m, also, two, last) =
    let inner : x ≡ y = one_expr s declared p operand x y one two in
    let labels : l ≡ m = one_label s.principals declared written l m other last in
    cc

-- ---- statements

one_block : (s : Setting) → IsDeclared s.principals → (p : Place) (b : BlockShape) (first second : BlockTree) →
    IsBlockFor s p b first → IsBlockFor s p b second → first ≡ second
one_block s declared p end_shape first second one two = one ∙ sym two
one_block s declared p (declaration_shape start written name value rest) first second (x, r, same, one, behind)
    (y, q, also, two, last) =
    let values : x ≡ y = one_expr s declared p value x y one two in
    let rests : r ≡ q = one_block s declared (after_declaration p name) rest r q behind last in
    cc
one_block s declared p (assignment_shape start name value rest) first second (x, r, same, one, behind)
    (y, q, also, two, last) =
    let values : x ≡ y = one_expr s declared p value x y one two in
    let rests : r ≡ q = one_block s declared (after_statement p) rest r q behind last in
    let made : assignment_tree (heading_of p start) (meaning_at s p name.text) x r
    ≡ assignment_tree (heading_of p start) (meaning_at s p name.text) y q =
    ap (λ v. assignment_tree (heading_of p start) (meaning_at s p name.text) v r) values
    ∙ ap (λ t. assignment_tree (heading_of p start) (meaning_at s p name.text) y t) rests in
    let both : Some first ≡ Some second = sym same ∙ made ∙ also in
    cc
one_block s declared p (element_assignment_shape start name index value rest) first second
    (f, i, x, r, same, array, at, one, behind) (g, j, y, q, also, array_also, at_also, two, last) =
    let fields : Some f ≡ Some g = sym array ∙ array_also in
    let indices : i ≡ j = one_expr s declared p index i j at at_also in
    let values : x ≡ y = one_expr s declared p value x y one two in
    let rests : r ≡ q = one_block s declared (after_statement p) rest r q behind last in
    cc
one_block s declared p (branch_shape start guard yes_block no_block rest) first second
    (x, t, n, r, same, one, then, else_one, behind) (y, u, m, q, also, two, then_also, else_also, last) =
    let inside = after_statement p in
    let between = after_block inside yes_block in
    let guards : x ≡ y = one_expr s declared p guard x y one two in
    let firsts : t ≡ u = one_block s declared inside yes_block t u then then_also in
    let seconds : n ≡ m = one_block s declared between no_block n m else_one else_also in
    let rests : r ≡ q = one_block s declared (after_block between no_block) rest r q behind last in
    cc
one_block s declared p (loop_shape start guard body rest) first second (x, t, r, same, one, inner, behind)
    (y, u, q, also, two, inner_also, last) =
    let inside = after_statement p in
    let guards : x ≡ y = one_expr s declared p guard x y one two in
    let bodies : t ≡ u = one_block s declared inside body t u inner inner_also in
    let rests : r ≡ q = one_block s declared (after_block inside body) rest r q behind last in
    cc
one_block s declared p (call_shape start name args into rest) first second
    (f, xs, k, r, same, called, kept, one, behind) (g, ys, l, q, also, called_also, kept_also, two, last) =
    let methods : Some f ≡ Some g = sym called ∙ called_also in
    let keeps : Some k ≡ Some l = sym kept ∙ kept_also in
    let values : xs ≡ ys = one_zipped (IsExprFor s p) (λ e x y. one_expr s declared p e x y) args xs ys one two in
    let rests : r ≡ q = one_block s declared (after_call p) rest r q behind last in
    cc
one_block s declared p (return_shape start value rest) first second (x, r, same, one, behind)
    (y, q, also, two, last) =
    let values : x ≡ y = one_expr s declared p value x y one two in
    let rests : r ≡ q = one_block s declared (after_statement p) rest r q behind last in
    cc

-- ---- fields, variables and methods

same_field : (name_a name_b : List ℕ) (label_a label_b : Label) (size_a size_b : ℕ) (array_a array_b : Bool)
    (first_a first_b : ℤ) →
    name_a ≡ name_b → label_a ≡ label_b → size_a ≡ size_b → array_a ≡ array_b → first_a ≡ first_b →
    (let one : FieldTree = record { name = name_a; label = label_a; size = size_a; array = array_a; first = first_a } in
    one)
    ≡ record { name = name_b; label = label_b; size = size_b; array = array_b; first = first_b }
same_field name_a name_b label_a label_b size_a size_b array_a array_b first_a first_b
    e0 e1 e2 e3 e4 = cc

one_field : (principals : Declared) → IsDeclared principals → (field : FieldShape) (first second : FieldTree) →
    IsFieldFor principals field first → IsFieldFor principals field second → first ≡ second
one_field principals declared field first second one two =
    let names : first.name ≡ second.name = one.name ∙ sym two.name in
    let labels : first.label ≡ second.label =
    one_label principals declared field.label first.label second.label one.label two.label in
    let sizes : first.size ≡ second.size = one.size ∙ sym two.size in
    let arrays : first.array ≡ second.array = one.array ∙ sym two.array in
    let firsts : first.first ≡ second.first = one.first ∙ sym two.first in
    same_field first.name second.name first.label second.label first.size second.size first.array second.array
    first.first second.first
    names labels sizes arrays firsts

same_variable : (method_a method_b : MethodId) (name_a name_b : List ℕ) (label_a label_b : Option Label) →
    method_a ≡ method_b → name_a ≡ name_b → label_a ≡ label_b →
    (let one : VarTree = record { method = method_a; name = name_a; label = label_a } in one)
    ≡ record { method = method_b; name = name_b; label = label_b }
same_variable method_a method_b name_a name_b label_a label_b
    e0 e1 e2 = cc

one_variable : (principals : Declared) → IsDeclared principals → (variable : VariableShape) (first second : VarTree) →
    IsVariableFor principals variable first → IsVariableFor principals variable second → first ≡ second
one_variable principals declared variable first second one two =
    let methods : first.method ≡ second.method = one.method ∙ sym two.method in
    let names : first.name ≡ second.name = one.name ∙ sym two.name in
    let labels : first.label ≡ second.label =
    one_optional_label principals declared variable.label first.label second.label one.label two.label in
    same_variable first.method second.method first.name second.name first.label second.label
    methods names labels

same_method : (name_a name_b : List ℕ) (begin_a begin_b : Label) (params_a params_b : List VarId)
    (result_a result_b : Option VarId) (authority_a authority_b : List PrincipalId) (head_a head_b : StmtId)
    (line_a line_b : ℕ) (body_a body_b : BlockTree) →
    name_a ≡ name_b → begin_a ≡ begin_b → params_a ≡ params_b → result_a ≡ result_b → authority_a ≡ authority_b →
    head_a ≡ head_b → line_a ≡ line_b → body_a ≡ body_b →
    (let one : MethodTree = record {
      name = name_a;
      begin = begin_a;
      params = params_a;
      result = result_a;
      authority =
          authority_a;
      head = head_a;
      line = line_a;
      body = body_a;
    } in one)
    ≡ record {
      name = name_b;
      begin = begin_b;
      params = params_b;
      result = result_b;
      authority = authority_b;
      head =
          head_b;
      line = line_b;
      body = body_b;
    }
same_method name_a name_b begin_a begin_b params_a params_b result_a result_b authority_a authority_b head_a head_b
    line_a line_b body_a body_b
    e0 e1 e2 e3 e4 e5 e6 e7 = cc

one_method : (s : Setting) → IsDeclared s.principals → (head : Place) (method : MethodShape)
    (first second : MethodTree) → IsMethodFor s head method first → IsMethodFor s head method second → first ≡ second
one_method s declared head method first second one two =
    let names : first.name ≡ second.name = one.name ∙ sym two.name in
    let begins : first.begin ≡ second.begin =
    one_label s.principals declared method.begin first.begin second.begin one.begin two.begin in
    let params : first.params ≡ second.params = one.params ∙ sym two.params in
    let results : first.result ≡ second.result = one.result ∙ sym two.result in
    let authority : first.authority ≡ second.authority =
    one_zipped (IsKnown s.principals) (λ name p q. one_principal s.principals declared name p q)
    (texts method.authority) first.authority second.authority one.authority two.authority in
    let heads : first.head ≡ second.head = one.head_is ∙ sym two.head_is in
    let lines : first.line ≡ second.line = one.line ∙ sym two.line in
    let bodies : first.body ≡ second.body =
    one_block s declared (body_place head method) method.body first.body second.body one.body two.body in
    same_method first.name second.name first.begin second.begin first.params second.params first.result second.result
    first.authority second.authority first.head second.head first.line second.line first.body second.body
    names begins params results authority heads lines bodies

one_methods : (principals : Declared) → IsDeclared principals → (globals : List Global)
    (before methods : List MethodShape) (first second : List MethodTree) →
    AreMethodsFor principals globals before methods first → AreMethodsFor principals globals before methods second →
    first ≡ second
one_methods principals declared globals before [] first second one two = one ∙ sym two
one_methods principals declared globals before (method ∷ methods) first second (t, ts, same, one, behind)
    (u, us, also, two, last) =
    let heads : t ≡ u =
    one_method (setting_of principals globals method) declared (head_after before) method t u one two in
    let rests : ts ≡ us =
    one_methods principals declared globals (before ++ method ∷ []) methods ts us behind last in
    cc

same_program : (fields_a fields_b : List FieldTree) (vars_a vars_b : List VarTree)
    (methods_a methods_b : List MethodTree) (main_a main_b : MethodId) →
    fields_a ≡ fields_b → vars_a ≡ vars_b → methods_a ≡ methods_b → main_a ≡ main_b →
    (let one : ProgramTree = record { fields = fields_a; vars = vars_a; methods = methods_a; main = main_a } in one)
    ≡ record { fields = fields_b; vars = vars_b; methods = methods_b; main = main_b }
same_program fields_a fields_b vars_a vars_b methods_a methods_b main_a main_b
    e0 e1 e2 e3 = cc

one_tree : (principals : Declared) → IsDeclared principals → (draft : DraftShape) (first second : ProgramTree) →
    IsTreeOf principals draft first → IsTreeOf principals draft second → first ≡ second
one_tree principals declared draft first second one two =
    let fields : first.fields ≡ second.fields =
    one_zipped (IsFieldFor principals) (λ field x y. one_field principals declared field x y)
    draft.fields first.fields second.fields one.fields two.fields in
    let variables : first.vars ≡ second.vars =
    one_zipped (IsVariableFor principals) (λ variable x y. one_variable principals declared variable x y)
    (variables_from 0 draft.methods) first.vars second.vars one.vars two.vars in
    let methods : first.methods ≡ second.methods =
    one_methods principals declared (globals_of draft) [] draft.methods first.methods second.methods one.methods
    two.methods in
    let mains : Some first.main ≡ Some second.main = sym one.main ∙ two.main in
    let main : first.main ≡ second.main = cc in
    same_program first.fields second.fields first.vars second.vars first.methods second.methods first.main second.main
    fields variables methods main

pub one_program : (principals : Declared) (draft : DraftShape) (first second : ProgramTree) → IsDeclared principals →
    IsProgramOf principals draft first → IsProgramOf principals draft second → first ≡ second
one_program principals draft first second declared one two =
    one_tree principals declared draft first second one.is_tree two.is_tree
