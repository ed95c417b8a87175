-- Printed expressions are read as themselves.
use Rattle.std.proofs.Common.{◌≡◌, ◌<◌, ℕ, zero, suc, ◌+◌, ◌||◌, pos, negsuc, Bool, true, false, not, nat_lt, List}
use Rattle.std.proofs.Common.{[], ◌∷◌, ◌++◌, map, Option, Some, None, refl, ap, sym, ◌∙◌, subst}
use Rattle.std.specs.Prelude.{slice_get, ⊤}
use Rattle.std.specs.List.{AllZip, list_any, flat_map}
use Rattle.std.specs.Str.{bytes_eq}
use Rattle.std.proofs.lemmas.Slice.Eq.{bytes_eq-Decides}
use Rattle.js_base.specs.Name.{IsName}
use Rattle.js_base.specs.declared.ids.FieldId.{FieldId}
use Rattle.js_base.specs.declared.ids.PrincipalId.{PrincipalId}
use Rattle.js_base.proofs.Lists.{none_joined}
use Rattle.principals.specs.ActsFor.{Declared, IsDeclared}
use Rattle.label_lattice.specs.declared.label.Label.{Label}
use Rattle.label_lattice.specs.Written.{KnownPart, policy_of, trust_of, IsKnown, AreKnown, IsKnownPart}
use Rattle.label_lattice.specs.Printed.{printed_parts}
use Rattle.label_lattice.proofs.PrintedTokens.{parts_have}
use Rattle.jif_tree.specs.Trees.{ExprTree, local, scalar}
use Rattle.jif_tree.specs.Trees.{ProgramTree}
use Rattle.jif_grammar.specs.Phrases.{ExprPhrase}
use Rattle.jif_grammar.specs.Operators.{operator_level, tightest_level}
use Rattle.jif_grammar.specs.Grouping.{level}
use Rattle.jif_grammar.specs.DraftShapes.{NameShape, PolicyShape, LabelShape, ExprShape, number_shape, variable_shape}
use Rattle.jif_grammar.specs.DraftShapes.{element_shape, complement_shape, negation_shape, binary_shape}
use Rattle.jif_grammar.specs.DraftShapes.{release_shape, endorsement_shape}
use Rattle.jif_grammar.specs.Drafts.{expr_at, expr_width, label_at}
use Rattle.jif_resolve.specs.Labels.{texts, policy_part, trust_parts, IsLabelFor}
use Rattle.jif_resolve.specs.Meanings.{Global, global_meaning}
use Rattle.jif_resolve.specs.Places.{Setting, Place, known_variable, local_or_global, meaning_at}
use Rattle.jif_resolve.specs.Faults.{fault_where, principal_faults, principals_faults, policy_faults, trust_faults}
use Rattle.jif_resolve.specs.Faults.{label_faults, variable_faults, array_faults, expr_faults}
use Rattle.jif_resolve.specs.Resolved.{variable_tree, array_of, IsExprFor}
use Rattle.jif_resolve.specs.declared.fault.Fault.{Fault}
use Rattle.jif_resolve.specs.declared.fault.FaultKind.TheVariants.{UnknownName}
use Rattle.jif_resolve.specs.declared.meaning.Meaning.{Meaning}
use Rattle.jif_resolve.specs.declared.meaning.Meaning.TheVariants as sense
use Rattle.jif_parse.specs.PrintedNames.{Naming, field_name, variable_name, method_name}
use Rattle.jif_parse.specs.PrintedExprs.{operand, parenthesized_where, expr_phrase}
use Rattle.jif_parse.proofs.PrintedApart.{IsNamed, IsNamedLabel, IsSmall}
use Rattle.jif_parse.proofs.PrintedLabels.{Laws, label_back}

-- ---- names of principals

found_in : (names : List (List ℕ)) (name : List ℕ) (n : ℕ) → slice_get names n ≡ Some name →
    list_any (bytes_eq name) names ≡ true
found_in [] name n is = absurd cc
found_in (first ∷ names) name zero is =
    let same : name ≡ first = cc in ap (λ b. b || list_any (bytes_eq name) names) ((bytes_eq-Decides name first).1 same)
found_in (first ∷ names) name (suc n) is =
    ap (λ b. bytes_eq name first || b) (found_in names name n is) ∙ or_true (bytes_eq name first)
  where
    or_true : (b : Bool) → (b || true) ≡ true
    or_true true = refl
    or_true false = refl

pub principal_clean : (principals : Declared) (name : NameShape) (p : PrincipalId) → IsKnown principals name.text p →
    principal_faults principals name ≡ []
principal_clean principals name p is =
    ap (λ b. fault_where (not b) UnknownName name.at) (found_in principals.names name.text p.0 is)

pub principals_clean : (principals : Declared) (names : List NameShape) (ps : List PrincipalId) →
    AreKnown principals (texts names) ps → principals_faults principals names ≡ []
principals_clean principals [] ps are = refl
principals_clean principals (name ∷ names) [] are = absurd are
principals_clean principals (name ∷ names) (p ∷ ps) are =
    none_joined (principal_faults principals name) (principals_faults principals names)
    (principal_clean principals name p are.0) (principals_clean principals names ps are.1)

trust_clean : (principals : Declared) (trust : Option (List NameShape)) (known : List KnownPart) →
    AllZip (IsKnownPart principals) (trust_parts trust) known → trust_faults principals trust ≡ []
trust_clean principals None known are = refl
trust_clean principals (Some members) [] are = absurd are
trust_clean principals (Some members) (policy_of owner readers ∷ known) are = absurd are.0
trust_clean principals (Some members) (trust_of ps ∷ known) are = principals_clean principals members ps are.0

parts_clean : (principals : Declared) (policies : List PolicyShape) (trust : Option (List NameShape))
    (known : List KnownPart) → AllZip (IsKnownPart principals) (map policy_part policies ++ trust_parts trust) known →
    flat_map (policy_faults principals) policies ++ trust_faults principals trust ≡ []
parts_clean principals [] trust known are = trust_clean principals trust known are
parts_clean principals (policy ∷ policies) trust [] are = absurd are
parts_clean principals (policy ∷ policies) trust (trust_of ps ∷ known) are = absurd are.0
parts_clean principals (policy ∷ policies) trust (policy_of owner readers ∷ known) are =
    let own = none_joined (principal_faults principals policy.owner) (principals_faults principals policy.readers)
    (principal_clean principals policy.owner owner are.0.0)
    (principals_clean principals policy.readers readers are.0.1) in
    let rest = parts_clean principals policies trust known are.1 in
    ap (λ (f : List Fault). f ++ flat_map (policy_faults principals) policies ++ trust_faults principals trust) own
    ∙ rest

pub label_clean : (principals : Declared) (written : LabelShape) (label : Label) → IsLabelFor principals written label →
    label_faults principals written ≡ []
label_clean principals written label is = parts_clean principals written.policies written.trust is.known is.are_known

pub label_named : (principals : Declared) (label : Label) → IsDeclared principals →
    IsNamedLabel (printed_parts principals label)
label_named principals label declared = parts_have principals label declared.spelled

-- ---- what names stand for

pub record SameGlobals (globals others : List Global) : Type 0 where
  pub meanings : (name : List ℕ) → global_meaning others name ≡ global_meaning globals name
  pub taken : (name : List ℕ) →
      list_any (λ global. bytes_eq name global.name.text) others
      ≡ list_any (λ global. bytes_eq name global.name.text) globals

abbrev pub with_globals : Setting → List Global → Setting
with_globals s globals = record { principals = s.principals; globals = globals; gives = s.gives }

abbrev pub naming_in : Setting → ProgramTree → Naming
naming_in s program = record { principals = s.principals; program = program }

-- what a name stands for is printed with this name, and variables are those below a number
abbrev pub NameIs : Naming → ℕ → Meaning → List ℕ → Type 0
NameIs naming n (sense.Variable v) name = (variable_name naming v ≡ name) × (v.0 < n)
NameIs naming n (sense.Plain field) name = field_name naming field ≡ name
NameIs naming n (sense.Array field) name = field_name naming field ≡ name
NameIs naming n (sense.Method method params gives) name = method_name naming method ≡ name

abbrev pub NameIsWhere : Naming → ℕ → Option Meaning → List ℕ → Type 0
NameIsWhere naming n None name = ⊤
NameIsWhere naming n (Some means) name = NameIs naming n means name

abbrev pub AreNamesAt : Naming → ℕ → Setting → Place → Type 0
AreNamesAt naming n s p = (name : List ℕ) → NameIsWhere naming n (meaning_at s p name) name

pub same_meaning : (s : Setting) (others : List Global) → SameGlobals s.globals others → (p : Place) (name : List ℕ) →
    meaning_at (with_globals s others) p name ≡ meaning_at s p name
same_meaning s others same p name = ap (local_or_global (known_variable p.known name)) (same.meanings name)

-- ---- expressions

-- its names are names, and its numbers small
abbrev pub IsNamedShape : ExprShape → Type 0
IsNamedShape (number_shape (pos n)) = IsSmall n
IsNamedShape (number_shape (negsuc n)) = ⊥
IsNamedShape (variable_shape name) = IsName name.text
IsNamedShape (element_shape name index) = IsName name.text × IsNamedShape index
IsNamedShape (complement_shape inner) = IsNamedShape inner
IsNamedShape (negation_shape inner) = IsNamedShape inner
IsNamedShape (binary_shape operator left right) = IsNamedShape left × IsNamedShape right
IsNamedShape (release_shape inner label) = IsNamedShape inner
IsNamedShape (endorsement_shape inner label) = IsNamedShape inner

-- the phrase of an expression is that expression again, wherever it stands
pub record ExprBack (s : Setting) (p : Place) (naming : Naming) (e : ExprTree) : Type 0 where
  pub is : (at : ℕ) → IsExprFor s p (expr_at at (expr_phrase naming e)) e
  pub clean : (at : ℕ) → expr_faults s p (expr_at at (expr_phrase naming e)) ≡ []
  pub named : IsNamed (expr_phrase naming e)

operand_at : (Q : ExprShape → Type 0) (least : ℕ) (e : ExprPhrase) → ((at : ℕ) → Q (expr_at at e)) → (at : ℕ) →
    Q (expr_at at (operand least e))
unfolding operand
operand_at Q least e each at = by (nat_lt (level e) least)
  where
    by : (b : Bool) → Q (expr_at at (parenthesized_where b e))
    by true = each (at + 1)
    by false = each at

operand_named : (least : ℕ) (e : ExprPhrase) → IsNamed e → IsNamed (operand least e)
unfolding operand
operand_named least e is = by (nat_lt (level e) least)
  where
    by : (b : Bool) → IsNamed (parenthesized_where b e)
    by true = is
    by false = is

-- a name that stands for this is printed as itself
pub used_at : (s : Setting) (naming : Naming) (n : ℕ) (p : Place) → AreNamesAt naming n s p →
    (name : List ℕ) (means : Meaning) → meaning_at s p name ≡ Some means → NameIs naming n means name
used_at s naming n p names name means is = subst (λ m. NameIsWhere naming n m name) is (names name)

pub again : (s : Setting) (others : List Global) → SameGlobals s.globals others → (p : Place) (name printed : List ℕ)
    (means : Meaning) → meaning_at s p name ≡ Some means → printed ≡ name →
    meaning_at (with_globals s others) p printed ≡ Some means
again s others same p name printed means is named =
    ap (meaning_at (with_globals s others) p) named ∙ same_meaning s others same p name ∙ is

pub variable_back : (s : Setting) (others : List Global) → SameGlobals s.globals others → (naming : Naming) (n : ℕ)
    (p : Place) → AreNamesAt naming n s p → (name : List ℕ) (e : ExprTree) → IsName name → (means : Option Meaning) →
    meaning_at s p name ≡ means → variable_tree means ≡ Some e → ExprBack (with_globals s others) p naming e
variable_back s others same naming n p names name e is None means made = absurd cc
variable_back s others same naming n p names name e is (Some (sense.Variable v)) means made =
    let used = used_at s naming n p names name (sense.Variable v) means in
    let back = again s others same p name (variable_name naming v) (sense.Variable v) means used.0 in
    let Q : ExprTree → Type 0 = λ t. ExprBack (with_globals s others) p naming t in
    let tree : local v ≡ e = cc in
    subst Q tree (record {
      is = λ at. ap variable_tree back;
      clean = λ at. ap (variable_faults at) back;
      named = subst IsName (sym used.0) is;
    })
variable_back s others same naming n p names name e is (Some (sense.Plain f)) means made =
    let used = used_at s naming n p names name (sense.Plain f) means in
    let back = again s others same p name (field_name naming f) (sense.Plain f) means used in
    let Q : ExprTree → Type 0 = λ t. ExprBack (with_globals s others) p naming t in
    let tree : scalar f ≡ e = cc in
    subst Q tree (record {
      is = λ at. ap variable_tree back;
      clean = λ at. ap (variable_faults at) back;
      named = subst IsName (sym used) is;
    })
variable_back s others same naming n p names name e is (Some (sense.Array f)) means made = absurd cc
variable_back s others same naming n p names name e is (Some (sense.Method m params gives)) means made = absurd cc

-- an array is found again
pub record ArrayBack (s : Setting) (p : Place) (naming : Naming) (f : FieldId) : Type 0 where
  pub is : array_of (meaning_at s p (field_name naming f)) ≡ Some f
  pub clean : (at : ℕ) → array_faults at (meaning_at s p (field_name naming f)) ≡ []
  pub named : IsName (field_name naming f)

pub array_back : (s : Setting) (others : List Global) → SameGlobals s.globals others → (naming : Naming) (n : ℕ)
    (p : Place) → AreNamesAt naming n s p → (name : List ℕ) (f : FieldId) → IsName name → (means : Option Meaning) →
    meaning_at s p name ≡ means → array_of means ≡ Some f → ArrayBack (with_globals s others) p naming f
array_back s others same naming n p names name f is None means made = absurd cc
array_back s others same naming n p names name f is (Some (sense.Variable v)) means made = absurd cc
array_back s others same naming n p names name f is (Some (sense.Plain g)) means made = absurd cc
array_back s others same naming n p names name f is (Some (sense.Array g)) means made =
    let used = used_at s naming n p names name (sense.Array g) means in
    let back = again s others same p name (field_name naming g) (sense.Array g) means used in
    let Q : FieldId → Type 0 = λ h. ArrayBack (with_globals s others) p naming h in
    let tree : g ≡ f = cc in
    subst Q tree (record {
      is = ap array_of back;
      clean = λ at. ap (array_faults at) back;
      named = subst IsName (sym used) is;
    })
array_back s others same naming n p names name f is (Some (sense.Method m params gives)) means made = absurd cc

pub expr_back : Laws → (s : Setting) → IsDeclared s.principals → (others : List Global) → SameGlobals s.globals others →
    (program : ProgramTree) (n : ℕ) (p : Place) → AreNamesAt (naming_in s program) n s p →
    (shape : ExprShape) (e : ExprTree) →
    IsNamedShape shape → IsExprFor s p shape e → ExprBack (with_globals s others) p (naming_in s program) e
expr_back laws s declared others same program n p names (number_shape (pos k)) e named is =
    let Q : ExprTree → Type 0 = λ t. ExprBack (with_globals s others) p (naming_in s program) t in
    subst Q (sym is) (record { is = λ at. refl; clean = λ at. refl; named = named })
expr_back laws s declared others same program n p names (number_shape (negsuc k)) e named is = absurd named
expr_back laws s declared others same program n p names (variable_shape name) e named is =
    variable_back s others same (naming_in s program) n p names name.text e named (meaning_at s p name.text) refl is
expr_back laws s declared others same program n p names (element_shape name index) e named (f, x, tree, array, one) =
    let naming = naming_in s program in
    let Q : ExprTree → Type 0 = λ t. ExprBack (with_globals s others) p naming t in
    let inner = expr_back laws s declared others same program n p names index x named.1 one in
    let own = array_back s others same naming n p names name.text f named.0 (meaning_at s p name.text) refl array in
    subst Q (sym tree) (record {
      is = λ at. (f, x, refl, own.is, inner.is (at + 2));
      clean = λ at. none_joined _ _ (own.clean at) (inner.clean (at + 2));
      named = (own.named, inner.named);
    })
expr_back laws s declared others same program n p names (complement_shape under) e named (x, tree, one) =
    let naming = naming_in s program in
    let Q : ExprTree → Type 0 = λ t. ExprBack (with_globals s others) p naming t in
    let inner = expr_back laws s declared others same program n p names under x named one in
    subst Q (sym tree) (record {
      is = λ at. (
        x,
        refl,
        operand_at (λ shape. IsExprFor (with_globals s others) p shape x) tightest_level
            (expr_phrase naming x) inner.is (at + 1),
      );
      clean = λ at. operand_at (λ shape. expr_faults (with_globals s others) p shape ≡ []) tightest_level
          (expr_phrase naming x) inner.clean (at + 1);
      named = operand_named tightest_level (expr_phrase naming x) inner.named;
    })
expr_back laws s declared others same program n p names (negation_shape under) e named (x, tree, one) =
    let naming = naming_in s program in
    let Q : ExprTree → Type 0 = λ t. ExprBack (with_globals s others) p naming t in
    let inner = expr_back laws s declared others same program n p names under x named one in
    subst Q (sym tree) (record {
      is = λ at. (
        x,
        refl,
        operand_at (λ shape. IsExprFor (with_globals s others) p shape x) tightest_level
            (expr_phrase naming x) inner.is (at + 1),
      );
      clean = λ at. operand_at (λ shape. expr_faults (with_globals s others) p shape ≡ []) tightest_level
          (expr_phrase naming x) inner.clean (at + 1);
      named = operand_named tightest_level (expr_phrase naming x) inner.named;
    })
expr_back laws s declared others same program n p names (binary_shape o left right) e named (x, y, tree, one, two) =
    let naming = naming_in s program in
    let Q : ExprTree → Type 0 = λ t. ExprBack (with_globals s others) p naming t in
    let first = expr_back laws s declared others same program n p names left x named.0 one in
    let second = expr_back laws s declared others same program n p names right y named.1 two in
    let on_left : ExprPhrase = expr_phrase naming x in
    let on_right : ExprPhrase = expr_phrase naming y in
    let place : ℕ → ℕ = λ at. at + expr_width (operand (operator_level o) on_left) + 1 in
    subst Q (sym tree) (record {
      is = λ at. (
        x,
        y,
        refl,
        operand_at (λ shape. IsExprFor (with_globals s others) p shape x) (operator_level o) on_left first.is at,
        operand_at (λ shape. IsExprFor (with_globals s others) p shape y) (suc (operator_level o)) on_right second.is
            (place at),
      );
      clean = λ at. none_joined _ _
          (operand_at (λ shape. expr_faults (with_globals s others) p shape ≡ []) (operator_level o) on_left first.clean
          at)
          (operand_at (λ shape. expr_faults (with_globals s others) p shape ≡ []) (suc (operator_level o)) on_right
          second.clean (place at));
      named = (
        operand_named (operator_level o) on_left first.named,
        operand_named (suc (operator_level o)) on_right second.named,
      );
    })
expr_back laws s declared others same program n p names (release_shape under written) e named
    (x, l, tree, one, labelled) =
    let naming = naming_in s program in
    let Q : ExprTree → Type 0 = λ t. ExprBack (with_globals s others) p naming t in
    let inner = expr_back laws s declared others same program n p names under x named one in
    let place : ℕ → ℕ = λ at. at + 3 + expr_width (expr_phrase naming x) in
    let label : (at : ℕ) → IsLabelFor s.principals (label_at (place at) (printed_parts s.principals l)) l =
    λ at. label_back laws s.principals l declared labelled.over (place at) in
    subst Q (sym tree) (record {
      is = λ at. (x, l, refl, inner.is (at + 2), label at);
      clean = λ at. none_joined _ _ (inner.clean (at + 2))
          (label_clean s.principals (label_at (place at) (printed_parts s.principals l)) l (label at));
      named = (inner.named, label_named s.principals l declared);
    })
expr_back laws s declared others same program n p names (endorsement_shape under written) e named
    (x, l, tree, one, labelled) =
    let naming = naming_in s program in
    let Q : ExprTree → Type 0 = λ t. ExprBack (with_globals s others) p naming t in
    let inner = expr_back laws s declared others same program n p names under x named one in
    let place : ℕ → ℕ = λ at. at + 3 + expr_width (expr_phrase naming x) in
    let label : (at : ℕ) → IsLabelFor s.principals (label_at (place at) (printed_parts s.principals l)) l =
    λ at. label_back laws s.principals l declared labelled.over (place at) in
    subst Q (sym tree) (record {
      is = λ at. (x, l, refl, inner.is (at + 2), label at);
      clean = λ at. none_joined _ _ (inner.clean (at + 2))
          (label_clean s.principals (label_at (place at) (printed_parts s.principals l)) l (label at));
      named = (inner.named, label_named s.principals l declared);
    })
