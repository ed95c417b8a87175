-- What is printed of a program has no line feed in it but those that end its lines.
use Rattle.std.proofs.Common.{◌≡◌, ◌+◌, ◌/◌, ◌%◌, ℕ, zero, suc, pos, negsuc, ℤ, Bool, true, false}
use Rattle.std.proofs.Common.{List, [], ◌∷◌, ◌++◌, codes, refl, ◌∙◌, arith, Option, Some, None}
use Rattle.std.specs.Prelude.{nat_le, nat_lt, ◌==◌, ◌&&◌, if◌then◌else◌, slice_get}
use Rattle.std.specs.Fmt.{decimal, digit_glyph, digits, digits_onto, signed_decimal}
use Rattle.std.specs.List.{AllByRecursion, flat_map, join_by, list_all}
use Rattle.std.proofs.lemmas.Bool.{and_from}
use Rattle.std.proofs.lemmas.Bool.Decides.{nat_tests}
use Rattle.std.proofs.lemmas.List.Folds.{list_all-append}
use Rattle.js_base.specs.Name.{continues_name}
use Rattle.js_base.specs.declared.binary_operator.BinOp.{BinOp}
use Rattle.js_base.specs.declared.binary_operator.BinOp.TheVariants as operator
use Rattle.js_base.specs.declared.ids.FieldId.{FieldId}
use Rattle.js_base.specs.declared.ids.MethodId.{MethodId}
use Rattle.js_base.specs.declared.ids.PrincipalId.{PrincipalId}
use Rattle.js_base.specs.declared.ids.VarId.{VarId}
use Rattle.principals.specs.ActsFor.{Declared}
use Rattle.jif_lex.specs.Symbols.{symbol_text}
use Rattle.label_lattice.specs.declared.label.Label.{Label}
use Rattle.label_lattice.specs.Printed.{allows, each_where, forbids_some, is_trusted_by, joined, names_where}
use Rattle.label_lattice.specs.Printed.{printed_label, printed_part, printed_parts, printed_policy, trust_parts}
use Rattle.label_lattice.specs.Written.{Part}
use Rattle.jif_grammar.specs.Grouping.{level}
use Rattle.jif_grammar.specs.Operators.{operator_level, operator_symbol, tightest_level}
use Rattle.jif_grammar.specs.Phrases.{ExprPhrase}
use Rattle.jif_tree.specs.Trees as tree
use Rattle.jif_tree.specs.Trees.{ExprTree}
use Rattle.jif_parse.specs.PrintedExprs.{expr_phrase, expr_text, operand, parenthesized_where, phrase_text}
use Rattle.jif_parse.specs.PrintedNames.{Naming, field_name, method_name, variable_label, variable_name}
use Rattle.jif_parse.specs.PrintedNames.{name_or_none, principal_name}
use Rattle.jif_parse.specs.PrintedProgram.{authority_text, declared_text, field_end_text, into_text}
use Rattle.jif_parse.specs.PrintedProgram.{kind_text, optional_label_text}

-- ---- bytes

-- no control character
abbrev pub prints : ℕ → Bool
prints byte = nat_le 32 byte

pub record IsPrinted (text : List ℕ) : Type 0 where
  pub all : list_all prints text ≡ true

-- the bytes of a name
pub record IsWord (text : List ℕ) : Type 0 where
  pub all : list_all continues_name text ≡ true

pub literal : (text : List ℕ) → list_all prints text ≡ true → IsPrinted text
literal text all = record { all = all }

pub both : {first second : List ℕ} → IsPrinted first → IsPrinted second → IsPrinted (first ++ second)
both {first} {second} one two = record {
  all = list_all-append prints first second ∙ and_from _ _ one.all two.all;
}

one_printed : (byte : ℕ) → continues_name byte ≡ true → prints byte ≡ true
one_printed byte is = grind (arith, nat_tests)

pub parts_of_and : (first second : Bool) → (first && second) ≡ true → (first ≡ true) × (second ≡ true)
parts_of_and true second is = (refl, is)
parts_of_and false second is = (is, absurd (let no = is in cc))

all_printed : (text : List ℕ) → list_all continues_name text ≡ true → list_all prints text ≡ true
all_printed [] is = refl
all_printed (byte ∷ bytes) is =
    let parts = parts_of_and (continues_name byte) (list_all continues_name bytes) is in
    and_from _ _ (one_printed byte parts.0) (all_printed bytes parts.1)

pub word_printed : {text : List ℕ} → IsWord text → IsPrinted text
word_printed {text} is = record { all = all_printed text is.all }

-- ---- numbers

glyph_prints : (digit : ℕ) (small : Bool) → nat_lt digit 10 ≡ small →
    prints (if small then 48 + digit else 87 + digit) ≡ true
glyph_prints digit true is = grind (arith, nat_tests)
glyph_prints digit false is = grind (arith, nat_tests)

either_prints : (test : Bool) (one other : List ℕ) → list_all prints one ≡ true → list_all prints other ≡ true →
    list_all prints (if test then one else other) ≡ true
either_prints true one other is also = is
either_prints false one other is also = also

digits_print : (k n : ℕ) (behind : List ℕ) → list_all prints behind ≡ true →
    list_all prints (digits_onto k 10 false n behind) ≡ true
digits_print zero n behind is = is
digits_print (suc k) n behind is =
    let more = and_from _ _ (glyph_prints (n % 10) (nat_lt (n % 10) 10) refl) is in
    either_prints (n / 10 == 0) (digit_glyph false (n % 10) ∷ behind)
    (digits_onto k 10 false (n / 10) (digit_glyph false (n % 10) ∷ behind)) more
    (digits_print k (n / 10) (digit_glyph false (n % 10) ∷ behind) more)

pub decimal_printed : (n : ℕ) → IsPrinted (decimal n)
unfolding digits
decimal_printed n = record { all = digits_print 64 n [] refl }

pub signed_printed : (value : ℤ) → IsPrinted (signed_decimal value)
signed_printed (pos n) = decimal_printed n
signed_printed (negsuc n) = both (literal (codes "-") refl) (decimal_printed (suc n))

-- ---- lists

rest_printed : {X : Type 0} (of : X → List ℕ) (separator : List ℕ) (items : List X) → IsPrinted separator →
    AllByRecursion (λ x. IsPrinted (of x)) items → IsPrinted (flat_map (λ x. separator ++ of x) items)
rest_printed of separator [] between all = literal [] refl
rest_printed of separator (item ∷ items) between all =
    both (both between all.0) (rest_printed of separator items between all.1)

pub joined_printed : {X : Type 0} (of : X → List ℕ) (separator : List ℕ) (items : List X) → IsPrinted separator →
    AllByRecursion (λ x. IsPrinted (of x)) items → IsPrinted (join_by of separator items)
joined_printed of separator [] between all = literal [] refl
joined_printed of separator (item ∷ items) between all = both all.0 (rest_printed of separator items between all.1)

pub each : {X : Type 0} (P : X → Type 0) (items : List X) → ((x : X) → P x) → AllByRecursion P items
each P [] holds = tt
each P (item ∷ items) holds = (holds item, each P items holds)

also_of : {X : Type 0} (P : X → Type 0) (test : Bool) (item : X) (items : List X) → P item → AllByRecursion P items →
    AllByRecursion P ((if test then item ∷ [] else []) ++ items)
also_of P true item items one all = (one, all)
also_of P false item items one all = all

both_lists : {X : Type 0} (P : X → Type 0) (first second : List X) → AllByRecursion P first →
    AllByRecursion P second → AllByRecursion P (first ++ second)
both_lists P [] second one two = two
both_lists P (item ∷ items) second one two = (one.0, both_lists P items second one.1 two)

-- ---- labels

each_made : {X : Type 0} (P : X → Type 0) (test : ℕ → Bool) (make : ℕ → List ℕ → X) (first : ℕ)
    (names : List (List ℕ)) → ((number : ℕ) (name : List ℕ) → IsPrinted name → P (make number name)) →
    AllByRecursion IsPrinted names → AllByRecursion P (each_where test make first names)
each_made P test make first [] makes all = tt
each_made P test make first (name ∷ names) makes all =
    also_of P (test first) (make first name) (each_where test make (first + 1) names) (makes first name all.0)
    (each_made P test make (first + 1) names makes all.1)

names_printed : (test : ℕ → Bool) (principals : Declared) → AllByRecursion IsPrinted principals.names →
    AllByRecursion IsPrinted (names_where test principals)
names_printed test principals all =
    each_made IsPrinted test (λ principal name. name) 0 principals.names (λ number name is. is) all

joined_names : (names : List (List ℕ)) → AllByRecursion IsPrinted names → IsPrinted (joined (codes ", ") names)
joined_names names all = joined_printed (λ (text : List ℕ). text) (codes ", ") names (literal (codes ", ") refl) all

policy_printed : (principals : Declared) (label : Label) → AllByRecursion IsPrinted principals.names → (owner : ℕ)
    (name : List ℕ) → IsPrinted name → IsPrinted (printed_part (printed_policy principals label owner name))
policy_printed principals label all owner name is =
    both (both is (literal (codes ": ") refl))
    (joined_names (names_where (allows label owner) principals) (names_printed (allows label owner) principals all))

trust_printed : (members : List (List ℕ)) → AllByRecursion IsPrinted members →
    AllByRecursion (λ part. IsPrinted (printed_part part)) (trust_parts members)
trust_printed [] all = tt
trust_printed (member ∷ members) all =
    (both (literal (codes "?: ") refl) (joined_names (member ∷ members) all), tt)

pub label_printed : (principals : Declared) (label : Label) → AllByRecursion IsPrinted principals.names →
    IsPrinted (printed_label principals label)
label_printed principals label all =
    let P : Part → Type 0 = λ part. IsPrinted (printed_part part) in
    both (literal (codes "{") refl)
    (both (joined_printed printed_part (codes "; ") (printed_parts principals label) (literal (codes "; ") refl)
    (both_lists P _ _
    (each_made P (forbids_some label) (printed_policy principals label) 0 principals.names
    (policy_printed principals label all) all)
    (trust_printed (names_where (is_trusted_by label) principals)
    (names_printed (is_trusted_by label) principals all))))
    (literal (codes "}") refl))

pub optional_printed : (principals : Declared) (label : Option Label) → AllByRecursion IsPrinted principals.names →
    IsPrinted (optional_label_text principals label)
optional_printed principals None all = literal [] refl
optional_printed principals (Some label) all = label_printed principals label all

-- ---- names

-- the fields, variables and methods have the bytes of names, and so have principals
pub record AreWords (naming : Naming) : Type 0 where
  pub fields : (field : FieldId) → IsWord (field_name naming field)
  pub variables : (x : VarId) → IsWord (variable_name naming x)
  pub methods : (method : MethodId) → IsWord (method_name naming method)
  pub principals : AllByRecursion IsPrinted naming.principals.names

-- ---- expressions

operand_printed : (least : ℕ) (inner : ExprPhrase) → IsPrinted (phrase_text inner) →
    IsPrinted (phrase_text (operand least inner))
unfolding operand
operand_printed least inner is = in_parentheses (nat_lt (level inner) least)
  where
    in_parentheses : (test : Bool) → IsPrinted (phrase_text (parenthesized_where test inner))
    in_parentheses true = both (literal (codes "(") refl) (both is (literal (codes ")") refl))
    in_parentheses false = is

symbol_printed : (written : BinOp) → IsPrinted (symbol_text (operator_symbol written))
symbol_printed operator.Or = literal _ refl
symbol_printed operator.And = literal _ refl
symbol_printed operator.Equal = literal _ refl
symbol_printed operator.NotEqual = literal _ refl
symbol_printed operator.Less = literal _ refl
symbol_printed operator.LessEqual = literal _ refl
symbol_printed operator.Greater = literal _ refl
symbol_printed operator.GreaterEqual = literal _ refl
symbol_printed operator.Add = literal _ refl
symbol_printed operator.Subtract = literal _ refl
symbol_printed operator.Multiply = literal _ refl
symbol_printed operator.Divide = literal _ refl
symbol_printed operator.Remainder = literal _ refl

changed_printed : (word inner label : List ℕ) → IsPrinted word → IsPrinted inner → IsPrinted label →
    IsPrinted (word ++ codes "(" ++ inner ++ codes ", " ++ label ++ codes ")")
changed_printed word inner label first second third =
    both (both (both (both (both first (literal (codes "(") refl)) second) (literal (codes ", ") refl)) third)
    (literal (codes ")") refl)

pub expr_printed : (naming : Naming) → AreWords naming → (value : ExprTree) → IsPrinted (expr_text naming value)
expr_printed naming words (tree.number (pos n)) = signed_printed (pos n)
expr_printed naming words (tree.number (negsuc n)) = both (literal (codes "-") refl) (signed_printed (pos (suc n)))
expr_printed naming words (tree.local x) = word_printed (words.variables x)
expr_printed naming words (tree.scalar field) = word_printed (words.fields field)
expr_printed naming words (tree.element field index) =
    both (both (both (word_printed (words.fields field)) (literal (codes "[") refl)) (expr_printed naming words index))
    (literal (codes "]") refl)
expr_printed naming words (tree.inverted inner) =
    both (literal (codes "!") refl)
    (operand_printed tightest_level (expr_phrase naming inner) (expr_printed naming words inner))
expr_printed naming words (tree.negated inner) =
    both (literal (codes "-") refl)
    (operand_printed tightest_level (expr_phrase naming inner) (expr_printed naming words inner))
expr_printed naming words (tree.binary written left right) =
    both (both (both (both
    (operand_printed (operator_level written) (expr_phrase naming left) (expr_printed naming words left))
    (literal (codes " ") refl)) (symbol_printed written)) (literal (codes " ") refl))
    (operand_printed (suc (operator_level written)) (expr_phrase naming right) (expr_printed naming words right))
expr_printed naming words (tree.declassified inner label) =
    changed_printed (codes "declassify") (expr_text naming inner) (printed_label naming.principals label)
    (literal (codes "declassify") refl) (expr_printed naming words inner)
    (label_printed naming.principals label words.principals)
expr_printed naming words (tree.endorsed inner label) =
    changed_printed (codes "endorse") (expr_text naming inner) (printed_label naming.principals label)
    (literal (codes "endorse") refl) (expr_printed naming words inner)
    (label_printed naming.principals label words.principals)

pub exprs_printed : (naming : Naming) → AreWords naming → (values : List ExprTree) →
    IsPrinted (join_by (expr_text naming) (codes ", ") values)
exprs_printed naming words values =
    joined_printed (expr_text naming) (codes ", ") values (literal (codes ", ") refl)
    (each (λ value. IsPrinted (expr_text naming value)) values (expr_printed naming words))

-- ---- declarations

pub declared_printed : (naming : Naming) → AreWords naming → (x : VarId) → IsPrinted (declared_text naming x)
declared_printed naming words x =
    both (both (both (literal (codes "int") refl)
    (optional_printed naming.principals (variable_label naming x) words.principals)) (literal (codes " ") refl))
    (word_printed (words.variables x))

pub kind_printed : (naming : Naming) → AreWords naming → (result : Option VarId) →
    IsPrinted (kind_text naming result)
kind_printed naming words None = literal (codes "void") refl
kind_printed naming words (Some x) =
    both (literal (codes "int") refl)
    (optional_printed naming.principals (variable_label naming x) words.principals)

pub into_printed : (naming : Naming) → AreWords naming → (into : Option VarId) → IsPrinted (into_text naming into)
into_printed naming words None = literal [] refl
into_printed naming words (Some x) = both (word_printed (words.variables x)) (literal (codes " = ") refl)

name_got : (names : List (List ℕ)) (place : ℕ) → AllByRecursion IsPrinted names →
    IsPrinted (name_or_none (slice_get names place))
name_got [] place all = literal [] refl
name_got (name ∷ names) zero all = all.0
name_got (name ∷ names) (suc place) all = name_got names place all.1

pub authority_printed : (naming : Naming) → AreWords naming → (members : List PrincipalId) →
    IsPrinted (authority_text naming members)
authority_printed naming words [] = literal [] refl
authority_printed naming words (first ∷ others) =
    both (literal (codes " where authority(") refl)
    (both (joined_printed (principal_name naming) (codes ", ") (first ∷ others) (literal (codes ", ") refl)
    (each (λ member. IsPrinted (principal_name naming member)) (first ∷ others)
    (λ member. name_got naming.principals.names member.0 words.principals)))
    (literal (codes ")") refl))

pub field_end_printed : (array : Bool) (size : ℕ) (first : ℤ) → IsPrinted (field_end_text array size first)
field_end_printed true size first =
    both (literal (codes "[") refl) (both (decimal_printed size) (literal (codes "]") refl))
field_end_printed false size (pos zero) = literal [] refl
field_end_printed false size (pos (suc n)) = both (literal (codes " = ") refl) (signed_printed (pos (suc n)))
field_end_printed false size (negsuc n) = both (literal (codes " = ") refl) (signed_printed (negsuc n))
