-- An expression is read in one way, before what continues no expression.
use Rattle.std.proofs.Common.{◌≡◌, ◌≢◌, ℕ, ◌≤◌, List, [], ◌∷◌, ◌++◌, refl, ap, sym, ◌∙◌, subst}
use Rattle.std.proofs.Common.{Some, None, arith}
use Rattle.js_base.specs.declared.binary_operator.BinOp.{BinOp}
use Rattle.js_base.specs.declared.binary_operator.BinOp.TheVariants as operator
use Rattle.jif_lex.specs.declared.token.TokenKind.{TokenKind}
use Rattle.jif_lex.specs.declared.token.Symbol.{Symbol}
use Rattle.jif_lex.specs.declared.token.Symbol.TheVariants as symbols
use Rattle.label_lattice.specs.Written.{symbol}
use Rattle.jif_grammar.specs.Phrases.{Sign, complement, minus, Change, release, acceptance}
use Rattle.jif_grammar.specs.Phrases.{LabelPhrase, ExprPhrase, number, variable, element, parenthesized, signed, binary}
use Rattle.jif_grammar.specs.Phrases.{relabelled}
use Rattle.jif_grammar.specs.Operators.{operator_of}
use Rattle.jif_grammar.specs.Operators.{operator_symbol, tightest_level}
use Rattle.jif_grammar.specs.Grouping.{level, IsGrouped}
use Rattle.jif_grammar.specs.Unmarked.{expr_then, label_then}
use Rattle.jif_grammar.proofs.OneJoined.{Each, one_label}
use Rattle.jif_grammar.proofs.Groups.{each_append, Link, link, first_operand, links, IsOperand, first_of_operand}
use Rattle.jif_grammar.proofs.Groups.{one_group}

-- ---- what continues an expression

pub operator_back : (o : BinOp) → operator_of (operator_symbol o) ≡ Some o
operator_back operator.Or = refl
operator_back operator.And = refl
operator_back operator.Equal = refl
operator_back operator.NotEqual = refl
operator_back operator.Less = refl
operator_back operator.LessEqual = refl
operator_back operator.Greater = refl
operator_back operator.GreaterEqual = refl
operator_back operator.Add = refl
operator_back operator.Subtract = refl
operator_back operator.Multiply = refl
operator_back operator.Divide = refl
operator_back operator.Remainder = refl

pub one_operator : (o p : BinOp) → operator_symbol o ≡ operator_symbol p → o ≡ p
one_operator o p same =
    let both : Some o ≡ Some p = sym (operator_back o) ∙ ap operator_of same ∙ operator_back p in
    cc

-- it begins with no index bracket
abbrev pub NoIndex : List TokenKind → Type 0
NoIndex r = (t : List TokenKind) → r ≢ symbol symbols.LeftBracket ∷ t

-- it begins with nothing that continues an expression
abbrev pub Stops : List TokenKind → Type 0
Stops r = NoIndex r × ((o : BinOp) (t : List TokenKind) → r ≢ symbol (operator_symbol o) ∷ t)

-- a symbol that writes no operator, and no index bracket
pub stops_at : (s : Symbol) → operator_of s ≡ None → s ≢ symbols.LeftBracket → (t : List TokenKind) →
    Stops (symbol s ∷ t)
stops_at s none not_index t = (
  λ u same. not_index (let e : s ≡ symbols.LeftBracket = cc in e),
  λ o u same.
      let e : s ≡ operator_symbol o = cc in
      let found : operator_of s ≡ Some o = ap operator_of e ∙ operator_back o in
      (let clash : None ≡ Some o = sym none ∙ found in cc),
)

no_index : (o : BinOp) (t : List TokenKind) → NoIndex (symbol (operator_symbol o) ∷ t)
no_index o t u same =
    let e : operator_symbol o ≡ symbols.LeftBracket = cc in
    let found : Some o ≡ None = sym (operator_back o) ∙ ap operator_of e in
    cc

pub stops_semicolon : (t : List TokenKind) → Stops (symbol symbols.Semicolon ∷ t)
stops_semicolon t = stops_at symbols.Semicolon refl (λ same. cc) t

pub stops_comma : (t : List TokenKind) → Stops (symbol symbols.Comma ∷ t)
stops_comma t = stops_at symbols.Comma refl (λ same. cc) t

pub stops_bracket : (t : List TokenKind) → Stops (symbol symbols.RightBracket ∷ t)
stops_bracket t = stops_at symbols.RightBracket refl (λ same. cc) t

pub stops_parenthesis : (t : List TokenKind) → Stops (symbol symbols.RightParenthesis ∷ t)
stops_parenthesis t = stops_at symbols.RightParenthesis refl (λ same. cc) t

-- ---- what one reading says

abbrev pub OneOperand : ExprPhrase → Type 0
OneOperand x =
    (y : ExprPhrase) → IsOperand y → IsGrouped y → (r s : List TokenKind) → NoIndex r → NoIndex s →
    expr_then x r ≡ expr_then y s → (x ≡ y) × (r ≡ s)

abbrev pub OneExpr : ExprPhrase → Type 0
OneExpr e =
    (f : ExprPhrase) → IsGrouped f → (r s : List TokenKind) → Stops r → Stops s → expr_then e r ≡ expr_then f s →
    (e ≡ f) × (r ≡ s)

-- ---- an expression as its operands and operators

abbrev pub links_then : List Link → List TokenKind → List TokenKind
links_then [] r = r
links_then (l ∷ ls) r = symbol (operator_symbol l.joins) ∷ expr_then l.operand (links_then ls r)

links_append : (ls ms : List Link) (r : List TokenKind) → links_then (ls ++ ms) r ≡ links_then ls (links_then ms r)
links_append [] ms r = refl
links_append (l ∷ ls) ms r =
    ap (λ t. symbol (operator_symbol l.joins) ∷ expr_then l.operand t) (links_append ls ms r)

pub in_order : (e : ExprPhrase) (r : List TokenKind) →
    expr_then e r ≡ expr_then (first_operand e) (links_then (links e) r)
in_order (number n) r = refl
in_order (variable name) r = refl
in_order (element name index) r = refl
in_order (parenthesized inner) r = refl
in_order (signed sign operand) r = refl
in_order (relabelled change inner label) r = refl
in_order (binary o left right) r =
    in_order left (symbol (operator_symbol o) ∷ expr_then right r)
    ∙ ap (λ t. expr_then (first_operand left) (links_then (links left) (symbol (operator_symbol o) ∷ t)))
    (in_order right r)
    ∙ ap (expr_then (first_operand left)) (sym (links_append (links left)
    (link o (first_operand right) ∷ links right) r))

-- what holds of each operand
abbrev pub AllOperands : (ExprPhrase → Type 0) → ExprPhrase → Type 0
AllOperands P (binary o left right) = AllOperands P left × AllOperands P right
AllOperands P (number n) = P (number n)
AllOperands P (variable name) = P (variable name)
AllOperands P (element name index) = P (element name index)
AllOperands P (parenthesized inner) = P (parenthesized inner)
AllOperands P (signed sign operand) = P (signed sign operand)
AllOperands P (relabelled change inner label) = P (relabelled change inner label)

pub at_first : (P : ExprPhrase → Type 0) (e : ExprPhrase) → AllOperands P e → P (first_operand e)
at_first P (binary o left right) all = at_first P left all.0
at_first P (number n) all = all
at_first P (variable name) all = all
at_first P (element name index) all = all
at_first P (parenthesized inner) all = all
at_first P (signed sign operand) all = all
at_first P (relabelled change inner label) all = all

pub at_links : (P : ExprPhrase → Type 0) (e : ExprPhrase) → AllOperands P e → Each (λ l. P l.operand) (links e)
at_links P (binary o left right) all =
    each_append (λ l. P l.operand) (links left) (link o (first_operand right) ∷ links right) (at_links P left all.0)
    (at_first P right all.1, at_links P right all.1)
at_links P (number n) all = tt
at_links P (variable name) all = tt
at_links P (element name index) all = tt
at_links P (parenthesized inner) all = tt
at_links P (signed sign operand) all = tt
at_links P (relabelled change inner label) all = tt

abbrev pub IsSoundOperand : ExprPhrase → Type 0
IsSoundOperand e = IsOperand e × IsGrouped e

pub sound_operands : (e : ExprPhrase) → IsGrouped e → AllOperands IsSoundOperand e
sound_operands (binary o left right) grouped = (sound_operands left grouped.2, sound_operands right grouped.3)
sound_operands (number n) grouped = (tt, grouped)
sound_operands (variable name) grouped = (tt, grouped)
sound_operands (element name index) grouped = (tt, grouped)
sound_operands (parenthesized inner) grouped = (tt, grouped)
sound_operands (signed sign operand) grouped = (tt, grouped)
sound_operands (relabelled change inner label) grouped = (tt, grouped)

-- ---- from operands to expressions

links_no_index : (ls : List Link) (r : List TokenKind) → NoIndex r → NoIndex (links_then ls r)
links_no_index [] r none = none
links_no_index (l ∷ ls) r none = no_index l.joins (expr_then l.operand (links_then ls r))

one_links : (ls ms : List Link) → Each (λ l. OneOperand l.operand) ls → Each (λ l. IsSoundOperand l.operand) ms →
    (r s : List TokenKind) → Stops r → Stops s → links_then ls r ≡ links_then ms s → (ls ≡ ms) × (r ≡ s)
one_links [] [] ones sound r s fr fs same = (refl, same)
one_links [] (m ∷ ms) ones sound r s fr fs same =
    absurd (fr.1 m.joins (expr_then m.operand (links_then ms s)) same)
one_links (l ∷ ls) [] ones sound r s fr fs same =
    absurd (fs.1 l.joins (expr_then l.operand (links_then ls r)) (sym same))
one_links (l ∷ ls) (m ∷ ms) ones sound r s fr fs same =
    let written : operator_symbol l.joins ≡ operator_symbol m.joins = cc in
    let behind : expr_then l.operand (links_then ls r) ≡ expr_then m.operand (links_then ms s) = cc in
    let operators : l.joins ≡ m.joins = one_operator l.joins m.joins written in
    let one = ones.0 m.operand sound.0.0 sound.0.1 (links_then ls r) (links_then ms s) (links_no_index ls r fr.0)
    (links_no_index ms s fs.0) behind in
    let operands : l.operand ≡ m.operand = one.0 in
    let heads : l ≡ m = ap (λ o. link o l.operand) operators ∙ ap (λ x. link m.joins x) operands in
    let rest = one_links ls ms ones.1 sound.1 r s fr fs one.1 in
    (ap (λ k. k ∷ ls) heads ∙ ap (λ ks. m ∷ ks) rest.0, rest.1)

one_from_operands : (e : ExprPhrase) → IsGrouped e → AllOperands OneOperand e → OneExpr e
one_from_operands e grouped ones f also r s fr fs same =
    let sound = sound_operands f also in
    let first_sound : IsSoundOperand (first_operand f) = at_first IsSoundOperand f sound in
    let firsts = at_first OneOperand e ones (first_operand f) first_sound.0 first_sound.1 (links_then (links e) r)
    (links_then (links f) s) (links_no_index (links e) r fr.0) (links_no_index (links f) s fs.0)
    (sym (in_order e r) ∙ same ∙ in_order f s) in
    let all = one_links (links e) (links f) (at_links OneOperand e ones) (at_links IsSoundOperand f sound) r s fr fs
    firsts.1 in
    (one_group e f grouped also firsts.0 all.0, all.1)

-- ---- operands

one_number : (n : ℕ) → OneOperand (number n)
one_number n (number m) operand grouped r s fr fs same =
    let values : n ≡ m = cc in
    (ap number values, cc)
one_number n (binary o left right) operand grouped r s fr fs same = absurd operand
one_number n (signed complement inner) operand grouped r s fr fs same = absurd (cc)
one_number n (relabelled release inner label) operand grouped r s fr fs same = absurd (cc)
one_number n _ operand grouped r s fr fs same = absurd (cc)

one_variable : (name : List ℕ) → OneOperand (variable name)
one_variable name (variable other) operand grouped r s fr fs same =
    let names : name ≡ other = cc in
    (ap variable names, cc)
one_variable name (element other index) operand grouped r s fr fs same =
    absurd (fr (expr_then index (symbol symbols.RightBracket ∷ s)) cc)
one_variable name (binary o left right) operand grouped r s fr fs same = absurd operand
one_variable name (signed complement inner) operand grouped r s fr fs same = absurd (cc)
one_variable name (relabelled release inner label) operand grouped r s fr fs same = absurd (cc)
one_variable name _ operand grouped r s fr fs same = absurd (cc)

one_element : (name : List ℕ) (index : ExprPhrase) → OneExpr index → OneOperand (element name index)
one_element name index one (element other place) operand grouped r s fr fs same =
    let names : name ≡ other = cc in
    let behind : expr_then index (symbol symbols.RightBracket ∷ r) ≡ expr_then place (symbol symbols.RightBracket ∷ s)
    = cc in
    let both = one place grouped (symbol symbols.RightBracket ∷ r) (symbol symbols.RightBracket ∷ s) (stops_bracket r)
    (stops_bracket s) behind in
    let rests = both.1 in
    (ap (λ n. element n index) names ∙ ap (element other) both.0, cc)
one_element name index one (variable other) operand grouped r s fr fs same =
    absurd (fs (expr_then index (symbol symbols.RightBracket ∷ r)) cc)
one_element name index one (binary o left right) operand grouped r s fr fs same = absurd operand
one_element name index one (signed complement inner) operand grouped r s fr fs same = absurd (cc)
one_element name index one (relabelled release inner label) operand grouped r s fr fs same = absurd (cc)
one_element name index one _ operand grouped r s fr fs same = absurd (cc)

one_parenthesized : (inner : ExprPhrase) → OneExpr inner → OneOperand (parenthesized inner)
one_parenthesized inner one (parenthesized other) operand grouped r s fr fs same =
    let behind : expr_then inner (symbol symbols.RightParenthesis ∷ r)
    ≡ expr_then other (symbol symbols.RightParenthesis ∷ s) = cc in
    let both = one other grouped (symbol symbols.RightParenthesis ∷ r) (symbol symbols.RightParenthesis ∷ s)
    (stops_parenthesis r) (stops_parenthesis s) behind in
    let rests = both.1 in
    (ap parenthesized both.0, cc)
one_parenthesized inner one (binary o left right) operand grouped r s fr fs same = absurd operand
one_parenthesized inner one (signed complement other) operand grouped r s fr fs same = absurd (cc)
one_parenthesized inner one (relabelled release other label) operand grouped r s fr fs same = absurd (cc)
one_parenthesized inner one _ operand grouped r s fr fs same = absurd (cc)

-- a sign stands before an operand
pub level_of_operand : (e : ExprPhrase) → tightest_level ≤ level e → IsOperand e
level_of_operand (binary operator.Or left right) tight = omega (arith, tight)
level_of_operand (binary operator.And left right) tight = omega (arith, tight)
level_of_operand (binary _ left right) tight = omega (arith, tight)
level_of_operand (number n) tight = tt
level_of_operand _ tight = tt

one_signed : (sign : Sign) (inner : ExprPhrase) → OneOperand inner → OneOperand (signed sign inner)
one_signed complement inner one (signed complement other) operand grouped r s fr fs same =
    let both = one other (level_of_operand other grouped.0) grouped.1 r s fr fs cc in
    (ap (signed complement) both.0, both.1)
one_signed complement inner one (binary o left right) operand grouped r s fr fs same = absurd operand
one_signed complement inner one (relabelled release other label) operand grouped r s fr fs same = absurd (cc)
one_signed complement inner one _ operand grouped r s fr fs same = absurd (cc)
one_signed minus inner one (signed minus other) operand grouped r s fr fs same =
    let both = one other (level_of_operand other grouped.0) grouped.1 r s fr fs cc in
    (ap (signed minus) both.0, both.1)
one_signed minus inner one (binary o left right) operand grouped r s fr fs same = absurd operand
one_signed minus inner one (relabelled release other label) operand grouped r s fr fs same = absurd (cc)
one_signed minus inner one _ operand grouped r s fr fs same = absurd (cc)

-- what follows the word, however it relabels
inner_then : ExprPhrase → LabelPhrase → List TokenKind → List TokenKind
inner_then inner label r =
    expr_then inner (symbol symbols.Comma ∷ label_then label (symbol symbols.RightParenthesis ∷ r))

one_inner : (inner other : ExprPhrase) (label names : LabelPhrase) (r s : List TokenKind) → OneExpr inner →
    IsGrouped other → inner_then inner label r ≡ inner_then other names s →
    (inner ≡ other) × (label ≡ names) × (r ≡ s)
unfolding inner_then
one_inner inner other label names r s one grouped same =
    let both = one other grouped (symbol symbols.Comma ∷ label_then label (symbol symbols.RightParenthesis ∷ r))
    (symbol symbols.Comma ∷ label_then names (symbol symbols.RightParenthesis ∷ s)) (stops_comma _) (stops_comma _)
    same in
    let rests = both.1 in
    let behind : label_then label (symbol symbols.RightParenthesis ∷ r)
    ≡ label_then names (symbol symbols.RightParenthesis ∷ s) = cc in
    let labels = one_label label names (symbol symbols.RightParenthesis ∷ r) (symbol symbols.RightParenthesis ∷ s)
    behind in
    let ends = labels.1 in
    (both.0, labels.0, cc)

one_relabelled : (change : Change) (inner : ExprPhrase) (label : LabelPhrase) → OneExpr inner →
    OneOperand (relabelled change inner label)
unfolding inner_then
one_relabelled release inner label one (relabelled release other names) operand grouped r s fr fs same =
    let behind : inner_then inner label r ≡ inner_then other names s = cc in
    let all = one_inner inner other label names r s one grouped.0 behind in
    (ap (λ e. relabelled release e label) all.0 ∙ ap (relabelled release other) all.1, all.2)
one_relabelled release inner label one (binary o left right) operand grouped r s fr fs same = absurd operand
one_relabelled release inner label one (signed complement other) operand grouped r s fr fs same = absurd (cc)
one_relabelled release inner label one _ operand grouped r s fr fs same = absurd (cc)
one_relabelled acceptance inner label one (relabelled acceptance other names) operand grouped r s fr fs same =
    let behind : inner_then inner label r ≡ inner_then other names s = cc in
    let all = one_inner inner other label names r s one grouped.0 behind in
    (ap (λ e. relabelled acceptance e label) all.0 ∙ ap (relabelled acceptance other) all.1, all.2)
one_relabelled acceptance inner label one (binary o left right) operand grouped r s fr fs same = absurd operand
one_relabelled acceptance inner label one (signed complement other) operand grouped r s fr fs same = absurd (cc)
one_relabelled acceptance inner label one _ operand grouped r s fr fs same = absurd (cc)

-- ---- expressions

one_operands : (e : ExprPhrase) → IsGrouped e → AllOperands OneOperand e
one_operands (number n) grouped = one_number n
one_operands (variable name) grouped = one_variable name
one_operands (element name index) grouped =
    one_element name index (one_from_operands index grouped (one_operands index grouped))
one_operands (parenthesized inner) grouped =
    one_parenthesized inner (one_from_operands inner grouped (one_operands inner grouped))
one_operands (signed sign inner) grouped =
    let operand = level_of_operand inner grouped.0 in
    one_signed sign inner (subst OneOperand (first_of_operand inner operand)
    (at_first OneOperand inner (one_operands inner grouped.1)))
one_operands (binary o left right) grouped = (one_operands left grouped.2, one_operands right grouped.3)
one_operands (relabelled change inner label) grouped =
    one_relabelled change inner label (one_from_operands inner grouped.0 (one_operands inner grouped.0))

pub one_expr : (e : ExprPhrase) → IsGrouped e → OneExpr e
one_expr e grouped = one_from_operands e grouped (one_operands e grouped)
