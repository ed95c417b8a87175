-- Steps of the printing functions: what one more item makes of a text, and how the texts of formats are grouped.
use Rattle.std.proofs.Common.{◌≡◌, ℕ, suc, ◌+◌, ◌<◌, ◌≤◌, true, false, List, [], ◌∷◌, ◌++◌, length, get_or}
use Rattle.std.proofs.Common.{drop, take, map}
use Rattle.std.proofs.Common.{ap, sym, ◌∙◌, arith, add-one}
use Rattle.std.specs.Prelude.{nat_lt}
use Rattle.std.specs.List.{join_by}
use Rattle.std.proofs.lemmas.Bool.Decides.{nat_tests}
use Rattle.std.proofs.lemmas.List.{append_assoc, take_all, take-map}
use Rattle.label_lattice.proofs.PrintedLemmas.{joined_same}
use Rattle.js_base.specs.declared.binary_operator.BinOp.{BinOp}
use Rattle.jif_lex.specs.Symbols.{symbol_text}
use Rattle.jif_grammar.specs.Phrases.{ExprPhrase, binary, element}
use Rattle.jif_grammar.specs.Operators.{operator_symbol, operator_level}
use Rattle.jif_grammar.specs.Grouping.{level}
use Rattle.jif_parse.specs.PrintedExprs.{operand, parenthesized_where, phrase_text}

-- ---- expressions

pub element_text : (field : List ℕ) (index : ExprPhrase) {text name inside : List ℕ} →
    text ≡ name ++ 91 ∷ (inside ++ 93 ∷ []) → name ≡ field → inside ≡ phrase_text index →
    text ≡ phrase_text (element field index)
element_text field index {inside = inside} is name_is inside_is =
    simp append_assoc (is ∙ ap (λ (n : List ℕ). n ++ 91 ∷ (inside ++ 93 ∷ [])) name_is
    ∙ ap (λ (i : List ℕ). field ++ 91 ∷ (i ++ 93 ∷ [])) inside_is)

pub binary_text : (operator : BinOp) (first second : ExprPhrase) (least : ℕ) {text left symbol right : List ℕ} →
    text ≡ left ++ 32 ∷ (symbol ++ 32 ∷ right) → least ≡ operator_level operator →
    left ≡ phrase_text (operand least first) → symbol ≡ symbol_text (operator_symbol operator) →
    right ≡ phrase_text (operand (least + 1) second) →
    text ≡ phrase_text (binary operator (operand (operator_level operator) first)
    (operand (suc (operator_level operator)) second))
binary_text operator first second least {left = left} {symbol = symbol} {right =
    right} is level_is left_is symbol_is right_is =
    let one = left_is ∙ ap (λ n. phrase_text (operand n first)) level_is in
    let two = right_is ∙ ap (λ n. phrase_text (operand n second)) (add-one least ∙ ap suc level_is) in
    simp append_assoc (is ∙ ap (λ (t : List ℕ). t ++ 32 ∷ (symbol ++ 32 ∷ right)) one
    ∙ ap (λ (t : List ℕ). phrase_text (operand (operator_level operator) first) ++ 32 ∷ (t ++ 32 ∷ right)) symbol_is
    ∙ ap (λ (t : List ℕ). phrase_text (operand (operator_level operator) first)
    ++ 32 ∷ (symbol_text (operator_symbol operator) ++ 32 ∷ t)) two)

pub operand_low : (least : ℕ) (p : ExprPhrase) (its : ℕ) {text inner : List ℕ} → its ≡ level p → its < least →
    text ≡ 40 ∷ (inner ++ 41 ∷ []) → inner ≡ phrase_text p → text ≡ phrase_text (operand least p)
unfolding operand
operand_low least p its level_is low is inner_is =
    let test : nat_lt (level p) least ≡ true = grind (arith, nat_tests) in
    is ∙ ap (λ (t : List ℕ). 40 ∷ (t ++ 41 ∷ [])) inner_is
    ∙ ap (λ b. phrase_text (parenthesized_where b p)) (sym test)

pub operand_high : (least : ℕ) (p : ExprPhrase) (its : ℕ) {text : List ℕ} → its ≡ level p → least ≤ its →
    text ≡ phrase_text p → text ≡ phrase_text (operand least p)
unfolding operand
operand_high least p its level_is high is =
    let test : nat_lt (level p) least ≡ false = grind (arith, nat_tests) in
    is ∙ ap (λ b. phrase_text (parenthesized_where b p)) (sym test)

-- the texts of all items, joined
pub all_joined : {X Y : Type 0} (of : Y → List ℕ) (text : X → List ℕ) (items : List X) (place : ℕ)
    (texts others : List Y)
    {joined : List ℕ} →
    length items ≤ place → joined ≡ join_by of (44 ∷ 32 ∷ []) texts → texts ≡ others →
    map of others ≡ map text (take place items) → joined ≡ join_by text (44 ∷ 32 ∷ []) items
all_joined of text items place texts others all is same texts_are =
    is ∙ joined_same of text (44 ∷ 32 ∷ []) texts items
    (ap (map of) same ∙ texts_are ∙ ap (map text) (take_all place items all))

pub all_mapped : {X Y : Type 0} (f : X → Y) (items : List X) (place : ℕ) →
    map f (take place items) ≡ take place (map f items)
all_mapped f items place = sym (take-map f place items)
