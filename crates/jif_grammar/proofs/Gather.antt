-- Operands and operators in any order of levels make an expression that is grouped.
use Rattle.std.proofs.Common.{◌≡◌, ℕ, ◌<◌, ◌≤◌, Bool, true, false, List, [], ◌∷◌, refl, ap, sym, ◌∙◌, arith, subst}
use Rattle.std.proofs.lemmas.Bool.{leb-true, leb-false}
use Rattle.std.specs.Prelude.{leb, cond, suc}
use Rattle.js_base.specs.declared.binary_operator.BinOp.{BinOp}
use Rattle.js_base.specs.declared.binary_operator.BinOp.TheVariants as operator
use Rattle.jif_lex.specs.declared.token.TokenKind.{TokenKind}
use Rattle.label_lattice.specs.Written.{symbol}
use Rattle.jif_grammar.specs.Phrases.{Sign, ExprPhrase, number, variable, element, parenthesized, signed, binary}
use Rattle.jif_grammar.specs.Phrases.{relabelled}
use Rattle.jif_grammar.specs.Operators.{operator_symbol, operator_level, tightest_level, sign_symbol}
use Rattle.jif_grammar.specs.Grouping.{level, IsGrouped}
use Rattle.jif_grammar.specs.Unmarked.{expr_then}
use Rattle.jif_grammar.proofs.OneJoined.{Each}
use Rattle.jif_grammar.proofs.Groups.{Link, IsOperand}
use Rattle.jif_grammar.proofs.OneExpr.{links_then, IsSoundOperand}

-- one more operator and operand behind an expression
abbrev pub attach : ExprPhrase → BinOp → ExprPhrase → ExprPhrase
attach (binary p left right) o x =
    cond (leb (suc (operator_level p)) (operator_level o)) (binary p left (attach right o x))
    (binary o (binary p left right) x)
attach (number n) o x = binary o (number n) x
attach (variable name) o x = binary o (variable name) x
attach (element name index) o x = binary o (element name index) x
attach (parenthesized inner) o x = binary o (parenthesized inner) x
attach (signed sign operand) o x = binary o (signed sign operand) x
attach (relabelled change inner label) o x = binary o (relabelled change inner label) x

low_level : (o : BinOp) → operator_level o < tightest_level
low_level operator.Or = omega arith
low_level _ = omega arith

operand_level : (x : ExprPhrase) → IsOperand x → level x ≡ tightest_level
operand_level (binary o left right) operand = absurd operand
operand_level _ operand = refl

abbrev chosen : BinOp → ExprPhrase → ExprPhrase → BinOp → ExprPhrase → Bool → ExprPhrase
chosen p left right o x b = cond b (binary p left (attach right o x)) (binary o (binary p left right) x)

chosen_tokens : (p : BinOp) (left right : ExprPhrase) (o : BinOp) (x : ExprPhrase) (r : List TokenKind) (b : Bool) →
    expr_then (attach right o x) r ≡ expr_then right (symbol (operator_symbol o) ∷ expr_then x r) →
    expr_then (chosen p left right o x b) r
    ≡ expr_then (binary p left right) (symbol (operator_symbol o) ∷ expr_then x r)
chosen_tokens p left right o x r true inner = ap (λ ts. expr_then left (symbol (operator_symbol p) ∷ ts)) inner
chosen_tokens p left right o x r false inner = refl

pub attach_tokens : (e : ExprPhrase) (o : BinOp) (x : ExprPhrase) (r : List TokenKind) →
    expr_then (attach e o x) r ≡ expr_then e (symbol (operator_symbol o) ∷ expr_then x r)
attach_tokens (binary p left right) o x r =
    chosen_tokens p left right o x r (leb (suc (operator_level p)) (operator_level o)) (attach_tokens right o x r)
attach_tokens (number n) o x r = refl
attach_tokens (variable name) o x r = refl
attach_tokens (element name index) o x r = refl
attach_tokens (parenthesized inner) o x r = refl
attach_tokens (signed sign operand) o x r = refl
attach_tokens (relabelled change inner label) o x r = refl

-- what is looser than both is looser than the whole
pub record Attached (e : ExprPhrase) (o : BinOp) (x : ExprPhrase) : Type 0 where
  pub grouped : IsGrouped (attach e o x)
  pub above : (bound : ℕ) → bound < level e → bound < operator_level o → bound < level (attach e o x)

attached_operand : (e : ExprPhrase) (o : BinOp) (x : ExprPhrase) → IsOperand e → IsGrouped e → IsSoundOperand x →
    attach e o x ≡ binary o e x → Attached e o x
attached_operand e o x operand grouped sound is = record {
  grouped = subst IsGrouped (sym is) (
    omega (arith, low_level o, operand_level e operand),
    omega (arith, low_level o, operand_level x sound.0),
    grouped,
    sound.1,
  );
  above = λ bound low below. subst (λ f. bound < level f) (sym is) below;
}

attached_binary : (p : BinOp) (left right : ExprPhrase) (o : BinOp) (x : ExprPhrase) (b : Bool) →
    leb (suc (operator_level p)) (operator_level o) ≡ b → Attached right o x → IsGrouped (binary p left right) →
    IsSoundOperand x →
    IsGrouped (chosen p left right o x b)
    × ((bound : ℕ) → bound < operator_level p → bound < operator_level o → bound < level (chosen p left right o x b))
attached_binary p left right o x true is behind grouped sound =
    let tighter : operator_level p < operator_level o = leb-true (suc (operator_level p)) (operator_level o) is in (
      (grouped.0, behind.above (operator_level p) grouped.1 tighter, grouped.2, behind.grouped),
      λ bound low below. low,
    )
attached_binary p left right o x false is behind grouped sound =
    let looser : operator_level o < suc (operator_level p) =
    leb-false (suc (operator_level p)) (operator_level o) is in (
      (
        (let e : operator_level o ≤ operator_level p = omega (arith, looser) in e),
        (let e : operator_level o < level x = omega (arith, low_level o, operand_level x sound.0) in e),
        grouped,
        sound.1,
      ),
      λ bound low below. below,
    )

attached : (e : ExprPhrase) (o : BinOp) (x : ExprPhrase) → IsGrouped e → IsSoundOperand x → Attached e o x
attached (binary p left right) o x grouped sound =
    let both = attached_binary p left right o x (leb (suc (operator_level p)) (operator_level o)) refl
    (attached right o x grouped.3 sound) grouped sound in
    record { grouped = both.0; above = both.1 }
attached (number n) o x grouped sound = attached_operand (number n) o x tt grouped sound refl
attached (variable name) o x grouped sound = attached_operand (variable name) o x tt grouped sound refl
attached (element name index) o x grouped sound = attached_operand (element name index) o x tt grouped sound refl
attached (parenthesized inner) o x grouped sound = attached_operand (parenthesized inner) o x tt grouped sound refl
attached (signed sign operand) o x grouped sound = attached_operand (signed sign operand) o x tt grouped sound refl
attached (relabelled change inner label) o x grouped sound =
    attached_operand (relabelled change inner label) o x tt grouped sound refl

-- ---- all operators and operands behind an expression

abbrev pub gather : ExprPhrase → List Link → ExprPhrase
gather e [] = e
gather e (l ∷ ls) = gather (attach e l.joins l.operand) ls

pub gather_tokens : (e : ExprPhrase) (ls : List Link) (r : List TokenKind) →
    expr_then (gather e ls) r ≡ expr_then e (links_then ls r)
gather_tokens e [] r = refl
gather_tokens e (l ∷ ls) r =
    gather_tokens (attach e l.joins l.operand) ls r ∙ attach_tokens e l.joins l.operand (links_then ls r)

pub gather_grouped : (e : ExprPhrase) (ls : List Link) → IsGrouped e → Each (λ l. IsSoundOperand l.operand) ls →
    IsGrouped (gather e ls)
gather_grouped e [] grouped sound = grouped
gather_grouped e (l ∷ ls) grouped sound =
    gather_grouped (attach e l.joins l.operand) ls (attached e l.joins l.operand grouped sound.0).grouped sound.1

-- ---- a sign before the first operand

abbrev pub with_sign : Sign → ExprPhrase → ExprPhrase
with_sign sign (binary o left right) = binary o (with_sign sign left) right
with_sign sign (number n) = signed sign (number n)
with_sign sign (variable name) = signed sign (variable name)
with_sign sign (element name index) = signed sign (element name index)
with_sign sign (parenthesized inner) = signed sign (parenthesized inner)
with_sign sign (signed other operand) = signed sign (signed other operand)
with_sign sign (relabelled change inner label) = signed sign (relabelled change inner label)

pub with_sign_tokens : (sign : Sign) (e : ExprPhrase) (r : List TokenKind) →
    expr_then (with_sign sign e) r ≡ symbol (sign_symbol sign) ∷ expr_then e r
with_sign_tokens sign (binary o left right) r =
    with_sign_tokens sign left (symbol (operator_symbol o) ∷ expr_then right r)
with_sign_tokens sign (number n) r = refl
with_sign_tokens sign _ r = refl

with_sign_level : (sign : Sign) (e : ExprPhrase) → level (with_sign sign e) ≡ level e
with_sign_level sign (binary o left right) = refl
with_sign_level sign _ = refl

pub with_sign_grouped : (sign : Sign) (e : ExprPhrase) → IsGrouped e → IsGrouped (with_sign sign e)
with_sign_grouped sign (binary o left right) grouped = (
  (let e : operator_level o ≤ level (with_sign sign left) = omega (arith, with_sign_level sign left, grouped.0) in e),
  grouped.1,
  with_sign_grouped sign left grouped.2,
  grouped.3,
)
with_sign_grouped sign (number n) grouped = (omega arith, grouped)
with_sign_grouped sign _ grouped = (omega arith, grouped)
