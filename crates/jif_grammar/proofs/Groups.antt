-- Operands and operators in their order group in one way.
use Rattle.std.proofs.Common.{◌≡◌, ◌≢◌, ℕ, ◌<◌, ◌≤◌, List, [], ◌∷◌, ◌++◌, refl, ap, sym, subst, arith}
use Rattle.std.specs.Prelude.{⊤}
use Rattle.js_base.specs.declared.binary_operator.BinOp.{BinOp}
use Rattle.jif_grammar.specs.Phrases.{ExprPhrase, number, variable, element, parenthesized, signed, binary}
use Rattle.jif_grammar.specs.Phrases.{relabelled}
use Rattle.jif_grammar.specs.Operators.{operator_level}
use Rattle.jif_grammar.specs.Grouping.{level, IsGrouped}
use Rattle.jif_grammar.proofs.OneJoined.{Each}

-- ---- an expression as its operands and operators in their order

-- an operator and the operand after it
pub record Link : Type 0 where
  pub joins : BinOp
  pub operand : ExprPhrase

abbrev pub link : BinOp → ExprPhrase → Link
link joins operand = record { joins = joins; operand = operand }

abbrev pub first_operand : ExprPhrase → ExprPhrase
first_operand (binary joins left right) = first_operand left
first_operand (number n) = number n
first_operand (variable name) = variable name
first_operand (element name index) = element name index
first_operand (parenthesized inner) = parenthesized inner
first_operand (signed sign operand) = signed sign operand
first_operand (relabelled change inner label) = relabelled change inner label

abbrev pub links : ExprPhrase → List Link
links (binary joins left right) = links left ++ link joins (first_operand right) ∷ links right
links _ = []

-- ---- levels

pub each_append : {X : Type 0} (P : X → Type 0) (xs ys : List X) → Each P xs → Each P ys → Each P (xs ++ ys)
each_append P [] ys left right = right
each_append P (x ∷ xs) ys left right = (left.0, each_append P xs ys left.1 right)

each_weaker : {X : Type 0} (P Q : X → Type 0) → ((x : X) → P x → Q x) → (xs : List X) → Each P xs → Each Q xs
each_weaker P Q step [] each = tt
each_weaker P Q step (x ∷ xs) each = (step x each.0, each_weaker P Q step xs each.1)

each_at : {X : Type 0} (P : X → Type 0) (xs : List X) (x : X) (ys : List X) → Each P (xs ++ x ∷ ys) → P x
each_at P [] x ys each = each.0
each_at P (w ∷ xs) x ys each = each_at P xs x ys each.1

abbrev pub AtLeast : ℕ → Link → Type 0
AtLeast least l = least ≤ operator_level l.joins

abbrev pub Above : ℕ → Link → Type 0
Above bound l = bound < operator_level l.joins

pub links_level : (e : ExprPhrase) → IsGrouped e → Each (AtLeast (level e)) (links e)
links_level (number n) grouped = tt
links_level (variable name) grouped = tt
links_level (element name index) grouped = tt
links_level (parenthesized inner) grouped = tt
links_level (signed sign operand) grouped = tt
links_level (relabelled change inner label) grouped = tt
links_level (binary joins left right) grouped =
    each_append (AtLeast (operator_level joins)) (links left) (link joins (first_operand right) ∷ links right)
    (each_weaker (AtLeast (level left)) (AtLeast (operator_level joins)) (λ l least. omega (arith, grouped.0, least))
    (links left) (links_level left grouped.2)) (
      omega arith,
      each_weaker (AtLeast (level right)) (AtLeast (operator_level joins))
          (λ l least. omega (arith, grouped.1, least)) (links right) (links_level right grouped.3),
    )

links_above : (bound : ℕ) (e : ExprPhrase) → IsGrouped e → bound < level e → Each (Above bound) (links e)
links_above bound e grouped above =
    each_weaker (AtLeast (level e)) (Above bound) (λ l least. omega (arith, above, least)) (links e)
    (links_level e grouped)

-- ---- the last of the loosest operators

pub record SameCut (xs us : List Link) (x u : Link) (ys vs : List Link) : Type 0 where
  pub before : xs ≡ us
  pub at : x ≡ u
  pub after : ys ≡ vs

same_loosest : (xs us : List Link) (x u : Link) (ys vs : List Link) →
    Each (AtLeast (operator_level x.joins)) xs → Each (Above (operator_level x.joins)) ys →
    Each (AtLeast (operator_level u.joins)) us → Each (Above (operator_level u.joins)) vs →
    xs ++ x ∷ ys ≡ us ++ u ∷ vs → SameCut xs us x u ys vs
same_loosest [] [] x u ys vs left right least above same = record { before = refl; at = cc; after = cc }
same_loosest [] (w ∷ us) x u ys vs left right least above same =
    let heads : w ≡ x = cc in
    let tails : ys ≡ us ++ u ∷ vs = cc in
    let tighter : operator_level x.joins < operator_level u.joins =
    each_at (Above (operator_level x.joins)) us u vs (subst (Each (Above (operator_level x.joins))) tails right) in
    let looser : operator_level u.joins ≤ operator_level x.joins =
    subst (AtLeast (operator_level u.joins)) heads least.0 in
    absurd (omega (arith, tighter, looser))
same_loosest (z ∷ xs) [] x u ys vs left right least above same =
    let heads : z ≡ u = cc in
    let tails : vs ≡ xs ++ x ∷ ys = cc in
    let tighter : operator_level u.joins < operator_level x.joins =
    each_at (Above (operator_level u.joins)) xs x ys (subst (Each (Above (operator_level u.joins))) tails above) in
    let looser : operator_level x.joins ≤ operator_level u.joins =
    subst (AtLeast (operator_level x.joins)) heads left.0 in
    absurd (omega (arith, tighter, looser))
same_loosest (z ∷ xs) (w ∷ us) x u ys vs left right least above same =
    let heads : z ≡ w = cc in
    let tails : xs ++ x ∷ ys ≡ us ++ u ∷ vs = cc in
    let rest = same_loosest xs us x u ys vs left.1 right least.1 above tails in
    let before = rest.before in
    record { before = cc; at = rest.at; after = rest.after }

some_link : (xs : List Link) (x : Link) (ys : List Link) → [] ≢ xs ++ x ∷ ys
some_link [] x ys same = cc
some_link (z ∷ xs) x ys same = cc

-- no binary operator makes it
abbrev pub IsOperand : ExprPhrase → Type 0
IsOperand (binary joins left right) = ⊥
IsOperand _ = ⊤

pub first_of_operand : (e : ExprPhrase) → IsOperand e → first_operand e ≡ e
first_of_operand (number n) operand = refl
first_of_operand (variable name) operand = refl
first_of_operand (element name index) operand = refl
first_of_operand (parenthesized inner) operand = refl
first_of_operand (signed sign inner) operand = refl
first_of_operand (relabelled change inner label) operand = refl
first_of_operand (binary joins left right) operand = absurd operand

-- where there are no operators, each of the two is its first operand
one_operand : (e f : ExprPhrase) → IsOperand e → [] ≡ links f → e ≡ first_operand f → e ≡ f
one_operand e (binary joins left right) operand none same =
    absurd (some_link (links left) (link joins (first_operand right)) (links right) none)
one_operand e (number n) operand none same = same
one_operand e (variable name) operand none same = same
one_operand e (element name index) operand none same = same
one_operand e (parenthesized inner) operand none same = same
one_operand e (signed sign inner) operand none same = same
one_operand e (relabelled change inner label) operand none same = same

pub one_group : (e f : ExprPhrase) → IsGrouped e → IsGrouped f → first_operand e ≡ first_operand f →
    links e ≡ links f → e ≡ f
one_group (number n) f grouped also firsts all = one_operand (number n) f tt all firsts
one_group (variable name) f grouped also firsts all = one_operand (variable name) f tt all firsts
one_group (element name index) f grouped also firsts all = one_operand (element name index) f tt all firsts
one_group (parenthesized inner) f grouped also firsts all = one_operand (parenthesized inner) f tt all firsts
one_group (signed sign operand) f grouped also firsts all = one_operand (signed sign operand) f tt all firsts
one_group (relabelled change inner label) f grouped also firsts all =
    one_operand (relabelled change inner label) f tt all firsts
one_group (binary joins left right) (binary other first second) grouped also firsts all =
    let cut = same_loosest (links left) (links first) (link joins (first_operand right))
    (link other (first_operand second)) (links right) (links second)
    (each_weaker (AtLeast (level left)) (AtLeast (operator_level joins)) (λ l least. omega (arith, grouped.0, least))
    (links left) (links_level left grouped.2))
    (links_above (operator_level joins) right grouped.3 grouped.1)
    (each_weaker (AtLeast (level first)) (AtLeast (operator_level other)) (λ l least. omega (arith, also.0, least))
    (links first) (links_level first also.2))
    (links_above (operator_level other) second also.3 also.1) all in
    let operators : joins ≡ other = ap (λ l. l.joins) cut.at in
    let lefts : left ≡ first = one_group left first grouped.2 also.2 firsts cut.before in
    let rights : right ≡ second =
    one_group right second grouped.3 also.3 (ap (λ l. l.operand) cut.at) cut.after in
    cc
one_group (binary joins left right) (number n) grouped also firsts all =
    absurd (some_link (links left) (link joins (first_operand right)) (links right) (sym all))
one_group (binary joins left right) _ grouped also firsts all =
    absurd (some_link (links left) (link joins (first_operand right)) (links right) (sym all))
