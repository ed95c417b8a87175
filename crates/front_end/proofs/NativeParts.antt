-- Values of the code that some definition sees as these: vectors, texts and expressions.
use Rattle.std.proofs.Common.{◌≡◌, ℕ, ◌<◌, ◌^◌, List, [], ◌∷◌, map, length, refl, ap, ◌∙◌, arith}
use Rattle.std.proofs.Common.{Global, Vec, Box, String, string_bytes, IsUtf8}
use Rattle.std.specs.List.{AllByRecursion}
use Rattle.std.proofs.lemmas.List.{length-map}
use denote.RawPtr.{null_ptr}
use Rattle.label_lattice.specs.declared.label.Label.{Label}
use Rattle.jif_tree.specs.declared.program.Expr.{Expr}
use Rattle.jif_tree.specs.declared.program.Expr as expr
use Rattle.jif_tree.specs.Trees as tree
use Rattle.jif_tree.specs.Trees.{ExprTree, expr_tree}

abbrev a_heap : Global
a_heap = record { memory = record { seal = tt } }

-- ---- vectors

abbrev pub vector : {X : Type 0} → (items : List X) → length items < 2 ^ 63 → Vec X Global
vector items short = record {
  ptr = null_ptr;
  len = length items;
  cap = length items;
  alloc = a_heap;
  items = items;
  ok = (refl, omega arith);
  small = short;
}

-- there is a value of the code that is seen so
abbrev pub IsSeen : {X Y : Type 0} → (X → Y) → Y → Type 0
IsSeen {X} view y = (x : X) × (view x ≡ y)

-- where there is one for each item, there is a list
pub all_seen : {X Y : Type 0} (view : X → Y) (ys : List Y) → AllByRecursion (IsSeen view) ys → IsSeen (map view) ys
all_seen view [] all = ([], refl)
all_seen view (y ∷ ys) (first, rest) =
    let others = all_seen view ys rest in
    (first.0 ∷ others.0, ap (λ x. x ∷ map view others.0) first.1 ∙ ap (λ xs. y ∷ xs) others.1)

-- what is seen of a list is as long
seen_length : {X Y : Type 0} (view : X → Y) (xs : List X) (ys : List Y) → map view xs ≡ ys → length xs ≡ length ys
seen_length view xs ys same = omega (arith, length-map xs view, ap length same)

-- and where the list is short, a vector
pub vector_seen : {X Y : Type 0} (view : X → Y) (ys : List Y) → length ys < 2 ^ 63 → AllByRecursion (IsSeen view) ys →
    (v : Vec X Global) × (map view v.items ≡ ys)
vector_seen view ys short all =
    let items = all_seen view ys all in
    (vector items.0 (omega (arith, seen_length view items.0 ys items.1)), items.1)

-- ---- texts

pub text_seen : (text : List ℕ) → IsUtf8 text → length text < 2 ^ 63 → IsSeen {X = String Global} string_bytes text
text_seen text is short = (record { bytes = vector text short; ok = ∣ is ∣₁ }, refl)

-- ---- expressions

abbrev pointer : Box (Unit {0}) Global
pointer = record { ptr = null_ptr; alloc = a_heap; value = tt }

abbrev boxed : Label → Box Label Global
boxed label = record { ptr = null_ptr; alloc = a_heap; value = label }

pub expr_seen : (e : ExprTree) → IsSeen expr_tree e
expr_seen (tree.number value) = (expr.Number value, refl)
expr_seen (tree.local x) = (expr.Local x, refl)
expr_seen (tree.scalar field) = (expr.Scalar field, refl)
expr_seen (tree.element field index) =
    let inner = expr_seen index in (expr.Element' field pointer inner.0, ap (tree.element field) inner.1)
expr_seen (tree.inverted operand) =
    let inner = expr_seen operand in (expr.Not' pointer inner.0, ap tree.inverted inner.1)
expr_seen (tree.negated operand) =
    let inner = expr_seen operand in (expr.Negate' pointer inner.0, ap tree.negated inner.1)
expr_seen (tree.binary operator left right) =
    let first = expr_seen left in
    let second = expr_seen right in (
      expr.Binary' operator pointer first.0 pointer second.0,
      ap (λ e. tree.binary operator e (expr_tree second.0)) first.1 ∙ ap (tree.binary operator left) second.1,
    )
expr_seen (tree.declassified operand label) =
    let inner = expr_seen operand in (
      expr.Declassify' pointer inner.0 (boxed label),
      ap (λ e. tree.declassified e label) inner.1,
    )
expr_seen (tree.endorsed operand label) =
    let inner = expr_seen operand in (
      expr.Endorse' pointer inner.0 (boxed label),
      ap (λ e. tree.endorsed e label) inner.1,
    )

pub exprs_seen : (exprs : List ExprTree) → AllByRecursion (IsSeen expr_tree) exprs
exprs_seen [] = tt
exprs_seen (e ∷ exprs) = (expr_seen e, exprs_seen exprs)
