-- Where no host misbehaves, an altered run is the plain run.
use Rattle.std.proofs.Common.{◌≡◌, ◌∙◌, ap, refl, inl, inr, arith, ℕ, zero, suc, ℤ, List, []}
use Rattle.std.proofs.Common.{◌∷◌, length, map, Option, Some, None, IsSomeAnd, slice_get, Any}
use Rattle.std.specs.List.{AllZip}
use Rattle.js_base.specs.declared.ids.FieldId.{FieldId}
use Rattle.js_base.specs.declared.ids.VarId.{VarId}
use Rattle.jif_tree.specs.declared.program.Program.{Program}
use Rattle.jif_tree.specs.declared.program.Expr.{Expr}
use Rattle.jif_tree.specs.declared.program.Expr as expr
use Rattle.jif_tree.specs.Operators.{binary_value, negation, inversion}
use Rattle.jif_tree.specs.Store.{element_at, row_of}
use Rattle.jif_tree.specs.SourceRun.{Item, run, keep, Configuration, value_of, calls_after, operands, executed}
use Rattle.jif_tree.specs.SourceRun.{after_item, step, after_steps}
use Rattle.jif_tree.specs.Altered.{Exposure, FieldIsAffected, VariableIsAffected}
use Rattle.jif_tree.specs.Altered.{MayRead, MayGive, MayStep, MayBeLeft, Alters, steps, changes_field}
use Rattle.jif_tree.specs.Altered.{changes_variable, leaves_out, Altered}

-- ---- nothing is affected

none_of : {X : Type 0} (P : X → Type 0) (xs : List X) → xs ≡ [] → Any P xs → ⊥
none_of P xs none (k, x, within, read, holds) = omega (arith, within, ap length none)

none_there : {X : Type 0} (P : X → Type 0) → ((x : X) → P x → ⊥) → (found : Option X) → IsSomeAnd found P → ⊥
none_there P none None there = there
none_there P none (Some x) there = none x there

no_variable : (exposure : Exposure) → exposure.bad ≡ [] → (x : VarId) → VariableIsAffected exposure x → ⊥
no_variable exposure none x = none_there _ (λ label. none_of _ exposure.bad none) (slice_get exposure.variables x.0)

pub no_field : (exposure : Exposure) → exposure.bad ≡ [] → (field : FieldId) → FieldIsAffected exposure field → ⊥
no_field exposure none field = none_there _ (λ label. none_of _ exposure.bad none) (slice_get exposure.fields field.0)

read_plainly : (affected : Type 0) (there value : ℤ) → (affected → ⊥) → MayRead affected there value → value ≡ there
read_plainly affected there value none (inl is) = is
read_plainly affected there value none (inr far) = absurd (none far.0)

-- ---- values

gives_plainly : (exposure : Exposure) → exposure.bad ≡ [] → (c : Configuration) (call : ℕ) (e : Expr) (value : ℤ) →
    MayGive exposure c call e value → value ≡ value_of c call e
gives_plainly exposure none c call (expr.Number n) value may = may
gives_plainly exposure none c call (expr.Local x) value may =
    read_plainly (VariableIsAffected exposure x) _ value (no_variable exposure none x) may
gives_plainly exposure none c call (expr.Scalar field) value may =
    read_plainly (FieldIsAffected exposure field) _ value (no_field exposure none field) may
gives_plainly exposure none c call (expr.Element' field p index) value may =
    read_plainly (FieldIsAffected exposure field) _ value (no_field exposure none field) may.2
    ∙ ap (element_at (row_of c.store field.0)) (gives_plainly exposure none c call index may.0 may.1)
gives_plainly exposure none c call (expr.Not' p operand) value may =
    may.2 ∙ ap inversion (gives_plainly exposure none c call operand may.0 may.1)
gives_plainly exposure none c call (expr.Negate' p operand) value may =
    may.2 ∙ ap negation (gives_plainly exposure none c call operand may.0 may.1)
gives_plainly exposure none c call (expr.Binary' operator p left q right) value may =
    may.4 ∙ ap (λ v. binary_value operator v may.1) (gives_plainly exposure none c call left may.0 may.2)
    ∙ ap (binary_value operator (value_of c call left)) (gives_plainly exposure none c call right may.1 may.3)
gives_plainly exposure none c call (expr.Declassify' p inner label) value may =
    gives_plainly exposure none c call inner value may
gives_plainly exposure none c call (expr.Endorse' p inner label) value may =
    gives_plainly exposure none c call inner value may

all_plainly : (exposure : Exposure) → exposure.bad ≡ [] → (c : Configuration) (call : ℕ) (exprs : List Expr)
    (values : List ℤ) → AllZip (MayGive exposure c call) exprs values → values ≡ map (value_of c call) exprs
all_plainly exposure none c call [] [] all = refl
all_plainly exposure none c call [] (value ∷ values) all = absurd all
all_plainly exposure none c call (e ∷ exprs) [] all = absurd all
all_plainly exposure none c call (e ∷ exprs) (value ∷ values) all =
    ap (λ v. v ∷ values) (gives_plainly exposure none c call e value all.0)
    ∙ ap (λ list. value_of c call e ∷ list) (all_plainly exposure none c call exprs values all.1)

-- ---- steps

steps_plainly : (program : Program) (exposure : Exposure) → exposure.bad ≡ [] → (c : Configuration) (items : List Item)
    (next : Configuration) → MayStep program exposure c items next → next ≡ after_item program c items
steps_plainly program exposure none c [] next may = absurd may
steps_plainly program exposure none c (run call statement ∷ behind) next may =
    may.2
    ∙ ap (λ values. executed program c call (run call statement) statement.kind values behind)
    (all_plainly exposure none c call (operands statement.kind) may.0 may.1)
steps_plainly program exposure none c (keep call into result ∷ behind) next may =
    let leaves : ℤ → Configuration = λ v. record c {
      calls = calls_after c.calls call into.0 v;
      pending = behind;
    } in
    may.2
    ∙ ap leaves (read_plainly (VariableIsAffected exposure result) _ may.0 (no_variable exposure none result) may.1)

not_left : (exposure : Exposure) → exposure.bad ≡ [] → (item : Item) → MayBeLeft exposure item → ⊥
not_left exposure none (run call statement) left = none_of _ exposure.bad none left
not_left exposure none (keep call into result) left = no_variable exposure none into left

plain_step : (program : Program) (exposure : Exposure) → exposure.bad ≡ [] → (c next : Configuration) →
    Alters program exposure c next → next ≡ step program c
plain_step program exposure none c next (steps may) = steps_plainly program exposure none c c.pending next may
plain_step program exposure none c next (changes_field field index value far number is) =
    absurd (no_field exposure none field far)
plain_step program exposure none c next (changes_variable call x value far number is) =
    absurd (no_variable exposure none x far)
plain_step program exposure none c next (leaves_out item behind pending far is) =
    absurd (not_left exposure none item far)

-- ---- runs

one_more : (program : Program) (n : ℕ) (c : Configuration) →
    after_steps program n (step program c) ≡ after_steps program (suc n) c
one_more program zero c = refl
one_more program (suc n) c = ap (step program) (one_more program n c)

pub plain_run : (program : Program) (exposure : Exposure) (c now : Configuration) (others : List Configuration) →
    exposure.bad ≡ [] → Altered program exposure c others now → now ≡ after_steps program (length others) c
plain_run program exposure c now [] none altered = altered
plain_run program exposure c now (next ∷ others) none altered =
    plain_run program exposure next now others none altered.1
    ∙ ap (after_steps program (length others)) (plain_step program exposure none c next altered.0)
    ∙ one_more program (length others) c
