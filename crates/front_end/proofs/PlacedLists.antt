-- A plan has a host for each field.
use Rattle.std.proofs.Common.{◌≡◌, ℕ, zero, suc, ◌+◌, List, [], ◌∷◌, length, map, refl, sym, ap, ◌∙◌, arith}
use Rattle.std.specs.List.{AllZip, range_with_len, zip, flat_map}
use Rattle.std.proofs.lemmas.List.{length-map}
use Rattle.principals.specs.ActsFor.{Declared}
use Rattle.host_decl.specs.Hosts.{HostsShape}
use Rattle.jif_tree.specs.declared.program.Checked.{Checked}
use Rattle.jif_tree.specs.Trees.{field_tree}
use Rattle.need_labels.specs.Labelled.{labelled_of}
use Rattle.need_labels.specs.Needs.{NeedsShape, AreNeedsOf, told_of, statement_uses}
use Rattle.need_labels.specs.Plan.{PlanShape}
use Rattle.placement.specs.Placing.{IsAllowedPlan}

in_step : {A B : Type 0} (R : A → B → Type 0) (xs : List A) (ys : List B) → AllZip R xs ys → length xs ≡ length ys
in_step R [] [] all = refl
in_step R [] (y ∷ ys) all = absurd all
in_step R (x ∷ xs) [] all = absurd all
in_step R (x ∷ xs) (y ∷ ys) all = ap suc (in_step R xs ys all.1)

both_long : {A B : Type 0} (xs : List A) (ys : List B) → length xs ≡ length ys → length (zip xs ys) ≡ length xs
both_long [] ys same = refl
both_long (x ∷ xs) [] same = absurd (omega arith)
both_long (x ∷ xs) (y ∷ ys) same = ap suc (both_long xs ys (omega arith))

so_many : (first count : ℕ) → length (range_with_len first count) ≡ count
so_many first zero = refl
so_many first (suc count) = ap suc (so_many (first + 1) count)

pub a_host_each : (principals : Declared) (checked : Checked) (needs : NeedsShape) (hosts : HostsShape)
    (plan : PlanShape) → AreNeedsOf principals (labelled_of checked) needs →
    IsAllowedPlan (labelled_of checked) needs hosts plan → length plan.fields ≡ length checked.program.fields.items
a_host_each principals checked needs hosts plan are allowed =
    let fields = map field_tree checked.program.fields.items in
    let told = told_of principals (flat_map (λ one. one.tellings) (statement_uses principals (labelled_of checked))) in
    let long : length needs.loc ≡ length fields =
    ap length are.loc ∙ length-map (range_with_len 0 (length fields)) told ∙ so_many 0 (length fields) in
    sym (in_step _ _ plan.fields allowed.fields) ∙ both_long fields needs.loc (sym long)
    ∙ length-map checked.program.fields.items field_tree
