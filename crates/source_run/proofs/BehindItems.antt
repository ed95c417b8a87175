-- What is pending behind other items is left alone until these are done.
use Rattle.std.proofs.Common.{◌≡◌, ℕ, zero, suc, ◌<◌, Bool, true, false, ℤ, List, [], ◌∷◌, ◌++◌, length, map}
use Rattle.std.proofs.Common.{refl, sym, ap, ◌∙◌, append_assoc, arith}
use Rattle.std.specs.Prelude.{slice_get, if◌then◌else◌}
use Rattle.jif_tree.specs.declared.program.Program.{Program}
use Rattle.jif_tree.specs.declared.program.StmtKind.{StmtKind}
use Rattle.jif_tree.specs.declared.program.StmtKind as kind
use Rattle.jif_tree.specs.Operators.{is_true}
use Rattle.jif_tree.specs.SourceRun.{Call, Item, run, keep, Configuration, value_of, operands, statements_of}
use Rattle.jif_tree.specs.SourceRun.{method_at, body_of, result_of, kept, value_at, after_call, calls_after_return}
use Rattle.jif_tree.specs.SourceRun.{executed, after_item, step, after_steps, IsAtEnd}
use Rattle.source_run.specs.Behind.{with_behind}
use Rattle.source_run.proofs.TreeRuns.{same_values, return_from}

return_same : (program : Program) (c : Configuration) (behind : List Item) (n : ℕ) (value : ℤ)
    → calls_after_return program (with_behind c behind) n value ≡ calls_after_return program c n value
return_same program c behind n value =
    return_from program (with_behind c behind) n value (slice_get c.calls n) refl
    ∙ sym (return_from program c n value (slice_get c.calls n) refl)

abbrev configuration : List (List ℤ) → List Call → List Item → Configuration
configuration store calls pending = record { store = store; calls = calls; pending = pending }

loop_behind : (truth : Bool) (block : List Item) (again : Item) (rest behind : List Item)
    → (if truth then block ++ again ∷ (rest ++ behind) else rest ++ behind)
    ≡ (if truth then block ++ again ∷ rest else rest) ++ behind
loop_behind true block again rest behind = sym (append_assoc block (again ∷ rest) behind)
loop_behind false block again rest behind = refl

executes_before : (program : Program) (c : Configuration) (behind : List Item) (n : ℕ) (again : Item) (what : StmtKind)
    (values : List ℤ) (rest : List Item)
    → executed program (with_behind c behind) n again what values (rest ++ behind)
    ≡ with_behind (executed program c n again what values rest) behind
executes_before program c behind n again (kind.Let x value) values rest = refl
executes_before program c behind n again (kind.SetField field value) values rest = refl
executes_before program c behind n again (kind.SetElement field index value) values rest = refl
executes_before program c behind n again (kind.If' guard m first k second) values rest =
    let block : List Item = if is_true (value_at values 0) then map (run n) (statements_of first)
    else map (run n) (statements_of second) in
    ap (configuration c.store c.calls) (sym (append_assoc block rest behind))
executes_before program c behind n again (kind.While' guard m body) values rest =
    ap (configuration c.store c.calls) (loop_behind (is_true (value_at values 0)) (map (run n) (statements_of body))
    again rest behind)
executes_before program c behind n again (kind.Call site method args into) values rest =
    let called = method_at program method.0 in
    ap (configuration c.store (after_call program c n method.0 values into rest).calls)
    (sym (append_assoc (map (run (length c.calls)) (body_of called) ++ kept n into (result_of called)) rest behind))
executes_before program c behind n again (kind.Return value) values rest =
    ap (λ (calls : List Call). configuration c.store calls (rest ++ behind))
    (return_same program c behind n (value_at values 0))

item_before : (program : Program) (c : Configuration) (behind items : List Item) → ¬ (items ≡ [])
    → after_item program (with_behind c behind) (items ++ behind) ≡ with_behind (after_item program c items) behind
item_before program c behind [] some = absurd (some refl)
item_before program c behind (run n statement ∷ rest) some =
    ap (λ (values : List ℤ). executed program (with_behind c behind) n (run n statement) statement.kind values
    (rest ++ behind)) (same_values (with_behind c behind) n (operands statement.kind)
    ∙ sym (same_values c n (operands statement.kind)))
    ∙ executes_before program c behind n (run n statement) statement.kind
    (map (value_of c n) (operands statement.kind)) rest
item_before program c behind (keep n into result ∷ rest) some = refl

pub left_alone : (program : Program) (c : Configuration) (behind : List Item) (n : ℕ)
    → ((m : ℕ) → m < n → ¬ IsAtEnd (after_steps program m c))
    → after_steps program n (with_behind c behind) ≡ with_behind (after_steps program n c) behind
left_alone program c behind zero not_yet = refl
left_alone program c behind (suc n) not_yet =
    let before = after_steps program n c in
    ap (step program) (left_alone program c behind n (λ m below. not_yet m (omega arith)))
    ∙ item_before program before behind before.pending (not_yet n (omega arith))
