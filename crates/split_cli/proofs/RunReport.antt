-- The lines of the report of a run, one by one.
use Rattle.std.proofs.Common.{◌≡◌, ℕ, List, ◌++◌, map, drop, sym, ap, ◌∙◌, append_assoc}
use Rattle.std.specs.Prelude.{ℤ, codes, Result, Ok, Err, OnOk, is_ok}
use Rattle.std.specs.Fmt.{decimal}
use Rattle.jif_tree.specs.declared.program.Field.{Field}
use Rattle.jif_tree.specs.Trees.{field_tree}
use Rattle.source_run.specs.declared.plain.RunEnd.{RunEnd}
use Rattle.source_run.specs.declared.plain.RunEnd.TheVariants.{Ended, NotYet}
use Rattle.split_cli.specs.PlainRun.{end_line, store_lines}
use Rattle.front_end.specs.Text.{line_text, lines_text}

-- what holds where a result is `Ok` holds where another is, which is `Ok` no more often
pub on_ok_from : {T U E F : Type 0} (P : Type 0) (r : Result T E) (s : Result U F) → is_ok s ≡ is_ok r → OnOk r P →
    OnOk s P
on_ok_from P (Ok x) (Ok y) same is = is
on_ok_from P (Err e) (Ok y) same is = let none : ⊥ = cc in absurd none
on_ok_from P r (Err e) same is = tt

three_parts : (a b c d : List ℕ) → a ++ (b ++ (c ++ d)) ≡ (a ++ b ++ c) ++ d
three_parts a b c d = simp append_assoc

pub ended_text : (old new : List ℕ) (steps taken : ℕ) (end : RunEnd) → end ≡ Ended taken →
    new ≡ old ++ (codes "ended after " ++ (decimal taken ++ codes " steps\n")) →
    new ≡ old ++ line_text (end_line steps end)
ended_text old new steps taken end is text =
    text ∙ ap (λ (bytes : List ℕ). old ++ bytes)
    (three_parts (codes "ended after ") (decimal taken) (codes " steps") (codes "\n"))
    ∙ ap (λ (e : RunEnd). old ++ line_text (end_line steps e)) (sym is)

pub not_yet_text : (old new : List ℕ) (steps : ℕ) (end : RunEnd) → end ≡ NotYet →
    new ≡ old ++ (codes "not ended after " ++ (decimal steps ++ codes " steps\n")) →
    new ≡ old ++ line_text (end_line steps end)
not_yet_text old new steps end is text =
    text ∙ ap (λ (bytes : List ℕ). old ++ bytes)
    (three_parts (codes "not ended after ") (decimal steps) (codes " steps") (codes "\n"))
    ∙ ap (λ (e : RunEnd). old ++ line_text (end_line steps e)) (sym is)

-- ---- rows

-- the lines of the fields from a number on
abbrev pub rows_from : List Field → List (List ℤ) → ℕ → List ℕ
rows_from fields rows number = lines_text (store_lines (map field_tree (drop number fields)) (drop number rows))
