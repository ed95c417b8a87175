-- The texts that are made, in parts.
use Rattle.std.proofs.Common.{◌≡◌, ℕ, ◌+◌, List, [], ◌∷◌, ◌++◌, ap, ◌∙◌, arith}
use Rattle.std.specs.Prelude.{codes}
use Rattle.std.specs.Fmt.{decimal}
use Rattle.std.proofs.lemmas.Fmt.{decimal_digit}
use Rattle.std.proofs.lemmas.List.Concat.{flat_map-append}
use Rattle.std.proofs.lemmas.List.FromFn.{map-range_with_len_more}
use Rattle.made_laws.specs.MadePrograms.{made_head, made_program, made_statement, made_statements}
use Rattle.front_end.specs.Text.{line_text, lines_text}
use Rattle.split_cli.proofs.ReportLines.{lines_more}

-- one statement more
pub statements_more : (number : ℕ) → lines_text (made_statements (number + 1))
    ≡ lines_text (made_statements number) ++ line_text (made_statement number)
statements_more number =
    ap lines_text (map-range_with_len_more made_statement 0 number number (omega arith))
    ∙ lines_more (made_statements number) (made_statement number)

pub program_parts : (statements : ℕ) → made_program statements
    ≡ lines_text made_head ++ lines_text (made_statements statements) ++ lines_text (codes "}" ∷ [])
program_parts statements =
    flat_map-append line_text (made_head ++ made_statements statements) (codes "}" ∷ [])
    ∙ ap (λ front. front ++ lines_text (codes "}" ∷ []))
    (flat_map-append line_text made_head (made_statements statements))

-- ---- worked

-- a program of two statements that add these numbers
abbrev of_two : (one other : List ℕ) → List ℕ
of_two one other = lines_text (
    made_head ++ (codes "a = a + " ++ one ++ codes ";") ∷ (codes "b = b + " ++ other ++ codes ";") ∷ codes "}" ∷ [])

pub two_made : made_program 2
    ≡ lines_text (made_head ++ codes "a = a + 0;" ∷ codes "b = b + 1;" ∷ codes "}" ∷ [])
two_made =
    ap (λ (one : List ℕ). of_two one (decimal 1)) (decimal_digit 0 (omega arith))
    ∙ ap (λ (other : List ℕ). of_two (48 ∷ []) other) (decimal_digit 1 (omega arith))
