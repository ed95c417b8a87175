-- The line of a program that is accepted.
use Rattle.std.proofs.Common.{◌≡◌, ℕ, List, ◌++◌, length, ap, ◌∙◌, append_assoc}
use Rattle.std.specs.Prelude.{codes}
use Rattle.std.specs.Fmt.{decimal}
use Rattle.jif_tree.specs.Trees.{ProgramTree}
use Rattle.jif_tree.specs.Numbering.{statement_numbers}
use Rattle.split_cli.specs.Check.{accepted_line}
use Rattle.front_end.specs.Text.{line_text}

eight_parts : (a b c d e f g h : List ℕ) →
    a ++ (b ++ (c ++ (d ++ (e ++ (f ++ (g ++ h)))))) ≡ (a ++ b ++ c ++ d ++ e ++ f ++ g) ++ h
eight_parts a b c d e f g h = simp append_assoc

line_of : ℕ → ℕ → ℕ → List ℕ
line_of fields methods statements =
    codes "accepted " ++ decimal fields ++ codes " fields " ++ decimal methods ++ codes " methods "
    ++ decimal statements ++ codes " statements"

pub accepted_text : (tree : ProgramTree) (fields methods statements : ℕ) (text : List ℕ) →
    fields ≡ length tree.fields → methods ≡ length tree.methods → statements ≡ length (statement_numbers tree) →
    text ≡ codes "accepted " ++ (decimal fields ++ (codes " fields " ++ (decimal methods ++ (codes " methods "
    ++ (decimal statements ++ codes " statements\n"))))) →
    text ≡ line_text (accepted_line tree)
unfolding line_of
accepted_text tree fields methods statements text fields_are methods_are statements_are is =
    is
    ∙ eight_parts (codes "accepted ") (decimal fields) (codes " fields ") (decimal methods) (codes " methods ")
    (decimal statements) (codes " statements") (codes "\n")
    ∙ ap (λ (n : ℕ). line_of n methods statements ++ codes "\n") fields_are
    ∙ ap (λ (n : ℕ). line_of (length tree.fields) n statements ++ codes "\n") methods_are
    ∙ ap (λ (n : ℕ). line_of (length tree.fields) (length tree.methods) n ++ codes "\n") statements_are
