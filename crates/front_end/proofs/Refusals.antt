-- Why labels and places are refused, in the texts that are made of the causes.
use Rattle.std.proofs.Common.{◌≡◌, ℕ, List, ◌++◌, sym, ap, ◌∙◌, append_assoc}
use Rattle.std.specs.Prelude.{codes, slice_index}
use Rattle.std.specs.Fmt.{decimal}
use Rattle.principals.specs.ActsFor.{Declared}
use Rattle.js_base.specs.declared.ids.StmtId.{StmtId}
use Rattle.label_lattice.specs.declared.label.Label.{Label}
use Rattle.label_lattice.specs.Printed.{printed_label}
use Rattle.label_check.specs.declared.check_error.CheckError.{CheckError}
use Rattle.label_check.specs.declared.check_error.CheckError.TheVariants as check
use Rattle.jif_tree.specs.Numbering.{statement_lines}
use Rattle.jif_tree.specs.Trees.{ProgramTree}
use Rattle.place_rules.specs.declared.place_error.PlaceError.{PlaceError}
use Rattle.place_rules.specs.declared.place_error.PlaceError.TheVariants as place
use Rattle.front_end.specs.Refusals.{unheld, why_not_labelled}

four_parts : (a b c d : List ℕ) → a ++ (b ++ (c ++ d)) ≡ a ++ b ++ c ++ d
four_parts a b c d = simp append_assoc

pub flow_text : (principals : Declared) (why : CheckError) (statement : StmtId) (from to : Label)
    (first last text : List ℕ) → why ≡ check.BadFlow statement from to → first ≡ printed_label principals from →
    last ≡ printed_label principals to → text ≡ first ++ (codes " may not flow to " ++ last) →
    text ≡ why_not_labelled principals why
flow_text principals why statement from to first last text is first_is last_is text_is =
    text_is ∙ ap (λ (bytes : List ℕ). bytes ++ (codes " may not flow to " ++ last)) first_is
    ∙ ap (λ (bytes : List ℕ). printed_label principals from ++ (codes " may not flow to " ++ bytes)) last_is
    ∙ sym (append_assoc (printed_label principals from) (codes " may not flow to ") (printed_label principals to))
    ∙ ap (why_not_labelled principals) (sym is)

pub begin_text : (principals : Declared) (why : CheckError) (statement : StmtId) (pc begin : Label)
    (first last text : List ℕ) → why ≡ check.BadBegin statement pc begin → first ≡ printed_label principals pc →
    last ≡ printed_label principals begin →
    text ≡ codes "program label " ++ (first ++ (codes " may not flow to begin label " ++ last)) →
    text ≡ why_not_labelled principals why
begin_text principals why statement pc begin first last text is first_is last_is text_is =
    text_is
    ∙ ap (λ (bytes : List ℕ). codes "program label " ++ (bytes ++ (codes " may not flow to begin label " ++ last)))
    first_is
    ∙ ap (λ (bytes : List ℕ). codes "program label " ++ (printed_label principals pc
    ++ (codes " may not flow to begin label " ++ bytes))) last_is
    ∙ four_parts (codes "program label ") (printed_label principals pc) (codes " may not flow to begin label ")
    (printed_label principals begin)
    ∙ ap (why_not_labelled principals) (sym is)

five_parts : (a b c d e : List ℕ) → a ++ (b ++ (c ++ (d ++ e))) ≡ a ++ b ++ c ++ d ++ e
five_parts a b c d e = simp append_assoc

-- the statement that no host may hold
pub unheld_text : (tree : ProgramTree) (lines : List ℕ) (why : PlaceError) (statement : StmtId) (line : ℕ)
    (text : List ℕ) → why ≡ place.NoHostForStatement statement → lines ≡ statement_lines tree →
    line ≡ slice_index lines statement.0 →
    text ≡ codes "statement " ++ (decimal statement.0 ++ (codes " (line " ++ (decimal line ++ codes ")"))) →
    text ≡ unheld tree why
unheld_text tree lines why statement line text is lines_are line_is text_is =
    let opening = codes "statement " in let middle = codes " (line " in let closing = codes ")" in
    text_is ∙ five_parts opening (decimal statement.0) middle (decimal line) closing
    ∙ ap (λ (n : ℕ). opening ++ decimal statement.0 ++ middle ++ decimal n ++ closing)
    (line_is ∙ ap (λ (all : List ℕ). slice_index all statement.0) lines_are)
    ∙ ap (unheld tree) (sym is)
