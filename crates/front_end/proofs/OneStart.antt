-- A file of starting values gives one outcome, and the same for programs with the same tree.
use Rattle.std.proofs.Common.{◌≡◌, ℕ, List, map, refl, sym, ap, subst, ◌∙◌, arith}
use Rattle.std.specs.Prelude.{ℤ}
use Rattle.jif_tree.specs.declared.program.Program.{Program}
use Rattle.jif_tree.specs.Trees.{FieldTree, field_tree, ProgramTree, program_tree}
use Rattle.event_text.specs.Settings.{FieldForm}
use Rattle.event_text.specs.Start.{program_form}
use Rattle.front_end.specs.Stages.{StageEnd}
use Rattle.front_end.specs.Starting.{StartingValues, long, bad_line, read}
use Rattle.front_end.specs.Verdicts.{no_form}
use Rattle.front_end.proofs.SeenItems.{map_seen}
use Rattle.front_end.proofs.Stages.{IsOne, give, stop_with}

-- what scripts know of a field, by its tree
form_of_tree : FieldTree → FieldForm
form_of_tree field = record { name = field.name; size = field.size; array = field.array; first = field.first }

same_forms : (program other : Program) → program_tree program ≡ program_tree other →
    map program_form program.fields.items ≡ map program_form other.fields.items
unfolding form_of_tree
same_forms program other same =
    map_seen program_form field_tree form_of_tree (λ field. refl) program.fields.items
    ∙ ap (λ (tree : ProgramTree). map form_of_tree tree.fields) same
    ∙ sym (map_seen program_form field_tree form_of_tree (λ field. refl) other.fields.items)

-- what a file gives for a program it gives for another with the same tree
pub start_moved : (file start : List ℕ) (program other : Program) (end : StageEnd (List (List ℤ))) →
    program_tree program ≡ program_tree other →
    StartingValues file start (map program_form other.fields.items) end →
    StartingValues file start (map program_form program.fields.items) end
start_moved file start program other end same values =
    subst (λ (fields : List FieldForm). StartingValues file start fields end) (sym (same_forms program other same))
    values

pub start_once : (file start : List ℕ) (fields : List FieldForm) → IsOne (StartingValues file start fields)
start_once file start fields _ _ (long more) (long also) = refl
start_once file start fields _ _ (long more) (bad_line line short is) = absurd (omega arith)
start_once file start fields _ _ (long more) (read values short is) = absurd (omega arith)
start_once file start fields _ _ (bad_line line short is) (long more) = absurd (omega arith)
start_once file start fields _ _ (bad_line line short is) (bad_line other also_short also) =
    let both = sym is ∙ also in
    let same : line ≡ other = cc in
    ap (λ (number : ℕ). stop_with {X = List (List ℤ)} (no_form file number)) same
start_once file start fields _ _ (bad_line line short is) (read values also_short also) =
    absurd (let no = sym is ∙ also in cc)
start_once file start fields _ _ (read values short is) (long more) = absurd (omega arith)
start_once file start fields _ _ (read values short is) (bad_line line also_short also) =
    absurd (let no = sym is ∙ also in cc)
start_once file start fields _ _ (read values short is) (read others also_short also) =
    let both = sym is ∙ also in
    let same : values ≡ others = cc in
    ap (give {X = List (List ℤ)}) same
