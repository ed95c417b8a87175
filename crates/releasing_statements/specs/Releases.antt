-- The statements that release something: those whose own expressions hold a `declassify`.
use Rattle.std.specs.Prelude.{ℕ, List, [], ◌∷◌, ◌++◌, if◌then◌else◌, unwrap_or, slice_get}
use Rattle.std.specs.List.{flat_map, list_any}
use Rattle.jif_tree.specs.Trees.{ExprTree, BlockTree, done, set_local, set_field, set_element, branch, loop, call}
use Rattle.jif_tree.specs.Trees.{give_back, MethodTree, ProgramTree}
use Rattle.need_labels.specs.Needs.{releases}

-- a statement of this number, where one of its own expressions releases something
abbrev pub if_releasing : ℕ → List ExprTree → List ℕ
if_releasing number exprs = if list_any releases exprs then number ∷ [] else []

-- such statements of a block and of the blocks in it, in the order of the text
abbrev pub block_releases : BlockTree → List ℕ
block_releases done = []
block_releases (set_local heading variable value rest) =
    if_releasing heading.id.0 (value ∷ []) ++ block_releases rest
block_releases (set_field heading field value rest) = if_releasing heading.id.0 (value ∷ []) ++ block_releases rest
block_releases (set_element heading field index value rest) =
    if_releasing heading.id.0 (index ∷ value ∷ []) ++ block_releases rest
block_releases (branch heading guard first second rest) =
    if_releasing heading.id.0 (guard ∷ []) ++ block_releases first ++ block_releases second ++ block_releases rest
block_releases (loop heading guard body rest) =
    if_releasing heading.id.0 (guard ∷ []) ++ block_releases body ++ block_releases rest
block_releases (call heading site method args into rest) = if_releasing heading.id.0 args ++ block_releases rest
block_releases (give_back heading value rest) = if_releasing heading.id.0 (value ∷ []) ++ block_releases rest

-- those of a method; its head has no expressions
abbrev pub method_releases : MethodTree → List ℕ
method_releases method = block_releases method.body

-- those of a program; their numbers ascend, as those of all statements do
abbrev pub program_releases : ProgramTree → List ℕ
program_releases program = flat_map method_releases program.methods

-- the number of the first, and 0, that of no statement but a head, where there is none
abbrev pub first_release : ProgramTree → ℕ
first_release program = unwrap_or (slice_get (program_releases program) 0) 0
