-- Of each statement whether it releases something: whether one of its own expressions holds a `declassify`.
use Rattle.std.specs.Prelude.{ℕ, Bool, true, false, List, [], ◌∷◌, ◌++◌}
use Rattle.std.specs.List.{flat_map, list_any}
use Rattle.jif_tree.specs.Trees.{BlockTree, done, set_local, set_field, set_element, branch, loop, call}
use Rattle.jif_tree.specs.Trees.{give_back, MethodTree, ProgramTree}
use Rattle.need_labels.specs.Needs.{releases}

-- those of a block and of the blocks in it, in the order of the text
abbrev pub block_marks : BlockTree → List Bool
block_marks done = []
block_marks (set_local heading variable value rest) = list_any releases (value ∷ []) ∷ block_marks rest
block_marks (set_field heading field value rest) = list_any releases (value ∷ []) ∷ block_marks rest
block_marks (set_element heading field index value rest) =
    list_any releases (index ∷ value ∷ []) ∷ block_marks rest
block_marks (branch heading guard first second rest) =
    list_any releases (guard ∷ []) ∷ block_marks first ++ block_marks second ++ block_marks rest
block_marks (loop heading guard body rest) = list_any releases (guard ∷ []) ∷ block_marks body ++ block_marks rest
block_marks (call heading site method args into rest) = list_any releases args ∷ block_marks rest
block_marks (give_back heading value rest) = list_any releases (value ∷ []) ∷ block_marks rest

-- the head of a method, which has no expressions, and then its statements
abbrev pub method_marks : MethodTree → List Bool
method_marks method = false ∷ block_marks method.body

-- those of a program, in the order of the numbers of its statements
abbrev pub released_statements : ProgramTree → List Bool
released_statements program = flat_map method_marks program.methods

-- the numbers that have a mark
abbrev pub marked : List ℕ → List Bool → List ℕ
marked [] marks = []
marked (number ∷ numbers) [] = []
marked (number ∷ numbers) (true ∷ marks) = number ∷ marked numbers marks
marked (number ∷ numbers) (false ∷ marks) = marked numbers marks
