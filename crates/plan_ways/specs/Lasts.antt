-- The last statement inside each statement, where statements are numbered in the order of the text.
use Rattle.std.specs.Prelude.{ℕ, ◌+◌, List, [], ◌∷◌, ◌++◌, length, map, slice_index_or}
use Rattle.js_base.specs.declared.ids.StmtId.{StmtId}
use Rattle.jif_tree.specs.Numbering.{block_statements}
use Rattle.jif_tree.specs.Trees.{BlockTree, done, set_local, set_field, set_element, branch, loop, call, give_back}
use Rattle.jif_tree.specs.Trees.{MethodTree, ProgramTree, statement_tree}
use Rattle.jif_tree.specs.declared.program.StmtKind.{StmtKind}

-- how many statements a block has, with those in the blocks inside it
abbrev pub size_of : BlockTree → ℕ
size_of block = length (block_statements block)

-- of the statements of a block, of which the first has this number: the number of the last statement inside each
abbrev pub block_lasts : ℕ → BlockTree → List ℕ
block_lasts first done = []
block_lasts first (set_local heading variable value rest) = first ∷ block_lasts (first + 1) rest
block_lasts first (set_field heading field value rest) = first ∷ block_lasts (first + 1) rest
block_lasts first (set_element heading field index value rest) = first ∷ block_lasts (first + 1) rest
block_lasts first (branch heading guard one other rest) =
    (first + (size_of one + size_of other))
    ∷ (block_lasts (first + 1) one ++ block_lasts (first + 1 + size_of one) other)
    ++ block_lasts (first + 1 + (size_of one + size_of other)) rest
block_lasts first (loop heading guard body rest) =
    (first + size_of body) ∷ block_lasts (first + 1) body ++ block_lasts (first + 1 + size_of body) rest
block_lasts first (call heading site method args into rest) = first ∷ block_lasts (first + 1) rest
block_lasts first (give_back heading value rest) = first ∷ block_lasts (first + 1) rest

-- of the methods, of which the first has a head of this number
abbrev pub method_lasts : ℕ → List MethodTree → List ℕ
method_lasts first [] = []
method_lasts first (method ∷ methods) =
    (first + size_of method.body)
    ∷ block_lasts (first + 1) method.body ++ method_lasts (first + 1 + size_of method.body) methods

abbrev pub lasts_of : ProgramTree → List ℕ
lasts_of program = method_lasts 0 program.methods

abbrev pub heads_of : ProgramTree → List StmtId
heads_of program = map (λ method. method.head) program.methods

abbrev pub last_in : List ℕ → StmtId → ℕ
last_in lasts statement = slice_index_or lasts statement.0 statement.0

-- ---- in the program

-- of the statements in the blocks of the first statement of a block, of which the first has this number
abbrev pub inside_lasts : ℕ → BlockTree → List ℕ
inside_lasts first (branch heading guard one other rest) =
    block_lasts first one ++ block_lasts (first + size_of one) other
inside_lasts first (loop heading guard body rest) = block_lasts first body
inside_lasts first block = []

-- the same of a statement as the program keeps it
abbrev pub kind_lasts : ℕ → StmtKind → List ℕ
kind_lasts first what = inside_lasts first (statement_tree what (record { id = record { 0 = 0 }; line = 0 }) done)
