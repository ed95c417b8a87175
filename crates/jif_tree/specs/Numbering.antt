-- The numbers of a program's statements and call sites, and the lines of its statements, in the order of the text.
use Rattle.std.specs.Prelude.{◌≡◌, ℕ, List, [], ◌∷◌, ◌++◌, length}
use Rattle.std.specs.List.{flat_map, range_with_len}
use Rattle.jif_tree.specs.Trees.{BlockTree, done, set_local, set_field, set_element, branch, loop, call, give_back}
use Rattle.jif_tree.specs.Trees.{ProgramTree}

-- the numbers of the statements of a block, with those in the blocks inside it
abbrev pub block_statements : BlockTree → List ℕ
block_statements done = []
block_statements (set_local heading variable value rest) = heading.id.0 ∷ block_statements rest
block_statements (set_field heading field value rest) = heading.id.0 ∷ block_statements rest
block_statements (set_element heading field index value rest) = heading.id.0 ∷ block_statements rest
block_statements (branch heading guard first second rest) =
    heading.id.0 ∷ block_statements first ++ block_statements second ++ block_statements rest
block_statements (loop heading guard body rest) = heading.id.0 ∷ block_statements body ++ block_statements rest
block_statements (call heading site method args into rest) = heading.id.0 ∷ block_statements rest
block_statements (give_back heading value rest) = heading.id.0 ∷ block_statements rest

-- the call sites of a block, with those in the blocks inside it
abbrev pub block_sites : BlockTree → List ℕ
block_sites done = []
block_sites (set_local heading variable value rest) = block_sites rest
block_sites (set_field heading field value rest) = block_sites rest
block_sites (set_element heading field index value rest) = block_sites rest
block_sites (branch heading guard first second rest) =
    block_sites first ++ block_sites second ++ block_sites rest
block_sites (loop heading guard body rest) = block_sites body ++ block_sites rest
block_sites (call heading site method args into rest) = site.0 ∷ block_sites rest
block_sites (give_back heading value rest) = block_sites rest

-- the lines of the statements of a block, in the same order
abbrev pub block_lines : BlockTree → List ℕ
block_lines done = []
block_lines (set_local heading variable value rest) = heading.line ∷ block_lines rest
block_lines (set_field heading field value rest) = heading.line ∷ block_lines rest
block_lines (set_element heading field index value rest) = heading.line ∷ block_lines rest
block_lines (branch heading guard first second rest) =
    heading.line ∷ block_lines first ++ block_lines second ++ block_lines rest
block_lines (loop heading guard body rest) = heading.line ∷ block_lines body ++ block_lines rest
block_lines (call heading site method args into rest) = heading.line ∷ block_lines rest
block_lines (give_back heading value rest) = heading.line ∷ block_lines rest

-- the head of each method, and then its statements
abbrev pub statement_numbers : ProgramTree → List ℕ
statement_numbers program = flat_map (λ method. method.head.0 ∷ block_statements method.body) program.methods

-- their lines
abbrev pub statement_lines : ProgramTree → List ℕ
statement_lines program = flat_map (λ method. method.line ∷ block_lines method.body) program.methods

abbrev pub site_numbers : ProgramTree → List ℕ
site_numbers program = flat_map (λ method. block_sites method.body) program.methods

-- they count up from this number
abbrev pub CountsFrom : ℕ → List ℕ → Type 0
CountsFrom first numbers = numbers ≡ range_with_len first (length numbers)
