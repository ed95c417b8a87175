-- The texts of statements by the tree of the program: of each its own line, and the blocks around it.
use Rattle.std.specs.Prelude.{ℕ, Bool, true, false, List, [], ◌∷◌, ◌++◌, codes, length}
use Rattle.std.specs.List.{count_by, join_by}
use Rattle.principals.specs.ActsFor.{Declared}
use Rattle.label_lattice.specs.Printed.{printed_label}
use Rattle.jif_tree.specs.Trees.{BlockTree, done, set_local, set_field, set_element, branch, loop, call, give_back}
use Rattle.jif_tree.specs.Trees.{MethodTree, ProgramTree}
use Rattle.jif_parse.specs.PrintedNames.{Naming, field_name, method_name}
use Rattle.jif_parse.specs.PrintedExprs.{expr_text}
use Rattle.jif_parse.specs.PrintedProgram.{assigned_text, authority_text, declared_text, into_text, kind_text}
use Rattle.jif_parse.specs.PrintedProgram.{seen_after, seen_after_method, seen_behind, seen_in}
use Rattle.statement_texts.specs.Texts.{AroundShape, StatementTextShape, is_loop, outermost}

-- ---- lines

abbrev pub stated : List ℕ → List ℕ
stated text = text ++ codes ";"

abbrev pub opened : List ℕ → List ℕ
opened text = text ++ codes " {"

abbrev pub guard_line : (word : List ℕ) → (guard : List ℕ) → List ℕ
guard_line word guard = opened (word ++ codes " (" ++ guard ++ codes ")")

abbrev pub head_line : Naming → MethodTree → List ℕ
head_line naming method =
    opened (kind_text naming method.result ++ codes " " ++ method.name
    ++ printed_label naming.principals method.begin ++ codes "("
    ++ join_by (declared_text naming) (codes ", ") method.params ++ codes ")"
    ++ authority_text naming method.authority)

-- ---- what is around a statement

-- behind a statement: the next one is not the first behind an `else`
abbrev pub behind : AroundShape → AroundShape
behind around = record { within = around.within; otherwise = false }

-- in a block inside: whether it is that of a loop, and whether it is done otherwise
abbrev pub inside : AroundShape → (is_of_loop otherwise : Bool) → AroundShape
inside around is_of_loop otherwise = record { within = around.within ++ is_of_loop ∷ []; otherwise = otherwise }

-- ---- texts

-- a statement with this line, which begins a loop or does not
abbrev pub told : AroundShape → (line : List ℕ) → (begins : Bool) → StatementTextShape
told around line begins = record {
  text = line;
  blocks = length around.within;
  loops = count_by is_loop around.within;
  begins_loop = begins;
  otherwise = around.otherwise;
}

-- those of a block and of the blocks in it, in the order of the text
abbrev pub block_texts : Naming → ℕ → AroundShape → BlockTree → List StatementTextShape
block_texts naming seen around done = []
block_texts naming seen around (set_local heading x value rest) =
    told around (stated (assigned_text naming seen x ++ codes " = " ++ expr_text naming value)) false
    ∷ block_texts naming (seen_after seen x) (behind around) rest
block_texts naming seen around (set_field heading field value rest) =
    told around (stated (field_name naming field ++ codes " = " ++ expr_text naming value)) false
    ∷ block_texts naming seen (behind around) rest
block_texts naming seen around (set_element heading field index value rest) =
    told around (stated (field_name naming field ++ codes "[" ++ expr_text naming index ++ codes "] = "
    ++ expr_text naming value)) false
    ∷ block_texts naming seen (behind around) rest
block_texts naming seen around (branch heading guard first second rest) =
    told around (guard_line (codes "if") (expr_text naming guard)) false
    ∷ block_texts naming seen (inside around false false) first
    ++ block_texts naming (seen_behind seen first) (inside around false true) second
    ++ block_texts naming (seen_behind (seen_behind seen first) second) (behind around) rest
block_texts naming seen around (loop heading guard body rest) =
    told around (guard_line (codes "while") (expr_text naming guard)) true
    ∷ block_texts naming seen (inside around true false) body
    ++ block_texts naming (seen_behind seen body) (behind around) rest
block_texts naming seen around (call heading site method args into rest) =
    told around (stated (into_text naming into ++ method_name naming method ++ codes "("
    ++ join_by (expr_text naming) (codes ", ") args ++ codes ")")) false
    ∷ block_texts naming seen (behind around) rest
block_texts naming seen around (give_back heading value rest) =
    told around (stated (codes "return " ++ expr_text naming value)) false
    ∷ block_texts naming seen (behind around) rest

-- a head, and then the statements of its method
abbrev pub method_texts : Naming → ℕ → MethodTree → List StatementTextShape
method_texts naming seen method =
    told outermost (head_line naming method) false
    ∷ block_texts naming (seen_in seen method) (inside outermost false false) method.body

abbrev pub methods_texts : Naming → ℕ → List MethodTree → List StatementTextShape
methods_texts naming seen [] = []
methods_texts naming seen (method ∷ methods) =
    method_texts naming seen method ++ methods_texts naming (seen_after_method seen method) methods

abbrev pub program_texts : Declared → ProgramTree → List StatementTextShape
program_texts principals program =
    methods_texts (record { principals = principals; program = program }) 0 program.methods
