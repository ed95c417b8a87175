-- What a printed program is read as: the same program, but for the lines of its statements.
use Rattle.std.specs.Prelude.{◌≡◌, List, map}
use Rattle.principals.specs.ActsFor.{Declared}
use Rattle.jif_lex.specs.declared.token.Token.{Token}
use Rattle.jif_lex.specs.Tokens.{ReadsAs, tokens}
use Rattle.jif_tree.specs.Trees.{Heading, BlockTree, done, set_local, set_field, set_element, branch, loop, call}
use Rattle.jif_tree.specs.Trees.{give_back, MethodTree, ProgramTree}
use Rattle.jif_grammar.specs.DraftShapes.{DraftShape}
use Rattle.jif_grammar.specs.Programs as grammar
use Rattle.jif_resolve.specs.Verdicts.{IsProgramOf}
use Rattle.jif_parse.specs.PrintedProgram.{printed_program}

abbrev pub without_line : Heading → Heading
without_line heading = record heading { line = 0 }

abbrev pub block_without_lines : BlockTree → BlockTree
block_without_lines done = done
block_without_lines (set_local heading x value rest) =
    set_local (without_line heading) x value (block_without_lines rest)
block_without_lines (set_field heading field value rest) =
    set_field (without_line heading) field value (block_without_lines rest)
block_without_lines (set_element heading field index value rest) =
    set_element (without_line heading) field index value (block_without_lines rest)
block_without_lines (branch heading guard first second rest) =
    branch (without_line heading) guard (block_without_lines first) (block_without_lines second)
    (block_without_lines rest)
block_without_lines (loop heading guard body rest) =
    loop (without_line heading) guard (block_without_lines body) (block_without_lines rest)
block_without_lines (call heading site method args into rest) =
    call (without_line heading) site method args into (block_without_lines rest)
block_without_lines (give_back heading value rest) =
    give_back (without_line heading) value (block_without_lines rest)

abbrev pub method_without_lines : MethodTree → MethodTree
method_without_lines method = record method { line = 0; body = block_without_lines method.body }

abbrev pub without_lines : ProgramTree → ProgramTree
without_lines program = record program { methods = map method_without_lines program.methods }

-- The text has tokens that are a program of the grammar, and its names stand for the same program but for its lines.
pub record ReadsBack (principals : Declared) (program : ProgramTree) : Type 0 where
  pub list : List Token
  pub read : ReadsAs (printed_program principals program) (tokens list)
  pub draft : DraftShape
  pub is_program : grammar.IsProgramOf list draft
  pub again : ProgramTree
  pub resolved : IsProgramOf principals draft again
  pub same : without_lines again ≡ without_lines program
