use Rattle.std.proofs.Common.{◌≡◌, ◌++◌, map, drop, string_bytes}
use Rattle.jif_tree.specs.Trees.{method_tree}
use Rattle.jif_parse.specs.PrintedNames.{naming_of}
use Rattle.jif_parse.specs.PrintedProgram.{methods_text}
use Rattle.jif_parse.proofs.printed.methods.methods_text.Given as goal

-- the text so far, and then that of the methods that are left, is that of all
abbrev pub invariant-loop-method : goal.invariant-loop-method
invariant-loop-method l =
    methods_text (naming_of l.names) 0 (map method_tree l.names.program.now.methods.items)
    ≡ string_bytes l.text
    ++ methods_text (naming_of l.names) l.seen (map method_tree (drop l.method-index l.names.program.now.methods.items))
