use Rattle.std.proofs.Common.{◌≡◌, map, take, string_bytes}
use Rattle.jif_tree.specs.Trees.{expr_tree}
use Rattle.jif_parse.specs.PrintedNames.{naming_of}
use Rattle.jif_parse.specs.PrintedExprs.{expr_text}
use Rattle.jif_parse.proofs.printed.exprs.args_text.Given as goal

-- the texts of the arguments so far
abbrev pub invariant-loop-arg : goal.invariant-loop-arg
invariant-loop-arg l =
    map string_bytes l.texts.items ≡ map (expr_text (naming_of l.names)) (map expr_tree (take l.arg-index l.args))
