use Rattle.std.proofs.Common.{map, ◌∙◌, ap}
use Rattle.std.specs.Prelude.{string_bytes}
use Rattle.std.proofs.lemmas.List.{length-map}
use Rattle.jif_tree.specs.Trees.{expr_tree}
use Rattle.jif_parse.specs.PrintedNames.{naming_of}
use Rattle.jif_parse.specs.PrintedExprs.{expr_text}
use Rattle.jif_parse.proofs.PrintedTexts.{all_joined, all_mapped}
use Rattle.jif_parse.proofs.printed.exprs.args_text.Goals as goal

pub returns : goal.returns
returns c =
    all_joined string_bytes (expr_text (naming_of c.args.names.now))
    (map expr_tree c.args.args.now) c.loop-arg.arg-index
    c.deref.result.now c.loop-arg.texts.items (rw length-map c.loop-arg-test.false) c.in_ok-join.ensures.ok
    c.deref.ensures.value (c.loop-arg.invariant ∙ ap (map (expr_text (naming_of c.args.names.now)))
    (all_mapped expr_tree c.args.args.now c.loop-arg.arg-index))
