use Rattle.std.proofs.Common.{◌≡◌, drop, map}
use Rattle.std.specs.List.{list_any}
use Rattle.statement_texts.specs.Texts.{statement_text_shape}
use Rattle.plan_picture.specs.Legend.{is_loop}
use Rattle.plan_picture.proofs.legend.some_loop.Given as goal

abbrev pub invariant-loop-text : goal.invariant-loop-text
invariant-loop-text l =
    list_any is_loop (map statement_text_shape (drop l.text-index l.texts))
    ≡ list_any is_loop (map statement_text_shape l.texts)
