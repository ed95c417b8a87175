use Rattle.std.proofs.Common.{◌≡◌, ◌≤◌, drop, map}
use Rattle.plan_picture.specs.Loops.{deepest}
use Rattle.statement_texts.specs.Texts.{statement_text_shape}
use Rattle.plan_picture.proofs.loops.deepest.Given as goal

abbrev pub invariant-loop-text : goal.invariant-loop-text
invariant-loop-text l = record {
  found : deepest l.most (map statement_text_shape (drop l.text-index l.texts))
      ≡ deepest 0 (map statement_text_shape l.texts);
  small : l.most ≤ 64;
}
