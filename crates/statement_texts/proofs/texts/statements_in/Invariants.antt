use Rattle.std.proofs.Common.{◌≡◌, ◌++◌, drop, map}
use Rattle.statement_texts.specs.Texts.{around_shape, outermost, statement_text_shape, texts_from}
use Rattle.statement_texts.proofs.Lines.{lines_now}
use Rattle.statement_texts.proofs.texts.statements_in.Given as goal

-- what was found, and what the lines that are left say, make the whole
abbrev pub invariant-loop-line : goal.invariant-loop-line
invariant-loop-line l =
    map statement_text_shape l.found.items
    ++ texts_from (around_shape l.around) (lines_now (drop l.line-index l.lines))
    ≡ texts_from outermost (lines_now l.lines)
