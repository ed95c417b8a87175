use Rattle.std.proofs.Common.{arith}
use Rattle.std.proofs.lemmas.Bool.Decides.{nat_tests}
use Rattle.std.proofs.lemmas.List.{take_rest}
use Rattle.event_text.proofs.MarkedParts.{parts-whole, parts-first}
use Rattle.event_text.proofs.parts.cut.Goals as goal

pub returns-then-end-word-clause-none : goal.returns-then-end-word-clause-none
returns-then-end-word-clause-none c =
    parts-whole c.args.mark c.args.word.now c.len_before-end.result c.len_before-end.ensures.len
    (grind (arith, nat_tests))

pub returns-clause-some : goal.returns-clause-some
returns-clause-some c =
    let first = parts-first c.args.mark c.args.word.now c.len_before-end.result c.len_before-end.ensures.len
    (grind (arith, nat_tests)) in
    rw take_rest first
