use Rattle.std.proofs.Common.{arith}
use Rattle.std.proofs.lemmas.Bool.Decides.{nat_tests}
use Rattle.std.proofs.lemmas.List.{take_rest}
use Rattle.event_text.proofs.Fronts.{lines-last, lines-first}
use Rattle.record_merge.proofs.lines.first_line.Goals as goal

pub returns-then-end-bytes-clause-some : goal.returns-then-end-bytes-clause-some
returns-then-end-bytes-clause-some c =
    lines-last c.args.bytes.now c.line_len-end.result c.line_len-end.ensures.len (omega arith)
    (grind (arith, nat_tests))

pub returns-clause-some : goal.returns-clause-some
returns-clause-some c =
    let first = lines-first c.args.bytes.now c.line_len-end.result c.line_len-end.ensures.len (omega arith) in
    rw take_rest (rw c.without_carriage_return-line.ensures first)
