use Rattle.std.proofs.Common.{◌∙◌, inr, sym}
use Rattle.std.specs.Str.Lines.{lines}
use Rattle.event_text.specs.Lines.{line_of, said_from}
use Rattle.node_seals.proofs.KeyLines.{refused_at}
use Rattle.node_seals.proofs.seals.SealedLinks.read.Goals as goal

pub returns-then-is_none-clause-refused : goal.returns-then-is_none-clause-refused
returns-then-is_none-clause-refused c =
    inr (sym c.loop-line.invariant.links
    ∙ rw c.in-Some.ensures.some
    (refused_at c.args.code.now c.args.me (line_of c.in-Some.line.number c.in-Some.line.bytes.now)
    (said_from c.in-Some.after.number (lines c.in-Some.after.bytes.now)) _
    (c.take.ensures.bad c.if-is_none.ensures)))
