use Rattle.std.proofs.Common.{◌≡◌, ◌≤◌, length, arith, ap, ◌∙◌, rules, append_assoc}
use Rattle.std.proofs.lemmas.List.{append-nil}
use Rattle.js_base.specs.declared.limits.TheConstants.{FRAME_BYTES}
use Rattle.wire_msg.specs.Reading.{reading_of}
use Rattle.wire_msg.specs.Spelling.{frame_bytes}
use Rattle.wire_msg.proofs.FrameLaws.{body_short, read_again}
use Rattle.wire_msg.proofs.writing.write.Goals as goal

pub overflow_cast-len : goal.overflow_cast-len
overflow_cast-len c =
    let short : length c.in_ok-body.body.items ≤ FRAME_BYTES =
    rw c.in_ok-body.ensures (body_short c.args.from c.args.frame.now c.frame_law.ensures) in
    record { fits = omega (arith, short, c.len.ensures) }

pub returns-clause-again : goal.returns-clause-again
unfolding frame_bytes
returns-clause-again c =
    let spelled : c.extend_from_slice.new.self.items ≡ frame_bytes c.args.from c.args.frame.now =
    search (rules, append_assoc, append-nil) in
    ap reading_of spelled ∙ read_again c.args.from c.args.frame.now (c.requires, c.frame_law.ensures)
