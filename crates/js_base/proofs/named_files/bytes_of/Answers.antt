use Rattle.std.proofs.Common.{arith}
use Rattle.js_base.proofs.HeldFiles.{held_in-from_position, held_in-from_no_position}
use Rattle.js_base.proofs.named_files.bytes_of.Goals as goal

pub returns-in-Some : goal.returns-in-Some
returns-in-Some c =
    let found =
    held_in-from_position c.args.name.now c.args.files.now c.in-Some.place c.index-files-place.result
    c.in-Some.ensures in
    grind arith

pub returns-in-None : goal.returns-in-None
returns-in-None c =
    let absent = held_in-from_no_position c.args.name.now c.args.files.now c.in-None.ensures in
    grind arith
