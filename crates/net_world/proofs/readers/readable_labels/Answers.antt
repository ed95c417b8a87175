use Rattle.std.proofs.Common.{rules, ◌≤◌, length}
use Rattle.net_world.specs.Fits.{states_of}
use Rattle.net_world.proofs.Seeing.{tells_more, tells_all}
use Rattle.net_world.proofs.readers.readable_labels.Goals as goal

pub loop-label-preserved : goal.loop-label-preserved
loop-label-preserved c =
    let l = c.loop-label in
    record {
      count = search rules;
      each = rw c.in_ok-push.ensures.items
          (tells_more c.args.code.now (states_of c.args.hosts.now) l.readable.items c.is_read.result l.label
          l.invariant.count l.invariant.each c.is_read.ensures);
    }

pub returns : goal.returns
returns c =
    let l = c.loop-label in
    let all : length c.args.code.now.labels ≤ l.label = search rules in
    tells_all c.args.code.now (states_of c.args.hosts.now) l.readable.items l.label l.invariant.count all
    l.invariant.each
