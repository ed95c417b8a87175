use Rattle.std.proofs.Common.{rules, ◌≤◌, length}
use Rattle.net_world.proofs.Seeing.{yes, no, none_reads}
use Rattle.net_world.proofs.readers.is_read.Goals as goal

pub returns-then-reads : goal.returns-then-reads
returns-then-reads c = yes (record { 0 = c.loop-host.host }, c.reads.ensures.0 c.if-reads.true)

pub returns : goal.returns
returns c =
    let all : length c.args.hosts.now ≤ c.loop-host.host = search rules in
    no (none_reads c.args.code.now c.args.hosts.now c.args.label c.loop-host.host all c.loop-host.invariant.none)
