-- The step is that of the table, and keeps what holds of the host.
use Rattle.std.proofs.Common.{rules}
use Rattle.host_core.proofs.CallsKept.{deliver_kept, few_hosts, made_keeps}
use Rattle.host_core.proofs.host.Host.deliver_into.Goals as goal

pub take-requires-clause-from : goal.take-requires-clause-from
take-requires-clause-from c =
    few_hosts c.args.code.now c.args.self.now.me c.args.from c.code_laws.ensures c.requires.from

pub returns-in-Ok-clause-keeps : goal.returns-in-Ok-clause-keeps
returns-in-Ok-clause-keeps c =
    let fits =
    (deliver_kept c.args.code.now c.args.self.now c.begin.new.self c.take.new.self c.args.from c.args.message.now
    c.take.new.sent
    c.code_laws.ensures c.requires.fits c.requires.from c.requires.tokens c.begin.ensures.same c.begin.ensures.checks
    c.in-Ok.ensures.ok).0 in
    made_keeps c.args.code.now c.args.self.now c.begin.new.self c.take.new.self fits (search rules) (search rules)
    c.in-Ok.ensures.ok.same c.in_ok-begin.ensures.stopped

pub returns-in-Ok-clause-sent : goal.returns-in-Ok-clause-sent
returns-in-Ok-clause-sent c =
    (deliver_kept c.args.code.now c.args.self.now c.begin.new.self c.take.new.self c.args.from c.args.message.now
    c.take.new.sent
    c.code_laws.ensures c.requires.fits c.requires.from c.requires.tokens c.begin.ensures.same c.begin.ensures.checks
    c.in-Ok.ensures.ok).1
