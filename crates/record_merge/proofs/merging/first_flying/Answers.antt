use Rattle.net_world.specs.Fits.{world_of}
use Rattle.record_merge.proofs.FirstFlights.{first_at}
use Rattle.record_merge.proofs.merging.first_flying.Goals as goal

pub returns-in-len1-up-clause-some : goal.returns-in-len1-up-clause-some
returns-in-len1-up-clause-some c =
    first_at c.args.code.now c.args.from c.args.to ((world_of c.args.world.now).flying c.args.from c.args.to)
    c.flying.result.now c.message-item.result (c.requires.fits.mail.flying c.args.from c.args.to) c.flying.ensures
    c.in-len1-up.len_at_least c.message-item.is
