use Rattle.placement.proofs.Starts.{lowest_host}
use Rattle.placement.proofs.starting_plan.first_host.Goals as goal

pub returns : goal.returns
returns c = lowest_host c.args.word c.requires c.ranges.word.fits
