use Rattle.part_verify.proofs.Runs.{marked, within}
use Rattle.part_verify.proofs.threads.thread_laws.Goals as goal

pub returns : goal.returns
returns c = record { within = within; marked = marked }
