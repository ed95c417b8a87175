use Rattle.front_end.proofs.Loading.{long_file}
use Rattle.front_end.proofs.load.load.Goals as goal

pub returns-in-Err-TooLong-clause-loaded : goal.returns-in-Err-TooLong-clause-loaded
returns-in-Err-TooLong-clause-loaded g c =
    long_file _ c.args.name.now c.args.most (rw c.in-Err-TooLong.field-0-is at c.in-Err-TooLong.ensures.gives)
