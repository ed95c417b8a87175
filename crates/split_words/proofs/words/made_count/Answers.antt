use Rattle.split_words.proofs.MadeCounts.{more_made}
use Rattle.split_words.proofs.words.made_count.Goals as goal

pub returns-else-statements-le-MADE_STATEMENTS-clause-none :
    goal.returns-else-statements-le-MADE_STATEMENTS-clause-none
returns-else-statements-le-MADE_STATEMENTS-clause-none c =
    more_made c.args.word.now c.in_ok-statements.statements c.in_ok-statements.ensures.count
    c.in_ok-statements.ensures.found c.if-statements-le-MADE_STATEMENTS.false
