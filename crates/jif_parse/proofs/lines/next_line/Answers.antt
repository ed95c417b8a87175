use Rattle.jif_parse.proofs.Blocks.{line_of_next, line_of_none}
use Rattle.jif_parse.proofs.lines.next_line.Goals as goal

pub returns-in-Some : goal.returns-in-Some
returns-in-Some c lines has = line_of_next c.args.cursor.now c.in-Some.token.now lines c.in-Some.ensures.there has

pub returns-in-None : goal.returns-in-None
returns-in-None c lines has = line_of_none c.args.cursor.now lines c.in-None.ensures.none has
