use Rattle.std.proofs.Common.{codes}
use Rattle.std.proofs.lemmas.Str.Pattern.{starts_text}
use Rattle.statement_texts.proofs.texts.begins_loop.Goals as goal

pub returns : goal.returns
returns c = starts_text _ (codes "while (") c.args.line.now c.starts_with.ensures.cases
