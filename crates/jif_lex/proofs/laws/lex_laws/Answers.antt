use Rattle.jif_lex.proofs.Fronts.{word_like}
use Rattle.jif_lex.proofs.Skips.{ends_first}
use Rattle.jif_lex.proofs.Cuts.{same_reading}
use Rattle.jif_lex.proofs.laws.lex_laws.Goals as goal

pub returns : goal.returns
returns c = let x = word_like in let y = ends_first in same_reading
