use Rattle.std.proofs.Common.{w64, ap}
use Rattle.std.proofs.lemmas.Int.{to_z-of_z}
use Rattle.jif_grammar.specs.DraftShapes.{number_shape}
use Rattle.jif_parse.proofs.operands.number_draft.Goals as goal

pub returns : goal.returns
returns c = ap number_shape (to_z-of_z w64 c.args.number c.ranges.number)
