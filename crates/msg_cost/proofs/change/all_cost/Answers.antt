use Rattle.std.proofs.Common.{◌∙◌, ap}
use Rattle.msg_cost.specs.Views.{seated_shape, capped}
use Rattle.msg_cost.proofs.ByPieces.{by_pieces}
use Rattle.msg_cost.proofs.change.all_cost.Goals as goal

pub returns : goal.returns
returns c moved = c.program_cost.ensures ∙ ap capped (by_pieces (seated_shape c.args.planned.now) moved)
