use Rattle.std.proofs.Common.{rules}
use Rattle.std.proofs.lemmas.Fn.{always_returns_same}
use Rattle.host_stores.specs.Order.{cell_order}
use Rattle.host_stores.proofs.Cells.{placed}
use Rattle.host_stores.proofs.variables.place_in.Goals as goal

-- the closure gives the order of a cell and of the variable, and stays as it is
pub returns : goal.returns
returns c =
    placed c.args.cells.now c.args.frame c.args.var c.binary_search_by.result c.requires
    c.binary_search_by.ensures.bound
    (c.binary_search_by.ensures.position (cell_order c.args.frame c.args.var)
    (always_returns_same _ _ _ (λ a r f called. search rules)))
