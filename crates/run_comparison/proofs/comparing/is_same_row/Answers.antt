use Rattle.run_comparison.proofs.AlikeLists.{same_elements}
use Rattle.run_comparison.proofs.comparing.is_same_row.Goals as goal

pub returns : goal.returns
returns c =
    same_elements _ _ _ _ _ c.eq.ensures c.elements.ensures c.elements-2.ensures
