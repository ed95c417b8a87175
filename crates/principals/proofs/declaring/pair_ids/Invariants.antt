use Rattle.principals.proofs.Pairing.{PairedSoFar}
use Rattle.principals.proofs.declaring.pair_ids.Given as goal

abbrev pub invariant-loop-pair : goal.invariant-loop-pair
invariant-loop-pair l = PairedSoFar l.names l.pairs l.pair-index l.ids.items
