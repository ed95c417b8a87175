use Rattle.std.proofs.Common.{arith}
use Rattle.std.proofs.lemmas.List.{length-map}
use Rattle.std.specs.String.{string_bytes}
use Rattle.principals.proofs.Pairing.{ids_within, declared_pairs}
use Rattle.principals.proofs.principals.Principals.new.Goals as goal

pub rows_of-rows-requires : goal.rows_of-rows-requires
rows_of-rows-requires c =
    rw c.deref.ensures.value (ids_within _ _ c.in_ok-pairs.pairs.items
    (omega (arith, length-map c.args.names.now string_bytes)) c.in_ok-pairs.ensures.known)

pub invariant_of-result : goal.invariant_of-result
invariant_of-result c = (
  declared_pairs c.args.names.now c.in_ok-names.names.items _ _ c.requires (omega arith) c.in_ok-names.ensures
      c.in_default.ensures.none c.in_ok-pairs.ensures.known,
  rw c.deref.ensures.value at c.rows_of-rows.ensures,
)
