use Rattle.std.proofs.Common.{◌∙◌, refl, arith}
use Rattle.std.proofs.lemmas.List.{length-set}
use Rattle.msg_cost.proofs.TrustTables.{table_more}
use Rattle.msg_cost.proofs.table.block_table.Goals as goal

pub loop-number-init : goal.loop-number-init
loop-number-init c = record { long = refl; since = λ host below. absurd (omega arith) }

pub loop-number-preserved : goal.loop-number-preserved
loop-number-preserved c =
    let table = c.loop-number.table in
    let number = c.loop-number.number in
    record {
      long = length-set table number c.trusted_since.result ∙ c.loop-number.invariant.long;
      since = table_more c.args.needs.now c.args.hosts.now c.args.block.now table number c.trusted_since.result
          (omega arith) c.loop-number.invariant.since c.trusted_since.ensures;
    }
