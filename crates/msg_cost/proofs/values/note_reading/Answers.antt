use Rattle.std.proofs.Common.{◌∙◌, ◌<◌, length, refl, arith}
use Rattle.std.proofs.lemmas.List.{length-set}
use Rattle.msg_cost.specs.Views.{seated_shape}
use Rattle.msg_cost.proofs.Readers.{words_more}
use Rattle.msg_cost.proofs.values.note_reading.Goals as goal

pub loop-number-init : goal.loop-number-init
loop-number-init c = record { long = refl; found = λ x below. absurd (omega (arith, below)) }

pub loop-number-preserved : goal.loop-number-preserved
loop-number-preserved c =
    let long = c.loop-number.invariant.long in
    let within : c.loop-number.number < length c.loop-number.words = omega (arith, long) in
    record {
      long = length-set c.loop-number.words c.loop-number.number c.reading_hosts.result ∙ long;
      found = words_more (seated_shape c.args.planned.now) c.loop-number.words c.loop-number.number
          c.reading_hosts.result
          within c.reading_hosts.ensures c.loop-number.invariant.found;
    }

pub returns-clause-words : goal.returns-clause-words
returns-clause-words c = λ x below. c.loop-number.invariant.found x (omega (arith, below))
