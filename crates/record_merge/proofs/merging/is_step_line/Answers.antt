use Rattle.std.proofs.Common.{◌≡◌, IsTrue, sym, subst}
use Rattle.std.specs.Prelude.{◌↔◌}
use Rattle.std.proofs.lemmas.Result.{IfOk-weaker}
use Rattle.event_text.specs.Lines.{words}
use Rattle.net_world.specs.Fits.{world_of}
use Rattle.record_merge.proofs.FirstFlights.{take_step, none_flies}
use Rattle.record_merge.proofs.merging.is_step_line.Goals as goal

pub is_take_line-requires : goal.is_take_line-requires
is_take_line-requires c = c.in-Some.ensures.some.fits

pub unreachable-requires : goal.unreachable-requires
unreachable-requires c =
    none_flies (world_of c.args.world.now) c.in-Take.from c.in-Take.to c.in-Take.field-2 c.args.event.now c.in-Take.is
    c.requires.next c.in-None.ensures.none

pub returns-in-Some : goal.returns-in-Some
returns-in-Some c =
    IfOk-weaker c.is_take_line.result _ _ (λ is told. subst (λ w. IsTrue is ↔ (words c.args.line.now ≡ w))
    (sym (take_step c.args.code.now (world_of c.args.world.now) c.in-Take.from c.in-Take.to c.in-Take.field-2
    c.args.event.now c.in-Some.message.now c.in-Take.is c.requires.next c.in-Some.ensures.some)) told)
    c.is_take_line.ensures
