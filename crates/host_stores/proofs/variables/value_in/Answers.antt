use Rattle.std.proofs.Common.{rules, sym, pos}
use Rattle.host_stores.proofs.Cells.{value_none, value_at_place}
use Rattle.host_stores.proofs.variables.value_in.Goals as goal

pub returns-in-Ok : goal.returns-in-Ok
returns-in-Ok c =
    let value = value_at_place c.args.cells.now c.in-Ok.place (record {
      frame = record { site = record { 0 = 0 }; count = 0 };
      var = record { 0 = 0 };
      value = pos 0;
    }) c.args.frame c.args.var c.requires c.in-Ok.ensures in
    search (rules, value)

pub returns-in-Err : goal.returns-in-Err
returns-in-Err c = sym (value_none c.args.cells.now c.in-Err.field-0 c.args.frame c.args.var c.in-Err.ensures)
