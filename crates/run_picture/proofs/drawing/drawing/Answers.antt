use Rattle.std.proofs.Common.{map, ap, ◌∙◌}
use Rattle.jif_tree.specs.Trees.{program_tree}
use Rattle.net_world.specs.Fits.{world_of}
use Rattle.run_chart.specs.Sheets.{chart_sheet_shape}
use Rattle.statement_texts.specs.Texts.{statement_text_shape}
use Rattle.run_picture.proofs.RunSources.{drawn_is}
use Rattle.run_picture.proofs.drawing.drawing.Goals as goal

pub returns : goal.returns
returns c =
    drawn_is (program_tree c.args.program.now) c.args.principals.now c.args.code.now _ _ _ c.args.run.now.rows.items
    c.args.run.now.senders c.args.running.now (world_of c.args.world.now) (chart_sheet_shape c.in_ok-sheet.sheet) _ _
    (ap (map statement_text_shape) c.deref.ensures.value ∙ c.in_ok-texts.ensures)
    (c.deref-2.ensures.value ∙ c.in_ok-lines.ensures) c.deref-3.ensures.value c.in_ok-sheet.ensures
    c.new-text.ensures.bytes c.in_ok-push_chart.ensures
