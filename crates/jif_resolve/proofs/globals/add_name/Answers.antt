use Rattle.std.proofs.Common.{sym, ◌∙◌}
use Rattle.jif_resolve.specs.GlobalNames.{global_shape}
use Rattle.jif_resolve.proofs.GlobalLists.{first_put, first_kept}
use Rattle.jif_resolve.proofs.globals.add_name.Goals as goal

pub returns-then-not-is_first : goal.returns-then-not-is_first
returns-then-not-is_first c =
    first_kept c.args.first.now.entries (global_shape c.args.declared.now) (sym c.if-not-is_first.ensures)

pub returns : goal.returns
returns c =
    rw c.in_ok-insert.ensures.entries
    (first_put c.args.first.now.entries c.in_ok-text.text (global_shape c.args.declared.now)
    (c.in_ok-text.ensures.ok ∙ c.as_str.ensures.value) (sym c.if-not-is_first.ensures))
