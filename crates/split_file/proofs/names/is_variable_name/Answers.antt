use Rattle.std.proofs.Common.{sym, ap, drop, ◌∙◌}
use Rattle.split_file.proofs.VariableNames.{variable_tested}
use Rattle.split_file.proofs.names.is_variable_name.Goals as goal

pub returns-then-is_name : goal.returns-then-is_name
returns-then-is_name c =
    variable_tested c.args.text.now c.split_at.result.0.now c.behind_first.result.now c.is_called.result
    c.method_len.result c.method_len.ensures.len c.split_at.ensures.front
    (c.behind_first.ensures ∙ ap (drop 1) c.split_at.ensures.back) (sym c.is_name.ensures ∙ c.if-is_name.true)
    c.is_called.ensures
