use Rattle.std.proofs.Common.{◌∙◌}
use Rattle.std.specs.Prelude.{codes, string_bytes}
use Rattle.label_lattice.proofs.PrintedLemmas.{joined_texts}
use Rattle.explain_texts.proofs.reason_lines.joined.Goals as goal

pub returns : goal.returns
returns c = c.in_ok-join.ensures.ok ∙ joined_texts string_bytes (codes " and ") c.args.names.now
