use Rattle.std.proofs.Common.{sym, ◌∙◌}
use Rattle.jif_grammar.proofs.Continued.{program_unmarked}
use Rattle.jif_grammar.proofs.Walking.{refused_by_walk, within_by_walk, whole_by_walk}
use Rattle.jif_grammar.proofs.laws.verdict_laws.Goals as goal

pub returns : goal.returns
returns c = record {
  refused = refused_by_walk;
  whole = whole_by_walk;
  accepted = within_by_walk;
  spelled = λ tokens program sound written. record {
    is_program = sound;
    written = written ∙ sym (program_unmarked program);
  };
}
