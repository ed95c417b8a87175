use Rattle.std.proofs.Common.{ap, arith, codes, List, ℕ, ◌++◌}
use Rattle.std.proofs.lemmas.Fmt.{decimal_digit}
use Rattle.jif_lex.proofs.Spelling.{reads_as_spelled}
use Rattle.jif_lex.proofs.laws.spelled_laws.Goals as goal

pub returns-clause-reads : goal.returns-clause-reads
returns-clause-reads c = reads_as_spelled

pub returns-clause-worked_text : goal.returns-clause-worked_text
returns-clause-worked_text c =
    ap (λ (digits : List ℕ). codes "int x=-" ++ (digits ++ codes ";\n")) (decimal_digit 7 (omega arith))
