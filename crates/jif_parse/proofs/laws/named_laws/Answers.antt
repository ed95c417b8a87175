use Rattle.jif_parse.proofs.NamedPrograms.{program_named}
use Rattle.jif_parse.proofs.laws.named_laws.Goals as goal

pub returns-clause-of_text : goal.returns-clause-of_text
returns-clause-of_text c =
    λ text list principals draft program short read is_program resolved.
    program_named list principals draft program (c.token_laws.ensures text list short read) is_program resolved

pub returns-clause-of_tokens : goal.returns-clause-of_tokens
returns-clause-of_tokens c = program_named
