use Rattle.front_tests.proofs.placed_programs.resolved.Goals as goal

pub returns-clause-authorities : goal.returns-clause-authorities
returns-clause-authorities c = c.program_laws.ensures.authorities _ _ _ c.in_ok-resolve.ensures.found
