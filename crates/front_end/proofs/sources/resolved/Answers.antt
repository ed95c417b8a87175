use Rattle.jif_resolve.specs.declared.resolve_error.ResolveError.TheVariants as resolve
use Rattle.jif_grammar.specs.DraftShapes.{draft_shape}
use Rattle.jif_resolve.specs.Refusals.{IsRefusedFor}
use Rattle.front_end.specs.Verdicts.{not_resolved}
use Rattle.front_end.proofs.Stages.{refusal_stops}
use Rattle.front_end.proofs.sources.resolved.Goals as goal

pub resolve-requires : goal.resolve-requires
resolve-requires c = c.limit_laws.ensures.kept _ _ c.requires.parsed

pub returns-in-Ok-clause-read : goal.returns-in-Ok-clause-read
returns-in-Ok-clause-read c = record {
  numbered = c.program_laws.ensures.well_numbered _ _ _ c.in-Ok.ensures.found;
  statements = c.program_laws.ensures.statements _ _ _ c.in-Ok.ensures.found;
  sites = c.program_laws.ensures.sites _ _ _ c.in-Ok.ensures.found;
  named = c.named_laws.ensures.of_tokens _ _ _ _ c.requires.tokens c.requires.parsed c.in-Ok.ensures.found;
  within = c.in-Ok.ensures.limits;
}

pub returns-in-Ok-clause-authorities : goal.returns-in-Ok-clause-authorities
returns-in-Ok-clause-authorities c =
    rw (← c.principals.ensures.principals) (c.program_laws.ensures.authorities _ _ _ c.in-Ok.ensures.found)

pub returns-in-Err-clause-resolved : goal.returns-in-Err-clause-resolved
returns-in-Err-clause-resolved c =
    refusal_stops (IsRefusedFor c.args.hosts.now.principals (draft_shape c.args.draft)) resolve.OutOfMemory
    not_resolved c.in-Err.why c.not_resolved.result
    c.stopped.result (rw c.principals.ensures.principals at c.in-Err.ensures.refused)
    c.not_resolved.ensures.refused c.not_resolved.ensures.not_memory c.stopped.ensures
