use Rattle.front_end.proofs.OneFault.{one_fault_place}
use Rattle.front_end.proofs.OnePlaced.{PlaceLaws, places_once}
use Rattle.front_end.proofs.OneSource.{SourceLaws, drafted_once, hosts_once, lexed_once, parsed_once, resolved_once}
use Rattle.front_end.proofs.OneSource.{sources_once}
use Rattle.front_end.proofs.SomePlaced.{PlaceCauses, places_some}
use Rattle.front_end.proofs.SomeSource.{SourceCauses, sources_some}
use Rattle.front_end.proofs.laws.source_laws.Goals as goal

source_laws : (c : goal.After-placement_laws) → SourceLaws
source_laws c = record {
  lexing = c.lex_laws.ensures;
  grammar = record {
    one_draft = c.grammar_laws.ensures.one_draft;
    one_refusal = c.grammar_laws.ensures.one_refusal;
    never_both = c.grammar_laws.ensures.never_both;
  };
  hosts = record {
    one_meaning = c.host_file_laws.ensures.one_meaning;
    one_refusal = c.host_file_laws.ensures.one_refusal;
    never_both = c.host_file_laws.ensures.never_both;
    sound = c.host_file_laws.ensures.sound;
  };
  names = record {
    one_program = c.program_laws.ensures.one_program;
    one_refusal = c.resolve_laws.ensures.one_refusal;
    never_both = c.resolve_laws.ensures.never_both;
  };
  labels = record {
    one_refusal = c.failure_laws.ensures.one_refusal;
    never_both = c.failure_laws.ensures.never_both;
  };
}

place_laws : (c : goal.After-placement_laws) → PlaceLaws
place_laws c = record {
  one_needs = c.need_laws.ensures.one_needs;
  one_plan = c.placement_laws.ensures.one_plan;
  one_refusal = c.place_rule_laws.ensures.one_refusal;
  never_both = c.place_rule_laws.ensures.never_both;
}

-- the first laws of verdicts are those of tokens, the second those of names
source_causes : (c : goal.After-placement_laws) → SourceCauses
source_causes c = record {
  lexing = c.reading_laws.ensures.tokens_or_fault;
  grammar = record {
    refused = c.verdict_laws.ensures.refused;
    whole = c.verdict_laws.ensures.whole;
  };
  hosts = record {
    some = c.host_file_laws.ensures.meaning_or_refusal;
    sound = c.host_file_laws.ensures.sound;
  };
  names = c.verdict_laws-2.ensures.program_or_refusal;
  labels = c.failure_laws.ensures.accepted_or_refused;
}

place_causes : (c : goal.After-placement_laws) → PlaceCauses
place_causes c = record {
  some_needs = c.need_laws.ensures.some_needs;
  allowed_or_refused = c.place_rule_laws.ensures.allowed_or_refused;
  some_plan = c.placement_laws.ensures.some_plan;
}

pub returns-clause-one_source : goal.returns-clause-one_source
returns-clause-one_source c = sources_once (source_laws c)

pub returns-clause-some_source : goal.returns-clause-some_source
returns-clause-some_source c = sources_some (source_causes c)

pub returns-clause-some_plan : goal.returns-clause-some_plan
returns-clause-some_plan c = places_some (source_causes c) (place_causes c)

pub returns-clause-one_draft : goal.returns-clause-one_draft
returns-clause-one_draft c = drafted_once (source_laws c)

pub returns-clause-one_tokens : goal.returns-clause-one_tokens
returns-clause-one_tokens c = lexed_once (source_laws c).lexing

pub returns-clause-one_parse : goal.returns-clause-one_parse
returns-clause-one_parse c = parsed_once (source_laws c).grammar

pub returns-clause-one_program : goal.returns-clause-one_program
returns-clause-one_program c = λ file draft first second declared one two.
    resolved_once (source_laws c).names file draft declared first second one two

pub returns-clause-one_hosts : goal.returns-clause-one_hosts
returns-clause-one_hosts c = hosts_once (source_laws c).hosts

pub returns-clause-one_plan : goal.returns-clause-one_plan
returns-clause-one_plan c = places_once (source_laws c) (place_laws c)

pub returns-clause-one_fault : goal.returns-clause-one_fault
returns-clause-one_fault c = one_fault_place
