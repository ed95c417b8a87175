use Rattle.jif_parse.specs.declared.parse_error.ParseError.TheVariants as parse
use Rattle.jif_parse.specs.Parsing.{IsRefusedBy}
use Rattle.front_end.specs.Verdicts.{not_parsed}
use Rattle.front_end.proofs.Stages.{refusal_stops}
use Rattle.front_end.proofs.sources.parsed.Goals as goal

pub returns-in-Err-clause-parsed : goal.returns-in-Err-clause-parsed
returns-in-Err-clause-parsed c =
    refusal_stops (IsRefusedBy c.args.tokens.now) parse.OutOfMemory
    not_parsed c.in-Err.why c.not_parsed.result c.stopped.result
    c.in-Err.ensures.refused c.not_parsed.ensures.refused c.not_parsed.ensures.not_memory c.stopped.ensures

pub returns-in-Ok-clause-read : goal.returns-in-Ok-clause-read
returns-in-Ok-clause-read c =
    record { list = c.args.tokens.now; tokens = c.requires; parsed = c.in-Ok.ensures.found }
