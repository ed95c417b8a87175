use Rattle.std.proofs.Common.{codes}
use Rattle.std.specs.Fmt.{decimal}
use Rattle.front_end.proofs.StepCounts.{where_none}
use Rattle.node_engine.proofs.Askings.{all_given, no_source, no_turns, no_value}
use Rattle.node_engine.proofs.options.asked_by.Goals as goal

pub returns-in_err-hosts-clause-none : goal.returns-in_err-hosts-clause-none
returns-in_err-hosts-clause-none c = λ words has. where_none _ _
    (no_value words c.args.matches.now (codes "hosts") (λ a. a.hosts) has (λ a is. is.hosts) c.in_err-hosts.ensures)

pub returns-in_err-host-clause-none : goal.returns-in_err-host-clause-none
returns-in_err-host-clause-none c = λ words has. where_none _ _
    (no_value words c.args.matches.now (codes "host") (λ a. a.host) has (λ a is. is.host) c.in_err-host.ensures)

pub returns-in_err-start-clause-none : goal.returns-in_err-start-clause-none
returns-in_err-start-clause-none c = λ words has. where_none _ _
    (no_value words c.args.matches.now (codes "start") (λ a. a.start) has (λ a is. is.start) c.in_err-start.ensures)

pub returns-in_err-word-clause-none : goal.returns-in_err-word-clause-none
returns-in_err-word-clause-none c = λ words has. where_none _ _
    (no_value words c.args.matches.now (codes "turns") (λ a. decimal a.turns) has (λ a is. is.turns)
    c.in_err-word.ensures)

pub returns-in_err-turns-clause-none : goal.returns-in_err-turns-clause-none
returns-in_err-turns-clause-none c = λ words has. where_none _ _
    (no_turns words c.args.matches.now c.in_ok-word.word.now has c.in_ok-word.ensures c.in_err-turns.ensures.none)

pub returns-in_err-source-clause-none : goal.returns-in_err-source-clause-none
returns-in_err-source-clause-none c = λ words has. where_none _ _
    (no_source words c.args.matches.now _ _ has c.get_str-5.ensures c.get_str-6.ensures c.in_err-source.ensures.none)

pub returns-clause-found : goal.returns-clause-found
returns-clause-found c = λ words parses has.
    all_given words c.args.matches.now _ c.in_ok-word.word.now _ _ parses has
    c.in_ok-hosts.ensures c.in_ok-host.ensures c.in_ok-start.ensures c.in_ok-word.ensures
    c.in_ok-turns.ensures.found c.in_ok-turns.ensures.count c.get_str-5.ensures c.get_str-6.ensures
    c.in_ok-source.ensures.found c.get_str-seals.ensures
